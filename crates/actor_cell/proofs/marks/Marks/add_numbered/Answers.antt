use Rattle.std.proofs.Common.{◌≡◌, ℕ, ◌<◌, ◌==◌, ◌&&◌, ◌||◌, Bool, true, nat_lt, le-ltb, sym, ap, ap₂, ◌∙◌, arith}
use Rattle.std.proofs.lemmas.Bool.{lt-ltb, eqb-true}
use Rattle.actor_cell.specs.Marks.{is_marked}
use Rattle.actor_cell.proofs.Marking.{below_or_at, one_noted, none_noted, and_true, and_false}
use Rattle.actor_cell.proofs.marks.Marks.add_numbered.Goals as goal
use Rattle.actor_cell.proofs.marks.Marks.add_numbered.Goals.{then-has, else-has}

pub loop-node-init : goal.loop-node-init
loop-node-init c i x =
    let a = x == c.args.actor in
    sym (ap (λ (b : Bool). ((a && b) && is_marked c.args.other.now i x) || is_marked c.args.self.now i x) (le-ltb i 0 (omega arith))
    ∙ ap (λ (b : Bool). (b && is_marked c.args.other.now i x) || is_marked c.args.self.now i x) (and_false a))

pub loop-node-preserved : goal.loop-node-preserved
loop-node-preserved c i x =
    let k = c.loop-node.node in
    let a = x == c.args.actor in
    let o = is_marked c.args.other.now i x in
    let was = is_marked c.args.self.now i x in
    let more = ap (λ (b : Bool). ((a && b) && o) || was) (sym (below_or_at i k)) in
    let has : (i == k) ≡ true → (x == c.args.actor) ≡ true → o ≡ c.has.result =
    λ here same. ap₂ (λ (j y : ℕ). is_marked c.args.other.now j y) (eqb-true i k here) (eqb-true x c.args.actor same) ∙ sym c.has.ensures in
    elim c.if-has.branch [
      | then-has w ↦
          ap (λ (marks : _). is_marked marks i x) w.self-is
          ∙ w.note.ensures i x
          ∙ ap (λ (b : Bool). ((i == k) && a) || b) (c.loop-node.invariant i x)
          ∙ one_noted (i == k) a (nat_lt i k) o was (λ here same. has here same ∙ w.if-has.true)
          ∙ more
      | else-has w ↦
          ap (λ (marks : _). is_marked marks i x) w.self-is
          ∙ c.loop-node.invariant i x
          ∙ none_noted (i == k) a (nat_lt i k) o was (λ here same. has here same ∙ w.if-has.false)
          ∙ more
    ]

pub returns : goal.returns
returns c i x few =
    let below : i < c.loop-node.node = omega (arith, few, c.loop-node-test.false) in
    let a = x == c.args.actor in
    c.loop-node.invariant i x
    ∙ ap (λ (b : Bool). ((a && b) && is_marked c.args.other.now i x) || is_marked c.args.self.now i x) (lt-ltb i c.loop-node.node below)
    ∙ ap (λ (b : Bool). (b && is_marked c.args.other.now i x) || is_marked c.args.self.now i x) (and_true a)
