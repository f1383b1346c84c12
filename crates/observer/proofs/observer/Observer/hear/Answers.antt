use Rattle.std.proofs.Common.{◌≡◌, ◌≤◌, ◌||◌, ◌==◌, ◌++◌, ◌∷◌, Bool, true, false, List, [], Some, if◌then◌else◌, refl, sym, ap, ◌∙◌, subst}
use Rattle.hb_base.specs.Numbers.{AreSound}
use Rattle.hb_base.specs.Limits.{most_nodes}
use Rattle.hb_base.specs.NodeSet.{is_in}
use Rattle.hb_wire.specs.declared.post.Post.{Post}
use Rattle.acs_world.specs.Closed.{Closure}
use Rattle.observer.specs.Claims.{nodes_at}
use Rattle.observer.specs.Observed.{claim_of}
use Rattle.observer.specs.Standing.{ObserverView, IsSoundView}
use Rattle.observer.specs.declared.observer.Heard.TheVariants.{Nothing, Counted}
use Rattle.observer.proofs.Taken.{heard_nothing, node_known, node_new, no_claim, counted_self}
use Rattle.observer.proofs.Theorems.{state_agrees}
use Rattle.observer.proofs.observer.Observer.hear.Goals as goal

pub returns-in_default-clause-heard : goal.returns-in_default-clause-heard
returns-in_default-clause-heard c =
    rw (← c.self.view_is) (λ heard has.
    heard_nothing _ heard c.args.post.now has (no_claim c.self.inside.config heard c.args.post.now c.in_default.ensures.none))

pub returns-then-has-clause-heard : goal.returns-then-has-clause-heard
returns-then-has-clause-heard c =
    let claim : Closure = (c.in-Some.epoch, c.in-Some.ensures.some.0) in
    let among : is_in (nodes_at c.self.inside.claims c.args.post.now.bytes) c.args.post.now.from ≡ true =
    ap (λ (set : List Bool). is_in set c.args.post.now.from) (sym (rw c.as_bytes-bytes.ensures at c.nodes-nodes.ensures)) ∙ sym c.has.ensures ∙ c.if-has.true in
    rw (← c.self.view_is) (λ heard has.
    heard_nothing _ heard c.args.post.now has (node_known _ heard c.args.post.now claim has c.in-Some.ensures.some.1 among))

pub returns-then-has-clause-exact : goal.returns-then-has-clause-exact
returns-then-has-clause-exact c =
    let claim : Closure = (c.in-Some.epoch, c.in-Some.ensures.some.0) in
    let among : is_in (nodes_at c.self.inside.claims c.args.post.now.bytes) c.args.post.now.from ≡ true =
    ap (λ (set : List Bool). is_in set c.args.post.now.from) (sym (rw c.as_bytes-bytes.ensures at c.nodes-nodes.ensures)) ∙ sym c.has.ensures ∙ c.if-has.true in
    rw (← c.self.view_is) (λ heard has.
    ap (λ (b : Bool). if b then Counted else Nothing) (sym (node_known _ heard c.args.post.now claim has c.in-Some.ensures.some.1 among)))

pub returns-clause-heard : goal.returns-clause-heard
returns-clause-heard c =
    let o : ObserverView = c.args.self.now in
    let post : Post = c.args.post.now in
    let claim : Closure = (c.in-Some.epoch, c.in-Some.ensures.some.0) in
    let missing : is_in (nodes_at c.self.inside.claims post.bytes) post.from ≡ false =
    ap (λ (set : List Bool). is_in set post.from) (sym (rw c.as_bytes-bytes.ensures at c.nodes-nodes.ensures)) ∙ sym c.has.ensures ∙ c.if-has.false in
    let nodes : c.nodes-nodes.result ≡ nodes_at o.claims post.bytes =
    (rw c.as_bytes-bytes.ensures at c.nodes-nodes.ensures) ∙ ap (λ (x : ObserverView). nodes_at x.claims post.bytes) c.self.view_is in
    λ heard has.
    counted_self o c.count.new.self heard post claim c.add.new.self
    (subst (λ (x : ObserverView). x.config.n ≤ most_nodes) c.self.view_is c.liars-sound.ensures.sound.nodes.1)
    (subst IsSoundView c.self.view_is c.self.invariant) has
    (record {
      claims = subst (λ (x : ObserverView). claim_of x.config post ≡ Some claim) c.self.view_is c.in-Some.ensures.some.1;
      new = subst (λ (x : ObserverView). is_in (nodes_at x.claims post.bytes) post.from ≡ false) c.self.view_is missing;
      more = λ a. c.add.ensures.members a ∙ ap (λ (set : List Bool). (a == post.from) || is_in set a) nodes;
    }) c.in_ok-count.ensures.config (rw c.as_bytes-bytes.ensures at c.in_ok-count.ensures.claims) (rw c.as_bytes-bytes.ensures at c.in_ok-count.ensures.taken)

pub returns-clause-exact : goal.returns-clause-exact
returns-clause-exact c =
    let claim : Closure = (c.in-Some.epoch, c.in-Some.ensures.some.0) in
    let missing : is_in (nodes_at c.self.inside.claims c.args.post.now.bytes) c.args.post.now.from ≡ false =
    ap (λ (set : List Bool). is_in set c.args.post.now.from) (sym (rw c.as_bytes-bytes.ensures at c.nodes-nodes.ensures)) ∙ sym c.has.ensures ∙ c.if-has.false in
    rw (← c.self.view_is) (λ heard has.
    ap (λ (b : Bool). if b then Counted else Nothing) (sym (node_new _ heard c.args.post.now claim has c.in-Some.ensures.some.1 missing)))

pub returns-in_default-clause-agrees : goal.returns-in_default-clause-agrees
returns-in_default-clause-agrees c =
    let o : ObserverView = c.args.self.now in
    λ heard history has.
    state_agrees o o (heard ++ c.args.post.now ∷ []) history (subst (λ (x : ObserverView). AreSound x.config) c.self.view_is c.liars-sound.ensures.sound)
    refl (returns-in_default-clause-heard c heard has)

pub returns-then-has-clause-agrees : goal.returns-then-has-clause-agrees
returns-then-has-clause-agrees c =
    let o : ObserverView = c.args.self.now in
    λ heard history has.
    state_agrees o o (heard ++ c.args.post.now ∷ []) history (subst (λ (x : ObserverView). AreSound x.config) c.self.view_is c.liars-sound.ensures.sound)
    refl (returns-then-has-clause-heard c heard has)

pub returns-clause-agrees : goal.returns-clause-agrees
returns-clause-agrees c =
    let o : ObserverView = c.args.self.now in
    λ heard history has.
    state_agrees o c.count.new.self (heard ++ c.args.post.now ∷ []) history
    (subst (λ (x : ObserverView). AreSound x.config) c.self.view_is c.liars-sound.ensures.sound)
    c.in_ok-count.ensures.config (returns-clause-heard c heard has)
