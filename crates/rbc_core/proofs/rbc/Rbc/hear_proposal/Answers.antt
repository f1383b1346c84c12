use Rattle.std.proofs.Common.{◌≡◌, ◌∙◌, ◌++◌, ◌||◌, nat_lt, length, ap, List, ℕ, arith}
use Rattle.hb_base.specs.Numbers.{Numbers}
use Rattle.hb_base.specs.NodeSet.{is_in}
use Rattle.hb_wire.specs.declared.vote.Vote.{Vote}
use Rattle.rs_shards.specs.Completing.{encoded}
use Rattle.hb_rules.specs.Code.{data_count}
use Rattle.rbc_core.specs.Due.{missing_vals}
use Rattle.rbc_core.proofs.Unheeded.{unheeded_proposal}
use Rattle.rbc_core.proofs.Vals.{Hears-proposal}
use Rattle.rbc_core.proofs.rbc.Rbc.hear_proposal.Goals as goal
use Rattle.rbc_core.proofs.rbc.Rbc.hear_proposal.Goals.{then-from-self-via-then-from-self, then-from-self-via-else-from-self+then-self}

pub returns-then-from-self-clause-ok : goal.returns-then-from-self-clause-ok
returns-then-from-self-clause-ok c =
    rw (← c.self.view_is) (unheeded_proposal _ c.args.from c.self.inside.epoch c.args.value.now c.args.due.now.votes
    (rw (← c.self.view_is) at c.requires.from)
    (λ epoch from lane. elim c.then-from-self.branch [
      | then-from-self-via-then-from-self w ↦ w.if-from-self.true from
      | then-from-self-via-else-from-self+then-self w ↦ w.if-self.true lane
    ]))

pub returns-clause-room : goal.returns-clause-room
returns-clause-room c =
    let n : c.n-n.result ≡ c.self.inside.roots.config.n = c.n-n.ensures.value ∙ ap (λ (v : Numbers). v.n) c.config.ensures in
    let count : length c.in_ok-shards.shards.items ≡ c.self.inside.roots.config.n = c.in_ok-shards.ensures.encoding.codeword.count ∙ n in
    rw (← c.self.view_is) (omega (arith, c.reserve.ensures.no_less, c.push_vals.ensures.room, count))

pub returns-clause-ok : goal.returns-clause-ok
returns-clause-ok c =
    let config = c.self.inside.roots.config in
    let n : c.n-n.result ≡ config.n = c.n-n.ensures.value ∙ ap (λ (v : Numbers). v.n) c.config.ensures in
    let k : c.k-k.result ≡ data_count config = c.k-k.ensures.value ∙ ap (λ (v : Numbers). data_count v) c.config-2.ensures in
    let shards : c.in_ok-shards.shards.items ≡ encoded config.n (data_count config) c.args.value.now =
    c.in_ok-shards.ensures.encoded ∙ ap (λ (v : List ℕ). encoded c.n-n.result c.k-k.result v) c.as_slice.ensures
    ∙ ap (λ (m : ℕ). encoded m c.k-k.result c.args.value.now) n ∙ ap (λ (m : ℕ). encoded config.n m c.args.value.now) k in
    let count : length c.in_ok-shards.shards.items ≡ config.n = c.in_ok-shards.ensures.encoding.codeword.count ∙ n in
    rw (← c.self.view_is, c.if-from-self.false) (Hears-proposal _ c.add_below.new.nodes c.args.value.now c.args.due.now.votes c.push_vals.new.due.votes
    c.if-self.false c.self.invariant
    (λ m. c.add_below.ensures m ∙ ap (λ (n : ℕ). nat_lt m n || is_in c.self.inside.vals m) n)
    (c.push_vals.ensures.votes
    ∙ ap (λ (votes : List Vote). votes ++ missing_vals c.self.inside.epoch c.in_ok-shards.shards.items c.self.inside.vals (length c.in_ok-shards.shards.items)) c.reserve.ensures.votes
    ∙ ap (λ (m : ℕ). c.args.due.now.votes ++ missing_vals c.self.inside.epoch c.in_ok-shards.shards.items c.self.inside.vals m) count
    ∙ ap (λ (xs : List (List ℕ)). c.args.due.now.votes ++ missing_vals c.self.inside.epoch xs c.self.inside.vals config.n) shards))
