-- A correct desk closes epochs of the run alone.
use Rattle.std.proofs.Common.{◌≡◌, ℕ, ◌<◌, ◌==◌, ◌&&◌, Bool, true, false, inl, inr, List, Contains, None, nat_lt, subst, ap, sym, ◌∙◌, arith}
use Rattle.std.proofs.lemmas.Bool.{and_parts, ltb-true}
use Rattle.hb_base.specs.NodeSet.{is_in}
use Rattle.hb_base.specs.Numbers.{Numbers, AreSound}
use Rattle.hb_wire.specs.declared.items.Item.{Item}
use Rattle.hb_wire.specs.declared.vote.Vote.{Vote}
use Rattle.hb_wire.specs.declared.vote.Vote.TheVariants.{Decided, Closed}
use Rattle.hb_wire.specs.declared.post.Post.{Post}
use Rattle.hb_rules.specs.Claims.{is_decision}
use Rattle.hb_rules.specs.Desk.{IsAccepted}
use Rattle.hb_rules.specs.Hearing.{Hearing, heard_in, heard_by, own_in, is_within, is_below}
use Rattle.hb_rules.specs.History.{IsLegal}
use Rattle.hb_rules.proofs.Among.{any_stands}
use Rattle.hb_rules.proofs.Cast.{heard_from, was_allowed}
use Rattle.hb_rules.proofs.DeskVotes.{decision-is}

-- a decision that a desk has heard is of an epoch of the run
decided_inside : (c : Numbers) (history : List Post) (i j e : ℕ) (b : Bool)
    → heard_by (heard_in c i c.n history) j (is_decision e b) ≡ true → e < c.epochs
decided_inside c history i j e b h =
    let found = any_stands (λ (g : Hearing). (g.from == j) && is_decision e b g.vote) (heard_in c i c.n history) h in
    let parts = and_parts (found.0.from == j) (is_decision e b found.0.vote) found.2 in
    let source = heard_from c i c.n history found.0 found.1 in
    let vote : source.2.vote ≡ Decided e b =
    ap (λ (g : Hearing). g.vote) source.2.hearing_is ∙ decision-is e b found.0.vote parts.1 in
    let within : (nat_lt e c.epochs && is_below c.rounds None) ≡ true = ap (is_within c) (sym vote) ∙ source.2.within in
    ltb-true e c.epochs (and_parts (nat_lt e c.epochs) (is_below c.rounds None) within).0

-- and a desk closes an epoch in which its lanes have decided
pub closing_inside : (c : Numbers) (history : List Post) (i e : ℕ) (list : List Item) → AreSound c → IsLegal c history
    → is_in c.liars i ≡ false → Contains (own_in c i c.n history) (Closed e list) → e < c.epochs
closing_inside c history i e list sound legal correct stands =
    let was = was_allowed c i c.n correct history legal (Closed e list) stands in
    elim was.may [
      | inl may ↦ absurd (omega (arith, may.0))
      | inr may ↦
          let accepted = may.1.1 in
          decided_inside c was.before i 0 e (accepted.bits 0) (accepted.decided 0 (omega (arith, sound.nodes.0)))
    ]
