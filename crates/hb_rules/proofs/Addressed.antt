-- Legal histories, one post after another: what posts of correct nodes spell, and where they go.
use Rattle.std.proofs.Common.{◌≡◌, false, inl, inr, List, [], ◌∷◌, ◌++◌, Contains, ap, sym, ◌∙◌, arith, append_assoc, append-nil, length-append}
use Rattle.std.proofs.lemmas.List.Elements.{Contains-push_cases}
use Rattle.hb_base.specs.Numbers.{Numbers}
use Rattle.hb_base.specs.NodeSet.{is_in}
use Rattle.hb_wire.specs.declared.vote.Vote.{Vote}
use Rattle.hb_wire.specs.declared.post.Post.{Post}
use Rattle.hb_wire.specs.Votes.{address_of, Spells}
use Rattle.hb_rules.specs.History.{MayFollow, AreLegalAfter, IsLegal}

induction_after : (c : Numbers) (P : List Post → Type 0)
    → ((history : List Post) (post : Post) → P history → MayFollow c history post → P (history ++ post ∷ []))
    → (before posts : List Post) → P before → AreLegalAfter c before posts → P (before ++ posts)
induction_after c P step before [] holds legal = rw append-nil holds
induction_after c P step before (post ∷ posts) holds legal =
    rw append_assoc at (induction_after c P step (before ++ post ∷ []) posts (step before post holds legal.0) legal.1)

-- what holds of no post, and is kept by each post that may follow, holds of each legal history
pub legal_induction : (c : Numbers) (P : List Post → Type 0) → P []
    → ((history : List Post) (post : Post) → P history → MayFollow c history post → P (history ++ post ∷ []))
    → (history : List Post) → IsLegal c history → P history
legal_induction c P none step history legal = induction_after c P step [] history none legal.each

front_legal : (c : Numbers) (before posts later : List Post) → AreLegalAfter c before (posts ++ later) → AreLegalAfter c before posts
front_legal c before [] later legal = tt
front_legal c before (post ∷ posts) later legal = (legal.0, front_legal c (before ++ post ∷ []) posts later legal.1)

-- the posts at the front of a legal history are one
pub IsLegal-front : (c : Numbers) (history later : List Post) → IsLegal c (history ++ later) → IsLegal c history
IsLegal-front c history later legal = record {
  short = omega (arith, legal.short, length-append history later);
  each = front_legal c [] history later legal.each;
}

-- a post spells a vote, and goes where the vote goes
pub record IsAddressed (c : Numbers) (post : Post) : Type 0 where
  pub vote : Vote
  pub spells : Spells c.n c.version post.bytes vote
  pub address : post.to ≡ address_of vote

-- the posts of correct nodes do
pub record AreAddressed (c : Numbers) (history : List Post) : Type 0 where
  pub each : (post : Post) → Contains history post → is_in c.liars post.from ≡ false → IsAddressed c post

AreAddressed-nil : (c : Numbers) → AreAddressed c []
AreAddressed-nil c = record { each = λ post stands correct. absurd (omega (arith, stands.1)) }

AreAddressed-push : (c : Numbers) (history : List Post) (post : Post) → AreAddressed c history → MayFollow c history post
    → AreAddressed c (history ++ post ∷ [])
AreAddressed-push c history post addressed follows = record { each = each }
  where
    each : (p : Post) → Contains (history ++ post ∷ []) p → is_in c.liars p.from ≡ false → IsAddressed c p
    each p stands correct = elim (Contains-push_cases history post p stands) [
      | inl before ↦ addressed.each p before correct
      | inr is ↦
          let right = follows.correct (ap (λ (q : Post). is_in c.liars q.from) is ∙ correct) in
          rw (sym is) (record { vote = right.vote; spells = right.spells; address = right.address })
    ]

-- each step of this induction has that the posts before it are addressed
pub addressed_induction : (c : Numbers) (P : List Post → Type 0) → P []
    → ((history : List Post) (post : Post) → AreAddressed c history → P history → MayFollow c history post → P (history ++ post ∷ []))
    → (history : List Post) → IsLegal c history → P history
addressed_induction c P none step history legal = (legal_induction c (λ history. AreAddressed c history × P history) (AreAddressed-nil c, none)
    (λ history post holds follows. (AreAddressed-push c history post holds.0 follows, step history post holds.0 holds.1 follows)) history legal).1

pub legal_addressed : (c : Numbers) (history : List Post) → IsLegal c history → AreAddressed c history
legal_addressed c history legal =
    legal_induction c (AreAddressed c) (AreAddressed-nil c) (λ history post addressed follows. AreAddressed-push c history post addressed follows)
    history legal
