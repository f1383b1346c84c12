-- Votes that an actor casts once.
use Rattle.std.proofs.Common.{◌≡◌, ℕ, Bool, true, false, inl, inr, List, [], ◌∷◌, ◌++◌, Contains, arith}
use Rattle.std.specs.List.{list_any}
use Rattle.hb_base.specs.Numbers.{Numbers}
use Rattle.hb_base.specs.NodeSet.{is_in}
use Rattle.hb_wire.specs.declared.vote.Vote.{Vote}
use Rattle.hb_wire.specs.declared.post.Post.{Post}
use Rattle.hb_rules.specs.Hearing.{Hearing, heard_in, own_in}
use Rattle.hb_rules.specs.Rules.{MayCast}
use Rattle.hb_rules.specs.History.{MayFollow, IsLegal}
use Rattle.hb_rules.proofs.Lists.{list_any-from}
use Rattle.hb_rules.proofs.Addressed.{legal_induction}
use Rattle.hb_rules.proofs.Cast.{IsNew, newly_cast}

-- a vote with the mark may be cast only where none is
pub record IsOnce (c : Numbers) (mark : Vote → Bool) : Type 0 where
  pub first : (i x : ℕ) (own : List Vote) (heard : List Hearing) (vote : Vote) → mark vote ≡ true → MayCast c i x own heard vote
      → list_any mark own ≡ false

-- all votes of an actor with the mark are one
record IsOne (c : Numbers) (mark : Vote → Bool) (i x : ℕ) (history : List Post) : Type 0 where
  one : (v w : Vote) → Contains (own_in c i x history) v → Contains (own_in c i x history) w → mark v ≡ true → mark w ≡ true → v ≡ w

not_first : (c : Numbers) (mark : Vote → Bool) → IsOnce c mark → (i x : ℕ) (history : List Post) (post : Post) (v w : Vote)
    → Contains (own_in c i x history) v → IsNew c i x history post w → mark v ≡ true → mark w ≡ true → ⊥
not_first c mark once i x history post v w before new marked also =
    let some : list_any mark (own_in c i x history) ≡ true = list_any-from mark (own_in c i x history) v before marked in
    let none : list_any mark (own_in c i x history) ≡ false = once.first i x (own_in c i x history) (heard_in c i x history) w also new.may in
    cc (some, none)

IsOne-push : (c : Numbers) (mark : Vote → Bool) → IsOnce c mark → (i x : ℕ) → is_in c.liars i ≡ false → (history : List Post) (post : Post)
    → IsOne c mark i x history → MayFollow c history post
    → IsOne c mark i x (history ++ post ∷ [])
IsOne-push c mark once i x correct history post holds follows = record {
  one = λ v w first second marked also.
      elim (newly_cast c i x history post v correct follows first) [
        | inl before ↦ elim (newly_cast c i x history post w correct follows second) [
          | inl too ↦ holds.one v w before too marked also
          | inr new ↦ absurd (not_first c mark once i x history post v w before new marked also)
        ]
        | inr new ↦ elim (newly_cast c i x history post w correct follows second) [
          | inl before ↦ absurd (not_first c mark once i x history post w v before new also marked)
          | inr too ↦ cc (new.is, too.is)
        ]
      ];
}

pub cast_once : (c : Numbers) (mark : Vote → Bool) → IsOnce c mark → (i x : ℕ) → is_in c.liars i ≡ false → (history : List Post) → IsLegal c history
    → (v w : Vote) → Contains (own_in c i x history) v → Contains (own_in c i x history) w → mark v ≡ true → mark w ≡ true → v ≡ w
cast_once c mark once i x correct history legal =
    (legal_induction c (IsOne c mark i x) (record { one = λ v w first second marked also. absurd (omega (arith, first.1)) })
    (λ before post holds follows. IsOne-push c mark once i x correct before post holds follows) history legal).one
