-- Where shards and values stand in the bytes of votes.
use Rattle.std.proofs.Common.{◌≡◌, ℕ, ◌+◌, List, [], ◌∷◌, ◌++◌, Option, Some, None, IfSome, length, take, drop, refl, sym, ◌∙◌, ap, subst, arith, append_assoc, length-append}
use Rattle.std.proofs.lemmas.List.{take_at, drop_at}
use Rattle.std.specs.List.{AllByRecursion}
use Rattle.std.specs.Int.{w32, to_be_bytes}
use Rattle.merkle_branch.specs.declared.Branch.{Branch}
use Rattle.hb_wire.specs.declared.vote.Vote.{Vote}
use Rattle.hb_wire.specs.declared.vote.Vote.TheVariants.{Val, Echo, Delivered, Propose}
use Rattle.hb_wire.specs.Votes.{FieldFits, IsVote, shard_fields, spelling, sized_bytes}
use Rattle.hb_wire.specs.Views.{StandsAt, IsSpelling}

-- what has its length before it stands four bytes further on
behind : (front bytes rest : List ℕ) → StandsAt (length front + 4) bytes (front ++ (sized_bytes bytes ++ rest))
behind front bytes rest = record {
  inside = omega (arith, ap length apart, length-append head (bytes ++ rest), length-append bytes rest, size);
  same = ap (λ whole. take (length bytes) (drop (length front + 4) whole)) apart
      ∙ ap (take (length bytes)) (drop_at head (bytes ++ rest) (length front + 4) size)
      ∙ take_at bytes rest (length bytes) refl;
}
  where
    len : List ℕ
    len = to_be_bytes w32 (length bytes)

    head : List ℕ
    head = front ++ len

    size : length head ≡ length front + 4
    size = length-append front len

    apart : front ++ ((len ++ bytes) ++ rest) ≡ head ++ (bytes ++ rest)
    apart = ap (λ back. front ++ back) (append_assoc len bytes rest) ∙ sym (append_assoc front len (bytes ++ rest))

-- so it is in whatever spells a vote, if there is such a thing
in_some : {X : Type 0} (whole : Option X) (bytes_of : X → List ℕ) (vote : Vote) (bytes : List ℕ) (at : ℕ)
    → ((n version : ℕ) → IsVote n version vote → StandsAt at bytes (spelling vote)) → IfSome whole (λ w. IsSpelling vote (bytes_of w))
    → IfSome whole (λ w. StandsAt at bytes (bytes_of w))
in_some (Some w) bytes_of vote bytes at stands spelled =
    subst (StandsAt at bytes) (sym spelled.2.spelled) (stands spelled.0 spelled.1 spelled.2.fits)
in_some None bytes_of vote bytes at stands spelled = tt

-- a root has the length of a digest
size_of : (n : ℕ) (root shard : List ℕ) (branch : Branch) → AllByRecursion (FieldFits n) (shard_fields root shard branch) → length root ≡ 32
size_of n root shard branch fit = fit.0

module _ {X : Type 0} (whole : Option X) (bytes_of : X → List ℕ) where
  pub val_shard : (epoch target : ℕ) (root shard : List ℕ) (branch : Branch)
      → IfSome whole (λ w. IsSpelling (Val epoch target root shard branch) (bytes_of w)) → IfSome whole (λ w. StandsAt 39 shard (bytes_of w))
  val_shard epoch target root shard branch =
      in_some whole bytes_of (Val epoch target root shard branch) shard 39 (λ n version is.
      subst (λ at. StandsAt at shard (spelling (Val epoch target root shard branch))) (omega (arith, size_of n root shard branch is.fields.1))
      (behind (1 ∷ epoch ∷ target ∷ root) shard _))

  pub echo_shard : (epoch : ℕ) (root shard : List ℕ) (branch : Branch)
      → IfSome whole (λ w. IsSpelling (Echo epoch root shard branch) (bytes_of w)) → IfSome whole (λ w. StandsAt 38 shard (bytes_of w))
  echo_shard epoch root shard branch =
      in_some whole bytes_of (Echo epoch root shard branch) shard 38 (λ n version is.
      subst (λ at. StandsAt at shard (spelling (Echo epoch root shard branch))) (omega (arith, size_of n root shard branch is.fields))
      (behind (2 ∷ epoch ∷ root) shard _))

  pub delivered_value : (epoch : ℕ) (value : List ℕ)
      → IfSome whole (λ w. IsSpelling (Delivered epoch value) (bytes_of w)) → IfSome whole (λ w. StandsAt 6 value (bytes_of w))
  delivered_value epoch value = in_some whole bytes_of (Delivered epoch value) value 6 (λ n version is. behind (4 ∷ epoch ∷ []) value [])

  pub proposed_value : (epoch : ℕ) (value : List ℕ)
      → IfSome whole (λ w. IsSpelling (Propose epoch value) (bytes_of w)) → IfSome whole (λ w. StandsAt 6 value (bytes_of w))
  proposed_value epoch value = in_some whole bytes_of (Propose epoch value) value 6 (λ n version is. behind (16 ∷ epoch ∷ []) value [])
