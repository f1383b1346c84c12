-- The votes that liars make up are within the bounds of votes.
use Rattle.std.proofs.Common.{◌≡◌, ◌<◌, ◌≤◌, ℕ, zero, suc, List, length, replicate, refl, arith}
use Rattle.std.proofs.lemmas.List.Elements.{All-replicate}
use Rattle.hb_base.specs.ByteLists.{AreBytes}
use Rattle.hb_base.specs.Limits.{most_epochs, most_rounds, longest_shard, latest_version}
use Rattle.merkle_branch.specs.declared.Branch.{Branch}
use Rattle.merkle_branch.specs.Digests.{no_digest, height, IsDigest}
use Rattle.merkle_branch.specs.Branches.{IsPath}
use Rattle.hb_wire.specs.declared.vote.Vote.TheVariants.{Val, Coin}
use Rattle.hb_wire.specs.Votes.{IsVote}

zero_digest : IsDigest no_digest
zero_digest = record { len = refl; bytes = All-replicate (λ byte. byte < 256) 32 0 (omega arith) }

-- a branch of zero bytes
abbrev pub zeros : ℕ → Branch
zeros h = record { len = h; digests = replicate 4 no_digest }

zero_path : (n h : ℕ) → h ≡ height n → h ≤ 4 → IsPath n (zeros h)
zero_path n zero is small = record { len = is; padded = record { len = small; entries = refl; rest = refl }; digests = tt }
zero_path n (suc zero) is small = record { len = is; padded = record { len = small; entries = refl; rest = refl }; digests = (zero_digest, tt) }
zero_path n (suc (suc zero)) is small = record { len = is; padded = record { len = small; entries = refl; rest = refl }; digests = (zero_digest, (zero_digest, tt)) }
zero_path n (suc (suc (suc zero))) is small = record { len = is; padded = record { len = small; entries = refl; rest = refl }; digests = (zero_digest, (zero_digest, (zero_digest, tt))) }
zero_path n (suc (suc (suc (suc zero)))) is small = record { len = is; padded = record { len = small; entries = refl; rest = refl }; digests = (zero_digest, (zero_digest, (zero_digest, (zero_digest, tt)))) }
zero_path n (suc (suc (suc (suc (suc h))))) is small = absurd (omega (arith, small))

pub false_coin : (n version epoch round h : ℕ) → 1 ≤ version → version ≤ latest_version → epoch < most_epochs → round < most_rounds
    → h ≡ height n → h ≤ 4 → IsVote n version (Coin epoch round 0 (replicate 16 0) (zeros h))
false_coin n version epoch round h begun built early low is small = record {
  begun = begun;
  built = built;
  epoch = early;
  fields = (low, (omega arith, (refl, (zero_path n h is small, tt))));
}

pub sent_val : (n version epoch target : ℕ) (root shard : List ℕ) (branch : Branch) → 1 ≤ version → version ≤ latest_version → epoch < most_epochs
    → target < n → length root ≡ 32 → 1 ≤ length shard → length shard ≤ longest_shard → AreBytes shard → IsPath n branch
    → IsVote n version (Val epoch target root shard branch)
sent_val n version epoch target root shard branch begun built early low digest some short bytes path = record {
  begun = begun;
  built = built;
  epoch = early;
  fields = (low, (digest, ((some, short, bytes), (path, tt))));
}
