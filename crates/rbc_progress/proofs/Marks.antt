-- The votes that pass the tests of a broadcast, and the roots that hearings name.
use Rattle.std.proofs.Common.{◌≡◌, ℕ, ◌&&◌, ◌==◌, true, List, Contains, Option, None, Some, refl, sym, ap, ◌∙◌}
use Rattle.std.specs.Option.{option_map, option_or, is_some}
use Rattle.std.proofs.lemmas.Bool.{and_parts, eqb-true, eq-eqb}
use Rattle.std.proofs.lemmas.Slice.Eq.{bytes_eq-Decides}
use Rattle.merkle_branch.specs.declared.Branch.{Branch}
use Rattle.hb_wire.specs.declared.vote.Vote.{Vote}
use Rattle.hb_wire.specs.declared.vote.Vote.TheVariants.{Val, Echo, Ready}
use Rattle.hb_rules.specs.BroadcastRows.{named}
use Rattle.hb_rules.specs.Claims.{echoed, readied, are_these, has_root, is_val_to, is_echo, is_any_echo, is_ready, is_any_ready}
use Rattle.hb_rules.specs.Hearing.{Hearing, heard_by}
use Rattle.hb_rules.proofs.Among.{any_stands}
use Rattle.hb_rules.proofs.BroadcastSlots.{readied-is}

-- ---- any vote of a kind

pub record IsVal (e m : ℕ) (vote : Vote) : Type 0 where
  pub root : List ℕ
  pub shard : List ℕ
  pub branch : Branch
  pub is : vote ≡ Val e m root shard branch

pub val-is : (e m : ℕ) (vote : Vote) → is_val_to e m vote ≡ true → IsVal e m vote
val-is e m (Val d target root shard branch) marked =
    let parts = and_parts (d == e) (target == m) marked in
    let epoch : d ≡ e = eqb-true d e parts.0 in
    let to : target ≡ m = eqb-true target m parts.1 in
    record { root = root; shard = shard; branch = branch; is = cc (epoch, to) }
val-is e m vote marked = absurd (cc (marked))

pub record IsEcho (e : ℕ) (vote : Vote) : Type 0 where
  pub root : List ℕ
  pub shard : List ℕ
  pub branch : Branch
  pub is : vote ≡ Echo e root shard branch

pub any_echo-is : (e : ℕ) (vote : Vote) → is_any_echo e vote ≡ true → IsEcho e vote
any_echo-is e (Echo d root shard branch) marked =
    let epoch : d ≡ e = eqb-true d e marked in
    record { root = root; shard = shard; branch = branch; is = cc (epoch) }
any_echo-is e vote marked = absurd (cc (marked))

pub any_ready-is : (e : ℕ) (vote : Vote) → is_any_ready e vote ≡ true → (root : List ℕ) × (vote ≡ Ready e root)
any_ready-is e vote marked = by (readied e vote) refl marked
  where
    by : (o : Option (List ℕ)) → readied e vote ≡ o → is_some o ≡ true → (root : List ℕ) × (vote ≡ Ready e root)
    by None is some = absurd (cc (some))
    by (Some root) is some = (root, readied-is e vote root is)

-- ---- roots

these_are : (bytes : List ℕ) (o : Option (List ℕ)) → are_these bytes o ≡ true → o ≡ Some bytes
these_are bytes None h = absurd (cc (h))
these_are bytes (Some others) h = ap Some (sym ((bytes_eq-Decides bytes others).0 h))

pub ready-is : (e : ℕ) (root : List ℕ) (vote : Vote) → is_ready e root vote ≡ true → vote ≡ Ready e root
ready-is e root vote marked = readied-is e vote root (these_are root (readied e vote) marked)

pub ready-marked : (e : ℕ) (root : List ℕ) → is_ready e root (Ready e root) ≡ true
ready-marked e root =
    let same : (e == e) ≡ true = eq-eqb e e refl in
    rw same ((bytes_eq-Decides root root).1 refl)

-- a hearing that names a root
pub record IsNamed (n e : ℕ) (heard : List Hearing) (root : List ℕ) : Type 0 where
  pub hearing : Hearing
  pub stands : Contains heard hearing
  pub names : named n e hearing ≡ Some root

ready_names : (n e : ℕ) (root : List ℕ) (h : Hearing) → h.vote ≡ Ready e root → named n e h ≡ Some root
ready_names n e root h is =
    let same : (e == e) ≡ true = eq-eqb e e refl in
    ap (λ (vote : Vote). option_or (option_map (λ part. part.0) (echoed n e h.from vote)) (readied e vote)) is ∙ rw same refl

-- who is ready for a root names it
pub ready_named : (n e a : ℕ) (root : List ℕ) (heard : List Hearing) → heard_by heard a (is_ready e root) ≡ true → IsNamed n e heard root
ready_named n e a root heard said =
    let found = any_stands (λ h. (h.from == a) && is_ready e root h.vote) heard said in
    let parts = and_parts (found.0.from == a) (is_ready e root found.0.vote) found.2 in
    record { hearing = found.0; stands = found.1; names = ready_names n e root found.0 (ready-is e root found.0.vote parts.1) }

-- the root and the shard of a valid Echo
pub record IsEchoed (n e : ℕ) (root : List ℕ) (a : ℕ) (vote : Vote) : Type 0 where
  pub shard : List ℕ
  pub is : echoed n e a vote ≡ Some (root, shard)

pub echo-is : (n e : ℕ) (root : List ℕ) (a : ℕ) (vote : Vote) → is_echo n e root a vote ≡ true → IsEchoed n e root a vote
echo-is n e root a vote passes = by (echoed n e a vote) refl passes
  where
    by : (o : Option (List ℕ × List ℕ)) → echoed n e a vote ≡ o → has_root root o ≡ true → IsEchoed n e root a vote
    by None is h = absurd (cc (h))
    by (Some part) is h =
        let same : root ≡ part.0 = (bytes_eq-Decides root part.0).0 h in
        record { shard = part.1; is = is ∙ ap (λ (r : List ℕ). Some (r, part.1)) (sym same) }

-- a hearing with a valid Echo of node a
pub record IsEchoHeard (n e : ℕ) (heard : List Hearing) (root : List ℕ) (a : ℕ) : Type 0 where
  pub hearing : Hearing
  pub stands : Contains heard hearing
  pub from : hearing.from ≡ a
  pub echo : IsEchoed n e root hearing.from hearing.vote

pub echo_heard : (n e a : ℕ) (root : List ℕ) (heard : List Hearing) → heard_by heard a (is_echo n e root a) ≡ true → IsEchoHeard n e heard root a
echo_heard n e a root heard said =
    let found = any_stands (λ h. (h.from == a) && is_echo n e root a h.vote) heard said in
    let parts = and_parts (found.0.from == a) (is_echo n e root a found.0.vote) found.2 in
    let from : found.0.from ≡ a = eqb-true found.0.from a parts.0 in
    record {
      hearing = found.0;
      stands = found.1;
      from = from;
      echo = echo-is n e root found.0.from found.0.vote (ap (λ (b : ℕ). is_echo n e root b found.0.vote) from ∙ parts.1);
    }

-- who has shown a valid Echo for a root names it
pub echo_named : (n e a : ℕ) (root : List ℕ) (heard : List Hearing) → heard_by heard a (is_echo n e root a) ≡ true → IsNamed n e heard root
echo_named n e a root heard said =
    let found = echo_heard n e a root heard said in
    record {
      hearing = found.hearing;
      stands = found.stands;
      names = ap (λ (o : Option (List ℕ × List ℕ)). option_or (option_map (λ part. part.0) o) (readied e found.hearing.vote)) found.echo.is;
    }
