-- What one more hearing changes of who has shown what.
use Rattle.std.proofs.Common.{◌≡◌, ℕ, Bool, true, false, ◌&&◌, ◌||◌, ◌==◌, List, [], ◌∷◌, ◌++◌, Option, None, Some, if◌then◌else◌, take, refl, ap, ◌∙◌, subst, bytes_eq}
use Rattle.std.specs.List.{filter_map}
use Rattle.std.specs.Option.{option_map, option_or, option_and_then}
use Rattle.std.proofs.Math.Bool.{or-false}
use Rattle.std.proofs.lemmas.Bool.{eqb-true, false_from_ne_true}
use Rattle.std.proofs.lemmas.List.Elements.{filter_map-append}
use Rattle.std.proofs.lemmas.List.Folds.{list_any-append}
use Rattle.std.proofs.lemmas.List.Sums.{fold-append}
use Rattle.std.proofs.lemmas.Slice.Eq.{bytes_eq-Decides}
use Rattle.hb_base.specs.Numbers.{Numbers}
use Rattle.hb_wire.specs.declared.vote.Vote.{Vote}
use Rattle.hb_wire.specs.declared.vote.Vote.TheVariants.{Echo}
use Rattle.hb_rules.specs.Claims.{echoed, readied, has_root, are_these, is_echo, is_ready}
use Rattle.hb_rules.specs.Hearing.{Hearing, heard_by}
use Rattle.hb_rules.specs.Code.{data_count, echo_count, ready_count}
use Rattle.hb_rules.specs.FirstShown.{with_first, firsts_shown}
use Rattle.hb_rules.specs.BroadcastRows.{shard_of, shards_of, value_through, named, ready_made, delivery_made}
use Rattle.hb_rules.proofs.Counts.{count_nodes-same}
use Rattle.rbc_core.specs.Due.{ready_by, delivery_by}

pub same_bytes : (bytes : List ℕ) → bytes_eq bytes bytes ≡ true
same_bytes bytes = (bytes_eq-Decides bytes bytes).1 refl

pub other_bytes : (one other : List ℕ) → (one ≡ other → ⊥) → bytes_eq one other ≡ false
other_bytes one other apart = false_from_ne_true (bytes_eq one other) (λ same. apart ((bytes_eq-Decides one other).0 same))

-- ---- who has shown what

pub heard_by-push : (heard : List Hearing) (h : Hearing) (a : ℕ) (test : Vote → Bool)
    → heard_by (heard ++ h ∷ []) a test ≡ (heard_by heard a test || ((h.from == a) && test h.vote))
heard_by-push heard h a test =
    list_any-append (λ (g : Hearing). (g.from == a) && test g.vote) heard (h ∷ [])
    ∙ ap (λ (b : Bool). heard_by heard a test || b) (or-false ((h.from == a) && test h.vote))

-- a hearing that fails the test shows nothing
pub heard_by-other : (heard : List Hearing) (h : Hearing) (a : ℕ) (test : Vote → Bool) → (h.from ≡ a → test h.vote ≡ false)
    → heard_by (heard ++ h ∷ []) a test ≡ heard_by heard a test
heard_by-other heard h a test fails = heard_by-push heard h a test ∙ by (h.from == a) refl
  where
    by : (b : Bool) → (h.from == a) ≡ b → (heard_by heard a test || (b && test h.vote)) ≡ heard_by heard a test
    by true same = ap (λ (c : Bool). heard_by heard a test || c) (fails (eqb-true h.from a same)) ∙ or-false (heard_by heard a test)
    by false same = or-false (heard_by heard a test)

-- ---- what a hearing shows

-- no vote is an Echo and a Ready
pub kinds_apart : (n e m : ℕ) (vote : Vote) (part : List ℕ × List ℕ) → echoed n e m vote ≡ Some part → readied e vote ≡ None
kinds_apart n e m (Echo d root shard branch) part h = refl
kinds_apart n e m vote part h = absurd (cc (h))

-- what a hearing shows of a root: no valid Echo, and no Ready
pub record IsSilent (n e : ℕ) (root : List ℕ) (h : Hearing) : Type 0 where
  pub echo : has_root root (echoed n e h.from h.vote) ≡ false
  pub ready : are_these root (readied e h.vote) ≡ false

-- a hearing that names no root is silent of each
pub silent_if_none : (n e : ℕ) (h : Hearing) → named n e h ≡ None → (root : List ℕ) → IsSilent n e root h
silent_if_none n e h none root = by (echoed n e h.from h.vote) (readied e h.vote) refl refl none
  where
    by : (o : Option (List ℕ × List ℕ)) (r : Option (List ℕ)) → echoed n e h.from h.vote ≡ o → readied e h.vote ≡ r
        → option_or (option_map (λ part. part.0) o) r ≡ None → IsSilent n e root h
    by None None is_echo is_ready none = record { echo = ap (has_root root) is_echo; ready = ap (are_these root) is_ready }
    by None (Some r) is_echo is_ready none = absurd (cc (none))
    by (Some part) r is_echo is_ready none = absurd (cc (none))

-- one that names a root is silent of the others
pub silent_of_others : (n e : ℕ) (h : Hearing) (root : List ℕ) → named n e h ≡ Some root → (other : List ℕ) → (other ≡ root → ⊥) → IsSilent n e other h
silent_of_others n e h root names other apart = by (echoed n e h.from h.vote) (readied e h.vote) refl refl names
  where
    by : (o : Option (List ℕ × List ℕ)) (r : Option (List ℕ)) → echoed n e h.from h.vote ≡ o → readied e h.vote ≡ r
        → option_or (option_map (λ part. part.0) o) r ≡ Some root → IsSilent n e other h
    by None None is_echo is_ready is = absurd (cc (is))
    by None (Some r) is_echo is_ready is =
        let same : r ≡ root = cc in
        record { echo = ap (has_root other) is_echo; ready = ap (are_these other) is_ready ∙ other_bytes other r (λ e. apart (e ∙ same)) }
    by (Some part) r is_echo is_ready is =
        let same : part.0 ≡ root = cc in
        record {
          echo = ap (has_root other) is_echo ∙ other_bytes other part.0 (λ e. apart (e ∙ same));
          ready = ap (are_these other) (kinds_apart n e h.from h.vote part is_echo);
        }

-- ---- counts and shards of a root of which a hearing is silent

pub echo-silent : (n e : ℕ) (root : List ℕ) (heard : List Hearing) (h : Hearing) → IsSilent n e root h → (a : ℕ)
    → heard_by (heard ++ h ∷ []) a (is_echo n e root a) ≡ heard_by heard a (is_echo n e root a)
echo-silent n e root heard h silent a =
    heard_by-other heard h a (is_echo n e root a)
    (λ same. subst (λ (m : ℕ). has_root root (echoed n e m h.vote) ≡ false) same silent.echo)

pub ready-silent : (n e : ℕ) (root : List ℕ) (heard : List Hearing) (h : Hearing) → IsSilent n e root h → (a : ℕ)
    → heard_by (heard ++ h ∷ []) a (is_ready e root) ≡ heard_by heard a (is_ready e root)
ready-silent n e root heard h silent a = heard_by-other heard h a (is_ready e root) (λ same. silent.ready)

-- the shard of a valid Echo for the root, or none
pub shard_none : (n e : ℕ) (root : List ℕ) (h : Hearing) → has_root root (echoed n e h.from h.vote) ≡ false → shard_of n e root h ≡ None
shard_none n e root h other = by (echoed n e h.from h.vote) other
  where
    by : (o : Option (List ℕ × List ℕ)) → has_root root o ≡ false
        → option_and_then {U = ℕ × List ℕ} (λ part. if bytes_eq root part.0 then Some (h.from, part.1) else None) o ≡ None
    by None other = refl
    by (Some part) other = rw other refl

pub shards_of-none : (n e : ℕ) (root : List ℕ) (heard : List Hearing) (h : Hearing) → shard_of n e root h ≡ None
    → shards_of n e root (heard ++ h ∷ []) ≡ shards_of n e root heard
shards_of-none n e root heard h none =
    ap firsts_shown (filter_map-append (shard_of n e root) heard (h ∷ []))
    ∙ fold-append with_first [] (filter_map (shard_of n e root) heard) (filter_map (shard_of n e root) (h ∷ []))
    ∙ rw none refl

pub shards_of-some : (n e : ℕ) (root : List ℕ) (heard : List Hearing) (h : Hearing) (x : ℕ × List ℕ) → shard_of n e root h ≡ Some x
    → shards_of n e root (heard ++ h ∷ []) ≡ with_first (shards_of n e root heard) x
shards_of-some n e root heard h x some =
    ap firsts_shown (filter_map-append (shard_of n e root) heard (h ∷ []))
    ∙ fold-append with_first [] (filter_map (shard_of n e root) heard) (filter_map (shard_of n e root) (h ∷ []))
    ∙ rw some refl

pub shards-silent : (n e : ℕ) (root : List ℕ) (heard : List Hearing) (h : Hearing) → IsSilent n e root h
    → shards_of n e root (heard ++ h ∷ []) ≡ shards_of n e root heard
shards-silent n e root heard h silent = shards_of-none n e root heard h (shard_none n e root h silent.echo)

-- what a root makes, by counts and shards
abbrev pub ready_of : Numbers → ℕ → List ℕ → ℕ → ℕ → List (ℕ × List ℕ) → Option Vote
ready_of c e root echoes readies shards = ready_by c e root echoes readies (value_through c root (take (data_count c) shards))

abbrev pub delivery_of : Numbers → ℕ → List ℕ → ℕ → List (ℕ × List ℕ) → Option Vote
delivery_of c e root readies shards = delivery_by c e readies (value_through c root (take (data_count c) shards))

-- the Ready and the delivery of a root, of which a hearing is silent, stay
pub ready_made-silent : (c : Numbers) (e : ℕ) (root : List ℕ) (heard : List Hearing) (h : Hearing) → IsSilent c.n e root h
    → ready_made c e (heard ++ h ∷ []) root ≡ ready_made c e heard root
ready_made-silent c e root heard h silent =
    let now : List Hearing = heard ++ h ∷ [] in
    let echoes : echo_count c.n e root (heard_by now) ≡ echo_count c.n e root (heard_by heard) =
    count_nodes-same c.n (λ a. heard_by now a (is_echo c.n e root a)) (λ a. heard_by heard a (is_echo c.n e root a)) (echo-silent c.n e root heard h silent) in
    let readies : ready_count c.n e root (heard_by now) ≡ ready_count c.n e root (heard_by heard) =
    count_nodes-same c.n (λ a. heard_by now a (is_ready e root)) (λ a. heard_by heard a (is_ready e root)) (ready-silent c.n e root heard h silent) in
    ap (λ (k : ℕ). ready_of c e root k (ready_count c.n e root (heard_by now)) (shards_of c.n e root now)) echoes
    ∙ ap (λ (k : ℕ). ready_of c e root (echo_count c.n e root (heard_by heard)) k (shards_of c.n e root now)) readies
    ∙ ap (λ (xs : List (ℕ × List ℕ)). ready_of c e root (echo_count c.n e root (heard_by heard)) (ready_count c.n e root (heard_by heard)) xs)
    (shards-silent c.n e root heard h silent)

pub delivery_made-silent : (c : Numbers) (e : ℕ) (root : List ℕ) (heard : List Hearing) (h : Hearing) → IsSilent c.n e root h
    → delivery_made c e (heard ++ h ∷ []) root ≡ delivery_made c e heard root
delivery_made-silent c e root heard h silent =
    let now : List Hearing = heard ++ h ∷ [] in
    let readies : ready_count c.n e root (heard_by now) ≡ ready_count c.n e root (heard_by heard) =
    count_nodes-same c.n (λ a. heard_by now a (is_ready e root)) (λ a. heard_by heard a (is_ready e root)) (ready-silent c.n e root heard h silent) in
    ap (λ (k : ℕ). delivery_of c e root k (shards_of c.n e root now)) readies
    ∙ ap (λ (xs : List (ℕ × List ℕ)). delivery_of c e root (ready_count c.n e root (heard_by heard)) xs) (shards-silent c.n e root heard h silent)
