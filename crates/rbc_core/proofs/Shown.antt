-- What a root's view shows after one more hearing, and the votes that it makes.
use Rattle.std.proofs.Common.{◌≡◌, ℕ, ◌<◌, ◌≤◌, Bool, true, false, ◌&&◌, ◌||◌, ◌==◌, inl, inr, List, [], ◌∷◌, ◌++◌, length, take, Option, None, Some, if◌then◌else◌, is_some, refl, sym, ap, ◌∙◌, subst, arith, bytes_eq, unwrap_or}
use Rattle.std.specs.List.{list_any, filter_map, cons_option, fold}
use Rattle.std.specs.Option.{option_map, option_or, option_and_then}
use Rattle.std.proofs.Math.Bool.{or-false, and-true}
use Rattle.std.proofs.lemmas.Bool.{cases_Bool, cases_lt, eqb-true, eq-eqb, false_from_ne_true, or_parts, both_ways}
use Rattle.std.proofs.lemmas.List.{length-take, take_all, take-append-le}
use Rattle.std.proofs.lemmas.List.Folds.{list_any-append}
use Rattle.std.proofs.lemmas.Slice.Eq.{bytes_eq-Decides}
use Rattle.hb_base.specs.Counting.{count_nodes}
use Rattle.hb_base.specs.Limits.{most_nodes}
use Rattle.hb_base.specs.Numbers.{Numbers}
use Rattle.hb_base.specs.NodeSet.{is_in}
use Rattle.hb_wire.specs.declared.vote.Vote.{Vote}
use Rattle.hb_rules.specs.Claims.{echoed, readied, has_root, are_these, is_echo, is_ready}
use Rattle.hb_rules.specs.Hearing.{Hearing, heard_by}
use Rattle.hb_rules.specs.Code.{data_count, echo_count, ready_count}
use Rattle.hb_rules.specs.FirstShown.{has_node, with_first}
use Rattle.hb_rules.specs.BroadcastRows.{shard_of, shards_of, value_through, value_of, named, ready_made, delivery_made}
use Rattle.hb_rules.proofs.Counts.{count_nodes-same, count_nodes-above}
use Rattle.rbc_core.specs.Broadcast.{names, ShowsHeard, IsHeard}
use Rattle.rbc_core.specs.Due.{ready_by, delivery_by}
use Rattle.rbc_core.specs.RootViews.{RootView, unheard, first_with}
use Rattle.rbc_core.specs.Roots.{RootsView, found, view_at, IsRootView, after_echo, after_ready, Finds}
use Rattle.rbc_core.proofs.Hearings.{same_bytes, heard_by-push, heard_by-other, shard_none, shards_of-none, kinds_apart, IsSilent, silent_of_others, echo-silent, ready-silent, shards-silent, shards_of-some}
use Rattle.rbc_core.proofs.RootStates.{is_in-set, view-finds}
use Rattle.rbc_core.proofs.Standing.{AreHeard}

-- ---- who has a shard echoed, and the other way round

with_first-has : (shown : List (ℕ × List ℕ)) (x : ℕ × List ℕ) (a : ℕ) → has_node (with_first shown x) a ≡ (has_node shown a || (x.0 == a))
with_first-has shown x a = by (has_node shown x.0) refl
  where
    by : (b : Bool) → has_node shown x.0 ≡ b → has_node (if b then shown else shown ++ x ∷ []) a ≡ (has_node shown a || (x.0 == a))
    by true has = here (x.0 == a) refl
      where
        here : (c : Bool) → (x.0 == a) ≡ c → has_node shown a ≡ (has_node shown a || c)
        here true same = let now : has_node shown a ≡ true = ap (has_node shown) (sym (eqb-true x.0 a same)) ∙ has in rw now refl
        here false apart = sym (or-false (has_node shown a))
    by false new =
        list_any-append (λ (y : ℕ × List ℕ). y.0 == a) shown (x ∷ []) ∙ ap (λ (c : Bool). has_node shown a || c) (or-false (x.0 == a))

or_assoc : (b c d : Bool) → ((b || c) || d) ≡ (b || (c || d))
or_assoc true c d = refl
or_assoc false c d = refl

fold-has : (xs shown : List (ℕ × List ℕ)) (a : ℕ) → has_node (fold with_first shown xs) a ≡ (has_node shown a || list_any (λ x. x.0 == a) xs)
fold-has [] shown a = sym (or-false (has_node shown a))
fold-has (x ∷ xs) shown a =
    fold-has xs (with_first shown x) a
    ∙ ap (λ (b : Bool). b || list_any (λ (x : ℕ × List ℕ). x.0 == a) xs) (with_first-has shown x a)
    ∙ or_assoc (has_node shown a) (x.0 == a) (list_any (λ (x : ℕ × List ℕ). x.0 == a) xs)

-- whether a node's shard for the root is shown is whether it echoed the root
shard-has : (n e : ℕ) (root : List ℕ) (a : ℕ) (g : Hearing) (rest : List (ℕ × List ℕ))
    → list_any (λ x. x.0 == a) (cons_option (shard_of n e root g) rest) ≡ (((g.from == a) && is_echo n e root a g.vote) || list_any (λ x. x.0 == a) rest)
shard-has n e root a g rest = by (g.from == a) refl
  where
    by : (b : Bool) → (g.from == a) ≡ b
        → list_any (λ (x : ℕ × List ℕ). x.0 == a) (cons_option (shard_of n e root g) rest)
        ≡ ((b && is_echo n e root a g.vote) || list_any (λ (x : ℕ × List ℕ). x.0 == a) rest)
    by true same =
        subst (λ (m : ℕ). list_any (λ (x : ℕ × List ℕ). x.0 == a) (cons_option (shard_of n e root g) rest)
        ≡ (has_root root (echoed n e m g.vote) || list_any (λ (x : ℕ × List ℕ). x.0 == a) rest)) (eqb-true g.from a same)
        (here (echoed n e g.from g.vote))
      where
        here : (o : Option (List ℕ × List ℕ))
            → list_any (λ (x : ℕ × List ℕ). x.0 == a)
            (cons_option (option_and_then {U = ℕ × List ℕ} (λ part. if bytes_eq root part.0 then Some (g.from, part.1) else None) o) rest)
            ≡ (has_root root o || list_any (λ (x : ℕ × List ℕ). x.0 == a) rest)
        here None = refl
        here (Some part) = test (bytes_eq root part.0)
          where
            test : (c : Bool)
                → list_any (λ (x : ℕ × List ℕ). x.0 == a) (cons_option (if c then Some (g.from, part.1) else None) rest)
                ≡ (c || list_any (λ (x : ℕ × List ℕ). x.0 == a) rest)
            test true = ap (λ (d : Bool). d || list_any (λ (x : ℕ × List ℕ). x.0 == a) rest) same
            test false = refl
    by false apart = here (echoed n e g.from g.vote)
      where
        here : (o : Option (List ℕ × List ℕ))
            → list_any (λ (x : ℕ × List ℕ). x.0 == a)
            (cons_option (option_and_then {U = ℕ × List ℕ} (λ part. if bytes_eq root part.0 then Some (g.from, part.1) else None) o) rest)
            ≡ list_any (λ (x : ℕ × List ℕ). x.0 == a) rest
        here None = refl
        here (Some part) = test (bytes_eq root part.0)
          where
            test : (c : Bool)
                → list_any (λ (x : ℕ × List ℕ). x.0 == a) (cons_option (if c then Some (g.from, part.1) else None) rest)
                ≡ list_any (λ (x : ℕ × List ℕ). x.0 == a) rest
            test true = ap (λ (d : Bool). d || list_any (λ (x : ℕ × List ℕ). x.0 == a) rest) apart
            test false = refl

filtered-has : (n e : ℕ) (root : List ℕ) (a : ℕ) (heard : List Hearing)
    → list_any (λ x. x.0 == a) (filter_map (shard_of n e root) heard) ≡ heard_by heard a (is_echo n e root a)
filtered-has n e root a [] = refl
filtered-has n e root a (g ∷ heard) =
    shard-has n e root a g (filter_map (shard_of n e root) heard)
    ∙ ap (λ (b : Bool). ((g.from == a) && is_echo n e root a g.vote) || b) (filtered-has n e root a heard)

pub has_node-is : (n e : ℕ) (root : List ℕ) (heard : List Hearing) (a : ℕ) → has_node (shards_of n e root heard) a ≡ heard_by heard a (is_echo n e root a)
has_node-is n e root heard a = fold-has (filter_map (shard_of n e root) heard) [] a ∙ filtered-has n e root a heard

-- ---- what a hearing shows of a root

-- a valid Echo for the root, with this shard
pub record ShowsShard (n e : ℕ) (root shard : List ℕ) (h : Hearing) : Type 0 where
  pub is : echoed n e h.from h.vote ≡ Some (root, shard)

-- a Ready for the root
pub record ShowsReady (n e : ℕ) (root : List ℕ) (h : Hearing) : Type 0 where
  pub is : readied e h.vote ≡ Some root
  pub no_echo : echoed n e h.from h.vote ≡ None

pub named-shard : (n e : ℕ) (root shard : List ℕ) (h : Hearing) → ShowsShard n e root shard h → named n e h ≡ Some root
named-shard n e root shard h shows =
    ap (λ (o : Option (List ℕ × List ℕ)). option_or (option_map (λ part. part.0) o) (readied e h.vote)) shows.is

pub named-ready : (n e : ℕ) (root : List ℕ) (h : Hearing) → ShowsReady n e root h → named n e h ≡ Some root
named-ready n e root h shows =
    ap (λ (o : Option (List ℕ × List ℕ)). option_or (option_map (λ part. part.0) o) (readied e h.vote)) shows.no_echo ∙ shows.is

swapped : (a from : ℕ) (old : Bool) → ((a == from) || old) ≡ (old || (from == a))
swapped a from old = elim (cases_Bool (a == from)) [
  | inl same ↦ rw (same, eq-eqb from a (sym (eqb-true a from same))) (by old)
  | inr apart ↦ rw (apart, false_from_ne_true (from == a) (λ same. absurd (cc (sym apart ∙ eq-eqb a from (sym (eqb-true from a same)))))) (sym (or-false old))
]
  where
    by : (b : Bool) → true ≡ (b || true)
    by true = refl
    by false = refl

-- the node that shows it, and no other
at_node : (from a : ℕ) (test : ℕ → Bool) → test from ≡ true → (from == a) ≡ ((from == a) && test a)
at_node from a test passes = by (from == a) refl
  where
    by : (b : Bool) → (from == a) ≡ b → b ≡ (b && test a)
    by true same = sym (ap test (sym (eqb-true from a same)) ∙ passes)
    by false apart = refl

-- the first k of the first k and one more
take_again : (k : ℕ) (xs : List (ℕ × List ℕ)) (x : ℕ × List ℕ) → first_with k (take k xs) x ≡ take k (xs ++ x ∷ [])
take_again k xs x = elim (cases_lt (length xs) k) [
  | inl few ↦ ap (λ (ys : List (ℕ × List ℕ)). take k (ys ++ x ∷ [])) (take_all k xs (omega arith))
  | inr many ↦
      take-append-le k (take k xs) (x ∷ []) (omega (arith, length-take k xs))
      ∙ take_all k (take k xs) (omega (arith, length-take k xs))
      ∙ sym (take-append-le k xs (x ∷ []) many)
]

-- after a node's first Echo for the root
pub shows-echo : (c : Numbers) (e : ℕ) (heard : List Hearing) (root shard : List ℕ) (h : Hearing) (v : RootView) → ShowsShard c.n e root shard h
    → IsRootView c root v → h.from < most_nodes → is_in v.echoes h.from ≡ false
    → ShowsHeard c e heard root v → ShowsHeard c e (heard ++ h ∷ []) root (after_echo c root v h.from shard)
shows-echo c e heard root shard h v shows is below new holds =
    let now : List Hearing = heard ++ h ∷ [] in
    let test : ℕ → Bool = λ a. is_echo c.n e root a h.vote in
    let passes : test h.from ≡ true = ap (has_root root) shows.is ∙ same_bytes root in
    let absent : has_node (shards_of c.n e root heard) h.from ≡ false =
    has_node-is c.n e root heard h.from ∙ sym (holds.echoes h.from) ∙ new in
    let some : shard_of c.n e root h ≡ Some (h.from, shard) =
    ap (option_and_then {U = ℕ × List ℕ} (λ part. if bytes_eq root part.0 then Some (h.from, part.1) else None)) shows.is
    ∙ ap (λ (b : Bool). if b then Some (h.from, shard) else None) (same_bytes root) in
    record {
      echoes = λ a.
          is_in-set v.echoes h.from (omega (arith, is.echoes)) a
          ∙ swapped a h.from (is_in v.echoes a)
          ∙ ap (λ (b : Bool). is_in v.echoes a || b) (at_node h.from a test passes)
          ∙ ap (λ (b : Bool). b || ((h.from == a) && test a)) (holds.echoes a)
          ∙ sym (heard_by-push heard h a (is_echo c.n e root a));
      readies = λ a.
          holds.readies a
          ∙ sym (heard_by-push heard h a (is_ready e root)
          ∙ ap (λ (o : Option (List ℕ)). heard_by heard a (is_ready e root) || ((h.from == a) && are_these root o)) (kinds_apart c.n e h.from h.vote (root, shard) shows.is)
          ∙ ap (λ (b : Bool). heard_by heard a (is_ready e root) || b) (no_more (h.from == a)) ∙ or-false (heard_by heard a (is_ready e root)));
      shards =
          ap (λ (xs : List (ℕ × List ℕ)). first_with (data_count c) xs (h.from, shard)) holds.shards
          ∙ take_again (data_count c) (shards_of c.n e root heard) (h.from, shard)
          ∙ ap (take (data_count c)) (sym (shards_of-some c.n e root heard h (h.from, shard) some
          ∙ ap (λ (b : Bool). if b then shards_of c.n e root heard else shards_of c.n e root heard ++ (h.from, shard) ∷ []) absent));
      value = refl;
    }
  where
    no_more : (b : Bool) → (b && false) ≡ false
    no_more true = refl
    no_more false = refl

-- a node's second Echo for the root shows nothing new
pub shows-echo_again : (c : Numbers) (e : ℕ) (heard : List Hearing) (root shard : List ℕ) (h : Hearing) (v : RootView) → ShowsShard c.n e root shard h
    → is_in v.echoes h.from ≡ true → ShowsHeard c e heard root v → ShowsHeard c e (heard ++ h ∷ []) root v
shows-echo_again c e heard root shard h v shows old holds =
    let had : heard_by heard h.from (is_echo c.n e root h.from) ≡ true = sym (holds.echoes h.from) ∙ old in
    let has : has_node (shards_of c.n e root heard) h.from ≡ true = has_node-is c.n e root heard h.from ∙ had in
    let some : shard_of c.n e root h ≡ Some (h.from, shard) =
    ap (option_and_then {U = ℕ × List ℕ} (λ part. if bytes_eq root part.0 then Some (h.from, part.1) else None)) shows.is
    ∙ ap (λ (b : Bool). if b then Some (h.from, shard) else None) (same_bytes root) in
    record {
      echoes = λ a. holds.echoes a ∙ sym (again a);
      readies = λ a.
          holds.readies a
          ∙ sym (heard_by-push heard h a (is_ready e root)
          ∙ ap (λ (o : Option (List ℕ)). heard_by heard a (is_ready e root) || ((h.from == a) && are_these root o)) (kinds_apart c.n e h.from h.vote (root, shard) shows.is)
          ∙ ap (λ (b : Bool). heard_by heard a (is_ready e root) || b) (no_more (h.from == a)) ∙ or-false (heard_by heard a (is_ready e root)));
      shards =
          holds.shards
          ∙ ap (take (data_count c)) (sym (shards_of-some c.n e root heard h (h.from, shard) some
          ∙ ap (λ (b : Bool). if b then shards_of c.n e root heard else shards_of c.n e root heard ++ (h.from, shard) ∷ []) has));
      value = holds.value;
    }
  where
    no_more : (b : Bool) → (b && false) ≡ false
    no_more true = refl
    no_more false = refl

    again : (a : ℕ) → heard_by (heard ++ h ∷ []) a (is_echo c.n e root a) ≡ heard_by heard a (is_echo c.n e root a)
    again a = heard_by-push heard h a (is_echo c.n e root a) ∙ by (h.from == a) refl
      where
        by : (b : Bool) → (h.from == a) ≡ b
            → (heard_by heard a (is_echo c.n e root a) || (b && is_echo c.n e root a h.vote)) ≡ heard_by heard a (is_echo c.n e root a)
        by true same =
            let was : heard_by heard a (is_echo c.n e root a) ≡ true =
            sym (holds.echoes a) ∙ ap (is_in v.echoes) (sym (eqb-true h.from a same)) ∙ old in
            rw was refl
        by false apart = or-false (heard_by heard a (is_echo c.n e root a))

-- a hearing that shows no valid Echo for the root
no_echo_more : (c : Numbers) (e : ℕ) (heard : List Hearing) (root : List ℕ) (h : Hearing) → has_root root (echoed c.n e h.from h.vote) ≡ false → (a : ℕ)
    → heard_by (heard ++ h ∷ []) a (is_echo c.n e root a) ≡ heard_by heard a (is_echo c.n e root a)
no_echo_more c e heard root h silent a =
    heard_by-other heard h a (is_echo c.n e root a)
    (λ same. subst (λ (m : ℕ). has_root root (echoed c.n e m h.vote) ≡ false) same silent)

no_shard_more : (c : Numbers) (e : ℕ) (heard : List Hearing) (root : List ℕ) (h : Hearing) → has_root root (echoed c.n e h.from h.vote) ≡ false
    → shards_of c.n e root (heard ++ h ∷ []) ≡ shards_of c.n e root heard
no_shard_more c e heard root h silent = shards_of-none c.n e root heard h (shard_none c.n e root h silent)

-- after a node's first Ready for the root
pub shows-ready : (c : Numbers) (e : ℕ) (heard : List Hearing) (root : List ℕ) (h : Hearing) (v : RootView) → ShowsReady c.n e root h
    → IsRootView c root v → h.from < most_nodes → ShowsHeard c e heard root v → ShowsHeard c e (heard ++ h ∷ []) root (after_ready v h.from)
shows-ready c e heard root h v shows is below holds =
    let passes : is_ready e root h.vote ≡ true = ap (are_these root) shows.is ∙ same_bytes root in
    let silent : has_root root (echoed c.n e h.from h.vote) ≡ false = ap (has_root root) shows.no_echo in
    record {
      echoes = λ a. holds.echoes a ∙ sym (no_echo_more c e heard root h silent a);
      readies = λ a.
          is_in-set v.readies h.from (omega (arith, is.readies)) a
          ∙ swapped a h.from (is_in v.readies a)
          ∙ ap (λ (b : Bool). is_in v.readies a || b) (at_node h.from a (λ _. is_ready e root h.vote) passes)
          ∙ ap (λ (b : Bool). b || ((h.from == a) && is_ready e root h.vote)) (holds.readies a)
          ∙ sym (heard_by-push heard h a (is_ready e root));
      shards = holds.shards ∙ ap (take (data_count c)) (sym (no_shard_more c e heard root h silent));
      value = holds.value;
    }

-- a second Ready for the root shows nothing new
pub shows-ready_again : (c : Numbers) (e : ℕ) (heard : List Hearing) (root : List ℕ) (h : Hearing) (v : RootView) → ShowsReady c.n e root h
    → is_in v.readies h.from ≡ true → ShowsHeard c e heard root v → ShowsHeard c e (heard ++ h ∷ []) root v
shows-ready_again c e heard root h v shows old holds =
    let silent : has_root root (echoed c.n e h.from h.vote) ≡ false = ap (has_root root) shows.no_echo in
    record {
      echoes = λ a. holds.echoes a ∙ sym (no_echo_more c e heard root h silent a);
      readies = λ a. holds.readies a ∙ sym (again a);
      shards = holds.shards ∙ ap (take (data_count c)) (sym (no_shard_more c e heard root h silent));
      value = holds.value;
    }
  where
    again : (a : ℕ) → heard_by (heard ++ h ∷ []) a (is_ready e root) ≡ heard_by heard a (is_ready e root)
    again a = heard_by-push heard h a (is_ready e root) ∙ by (h.from == a) refl
      where
        by : (b : Bool) → (h.from == a) ≡ b
            → (heard_by heard a (is_ready e root) || (b && is_ready e root h.vote)) ≡ heard_by heard a (is_ready e root)
        by true same =
            let was : heard_by heard a (is_ready e root) ≡ true =
            sym (holds.readies a) ∙ ap (is_in v.readies) (sym (eqb-true h.from a same)) ∙ old in
            rw was refl
        by false apart = or-false (heard_by heard a (is_ready e root))

-- a hearing that is silent of the root
pub shows-silent : (c : Numbers) (e : ℕ) (heard : List Hearing) (root : List ℕ) (h : Hearing) (v : RootView) → IsSilent c.n e root h
    → ShowsHeard c e heard root v → ShowsHeard c e (heard ++ h ∷ []) root v
shows-silent c e heard root h v silent holds = record {
  echoes = λ a. holds.echoes a ∙ sym (echo-silent c.n e root heard h silent a);
  readies = λ a. holds.readies a ∙ sym (ready-silent c.n e root heard h silent a);
  shards = holds.shards ∙ ap (take (data_count c)) (sym (shards-silent c.n e root heard h silent));
  value = holds.value;
}

-- ---- all roots

names-silent : (n e : ℕ) (root : List ℕ) (h : Hearing) → IsSilent n e root h → names n e root h ≡ false
names-silent n e root h silent = by (echoed n e h.from h.vote) silent.echo
  where
    by : (o : Option (List ℕ × List ℕ)) → has_root root o ≡ false → are_these root (option_or (option_map (λ part. part.0) o) (readied e h.vote)) ≡ false
    by None other = silent.ready
    by (Some part) other = other

-- a root of which the hearing is silent, where the same is found of it
pub heard-silent : (old new : RootsView) (e : ℕ) (heard : List Hearing) (h : Hearing) (root : List ℕ) → new.config ≡ old.config
    → found new root ≡ found old root → IsSilent old.config.n e root h → IsHeard old e heard root → IsHeard new e (heard ++ h ∷ []) root
heard-silent old new e heard h root config same silent is = record {
  known = λ named.
      ap is_some same ∙ is.known
      (sym (list_any-append (names old.config.n e root) heard (h ∷ [])
      ∙ ap (λ (b : Bool). list_any (names old.config.n e root) heard || (b || false)) (names-silent old.config.n e root h silent)
      ∙ or-false (list_any (names old.config.n e root) heard))
      ∙ (rw config at named));
  shows =
      rw config (subst (ShowsHeard old.config e (heard ++ h ∷ []) root) (sym (ap (λ (o : Option RootView). unwrap_or o unheard) same))
      (shows-silent old.config e heard root h (view_at old root) silent is.shows));
}

-- a hearing that names a root, of which this is found then
pub heard-named : (old new : RootsView) (e : ℕ) (heard : List Hearing) (h : Hearing) (root : List ℕ) (v : RootView) → Finds old new root v
    → named old.config.n e h ≡ Some root → ShowsHeard old.config e (heard ++ h ∷ []) root v
    → AreHeard old e heard → (other : List ℕ) → IsHeard new e (heard ++ h ∷ []) other
heard-named old new e heard h root v finds names shows are other = by (bytes_eq root other) refl
  where
    by : (b : Bool) → bytes_eq root other ≡ b → IsHeard new e (heard ++ h ∷ []) other
    by true same =
        subst (IsHeard new e (heard ++ h ∷ [])) ((bytes_eq-Decides root other).0 same)
        (record {
          known = λ named. ap is_some (finds.found root ∙ ap (λ (b : Bool). if b then Some v else found old root) (same_bytes root));
          shows =
              rw finds.config (subst (ShowsHeard old.config e (heard ++ h ∷ []) root)
              (sym (view-finds old new root v finds root ∙ ap (λ (b : Bool). if b then v else view_at old root) (same_bytes root))) shows);
        })
    by false apart =
        heard-silent old new e heard h other finds.config
        (finds.found other ∙ ap (λ (b : Bool). if b then Some v else found old other) apart)
        (silent_of_others old.config.n e h root names other (λ e. both_ways (bytes_eq root other) apart ((bytes_eq-Decides root other).1 (sym e))))
        (are.roots other)

-- ---- what a root makes

heard_by-none : (test : Vote → Bool) (heard : List Hearing) (a : ℕ) → heard_by heard a (λ vote. true) ≡ false → heard_by heard a test ≡ false
heard_by-none test [] a none = refl
heard_by-none test (h ∷ heard) a none =
    let parts = or_parts ((h.from == a) && true) (heard_by heard a (λ vote. true)) none in
    rw (sym (and-true (h.from == a)) ∙ parts.0, heard_by-none test heard a parts.1) refl

-- a set that has those who showed a vote counts as many
count_is : (n : ℕ) (marks : List Bool) (some : ℕ → Bool) → n ≤ most_nodes → ((a : ℕ) → is_in marks a ≡ some a)
    → ((a : ℕ) → n ≤ a → some a ≡ false) → count_nodes most_nodes (is_in marks) ≡ count_nodes n some
count_is n marks some few is none = count_nodes-same most_nodes (is_in marks) some is ∙ count_nodes-above n most_nodes some few none

-- what a root makes is what its view makes
pub made-view : (c : Numbers) (e : ℕ) (heard : List Hearing) (root : List ℕ) (v : RootView) → c.n ≤ most_nodes → IsRootView c root v
    → ShowsHeard c e heard root v → ((a : ℕ) → c.n ≤ a → heard_by heard a (λ vote. true) ≡ false)
    → (ready_made c e heard root ≡ ready_by c e root (count_nodes most_nodes (is_in v.echoes)) (count_nodes most_nodes (is_in v.readies)) v.value)
    × (delivery_made c e heard root ≡ delivery_by c e (count_nodes most_nodes (is_in v.readies)) v.value)
made-view c e heard root v few is shows nodes =
    let echoes : count_nodes most_nodes (is_in v.echoes) ≡ echo_count c.n e root (heard_by heard) =
    count_is c.n v.echoes (λ a. heard_by heard a (is_echo c.n e root a)) few shows.echoes (λ a above. heard_by-none (is_echo c.n e root a) heard a (nodes a above)) in
    let readies : count_nodes most_nodes (is_in v.readies) ≡ ready_count c.n e root (heard_by heard) =
    count_is c.n v.readies (λ a. heard_by heard a (is_ready e root)) few shows.readies (λ a above. heard_by-none (is_ready e root) heard a (nodes a above)) in
    let value : v.value ≡ value_of c e heard root = is.value ∙ ap (value_through c root) shows.shards in (
      sym (ap (λ (k : ℕ). ready_by c e root k (count_nodes most_nodes (is_in v.readies)) v.value) echoes
          ∙ ap (λ (k : ℕ). ready_by c e root (echo_count c.n e root (heard_by heard)) k v.value) readies
          ∙ ap (λ (o : Option (List ℕ)). ready_by c e root (echo_count c.n e root (heard_by heard)) (ready_count c.n e root (heard_by heard)) o) value),
      sym (ap (λ (k : ℕ). delivery_by c e k v.value) readies
          ∙ ap (λ (o : Option (List ℕ)). delivery_by c e (ready_count c.n e root (heard_by heard)) o) value),
    )
