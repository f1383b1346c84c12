-- A seat and a disk over several calls.
use Rattle.std.proofs.Common.{◌≡◌, ℕ, ◌≤◌, List, Result, Ok, Err, refl, sym, ap, ◌∙◌, subst, arith}
use Rattle.std.specs.Prelude.{IsErrOf, IfErr}
use Rattle.disk_model.specs.Supply.{Supply, Draws}
use Rattle.hb_base.specs.Numbers.{Numbers}
use Rattle.hb_base.specs.Outside.{Rose}
use Rattle.hb_wire.specs.declared.post.Post.{Post}
use Rattle.vote_journal.specs.Runs.{HasReason, IsUnfailed}
use Rattle.vote_journal.proofs.Moments.{draws_same, draws_again, unfailed_same, unfailed_again, same_fault}
use Rattle.vote_journal.specs.declared.fault.JournalFault.{JournalFault}
use Rattle.vote_journal.specs.declared.fault.JournalFault.TheVariants.{Failed, NotAJournal, Memory as JournalMemory}
use Rattle.hb_rules.specs.declared.actor.ActorFault.{ActorFault}
use Rattle.hb_rules.specs.declared.actor.ActorFault.TheVariants.{Journal, Full}
use Rattle.hb_rules.specs.Book.{Watched}
use Rattle.hb_rules.specs.Terms.{Terms}
use Rattle.journaled_actor.specs.Faults.{actor_fault}
use Rattle.journaled_actor.specs.Going.{SeatGoes, DiskGoes}
use Rattle.journaled_actor.specs.Kept.{IsOf}
use Rattle.journaled_actor.proofs.Crashes.{rose_later}
use Rattle.journaled_actor.proofs.Posted.{prefix_refl, prefix_trans, watched_prefix, told_refl, told_trans, told_watched, at_terms}

pub is_still : {t : Terms} {c d : Numbers} {i j x y : ℕ} → IsOf t c i x → (d ≡ c) × (j ≡ i) × (y ≡ x) → IsOf t d j y
is_still is same = record { config_is = same.0 ∙ is.config_is; node_is = same.1 ∙ is.node_is; actor_is = same.2 ∙ is.actor_is }

pub moves_on : {S K : Type 0} (config : S → Numbers) (node actor : S → ℕ) (moved : ℕ → ℕ → K → K → Type 0)
    → ((i x : ℕ) (a b c : K) → moved i x a b → moved i x b c → moved i x a c) → (s r : S) (a b c : K)
    → (config r ≡ config s) × (node r ≡ node s) × (actor r ≡ actor s) → moved (node s) (actor s) a b → moved (node r) (actor r) b c
    → moved (node s) (actor s) a c
moves_on config node actor moved goes_on s r a b c same one two =
    goes_on (node s) (actor s) a b c one
    (subst (λ (x : ℕ). moved (node s) x b c) same.2 (subst (λ (i : ℕ). moved i (actor r) b c) same.1 two))

module _ {S K : Type 0} {config : S → Numbers} {node actor : S → ℕ} {seen : S → List Post} {knows : K → S → Type 0} {moved : ℕ → ℕ → K → K → Type 0} where
  -- one call after another
  pub seat_then : {T U : Type 0} {t : Terms} {s0 s1 s2 : S} {k0 k1 k2 : K} {o0 o1 o2 : List ℕ} {x : T} {result : Result U ActorFault}
      → ((i x : ℕ) (a b c : K) → moved i x a b → moved i x b c → moved i x a c)
      → SeatGoes config node actor seen knows moved t s0 s1 k0 k1 o0 o1 (Ok x)
      → SeatGoes config node actor seen knows moved t s1 s2 k1 k2 o1 o2 result
      → SeatGoes config node actor seen knows moved t s0 s2 k0 k2 o0 o2 result
  seat_then {t = t} {s0 = s0} {s1 = s1} {s2 = s2} {k0 = k0} {k1 = k1} {k2 = k2} {o0 = o0} {o1 = o1} {o2 = o2} goes_on one two = record {
    stays = two.stays;
    same = (two.same.0 ∙ one.same.0, two.same.1 ∙ one.same.1, two.same.2 ∙ one.same.2);
    book = moves_on config node actor moved goes_on s0 s1 k0 k1 k2 one.same one.book two.book;
    longer = prefix_trans (seen s0) (seen s1) (seen s2) one.longer two.longer;
    told = λ no. told_trans t (seen s0) (seen s1) (seen s2) o0 o1 o2 (one.told (λ h. absurd (cc (h)))) (two.told no);
    full = two.full;
  }

  -- nothing was done
  pub seat_still : {T : Type 0} {t : Terms} {s : S} {k : K} {out : List ℕ} {result : Result T ActorFault}
      → ((i x : ℕ) (b : K) → moved i x b b) → knows k s → (IsErrOf result Full → ⊥)
      → SeatGoes config node actor seen knows moved t s s k k out out result
  seat_still {t = t} {s = s} {k = k} {out = out} stays known not_full = record {
    stays = known;
    same = (refl, refl, refl);
    book = stays (node s) (actor s) k;
    longer = prefix_refl (seen s);
    told = λ no. told_refl t (seen s) out;
    full = λ full. absurd (not_full full);
  }

  -- others posted
  pub seat_watched : {T : Type 0} {t : Terms} {s r : S} {a b : K} {out : List ℕ} {result : Result T ActorFault}
      → IsOf t (config s) (node s) (actor s) → knows b r → (config r ≡ config s) × (node r ≡ node s) × (actor r ≡ actor s)
      → moved (node s) (actor s) a b → Watched (config s) (node s) (actor s) (seen s) (seen r) → (IsErrOf result Full → ⊥)
      → SeatGoes config node actor seen knows moved t s r a b out out result
  seat_watched {t = t} {s = s} {r = r} {out = out} is known same book watched not_full = record {
    stays = known;
    same = same;
    book = book;
    longer = watched_prefix (config s) (node s) (actor s) (seen s) (seen r) watched;
    told = λ no. told_watched t (seen s) (seen r) out
        (at_terms t (config s) (node s) (actor s) is (λ (c : Numbers) (i x : ℕ). Watched c i x (seen s) (seen r)) watched);
    full = λ full. absurd (not_full full);
  }

  pub seat_later : {T : Type 0} {t : Terms} {s r q : S} {a b d : K} {out numbers : List ℕ} {result : Result T ActorFault}
      → ((i x : ℕ) (a b c : K) → moved i x a b → moved i x b c → moved i x a c) → IsOf t (config s) (node s) (actor s) → knows b r
      → (config r ≡ config s) × (node r ≡ node s) × (actor r ≡ actor s) → moved (node s) (actor s) a b
      → Watched (config s) (node s) (actor s) (seen s) (seen r) → SeatGoes config node actor seen knows moved t r q b d out numbers result
      → SeatGoes config node actor seen knows moved t s q a d out numbers result
  seat_later {t = t} {s = s} {r = r} {a = a} {b = b} {out = out} goes_on is known same book watched two =
      let one : SeatGoes {T = ℕ} config node actor seen knows moved t s r a b out out (Ok 0) =
      seat_watched is known same book watched (λ h. absurd (cc (h))) in
      seat_then goes_on one two

module _ {D : Type 0} {supply : D → Supply} {faults : D → ℕ} {explains : D → Type 0} where
  pub disk_then : {T U : Type 0} {a b c : D} {x : T} {result : Result U ActorFault} → DiskGoes supply faults explains a b (Ok x)
      → DiskGoes supply faults explains b c result → DiskGoes supply faults explains a c result
  disk_then {a = a} {b = b} {c = c} one two = record {
    draws = draws_again (supply a) (supply b) (supply c) one.draws two.draws;
    no_fewer = omega (arith, one.no_fewer, two.no_fewer);
    failed = λ is. (rose_later (faults a) (faults b) (faults c) one.no_fewer (two.failed is).0, (two.failed is).1);
    unfailed = λ well. unfailed_again faults supply a b c (one.unfailed (λ h. absurd (cc (h)))) (two.unfailed well);
  }

  pub disk_still : {T : Type 0} {disk : D} {result : Result T ActorFault} → (IsErrOf result Journal → ⊥) → DiskGoes supply faults explains disk disk result
  disk_still {disk = disk} not_failed = record {
    draws = draws_same (supply disk);
    no_fewer = omega arith;
    failed = λ is. absurd (not_failed is);
    unfailed = λ well. unfailed_same faults supply disk;
  }

  -- the journal's fault is the actor's
  pub disk_failed : {T U : Type 0} {old new : D} {fault : JournalFault} → Draws (supply old) (supply new) → faults old ≤ faults new
      → HasReason faults explains old new fault → (fault ≡ NotAJournal → ⊥)
      → ((◌≡◌ {A = Result U JournalFault} (Err fault) (Err Failed) → ⊥) → IsUnfailed faults supply old new)
      → DiskGoes {T = T} supply faults explains old new (Err (actor_fault fault))
  disk_failed {old = old} {new = new} {fault = fault} draws no_fewer reason known unfailed = record {
    draws = draws;
    no_fewer = no_fewer;
    failed = λ is. by fault refl (same_error is);
    unfailed = λ well. unfailed (λ is. well (ap (λ (f : JournalFault). Err (actor_fault f)) (same_fault is)));
  }
    where
      same_error : {T : Type 0} {a b : ActorFault} → ◌≡◌ {A = Result T ActorFault} (Err a) (Err b) → a ≡ b
      same_error h = cc (h)

      by : (f : JournalFault) → fault ≡ f → actor_fault f ≡ Journal → Rose (faults old) (faults new) × explains new
      by Failed is h = (reason.rose is, reason.explained is)
      by NotAJournal is h = absurd (known is)
      by JournalMemory is h = absurd (cc (h))

-- a call on the disk, and one after it that does not touch it
pub disk_done : {D T U : Type 0} {supply : D → Supply} {faults : D → ℕ} {explains : D → Type 0} {old new : D} {x : T} {result : Result U ActorFault}
    → DiskGoes supply faults explains old new (Ok x) → (IsErrOf result Journal → ⊥) → DiskGoes supply faults explains old new result
disk_done one not_failed = record { draws = one.draws; no_fewer = one.no_fewer; failed = λ is. absurd (not_failed is); unfailed = λ well. one.unfailed (λ h. absurd (cc (h))) }

pub fault_not_full : {T : Type 0} (fault : JournalFault) → ◌≡◌ {A = Result T ActorFault} (Err (actor_fault fault)) (Err Full) → ⊥
fault_not_full Failed h = cc (h)
fault_not_full NotAJournal h = cc (h)
fault_not_full JournalMemory h = cc (h)

-- the same fault, of a call that answers something else
same_end : {T : Type 0} {a b : ActorFault} → ◌≡◌ {A = Result T ActorFault} (Err a) (Err b) → a ≡ b
same_end h = cc (h)

pub other_still : {T U : Type 0} {a b : ActorFault} → (◌≡◌ {A = Result T ActorFault} (Err a) (Err b) → ⊥)
    → ◌≡◌ {A = Result U ActorFault} (Err a) (Err b) → ⊥
other_still differ h = differ (ap (λ (f : ActorFault). Err f) (same_end h))

pub disk_again : {D T U : Type 0} {supply : D → Supply} {faults : D → ℕ} {explains : D → Type 0} {old new : D} {fault : ActorFault}
    → DiskGoes {T = T} supply faults explains old new (Err fault) → DiskGoes {T = U} supply faults explains old new (Err fault)
disk_again one = record {
  draws = one.draws;
  no_fewer = one.no_fewer;
  failed = λ is. one.failed (ap (λ (f : ActorFault). Err f) (same_end is));
  unfailed = λ well. one.unfailed (λ is. well (ap (λ (f : ActorFault). Err f) (same_end is)));
}

-- what succeeded has no fault
pub ok_not_full : {T : Type 0} {result : Result T ActorFault} {x : T} → result ≡ Ok x → IsErrOf result Full → ⊥
ok_not_full ok full = cc (ok, full)

pub ok_no_error : {T : Type 0} {result : Result T ActorFault} {x : T} (P : ActorFault → Type 0) → result ≡ Ok x → IfErr result P
ok_no_error {T = T} P ok = subst (λ (r : Result T ActorFault). IfErr r P) (sym ok) tt
