-- What a call leaves of what holds of an actor in every state.
use Rattle.std.proofs.Common.{◌≡◌, ℕ, ◌+◌, ◌≤◌, ◌⊎◌, ⊎_elim, inl, Bool, true, false, List, [], ◌∷◌, ◌++◌, Result, Ok, Err, refl, sym, ap, ap₂, ◌∙◌, subst, arith, length, append-nil}
use Rattle.std.specs.Prelude.{OnOk, IfErr, IsErrOf}
use Rattle.std.specs.Result.{is_ok}
use Rattle.std.proofs.lemmas.Bool.{cases_Bool, both_ways}
use Rattle.hb_base.specs.Limits.{most_stops}
use Rattle.hb_base.specs.Numbers.{Numbers}
use Rattle.disk_model.specs.Image.{Image}
use Rattle.disk_model.specs.Disk.{Only}
use Rattle.disk_model.specs.Supply.{Supply, Draws}
use Rattle.hb_wire.specs.declared.vote.Vote.{Vote}
use Rattle.hb_wire.specs.declared.post.Post.{Post}
use Rattle.vote_journal.specs.Calls.{IsEmpty}
use Rattle.vote_journal.specs.Text.{text_of, live_entries, half_entries, entries_in, is_some_entry}
use Rattle.vote_journal.proofs.Images.{fewer, live_count}
use Rattle.hb_rules.specs.declared.actor.ActorFault.{ActorFault}
use Rattle.hb_rules.specs.declared.actor.ActorFault.TheVariants.{Journal}
use Rattle.hb_rules.specs.Actor.{ActorView, Goes, IsFew, AreSeen, ReachesActor, LeavesAlone, budget}
use Rattle.hb_rules.specs.Book.{Watched}
use Rattle.hb_rules.specs.Hearing.{Hearing}
use Rattle.hb_rules.specs.Ledger.{IsPrefix}
use Rattle.hb_rules.specs.Same.{count, firsts}
use Rattle.hb_rules.specs.Terms.{Terms, AreLawful, cast_in, heard_got}
use Rattle.journaled_actor.specs.Kept.{IsOf, IsCovered, IsSafe, IsOpen, IsKept, ActorParts, actor_view}
use Rattle.journaled_actor.proofs.Going.{is_still}
use Rattle.journaled_actor.proofs.Heard.{got_longer, seen_longer, seen_more}
use Rattle.journaled_actor.proofs.Left.{few_watched}
use Rattle.journaled_actor.proofs.Owing.{all_watched}
use Rattle.journaled_actor.proofs.Posted.{at_terms, watched_prefix, watched_cast}
use Rattle.journaled_actor.proofs.Safe.{safe_watched}

-- ---- what is the same has the same

pub along : {A : Type 0} {a b : A} → a ≡ b → (P : A → Type 0) → P a → P b
along same P p = subst P same p

-- of values that are seen by a view
pub from : {A B : Type 0} {a b : A} {now : B} (view : A → B) (R : B → B → Type 0) → a ≡ b → R (view a) now → R (view b) now
from {A = A} {now = now} view R same r = subst (λ (x : A). R (view x) now) same r

-- of actors that are seen by their view and by their seat
pub alone_from : {S D C : Type 0} (terms : C → Terms) (supply : D → Supply) (faults : D → ℕ) (seen : S → List Post) {a b : ActorParts S D C}
    {now : ActorView} {after : List Post} → a ≡ b → LeavesAlone (actor_view terms supply faults a) now (seen a.seat) after
    → LeavesAlone (actor_view terms supply faults b) now (seen b.seat) after
alone_from {S = S} {D = D} {C = C} terms supply faults seen {now = now} {after = after} same alone =
    subst (λ (x : ActorParts S D C). LeavesAlone (actor_view terms supply faults x) now (seen x.seat) after) same alone

-- ---- results

pub when_ok : {T E : Type 0} (result : Result T E) (P : Type 0) → OnOk result P → is_ok result ≡ true → P
when_ok (Ok x) P p ok = p
when_ok (Err e) P p ok = absurd (cc (ok))

pub ok_is : {T E : Type 0} (result : Result T E) (live : Bool) → live ≡ is_ok result → OnOk result (live ≡ true)
ok_is (Ok x) live is = is
ok_is (Err e) live is = tt

pub err_is : {T E : Type 0} (result : Result T E) (live : Bool) → live ≡ is_ok result → IfErr result (λ _. live ≡ false)
err_is (Ok x) live is = tt
err_is (Err e) live is = is

pub if_fault : {T : Type 0} (result : Result T ActorFault) (P : Type 0) → (IsErrOf result Journal → P) → IfErr result (λ fault. fault ≡ Journal → P)
if_fault (Ok x) P p = tt
if_fault (Err e) P p = λ is. p (ap (λ (f : ActorFault). Err f) is)

-- ---- the budget of restarts

pub budget_draws : (restarts : ℕ) (old new : Supply) → Draws old new → budget restarts new ≤ budget restarts old
budget_draws restarts old new draws = by old.off refl new.off refl
  where
    by : (was : Bool) → old.off ≡ was → (is : Bool) → new.off ≡ is → budget restarts new ≤ budget restarts old
    by true before true after = rw (before, after) (omega (arith, draws.no_more))
    by true before false after = rw (before, after) (omega (arith, draws.no_more))
    by false before true after = rw (before, after) (omega (arith, draws.uses_up before after))
    by false before false after = rw (before, after) (omega (arith, draws.no_more))

-- a disk that is on, at first
pub budget_on : (supply : Supply) → supply.off ≡ false → supply.stops ≤ most_stops → budget 0 supply ≤ most_stops
budget_on supply on few = rw on (omega (arith, few))

-- a restart more, of a disk that was off
pub budget_again : (restarts : ℕ) (old on new : Supply) → old.off ≡ true → on ≡ record old { off = false } → Draws on new
    → budget (restarts + 1) new ≤ budget restarts old
budget_again restarts old on new off is draws =
    omega (arith, budget_draws (restarts + 1) on new draws, ap (λ (s : Supply). budget (restarts + 1) s) is, before)
  where
    before : budget restarts old ≡ restarts + old.stops + 1
    before = rw off refl

-- where the power is on after a call, no stop was met in it
stops_on : (old new : Supply) → Draws old new → new.off ≡ false → new.stops ≡ old.stops
stops_on old new draws on =
    ⊎_elim
    (λ (was : old.off ≡ true). absurd (both_ways new.off on (draws.stays_off was)))
    (λ (was : old.off ≡ false). draws.kept (on ∙ sym was))
    (cases_Bool old.off)

pub goes_by : (old new : ActorView) → new.terms ≡ old.terms → Draws old.supply new.supply → old.faults ≤ new.faults → new.restarts ≡ old.restarts
    → new.fresh ≡ false → Goes old new
goes_by old new terms draws faults restarts begun = record {
  terms = terms;
  planned = draws.planned;
  stops = draws.no_more;
  calls = draws.calls;
  faults = faults;
  restarts = omega (arith, restarts);
  budget = subst (λ (n : ℕ). budget n new.supply ≤ budget old.restarts old.supply) (sym restarts) (budget_draws old.restarts old.supply new.supply draws);
  kept = stops_on old.supply new.supply draws;
  begun = begun;
}

pub goes_again : (old new : ActorView) (on : Supply) → new.terms ≡ old.terms → old.supply.off ≡ true → on ≡ record old.supply { off = false }
    → Draws on new.supply → old.faults ≤ new.faults → new.restarts ≡ old.restarts + 1 → new.fresh ≡ false → Goes old new
goes_again old new on terms off is draws faults restarts begun = record {
  terms = terms;
  planned = draws.planned ∙ ap (λ (s : Supply). s.planned) is;
  stops = omega (arith, draws.no_more, ap (λ (s : Supply). s.stops) is);
  calls = omega (arith, draws.calls, ap (λ (s : Supply). s.calls) is);
  faults = faults;
  restarts = omega (arith, restarts);
  budget = subst (λ (n : ℕ). budget n new.supply ≤ budget old.restarts old.supply) (sym restarts)
      (budget_again old.restarts old.supply on new.supply off is draws);
  kept = λ now. stops_on on new.supply draws now ∙ ap (λ (s : Supply). s.stops) is;
  begun = begun;
}

-- ---- how often votes were cast

pub few_none : (t : Terms) (seen : List Post) → cast_in t seen ≡ [] → IsFew t seen 0
few_none t seen none = record { each = λ vote. omega (arith, ap (λ (votes : List Vote). count vote votes) none) }

pub few_within : (t : Terms) (seen : List Post) (few most : ℕ) → few ≤ most → IsFew t seen few → IsFew t seen most
few_within t seen few most le is = record { each = λ vote. omega (arith, le, is.each vote) }

-- ---- the disk

-- an empty half has no entry
none_in_empty : half_entries [] ≡ []
unfolding entries_in
none_in_empty = refl

empty_agrees : is_some_entry (half_entries []) ≡ true → ⊥
empty_agrees some = cc (some, ap is_some_entry none_in_empty)

empty_says : text_of (record { a = []; b = [] }) ≡ []
empty_says = rw none_in_empty refl

empty_few : length (live_entries (record { a = []; b = [] })) ≤ 64
empty_few = omega (arith, live_count (record { a = []; b = [] }), ap₂ fewer none_in_empty none_in_empty)

-- an empty disk has no text
pub empty_text : {D : Type 0} (seen : D → Image) (may_leave : D → Image → Type 0) (disk : D) → IsEmpty seen may_leave disk
    → (image : Image) → may_leave disk image → text_of image ≡ []
empty_text seen may_leave disk empty image may = ap text_of (empty.durable image may ∙ empty.nothing) ∙ empty_says

-- no vote is in an empty journal
pub safe_empty : {D : Type 0} (seen : D → Image) (may_leave : D → Image → Type 0) (disk : D) (t : Terms) (posts : List Post) → IsEmpty seen may_leave disk
    → cast_in t posts ≡ [] → IsSafe t posts (may_leave disk)
safe_empty seen may_leave disk t posts empty none image may =
    subst (λ (c : Image). IsCovered t posts c) (sym (empty.durable image may ∙ empty.nothing)) (record {
      sound = record { a = inl (omega arith); b = inl (omega arith); agree = λ a b. absurd (empty_agrees a) };
      votes = [];
      says = empty_says;
      few = inl empty_few;
      covers = record {
        are = record { castable = tt; proper = tt; spelled = tt; rest = inl refl };
        posted = record { rest = []; is = sym (ap (λ (votes : List Vote). firsts votes ++ []) none) };
      };
    })

-- the power comes back
pub safe_back : {D : Type 0} (seen : D → Image) (may_leave : D → Image → Type 0) (old new : D) (t : Terms) (posts : List Post) → may_leave old (seen new)
    → Only (seen new) (may_leave new) → IsSafe t posts (may_leave old) → IsSafe t posts (may_leave new)
safe_back seen may_leave old new t posts left only safe image may =
    subst (λ (c : Image). IsCovered t posts c) (sym (only image may)) (safe (seen new) left)

-- ---- an actor after a call

-- a call that succeeded was not told that the disk failed
pub not_failed : {T : Type 0} (result : Result T ActorFault) → is_ok result ≡ true → IsErrOf result Journal → ⊥
not_failed (Ok x) ok failed = cc (failed)
not_failed (Err e) ok failed = cc (ok)

-- others posted
pub open_watched : (t : Terms) (old new : List Post) (text : List ℕ) (stands : List Vote → List Hearing → Type 0) (got : List ℕ) → IsPrefix old new
    → cast_in t new ≡ cast_in t old → AreSeen t old got → IsOpen t old text stands (heard_got t old got) → IsOpen t new text stands (heard_got t new got)
open_watched t old new text stands got prefix same seen here =
    subst (IsOpen t new text stands) (sym (got_longer t old new got prefix seen)) (record {
      votes = here.votes;
      all = all_watched t old new text here.votes prefix same here.all;
      holds = here.holds;
      idle = here.idle;
    })

-- an actor that was started, or restarted, or that heard a post
pub kept_by : (t u : Terms) (c d : Numbers) (i j x y : ℕ) (seen : List Post) (left : Image → Type 0) (supply : Supply) (is_open : Terms → Type 0)
    (live : Bool) (got : List ℕ) (restarts : ℕ) → u ≡ t → IsOf t c i x → (d ≡ c) × (j ≡ i) × (y ≡ x) → AreLawful t → IsSafe t seen left
    → IsFew t seen (1 + restarts) → budget restarts supply ≤ most_stops → AreSeen t seen got → (live ≡ true → is_open t)
    → (live ≡ true → supply.off ≡ false) → IsKept u d j y seen left supply (is_open u) false live got restarts
kept_by t u c d i j x y seen left supply is_open live got restarts same is still lawful safe few bound received opened on =
    subst (λ (v : Terms). IsKept v d j y seen left supply (is_open v) false live got restarts) (sym same) (record {
      is = is_still is still;
      lawful = lawful;
      safe = safe;
      few = few;
      bound = bound;
      received = received;
      fresh = λ begun. absurd (cc (begun));
      live = opened;
      fresh_on = λ begun. absurd (cc (begun));
      fresh_empty = λ begun. absurd (cc (begun));
      live_on = on;
    })

-- what was received before, or one post more
pub seen_either : (t : Terms) (old new : List Post) (got now : List ℕ) (k : ℕ) → IsPrefix old new → AreSeen t old got
    → ReachesActor t.config old t.node t.actor k → (now ≡ got) ⊎ (now ≡ got ++ k ∷ []) → AreSeen t new now
seen_either t old new got now k prefix seen there either =
    seen_longer t old new now prefix (⊎_elim
    (λ (same : now ≡ got). subst (AreSeen t old) (sym same) seen)
    (λ (more : now ≡ got ++ k ∷ []). subst (AreSeen t old) (sym more) (seen_more t old got k seen there))
    either)

-- an actor while others posted
pub kept_watched : (t : Terms) (c d : Numbers) (i j x y : ℕ) (old new : List Post) (left : Image → Type 0) (supply : Supply) (usable : Type 0)
    (text : List ℕ) (stands : List Vote → List Hearing → Type 0) (fresh live : Bool) (got : List ℕ) (restarts : ℕ)
    → (d ≡ c) × (j ≡ i) × (y ≡ x) → Watched c i x old new
    → IsKept t c i x old left supply (usable × IsOpen t old text stands (heard_got t old got)) fresh live got restarts
    → IsKept t d j y new left supply (usable × IsOpen t new text stands (heard_got t new got)) fresh live got restarts
kept_watched t c d i j x y old new left supply usable text stands fresh live got restarts still watched kept =
    let prefix = watched_prefix c i x old new watched in
    let same = watched_cast t old new (at_terms t c i x kept.is (λ (e : Numbers) (k z : ℕ). Watched e k z old new) watched) in
    record {
      is = is_still kept.is still;
      lawful = kept.lawful;
      safe = safe_watched t old new left prefix same kept.safe;
      few = few_watched t old new (1 + restarts) same kept.few;
      bound = kept.bound;
      received = seen_longer t old new got prefix kept.received;
      fresh = λ begun. ((kept.fresh begun).0, (kept.fresh begun).1, same ∙ (kept.fresh begun).2);
      live = λ lives. ((kept.live lives).0, open_watched t old new text stands got prefix same kept.received (kept.live lives).1);
      fresh_on = kept.fresh_on;
      fresh_empty = kept.fresh_empty;
      live_on = kept.live_on;
    }

-- nobody posted
pub watched_none : (c : Numbers) (i x : ℕ) (old new : List Post) → new ≡ old → Watched c i x old new
watched_none c i x old new same = record { between = []; others = refl; is = same ∙ sym (append-nil old) }
