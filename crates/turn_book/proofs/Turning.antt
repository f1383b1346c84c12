-- The steps of a turn keep the rule: the lock is looked at and held from then on, and the value is passed on.
use Rattle.std.proofs.Common.{
  ◌≡◌,
  ℕ,
  ◌+◌,
  ◌≢◌,
  eqb,
  ⊎_elim,
  Bool,
  true,
  false,
  List,
  [],
  ◌∷◌,
  set,
  refl,
  ap,
  sym,
  subst,
  ◌∙◌,
  Option,
  Some,
}
use mathlib.Core.Option.{some, none}
use prog.Atomic.{either}
use Rattle.std.proofs.lemmas.Bool.Decides.{eqb_tells}
use mathlib.Core.Option as maybe
use mathlib.Core.Logic.{dite}
use native.Mathlib.Decide.{ℕ_discrete}
use lib.ListN.{get_elem?}
use Rattle.std.specs.Prelude.{slice_index}
use Rattle.std.specs.List.{Contains}
use Rattle.atomic_table.specs.Table.{step, keeps, takes, gives, rest, put_back, Allows}
use Rattle.atomic_table.proofs.Lists.{set_again}
use Rattle.turn_book.specs.declared.view.View.{View}
use Rattle.turn_book.specs.Entries.{AddsAtMostOne}
use Rattle.turn_book.specs.Kept.{Standing, Fits, Kept, Turntable}
use Rattle.turn_book.specs.Told.{looked, passed, held, Seated}
use Rattle.turn_book.proofs.Lists.{prefix_self, Grown, grown}
use Rattle.turn_book.proofs.Views.{set_there, each_set}

-- a lock that was free is held, and one that was not stays as it was
pub held_from_then : (x : ℕ) → either (eqb x 0) 1 x ≢ 0
held_from_then x = ⊎_elim
    (λ (t : (eqb x 0 ≡ true) × (x ≡ 0)) e. let is : 1 ≡ 0 = sym (ap (λ b. either b 1 x) t.0) ∙ e in cc is)
    (λ (t : (eqb x 0 ≡ false) × (x ≢ 0)) e. t.1 (sym (ap (λ b. either b 1 x) t.0) ∙ e))
    (eqb_tells x 0)

pub not_true : (b : Bool) → ¬ (b ≡ true) → b ≡ false
not_true true h = absurd (h refl)
not_true false h = refl

module _ {S E : Type 0} (entries : S → List E) (names : E → ℕ) where
  -- a view that stays as it was, beside a lock that is free where it was
  still : (s : Turntable S E) (k : Kept entries names s) (id : ℕ) (v : View E) (lock : ℕ) (ws : List ℕ) → get_elem? s.views id ≡ some v
      → ws ≡ lock ∷ [] → (k.z.taken ≡ true → lock ≢ 0) → (k.z.taken ≡ false → lock ≡ 0)
      → Kept entries names record { words = ws; homes = s.homes; views = set s.views id v }
  still s k id v lock ws at is locked unlocked = subst (λ (vs : List (View E)). Kept entries names record { words = ws; homes = s.homes; views = vs })
      (sym (set_again s.views id v at))
      record {
        z = k.z;
        lock = lock;
        words = is;
        locked = locked;
        unlocked = unlocked;
        fits = k.fits;
        closed = k.closed;
        once = k.once;
        named = k.named;
        home = k.home;
        away = k.away;
      }

  -- the lock is held from then on, by this seat where it was free
  pub sees : (n slots id first second : ℕ) (f : ℕ → ℕ) (me : Seated S E) → me.0.number ≡ Some n → me.0.in_turn ≡ false → me.1 ≡ []
      → ((x : ℕ) → f x ≢ 0) → Allows (Kept entries names) slots id me 0 f (looked entries names (step slots 0 first second none) me)
  sees n slots id first second f me number out empty holds s k wide at small =
      let z = k.z in
      let v : View E = me.0 in
      let g = k.fits id v at in
      let lock : ℕ = f k.lock in
      let found : slice_index s.words 0 ≡ k.lock = ap (λ (ws : List ℕ). slice_index ws 0) k.words in
      let words : set s.words 0 (f (slice_index s.words 0)) ≡ lock ∷ [] = ap (λ (ws : List ℕ). set ws 0 (f (slice_index ws 0))) k.words in
      dite (ℕ_discrete k.lock 0)
      (λ hit.
      let free : z.taken ≡ false = not_true z.taken (λ taken. k.locked taken hit) in
      let h = k.home free in
      let x : S = h.0 in
      let w : View E = record v { seen = z.log; in_turn = true; looks = v.looks + 1 } in
      let z' : Standing E = record z { taken = true; holder = id } in
      let here : Fits names z' id w = record {
        seen = prefix_self z.log;
        beside = g.beside;
        mine = λ m e. refl;
        placed = g.placed;
        named = g.named;
        going = g.going;
        turns = λ _. (refl, refl, refl);
        numbered = λ _. (n, number);
        first = g.first;
      } in
      let there : (j : ℕ) (u : View E) → j ≢ id → get_elem? s.views j ≡ some u → Fits names z' j u = λ j u ne e.
      let o = k.fits j u e in
      record {
        seen = o.seen;
        beside = o.beside;
        mine = o.mine;
        placed = o.placed;
        named = o.named;
        going = o.going;
        turns = λ q. let taken : z.taken ≡ true = (o.turns q).0 in absurd (cc (free, taken));
        numbered = o.numbered;
        first = o.first;
      } in (
        w,
        takes 0 (Some x),
        ap (λ (hs : List (maybe.Option (Option S))). get_elem? hs 0) h.1,
        record {
          z = z';
          lock = lock;
          words = words;
          locked = λ _. holds k.lock;
          unlocked = λ e. absurd (cc e);
          fits = each_set (Fits names z') s.views id w here there;
          closed = k.closed;
          once = k.once;
          named = k.named;
          home = λ e. absurd (cc e);
          away = λ _. (ap (λ (hs : List (maybe.Option (Option S))). set hs 0 none) h.1, (w, set_there s.views id v w at, refl));
        },
        (
          (λ _. record {
            value = x;
            holds = ap (λ (cs : List (ℕ × Option S)). (0, Some x) ∷ cs) empty;
            whole = sym h.2;
            view = refl;
            begins = g.seen;
            mine = g.mine;
          }),
          (λ other. absurd (other (found ∙ hit))),
        ),
      ))
      (λ miss. (
        v,
        keeps,
        tt,
        still s k id v lock (set s.words 0 (f (slice_index s.words 0))) at words (λ _. holds k.lock) (λ free. absurd (miss (k.unlocked free))),
        ((λ free. absurd (miss (sym found ∙ free))), (λ _. refl)),
      ))

  pub passes : (n slots id : ℕ) (me : Seated S E) (x : S) → me.0.number ≡ Some n → me.0.in_turn ≡ true → me.1 ≡ (0, Some x) ∷ []
      → AddsAtMostOne names n me.0.seen (entries x)
      → Allows (Kept entries names) slots id me 0 (λ _. 0) (passed entries (step slots 0 0 0 none) me)
  passes n slots id me x number turn carried adds s k wide at small =
      let z = k.z in
      let v : View E = me.0 in
      let f = k.fits id v at in
      let t = f.turns turn in
      let gr : Grown names n z.log (entries x) = grown names n z.log (entries x) (subst (λ (l : List E). AddsAtMostOne names n l (entries x)) t.2 adds) in
      let w : View E = record v { seen = entries x; in_turn = false } in
      let z' : Standing E = record z { log = entries x; taken = false } in
      let mine_place : z.place n ≡ id = f.placed n number in
      let here : Fits names z' id w = record {
        seen = prefix_self (entries x);
        beside = gr.begins v.beside f.beside;
        mine = λ m e. refl;
        placed = f.placed;
        named = f.named;
        going = f.going;
        turns = λ e. absurd (cc e);
        numbered = λ e. absurd (cc e);
        first = f.first;
      } in
      let there : (j : ℕ) (u : View E) → j ≢ id → get_elem? s.views j ≡ some u → Fits names z' j u = λ j u ne e.
      let g = k.fits j u e in
      record {
        seen = gr.begins u.seen g.seen;
        beside = gr.begins u.beside g.beside;
        mine = λ m h. gr.others m (λ same. ne (sym (g.placed m h) ∙ (ap z.place same ∙ mine_place))) ∙ g.mine m h;
        placed = g.placed;
        named = g.named;
        going = g.going;
        turns = λ h. absurd (ne (sym (g.turns h).1 ∙ t.1));
        numbered = g.numbered;
        first = g.first;
      } in
      let back : put_back s.homes me.1 ≡ some (Some x) ∷ [] = λ i. put_back ((k.away t.0).0 i) (carried i) in (
        w,
        gives,
        tt,
        record {
          z = z';
          lock = 0;
          words = ap (λ (ws : List ℕ). set ws 0 0) k.words;
          locked = λ e. absurd (cc e);
          unlocked = λ _. refl;
          fits = each_set (Fits names z') s.views id w here there;
          closed = λ m l c. let r = k.closed m l c in (r.0, gr.others m (λ same. f.going n number l (subst (λ (i : ℕ). Contains z.ended (i, l)) same c)) ∙ r.1);
          once = k.once;
          named = gr.named z.given (f.named n number) k.named;
          home = λ _. (x, back, refl);
          away = λ e. absurd (cc e);
        },
        (λ i. (record v { seen = sym (ap (held entries) carried) i; in_turn = false }, ap rest carried i)),
      )
