-- A book that was just made meets the rule. Seats that are split, joined and settled keep it, and a book that is closed gives its whole history.
use Rattle.std.proofs.Common.{◌≡◌, ℕ, ◌<◌, ◌≢◌, ◌⊎◌, inl, inr, ⊎_elim, true, false, List, [], ◌∷◌, ◌++◌, length, set, refl, ap, sym, subst, ◌∙◌, arith, Option, Some}
use mathlib.Core.Option.{some, none, some-injective, some-ne-none}
use mathlib.Core.List.{IsPrefix}
use mathlib.Core.Logic.{dite}
use native.Mathlib.Decide.{dec_le}
use lib.ListN.{get_elem?}
use Rattle.std.specs.Prelude.{slice_index}
use Rattle.std.specs.List.{Contains}
use Rattle.std.proofs.lemmas.List.Elements.{All-nil, All-weaker, Contains-push, Contains-push_cases, Contains-append_left}
use Rattle.atomic_table.specs.Table.{Act, step, keeps, Valid, stepped, carried_after, opening, Allows, Splits, Joins, Final, Seen}
use Rattle.atomic_table.proofs.Lists.{set_again, set_else}
use Rattle.turn_book.specs.declared.view.View.{View}
use Rattle.turn_book.specs.Entries.{entries_of, NamesGiven}
use Rattle.turn_book.specs.Kept.{Standing, IsOnce, At, Fits, Kept, Turntable, IsInTurn}
use Rattle.turn_book.specs.Told.{first_view, spent, bare, left_of, right_of, both_seen, both_ended, ended_of, settled, Seated}
use Rattle.turn_book.proofs.Put.{put, put_at, put_else}
use Rattle.turn_book.proofs.Lists.{prefix_shorter, prefix_self, none_of, entries_of-between, not_in_none, once_push}
use Rattle.turn_book.proofs.Views.{same_there, each_set, each_push, find_set, find_push}
use Rattle.turn_book.proofs.Turning.{not_true}

module _ {S E : Type 0} (entries : S → List E) (names : E → ℕ) where
  pub starts : (x : S) → entries x ≡ [] → Kept entries names (opening (0 ∷ []) (Some x ∷ []) first_view)
  starts x empty =
      let z : Standing E = record { log = []; place = λ _. 0; given = []; ended = []; taken = false; holder = 0 } in
      let here : Fits names z 0 first_view = record {
        seen = ([], refl);
        beside = ([], refl);
        mine = λ n e. refl;
        placed = λ n e. refl;
        named = λ n e. let is : 0 ≡ n = cc e in inl (sym is);
        going = λ n e l c. not_in_none (n, l) c;
        turns = λ e. absurd (cc e);
        numbered = λ e. absurd (cc e);
        first = λ e. (refl, refl);
      } in
      record {
        z = z;
        lock = 0;
        words = refl;
        locked = λ e. absurd (cc e);
        unlocked = λ _. refl;
        fits = each_push (Fits names z) [] first_view here (λ j u e. absurd (some-ne-none u (sym e)));
        closed = λ n l c. absurd (not_in_none (n, l) c);
        once = tt;
        named = All-nil (λ e. (names e ≡ 0) ⊎ Contains [] (names e));
        home = λ _. (x, refl, empty);
        away = λ e. absurd (cc e);
      }

  pub splits : (number id : ℕ) (v : View E) → v.number ≡ Some 0 → 0 < number → ¬ Contains v.given number
      → Splits (Kept entries names) id v (left_of number v) (right_of number v)
  splits number id v zero_is pos new s k at =
      let z = k.z in
      let f = k.fits id v at in
      let same = f.first zero_is in
      let new' : ¬ Contains z.given number = λ c. new (subst (λ (g : List ℕ). Contains g number) (sym same.0) c) in
      let other : (n : ℕ) → (n ≡ 0) ⊎ Contains z.given n → n ≢ number =
      λ n h e. ⊎_elim (λ (q : n ≡ 0). absurd (omega arith)) (λ (c : Contains z.given n). new' (subst (λ (m : ℕ). Contains z.given m) e c)) h in
      let w : View E = left_of number v in
      let views : List (View E) = set s.views id w in
      let r : View E = right_of number v in
      let given : List ℕ = z.given ++ number ∷ [] in
      let place : ℕ → ℕ = put z.place number (length views) in
      let z' : Standing E = record z { given = given; place = place } in
      let known : (n : ℕ) → (n ≡ 0) ⊎ Contains z.given n → (n ≡ 0) ⊎ Contains given n = λ n h.
      ⊎_elim (λ q. inl q) (λ c. inr (Contains-append_left z.given (number ∷ []) n c)) h in
      let here : Fits names z' id w = record {
        seen = f.seen;
        beside = f.beside;
        mine = f.mine;
        placed = λ n e. put_else z.place number (length views) n (other n (f.named n e)) ∙ f.placed n e;
        named = λ n e. known n (f.named n e);
        going = f.going;
        turns = f.turns;
        numbered = f.numbered;
        first = λ e. (ap (λ (g : List ℕ). g ++ number ∷ []) same.0, same.1);
      } in
      let there : (j : ℕ) (u : View E) → j ≢ id → get_elem? s.views j ≡ some u → Fits names z' j u = λ j u ne e.
      let g = k.fits j u e in
      record {
        seen = g.seen;
        beside = g.beside;
        mine = g.mine;
        placed = λ n h. put_else z.place number (length views) n (other n (g.named n h)) ∙ g.placed n h;
        named = λ n h. known n (g.named n h);
        going = g.going;
        turns = g.turns;
        numbered = g.numbered;
        first = λ h. absurd (ne (sym (g.placed 0 h) ∙ f.placed 0 zero_is));
      } in
      let fresh : Fits names z' (length views) r = record {
        seen = (z.log, refl);
        beside = f.seen;
        mine = λ n e. let is : number ≡ n = cc e in subst (λ (m : ℕ). entries_of names m z.log ≡ []) is
            (none_of names number z.given z.log (λ q. omega arith) new' k.named);
        placed = λ n e. let is : number ≡ n = cc e in put_at z.place number (length views) n (sym is);
        named = λ n e. let is : number ≡ n = cc e in inr (subst (λ (m : ℕ). Contains given m) is (Contains-push z.given number));
        going = λ n e l c. let is : number ≡ n = cc e in new' (subst (λ (m : ℕ). Contains z.given m) (sym is) (k.closed n l c).0);
        turns = λ e. absurd (cc e);
        numbered = λ e. absurd (cc e);
        first = λ e. let is : number ≡ 0 = cc e in absurd (omega arith);
      } in
      record {
        z = z';
        lock = k.lock;
        words = k.words;
        locked = k.locked;
        unlocked = k.unlocked;
        fits = each_push (Fits names z') views r fresh (each_set (Fits names z') s.views id w here there);
        closed = λ n l c. let h = k.closed n l c in (Contains-append_left z.given (number ∷ []) n h.0, h.1);
        once = k.once;
        named = All-weaker (λ e. (names e ≡ 0) ⊎ Contains z.given (names e)) (λ e. (names e ≡ 0) ⊎ Contains given (names e))
            (λ e h. known (names e) h) z.log k.named;
        home = k.home;
        away = λ e. let a = k.away e in
            (a.0, find_push IsInTurn views z.holder r (find_set IsInTurn s.views id z.holder v w at (λ h. h) a.1));
      }

  pub splits_bare : (id : ℕ) (v : View E) → Splits (Kept entries names) id v v (bare v)
  splits_bare id v s k at =
      let z = k.z in
      let f = k.fits id v at in
      let fresh : Fits names z (length s.views) (bare v) = record {
        seen = f.seen;
        beside = (z.log, refl);
        mine = λ n e. absurd (cc e);
        placed = λ n e. absurd (cc e);
        named = λ n e. absurd (cc e);
        going = λ n e. absurd (cc e);
        turns = λ e. absurd (cc e);
        numbered = λ e. absurd (cc e);
        first = λ e. absurd (cc e);
      } in
      subst (λ (vs : List (View E)). Kept entries names record { words = s.words; homes = s.homes; views = vs ++ bare v ∷ [] })
      (sym (set_again s.views id v at)) record {
        z = z;
        lock = k.lock;
        words = k.words;
        locked = k.locked;
        unlocked = k.unlocked;
        fits = each_push (Fits names z) s.views (bare v) fresh k.fits;
        closed = k.closed;
        once = k.once;
        named = k.named;
        home = k.home;
        away = λ e. let a = k.away e in (a.0, find_push IsInTurn s.views (z.holder) (bare v) a.1);
      }

  -- the seat `other` is spent, and `id` keeps what it had seen. The numbers ended become `ended'`, as `id` knows them
  joined : (s : Turntable S E) (k : Kept entries names s) (id other : ℕ) (v w : View E) (ended ended' : List (ℕ × List E))
      → get_elem? s.views id ≡ some v → ¬ (other ≡ id) → get_elem? (set s.views id (record v { beside = w.seen; ended = ended })) other ≡ some w
      → w.in_turn ≡ false
      → (v.number ≡ Some 0 → ended ≡ ended')
      → ((j : ℕ) (u : View E) → j ≢ id → get_elem? s.views j ≡ some u → u.number ≡ Some 0 → u.ended ≡ ended')
      → ((j : ℕ) (u : View E) → j ≢ other → get_elem? s.views j ≡ some u → (n : ℕ) → u.number ≡ Some n → (l : List E) → ¬ Contains ended' (n, l))
      → ((n : ℕ) (l : List E) → Contains ended' (n, l) → Contains k.z.given n × (entries_of names n k.z.log ≡ l))
      → IsOnce ended'
      → Kept entries names record { words = s.words; homes = s.homes; views = set (set s.views id (record v { beside = w.seen; ended = ended })) other spent }
  joined s k id other v w ended ended' at apart there out mine others going closed once =
      let z = k.z in
      let f = k.fits id v at in
      let b : View E = record v { beside = w.seen; ended = ended } in
      let views : List (View E) = set s.views id b in
      let at_other : get_elem? s.views other ≡ some w = sym (set_else s.views id other b apart) ∙ there in
      let h = k.fits other w at_other in
      let z' : Standing E = record z { ended = ended' } in
      let gone : Fits names z' other spent = record {
        seen = (z.log, refl);
        beside = (z.log, refl);
        mine = λ n e. absurd (cc e);
        placed = λ n e. absurd (cc e);
        named = λ n e. absurd (cc e);
        going = λ n e. absurd (cc e);
        turns = λ e. absurd (cc e);
        numbered = λ e. absurd (cc e);
        first = λ e. absurd (cc e);
      } in
      let here : Fits names z' id b = record {
        seen = f.seen;
        beside = h.seen;
        mine = f.mine;
        placed = f.placed;
        named = f.named;
        going = λ n e l c. going id v (λ q. apart (sym q)) at n e l c;
        turns = f.turns;
        numbered = f.numbered;
        first = λ e. ((f.first e).0, mine e);
      } in
      let elsewhere : (j : ℕ) (u : View E) → j ≢ id → get_elem? s.views j ≡ some u → j ≢ other → Fits names z' j u = λ j u ne e no_other.
      let g = k.fits j u e in
      record {
        seen = g.seen;
        beside = g.beside;
        mine = g.mine;
        placed = g.placed;
        named = g.named;
        going = λ n q l c. going j u no_other e n q l c;
        turns = g.turns;
        numbered = g.numbered;
        first = λ q. ((g.first q).0, others j u ne e q);
      } in
      let keep : (Q : View E → Type 0) (i : ℕ) → (Q v → Q b) → (Q w → Q spent) → At Q s.views i → At Q (set views other spent) i = λ Q i p q a.
      find_set Q views other i w spent there q (find_set Q s.views id i v b at p a) in
      record {
        z = z';
        lock = k.lock;
        words = k.words;
        locked = k.locked;
        unlocked = k.unlocked;
        fits = each_set (Fits names z') views other spent gone
            (λ j u ne e. each_set (λ i t. i ≢ other → Fits names z' i t) s.views id b (λ _. here) elsewhere j u e ne);
        closed = closed;
        once = once;
        named = k.named;
        home = k.home;
        away = λ e. let a = k.away e in (a.0, keep IsInTurn (z.holder) (λ q. q) (λ q. absurd (cc (out, q))) a.1);
      }

  pub meets : (id : ℕ) (v : View E) (other : ℕ) (w : View E) → w.in_turn ≡ false
      → Joins (Kept entries names) id v other w (both_seen v w) spent
  meets id v other w out s k at apart there =
      let z = k.z in
      joined s k id other v w v.ended z.ended at apart there out
      (λ e. ((k.fits id v at).first e).1)
      (λ j u ne e q. ((k.fits j u e).first q).1)
      (λ j u ne e. (k.fits j u e).going)
      k.closed
      k.once

  pub ends : (id : ℕ) (v : View E) (other : ℕ) (w : View E) (n : ℕ) → v.number ≡ Some 0 → w.number ≡ Some n → w.in_turn ≡ false
      → Joins (Kept entries names) id v other w (both_ended names v w) spent
  ends id v other w n zero_is number out s k at apart there =
      let z = k.z in
      let f = k.fits id v at in
      let b : View E = both_ended names v w in
      let at_other : get_elem? s.views other ≡ some w = sym (set_else s.views id other b apart) ∙ there in
      let h = k.fits other w at_other in
      let last : List E = entries_of names n w.seen in
      let ended' : List (ℕ × List E) = z.ended ++ (n, last) ∷ [] in
      let known : v.ended ++ ended_of names w.number w.seen ≡ ended' = λ i. (f.first zero_is).1 i ++ ended_of names (number i) w.seen in
      let given : Contains z.given n = ⊎_elim (λ (q : n ≡ 0). absurd (apart (sym (h.placed n number) ∙ (ap z.place q ∙ f.placed 0 zero_is))))
      (λ c. c) (h.named n number) in
      joined s k id other v w (v.ended ++ ended_of names w.number w.seen) ended' at apart there out
      (λ _. known)
      (λ j u ne e q. absurd (ne (sym ((k.fits j u e).placed 0 q) ∙ f.placed 0 zero_is)))
      (λ j u ne e m q l c. let g = k.fits j u e in ⊎_elim
      (λ (a : Contains z.ended (m, l)). g.going m q l a)
      (λ (is : (n, last) ≡ (m, l)). ne (sym (g.placed m q) ∙ (ap z.place (sym (ap (λ (y : ℕ × List E). y.0) is)) ∙ h.placed n number)))
      (Contains-push_cases z.ended (n, last) (m, l) c))
      (λ m l c. ⊎_elim
      (λ (a : Contains z.ended (m, l)). k.closed m l a)
      (λ (is : (n, last) ≡ (m, l)). subst (λ (y : ℕ × List E). Contains z.given y.0 × (entries_of names y.0 z.log ≡ y.1)) is (given, h.mine n number))
      (Contains-push_cases z.ended (n, last) (m, l) c))
      (once_push z.ended n last k.once (h.going n number))

  pub settles : (slots id : ℕ) (me : Seated S E) → me.0.in_turn ≡ false
      → Allows (Kept entries names) slots id me 0 (λ x. x) (settled names (step slots 0 0 0 none) me)
  settles slots id me out s k wide at small =
      let z = k.z in
      let v : View E = me.0 in
      let f = k.fits id v at in
      let Goes : Type 0 = (w : View E) × (a : Act (Option S)) × Valid s.homes me.1 a
      × Kept entries names (stepped s 0 (slice_index s.words 0) id me.1 w a)
      × settled names (step slots 0 0 0 none) me (slice_index s.words 0) (w, carried_after me.1 a) in
      let settle : (longer : List E) → (longer ≡ v.seen) ⊎ (longer ≡ v.beside) → IsPrefix v.seen longer → IsPrefix v.beside longer
      → IsPrefix longer z.log → Goes = λ longer one this that whole.
      let w : View E = record v { seen = longer } in
      let same : (n : ℕ) → v.number ≡ Some n → entries_of names n longer ≡ entries_of names n v.seen =
      λ n e. entries_of-between names n v.seen longer z.log this whole (f.mine n e) in
      let here : Fits names z id w = record {
        seen = whole;
        beside = f.beside;
        mine = λ n e. f.mine n e ∙ sym (same n e);
        placed = f.placed;
        named = f.named;
        going = f.going;
        turns = λ e. absurd (cc (out, e));
        numbered = f.numbered;
        first = f.first;
      } in (
        w,
        keeps,
        tt,
        record {
          z = z;
          lock = k.lock;
          words = ap (λ (ws : List ℕ). set ws 0 (slice_index ws 0)) k.words;
          locked = k.locked;
          unlocked = k.unlocked;
          fits = each_set (Fits names z) s.views id w here (λ j u ne e. k.fits j u e);
          closed = k.closed;
          once = k.once;
          named = k.named;
          home = k.home;
          away = λ e. let a = k.away e in (a.0, find_set IsInTurn s.views id (z.holder) v w at (λ q. q) a.1);
        },
        record {
          view = refl;
          one = one;
          this = this;
          that = that;
          mine = same;
          given = λ e n l c. let q = f.first e in subst (λ (g : List ℕ). Contains g n) (sym q.0)
              (k.closed n l (subst (λ (d : List (ℕ × List E)). Contains d (n, l)) q.1 c)).0;
          once = λ e. subst IsOnce (sym (f.first e).1) k.once;
        },
      ) in
      dite (dec_le (length v.seen) (length v.beside))
      (λ le. settle v.beside (inr refl) (prefix_shorter v.seen v.beside z.log f.seen f.beside le) (prefix_self v.beside) f.beside)
      (λ gt. settle v.seen (inl refl) (prefix_self v.seen) (prefix_shorter v.beside v.seen z.log f.beside f.seen (omega arith)) f.seen)

  -- the whole history, as a seat knew it that knew the entries of all others
  pub record Whole (v : View E) (x : S) : Type 0 where
    pub begins : IsPrefix v.seen (entries x)
    pub first : entries_of names 0 (entries x) ≡ entries_of names 0 v.seen
    pub ended : (n : ℕ) (l : List E) → Contains v.ended (n, l) → entries_of names n (entries x) ≡ l
    pub others : NamesGiven names v.given (entries x)

  closes : (id : ℕ) (v : View E) (ws : List ℕ) (xs : List (Option S)) → v.number ≡ Some 0 → v.in_turn ≡ false
      → ((n : ℕ) → Contains v.given n → (l : List E) × Contains v.ended (n, l))
      → Final (Seen (Kept entries names) id v) ws xs → (x : S) × (get_elem? xs 0 ≡ some (Some x)) × Whole v x
  closes id v ws xs zero_is out all (s, (k, at), _, _, values) =
      let z = k.z in
      let f = k.fits id v at in
      let same = f.first zero_is in
      let free : z.taken ≡ false = not_true z.taken (λ taken.
      let u = (k.away taken).1 in
      let g = k.fits z.holder u.0 u.1 in
      let numbered = g.numbered u.2 in
      let n = numbered.0 in
      ⊎_elim
      (λ (q : n ≡ 0).
      let one : u.0 ≡ v = same_there s.views z.holder id u.0 v u.1 at (sym (g.placed n numbered.1) ∙ (ap z.place q ∙ f.placed 0 zero_is)) in
      let both : v.in_turn ≡ true = sym (ap (λ (t : View E). t.in_turn) one) ∙ u.2 in
      cc (out, both))
      (λ (c : Contains z.given n).
      let e = all n (subst (λ (l : List ℕ). Contains l n) (sym same.0) c) in
      g.going n numbered.1 e.0 (subst (λ (d : List (ℕ × List E)). Contains d (n, e.0)) same.1 e.1))
      (g.named n numbered.1)) in
      let h = k.home free in
      let at_home : get_elem? s.homes 0 ≡ some (some (Some h.0)) = ap (λ hs. get_elem? hs 0) h.1 in
      let is : z.log ≡ entries h.0 = sym h.2 in (
        h.0,
        values 0 (Some h.0) at_home,
        record {
          begins = subst (λ (l : List E). IsPrefix v.seen l) is f.seen;
          first = ap (entries_of names 0) (sym is) ∙ f.mine 0 zero_is;
          ended = λ n l c. ap (entries_of names n) (sym is) ∙ (k.closed n l (subst (λ (d : List (ℕ × List E)). Contains d (n, l)) same.1 c)).1;
          others = subst (λ (l : List E). NamesGiven names v.given l) is (subst (λ (g : List ℕ). NamesGiven names g z.log) (sym same.0) k.named);
        },
      )

  -- what stands in the slot is the value with the whole history
  pub closes_at : (id : ℕ) (v : View E) (ws : List ℕ) (xs : List (Option S)) (y : Option S) → v.number ≡ Some 0 → v.in_turn ≡ false
      → ((n : ℕ) → Contains v.given n → (l : List E) × Contains v.ended (n, l))
      → Final (Seen (Kept entries names) id v) ws xs → get_elem? xs 0 ≡ some y → (x : S) × (y ≡ Some x) × Whole v x
  closes_at id v ws xs y zero_is out all final there =
      let whole = closes id v ws xs zero_is out all final in
      (whole.0, some-injective y (Some whole.0) (sym there ∙ whole.1), whole.2)
