-- Each call keeps the rule of a mailbox.
use Rattle.std.proofs.Common.{◌≡◌, ◌≢◌, ℕ, cond, ◌+◌, ◌^◌, ◌≤◌, true, false, true≢false, List, [], ◌∷◌, ◌++◌, map, length, set, get_or}
use Rattle.std.proofs.Common.{Result, Ok, Err, OnErr, sym, refl, ap, ◌∙◌, subst, append_assoc, append-nil, eq-eqb, ne_eqb, arith}
use mathlib.Core.Option.{some, some-injective, some-ne-none}
use mathlib.Core.Logic.{dite}
use native.Mathlib.Decide.{dec_le, ℕ_discrete}
use lib.ListN.{get_elem?}
use Rattle.std.proofs.Math.ListN.{length-set, length-append}
use Rattle.crossbeam_queue.specs.Fifo.{Pushes, Pops, Merges, Learns}
use Rattle.crossbeam_queue.proofs.Lists.{set_else}
use Rattle.mailbox.specs.declared.rule.View.{View}
use Rattle.mailbox.specs.Interleaving.{IsInterleaving, HasAll, IsMoreLeft}
use Rattle.mailbox.specs.Shares.{parts_of, AreWhole}
use Rattle.mailbox.specs.Ordered.{putter, taker, opener, spent, after_put, after_take, asked_once, joined_with}
use Rattle.mailbox.specs.Ordered.{receipt_of, told_by}
use Rattle.mailbox.specs.Ordered.{pass_number, joined_place, Put, all_of, sent_by, FitsPass, IsDated, IsInOrder}
use Rattle.mailbox.proofs.Places.{within, stands, get_or-length, get_or-snoc_here, get_or-snoc_else, EachView, EachView-set, EachView-snoc}
use Rattle.mailbox.proofs.Places.{total-set, others_none}
use Rattle.mailbox.proofs.Parts.{AreAtMost-append, parts_of-append}
use Rattle.mailbox.proofs.Parts.{no_shares, whole_parts}
use Rattle.mailbox.proofs.Logs.{all_of-snoc, sent_by-same, sent_by-other, renamed, all_of-renamed, sent_by-renamed, interleaved, has_all, has_nothing, has_more}

pub begins : IsInOrder [] (opener ∷ [])
begins = record {
  taker_number = 0;
  taken = [];
  log = [];
  finest = 0;
  asked = 0;
  in_order = refl;
  whole = refl;
  none_beyond = λ _ _. refl;
  fits = EachView-snoc (FitsPass 0 [] [] 0) [] opener (λ _ v e. absurd (some-ne-none v (sym e)))
      record {
        sent_is = refl;
        coarse = (omega arith, tt);
        idle = λ _. refl;
        own = has_nothing [];
        takes = λ _. record { one = refl; taken_is = refl; silent = refl; known = λ _. refl };
      };
  dated = EachView-snoc (λ _ v. IsDated 0 v) [] opener (λ _ v e. absurd (some-ne-none v (sym e)))
      record { taker = λ _. refl; witness = λ t. absurd (true≢false t) };
}

-- what is known to be among all puts stays so
own_more : (own : List ℕ) (log : List Put) (put : Put) → HasAll (own ∷ []) (all_of log) → HasAll (own ∷ []) (all_of (log ++ put ∷ []))
own_more own log put has = subst (HasAll (own ∷ [])) (sym (all_of-snoc log put)) (has_more own (all_of log) put.number has)

-- what a put pass leaves to the others
other_put : (taker_number : ℕ) (taken : List ℕ) (log : List Put) (finest by x : ℕ) (number : ℕ) (v : View) → number ≢ by
    → FitsPass taker_number taken log finest number v
    → FitsPass taker_number taken (log ++ record { sender = pass_number by; number = x } ∷ []) finest number v
other_put taker_number taken log finest by x number v apart old = let put : Put = record { sender = pass_number by; number = x } in record {
  sent_is = sent_by-other (pass_number number) log put (ne_eqb by number (λ e. apart (sym e))) ∙ old.sent_is;
  coarse = old.coarse;
  idle = old.idle;
  own = own_more v.own log put old.own;
  takes = λ t. let o = old.takes t in record {
    one = o.one;
    taken_is = o.taken_is;
    silent = o.silent;
    known = λ k. sent_by-other (joined_place k) log put refl ∙ o.known k;
  };
}

pub puts : (n port : ℕ) (v : View) (x splits : ℕ) → v ≡ putter splits v.sent v.asked
    → Pushes IsInOrder n port v x (λ w. w ≡ after_put v x)
puts n port v x splits is items views _ b at =
    let w : View = after_put v x in
    let put : Put = record { sender = pass_number port; number = x } in
    let log : List Put = b.log ++ put ∷ [] in
    let old = b.fits port v at in
    let here = within views port v at in (
      w,
      record {
        taker_number = b.taker_number;
        taken = b.taken;
        log = log;
        finest = b.finest;
        asked = b.asked;
        in_order = all_of-snoc b.log put ∙ ap (λ l. l ++ x ∷ []) b.in_order ∙ append_assoc b.taken items (x ∷ []);
        whole = let s = total-set (λ u. parts_of b.finest u.splits) views port v w at in let t = b.whole in omega arith;
        none_beyond = λ number far. let far' : length views ≤ number = subst (λ k. k ≤ number) (length-set views port w) far in
            sent_by-other (pass_number number) b.log put (ne_eqb port number (λ e. absurd (omega arith))) ∙ b.none_beyond number far';
        fits = EachView-set (FitsPass b.taker_number b.taken log b.finest) views port w
            record {
              sent_is = sent_by-same (pass_number port) b.log put (eq-eqb port port refl) ∙ ap (λ l. l ++ x ∷ []) old.sent_is;
              coarse = old.coarse;
              idle = λ e. let f : splits ∷ [] ≡ [] = sym (ap (λ (u : View). u.splits) is) ∙ e in absurd cc;
              own = own_more v.own b.log put old.own;
              takes = λ t. absurd (true≢false (sym t ∙ ap (λ (u : View). u.takes) is));
            }
            (λ j u apart e. other_put b.taker_number b.taken b.log b.finest port x j u apart (b.fits j u e));
        dated = EachView-set (λ _ u. IsDated b.asked u) views port w
            (let d = b.dated port v at in record { taker = d.taker; witness = d.witness }) (λ j u _ e. b.dated j u e);
      },
      refl,
    )

-- once one pass has the whole right to put, the others have put nothing that it doesn't know
others_silent : (items : List ℕ) (views : List View) (b : IsInOrder items views) (port : ℕ) (v : View) → get_elem? views port ≡ some v → v.sent ≡ []
    → parts_of b.finest v.splits ≡ 2 ^ b.finest
    → (j : ℕ) → sent_by (pass_number j) b.log ≡ []
others_silent items views b port v at silent full j = dite (dec_le (length views) j) (b.none_beyond j) (λ near.
    let found = stands views j (omega arith) in
    let u : View = found.0 in
    let there : get_elem? views j ≡ some u = found.1 in
    let fit = b.fits j u there in
    fit.sent_is ∙ dite (ℕ_discrete j port)
    (λ e. ap (λ (y : View). y.sent) (some-injective u v (sym there ∙ ap (get_elem? views) e ∙ at)) ∙ silent)
    (λ apart. fit.idle (no_shares b.finest u.splits
    (others_none (λ y. parts_of b.finest y.splits) views port v spent at refl (b.whole ∙ sym full) j u apart there))))

pub learns : (port : ℕ) (v : View) → Learns IsInOrder port v (λ items. v.takes ≡ true → HasAll v.joined (v.taken ++ items)
    × HasAll (v.own ∷ []) (v.taken ++ items) × (AreWhole v.splits → IsInterleaving v.joined (v.taken ++ items)))
learns port v items views b at may =
    let old = b.fits port v at in
    let mine = old.takes may in
    let order = b.in_order ∙ ap (λ l. l ++ items) (sym mine.taken_is) in (
      has_all b.log v.joined (v.taken ++ items) order mine.known,
      subst (HasAll (v.own ∷ [])) order old.own,
      λ whole. interleaved b.log v.joined (v.taken ++ items)
          (others_silent items views b port v at mine.silent (whole_parts b.finest v.splits old.coarse whole)) order mine.known,
    )

pub takes : (port : ℕ) (v : View) → v.takes ≡ true
    → Pops IsInOrder port v (λ x w. (w ≡ after_take v x) × (AreWhole v.splits → IsMoreLeft v.joined v.taken))
takes port v may x items views b at =
    let w : View = after_take v x in
    let taken : List ℕ = b.taken ++ x ∷ [] in
    let old = b.fits port v at in
    let mine = old.takes may in (
      w,
      record {
        taker_number = b.taker_number;
        taken = taken;
        log = b.log;
        finest = b.finest;
        asked = b.asked;
        in_order = b.in_order ∙ sym (append_assoc b.taken (x ∷ []) items);
        whole = let s = total-set (λ u. parts_of b.finest u.splits) views port v w at in let t = b.whole in omega arith;
        none_beyond = λ number far. b.none_beyond number (subst (λ k. k ≤ number) (length-set views port w) far);
        fits = EachView-set (FitsPass b.taker_number taken b.log b.finest) views port w
            record {
              sent_is = old.sent_is;
              coarse = old.coarse;
              idle = old.idle;
              own = old.own;
              takes = λ _. record { one = mine.one; taken_is = ap (λ l. l ++ x ∷ []) mine.taken_is; silent = mine.silent; known = mine.known };
            }
            (λ j u apart e. let o = b.fits j u e in
            record { sent_is = o.sent_is; coarse = o.coarse; idle = o.idle; own = o.own; takes = λ t. absurd (apart ((o.takes t).one ∙ sym mine.one)) });
        dated = EachView-set (λ _ u. IsDated b.asked u) views port w
            (let d = b.dated port v at in record { taker = d.taker; witness = d.witness }) (λ j u _ e. b.dated j u e);
      },
      (refl, λ whole. (x ∷ items, omega arith, (learns port v (x ∷ items) views b at may).2 whole)),
    )

-- a put pass that was asked once more is still one
pub still_puts : (v w : View) (splits : ℕ) → v ≡ putter splits v.sent v.asked → w ≡ asked_once v
    → w ≡ putter splits w.sent w.asked
still_puts v w splits is after = let now : w ≡ putter splits v.sent (v.asked + 1) = after ∙ ap asked_once is in
    subst (λ (u : View). u ≡ putter splits u.sent u.asked) (sym now) refl

-- what is left behind numbers that were taken meanwhile was left before them
pub was_left : {T E : Type 0} (r : Result T E) (v w : View) (more : List ℕ) (asked : ℕ) (own : List ℕ)
    → w ≡ taker v.splits (v.taken ++ more) v.joined asked own → AreWhole v.splits
    → (AreWhole w.splits → IsMoreLeft w.joined w.taken)
    → OnErr r (IsMoreLeft v.joined v.taken)
was_left (Ok x) v w more asked own is whole left = tt
was_left (Err x) v w more asked own is whole left =
    let after = subst (λ (u : View). AreWhole u.splits → IsMoreLeft u.joined u.taken) is left whole in
    let all = subst (IsInterleaving v.joined) (append_assoc v.taken more after.0) after.2 in
    (more ++ after.0, omega (arith, length-append more after.0), all)

pub all_taken : (lists : List (List ℕ)) (taken : List ℕ) → HasAll lists (taken ++ []) → HasAll lists taken
all_taken lists taken all = rw (append-nil taken) at all

-- what the passes other than these two see of a renaming
pass_apart : (log : List Put) (j k number : ℕ) → number ≢ j → sent_by (pass_number number) (map (renamed j k) log) ≡ sent_by (pass_number number) log
pass_apart log j k number apart = sent_by-renamed j k (pass_number number) log
    ∙ ap (λ b. sent_by (cond b (joined_place k) (pass_number number)) log) (ne_eqb number j apart)

place_apart : (log : List Put) (j k place : ℕ) → place ≢ k → sent_by (joined_place place) (map (renamed j k) log) ≡ sent_by (joined_place place) log
place_apart log j k place apart = sent_by-renamed j k (joined_place place) log
    ∙ ap (λ b. sent_by (cond b (pass_number j) (joined_place place)) log) (ne_eqb place k apart)

pass_here : (log : List Put) (j k : ℕ) → sent_by (pass_number j) (map (renamed j k) log) ≡ sent_by (joined_place k) log
pass_here log j k = sent_by-renamed j k (pass_number j) log ∙ ap (λ b. sent_by (cond b (joined_place k) (pass_number j)) log) (eq-eqb j j refl)

place_here : (log : List Put) (j k : ℕ) → sent_by (joined_place k) (map (renamed j k) log) ≡ sent_by (pass_number j) log
place_here log j k = sent_by-renamed j k (joined_place k) log ∙ ap (λ b. sent_by (cond b (pass_number j) (joined_place k)) log) (eq-eqb k k refl)

-- the lists of the places once one more pass was taken in
known_more : (log : List Put) (joined : List (List ℕ)) (j : ℕ) (sent : List ℕ) → ((k : ℕ) → sent_by (joined_place k) log ≡ get_or joined k [])
    → sent_by (pass_number j) log ≡ sent
    → (k : ℕ) → sent_by (joined_place k) (map (renamed j (length joined)) log) ≡ get_or (joined ++ sent ∷ []) k []
known_more log joined j sent known is k = dite (ℕ_discrete k (length joined))
    (λ e. let P : ℕ → Type 0 = λ n. sent_by (joined_place n) (map (renamed j (length joined)) log) ≡ get_or (joined ++ sent ∷ []) n [] in
    subst P (sym e) (place_here log j (length joined) ∙ is ∙ sym (get_or-snoc_here joined sent [])))
    (λ apart. place_apart log j (length joined) k apart ∙ known k ∙ sym (get_or-snoc_else joined sent [] k apart))

pub merges : (port : ℕ) (v : View) (other : ℕ) (w : View) → v.takes ≡ true → w.takes ≡ false → Merges IsInOrder port v other w (joined_with v w) spent
merges port v other w may puts_only items views b at two at' =
    let both : View = joined_with v w in
    let vs : List View = set views port both in
    let ws : List View = set vs other spent in
    let old = b.fits port v at in
    let mine = old.takes may in
    let was : get_elem? views other ≡ some w = sym (set_else views port other both two) ∙ at' in
    let theirs = b.fits other w was in
    let place : ℕ = length v.joined in
    let log : List Put = map (renamed other place) b.log in
    let f : View → ℕ = λ u. parts_of b.finest u.splits in
    let F : ℕ → View → Type 0 = FitsPass b.taker_number b.taken log b.finest in
    let l₁ : length vs ≡ length views = length-set views port both in
    let l₂ : length ws ≡ length vs = length-set vs other spent in
    let near = within views other w was in
    let Now : ℕ → View → Type 0 = λ j u. j ≢ other → F j u in
    let both_dated : EachView (λ _ u. IsDated b.asked u) vs = EachView-set (λ _ u. IsDated b.asked u) views port both
    record { taker = λ _. (b.dated port v at).taker may; witness = λ t. absurd (true≢false (sym may ∙ t)) }
    (λ j u _ e. b.dated j u e) in
    let now : EachView Now vs = EachView-set Now views port both
    (λ apart. record {
      sent_is = pass_apart b.log other place port apart ∙ old.sent_is;
      coarse = AreAtMost-append b.finest v.splits w.splits old.coarse theirs.coarse;
      idle = λ _. mine.silent;
      own = subst (HasAll (v.own ∷ [])) (sym (all_of-renamed other place b.log)) old.own;
      takes = λ _. record {
        one = mine.one;
        taken_is = mine.taken_is;
        silent = mine.silent;
        known = known_more b.log v.joined other w.sent mine.known theirs.sent_is;
      };
    })
    (λ j u not_port e apart. let o = b.fits j u e in record {
      sent_is = pass_apart b.log other place j apart ∙ o.sent_is;
      coarse = o.coarse;
      idle = o.idle;
      own = subst (HasAll (u.own ∷ [])) (sym (all_of-renamed other place b.log)) o.own;
      takes = λ t. absurd (not_port ((o.takes t).one ∙ sym mine.one));
    }) in
    record {
      taker_number = b.taker_number;
      taken = b.taken;
      log = log;
      finest = b.finest;
      asked = b.asked;
      in_order = all_of-renamed other place b.log ∙ b.in_order;
      whole =
          let s = total-set f views port v both at in
          let t = total-set f vs other w spent at' in
          let a = parts_of-append b.finest v.splits w.splits in
          let k = b.whole in
          omega arith;
      none_beyond = λ number far. pass_apart b.log other place number (λ e. absurd (omega arith)) ∙ b.none_beyond number (omega arith);
      fits = EachView-set F vs other spent
          record {
            sent_is = pass_here b.log other place ∙ mine.known place ∙ get_or-length v.joined [];
            coarse = tt;
            idle = λ _. refl;
            own = has_nothing (all_of log);
            takes = λ t. absurd (true≢false (sym t));
          }
          (λ j u apart e. now j u e apart);
      dated = EachView-set (λ _ u. IsDated b.asked u) vs other spent
          record { taker = λ t. absurd (true≢false (sym t)); witness = λ _ _. omega arith }
          (λ j u _ e. both_dated j u e);
    }

-- the take pass takes in a receipt: of all that it knows no more changes than the own numbers that it was told of
pub merges_receipt : (port : ℕ) (v : View) (other : ℕ) (w u : View) → w ≡ receipt_of u → Merges IsInOrder port v other w (told_by v w) spent
merges_receipt port v other w u is items views b at two at' =
    let both : View = told_by v w in
    let vs : List View = set views port both in
    let ws : List View = set vs other spent in
    let old = b.fits port v at in
    let theirs = b.fits other w (sym (set_else views port other both two) ∙ at') in
    let f : View → ℕ = λ y. parts_of b.finest y.splits in
    let F : ℕ → View → Type 0 = FitsPass b.taker_number b.taken b.log b.finest in
    let l₁ : length vs ≡ length views = length-set views port both in
    let l₂ : length ws ≡ length vs = length-set vs other spent in
    let both_dated : EachView (λ _ u. IsDated b.asked u) vs = EachView-set (λ _ u. IsDated b.asked u) views port both
    (let d = b.dated port v at in record { taker = d.taker; witness = d.witness }) (λ j u _ e. b.dated j u e) in
    let now : EachView F vs = EachView-set F views port both
    record {
      sent_is = old.sent_is;
      coarse = old.coarse;
      idle = old.idle;
      own = theirs.own;
      takes = λ t. let o = old.takes t in record { one = o.one; taken_is = o.taken_is; silent = o.silent; known = o.known };
    }
    (λ j y apart e. b.fits j y e) in
    record {
      taker_number = b.taker_number;
      taken = b.taken;
      log = b.log;
      finest = b.finest;
      asked = b.asked;
      in_order = b.in_order;
      whole =
          let s = total-set f views port v both at in
          let t = total-set f vs other w spent at' in
          let none : f w ≡ 0 = ap f is in
          let k = b.whole in
          omega arith;
      none_beyond = λ number far. b.none_beyond number (omega arith);
      fits = EachView-set F vs other spent
          record {
            sent_is = theirs.sent_is ∙ ap (λ (y : View). y.sent) is;
            coarse = tt;
            idle = λ _. refl;
            own = has_nothing (all_of b.log);
            takes = λ t. absurd (true≢false (sym t));
          }
          (λ j y apart e. now j y e);
      dated = EachView-set (λ _ u. IsDated b.asked u) vs other spent
          record { taker = λ t. absurd (true≢false (sym t)); witness = λ _ _. omega arith }
          (λ j u _ e. both_dated j u e);
    }
