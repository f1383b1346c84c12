-- Each split of a pass keeps the rule of a mailbox.
use Rattle.std.proofs.Common.{◌≡◌, ◌≢◌, ℕ, suc, ◌+◌, ◌≤◌, Bool, true, false, true≢false, List, [], ◌∷◌, ◌++◌, map, length, set}
use Rattle.std.proofs.Common.{sym, refl, ap, ◌∙◌, subst, arith}
use mathlib.Core.Option.{some}
use lib.ListN.{get_elem?}
use Rattle.std.proofs.Math.ListN.{length-set, length-append}
use Rattle.crossbeam_queue.specs.Fifo.{Forks}
use Rattle.mailbox.specs.declared.rule.View.{View}
use Rattle.mailbox.specs.Interleaving.{HasAll}
use Rattle.mailbox.specs.Shares.{AreAtMost, parts_of}
use Rattle.mailbox.specs.Ordered.{view_of, putter, spent, halved, other_half, put_side, take_side, asked_once}
use Rattle.mailbox.specs.Ordered.{receipt_of, witness_of}
use Rattle.mailbox.specs.Ordered.{pass_number, all_of, total, FitsPass, IsDated, IsInOrder}
use Rattle.mailbox.proofs.Places.{EachView-set, EachView-snoc}
use Rattle.mailbox.proofs.Places.{total-set, total-snoc}
use Rattle.mailbox.proofs.Parts.{AreAtMost-finer, AreAtMost-halved, parts_of-finer, parts_of-halved}
use Rattle.mailbox.proofs.Parts.{whole-finer}
use Rattle.mailbox.proofs.Logs.{has_nothing, has_sent}

length-snoc : (l : List View) (v : View) → length (l ++ v ∷ []) ≡ length l + 1
length-snoc l v = length-append l (v ∷ [])

pub forks_sides : (port : ℕ) (v : View) → v.takes ≡ true → Forks IsInOrder port v (put_side v) (take_side v)
forks_sides port v may items views b at =
    let left : View = put_side v in
    let right : View = take_side v in
    let vs : List View = set views port left in
    let old = b.fits port v at in
    let mine = old.takes may in
    let f : View → ℕ = λ u. parts_of b.finest u.splits in
    let same : length vs ≡ length views = length-set views port left in
    record {
      taker_number = length vs;
      taken = b.taken;
      log = b.log;
      finest = b.finest;
      asked = b.asked;
      in_order = b.in_order;
      whole = let s = total-set f views port v left at in let t = total-snoc f vs right in let u = b.whole in omega arith;
      none_beyond = λ number far. b.none_beyond number (let l = length-snoc vs right in omega arith);
      fits = EachView-snoc (FitsPass (length vs) b.taken b.log b.finest) vs right
          (EachView-set (FitsPass (length vs) b.taken b.log b.finest) views port left
          record { sent_is = old.sent_is; coarse = old.coarse; idle = old.idle; own = has_nothing (all_of b.log); takes = λ t. absurd (true≢false (sym t)) }
          (λ j u apart e. let o = b.fits j u e in
          record { sent_is = o.sent_is; coarse = o.coarse; idle = o.idle; own = o.own; takes = λ t. absurd (apart ((o.takes t).one ∙ sym mine.one)) }))
          record {
            sent_is = b.none_beyond (length vs) (omega arith);
            coarse = tt;
            idle = λ _. refl;
            own = old.own;
            takes = λ _. record { one = refl; taken_is = mine.taken_is; silent = refl; known = mine.known };
          };
      dated = EachView-snoc (λ _ u. IsDated b.asked u) vs right
          (EachView-set (λ _ u. IsDated b.asked u) views port left
          record { taker = λ t. absurd (true≢false (sym t)); witness = λ _ _. omega arith } (λ j u _ e. b.dated j u e))
          record { taker = λ _. (b.dated port v at).taker may; witness = λ t. absurd (true≢false t) };
    }

taker_or : (takes : Bool) → (takes ≡ true → ⊥) → takes ≡ false
taker_or true never = absurd (never refl)
taker_or false never = refl

-- beside the one take pass there is no other
puts_beside : (items : List ℕ) (views : List View) (b : IsInOrder items views) (port : ℕ) (v : View)
    → get_elem? views port ≡ some v
    → (j : ℕ) (u : View) → j ≢ port → get_elem? views j ≡ some u → u.takes ≡ true → v.takes ≡ false
puts_beside items views b port v at j u apart e t = taker_or v.takes (λ may.
    absurd (apart (((b.fits j u e).takes t).one ∙ sym ((b.fits port v at).takes may).one)))

-- what a fork of one pass leaves to the dates of the others
still_dated : (items : List ℕ) (views : List View) (b : IsInOrder items views) (port : ℕ) (v : View)
    → get_elem? views port ≡ some v
    → (now : ℕ) → b.asked ≤ now → (v.takes ≡ false → now ≡ b.asked)
    → (j : ℕ) (u : View) → j ≢ port → get_elem? views j ≡ some u → IsDated now u
still_dated items views b port v at now later others j u apart e = let d = b.dated j u e in record {
  taker = λ t. d.taker t ∙ sym (others (puts_beside items views b port v at j u apart e t));
  witness = λ t none. omega (arith, d.witness t none);
}

-- the dates of a fork: of the pass that is forked, of the one beside it, and of all others
record AreDated (items : List ℕ) (views : List View) (b : IsInOrder items views) (v left right : View) : Type 0 where
  now : ℕ
  later : b.asked ≤ now
  left_dated : IsDated now left
  right_dated : IsDated now right
  others : v.takes ≡ false → now ≡ b.asked

-- beside a pass comes one with no right, which has put nothing, and the first is changed in nothing but how often it was asked
forks_beside : (port : ℕ) (v : View) (asked told : ℕ) (own : List ℕ)
    → ((items : List ℕ) (views : List View) (b : IsInOrder items views) → get_elem? views port ≡ some v → HasAll (own ∷ []) (all_of b.log))
    → ((items : List ℕ) (views : List View) (b : IsInOrder items views) → get_elem? views port ≡ some v
    → AreDated items views b v (view_of v.takes v.splits v.sent v.taken v.joined asked v.own)
    (view_of false [] [] [] [] told own))
    → Forks IsInOrder port v (view_of v.takes v.splits v.sent v.taken v.joined asked v.own) (view_of false [] [] [] [] told own)
forks_beside port v asked told own among dates items views b at =
    let left : View = view_of v.takes v.splits v.sent v.taken v.joined asked v.own in
    let right : View = view_of false [] [] [] [] told own in
    let vs : List View = set views port left in
    let old = b.fits port v at in
    let f : View → ℕ = λ u. parts_of b.finest u.splits in
    let F : ℕ → View → Type 0 = FitsPass b.taker_number b.taken b.log b.finest in
    let d = dates items views b at in
    let same : length vs ≡ length views = length-set views port left in
    record {
      taker_number = b.taker_number;
      taken = b.taken;
      log = b.log;
      finest = b.finest;
      asked = d.now;
      in_order = b.in_order;
      whole = let s = total-set f views port v left at in let t = total-snoc f vs right in let u = b.whole in omega arith;
      none_beyond = λ number far. b.none_beyond number (let l = length-snoc vs right in omega arith);
      fits = EachView-snoc F vs right
          (EachView-set F views port left
          record {
            sent_is = old.sent_is;
            coarse = old.coarse;
            idle = old.idle;
            own = old.own;
            takes = λ t. let o = old.takes t in record { one = o.one; taken_is = o.taken_is; silent = o.silent; known = o.known };
          }
          (λ j u apart e. b.fits j u e))
          record {
            sent_is = b.none_beyond (length vs) (omega arith);
            coarse = tt;
            idle = λ _. refl;
            own = among items views b at;
            takes = λ t. absurd (true≢false (sym t));
          };
      dated = EachView-snoc (λ _ u. IsDated d.now u) vs right
          (EachView-set (λ _ u. IsDated d.now u) views port left d.left_dated
          (λ j u apart e. still_dated items views b port v at d.now d.later d.others j u apart e))
          d.right_dated;
    }

-- a call that asks for a number changes nothing but how often the take pass was asked
pub forks_asked : (port : ℕ) (v : View) → v.takes ≡ true → Forks IsInOrder port v (asked_once v) spent
forks_asked port v may = forks_beside port v (v.asked + 1) 0 [] (λ items views b at. has_nothing (all_of b.log))
    (λ items views b at. record {
      now = b.asked + 1;
      later = omega arith;
      left_dated = record { taker = λ _. ap (λ n. n + 1) ((b.dated port v at).taker may); witness = λ t. absurd (true≢false (sym may ∙ t)) };
      right_dated = record { taker = λ t. absurd (true≢false (sym t)); witness = λ _ _. omega arith };
      others = λ t. absurd (true≢false (sym may ∙ t));
    })

-- and so does one that asks to put, of a put pass
pub forks_asked_put : (port : ℕ) (v : View) (splits : ℕ) → v ≡ putter splits v.sent v.asked
    → Forks IsInOrder port v (asked_once v) spent
forks_asked_put port v splits is = forks_beside port v (v.asked + 1) 0 [] (λ items views b at. has_nothing (all_of b.log))
    (λ items views b at. record {
      now = b.asked;
      later = omega arith;
      left_dated = record {
        taker = λ t. absurd (true≢false (sym t ∙ ap (λ (u : View). u.takes) is));
        witness = λ _ e. let f : splits ∷ [] ≡ [] = sym (ap (λ (u : View). u.splits) is) ∙ e in absurd cc;
      };
      right_dated = record { taker = λ t. absurd (true≢false (sym t)); witness = λ _ _. omega arith };
      others = λ _. refl;
    })

-- a witness tells how often the take pass was asked
pub forks_witness : (port : ℕ) (v : View) → v.takes ≡ true → Forks IsInOrder port v v (witness_of v)
forks_witness port v may = forks_beside port v v.asked v.asked [] (λ items views b at. has_nothing (all_of b.log))
    (λ items views b at. record {
      now = b.asked;
      later = omega arith;
      left_dated = let d = b.dated port v at in record { taker = d.taker; witness = d.witness };
      right_dated = record { taker = λ t. absurd (true≢false (sym t)); witness = λ _ _. omega (arith, (b.dated port v at).taker may) };
      others = λ _. refl;
    })

-- a receipt tells what was put through the pass
pub forks_receipt : (port : ℕ) (v : View) → Forks IsInOrder port v v (receipt_of v)
forks_receipt port v =
    forks_beside port v v.asked 0 v.sent (λ items views b at.
    subst (λ (sent : List ℕ). HasAll (sent ∷ []) (all_of b.log)) (b.fits port v at).sent_is (has_sent (pass_number port) b.log))
    (λ items views b at. record {
      now = b.asked;
      later = omega arith;
      left_dated = let d = b.dated port v at in record { taker = d.taker; witness = d.witness };
      right_dated = record { taker = λ t. absurd (true≢false (sym t)); witness = λ _ _. omega arith };
      others = λ _. refl;
    })

total-finer : (finest : ℕ) (views : List View) → ((number : ℕ) (v : View) → get_elem? views number ≡ some v → AreAtMost finest v.splits)
    → total (λ v. parts_of (finest + 1) v.splits) views ≡ total (λ v. parts_of finest v.splits) views + total (λ v. parts_of finest v.splits) views
total-finer finest [] coarse = refl
total-finer finest (v ∷ vs) coarse =
    let s = total-finer finest vs (λ number u e. coarse (suc number) u e) in
    let t = parts_of-finer finest v.splits (coarse 0 v refl) in
    omega arith

map-nil : (ns : List ℕ) → map (λ n. n + 1) ns ≡ [] → ns ≡ []
map-nil [] e = refl
map-nil (n ∷ ns) e = cc

pub forks_halves : (port : ℕ) (v : View) → v.takes ≡ false → Forks IsInOrder port v (halved v) (other_half v)
forks_halves port v puts_only items views b at =
    let left : View = halved v in
    let right : View = other_half v in
    let vs : List View = set views port left in
    let old = b.fits port v at in
    let finest : ℕ = b.finest + 1 in
    let f : View → ℕ = λ u. parts_of finest u.splits in
    let same : length vs ≡ length views = length-set views port left in
    record {
      taker_number = b.taker_number;
      taken = b.taken;
      log = b.log;
      finest = finest;
      asked = b.asked;
      in_order = b.in_order;
      whole =
          let s = total-set f views port v left at in
          let t = total-snoc f vs right in
          let u = total-finer b.finest views (λ number w e. (b.fits number w e).coarse) in
          let h = parts_of-halved b.finest v.splits in
          let d = parts_of-finer b.finest v.splits old.coarse in
          let w = whole-finer b.finest in
          let k = b.whole in
          omega arith;
      none_beyond = λ number far. b.none_beyond number (let l = length-snoc vs right in omega arith);
      fits = EachView-snoc (FitsPass b.taker_number b.taken b.log finest) vs right
          (EachView-set (FitsPass b.taker_number b.taken b.log finest) views port left
          record {
            sent_is = old.sent_is;
            coarse = AreAtMost-halved b.finest v.splits old.coarse;
            idle = λ e. old.idle (map-nil v.splits e);
            own = old.own;
            takes = λ t. absurd (true≢false (sym t ∙ puts_only));
          }
          (λ j u apart e. let o = b.fits j u e in
          record { sent_is = o.sent_is; coarse = AreAtMost-finer b.finest u.splits o.coarse; idle = o.idle; own = o.own; takes = o.takes }))
          record {
            sent_is = b.none_beyond (length vs) (omega arith);
            coarse = AreAtMost-halved b.finest v.splits old.coarse;
            idle = λ _. refl;
            own = has_nothing (all_of b.log);
            takes = λ t. absurd (true≢false (sym t));
          };
      dated = EachView-snoc (λ _ u. IsDated b.asked u) vs right
          (EachView-set (λ _ u. IsDated b.asked u) views port left
          (let d = b.dated port v at in record { taker = d.taker; witness = λ t e. d.witness t (map-nil v.splits e) })
          (λ j u _ e. b.dated j u e))
          record { taker = λ t. absurd (true≢false (sym t)); witness = λ _ _. omega arith };
    }
