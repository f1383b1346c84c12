-- What a node that lies goes on with, and the numbers of its posts.
use Rattle.std.proofs.Common.{◌≡◌, ◌⊎◌, ℕ, zero, suc, ◌+◌, ◌<◌, ◌≤◌, true, List, [], ◌∷◌, ◌++◌, length, inl, inr, Some, refl, sym, ap, ◌∙◌, subst, arith, slice_get, length-append, count_by}
use Rattle.atomic_table.specs.Seated.{TableId}
use Rattle.hb_base.specs.Numbers.{Numbers}
use Rattle.hb_base.specs.NodeSet.{is_in}
use Rattle.hb_wire.specs.declared.post.Post.{Post}
use Rattle.net_script.specs.declared.script.Script.{Script}
use Rattle.hb_rules.specs.Book.{SeatView, Watched}
use Rattle.hb_rules.specs.Ledger.{IsPrefix}
use Rattle.step_driver.specs.Delivering.{is_from}
use Rattle.step_driver.proofs.Playing.{slice_get-front}
use Rattle.step_driver.proofs.Tellings.{count_watched}
use Rattle.actor_cell.specs.Boxes.{place_of}
use Rattle.actor_cell.specs.Mail.{MailView, Sent, sent_of, ArePut, AreSent, IsSameTaker, deliveries, of_found}
use Rattle.actor_cell.proofs.Hearings.{IsPrefix-refl, IsPrefix-then}
use Rattle.actor_cell.proofs.Mailing.{IsSameTaker-then}
use Rattle.actor_cell.proofs.Sendings.{AreStanding, deliveries-more, deliveries-kept}
use Rattle.liar_cell.specs.HeldLiar.{LiarView, IsHeldLiar}
use Rattle.liar_cell.specs.LiarTurns.{IsOwn, AreOwn, PutsOwn, GoesOn, IsQuiet, TakesNothing}

-- ---- what holds under the lock

-- the seat was shown more, by posts of others
pub IsHeldLiar-watched : {B : Type 0} (is_script : Script → Type 0) (run : TableId) (name : B → TableId) (o : LiarView B) (seat : SeatView) (b : B) → IsHeldLiar is_script run name o
    → (seat.config ≡ o.seat.config) × (seat.node ≡ o.seat.node) × (seat.actor ≡ o.seat.actor)
    → Watched o.seat.config o.seat.node o.seat.actor o.seat.seen seat.seen → name b ≡ name o.book
    → IsHeldLiar is_script run name (record o { seat = seat; book = b })
IsHeldLiar-watched is_script run name o seat b was same watched named =
    let liar : is_in o.seat.config.liars o.seat.node ≡ true = ap (λ (c : Numbers). is_in c.liars o.seat.node) was.config ∙ was.liar in
    record {
      book = named ∙ was.book;
      script = was.script;
      config = same.0 ∙ was.config;
      known = subst (λ (i : ℕ). i < o.script.config.n) (sym same.1) was.known;
      liar = ap (λ (i : ℕ). is_in o.script.config.liars i) same.1 ∙ was.liar;
      actor = same.2 ∙ was.actor;
      boxes = was.boxes;
      place = was.place ∙ ap (λ (i : ℕ). place_of o.script.config i 0) (sym same.1);
      said =
          ap (λ (i : ℕ). count_by (is_from i) seat.seen) same.1
          ∙ count_watched o.seat.config o.seat.node o.seat.actor o.seat.seen seat.seen liar watched ∙ was.said;
      few = was.few;
    }

-- ---- going on

pub GoesOn-refl : {B : Type 0} (moved : ℕ → ℕ → B → B → Type 0) → ((i x : ℕ) (b : B) → moved i x b b) → (o : LiarView B) → GoesOn moved o o
GoesOn-refl moved stays o = record { script = refl; same = (refl, refl, refl); seen = IsPrefix-refl o.seat.seen; book = stays o.seat.node o.seat.actor o.book }

pub GoesOn-then : {B : Type 0} (moved : ℕ → ℕ → B → B → Type 0) → ((i x : ℕ) (a b c : B) → moved i x a b → moved i x b c → moved i x a c) → (o m q : LiarView B)
    → GoesOn moved o m → GoesOn moved m q → GoesOn moved o q
GoesOn-then moved goes_on o m q one two = record {
  script = two.script ∙ one.script;
  same = (two.same.0 ∙ one.same.0, two.same.1 ∙ one.same.1, two.same.2 ∙ one.same.2);
  seen = IsPrefix-then o.seat.seen m.seat.seen q.seat.seen one.seen two.seen;
  book = goes_on o.seat.node o.seat.actor o.book m.book q.book one.book
      (subst (λ (x : ℕ). moved o.seat.node x m.book q.book) one.same.2 (subst (λ (i : ℕ). moved i m.seat.actor m.book q.book) one.same.1 two.book));
}

pub longer : (old new : List Post) → IsPrefix old new → length old ≤ length new
longer old new more = omega (arith, ap (λ (posts : List Post). length posts) more.is, length-append old more.rest)

pub IsQuiet-refl : {B : Type 0} (o : LiarView B) → IsQuiet o o
IsQuiet-refl o = record { said = refl; hears = refl }

pub IsQuiet-then : {B : Type 0} (o m q : LiarView B) → IsQuiet o m → IsQuiet m q → IsQuiet o q
IsQuiet-then o m q one two = record { said = two.said ∙ one.said; hears = two.hears ∙ one.hears }

pub TakesNothing-refl : {B : Type 0} (o : LiarView B) → TakesNothing o o
TakesNothing-refl o = record { taker = record { boxes = refl; place = refl; take = refl }; back = refl }

pub TakesNothing-then : {B : Type 0} (o m q : LiarView B) → TakesNothing o m → TakesNothing m q → TakesNothing o q
TakesNothing-then o m q one two = record { taker = IsSameTaker-then o.mail m.mail q.mail one.taker two.taker; back = two.back ∙ one.back }

taker_of : (a b : MailView) → b ≡ a → IsSameTaker a b
taker_of a b same = subst (λ (m : MailView). IsSameTaker a m) (sym same) (record { boxes = refl; place = refl; take = refl })

-- the same mail, and the same numbers are held back
pub TakesNothing-of : {B : Type 0} (o q : LiarView B) → (q.mail ≡ o.mail) × (q.back ≡ o.back) → TakesNothing o q
TakesNothing-of o q same = record { taker = taker_of o.mail q.mail same.0; back = same.1 }

-- ---- the numbers of its own posts

pub AreOwn-longer : (i : ℕ) (old new : List Post) (first end : ℕ) (ks : List ℕ) → IsPrefix old new → AreOwn i old first end ks → AreOwn i new first end ks
AreOwn-longer i old new first end [] more own = own
AreOwn-longer i old new first end (k ∷ ks) more own =
    (own.0, (own.1.0, ap (λ (posts : List Post). slice_get posts k) more.is ∙ slice_get-front old more.rest k own.1.0 own.1.1, own.1.2), AreOwn-longer i old new (k + 1) end ks more own.2)

pub AreOwn-later : (i : ℕ) (posts : List Post) (first end end' : ℕ) (ks : List ℕ) → end ≤ end' → AreOwn i posts first end ks → AreOwn i posts first end' ks
AreOwn-later i posts first end end' [] more own = omega (arith, more, own)
AreOwn-later i posts first end end' (k ∷ ks) more own = (own.0, own.1, AreOwn-later i posts (k + 1) end end' ks more own.2)

pub AreOwn-earlier : (i : ℕ) (posts : List Post) (first first' end : ℕ) (ks : List ℕ) → first' ≤ first → AreOwn i posts first end ks → AreOwn i posts first' end ks
AreOwn-earlier i posts first first' end [] less own = omega (arith, less, own)
AreOwn-earlier i posts first first' end (k ∷ ks) less own = (omega (arith, less, own.0), own.1, own.2)

AreOwn-more : (i : ℕ) (posts : List Post) (first k : ℕ) (ks : List ℕ) → AreOwn i posts first k ks → IsOwn i posts k → AreOwn i posts first (k + 1) (ks ++ k ∷ [])
AreOwn-more i posts first k [] own one = (own, one, omega arith)
AreOwn-more i posts first k (j ∷ ks) own one = (own.0, own.1, AreOwn-more i posts (j + 1) k ks own.2 one)

within : (posts : List Post) (k : ℕ) (post : Post) → slice_get posts k ≡ Some post → k < length posts
within [] k post stands = absurd (cc (stands))
within (p ∷ posts) zero post stands = omega arith
within (p ∷ posts) (suc k) post stands = omega (arith, within posts k post stands)

own_stand : (i : ℕ) (posts : List Post) (first end : ℕ) (ks : List ℕ) → AreOwn i posts first end ks → AreStanding posts ks
own_stand i posts first end [] own = tt
own_stand i posts first end (k ∷ ks) own = (within posts k own.1.0 own.1.1, own_stand i posts (k + 1) end ks own.2)

-- ---- sending

pub PutsOwn-none : {B : Type 0} (first : ℕ) (o m : LiarView B) → m.mail ≡ o.mail → PutsOwn first first o m
PutsOwn-none first o m same = record { numbers = []; own = omega arith; put = ap (λ (mail : MailView). sent_of mail) same }

-- the number of one post more was put, if it is its own
abbrev pub SendsOne : {B : Type 0} → ℕ → LiarView B → LiarView B → Type 0
SendsOne k m q = (q.mail ≡ m.mail) ⊎ (IsOwn q.seat.node q.seat.seen k
    × AreSent q.script.config (of_found q.script.config q.script (slice_get q.seat.seen k) k) m.mail q.mail)

-- its posts are there in a longer history
own_on : {B : Type 0} (first k : ℕ) (o m q : LiarView B) → q.seat.node ≡ m.seat.node → IsPrefix m.seat.seen q.seat.seen → (had : PutsOwn first k o m)
    → AreOwn q.seat.node q.seat.seen first k had.numbers
own_on first k o m q node more had =
    AreOwn-longer q.seat.node m.seat.seen q.seat.seen first k had.numbers more (subst (λ (i : ℕ). AreOwn i m.seat.seen first k had.numbers) (sym node) had.own)

pub taker_after : {B : Type 0} (k : ℕ) (m q : LiarView B) → SendsOne k m q → IsSameTaker m.mail q.mail
taker_after k m q (inl same) = taker_of m.mail q.mail same
taker_after k m q (inr one) = one.1.taker

pub PutsOwn-more : {B : Type 0} (first k : ℕ) (o m q : LiarView B) → q.script ≡ m.script → q.seat.node ≡ m.seat.node → IsPrefix m.seat.seen q.seat.seen → IsSameTaker o.mail m.mail
    → PutsOwn first k o m → SendsOne k m q → PutsOwn first (k + 1) o q
PutsOwn-more first k o m q script node more taker had (inl same) =
    let s = q.script in
    let ks = had.numbers in
    let sent : AreSent s.config (deliveries s.config s m.seat.seen ks) o.mail m.mail =
    subst (λ (t : Script). AreSent t.config (deliveries t.config t m.seat.seen ks) o.mail m.mail) (sym script) (record { taker = taker; put = had.put }) in
    record {
      numbers = ks;
      own = AreOwn-later q.seat.node q.seat.seen first k (k + 1) ks (omega arith) (own_on first k o m q node more had);
      put = subst (λ (mail : MailView). ArePut s.config (deliveries s.config s q.seat.seen ks) (sent_of o.mail) (sent_of mail)) (sym same)
          (deliveries-kept s.config s m.seat.seen q.seat.seen ks o.mail m.mail more (own_stand m.seat.node m.seat.seen first k ks had.own) sent).put;
    }
PutsOwn-more first k o m q script node more taker had (inr one) =
    let s = q.script in
    let ks = had.numbers in
    let sent : AreSent s.config (deliveries s.config s m.seat.seen ks) o.mail m.mail =
    subst (λ (t : Script). AreSent t.config (deliveries t.config t m.seat.seen ks) o.mail m.mail) (sym script) (record { taker = taker; put = had.put }) in
    record {
      numbers = ks ++ k ∷ [];
      own = AreOwn-more q.seat.node q.seat.seen first k ks (own_on first k o m q node more had) one.0;
      put = (deliveries-more s.config s m.seat.seen q.seat.seen ks k o.mail m.mail q.mail more (own_stand m.seat.node m.seat.seen first k ks had.own) sent one.1).put;
    }

-- counted from an earlier number, and from an earlier state in which as much was sent
pub PutsOwn-from : {B : Type 0} (first first' end : ℕ) (o m q : LiarView B) → first' ≤ first → sent_of m.mail ≡ sent_of o.mail → PutsOwn first end m q → PutsOwn first' end o q
PutsOwn-from first first' end o m q less same puts = record {
  numbers = puts.numbers;
  own = AreOwn-earlier q.seat.node q.seat.seen first first' end puts.numbers less puts.own;
  put = subst (λ (sent : Sent). ArePut q.script.config (deliveries q.script.config q.script q.seat.seen puts.numbers) sent (sent_of q.mail)) same puts.put;
}

pub PutsOwn-later : {B : Type 0} (first end end' : ℕ) (o q : LiarView B) → end ≤ end' → PutsOwn first end o q → PutsOwn first end' o q
PutsOwn-later first end end' o q more puts = record {
  numbers = puts.numbers;
  own = AreOwn-later q.seat.node q.seat.seen first end end' puts.numbers more puts.own;
  put = puts.put;
}
