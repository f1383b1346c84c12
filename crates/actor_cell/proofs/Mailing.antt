-- Numbers that are put one after another.
use Rattle.std.proofs.Common.{◌≡◌, ℕ, ◌+◌, List, [], ◌∷◌, ◌++◌, refl, sym, ap, ◌∙◌, subst}
use Rattle.std.specs.List.{flat_map, range_with_len}
use Rattle.std.proofs.lemmas.List.{append-nil}
use Rattle.std.proofs.lemmas.Grind.{flat_map-append}
use Rattle.hb_base.specs.Numbers.{Numbers}
use Rattle.mailbox.specs.Passes.{TakePassView}
use Rattle.actor_cell.specs.Boxes.{BoxesView}
use Rattle.actor_cell.specs.Mail.{MailView, Delivery, Sent, sent_of, ArePut, IsSameTaker, AreSent}
use Rattle.actor_cell.proofs.Places.{range_more}

pub ArePut-then : (c : Numbers) (ds es : List Delivery) (old mid new : Sent) → ArePut c ds old mid → ArePut c es mid new → ArePut c (ds ++ es) old new
ArePut-then c [] es old mid new none rest = subst (λ (s : Sent). ArePut c es s new) none rest
ArePut-then c (d ∷ ds) es old mid new some rest = (some.0, some.1, ArePut-then c ds es some.0 mid new some.2 rest)

pub AreSent-none : (c : Numbers) (mail : MailView) → AreSent c [] mail mail
AreSent-none c mail = record { taker = record { boxes = refl; place = refl; take = refl }; put = refl }

pub IsSameTaker-then : (old mid new : MailView) → IsSameTaker old mid → IsSameTaker mid new → IsSameTaker old new
IsSameTaker-then old mid new one two = record { boxes = two.boxes ∙ one.boxes; place = two.place ∙ one.place; take = two.take ∙ ap (λ (t : TakePassView). record t { own = new.passes.take.own }) one.take }

pub AreSent-then : (c : Numbers) (ds es : List Delivery) (old mid new : MailView) → AreSent c ds old mid → AreSent c es mid new → AreSent c (ds ++ es) old new
AreSent-then c ds es old mid new one two = record {
  taker = IsSameTaker-then old mid new one.taker two.taker;
  put = ArePut-then c ds es (sent_of old) (sent_of mid) (sent_of new) one.put two.put;
}

-- one more of many
pub AreSent-more : (c : Numbers) (f : Numbers → ℕ → List Delivery) (k : ℕ) (old mid new : MailView) → AreSent c (flat_map (f c) (range_with_len 0 k)) old mid
    → AreSent mid.boxes.config (f mid.boxes.config k) mid new → c ≡ old.boxes.config → AreSent c (flat_map (f c) (range_with_len 0 (k + 1))) old new
AreSent-more c f k old mid new one two is =
    let all : flat_map (f c) (range_with_len 0 (k + 1)) ≡ flat_map (f c) (range_with_len 0 k) ++ f c k =
    ap (λ (ks : List ℕ). flat_map (f c) ks) (range_more k) ∙ flat_map-append (f c) (range_with_len 0 k) (k ∷ [])
    ∙ ap (λ (ds : List Delivery). flat_map (f c) (range_with_len 0 k) ++ ds) (append-nil (f c k)) in
    let conf : mid.boxes.config ≡ c = ap (λ (b : BoxesView). b.config) one.taker.boxes ∙ sym is in
    subst (λ (ds : List Delivery). AreSent c ds old new) (sym all)
    (AreSent-then c (flat_map (f c) (range_with_len 0 k)) (f c k) old mid new one (subst (λ (d : Numbers). AreSent d (f d k) mid new) conf two))
