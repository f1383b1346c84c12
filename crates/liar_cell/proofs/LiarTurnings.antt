-- The turns of a node that lies.
use Rattle.std.proofs.Common.{◌≡◌, ℕ, ◌+◌, ◌-◌, ◌<◌, ◌≤◌, true, false, List, [], ◌∷◌, ◌++◌, length, inl, inr, Contains, Option, None, Some, refl, sym, ap, ◌∙◌, subst, arith, slice_get, length-append, IfSome, IfNone}
use Rattle.std.proofs.lemmas.List.{append-nil, append_assoc}
use Rattle.std.proofs.lemmas.List.Elements.{Contains-push_cases}
use Rattle.hb_wire.specs.declared.post.Post.{Post}
use Rattle.net_script.specs.declared.script.Script.{Script}
use Rattle.hb_rules.specs.Ledger.{IsPrefix}
use Rattle.step_driver.proofs.Playing.{slice_get-front}
use Rattle.actor_cell.specs.declared.arrival.Arrival.{Arrival}
use Rattle.actor_cell.specs.declared.arrival.Arrival.TheVariants as arrivals
use Rattle.actor_cell.specs.declared.served.Served.{Served}
use Rattle.actor_cell.specs.declared.served.Served.TheVariants as answers
use Rattle.actor_cell.specs.Mail.{MailView, sent_of}
use Rattle.actor_cell.specs.Turning.{arrives, is_late, TookOnly}
use Rattle.actor_cell.proofs.Turnings.{TookOnly-then, TookOnly-taker, IsEmptied, emptied_before, both_none, none_in}
use Rattle.liar_cell.specs.HeldLiar.{LiarView}
use Rattle.liar_cell.specs.LiarTurns.{arrival_at, is_late_found, IsLate, GoesOn, IsQuiet, TakesNothing, HasTold, IsThrownAway, IsHeard, Fares, HoldsBack, TakesOne, TakesNone, Turned, IsServed, ServesBack, ServesNew}
use Rattle.liar_cell.proofs.Speaking.{longer, IsQuiet-refl, IsQuiet-then, TakesNothing-refl, TakesNothing-then, TakesNothing-of, PutsOwn-from}

-- ---- how posts arrive, as the history grows

stands_on : (old new : List Post) (k : ℕ) (post : Post) → IsPrefix old new → slice_get old k ≡ Some post → slice_get new k ≡ Some post
stands_on old new k post more stands = ap (λ (posts : List Post). slice_get posts k) more.is ∙ slice_get-front old more.rest k post stands

-- a post of which this holds is the same for the next state
pub At-on : {B : Type 0} (P : Arrival → Type 0) (moved : ℕ → ℕ → B → B → Type 0) (k : ℕ) (m q : LiarView B) (post : Post) → GoesOn moved m q → slice_get m.seat.seen k ≡ Some post
    → P (arrival_at m.script post m.seat.node k) → (slice_get q.seat.seen k ≡ Some post) × P (arrival_at q.script post q.seat.node k)
At-on P moved k m q post goes stands is = (
  stands_on m.seat.seen q.seat.seen k post goes.seen stands,
  subst (λ (s : Script). P (arrival_at s post q.seat.node k)) (sym goes.script) (subst (λ (i : ℕ). P (arrival_at m.script post i k)) (sym goes.same.1) is),
)

pub IsLate-on : {B : Type 0} (moved : ℕ → ℕ → B → B → Type 0) (k : ℕ) (m q : LiarView B) → GoesOn moved m q → IsLate m.script m.seat.seen m.seat.node k → IsLate q.script q.seat.seen q.seat.node k
IsLate-on moved k m q goes late =
    let both = At-on (λ (a : Arrival). a ≡ arrivals.Late) moved k m q late.0 goes late.1 late.2 in
    (late.0, both.0, both.1)

late_of : (a : Arrival) → is_late (Some a) ≡ true → a ≡ arrivals.Late
late_of arrivals.Aside late = absurd (cc (late))
late_of arrivals.Prompt late = absurd (cc (late))
late_of arrivals.Late late = refl

-- a post that was found is late
pub IsLate-found : (s : Script) (found : Option Post) (posts : List Post) (i k : ℕ) → is_late_found s found i k ≡ true → ((post : Post) → found ≡ Some post → slice_get posts k ≡ Some post)
    → IsLate s posts i k
IsLate-found s None posts i k late stands = absurd (cc (late))
IsLate-found s (Some post) posts i k late stands = (post, stands post refl, late_of (arrival_at s post i k) late)

abbrev post_in : Post → Option Post → Post
post_in other None = other
post_in other (Some post) = post

-- one that was found and is not late is not late in what stands
pub not_late_found : (s : Script) (found : Option Post) (posts : List Post) (i k : ℕ) (post : Post) → found ≡ Some post → is_late_found s found i k ≡ false → slice_get posts k ≡ Some post
    → IsLate s posts i k → ⊥
not_late_found s found posts i k post is not stands late =
    let same : late.0 ≡ post = ap (λ (f : Option Post). post_in post f) (sym late.1 ∙ stands) in
    let here : is_late (Some (arrival_at s post i k)) ≡ true = ap (λ (p : Post). is_late (Some (arrival_at s p i k))) (sym same) ∙ ap (λ (a : Arrival). is_late (Some a)) late.2 in
    cc (here, not, is)

-- ---- a number that was taken

pub IsThrownAway-refl : {B : Type 0} (o : LiarView B) → IsThrownAway o o
IsThrownAway-refl o = record { quiet = IsQuiet-refl o; sent = refl }

pub IsServed-none : {B : Type 0} (k : ℕ) (o : LiarView B) → IsServed k o o
IsServed-none k o = record { fares = inl (IsThrownAway-refl o); nothing = TakesNothing-refl o }

-- nothing was told, and then this was
thrown_after : {B : Type 0} (o m q : LiarView B) → IsQuiet o m → sent_of m.mail ≡ sent_of o.mail → IsThrownAway m q → IsThrownAway o q
thrown_after o m q quiet sent thrown = record { quiet = IsQuiet-then o m q quiet thrown.quiet; sent = thrown.sent ∙ sent }

heard_after : {B : Type 0} (k : ℕ) (o m q : LiarView B) → m.hears ≡ o.hears → length o.seat.seen ≤ length m.seat.seen → sent_of m.mail ≡ sent_of o.mail → IsHeard k m q → IsHeard k o q
heard_after k o m q hears less sent heard = record {
  comes = heard.comes;
  hears = sym hears ∙ heard.hears;
  told = PutsOwn-from (length m.seat.seen) (length o.seat.seen) (length q.seat.seen) o m q less sent heard.told;
}

pub Fares-after : {B : Type 0} (k : ℕ) (o m q : LiarView B) → IsQuiet o m → length o.seat.seen ≤ length m.seat.seen → sent_of m.mail ≡ sent_of o.mail → Fares k m q → Fares k o q
Fares-after k o m q quiet less sent (inl thrown) = inl (thrown_after o m q quiet sent thrown)
Fares-after k o m q quiet less sent (inr heard) = inr (heard_after k o m q quiet.hears less sent heard)

-- a look before
pub IsServed-after : {B : Type 0} (moved : ℕ → ℕ → B → B → Type 0) (k : ℕ) (o m q : LiarView B) → GoesOn moved o m → IsQuiet o m → (m.mail ≡ o.mail) × (m.back ≡ o.back) → IsServed k m q → IsServed k o q
IsServed-after moved k o m q goes quiet rest served = record {
  fares = Fares-after k o m q quiet (longer o.seat.seen m.seat.seen goes.seen) (ap (λ (mail : MailView). sent_of mail) rest.0) served.fares;
  nothing = TakesNothing-then o m q (TakesNothing-of o m rest) served.nothing;
}

-- it was looked at, and thrown away
pub IsThrownAway-looked : {B : Type 0} (o m : LiarView B) → IsQuiet o m → (m.mail ≡ o.mail) × (m.back ≡ o.back) → IsThrownAway o m
IsThrownAway-looked o m quiet rest = record { quiet = quiet; sent = ap (λ (mail : MailView). sent_of mail) rest.0 }

-- a number from the mailbox was served, after its post was looked for and was not found to be late
pub ServesNew-of : {B : Type 0} (moved : ℕ → ℕ → B → B → Type 0) (k : ℕ) (found : Option Post) (o m q : LiarView B) → GoesOn moved o m → IsQuiet o m → (m.mail ≡ o.mail) × (m.back ≡ o.back)
    → IfSome found (λ post. (slice_get m.seat.seen k ≡ Some post) × (0 < m.hears)) → is_late_found m.script found m.seat.node k ≡ false → GoesOn moved m q → IsServed k m q → IfNone found (q ≡ m)
    → ServesNew k true o q
ServesNew-of {B} moved k None o m q goes quiet rest stands not on served none =
    (IsServed-after moved k o m q goes quiet rest served, (λ late. subst (λ (v : LiarView B). IsThrownAway o v) (sym none) (IsThrownAway-looked o m quiet rest)))
ServesNew-of moved k (Some post) o m q goes quiet rest stands not on served none =
    let both = At-on (λ (a : Arrival). is_late (Some a) ≡ false) moved k m q post on stands.0 not in (
      IsServed-after moved k o m q goes quiet rest served,
      (λ late. absurd (not_late_found q.script (Some post) q.seat.seen q.seat.node k post refl both.1 both.0 late)),
    )

-- a post that arrives was heard
pub IsServed-heard : {B : Type 0} (moved : ℕ → ℕ → B → B → Type 0) (k : ℕ) (o q : LiarView B) (post : Post) → slice_get o.seat.seen k ≡ Some post
    → arrives (Some (arrival_at o.script post o.seat.node k)) ≡ true → 0 < o.hears → GoesOn moved o q → q.hears ≡ o.hears - 1 → TakesNothing o q → HasTold o q → IsServed k o q
IsServed-heard moved k o q post stands comes some goes hears nothing told =
    let both = At-on (λ (a : Arrival). arrives (Some a) ≡ true) moved k o q post goes stands comes in
    record {
      fares = inr (record { comes = (post, both.0, both.1); hears = omega (arith, some, hears); told = told });
      nothing = nothing;
    }

-- ---- a turn

pub HoldsBack-start : {B : Type 0} (o : LiarView B) → HoldsBack [] o o
HoldsBack-start o = record {
  asked = omega arith;
  quiet = IsQuiet-refl o;
  each = λ k stands. absurd (none_in k stands);
  mail = record { boxes = refl; place = refl; joined = refl; taken = sym (append-nil o.mail.passes.take.taken); sent = refl };
  back = sym (append-nil o.back);
}

-- a look at the mailbox gave these numbers
pub record Took (old new : MailView) (more : List ℕ) : Type 0 where
  pub mail : TookOnly old new more
  pub asked : new.passes.take.asked ≡ old.passes.take.asked + 1

abbrev pub with_mail : {B : Type 0} → LiarView B → MailView → LiarView B
with_mail m mail = record m { mail = mail }

-- the mail does not matter to the seat and the book
pub GoesOn-mail : {B : Type 0} (moved : ℕ → ℕ → B → B → Type 0) (m q : LiarView B) (mail : MailView) → GoesOn moved (with_mail m mail) q → GoesOn moved m q
GoesOn-mail moved m q mail goes = record { script = goes.script; same = goes.same; seen = goes.seen; book = goes.book }

-- one more was held back
pub HoldsBack-on : {B : Type 0} (moved : ℕ → ℕ → B → B → Type 0) (back : List ℕ) (k : ℕ) (o m q : LiarView B) (mail : MailView) → HoldsBack back o m → Took m.mail mail (k ∷ [])
    → GoesOn moved (with_mail m mail) q → ServesNew k false (with_mail m mail) q → HoldsBack (back ++ k ∷ []) o q
HoldsBack-on moved back k o m q mail was took goes served = record {
  asked = omega (arith, was.asked, took.asked, ap (λ (all : MailView). all.passes.take.asked) served.2, length-append back (k ∷ []));
  quiet = IsQuiet-then o m q was.quiet (record { said = served.0.said; hears = served.0.hears });
  each = λ j stands. elim (Contains-push_cases back k j stands) [
    | inl had ↦ IsLate-on moved j m q (GoesOn-mail moved m q mail goes) (was.each j had)
    | inr is ↦ subst (λ (n : ℕ). IsLate q.script q.seat.seen q.seat.node n) is served.1
  ];
  mail = TookOnly-then o.mail m.mail q.mail back (k ∷ []) was.mail (subst (λ (all : MailView). TookOnly m.mail all (k ∷ [])) (sym served.2) took.mail);
  back = served.3 ∙ ap (λ (ks : List ℕ). ks ++ k ∷ []) was.back ∙ append_assoc o.back back (k ∷ []);
}

fares_of : {B : Type 0} (k : ℕ) (back more : List ℕ) (o m q : LiarView B) (mail : MailView) → HoldsBack back o m → Took m.mail mail more → length o.seat.seen ≤ length m.seat.seen
    → Fares k (with_mail m mail) q → Fares k o q
fares_of k back more o m q mail was took less fares =
    Fares-after k o (with_mail m mail) q (record { said = was.quiet.said; hears = was.quiet.hears }) less (took.mail.sent ∙ was.mail.sent) fares

each_of : {B : Type 0} (moved : ℕ → ℕ → B → B → Type 0) (back : List ℕ) (o m q : LiarView B) (mail : MailView) → HoldsBack back o m → GoesOn moved (with_mail m mail) q
    → (j : ℕ) → Contains back j → IsLate q.script q.seat.seen q.seat.node j
each_of moved back o m q mail was goes j stands = IsLate-on moved j m q (GoesOn-mail moved m q mail goes) (was.each j stands)

-- the next number of the mailbox was served
pub TakesOne-new : {B : Type 0} (moved : ℕ → ℕ → B → B → Type 0) (back : List ℕ) (k : ℕ) (o m q : LiarView B) (mail : MailView) → HoldsBack back o m → length o.seat.seen ≤ length m.seat.seen
    → Took m.mail mail (k ∷ []) → GoesOn moved (with_mail m mail) q → ServesNew k true (with_mail m mail) q → TakesOne o q
TakesOne-new moved back k o m q mail was less took goes served =
    let all = TookOnly-taker o.mail mail q.mail (back ++ k ∷ []) (TookOnly-then o.mail m.mail mail back (k ∷ []) was.mail took.mail) served.0.nothing.taker in
    record {
      number = k;
      moved = back;
      each = each_of moved back o m q mail was goes;
      source = inl (record {
        taken = all.1;
        back = served.0.nothing.back ∙ was.back;
        late = λ late. thrown_after o (with_mail m mail) q (record { said = was.quiet.said; hears = was.quiet.hears }) (took.mail.sent ∙ was.mail.sent) (served.1 late);
      });
      fares = fares_of k back (k ∷ []) o m q mail was took less served.0.fares;
      boxes = all.0;
      joined = all.2;
    }

-- the first of those held back was served
pub TakesOne-back : {B : Type 0} (moved : ℕ → ℕ → B → B → Type 0) (back : List ℕ) (o m q : LiarView B) (mail : MailView) → HoldsBack back o m → length o.seat.seen ≤ length m.seat.seen
    → Took m.mail mail [] → IsEmptied m.mail.passes m.mail.passes.take.taken → mail.passes.take.saw_empty ≡ true
    → GoesOn moved (with_mail m mail) q → ServesBack answers.Did (with_mail m mail) q → TakesOne o q
TakesOne-back moved back o m q mail was less took empty looked goes done =
    let all = TookOnly-taker o.mail mail q.mail (back ++ []) (TookOnly-then o.mail m.mail mail back [] was.mail took.mail) done.3 in
    let before = emptied_before o.mail m.mail back was.mail empty in
    record {
      number = done.0;
      moved = back;
      each = each_of moved back o m q mail was goes;
      source = inr (record {
        asked = omega (arith, was.asked, took.asked, ap (λ t. t.asked) done.3.take);
        taken = all.1 ∙ ap (λ (ks : List ℕ). o.mail.passes.take.taken ++ ks) (append-nil back);
        empty = before.0;
        own = before.1;
        looked = ap (λ t. t.saw_empty) done.3.take ∙ looked;
        back = sym was.back ∙ done.1;
      });
      fares = fares_of done.0 back [] o m q mail was took less done.2;
      boxes = all.0;
      joined = all.2;
    }

-- there was none
pub TakesNone-of : {B : Type 0} (back : List ℕ) (o m q : LiarView B) (mail : MailView) → HoldsBack back o m → Took m.mail mail [] → IsEmptied m.mail.passes m.mail.passes.take.taken
    → mail.passes.take.saw_empty ≡ true → ServesBack answers.Idle (with_mail m mail) q → TakesNone o q
TakesNone-of {B} back o m q mail was took empty looked done =
    let none = both_none o.back back (sym was.back ∙ done.0) in
    let all : TookOnly o.mail mail (back ++ []) = TookOnly-then o.mail m.mail mail back [] was.mail took.mail in
    let emptied : IsEmptied o.mail.passes o.mail.passes.take.taken =
    subst (λ (ks : List ℕ). IsEmptied o.mail.passes ks) (ap (λ (ks : List ℕ). o.mail.passes.take.taken ++ ks) none.1 ∙ append-nil o.mail.passes.take.taken)
    (emptied_before o.mail m.mail back was.mail empty) in
    let took_all : TookOnly o.mail q.mail (back ++ []) = subst (λ (v : LiarView B). TookOnly o.mail v.mail (back ++ [])) (sym done.1) all in
    record {
      asked = omega (arith, was.asked, took.asked, ap (λ (v : LiarView B). v.mail.passes.take.asked) done.1);
      quiet = record { said = ap (λ (v : LiarView B). v.said) done.1 ∙ was.quiet.said; hears = ap (λ (v : LiarView B). v.hears) done.1 ∙ was.quiet.hears };
      mail = subst (λ (ks : List ℕ). TookOnly o.mail q.mail ks) (append-nil back ∙ none.1) took_all;
      empty = emptied.0;
      own = emptied.1;
      looked = ap (λ (v : LiarView B). v.mail.passes.take.saw_empty) done.1 ∙ looked;
      before = none.0;
      after = ap (λ (v : LiarView B). v.back) done.1 ∙ done.0;
    }

-- ---- the answers of a turn

pub Turned-back : {B : Type 0} (moved : ℕ → ℕ → B → B → Type 0) (r : Served) (back : List ℕ) (o m q : LiarView B) (mail : MailView) → HoldsBack back o m → length o.seat.seen ≤ length m.seat.seen
    → Took m.mail mail [] → IsEmptied m.mail.passes m.mail.passes.take.taken → mail.passes.take.saw_empty ≡ true
    → GoesOn moved (with_mail m mail) q → ServesBack r (with_mail m mail) q → Turned r o q
Turned-back moved answers.Idle back o m q mail was less took empty looked goes done = TakesNone-of back o m q mail was took empty looked done
Turned-back moved answers.Did back o m q mail was less took empty looked goes done = TakesOne-back moved back o m q mail was less took empty looked goes done
Turned-back moved answers.Ended back o m q mail was less took empty looked goes done = absurd done
