-- The turns of an actor.
use Rattle.std.proofs.Common.{◌≡◌, ◌⊎◌, ℕ, zero, suc, ◌+◌, ◌<◌, Bool, true, false, inl, inr, List, [], ◌∷◌, ◌++◌, length, Contains, Option, None, Some, refl, sym, ap, ◌∙◌, subst, arith, slice_get, get_or, length-append, if◌then◌else◌, MatchOption, IfSome}
use Rattle.std.proofs.lemmas.List.{append-nil, append_assoc}
use Rattle.std.proofs.lemmas.List.Elements.{Contains-push_cases}
use Rattle.hb_base.specs.Numbers.{Numbers}
use Rattle.hb_wire.specs.declared.post.Post.{Post}
use Rattle.net_script.specs.declared.script.Script.{Script}
use Rattle.hb_rules.specs.declared.report.Fate.{Fate}
use Rattle.hb_rules.specs.declared.report.Fate.TheVariants.{Running, Memory}
use Rattle.hb_rules.specs.Actor.{ActorView, Told}
use Rattle.hb_rules.specs.Ledger.{IsPrefix}
use Rattle.hb_rules.specs.Report.{comes_to, IsReceived}
use Rattle.hb_rules.specs.Terms.{Terms}
use Rattle.net_script.specs.Delivery.{shape_of}
use Rattle.journaled_actor.proofs.Posted.{told_trans}
use Rattle.step_driver.specs.Places.{PlayerView}
use Rattle.step_driver.specs.Delivering.{IsPlayer, HasFate}
use Rattle.step_driver.proofs.Playing.{IsSound-on, IsReceived-on, slice_get-front}
use Rattle.actor_cell.specs.declared.arrival.Arrival.{Arrival}
use Rattle.actor_cell.specs.declared.arrival.Arrival.TheVariants as arrivals
use Rattle.mailbox.specs.Interleaving.{HasAll}
use Rattle.atomic_table.specs.Seated.{TableId}
use Rattle.hb_rules.specs.Book.{SeatView}
use Rattle.actor_cell.specs.declared.served.Served.{Served}
use Rattle.actor_cell.specs.declared.served.Served.TheVariants as answers
use Rattle.actor_cell.specs.Boxes.{BoxesView, place_of}
use Rattle.actor_cell.specs.Passes.{PassesView, puts_of, own_puts}
use Rattle.actor_cell.specs.Mail.{MailView, Sent, sent_of, ArePut, IsSameTaker, deliveries}
use Rattle.actor_cell.specs.Held.{IsHeld, WasShown}
use Rattle.actor_cell.specs.Turning.{IsSameSeat, IsShown, KeepsTerms, WantedMemory, Starts, Begins, HasSent, Hears, HasReceived, IsHeard, Fares, Turning, TookOnly, HoldsBack, IsDelivered, Delivers, IsServed, ServesBack, ServesNew, TakesOne, TakesNone, Turned, arrival, arrival_found, by_lateness, arrives, is_late}
use Rattle.actor_cell.proofs.Hearings.{shown_longer, moved_by, IsPrefix-refl, IsSameSeat-then, IsPrefix-then, IsShown-refl, IsShown-then, Contains-none}

-- ---- what holds under the lock

-- an actor and its mail went on
pub IsHeld-on : {B S : Type 0} (knows : B → S → Type 0) (is_script : Script → Type 0) (run : TableId) (seat seat' : S) (b b' : B) (name name' : TableId) (s : Script) (mail mail' : MailView)
    (p q : PlayerView) → IsHeld knows is_script run seat b name s mail p → knows b' seat' → name' ≡ name → IsSameSeat p q → mail'.boxes ≡ mail.boxes
    → mail'.passes.place ≡ mail.passes.place → IsPlayer s.config s true q → IsHeld knows is_script run seat' b' name' s mail' q
IsHeld-on knows is_script run seat seat' b b' name name' s mail mail' p q was of_book named same boxes place player = record {
  of_book = of_book;
  book = named ∙ was.book;
  script = was.script;
  config = same.config ∙ was.config;
  known = rw (same.node, same.actor) was.known;
  boxes = ap (λ (all : BoxesView). all.config) boxes ∙ was.boxes;
  place =
      place ∙ was.place ∙ ap (λ (i : ℕ). place_of s.config i p.seat.actor) (sym same.node)
      ∙ ap (λ (x : ℕ). place_of s.config q.seat.node x) (sym same.actor);
  player = player;
}

fate_live : (fate : Fate) (p q : PlayerView) → q.view.live ≡ true → (q.fate ≡ Running) ⊎ (q.fate ≡ Memory) → HasFate true q.fate q.seat q.view
fate_live fate p q live (inl running) = subst (λ (f : Fate). HasFate true f q.seat q.view) (sym running) live
fate_live fate p q live (inr memory) = subst (λ (f : Fate). HasFate true f q.seat q.view) (sym memory) tt

live_running : (c : Numbers) (s : Script) (p : PlayerView) → p.fate ≡ Running → IsPlayer c s true p → p.view.live ≡ true
live_running c s p running player = subst (λ (f : Fate). HasFate true f p.seat p.view) running player.fate

-- an actor that looked at a post
pub IsPlayer-shown : (c : Numbers) (s : Script) (p q : PlayerView) → IsPlayer c s true p → p.fate ≡ Running → IsShown p q → (q.fate ≡ Running) ⊎ (q.fate ≡ Memory) → IsPlayer c s true q
IsPlayer-shown c s p q player running shown fate = record {
  sound =
      IsSound-on c s p q player.sound shown.seat.node shown.seat.actor (shown_longer p q shown) (ap (λ (v : ActorView). v.terms) shown.view)
      (ap (λ (v : ActorView). v.supply.planned) shown.view) (rw shown.view (omega arith))
      (record { each = λ k stands. inl (subst (λ (v : ActorView). Contains v.got k) shown.view stands) });
  fate = fate_live p.fate p q (ap (λ (v : ActorView). v.live) shown.view ∙ live_running c s p running player) fate;
}

-- an actor that heard a post
pub IsPlayer-hears : (c : Numbers) (s : Script) (k : ℕ) (p q : PlayerView) (before after : List ℕ) → IsPlayer c s true p → IsReceived c s p.seat.seen p.seat.node p.seat.actor k
    → Hears k p q before after → IsPlayer c s true q
IsPlayer-hears c s k p q before after player comes hears =
    let now : IsReceived c s q.seat.seen q.seat.node q.seat.actor k =
    rw (hears.seat.node, hears.seat.actor) (IsReceived-on c s p.seat.seen q.seat.seen p.seat.node p.seat.actor k hears.seen comes) in
    record {
      sound =
          IsSound-on c s p q player.sound hears.seat.node hears.seat.actor hears.seen hears.keeps.terms hears.keeps.planned hears.keeps.budget
          (record {
            each = λ j stands. elim (hears.got j stands) [
              | inl had ↦ inl had
              | inr is ↦ inr (subst (λ (n : ℕ). IsReceived c s q.seat.seen q.seat.node q.seat.actor n) (sym is) now)
            ];
          });
      fate = hears.fate;
    }

pub IsShown-fates : (p q : PlayerView) (f h : Fate) → IsShown p q → IsShown (record p { fate = f }) (record q { fate = h })
IsShown-fates p q f h shown = record { seat = record { config = shown.seat.config; node = shown.seat.node; actor = shown.seat.actor }; view = shown.view; others = shown.others }

pub Hears-fates : (k : ℕ) (p q : PlayerView) (f : Fate) (before after : List ℕ) → Hears k p q before after → Hears k (record p { fate = f }) q before after
Hears-fates k p q f before after hears = record {
  seat = record { config = hears.seat.config; node = hears.seat.node; actor = hears.seat.actor };
  seen = hears.seen;
  keeps = hears.keeps;
  fate = hears.fate;
  failed = hears.failed;
  memory = hears.memory;
  got = hears.got;
  received = hears.received;
  told = hears.told;
}

-- ---- how posts arrive, as the history grows

arrival_same : (s : Script) (found found' : Option Post) (i x k : ℕ) (a : Arrival) → ((post : Post) → found ≡ Some post → found' ≡ Some post) → (a ≡ arrivals.Aside → ⊥)
    → arrival_found s found i x k ≡ a → arrival_found s found' i x k ≡ a
arrival_same s None found' i x k a kept other is = absurd (other (sym is))
arrival_same s (Some post) found' i x k a kept other is = ap (λ (f : Option Post). arrival_found s f i x k) (kept post refl) ∙ is

-- how a post arrives does not change once it stands
pub arrival-on : (s : Script) (p q : PlayerView) (k : ℕ) (a : Arrival) → IsSameSeat p q → IsPrefix p.seat.seen q.seat.seen → (a ≡ arrivals.Aside → ⊥) → arrival s p k ≡ a → arrival s q k ≡ a
arrival-on s p q k a same more other is =
    ap (λ (i : ℕ). arrival_found s (slice_get q.seat.seen k) i q.seat.actor k) same.node
    ∙ ap (λ (x : ℕ). arrival_found s (slice_get q.seat.seen k) p.seat.node x k) same.actor
    ∙ arrival_same s (slice_get p.seat.seen k) (slice_get q.seat.seen k) p.seat.node p.seat.actor k a
    (λ post stands. ap (λ (posts : List Post). slice_get posts k) more.is ∙ slice_get-front p.seat.seen more.rest k post stands) other is

pub late_not_aside : arrivals.Late ≡ arrivals.Aside → ⊥
late_not_aside is = cc (is)

pub prompt_not_aside : arrivals.Prompt ≡ arrivals.Aside → ⊥
prompt_not_aside is = cc (is)

comes_by : (comes : Bool) (a b : Arrival) → (if comes then a else arrivals.Aside) ≡ b → (b ≡ arrivals.Aside → ⊥) → comes ≡ true
comes_by true a b is other = refl
comes_by false a b is other = absurd (other (sym is))

received_by : (s : Script) (found : Option Post) (posts : List Post) (i x k : ℕ) (a : Arrival) → found ≡ slice_get posts k → (a ≡ arrivals.Aside → ⊥) → arrival_found s found i x k ≡ a
    → IsReceived s.config s posts i x k
received_by s None posts i x k a is other arrives = absurd (other (sym arrives))
received_by s (Some post) posts i x k a is other arrives = record {
  post = post;
  stands = sym is;
  comes = comes_by (comes_to s.config s post i x k) (by_lateness (shape_of s.links.items post.from i k)) a arrives other;
}

stands_below : (posts : List Post) (k : ℕ) (post : Post) → slice_get posts k ≡ Some post → k < length posts
stands_below [] k post is = absurd (cc (is))
stands_below (p ∷ posts) zero post is = omega arith
stands_below (p ∷ posts) (suc k) post is = omega (arith, stands_below posts k post is)

-- a post that arrives comes to the actor
pub IsReceived-arrives : (s : Script) (p : PlayerView) (k : ℕ) (a : Arrival) → (a ≡ arrivals.Aside → ⊥) → arrival s p k ≡ a → IsReceived s.config s p.seat.seen p.seat.node p.seat.actor k
IsReceived-arrives s p k a other arrives = received_by s (slice_get p.seat.seen k) p.seat.seen p.seat.node p.seat.actor k a refl other arrives

-- ---- what is sent

nothing_more : (xs ys : List ℕ) → [] ≡ xs ++ ys → ys ≡ []
nothing_more [] ys is = sym is
nothing_more (x ∷ xs) ys is = absurd (omega (arith, ap (λ (zs : List ℕ). length zs) is))

-- posts of others add no number
pub told_beside : (t : Terms) (a b : List Post) (numbers : List ℕ) → Told t a b [] [] → Told t a b numbers numbers
told_beside t a b numbers told = record {
  added = told.added;
  grown = told.grown;
  told = sym (ap (λ (ns : List ℕ). numbers ++ ns) (sym told.told) ∙ append-nil numbers);
}

-- an actor that has ended sends nothing
pub IsHeard-ended : (s : Script) (k : ℕ) (o q : PlayerView) (out : List ℕ) (sent : Sent) → IsReceived s.config s o.seat.seen o.seat.node o.seat.actor k → Hears k o q [] out
    → (q.fate ≡ Running → ⊥) → IsHeard s k o q sent sent
IsHeard-ended s k o q out sent comes hears ended = record {
  comes = rw (hears.seat.node, hears.seat.actor) (IsReceived-on s.config s o.seat.seen q.seat.seen o.seat.node o.seat.actor k hears.seen comes);
  seat = hears.seat;
  seen = hears.seen;
  keeps = hears.keeps;
  received = λ running. absurd (ended running);
  heard = inr (hears.failed ended);
  memory = λ memory. inr (hears.memory memory);
  sent = record { numbers = []; put = refl; all = λ running. absurd (ended running); some = inl refl; unsent = λ _ live. absurd (cc (hears.failed ended, live)) };
}

received_shown : (k : ℕ) (u v w : ActorView) → w ≡ v → HasReceived k u v → HasReceived k u w
received_shown k u v w same received = subst (λ (a : ActorView). HasReceived k u a) (sym same) received

live_shown : (m q : PlayerView) → m.fate ≡ Running → HasFate true m.fate m.seat m.view → IsShown m q → q.view.live ≡ true
live_shown m q running fate shown = ap (λ (v : ActorView). v.live) shown.view ∙ subst (λ (f : Fate). HasFate true f m.seat m.view) running fate

-- the numbers of what it made are put
HasSent-of : (s : Script) (o m q : PlayerView) (out front rest : List ℕ) (before after : Sent) → Told o.view.terms o.seat.seen m.seat.seen [] out → m.view.terms ≡ o.view.terms
    → IsShown m q → out ≡ front ++ rest → (q.fate ≡ Running → rest ≡ []) → (q.fate ≡ Memory → rest ≡ [] → ⊥)
    → ArePut s.config (deliveries s.config s q.seat.seen front) before after → HasSent s o q before after
HasSent-of s o m q out front rest before after made terms shown parts all left put =
    let told : Told o.view.terms o.seat.seen q.seat.seen [] out =
    told_trans o.view.terms o.seat.seen m.seat.seen q.seat.seen [] out out made
    (told_beside o.view.terms m.seat.seen q.seat.seen out (subst (λ (t : Terms). Told t m.seat.seen q.seat.seen [] []) terms shown.others)) in
    record {
      numbers = front;
      put = put;
      all = λ works. subst (λ (ns : List ℕ). Told o.view.terms o.seat.seen q.seat.seen [] ns) (parts ∙ ap (λ (ns : List ℕ). front ++ ns) (all works) ∙ append-nil front) told;
      some = inr (rest, subst (λ (ns : List ℕ). Told o.view.terms o.seat.seen q.seat.seen [] ns) parts told);
      unsent = λ memory _. (rest, left memory, subst (λ (ns : List ℕ). Told o.view.terms o.seat.seen q.seat.seen [] ns) parts told);
    }

-- one that works sends what it made
pub IsHeard-sent : (s : Script) (k : ℕ) (o m q : PlayerView) (out front rest : List ℕ) (before after : Sent) → IsReceived s.config s o.seat.seen o.seat.node o.seat.actor k → Hears k o m [] out
    → m.fate ≡ Running → IsShown m q → out ≡ front ++ rest → (q.fate ≡ Running → rest ≡ []) → (q.fate ≡ Memory → rest ≡ [] → ⊥)
    → ArePut s.config (deliveries s.config s q.seat.seen front) before after → IsHeard s k o q before after
IsHeard-sent s k o m q out front rest before after comes hears running shown parts all left put =
    let same = IsSameSeat-then o m q hears.seat shown.seat in
    let more = IsPrefix-then o.seat.seen m.seat.seen q.seat.seen hears.seen (shown_longer m q shown) in
    record {
      comes = rw (same.node, same.actor) (IsReceived-on s.config s o.seat.seen q.seat.seen o.seat.node o.seat.actor k more comes);
      seat = same;
      seen = more;
      keeps = subst (λ (v : ActorView). KeepsTerms o.view v) (sym shown.view) hears.keeps;
      received = λ _. received_shown k o.view m.view q.view shown.view (hears.received running);
      heard = inl (received_shown k o.view m.view q.view shown.view (hears.received running));
      memory = λ _. inl (live_shown m q running hears.fate shown);
      sent = HasSent-of s o m q out front rest before after (hears.told running) hears.keeps.terms shown parts all left put;
    }

-- looks before a delivery
pub IsHeard-shown : (s : Script) (k : ℕ) (o m q : PlayerView) (before after : Sent) → IsShown o m → IsHeard s k m q before after → IsHeard s k o q before after
IsHeard-shown s k o m q before after shown heard = record {
  comes = heard.comes;
  seat = IsSameSeat-then o m q shown.seat heard.seat;
  seen = IsPrefix-then o.seat.seen m.seat.seen q.seat.seen (shown_longer o m shown) heard.seen;
  keeps = subst (λ (v : ActorView). KeepsTerms v q.view) shown.view heard.keeps;
  received = λ works. subst (λ (v : ActorView). HasReceived k v q.view) shown.view (heard.received works);
  heard = elim heard.heard [
    | inl received ↦ inl (subst (λ (v : ActorView). HasReceived k v q.view) shown.view received)
    | inr failed ↦ inr failed
  ];
  memory = λ memory. elim (heard.memory memory) [
    | inl live ↦ inl live
    | inr wanted ↦ inr (subst (λ (v : ActorView). WantedMemory v q.view) shown.view wanted)
  ];
  sent = record {
    numbers = heard.sent.numbers;
    put = heard.sent.put;
    all = λ works. told_after shown (heard.sent.all works);
    some = elim heard.sent.some [
      | inl none ↦ inl none
      | inr rest ↦ inr (rest.0, told_after shown rest.1)
    ];
    unsent = λ memory live. let rest = heard.sent.unsent memory live in (rest.0, rest.1, told_after shown rest.2);
  };
}
  where
    told_after : {ns : List ℕ} → IsShown o m → Told m.view.terms m.seat.seen q.seat.seen [] ns → Told o.view.terms o.seat.seen q.seat.seen [] ns
    told_after {ns} shown told =
        told_trans o.view.terms o.seat.seen m.seat.seen q.seat.seen [] [] ns shown.others
        (subst (λ (v : ActorView). Told v.terms m.seat.seen q.seat.seen [] ns) shown.view told)

-- ---- a start

pub IsPlayer-starts : (c : Numbers) (s : Script) (p q : PlayerView) (before after : List ℕ) → IsPlayer c s false p → Starts p q before after → IsPlayer c s true q
IsPlayer-starts c s p q before after player starts = record {
  sound =
      IsSound-on c s p q player.sound starts.seat.node starts.seat.actor starts.seen starts.keeps.terms starts.keeps.planned starts.keeps.budget
      (record { each = λ k stands. absurd (starts.none k stands) });
  fate = starts.fate;
}

-- an actor that has ended sends nothing
pub Begins-ended : (s : Script) (o q : PlayerView) (out : List ℕ) (sent : Sent) → Starts o q [] out → (q.fate ≡ Running → ⊥) → Begins s o q sent sent
Begins-ended s o q out sent starts ended = record {
  seat = starts.seat;
  seen = starts.seen;
  keeps = starts.keeps;
  begun = starts.begun;
  memory = λ memory. inr (starts.memory memory);
  none = starts.none;
  sent = record { numbers = []; put = refl; all = λ running. absurd (ended running); some = inl refl; unsent = λ _ live. absurd (cc (starts.failed ended, live)) };
}

-- one that works sends what it made
pub Begins-sent : (s : Script) (o m q : PlayerView) (out front rest : List ℕ) (before after : Sent) → Starts o m [] out → m.fate ≡ Running → IsShown m q → out ≡ front ++ rest
    → (q.fate ≡ Running → rest ≡ []) → (q.fate ≡ Memory → rest ≡ [] → ⊥) → ArePut s.config (deliveries s.config s q.seat.seen front) before after → Begins s o q before after
Begins-sent s o m q out front rest before after starts running shown parts all left put = record {
  seat = IsSameSeat-then o m q starts.seat shown.seat;
  seen = IsPrefix-then o.seat.seen m.seat.seen q.seat.seen starts.seen (shown_longer m q shown);
  keeps = subst (λ (v : ActorView). KeepsTerms o.view v) (sym shown.view) starts.keeps;
  begun = ap (λ (v : ActorView). v.fresh) shown.view ∙ starts.begun;
  memory = λ _. inl (live_shown m q running starts.fate shown);
  none = λ k stands. starts.none k (subst (λ (v : ActorView). Contains v.got k) shown.view stands);
  sent = HasSent-of s o m q out front rest before after (starts.told running) starts.keeps.terms shown parts all left put;
}

-- ---- what was shown

pub WasShown-look : {B S : Type 0} (is_whole : B → B → S → S → Type 0) (moved : ℕ → ℕ → B → B → Type 0) (seen : S → List Post) → ((i x : ℕ) (b : B) → moved i x b b)
    → (a b c : B) (from to last : S) (p q : PlayerView) → IsSameSeat p q → is_whole a b from to → moved q.seat.node q.seat.actor b c → IsPrefix (seen to) (seen last)
    → WasShown is_whole moved seen p.seat.node p.seat.actor a c last
WasShown-look is_whole moved seen stays a b c from to last p q same whole went more = record {
  before = a;
  after = b;
  seat_before = from;
  seat_after = to;
  first = stays p.seat.node p.seat.actor a;
  whole = whole;
  last = moved_by moved b c p q same went;
  more = more;
}

-- and before that the same seat made other calls
pub WasShown-later : {B S : Type 0} (is_whole : B → B → S → S → Type 0) (moved : ℕ → ℕ → B → B → Type 0) (seen : S → List Post)
    → ((i x : ℕ) (a b c : B) → moved i x a b → moved i x b c → moved i x a c) → (a b c : B) (last : S) (p q : PlayerView) → IsSameSeat p q → moved p.seat.node p.seat.actor a b
    → WasShown is_whole moved seen q.seat.node q.seat.actor b c last → WasShown is_whole moved seen p.seat.node p.seat.actor a c last
WasShown-later is_whole moved seen goes_on a b c last p q same went shown = record {
  before = shown.before;
  after = shown.after;
  seat_before = shown.seat_before;
  seat_after = shown.seat_after;
  first = goes_on p.seat.node p.seat.actor a b shown.before went (moved_by moved b shown.before p q same shown.first);
  whole = shown.whole;
  last = moved_by moved shown.after c p q same shown.last;
  more = shown.more;
}

-- a delivery leaves what was seen before
pub Delivers-longer : (s : Script) (k : ℕ) (found : Option Arrival) (o q : Turning) → Delivers s k found o q → IsPrefix o.player.seat.seen q.player.seat.seen
Delivers-longer s k None o q same = subst (λ (t : Turning). IsPrefix o.player.seat.seen t.player.seat.seen) (sym same) (IsPrefix-refl o.player.seat.seen)
Delivers-longer s k (Some arrivals.Aside) o q same = subst (λ (t : Turning). IsPrefix o.player.seat.seen t.player.seat.seen) (sym same) (IsPrefix-refl o.player.seat.seen)
Delivers-longer s k (Some arrivals.Prompt) o q delivered = delivered.heard.seen
Delivers-longer s k (Some arrivals.Late) o q delivered = delivered.heard.seen

-- ---- one number

same_taker : (old new : MailView) → new ≡ old → IsSameTaker old new
same_taker old new same =
    subst (λ (m : MailView). IsSameTaker old m) (sym same) (record { boxes = refl; place = refl; take = refl })

abbrev pub Looked : Script → ℕ → Option Arrival → Turning → Type 0
Looked s k found m = MatchOption found ((m.player.fate ≡ Memory) × (k < length m.player.seat.seen)) (λ a. (m.player.fate ≡ Running) × (a ≡ arrival s m.player k))

heard_after : (s : Script) (k : ℕ) (o m q : Turning) → IsShown o.player m.player → m.mail ≡ o.mail → m.back ≡ o.back → IsDelivered s k m q → IsServed s k o q
heard_after s k o m q shown mail back delivered = record {
  fares = inr (inr (IsHeard-shown s k o.player m.player q.player (sent_of o.mail) (sent_of q.mail) shown
      (subst (λ (all : MailView). IsHeard s k m.player q.player (sent_of all) (sent_of q.mail)) mail delivered.heard)));
  taker = subst (λ (all : MailView). IsSameTaker all q.mail) mail delivered.taker;
  back = delivered.back ∙ back;
}

-- a number was looked at, and delivered or not
pub IsServed-of : (s : Script) (k : ℕ) (found : Option Arrival) (o m q : Turning) → o.player.fate ≡ Running → IsShown o.player m.player → m.mail ≡ o.mail → m.back ≡ o.back
    → Looked s k found m → Delivers s k found m q → IsServed s k o q
IsServed-of s k None o m q running shown mail back looked same =
    subst (λ (t : Turning). IsServed s k o t) (sym same)
    (record { fares = inr (inl (record { shown = shown; stands = looked.1; fate = looked.0; sent = ap (λ (all : MailView). sent_of all) mail })); taker = same_taker o.mail m.mail mail; back = back })
IsServed-of s k (Some arrivals.Aside) o m q running shown mail back looked same =
    subst (λ (t : Turning). IsServed s k o t) (sym same) (record {
      fares = inl (record { shown = shown; fate = looked.0 ∙ sym running; aside = sym looked.1; sent = ap (λ (all : MailView). sent_of all) mail });
      taker = same_taker o.mail m.mail mail;
      back = back;
    })
IsServed-of s k (Some arrivals.Prompt) o m q running shown mail back looked delivered = heard_after s k o m q shown mail back delivered
IsServed-of s k (Some arrivals.Late) o m q running shown mail back looked delivered = heard_after s k o m q shown mail back delivered

not_late : (a b : Arrival) → a ≡ arrivals.Late → a ≡ b → (b ≡ arrivals.Late → ⊥) → ⊥
not_late a b late is other = other (sym is ∙ late)

prompt_not_late : arrivals.Prompt ≡ arrivals.Late → ⊥
prompt_not_late is = cc (is)

aside_not_late : arrivals.Aside ≡ arrivals.Late → ⊥
aside_not_late is = cc (is)

-- where it was not late, it is late only if the look found no memory
late_only : (s : Script) (k : ℕ) (found : Option Arrival) (m q : Turning) → (found ≡ Some arrivals.Late → ⊥) → Looked s k found m → Delivers s k found m q
    → arrival s q.player k ≡ arrivals.Late → q.player.fate ≡ Memory
late_only s k None m q other looked same late = ap (λ (t : Turning). t.player.fate) same ∙ looked.0
late_only s k (Some arrivals.Aside) m q other looked same late =
    absurd (not_late (arrival s q.player k) arrivals.Aside late (ap (λ (t : Turning). arrival s t.player k) same ∙ sym looked.1) aside_not_late)
late_only s k (Some arrivals.Prompt) m q other looked delivered late =
    absurd (not_late (arrival s q.player k) arrivals.Prompt late
    (arrival-on s m.player q.player k arrivals.Prompt delivered.heard.seat delivered.heard.seen prompt_not_aside (sym looked.1)) prompt_not_late)
late_only s k (Some arrivals.Late) m q other looked delivered late = absurd (other refl)

-- a number from the mailbox that is not late
pub ServesNew-of : (s : Script) (k : ℕ) (found : Option Arrival) (o m q : Turning) → o.player.fate ≡ Running → IsShown o.player m.player → m.mail ≡ o.mail → m.back ≡ o.back
    → Looked s k found m → (found ≡ Some arrivals.Late → ⊥) → Delivers s k found m q → ServesNew s k true o q
ServesNew-of s k found o m q running shown mail back looked other delivers =
    (IsServed-of s k found o m q running shown mail back looked delivers, late_only s k found m q other looked delivers)

late_looked : (s : Script) (k : ℕ) (found : Option Arrival) (m : Turning) → found ≡ Some arrivals.Late → Looked s k found m → arrival s m.player k ≡ arrivals.Late
late_looked s k None m is looked = absurd (cc (is))
late_looked s k (Some a) m is looked = let same : a ≡ arrivals.Late = cc (is) in sym looked.1 ∙ same

late_stands : (s : Script) (k : ℕ) (found : Option Arrival) (m : Turning) → found ≡ Some arrivals.Late → Looked s k found m → k < length m.player.seat.seen
late_stands s k found m is looked =
    let comes = IsReceived-arrives s m.player k arrivals.Late late_not_aside (late_looked s k found m is looked) in
    stands_below m.player.seat.seen k comes.post comes.stands

-- a late one that could not be held back, and one that was
pub ServesNew-lost : (s : Script) (k : ℕ) (found : Option Arrival) (o m q : Turning) → found ≡ Some arrivals.Late → Looked s k found m → IsShown o.player q.player
    → q.player.seat ≡ m.player.seat → q.mail ≡ o.mail → q.back ≡ o.back → q.player.fate ≡ Memory → ServesNew s k true o q
ServesNew-lost s k found o m q is looked shown seat mail back memory = (
  record {
    fares = inr (inl (record { shown = shown; stands = subst (λ (st : SeatView). k < length st.seen) (sym seat) (late_stands s k found m is looked); fate = memory; sent = ap (λ (all : MailView). sent_of all) mail }));
    taker = same_taker o.mail q.mail mail;
    back = back;
  },
  λ _. memory,
)

pub ServesNew-held : (s : Script) (k : ℕ) (found : Option Arrival) (o m q : Turning) → found ≡ Some arrivals.Late → Looked s k found m → IsShown o.player q.player → q.player.view ≡ m.player.view
    → q.player.seat ≡ m.player.seat → q.player.fate ≡ Running → q.mail ≡ o.mail → q.back ≡ o.back ++ k ∷ [] → ServesNew s k false o q
ServesNew-held s k found o m q is looked shown view seat running mail back =
    (shown, running, ap (λ (st : SeatView). arrival_found s (slice_get st.seen k) st.node st.actor k) seat ∙ late_looked s k found m is looked, mail, back)

-- ---- a turn

pub record Took (old new : Turning) (more : List ℕ) : Type 0 where
  pub player : new.player ≡ old.player
  pub back : new.back ≡ old.back
  pub mail : TookOnly old.mail new.mail more
  pub asked : new.mail.passes.take.asked ≡ old.mail.passes.take.asked + 1

pub TookOnly-then : (a b c : MailView) (xs ys : List ℕ) → TookOnly a b xs → TookOnly b c ys → TookOnly a c (xs ++ ys)
TookOnly-then a b c xs ys one two = record {
  boxes = two.boxes ∙ one.boxes;
  place = two.place ∙ one.place;
  joined = two.joined ∙ one.joined;
  taken = two.taken ∙ ap (λ (ks : List ℕ). ks ++ ys) one.taken ∙ append_assoc a.passes.take.taken xs ys;
  sent = two.sent ∙ one.sent;
}

pub TookOnly-taker : (a b c : MailView) (xs : List ℕ) → TookOnly a b xs → IsSameTaker b c
    → (c.boxes ≡ a.boxes) × (c.passes.take.taken ≡ a.passes.take.taken ++ xs) × (c.passes.take.joined ≡ a.passes.take.joined)
TookOnly-taker a b c xs one same = (same.boxes ∙ one.boxes, ap (λ t. t.taken) same.take ∙ one.taken, ap (λ t. t.joined) same.take ∙ one.joined)

-- all that was put through the passes handed in was taken, and all own puts
abbrev pub IsEmptied : PassesView → List ℕ → Type 0
IsEmptied passes taken = HasAll passes.take.joined taken × HasAll (own_puts passes ∷ []) taken

-- they had been put before
pub emptied_before : (old new : MailView) (more : List ℕ) → TookOnly old new more → IsEmptied new.passes new.passes.take.taken
    → IsEmptied old.passes (old.passes.take.taken ++ more)
emptied_before old new more took emptied =
    let own : own_puts new.passes ≡ own_puts old.passes =
    ap (λ (puts : List (List ℕ)). get_or puts new.passes.place []) (ap (λ (s : Sent). s.puts) took.sent)
    ∙ ap (λ (place : ℕ). get_or (puts_of old.passes) place []) took.place in (
      subst (λ (ks : List ℕ). HasAll old.passes.take.joined ks) took.taken
          (subst (λ (js : List (List ℕ)). HasAll js new.passes.take.taken) took.joined emptied.0),
      subst (λ (ks : List ℕ). HasAll (own_puts old.passes ∷ []) ks) took.taken
          (subst (λ (ks : List ℕ). HasAll (ks ∷ []) new.passes.take.taken) own emptied.1),
    )

pub none_in : (k : ℕ) → Contains [] k → ⊥
none_in k stands = Contains-none [] k refl stands

pub HoldsBack-start : (s : Script) (o : Turning) → HoldsBack s [] o o
HoldsBack-start s o = record {
  asked = omega arith;
  shown = IsShown-refl o.player;
  fate = refl;
  each = λ k stands. absurd (none_in k stands);
  mail = record { boxes = refl; place = refl; joined = refl; taken = sym (append-nil o.mail.passes.take.taken); sent = refl };
  back = sym (append-nil o.back);
}

shown_from : (o m m1 q : Turning) → IsShown o.player m.player → m1.player ≡ m.player → IsShown m1.player q.player → IsShown o.player q.player
shown_from o m m1 q one same two = IsShown-then o.player m.player q.player one (subst (λ (p : PlayerView). IsShown p q.player) same two)

each_later : (s : Script) (moved : List ℕ) (m q : PlayerView) → IsSameSeat m q → IsPrefix m.seat.seen q.seat.seen → ((k : ℕ) → Contains moved k → arrival s m k ≡ arrivals.Late)
    → (k : ℕ) → Contains moved k → arrival s q k ≡ arrivals.Late
each_later s moved m q seat more each k stands = arrival-on s m q k arrivals.Late seat more late_not_aside (each k stands)

-- the seat after numbers were held back, and one was looked for
pub seat_taken : (s : Script) (moved more : List ℕ) (o m m1 : Turning) → HoldsBack s moved o m → Took m m1 more → IsSameSeat o.player m1.player
seat_taken s moved more o m m1 was took = subst (λ (p : PlayerView). IsSameSeat o.player p) (sym took.player) was.shown.seat

-- one more was held back
pub HoldsBack-on : (s : Script) (moved : List ℕ) (k : ℕ) (o m m1 q : Turning) → HoldsBack s moved o m → m.player.fate ≡ Running → Took m m1 (k ∷ []) → ServesNew s k false m1 q
    → HoldsBack s (moved ++ k ∷ []) o q
HoldsBack-on s moved k o m m1 q was running took served =
    let here : IsShown m.player q.player = subst (λ (p : PlayerView). IsShown p q.player) took.player served.0 in
    record {
      asked = omega (arith, was.asked, took.asked, ap (λ (all : MailView). all.passes.take.asked) served.3, length-append moved (k ∷ []));
      shown = IsShown-then o.player m.player q.player was.shown here;
      fate = served.1 ∙ sym running ∙ was.fate;
      each = λ j stands. elim (Contains-push_cases moved k j stands) [
        | inl had ↦ each_later s moved m.player q.player here.seat (shown_longer m.player q.player here) was.each j had
        | inr is ↦ subst (λ (n : ℕ). arrival s q.player n ≡ arrivals.Late) is served.2
      ];
      mail = TookOnly-then o.mail m.mail q.mail moved (k ∷ []) was.mail (subst (λ (all : MailView). TookOnly m.mail all (k ∷ [])) (sym served.3) took.mail);
      back = served.4 ∙ ap (λ (ks : List ℕ). ks ++ k ∷ []) (took.back ∙ was.back) ∙ append_assoc o.back moved (k ∷ []);
    }

fares_goes : (s : Script) (k : ℕ) (p q : PlayerView) (before after : Sent) → Fares s k p q before after → IsSameSeat p q × IsPrefix p.seat.seen q.seat.seen
fares_goes s k p q before after (inl thrown) = (thrown.shown.seat, shown_longer p q thrown.shown)
fares_goes s k p q before after (inr (inl lost)) = (lost.shown.seat, shown_longer p q lost.shown)
fares_goes s k p q before after (inr (inr heard)) = (heard.seat, heard.seen)

fares_after : (s : Script) (k : ℕ) (o m q : PlayerView) (first before after : Sent) → IsShown o m → m.fate ≡ o.fate → before ≡ first → Fares s k m q before after → Fares s k o q first after
fares_after s k o m q first before after shown fate same (inl thrown) =
    inl (record { shown = IsShown-then o m q shown thrown.shown; fate = thrown.fate ∙ fate; aside = thrown.aside; sent = thrown.sent ∙ same })
fares_after s k o m q first before after shown fate same (inr (inl lost)) =
    inr (inl (record { shown = IsShown-then o m q shown lost.shown; stands = lost.stands; fate = lost.fate; sent = lost.sent ∙ same }))
fares_after s k o m q first before after shown fate same (inr (inr heard)) =
    inr (inr (IsHeard-shown s k o m q first after shown (subst (λ (b : Sent). IsHeard s k m q b after) same heard)))

fares_of : (s : Script) (k : ℕ) (moved more : List ℕ) (o m m1 q : Turning) → HoldsBack s moved o m → Took m m1 more → Fares s k m1.player q.player (sent_of m1.mail) (sent_of q.mail)
    → Fares s k o.player q.player (sent_of o.mail) (sent_of q.mail)
fares_of s k moved more o m m1 q was took fares =
    fares_after s k o.player m.player q.player (sent_of o.mail) (sent_of m1.mail) (sent_of q.mail) was.shown was.fate (took.mail.sent ∙ was.mail.sent)
    (subst (λ (p : PlayerView). Fares s k p q.player (sent_of m1.mail) (sent_of q.mail)) took.player fares)

each_of : (s : Script) (k : ℕ) (moved more : List ℕ) (o m m1 q : Turning) → HoldsBack s moved o m → Took m m1 more → Fares s k m1.player q.player (sent_of m1.mail) (sent_of q.mail)
    → (j : ℕ) → Contains moved j → arrival s q.player j ≡ arrivals.Late
each_of s k moved more o m m1 q was took fares =
    let goes = fares_goes s k m.player q.player (sent_of m1.mail) (sent_of q.mail)
    (subst (λ (p : PlayerView). Fares s k p q.player (sent_of m1.mail) (sent_of q.mail)) took.player fares) in
    each_later s moved m.player q.player goes.0 goes.1 was.each

-- the next number of the mailbox was served
pub TakesOne-new : (s : Script) (moved : List ℕ) (k : ℕ) (o m m1 q : Turning) → HoldsBack s moved o m → Took m m1 (k ∷ []) → ServesNew s k true m1 q → TakesOne s o q
TakesOne-new s moved k o m m1 q was took served =
    let all = TookOnly-taker o.mail m1.mail q.mail (moved ++ k ∷ []) (TookOnly-then o.mail m.mail m1.mail moved (k ∷ []) was.mail took.mail) served.0.taker in
    record {
      number = k;
      moved = moved;
      each = each_of s k moved (k ∷ []) o m m1 q was took served.0.fares;
      source = inl (record { taken = all.1; back = served.0.back ∙ took.back ∙ was.back; late = served.1 });
      fares = fares_of s k moved (k ∷ []) o m m1 q was took served.0.fares;
      boxes = all.0;
      joined = all.2;
    }

-- the first of those held back was served
pub TakesOne-back : (s : Script) (moved : List ℕ) (o m m1 q : Turning) → HoldsBack s moved o m → Took m m1 [] → IsEmptied m.mail.passes m.mail.passes.take.taken
    → m1.mail.passes.take.saw_empty ≡ true → ServesBack s answers.Did m1 q → TakesOne s o q
TakesOne-back s moved o m m1 q was took empty looked done =
    let all = TookOnly-taker o.mail m1.mail q.mail (moved ++ []) (TookOnly-then o.mail m.mail m1.mail moved [] was.mail took.mail) done.3 in
    let before = emptied_before o.mail m.mail moved was.mail empty in
    record {
      number = done.0;
      moved = moved;
      each = each_of s done.0 moved [] o m m1 q was took done.2;
      source = inr (record {
        asked = omega (arith, was.asked, took.asked, ap (λ t. t.asked) done.3.take);
        taken = all.1 ∙ ap (λ (ks : List ℕ). o.mail.passes.take.taken ++ ks) (append-nil moved);
        empty = before.0;
        own = before.1;
        looked = ap (λ t. t.saw_empty) done.3.take ∙ looked;
        back = sym was.back ∙ sym took.back ∙ done.1;
      });
      fares = fares_of s done.0 moved [] o m m1 q was took done.2;
      boxes = all.0;
      joined = all.2;
    }

pub both_none : (xs ys : List ℕ) → xs ++ ys ≡ [] → (xs ≡ []) × (ys ≡ [])
both_none [] ys is = (refl, is)
both_none (x ∷ xs) ys is = absurd (omega (arith, ap (λ (zs : List ℕ). length zs) is))

-- there was none
pub TakesNone-of : (s : Script) (moved : List ℕ) (o m m1 q : Turning) → HoldsBack s moved o m → Took m m1 [] → IsEmptied m.mail.passes m.mail.passes.take.taken
    → m1.mail.passes.take.saw_empty ≡ true → ServesBack s answers.Idle m1 q → TakesNone o q
TakesNone-of s moved o m m1 q was took empty looked done =
    let none = both_none o.back moved (sym was.back ∙ sym took.back ∙ done.0) in
    let player : q.player ≡ m.player = ap (λ (t : Turning). t.player) done.1 ∙ took.player in
    let all = TookOnly-then o.mail m.mail m1.mail moved [] was.mail took.mail in
    let emptied : IsEmptied o.mail.passes o.mail.passes.take.taken =
    subst (λ (ks : List ℕ). IsEmptied o.mail.passes ks) (ap (λ (ks : List ℕ). o.mail.passes.take.taken ++ ks) none.1 ∙ append-nil o.mail.passes.take.taken)
    (emptied_before o.mail m.mail moved was.mail empty) in
    let took_all : TookOnly o.mail q.mail (moved ++ []) = subst (λ (t : Turning). TookOnly o.mail t.mail (moved ++ [])) (sym done.1) all in
    record {
      asked = omega (arith, was.asked, took.asked, ap (λ (t : Turning). t.mail.passes.take.asked) done.1);
      shown = subst (λ (p : PlayerView). IsShown o.player p) (sym player) was.shown;
      fate = ap (λ (p : PlayerView). p.fate) player ∙ was.fate;
      mail = subst (λ (ks : List ℕ). TookOnly o.mail q.mail ks) (append-nil moved ∙ none.1) took_all;
      empty = emptied.0;
      own = emptied.1;
      looked = ap (λ (t : Turning). t.mail.passes.take.saw_empty) done.1 ∙ looked;
      before = none.0;
      after = ap (λ (t : Turning). t.back) done.1 ∙ done.0;
    }

-- ---- what holds under the lock, after a look and after a delivery

pub IsHeld-shown : {B S : Type 0} (knows : B → S → Type 0) (is_script : Script → Type 0) (run : TableId) (seat seat' : S) (b b' : B) (name name' : TableId) (s : Script) (mail mail' : MailView)
    (p q : PlayerView) → IsHeld knows is_script run seat b name s mail p → p.fate ≡ Running → (q.fate ≡ Running) ⊎ (q.fate ≡ Memory) → knows b' seat' → name' ≡ name → IsShown p q
    → mail'.boxes ≡ mail.boxes → mail'.passes.place ≡ mail.passes.place → IsHeld knows is_script run seat' b' name' s mail' q
IsHeld-shown knows is_script run seat seat' b b' name name' s mail mail' p q was running fate of_book named shown boxes place =
    IsHeld-on knows is_script run seat seat' b b' name name' s mail mail' p q was of_book named shown.seat boxes place
    (IsPlayer-shown s.config s p q was.player running shown fate)

pub IsHeld-hears : {B S : Type 0} (knows : B → S → Type 0) (is_script : Script → Type 0) (run : TableId) (seat seat' : S) (b b' : B) (name name' : TableId) (s : Script) (mail : MailView) (k : ℕ)
    (p q : PlayerView) (before after : List ℕ) → IsHeld knows is_script run seat b name s mail p → IsReceived s.config s p.seat.seen p.seat.node p.seat.actor k → knows b' seat' → name' ≡ name
    → Hears k p q before after → IsHeld knows is_script run seat' b' name' s mail q
IsHeld-hears knows is_script run seat seat' b b' name name' s mail k p q before after was comes of_book named hears =
    IsHeld-on knows is_script run seat seat' b b' name name' s mail mail p q was of_book named hears.seat refl refl
    (IsPlayer-hears s.config s k p q before after was.player comes hears)

-- ---- what was found

abbrev pub Found : Script → ℕ → Option Arrival → PlayerView → Type 0
Found s k found p = IfSome found (λ how. (p.fate ≡ Running) × (how ≡ arrival s p k))

pub found_running : (s : Script) (k : ℕ) (found : Option Arrival) (p : PlayerView) → arrives found ≡ true → Found s k found p → p.fate ≡ Running
found_running s k None p comes found = absurd (cc (comes))
found_running s k (Some how) p comes found = found.0

pub found_comes : (s : Script) (k : ℕ) (found : Option Arrival) (p : PlayerView) → arrives found ≡ true → Found s k found p → IsReceived s.config s p.seat.seen p.seat.node p.seat.actor k
found_comes s k None p comes found = absurd (cc (comes))
found_comes s k (Some arrivals.Aside) p comes found = absurd (cc (comes))
found_comes s k (Some arrivals.Prompt) p comes found = IsReceived-arrives s p k arrivals.Prompt prompt_not_aside (sym found.1)
found_comes s k (Some arrivals.Late) p comes found = IsReceived-arrives s p k arrivals.Late late_not_aside (sym found.1)

pub Delivers-heard : (s : Script) (k : ℕ) (found : Option Arrival) (o q : Turning) → arrives found ≡ true → IsDelivered s k o q → Delivers s k found o q
Delivers-heard s k None o q comes delivered = absurd (cc (comes))
Delivers-heard s k (Some arrivals.Aside) o q comes delivered = absurd (cc (comes))
Delivers-heard s k (Some arrivals.Prompt) o q comes delivered = delivered
Delivers-heard s k (Some arrivals.Late) o q comes delivered = delivered

pub Delivers-none : (s : Script) (k : ℕ) (found : Option Arrival) (o : Turning) → arrives found ≡ false → Delivers s k found o o
Delivers-none s k None o none = refl
Delivers-none s k (Some arrivals.Aside) o none = refl
Delivers-none s k (Some arrivals.Prompt) o none = absurd (cc (none))
Delivers-none s k (Some arrivals.Late) o none = absurd (cc (none))

pub is_late_of : (found : Option Arrival) → is_late found ≡ true → found ≡ Some arrivals.Late
is_late_of None late = absurd (cc (late))
is_late_of (Some arrivals.Aside) late = absurd (cc (late))
is_late_of (Some arrivals.Prompt) late = absurd (cc (late))
is_late_of (Some arrivals.Late) late = refl

pub not_late_of : (found : Option Arrival) → is_late found ≡ false → found ≡ Some arrivals.Late → ⊥
not_late_of found not is = cc (not, ap (λ (f : Option Arrival). is_late f) is)

pub looked_found : (s : Script) (k : ℕ) (found : Option Arrival) (m : Turning) → Looked s k found m → Found s k found m.player
looked_found s k None m looked = tt
looked_found s k (Some how) m looked = looked

-- ---- the answers of a turn

pub Turned-back : (s : Script) (r : Served) (moved : List ℕ) (o m m1 q : Turning) → m.player.fate ≡ Running → HoldsBack s moved o m → Took m m1 []
    → IsEmptied m.mail.passes m.mail.passes.take.taken → m1.mail.passes.take.saw_empty ≡ true → ServesBack s r m1 q → Turned s r o q
Turned-back s answers.Idle moved o m m1 q running was took empty looked done = (sym was.fate ∙ running, TakesNone-of s moved o m m1 q was took empty looked done)
Turned-back s answers.Did moved o m m1 q running was took empty looked done = (sym was.fate ∙ running, TakesOne-back s moved o m m1 q was took empty looked done)
Turned-back s answers.Ended moved o m m1 q running was took empty looked done = absurd done

pub Turned-new : (s : Script) (moved : List ℕ) (k : ℕ) (o m m1 q : Turning) → m.player.fate ≡ Running → HoldsBack s moved o m → Took m m1 (k ∷ []) → ServesNew s k true m1 q
    → Turned s answers.Did o q
Turned-new s moved k o m m1 q running was took done = (sym was.fate ∙ running, TakesOne-new s moved k o m m1 q was took done)
