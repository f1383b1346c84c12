-- Envelopes that are added.
use Rattle.std.proofs.Common.{◌≡◌, ℕ, zero, suc, ◌+◌, ◌-◌, ◌*◌, ◌<◌, ◌≤◌, true, false, inl, inr, List, [], ◌∷◌, length, Contains, Some, refl, sym, ap, ◌∙◌, subst, arith, slice_get, get_or, length-append}
use Rattle.std.specs.Prelude.{not}
use Rattle.std.proofs.lemmas.List.{length-map}
use Rattle.std.proofs.lemmas.List.Elements.{Contains-push, Contains-append_left, Contains-append_right}
use Rattle.std.proofs.lemmas.Option.{slice_get-get_or}
use Rattle.std.proofs.lemmas.Bool.{and_parts, cases_lt}
use Rattle.hb_base.specs.Numbers.{Numbers}
use Rattle.hb_wire.specs.declared.post.Post.{Post}
use Rattle.hb_wire.specs.Addresses.{reaches}
use Rattle.net_script.specs.declared.script.Script.{Script}
use Rattle.net_script.specs.declared.script.Shape.{Shape}
use Rattle.net_script.specs.declared.script.Shape.TheVariants.{Once, Twice, Late, Drop}
use Rattle.net_script.specs.Delivery.{shape_of}
use Rattle.hb_rules.specs.Report.{is_drop, comes_to, IsReceived}
use Rattle.step_driver.specs.declared.envelope.Envelope.{Envelope}
use Rattle.step_driver.specs.Waiting.{Waiting, envelope, with_envelope, count_waiting}
use Rattle.step_driver.specs.Places.{PlayerView, HiredView, Spot, correct, lying, seat_of, name_of, names}
use Rattle.step_driver.specs.Directory.{Groups, IsDirectory, leads_to, led_to, places_where}
use Rattle.step_driver.specs.Delivering.{IsReachedBy, IsOut, IsSentTo, IsResentTo, IsSent, AreSent, AreResentTo, AreResent}
use Rattle.step_driver.proofs.Stages.{slice_get-map}
use Rattle.step_driver.proofs.Directories.{places_from-has, places_from-few, led_to-is, reaches-leads}

pub out-kept : (shape : Shape) (e : Envelope) (w : Waiting) (k p : ℕ) → IsOut w k p → IsOut (with_envelope shape e w) k p
out-kept Once e w k p (inl out) = inl (Contains-append_left w.prompt (e ∷ []) (envelope k p) out)
out-kept Once e w k p (inr out) = inr out
out-kept Twice e w k p (inl out) = inl (Contains-append_left w.prompt (e ∷ e ∷ []) (envelope k p) out)
out-kept Twice e w k p (inr out) = inr out
out-kept Late e w k p (inl out) = inl out
out-kept Late e w k p (inr out) = inr (Contains-append_left w.late (e ∷ []) (envelope k p) out)
out-kept Drop e w k p out = out

Contains-first : {A : Type 0} (x : A) (xs : List A) → Contains (x ∷ xs) x
Contains-first x xs = (0, omega arith, refl)

pub out-added : (shape : Shape) (w : Waiting) (k p : ℕ) → not (is_drop shape) ≡ true → IsOut (with_envelope shape (envelope k p) w) k p
out-added Once w k p comes = inl (Contains-push w.prompt (envelope k p))
out-added Twice w k p comes = inl (Contains-append_right w.prompt (envelope k p ∷ envelope k p ∷ []) (envelope k p) (Contains-first (envelope k p) (envelope k p ∷ [])))
out-added Late w k p comes = inr (Contains-push w.late (envelope k p))
out-added Drop w k p comes = absurd (cc (comes))

pub count-added : (shape : Shape) (e : Envelope) (w : Waiting) → count_waiting (with_envelope shape e w) ≤ count_waiting w + 2
count-added Once e w = omega (arith, length-append w.prompt (e ∷ []))
count-added Twice e w = omega (arith, length-append w.prompt (e ∷ e ∷ []))
count-added Late e w = omega (arith, length-append w.late (e ∷ []))
count-added Drop e w = omega arith

pub count-once : (e : Envelope) (w : Waiting) → count_waiting (with_envelope Once e w) ≡ count_waiting w + 1
count-once e w = omega (arith, length-append w.prompt (e ∷ []))

-- ---- one post

slice_get-below : {A : Type 0} (xs : List A) (p : ℕ) (x : A) → slice_get xs p ≡ Some x → p < length xs
slice_get-below [] p x stands = absurd (cc (stands))
slice_get-below (y ∷ xs) zero x stands = omega arith
slice_get-below (y ∷ xs) (suc p) x stands = omega (arith, slice_get-below xs p x stands)

-- the envelopes of post k were added, for each actor at the first n places of a list to which it comes
pub record AreSentIn (c : Numbers) (s : Script) (post : Post) (k : ℕ) (all : List Spot) (ps : List ℕ) (n : ℕ) (old new : Waiting) : Type 0 where
  pub kept : (j p : ℕ) → IsOut old j p → IsOut new j p
  pub sent : (i p : ℕ) (pl : PlayerView) → i < n → slice_get ps i ≡ Some p → slice_get all p ≡ Some (correct pl)
      → comes_to c s post pl.seat.node pl.seat.actor k ≡ true → IsOut new k p
  pub few : count_waiting new ≤ count_waiting old + 2 * n

pub AreSentIn-start : (c : Numbers) (s : Script) (post : Post) (k : ℕ) (all : List Spot) (ps : List ℕ) (w : Waiting) → AreSentIn c s post k all ps 0 w w
AreSentIn-start c s post k all ps w = record { kept = λ j p out. out; sent = λ i p pl below listed stands comes. absurd (omega (arith, below)); few = omega arith }

-- the place is not reached
AreSentIn-skip : (c : Numbers) (s : Script) (post : Post) (k : ℕ) (all : List Spot) (ps : List ℕ) (n q : ℕ) (old w : Waiting) (spot : Spot)
    → slice_get ps n ≡ Some q → slice_get all q ≡ Some spot → IsReachedBy c post spot false → AreSentIn c s post k all ps n old w → AreSentIn c s post k all ps (n + 1) old w
AreSentIn-skip c s post k all ps n q old w spot listed stands missed was = record {
  kept = was.kept;
  sent = λ i p pl below at there comes. elim (cases_lt i n) [
    | inl before ↦ was.sent i p pl before at there comes
    | inr after ↦ absurd (not_here pl (here i p pl below after at there) comes)
  ];
  few = omega (arith, was.few);
}
  where
    here : (i p : ℕ) (pl : PlayerView) → i < n + 1 → n ≤ i → slice_get ps i ≡ Some p → slice_get all p ≡ Some (correct pl) → spot ≡ correct pl
    here i p pl below after at there =
        let same : i ≡ n = omega (arith, below, after) in
        let again : slice_get ps n ≡ Some p = ap (λ (m : ℕ). slice_get ps m) (sym same) ∙ at in
        let is : q ≡ p = cc in
        let found : slice_get all q ≡ Some (correct pl) = ap (λ (r : ℕ). slice_get all r) is ∙ there in
        cc

    not_here : (pl : PlayerView) → spot ≡ correct pl → comes_to c s post pl.seat.node pl.seat.actor k ≡ true → ⊥
    not_here pl is comes =
        let is_told : false ≡ reaches c.n post pl.seat.node pl.seat.actor = subst (λ (o : Spot). IsReachedBy c post o false) is missed in
        let reaches_it = (and_parts (reaches c.n post pl.seat.node pl.seat.actor) (not (is_drop (shape_of s.links.items post.from pl.seat.node k))) comes).0 in
        cc (is_told, reaches_it)

-- the place is reached, and its envelope was added
AreSentIn-add : (c : Numbers) (s : Script) (post : Post) (k : ℕ) (all : List Spot) (ps : List ℕ) (n q : ℕ) (old w w' : Waiting) (spot : Spot)
    → slice_get ps n ≡ Some q → slice_get all q ≡ Some spot
    → w' ≡ with_envelope (shape_of s.links.items post.from (seat_of spot).node k) (envelope k q) w → AreSentIn c s post k all ps n old w
    → AreSentIn c s post k all ps (n + 1) old w'
AreSentIn-add c s post k all ps n q old w w' spot listed stands added was =
    let shape = shape_of s.links.items post.from (seat_of spot).node k in
    record {
      kept = λ j p out. subst (λ (v : Waiting). IsOut v j p) (sym added) (out-kept shape (envelope k q) w j p (was.kept j p out));
      sent = λ i p pl below at there comes. elim (cases_lt i n) [
        | inl before ↦ subst (λ (v : Waiting). IsOut v k p) (sym added) (out-kept shape (envelope k q) w k p (was.sent i p pl before at there comes))
        | inr after ↦
            let same : p ≡ q = here i p below after at in
            subst (λ (r : ℕ). IsOut w' k r) (sym same) (subst (λ (v : Waiting). IsOut v k q) (sym added)
            (out-added shape w k q (comes_here pl (ap (λ (r : ℕ). slice_get all r) (sym same) ∙ there) comes)))
      ];
      few = omega (arith, was.few, count-added shape (envelope k q) w, ap (λ (v : Waiting). count_waiting v) added);
    }
  where
    here : (i p : ℕ) → i < n + 1 → n ≤ i → slice_get ps i ≡ Some p → p ≡ q
    here i p below after at =
        let same : i ≡ n = omega (arith, below, after) in
        let again : slice_get ps n ≡ Some p = ap (λ (m : ℕ). slice_get ps m) (sym same) ∙ at in
        cc

    comes_here : (pl : PlayerView) → slice_get all q ≡ Some (correct pl) → comes_to c s post pl.seat.node pl.seat.actor k ≡ true
        → not (is_drop (shape_of s.links.items post.from (seat_of spot).node k)) ≡ true
    comes_here pl there comes =
        let is : spot ≡ correct pl = cc in
        subst (λ (o : Spot). not (is_drop (shape_of s.links.items post.from (seat_of o).node k)) ≡ true) (sym is)
        (and_parts (reaches c.n post pl.seat.node pl.seat.actor) (not (is_drop (shape_of s.links.items post.from pl.seat.node k))) comes).1

pub AreSentIn-step : (c : Numbers) (s : Script) (post : Post) (k : ℕ) (all : List Spot) (ps : List ℕ) (n q : ℕ) (old w w' : Waiting) (spot : Spot)
    → slice_get ps n ≡ Some q → slice_get all q ≡ Some spot → IsSentTo c s post k q spot w w' → AreSentIn c s post k all ps n old w → AreSentIn c s post k all ps (n + 1) old w'
AreSentIn-step c s post k all ps n q old w w' spot listed stands (inl (missed, same)) was =
    subst (λ (v : Waiting). AreSentIn c s post k all ps (n + 1) old v) (sym same) (AreSentIn-skip c s post k all ps n q old w spot listed stands missed was)
AreSentIn-step c s post k all ps n q old w w' spot listed stands (inr added) was = AreSentIn-add c s post k all ps n q old w w' spot listed stands added was

-- a post comes only to places to which its address leads
pub IsSent-of : (c : Numbers) (s : Script) (post : Post) (k : ℕ) (all : List Spot) (groups : Groups) (ps : List ℕ) (n : ℕ) (old new : Waiting) → IsDirectory c.n groups (names all)
    → ps ≡ led_to groups post → n ≡ length ps → AreSentIn c s post k all ps n old new → IsSent c s post k all (length all) old new
IsSent-of c s post k all groups ps n old new directory is all_of_them sent = record {
  kept = sent.kept;
  sent = λ p pl below there comes.
      let reaches_it = (and_parts (reaches c.n post pl.seat.node pl.seat.actor) (not (is_drop (shape_of s.links.items post.from pl.seat.node k))) comes).0 in
      let found = places_from-has 0 (leads_to c.n post) (names all) p (name_of (correct pl)) (slice_get-map name_of all p (correct pl) there)
      (reaches-leads c.n post pl.seat.node pl.seat.actor reaches_it) in
      let at : slice_get ps found.0 ≡ Some p = ap (λ (qs : List ℕ). slice_get qs found.0) leads ∙ found.1 ∙ ap (λ (q : ℕ). Some q) (omega arith) in
      sent.sent found.0 p pl (omega (arith, slice_get-below ps found.0 p at, all_of_them)) at there comes;
  few = omega (arith, sent.few, all_of_them, ap (λ (qs : List ℕ). length qs) leads, places_from-few 0 (leads_to c.n post) (names all), length-map all name_of);
}
  where
    leads : ps ≡ places_where (leads_to c.n post) (names all)
    leads = is ∙ led_to-is c.n groups (names all) post directory

-- ---- all new posts

-- the envelopes of the posts from number first on, below number k
pub record IsSending (c : Numbers) (s : Script) (posts : List Post) (all : List Spot) (first k : ℕ) (old new : Waiting) : Type 0 where
  pub kept : (j p : ℕ) → IsOut old j p → IsOut new j p
  pub sent : (p j : ℕ) (pl : PlayerView) → first ≤ j → j < k → slice_get all p ≡ Some (correct pl)
      → IsReceived c s posts pl.seat.node pl.seat.actor j → IsOut new j p
  pub few : count_waiting new ≤ count_waiting old + 544 * (k - first)

pub IsSending-start : (c : Numbers) (s : Script) (posts : List Post) (all : List Spot) (first : ℕ) (w : Waiting) → IsSending c s posts all first first w w
IsSending-start c s posts all first w = record {
  kept = λ j p out. out;
  sent = λ p j pl from below stands received. absurd (omega (arith, from, below));
  few = omega arith;
}

comes_of : (c : Numbers) (s : Script) (posts : List Post) (i x k : ℕ) (post : Post) → slice_get posts k ≡ Some post → IsReceived c s posts i x k → comes_to c s post i x k ≡ true
comes_of c s posts i x k post stands received =
    let is : received.post ≡ post = same in subst (λ (o : Post). comes_to c s o i x k ≡ true) is received.comes
  where
    same : received.post ≡ post
    same = let there = received.stands in cc

pub IsSending-step : (c : Numbers) (s : Script) (posts : List Post) (all : List Spot) (first k places : ℕ) (post : Post) (old w w' : Waiting) → first ≤ k → places ≤ 272 → places ≡ length all
    → slice_get posts k ≡ Some post → IsSent c s post k all places w w' → IsSending c s posts all first k old w → IsSending c s posts all first (k + 1) old w'
IsSending-step c s posts all first k places post old w w' from few is stands sent was = record {
  kept = λ j p out. sent.kept j p (was.kept j p out);
  sent = λ p j pl low below there received. elim (cases_lt j k) [
    | inl before ↦ sent.kept j p (was.sent p j pl low before there received)
    | inr after ↦
        let same : j ≡ k = omega (arith, below, after) in
        subst (λ (q : ℕ). IsOut w' q p) (sym same) (sent.sent p pl (omega (arith, slice_get-below all p (correct pl) there, is)) there
        (comes_of c s posts pl.seat.node pl.seat.actor k post stands (subst (λ (q : ℕ). IsReceived c s posts pl.seat.node pl.seat.actor q) same received)))
  ];
  few = omega (arith, was.few, sent.few, few, from);
}

pub AreSent-end : (c : Numbers) (s : Script) (posts : List Post) (all : List Spot) (first k : ℕ) (old new : Waiting) → k ≡ length posts → IsSending c s posts all first k old new
    → AreSent c s posts all first old new
AreSent-end c s posts all first k old new is sending = record {
  kept = sending.kept;
  sent = λ p j pl from stands received. sending.sent p j pl from (omega (arith, is, slice_get-below posts j received.post received.stands)) stands received;
  few = omega (arith, sending.few, is);
}

-- ---- second deliveries

pub AreResentTo-start : (c : Numbers) (s : Script) (posts : List Post) (p0 i x : ℕ) (w : Waiting) → AreResentTo c s posts p0 i x 0 w w
AreResentTo-start c s posts p0 i x w = record { kept = λ k p out. out; sent = λ k below received. absurd (omega (arith, below)); few = omega arith }

-- nobody is there to hear it again
pub AreResent-nobody : (c : Numbers) (s : Script) (posts : List Post) (all : List Spot) (p0 stood : ℕ) (w : Waiting) → ((pl : PlayerView) → slice_get all p0 ≡ Some (correct pl) → ⊥)
    → AreResent c s posts all p0 stood w w
AreResent-nobody c s posts all p0 stood w nobody = record { kept = λ k p out. out; sent = λ k pl below stands received. absurd (nobody pl stands); few = omega arith }

pub AreResentTo-step : (c : Numbers) (s : Script) (posts : List Post) (p0 i x k : ℕ) (post : Post) (old w w' : Waiting) → slice_get posts k ≡ Some post
    → IsResentTo c s post k p0 i x w w' → AreResentTo c s posts p0 i x k old w → AreResentTo c s posts p0 i x (k + 1) old w'
AreResentTo-step c s posts p0 i x k post old w w' stands (inl (comes, added)) was = record {
  kept = λ j p out. subst (λ (v : Waiting). IsOut v j p) (sym added) (out-kept Once (envelope k p0) w j p (was.kept j p out));
  sent = λ j below received. elim (cases_lt j k) [
    | inl before ↦ subst (λ (v : Waiting). IsOut v j p0) (sym added) (out-kept Once (envelope k p0) w j p0 (was.sent j before received))
    | inr after ↦
        let same : j ≡ k = omega (arith, below, after) in
        subst (λ (q : ℕ). IsOut w' q p0) (sym same) (subst (λ (v : Waiting). IsOut v k p0) (sym added) (out-added Once w k p0 refl))
  ];
  few = omega (arith, was.few, count-once (envelope k p0) w, ap (λ (v : Waiting). count_waiting v) added);
}
AreResentTo-step c s posts p0 i x k post old w w' stands (inr (not_comes, same_w)) was = record {
  kept = λ j p out. subst (λ (v : Waiting). IsOut v j p) (sym same_w) (was.kept j p out);
  sent = λ j below received. elim (cases_lt j k) [
    | inl before ↦ subst (λ (v : Waiting). IsOut v j p0) (sym same_w) (was.sent j before received)
    | inr after ↦
        let same : j ≡ k = omega (arith, below, after) in
        let comes = comes_of c s posts i x k post stands (subst (λ (q : ℕ). IsReceived c s posts i x q) same received) in
        absurd (cc (not_comes, comes))
  ];
  few = omega (arith, was.few, ap (λ (v : Waiting). count_waiting v) same_w);
}

-- whoever is there hears them again
pub AreResent-of : (c : Numbers) (s : Script) (posts : List Post) (all : List Spot) (p0 i x stood : ℕ) (old new : Waiting) (po : PlayerView)
    → slice_get all p0 ≡ Some (correct po) → i ≡ po.seat.node → x ≡ po.seat.actor → AreResentTo c s posts p0 i x stood old new → AreResent c s posts all p0 stood old new
AreResent-of c s posts all p0 i x stood old new po here node actor to = record {
  kept = to.kept;
  sent = λ k pl below there received.
      let is : po ≡ pl = cc in
      let at_i : pl.seat.node ≡ i = ap (λ (o : PlayerView). o.seat.node) (sym is) ∙ sym node in
      let at_x : pl.seat.actor ≡ x = ap (λ (o : PlayerView). o.seat.actor) (sym is) ∙ sym actor in
      to.sent k below (subst (λ (y : ℕ). IsReceived c s posts i y k) at_x (subst (λ (a : ℕ). IsReceived c s posts a pl.seat.actor k) at_i received));
  few = to.few;
}

-- a liar is there
pub AreResent-liar : (c : Numbers) (s : Script) (posts : List Post) (all : List Spot) (p0 stood : ℕ) (w : Waiting) (h : HiredView) → slice_get all p0 ≡ Some (lying h)
    → AreResent c s posts all p0 stood w w
AreResent-liar c s posts all p0 stood w h here = AreResent-nobody c s posts all p0 stood w (λ pl there. cc (here, there))

-- a post that was read
pub post_at : (posts : List Post) (k : ℕ) (post : Post) → k < length posts → post ≡ get_or posts k post → slice_get posts k ≡ Some post
post_at posts k post within is = slice_get-get_or posts k post within ∙ ap (λ (o : Post). Some o) (sym is)
