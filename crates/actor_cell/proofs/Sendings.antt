-- What is to be put of posts, as the history grows.
use Rattle.std.proofs.Common.{◌≡◌, ℕ, zero, suc, ◌+◌, ◌<◌, ◌≤◌, Bool, true, false, List, [], ◌∷◌, ◌++◌, length, take, drop, Option, refl, sym, ap, ◌∙◌, subst, arith, slice_get, length-append, if◌then◌else◌}
use Rattle.std.specs.List.{AllByRecursion}
use Rattle.std.proofs.lemmas.List.{append-nil}
use Rattle.std.proofs.lemmas.Grind.{flat_map-append}
use Rattle.hb_base.specs.Numbers.{Numbers}
use Rattle.hb_wire.specs.declared.post.Post.{Post}
use Rattle.net_script.specs.declared.script.Script.{Script}
use Rattle.hb_rules.specs.Actor.{Told, numbers_from}
use Rattle.hb_rules.specs.Hearing.{is_by}
use Rattle.hb_rules.specs.Ledger.{IsPrefix}
use Rattle.hb_rules.specs.Terms.{Terms}
use Rattle.actor_cell.specs.Mail.{MailView, Delivery, AreSent, of_found, deliveries}
use Rattle.actor_cell.proofs.Mailing.{AreSent-then}

-- the posts with these numbers stand
abbrev pub AreStanding : List Post → List ℕ → Type 0
AreStanding posts numbers = AllByRecursion (λ k. k < length posts) numbers

get_front : (xs ys : List Post) (k : ℕ) → k < length xs → slice_get (xs ++ ys) k ≡ slice_get xs k
get_front [] ys k within = absurd (omega (arith, within))
get_front (x ∷ xs) ys zero within = refl
get_front (x ∷ xs) ys (suc k) within = get_front xs ys k (omega (arith, within))

-- what stands is there in a longer history
pub get_longer : (old new : List Post) (k : ℕ) → IsPrefix old new → k < length old → slice_get new k ≡ slice_get old k
get_longer old new k more within = ap (λ (posts : List Post). slice_get posts k) more.is ∙ get_front old more.rest k within

pub deliveries-longer : (c : Numbers) (s : Script) (old new : List Post) (numbers : List ℕ) → IsPrefix old new → AreStanding old numbers
    → deliveries c s new numbers ≡ deliveries c s old numbers
deliveries-longer c s old new [] more standing = refl
deliveries-longer c s old new (k ∷ ks) more standing =
    ap (λ (found : Option Post). of_found c s found k ++ deliveries c s new ks) (get_longer old new k more standing.0)
    ∙ ap (λ (ds : List Delivery). of_found c s (slice_get old k) k ++ ds) (deliveries-longer c s old new ks more standing.1)

pub AreStanding-longer : (old new : List Post) (numbers : List ℕ) → IsPrefix old new → AreStanding old numbers → AreStanding new numbers
AreStanding-longer old new [] more standing = tt
AreStanding-longer old new (k ∷ ks) more standing =
    (omega (arith, standing.0, ap (λ (posts : List Post). length posts) more.is, length-append old more.rest), AreStanding-longer old new ks more standing.1)

AreStanding-append : (posts : List Post) (ks js : List ℕ) → AreStanding posts ks → AreStanding posts js → AreStanding posts (ks ++ js)
AreStanding-append posts [] js one two = two
AreStanding-append posts (k ∷ ks) js one two = (one.0, AreStanding-append posts ks js one.1 two)

AreStanding-front : (posts : List Post) (ks js : List ℕ) → AreStanding posts (ks ++ js) → AreStanding posts ks
AreStanding-front posts [] js all = tt
AreStanding-front posts (k ∷ ks) js all = (all.0, AreStanding-front posts ks js all.1)

-- the numbers of posts that were added stand
numbers_stand : (t : Terms) (m most : ℕ) (added : List Post) → m + length added ≤ most → AllByRecursion (λ k. k < most) (numbers_from t m added)
numbers_stand t m most [] within = tt
numbers_stand t m most (post ∷ added) within =
    by (is_by t.node t.actor post) (numbers_stand t (m + 1) most added (omega (arith, within)))
  where
    by : (mine : Bool) → AllByRecursion (λ k. k < most) (numbers_from t (m + 1) added)
        → AllByRecursion (λ k. k < most) ((if mine then m ∷ [] else []) ++ numbers_from t (m + 1) added)
    by true rest = (omega (arith, within), rest)
    by false rest = rest

pub AreStanding-told : (t : Terms) (old new : List Post) (numbers : List ℕ) → Told t old new [] numbers → AreStanding new numbers
AreStanding-told t old new numbers told =
    subst (λ (ks : List ℕ). AreStanding new ks) (sym told.told)
    (numbers_stand t (length old) (length new) told.added (omega (arith, ap (λ (posts : List Post). length posts) told.grown, length-append old told.added)))

-- one more post was read, and its number put
pub deliveries-more : (c : Numbers) (s : Script) (old new : List Post) (front : List ℕ) (k : ℕ) (a b d : MailView) → IsPrefix old new → AreStanding old front
    → AreSent c (deliveries c s old front) a b → AreSent c (of_found c s (slice_get new k) k) b d → AreSent c (deliveries c s new (front ++ k ∷ [])) a d
deliveries-more c s old new front k a b d more standing one two =
    let all : deliveries c s new (front ++ k ∷ []) ≡ deliveries c s old front ++ of_found c s (slice_get new k) k =
    flat_map-append (λ (j : ℕ). of_found c s (slice_get new j) j) front (k ∷ [])
    ∙ ap (λ (ds : List Delivery). deliveries c s new front ++ ds) (append-nil (of_found c s (slice_get new k) k))
    ∙ ap (λ (ds : List Delivery). ds ++ of_found c s (slice_get new k) k) (deliveries-longer c s old new front more standing) in
    subst (λ (ds : List Delivery). AreSent c ds a d) (sym all) (AreSent-then c (deliveries c s old front) (of_found c s (slice_get new k) k) a b d one two)

-- what was put stays what was to be put once more is seen
pub deliveries-kept : (c : Numbers) (s : Script) (old new : List Post) (front : List ℕ) (a b : MailView) → IsPrefix old new → AreStanding old front
    → AreSent c (deliveries c s old front) a b → AreSent c (deliveries c s new front) a b
deliveries-kept c s old new front a b more standing one =
    subst (λ (ds : List Delivery). AreSent c ds a b) (sym (deliveries-longer c s old new front more standing)) one

-- ---- the first numbers of some

pub take_rest : (ks : List ℕ) (i : ℕ) → ks ≡ take i ks ++ drop i ks
take_rest ks zero = refl
take_rest [] (suc i) = refl
take_rest (k ∷ ks) (suc i) = ap (λ (js : List ℕ). k ∷ js) (take_rest ks i)

pub AreStanding-so_far : (old new : List Post) (ks : List ℕ) (i : ℕ) → IsPrefix old new → AreStanding old ks → AreStanding new (take i ks)
AreStanding-so_far old new ks i more all =
    AreStanding-longer old new (take i ks) more (AreStanding-front old (take i ks) (drop i ks) (subst (λ (js : List ℕ). AreStanding old js) (take_rest ks i) all))
