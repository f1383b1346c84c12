-- The rule of a mailbox, over the numbers that its queue holds and what each pass knows.
use Rattle.std.specs.Prelude.{◌≡◌, ℕ, ◌+◌, ◌^◌, ◌≤◌, Bool, true, false, ◌==◌, if◌then◌else◌, List, [], ◌∷◌, ◌++◌, map, length, slice_index_or}
use mathlib.Core.Option.{some}
use lib.ListN.{get_elem?}
use Rattle.mailbox.specs.declared.rule.View.{View}
use Rattle.mailbox.specs.Interleaving.{HasAll}
use Rattle.mailbox.specs.Shares.{AreAtMost, parts_of}

abbrev pub view_of : Bool → List ℕ → List ℕ → List ℕ → List (List ℕ) → ℕ → List ℕ → View
view_of takes splits sent taken joined asked own =
    record { takes = takes; splits = splits; sent = sent; taken = taken; joined = joined; asked = asked; own = own }

-- a put pass that comes from so many splits, and was asked so often to put
abbrev pub putter : ℕ → List ℕ → ℕ → View
putter splits sent asked = view_of false (splits ∷ []) sent [] [] asked []

-- the take pass, which has taken in put passes with these splits and these lists, was asked so often for a number, and was told
-- of these own numbers
abbrev pub taker : List ℕ → List ℕ → List (List ℕ) → ℕ → List ℕ → View
taker splits taken joined asked own = view_of true splits [] taken joined asked own

-- what is left of a put pass that was taken in
abbrev pub spent : View
spent = view_of false [] [] [] [] 0 []

-- the one pass that a mailbox begins with, both to put and to take
abbrev pub opener : View
opener = view_of true (0 ∷ []) [] [] [] 0 []

abbrev pub halved : View → View
halved v = view_of v.takes (map (λ n. n + 1) v.splits) v.sent v.taken v.joined v.asked v.own

abbrev pub other_half : View → View
other_half v = view_of false (map (λ n. n + 1) v.splits) [] [] [] 0 []

abbrev pub put_side : View → View
put_side v = view_of false v.splits v.sent [] [] 0 []

abbrev pub take_side : View → View
take_side v = view_of true [] [] v.taken v.joined v.asked v.own

abbrev pub after_put : View → ℕ → View
after_put v x = view_of v.takes v.splits (v.sent ++ x ∷ []) v.taken v.joined v.asked v.own

abbrev pub after_take : View → ℕ → View
after_take v x = view_of v.takes v.splits v.sent (v.taken ++ x ∷ []) v.joined v.asked v.own

abbrev pub asked_once : View → View
asked_once v = view_of v.takes v.splits v.sent v.taken v.joined (v.asked + 1) v.own

abbrev pub joined_with : View → View → View
joined_with v w = view_of v.takes (v.splits ++ w.splits) v.sent v.taken (v.joined ++ w.sent ∷ []) v.asked v.own

-- a pass with no right, by which an end of the queue is seen: it tells how often the take pass was asked when it was made
abbrev pub witness_of : View → View
witness_of v = view_of false [] [] [] [] v.asked []

-- a pass with no right, which tells what was put through a put pass so far
abbrev pub receipt_of : View → View
receipt_of v = view_of false [] [] [] [] 0 v.sent

-- what the take pass knows once it has taken in a receipt
abbrev pub told_by : View → View → View
told_by v w = view_of v.takes v.splits v.sent v.taken v.joined v.asked w.own

-- who put a number: a pass of the queue, by its number there, or a pass that was taken in, by its place among those
pub data Sender : Type 0 where
  pass_number : ℕ → Sender
  joined_place : ℕ → Sender

abbrev pub is_same : Sender → Sender → Bool
is_same (pass_number a) (pass_number b) = a == b
is_same (pass_number a) (joined_place b) = false
is_same (joined_place a) (pass_number b) = false
is_same (joined_place a) (joined_place b) = a == b

pub record Put : Type 0 where
  pub sender : Sender
  pub number : ℕ

abbrev pub all_of : List Put → List ℕ
all_of [] = []
all_of (p ∷ ps) = p.number ∷ all_of ps

-- what this sender put, in order
abbrev pub sent_by : Sender → List Put → List ℕ
sent_by s [] = []
sent_by s (p ∷ ps) = if is_same p.sender s then p.number ∷ sent_by s ps else sent_by s ps

abbrev pub total : (View → ℕ) → List View → ℕ
total f [] = 0
total f (v ∷ vs) = f v + total f vs

-- the one take pass knows what was taken, and the list of each put pass that it took in, and it puts nothing
pub record FitsTaker (taker_number : ℕ) (taken : List ℕ) (log : List Put) (number : ℕ) (v : View) : Type 0 where
  pub one : number ≡ taker_number
  pub taken_is : v.taken ≡ taken
  pub silent : v.sent ≡ []
  pub known : (k : ℕ) → sent_by (joined_place k) log ≡ slice_index_or v.joined k []

-- each pass knows what it put, and of some numbers that they are among all puts; a pass with no share has put nothing
pub record FitsPass (taker_number : ℕ) (taken : List ℕ) (log : List Put) (finest number : ℕ) (v : View) : Type 0 where
  pub sent_is : sent_by (pass_number number) log ≡ v.sent
  pub coarse : AreAtMost finest v.splits
  pub idle : v.splits ≡ [] → v.sent ≡ []
  pub own : HasAll (v.own ∷ []) (all_of log)
  pub takes : v.takes ≡ true → FitsTaker taker_number taken log number v

-- whoever takes was asked so often, and no pass without a share tells of a call that is still to come
pub record IsDated (asked : ℕ) (v : View) : Type 0 where
  pub taker : v.takes ≡ true → v.asked ≡ asked
  pub witness : v.takes ≡ false → v.splits ≡ [] → v.asked ≤ asked

-- there is a log of all puts: what was taken, and then what the queue holds. All shares are the whole right
pub record IsInOrder (items : List ℕ) (views : List View) : Type 0 where
  pub taker_number : ℕ
  pub taken : List ℕ
  pub log : List Put
  pub finest : ℕ
  pub asked : ℕ
  pub in_order : all_of log ≡ taken ++ items
  pub whole : total (λ v. parts_of finest v.splits) views ≡ 2 ^ finest
  pub none_beyond : (number : ℕ) → length views ≤ number → sent_by (pass_number number) log ≡ []
  pub fits : (number : ℕ) (v : View) → get_elem? views number ≡ some v → FitsPass taker_number taken log finest number v
  pub dated : (number : ℕ) (v : View) → get_elem? views number ≡ some v → IsDated asked v
