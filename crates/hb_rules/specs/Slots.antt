-- What is owed, for any kind of votes: slots gone through in order, each of which may make one vote owed.
use Rattle.std.specs.Prelude.{◌≡◌, ℕ, zero, suc, Bool, true, List, [], ◌++◌, ◌∷◌, length, Option, None, Some, if◌then◌else◌, filter}
use Rattle.std.specs.Option.{option_or, option_to_list}
use Rattle.std.specs.List.{AllByRecursion}

-- a place for one vote: whether it is filled by what was cast, and the vote that fills it now, if any
pub record Slot (V H : Type 0) : Type 0 where
  pub is_cast : List V → Bool
  pub choice : List V → List H → Option V

-- the vote that a slot makes owed, if any
abbrev pub owes : {V H : Type 0} → Slot V H → List V → List H → List V
owes slot own heard = if slot.is_cast own then [] else option_to_list (slot.choice own heard)

-- The votes owed as one goes through the slots in order. A vote is cast from its place on, so later slots see it.
abbrev pub pass : {V H : Type 0} → List (Slot V H) → List V → List H → List V
pass [] own heard = []
pass (slot ∷ slots) own heard = owes slot own heard ++ pass slots (own ++ owes slot own heard) heard

-- the votes owed as one goes through all slots so many times
abbrev pub passes : {V H : Type 0} → ℕ → List (Slot V H) → List V → List H → List V
passes zero slots own heard = []
passes (suc k) slots own heard = pass slots own heard ++ passes k slots (own ++ pass slots own heard) heard

-- nothing is owed
abbrev pub IsIdle : {V H : Type 0} → List (Slot V H) → List V → List H → Type 0
IsIdle slots own heard = pass slots own heard ≡ []

-- these votes are owed: the slots are gone through again and again, until nothing is added
pub record IsOwed {V H : Type 0} (slots : List (Slot V H)) (own : List V) (heard : List H) (votes : List V) : Type 0 where
  pub count : ℕ
  pub gives : passes count slots own heard ≡ votes
  pub rests : IsIdle slots (own ++ votes) heard

-- The votes that are owed, where the vote of each slot fills it: a pass that adds something fills a slot, so there are
-- no more such passes than slots.
abbrev pub owed : {V H : Type 0} → List (Slot V H) → List V → List H → List V
owed slots own heard = passes (length slots) slots own heard

-- what a function gives for the numbers below k, rising
abbrev pub each : {A : Type 0} → ℕ → (ℕ → List A) → List A
each zero f = []
each (suc k) f = each k f ++ f k

-- the slots of rows, each row over the numbers below k
abbrev pub by_rows : {V H : Type 0} → ℕ → List (ℕ → List (Slot V H)) → List (Slot V H)
by_rows k [] = []
by_rows k (row ∷ rows) = each k row ++ by_rows k rows

-- the slots of rows at one number
abbrev pub of_epoch : {V H : Type 0} → ℕ → List (ℕ → List (Slot V H)) → List (Slot V H)
of_epoch e [] = []
of_epoch e (row ∷ rows) = row e ++ of_epoch e rows

-- the first result of a function along a list
abbrev pub first_of : {A B : Type 0} → (A → Option B) → List A → Option B
first_of f [] = None
first_of f (x ∷ xs) = option_or (f x) (first_of f xs)

-- the value, where a test passes
abbrev pub when : {A : Type 0} → Bool → A → Option A
when test value = if test then Some value else None

-- A slot that looks only at the own votes that pass `reads` and at the hearings that pass `hears`, and makes only votes
-- that pass `makes`.
pub record IsPart {V H : Type 0} (reads : V → Bool) (hears : H → Bool) (makes : V → Bool) (slot : Slot V H) : Type 0 where
  pub cast : (own : List V) → slot.is_cast own ≡ slot.is_cast (filter reads own)
  pub choice : (own : List V) (heard : List H) → slot.choice own heard ≡ slot.choice (filter reads own) (filter hears heard)
  pub made : (own : List V) (heard : List H) (vote : V) → slot.choice own heard ≡ Some vote → makes vote ≡ true

-- rows whose slots at each number look at what is of that number alone
abbrev pub AreRows : {V H : Type 0} → (ℕ → V → Bool) → (ℕ → H → Bool) → (ℕ → V → Bool) → List (ℕ → List (Slot V H)) → Type 0
AreRows reads hears makes rows = AllByRecursion (λ row. (k : ℕ) → AllByRecursion (IsPart (reads k) (hears k) (makes k)) (row k)) rows

-- the vote of a slot fills it, and what fills it is not undone by further votes
pub record IsGuarded {V H : Type 0} (slot : Slot V H) : Type 0 where
  pub filled : (own : List V) (heard : List H) (vote : V) → slot.choice own heard ≡ Some vote → slot.is_cast (own ++ vote ∷ []) ≡ true
  pub stays : (own more : List V) → slot.is_cast own ≡ true → slot.is_cast (own ++ more) ≡ true

-- a slot that makes nothing of what was heard makes nothing where nothing is heard
pub record IsForgetful {V H : Type 0} (slot : Slot V H) : Type 0 where
  pub forgets : (own : List V) (heard : List H) → slot.choice own heard ≡ None → slot.choice own [] ≡ None
