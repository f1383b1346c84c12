-- What was read, where no fault was met.
use Rattle.std.proofs.Common.{◌≡◌, ℕ, Bool, true, false, List, [], ◌∷◌, ◌++◌, Result, Ok, Err, refl, subst}
use Rattle.serde_json.specs.Data.{Data, Items, no_items, item}
use Rattle.script_fault.specs.declared.fault.ScriptFault.{ScriptFault}
use Rattle.script_reader.specs.Fault.{◌>>=◌, check}
use Rattle.script_reader.specs.Entries.{next_index, entries_from}

-- of two reads one after the other, what the first gave, and that the second went on from it
pub then_ok : {A B : Type 0} (read : Result A ScriptFault) (next : A → Result B ScriptFault) (y : B) → (read >>= next) ≡ Ok y
    → (x : A) × (read ≡ Ok x) × (next x ≡ Ok y)
then_ok (Ok x) next y is = (x, refl, is)
then_ok (Err fault) next y is = absurd (cc is)

-- a check that was passed
pub check_ok : {X : Type 0} (test : Bool) (fault : ScriptFault) (next : Result X ScriptFault) (y : X) → (check test fault >>= λ passed. next) ≡ Ok y
    → (test ≡ true) × (next ≡ Ok y)
check_ok true fault next y is = (refl, is)
check_ok false fault next y is = absurd (cc is)

-- what holds of no entries, and of one more wherever it holds of those before, holds of all
pub holds_of_all : {X : Type 0} (P : List X → Type 0) (entry : List X → ℕ → Data → Result X ScriptFault)
    → ((earlier : List X) (index : ℕ) (d : Data) (x : X) → P earlier → entry earlier index d ≡ Ok x → P (earlier ++ x ∷ []))
    → (earlier : List X) (index : ℕ) (ds : Items) (xs : List X) → P earlier → entries_from entry earlier index ds ≡ Ok xs → P xs
unfolding entries_from
holds_of_all P entry more earlier index no_items xs holds is =
    let same : earlier ≡ xs = cc is in
    subst P same holds
holds_of_all P entry more earlier index (item d ds) xs holds is =
    let one = then_ok (entry earlier index d) (λ x. entries_from entry (earlier ++ x ∷ []) (next_index index) ds) xs is in
    holds_of_all P entry more (earlier ++ one.0 ∷ []) (next_index index) ds xs (more earlier index d one.0 holds one.1) one.2
