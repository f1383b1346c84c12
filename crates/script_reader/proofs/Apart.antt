-- No node lies twice.
use Rattle.std.proofs.Common.{◌≡◌, ℕ, ◌<◌, ◌==◌, nat_le, Bool, true, false, List, [], ◌∷◌, ◌++◌, length, get_or, Result, Ok, Err, if◌then◌else◌, AllPairs, refl, subst, append_assoc, append-nil, arith}
use Rattle.std.specs.List.{list_any}
use Rattle.std.proofs.lemmas.Bool.{eq-eqb}
use Rattle.std.proofs.lemmas.List.Folds.{list_any_at}
use Rattle.std.proofs.lemmas.List.Quantifiers.{all_pairs_push}
use Rattle.serde_json.specs.Data.{Data}
use Rattle.net_script.specs.declared.script.LiarAt.{LiarAt}
use Rattle.script_fault.specs.declared.fault.ScriptFault.{ScriptFault}
use Rattle.script_fault.specs.declared.fault.ScriptFault.TheVariants.{LiarTwice, TooManyLiars}
use Rattle.script_fault.specs.declared.place.KeyName.TheVariants as keys
use Rattle.script_reader.specs.Fault.{◌>>=◌, fine, check}
use Rattle.script_reader.specs.Fields.{list_at}
use Rattle.script_reader.specs.Entries.{read_entries, liar_at, liars_at, each_once, all_cast}
use Rattle.net_script.specs.Sound.{AreApart}
use Rattle.script_reader.proofs.Steps.{then_ok, check_ok}

-- a liar at another node than all before it
apart_from : (earlier : List LiarAt) (liar : LiarAt) → list_any (λ other. other.node == liar.node) earlier ≡ false
    → (k : ℕ) (d : LiarAt) → k < length earlier → AreApart (get_or earlier k d) liar
apart_from earlier liar none k d within same =
    let found : ((get_or earlier k d).node == liar.node) ≡ true = eq-eqb (get_or earlier k d).node liar.node same in
    absurd (cc (none, list_any_at (λ other. other.node == liar.node) earlier k d within found))

apart_behind : (earlier liars : List LiarAt) → AllPairs AreApart earlier → each_once earlier liars ≡ fine → AllPairs AreApart (earlier ++ liars)
apart_behind earlier [] apart once = rw (append-nil earlier) apart
apart_behind earlier (liar ∷ liars) apart once =
    by (list_any (λ other. other.node == liar.node) earlier) refl once (λ rest. apart_behind (earlier ++ liar ∷ []) liars rest)
  where
    by : (twice : Bool) → list_any (λ other. other.node == liar.node) earlier ≡ twice
        → (if twice then Err (LiarTwice liar.node) else each_once (earlier ++ liar ∷ []) liars) ≡ fine
        → (AllPairs AreApart (earlier ++ liar ∷ []) → each_once (earlier ++ liar ∷ []) liars ≡ fine → AllPairs AreApart ((earlier ++ liar ∷ []) ++ liars))
        → AllPairs AreApart (earlier ++ (liar ∷ liars))
    by true is refused on = absurd (cc refused)
    by false is rest on =
        subst (AllPairs AreApart) (append_assoc earlier (liar ∷ []) liars)
        (on (all_pairs_push AreApart earlier liar apart (apart_from earlier liar is)) rest)

-- no two liars that were read are at one node
pub apart_liars : (n f : ℕ) (cast : List (List ℕ)) (d : Data) (liars : List LiarAt) → liars_at n f cast d ≡ Ok liars → AllPairs AreApart liars
unfolding liars_at
apart_liars n f cast d liars is =
    let cast_for : List LiarAt → Result (List LiarAt) ScriptFault = λ read. all_cast cast [] read >>= λ boxes. Ok read in
    let once_for : List LiarAt → Result (List LiarAt) ScriptFault = λ read. each_once [] read >>= λ once. cast_for read in
    let few_for : List LiarAt → Result (List LiarAt) ScriptFault = λ read. check (nat_le (length read) f) (TooManyLiars (length read) f) >>= λ few. once_for read in
    let items = then_ok (list_at keys.Liars d) (λ items. read_entries (liar_at n) items >>= few_for) liars is in
    let read = then_ok (read_entries (liar_at n) items.0) few_for liars items.2 in
    let few = check_ok (nat_le (length read.0) f) (TooManyLiars (length read.0) f) (once_for read.0) liars read.2 in
    let once = then_ok (each_once [] read.0) (λ once. cast_for read.0) liars few.1 in
    let boxes = then_ok (all_cast cast [] read.0) (λ boxes. Ok read.0) liars once.2 in
    let same : read.0 ≡ liars = cc boxes.2 in
    subst (AllPairs AreApart) same (apart_behind [] read.0 (λ i j d lt within. absurd (omega (arith, lt, within))) once.1)
