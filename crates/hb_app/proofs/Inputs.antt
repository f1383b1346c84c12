-- Input that is no scenario.
use Rattle.std.proofs.Common.{inl, inr, ◌≡◌, ◌≢◌, ℕ, ◌<◌, Bool, true, false, nat_le, List, ◌++◌, length, Option, None, Some, Result, Ok, Err, map, refl, ap, subst, ◌∙◌, arith, append-nil, length-append}
use Rattle.std.specs.Io.KnownBytes.{Consumes, IsAtEnd}
use Rattle.std.proofs.lemmas.Bool.{leb-true}
use Rattle.hb_base.specs.Limits.{longest_scenario}
use Rattle.script_fault.specs.declared.fault.ScriptFault.{ScriptFault}
use Rattle.script_fault.specs.declared.fault.ScriptFault.TheVariants.{TooLong, NotJson, WrongKind, Missing, Unknown, NotNumber, OutOfRange, TooFewNodes, TooManyLiars, LiarTwice, NoSuchLiar, BadHex, BadLength, BadWord, Memory}
use Rattle.script_reader.specs.Fault.{Fails}
use Rattle.script_reader.specs.Reading.{scenario_of}
use Rattle.net_script.specs.declared.script.Script.{Script}
use Rattle.net_script.specs.Scenario.{Scenario}
use Rattle.input_reader.specs.Input.{ReadsMost}
use Rattle.hb_app.specs.declared.reading.Unread.{Unread}
use Rattle.hb_app.specs.declared.reading.Unread.TheVariants.{Refused, ReadFailed}
use Rattle.hb_app.specs.declared.reading.Unread.TheVariants as unread
use Rattle.hb_app.specs.Ends.{ComesUnread, Reads, ReadsBytes}
use Rattle.hb_app.specs.Input.{most_taken, HasFault, Says, Refuses}
use Rattle.input_reader.specs.Streams.{SourceView, ReadsAll}

-- where all was read, what was read is what was left
pub left_whole : (names : List (List ℕ)) (left left_after : Option (List ℕ)) (input : List ℕ) (fault : ScriptFault) → Consumes left left_after input → IsAtEnd left_after
    → scenario_of input names ≡ Err fault → HasFault names left fault
left_whole names None left_after input fault taken none says = tt
left_whole names (Some xs) None input fault taken none says = absurd taken
left_whole names (Some xs) (Some ys) input fault taken none says =
    ap (λ bytes. scenario_of bytes names) (taken ∙ ap (λ rest. input ++ rest) none ∙ append-nil input) ∙ says

-- more bytes than a scenario may have are too many
pub too_long : (names : List (List ℕ)) (xs : List ℕ) → longest_scenario < length xs → scenario_of xs names ≡ Err TooLong
unfolding scenario_of
too_long names xs long = by (nat_le (length xs) longest_scenario) refl
  where
    by : (b : Bool) → nat_le (length xs) longest_scenario ≡ b → scenario_of xs names ≡ Err TooLong
    by true is = absurd (omega (arith, long, leb-true (length xs) longest_scenario is))
    by false is = rw is refl

-- where the most was taken that ever is, the input is too long
pub taken_long : (names : List (List ℕ)) (left left_after : Option (List ℕ)) (bytes : List ℕ) → length bytes ≡ most_taken → Consumes left left_after bytes → HasFault names left TooLong
taken_long names None left_after bytes many taken = tt
taken_long names (Some xs) None bytes many taken = absurd taken
taken_long names (Some xs) (Some ys) bytes many taken =
    too_long names xs (omega (arith, many, ap (λ (zs : List ℕ). length zs) taken, length-append bytes ys))

-- input of which the most was taken that ever is has this fault
pub refuses_long : (names : List (List ℕ)) (old new : SourceView) → ReadsMost longest_scenario old new → Refuses names old new TooLong
refuses_long names old new most = record { first = taken_long names old.left new.left most.0 most.1 most.2; reads = inr (most, refl) }

-- what bytes say that are the whole input
pub reads_whole : (names : List (List ℕ)) (old new : SourceView) (input : List ℕ) (read : Result Script Unread)
    → ReadsAll old new input → ReadsBytes (scenario_of input names) read → Reads names old new read
reads_whole names old new input (Ok script) all came = ((input, all, came.0), came.1)
reads_whole names old new input (Err (Refused fault)) all came =
    record { first = left_whole names old.left new.left input fault all.0 all.1 came; reads = inl (input, all, came) }
reads_whole names old new input (Err ReadFailed) all came = absurd came
reads_whole names old new input (Err unread.Memory) all came = all.2

-- a cast and a slice of it have the same names
pub says_of : {A : Type 0} (called : A → List ℕ) (given cast : List A) (old new : SourceView) (read : Result Scenario ScriptFault) → given ≡ cast
    → Says (map called given) old new read → Says (map called cast) old new read
says_of {A} called given cast old new read same says = subst (λ (all : List A). Says (map called all) old new read) same says

pub unread_of : {A : Type 0} (called : A → List ℕ) (given cast : List A) (old new : SourceView) (unread : Unread) → given ≡ cast
    → ComesUnread (map called given) old new unread → ComesUnread (map called cast) old new unread
unread_of {A} called given cast old new unread same came = subst (λ (all : List A). ComesUnread (map called all) old new unread) same came

-- a fault that is not want of memory is the one that was read
pub fails_with : {Y : Type 0} (fault : ScriptFault) (read : Result Y ScriptFault) → fault ≢ Memory → Fails fault read → read ≡ Err fault
fails_with TooLong read other fails = fails
fails_with NotJson read other fails = fails
fails_with (WrongKind place) read other fails = fails
fails_with (Missing place) read other fails = fails
fails_with (Unknown list index key) read other fails = fails
fails_with (NotNumber place) read other fails = fails
fails_with (OutOfRange place value) read other fails = fails
fails_with (TooFewNodes n f) read other fails = fails
fails_with (TooManyLiars named f) read other fails = fails
fails_with (LiarTwice node) read other fails = fails
fails_with (NoSuchLiar name) read other fails = fails
fails_with (BadHex place) read other fails = fails
fails_with (BadLength place length) read other fails = fails
fails_with (BadWord place word) read other fails = fails
fails_with Memory read other fails = absurd (other refl)
