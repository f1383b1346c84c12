-- Lines that are told.
use Rattle.std.proofs.Common.{inl, inr, ℕ, ◌+◌, List, [], ◌++◌, length, take, Result, Ok, Err, refl, ◌∙◌, arith, length-append}
use Rattle.std.proofs.KnownBytes.{Appends-nil, Appends-trans}
use Rattle.std.proofs.Math.Seq.{take-append-add}
use Rattle.hb_base.specs.Outside.{HasCause, Puts}
use Rattle.votes_app.specs.declared.fault.VotesFault.{VotesFault}
use Rattle.votes_app.specs.declared.fault.VotesFault.TheVariants.{ReadFault, TooLong, NotATrace, Memory, WriteFault}
use Rattle.votes_app.specs.Steps.{PutsUpTo}
use Rattle.votes_app.specs.Streams.{SinkView, HasPut, FailsWithin, PutsOrFails}

-- a put does all, or fails within
pub puts_or_fails : {T E : Type 0} (old new : SinkView) (r : Result T E) (bytes : List ℕ) → Puts old.held new.held r bytes → HasCause old.faults new.faults r → PutsOrFails old new bytes
puts_or_fails old new (Ok x) bytes put cause = inl (record { appended = put; quiet = cause.quiet })
puts_or_fails old new (Err e) bytes put cause = inr (record { front = put; rose = cause.failed })

-- ---- one text after another

pub has_put_nothing : (s : SinkView) → HasPut s s []
has_put_nothing s = record { appended = Appends-nil s.held; quiet = refl }

pub has_put_then : (old now new : SinkView) (a b : List ℕ) → HasPut old now a → HasPut now new b → HasPut old new (a ++ b)
has_put_then old now new a b first second = record {
  appended = Appends-trans old.held now.held new.held a b first.appended second.appended;
  quiet = second.quiet ∙ first.quiet;
}

pub fails_then : (old now new : SinkView) (a b : List ℕ) → HasPut old now a → FailsWithin now new b → FailsWithin old new (a ++ b)
fails_then old now new a b first second = record {
  front = (
    length a + second.front.0,
    omega (arith, length-append a b, second.front.1),
    rw (take-append-add a b second.front.0) (Appends-trans old.held now.held new.held a (take second.front.0 b) first.appended second.front.2),
  );
  rose = omega (arith, first.quiet, second.rose);
}

pub puts_up_to_then : (fault : VotesFault) (old now new : SinkView) (a b : List ℕ) → HasPut old now a → PutsUpTo fault now new b → PutsUpTo fault old new (a ++ b)
puts_up_to_then ReadFault old now new a b first second = has_put_then old now new a b first second
puts_up_to_then TooLong old now new a b first second = has_put_then old now new a b first second
puts_up_to_then (NotATrace line) old now new a b first second = has_put_then old now new a b first second
puts_up_to_then Memory old now new a b first second = has_put_then old now new a b first second
puts_up_to_then WriteFault old now new a b first second = fails_then old now new a b first second
