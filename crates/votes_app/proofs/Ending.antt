-- From what each step came to, to what printing came to.
use Rattle.std.proofs.Common.{◌≡◌, ℕ, ◌+◌, ◌≤◌, Bool, List, [], length, Result, Ok, Err, inl, inr}
use Rattle.hb_base.specs.Numbers.{Numbers}
use Rattle.hb_wire.specs.declared.post.Post.{Post}
use Rattle.input_reader.specs.Streams.{SourceView}
use Rattle.trace_reader.specs.Trace.{longest_trace}
use Rattle.vote_words.specs.declared.detail.Detail.{Detail}
use Rattle.votes_app.specs.declared.fault.VotesFault.{VotesFault}
use Rattle.votes_app.specs.declared.fault.VotesFault.TheVariants.{ReadFault, TooLong, NotATrace, Memory, WriteFault}
use Rattle.votes_app.specs.Printing.{PrintsVotes}
use Rattle.votes_app.specs.Steps.{Moves, Shows, PrintsHead, HasNoPost, PrintsEnd}
use Rattle.votes_app.specs.Streams.{SinkView}
use Rattle.votes_app.specs.Window.{Span}
use Rattle.votes_app.proofs.Breaking.{breaks_at_first, breaks_behind, breaks_at_end}
use Rattle.votes_app.proofs.Whole.{start, HasBegun, head_fails, ends_well, end_fails, end_stops}

pub head_stops : (detail : Detail) (fault : VotesFault) (ends : Bool) (old new : SourceView) (w v : Span) (out out_after : SinkView) → Moves old new start w [] → Shows ends new w
    → PrintsHead w v out out_after (Err fault) → PrintsVotes detail old new out out_after (Err fault)
head_stops detail ReadFault ends old new w v out out_after moves shows stop = absurd stop
head_stops detail TooLong ends old new w v out out_after moves shows stop = absurd stop
head_stops detail (NotATrace line) ends old new w v out out_after moves shows (one, lacks, same) = rw same (breaks_at_first detail line ends old new w out moves shows one lacks)
head_stops detail Memory ends old new w v out out_after moves shows stop = absurd stop
head_stops detail WriteFault ends old new w v out out_after moves shows (c, head, failed) = head_fails detail old new w v c out out_after moves head failed

pub end_of : (detail : Detail) (ends : Bool) (old now new : SourceView) (u : Span) (c : Numbers) (posts : List Post) (out mid out_after : SinkView) (count : ℕ)
    (r : Result (Unit {0}) VotesFault) → HasBegun detail c posts old now u out mid → length posts ≡ count → count ≤ longest_trace + 1 → HasNoPost count u.bytes → Shows ends now u
    → PrintsEnd count now new u mid out_after r → PrintsVotes detail old new out out_after r
end_of detail ends old now new u c posts out mid out_after count (Ok x) b same few lacks shows (is_end, put) = ends_well detail old now new u c posts out mid out_after count b same is_end put
end_of detail ends old now new u c posts out mid out_after count (Err ReadFault) b same few lacks shows (stop, quiet) =
    rw quiet (end_stops detail ReadFault old now new u c posts out mid b stop (λ put. put))
end_of detail ends old now new u c posts out mid out_after count (Err TooLong) b same few lacks shows (stop, quiet) =
    rw quiet (end_stops detail TooLong old now new u c posts out mid b stop (λ put. put))
end_of detail ends old now new u c posts out mid out_after count (Err (NotATrace line)) b same few lacks shows (inl (at, no_end, still), quiet) =
    rw (quiet, still) (breaks_behind detail line ends old now u c posts out mid count b same few lacks shows at no_end)
end_of detail ends old now new u c posts out mid out_after count (Err (NotATrace line)) b same few lacks shows (inr (at, on), quiet) =
    rw quiet (breaks_at_end detail line old now new u c posts out mid count b same at on)
end_of detail ends old now new u c posts out mid out_after count (Err Memory) b same few lacks shows stop = absurd stop
end_of detail ends old now new u c posts out mid out_after count (Err WriteFault) b same few lacks shows (is_end, failed) =
    end_fails detail old now new u c posts out mid out_after count b same is_end failed
