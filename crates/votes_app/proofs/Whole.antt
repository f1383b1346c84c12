-- From the steps to the whole.
use Rattle.std.proofs.Common.{◌≡◌, ℕ, ◌+◌, List, [], ◌++◌, length, Err, All, refl, sym, ap, subst, ◌∙◌, inl, inr, arith, append_assoc, append-nil}
use Rattle.std.proofs.KnownBytes.{Consumes-trans}
use Rattle.std.proofs.lemmas.List.Elements.{All-nil}
use Rattle.std.specs.Io.KnownBytes.{Consumes}
use Rattle.hb_base.specs.Numbers.{Numbers}
use Rattle.hb_wire.specs.declared.post.Post.{Post}
use Rattle.input_reader.specs.Streams.{SourceView}
use Rattle.ledger_text.specs.Lines.{end_line}
use Rattle.trace_text.specs.Text.{trace_line, posts_text}
use Rattle.trace_reader.specs.Sources.{ReadsWhole}
use Rattle.trace_reader.specs.Trace.{longest_trace, IsConfig, IsPost, IsTrace, IsBegun}
use Rattle.vote_words.specs.declared.detail.Detail.{Detail}
use Rattle.vote_words.specs.Words.{posts_in_words, begun_in_words, history_in_words}
use Rattle.votes_app.specs.declared.fault.VotesFault.{VotesFault}
use Rattle.votes_app.specs.declared.fault.VotesFault.TheVariants.{ReadFault, TooLong, NotATrace, Memory, WriteFault}
use Rattle.votes_app.specs.Printing.{IsPrinted, IsPart, PrintsVotes}
use Rattle.votes_app.specs.Steps.{Moves, Stops, PutsUpTo, TakesLine, IsHead, ArePrinted, StopsIn, IsEnd}
use Rattle.votes_app.specs.Streams.{SinkView, HasPut, FailsWithin}
use Rattle.votes_app.specs.Window.{Span}
use Rattle.votes_app.proofs.Moving.{uses, moves_then, stops_then}
use Rattle.votes_app.proofs.Puts.{has_put_nothing, has_put_then, fails_then, puts_up_to_then}

-- no byte was taken yet
abbrev pub start : Span
start = record { bytes = []; budget = longest_trace + 1 }

-- printing stopped after some bytes were used
pub stops_after : (detail : Detail) (fault : VotesFault) (old new : SourceView) (out out_after : SinkView) (used text : List ℕ) (stop : Stops fault old new start used)
    → IsPart detail fault new stop.more text → PutsUpTo fault out out_after text → PrintsVotes detail old new out out_after (Err fault)
stops_after detail ReadFault old new out out_after used text stop part put =
    record { bytes = stop.more; taken = stop.taken; few = stop.few; cause = stop.cause; text = text; part = part; put = put }
stops_after detail TooLong old new out out_after used text stop part put =
    record { bytes = stop.more; taken = stop.taken; few = stop.few; cause = stop.cause; text = text; part = part; put = put }
stops_after detail (NotATrace line) old new out out_after used text stop part put = absurd stop.cause
stops_after detail Memory old new out out_after used text stop part put =
    record { bytes = stop.more; taken = stop.taken; few = stop.few; cause = stop.cause; text = text; part = part; put = put }
stops_after detail WriteFault old new out out_after used text stop part put =
    record { bytes = stop.more; taken = stop.taken; few = stop.few; cause = stop.cause; text = text; part = part; put = put }

-- ---- in the first line

pub line_stops : (detail : Detail) (fault : VotesFault) (old new : SourceView) (w v : Span) (out : SinkView) → w ≡ start → TakesLine old new w v (Err fault)
    → PrintsVotes detail old new out out (Err fault)
line_stops detail ReadFault old new w v out same stop =
    stops_after detail ReadFault old new out out [] [] (subst (λ (x : Span). Stops ReadFault old new x []) same stop) (inl refl) (has_put_nothing out)
line_stops detail TooLong old new w v out same stop =
    stops_after detail TooLong old new out out [] [] (subst (λ (x : Span). Stops TooLong old new x []) same stop) (inl refl) (has_put_nothing out)
line_stops detail (NotATrace line) old new w v out same stop = absurd stop.cause
line_stops detail Memory old new w v out same stop =
    stops_after detail Memory old new out out [] [] (subst (λ (x : Span). Stops Memory old new x []) same stop) (inl refl) (has_put_nothing out)
line_stops detail WriteFault old new w v out same stop = absurd stop

-- the first line was used
pub head_moves : (old new : SourceView) (w v : Span) (c : Numbers) → Moves old new start w [] → IsHead c w v → Moves old new start v (trace_line c)
head_moves old new w v c first head = moves_then old new new start w v [] (trace_line c) first (uses new w v (trace_line c) head.text head.budget)

-- what was taken begins with a run and posts
pub begun_of : (bytes : List ℕ) (c : Numbers) (posts : List Post) (rest : List ℕ) → IsConfig c → All IsPost posts → bytes ≡ (trace_line c ++ posts_text 0 posts) ++ rest
    → IsBegun bytes c posts rest
begun_of bytes c posts rest config each text = record { config = config; each = each; text = text ∙ append_assoc (trace_line c) (posts_text 0 posts) rest }

no_posts : (detail : Detail) (c : Numbers) → trace_line c ≡ begun_in_words detail c []
unfolding begun_in_words
no_posts detail c = sym (append-nil (trace_line c))

pub head_fails : (detail : Detail) (old new : SourceView) (w v : Span) (c : Numbers) (out out_after : SinkView) → Moves old new start w [] → IsHead c w v
    → FailsWithin out out_after (trace_line c) → PrintsVotes detail old new out out_after (Err WriteFault)
head_fails detail old new w v c out out_after first head failed =
    let m = head_moves old new w v c first head in
    record {
      bytes = m.more;
      taken = m.taken;
      few = omega (arith, m.spent);
      cause = m.quiet;
      text = trace_line c;
      part = inr (inl (record {
        config = c;
        posts = [];
        rest = v.bytes;
        begun = record { config = head.config; each = All-nil IsPost; text = m.text };
        words = no_posts detail c;
      }));
      put = failed;
    }

-- ---- in the posts

pub begun_words : (detail : Detail) (c : Numbers) (posts : List Post) → trace_line c ++ posts_in_words detail c 0 posts ≡ begun_in_words detail c posts
unfolding begun_in_words
begun_words detail c posts = refl

pub posts_stop : (detail : Detail) (fault : VotesFault) (old now new : SourceView) (w v : Span) (c : Numbers) (out mid out_after : SinkView)
    → Moves old now start w [] → IsHead c w v → HasPut out mid (trace_line c) → StopsIn detail c fault now new v mid out_after
    → PrintsVotes detail old new out out_after (Err fault)
posts_stop detail fault old now new w v c out mid out_after first head put stopped =
    let stop = stops_then fault old now new start v (trace_line c) (posts_text 0 stopped.posts) (head_moves old now w v c first head) stopped.stops in
    stops_after detail fault old new out out_after (trace_line c ++ posts_text 0 stopped.posts) (trace_line c ++ posts_in_words detail c 0 stopped.posts) stop
    (inr (inl (record {
      config = c;
      posts = stopped.posts;
      rest = stop.rest;
      begun = begun_of stop.more c stopped.posts stop.rest head.config stopped.each stop.text;
      words = begun_words detail c stopped.posts;
    })))
    (puts_up_to_then fault out mid out_after (trace_line c) (posts_in_words detail c 0 stopped.posts) put stopped.put)

-- ---- behind the posts

-- the first line and the posts were used and put in words
pub record HasBegun (detail : Detail) (c : Numbers) (posts : List Post) (old new : SourceView) (v : Span) (out out_after : SinkView) : Type 0 where
  pub config : IsConfig c
  pub each : All IsPost posts
  pub moves : Moves old new start v (trace_line c ++ posts_text 0 posts)
  pub put : HasPut out out_after (trace_line c ++ posts_in_words detail c 0 posts)

pub has_begun : (detail : Detail) (old now new : SourceView) (w v u : Span) (c : Numbers) (posts : List Post) (out mid out_after : SinkView)
    → Moves old now start w [] → IsHead c w v → HasPut out mid (trace_line c) → ArePrinted detail c posts now new v u mid out_after
    → HasBegun detail c posts old new u out out_after
has_begun detail old now new w v u c posts out mid out_after first head put printed = record {
  config = head.config;
  each = printed.each;
  moves = moves_then old now new start v u (trace_line c) (posts_text 0 posts) (head_moves old now w v c first head) printed.moves;
  put = has_put_then out mid out_after (trace_line c) (posts_in_words detail c 0 posts) put printed.put;
}

history_words : (detail : Detail) (c : Numbers) (posts : List Post) → (trace_line c ++ posts_in_words detail c 0 posts) ++ end_line (length posts) ≡ history_in_words detail c posts
unfolding begun_in_words history_in_words
history_words detail c posts = refl

-- the bytes that were taken are the text of the run
whole_trace : (detail : Detail) (old now new : SourceView) (u : Span) (c : Numbers) (posts : List Post) (out mid : SinkView) (count : ℕ) (b : HasBegun detail c posts old now u out mid)
    → length posts ≡ count → IsEnd count now new u → IsTrace b.moves.more c posts
whole_trace detail old now new u c posts out mid count b same is_end = record {
  config = b.config;
  each = b.each;
  text = b.moves.text ∙ ap (λ (xs : List ℕ). (trace_line c ++ posts_text 0 posts) ++ xs) (is_end.text ∙ ap end_line (sym same))
      ∙ append_assoc (trace_line c) (posts_text 0 posts) (end_line (length posts));
}

pub ends_well : (detail : Detail) (old now new : SourceView) (u : Span) (c : Numbers) (posts : List Post) (out mid out_after : SinkView) (count : ℕ)
    → HasBegun detail c posts old now u out mid → length posts ≡ count → IsEnd count now new u → HasPut mid out_after (end_line count)
    → ReadsWhole old new (IsPrinted detail out out_after)
ends_well detail old now new u c posts out mid out_after count b same is_end put =
    let all : Consumes old.left new.left (b.moves.more ++ []) = Consumes-trans old.left now.left new.left b.moves.more [] b.moves.taken is_end.taken in
    let put_all = has_put_then out mid out_after (trace_line c ++ posts_in_words detail c 0 posts) (end_line count) b.put put in (
      b.moves.more,
      omega (arith, b.moves.spent, is_end.spare),
      (rw append-nil at all, is_end.ended, is_end.quiet ∙ b.moves.quiet),
      record {
        config = c;
        posts = posts;
        text = whole_trace detail old now new u c posts out mid count b same is_end;
        put = rw (sym (history_words detail c posts), same) put_all;
      },
    )

pub end_fails : (detail : Detail) (old now new : SourceView) (u : Span) (c : Numbers) (posts : List Post) (out mid out_after : SinkView) (count : ℕ)
    → HasBegun detail c posts old now u out mid → length posts ≡ count → IsEnd count now new u → FailsWithin mid out_after (end_line count)
    → PrintsVotes detail old new out out_after (Err WriteFault)
end_fails detail old now new u c posts out mid out_after count b same is_end failed =
    let all : Consumes old.left new.left (b.moves.more ++ []) = Consumes-trans old.left now.left new.left b.moves.more [] b.moves.taken is_end.taken in
    let failed_all = fails_then out mid out_after (trace_line c ++ posts_in_words detail c 0 posts) (end_line count) b.put failed in
    record {
      bytes = b.moves.more;
      taken = rw append-nil at all;
      few = omega (arith, b.moves.spent);
      cause = is_end.quiet ∙ b.moves.quiet;
      text = history_in_words detail c posts;
      part = inr (inr (record { config = c; posts = posts; is = whole_trace detail old now new u c posts out mid count b same is_end; words = refl }, is_end.ended));
      put = rw (sym (history_words detail c posts), same) failed_all;
    }

-- taking failed behind the posts
pub end_stops : (detail : Detail) (fault : VotesFault) (old now new : SourceView) (u : Span) (c : Numbers) (posts : List Post) (out mid : SinkView)
    → HasBegun detail c posts old now u out mid → Stops fault now new u [] → (HasPut out mid (trace_line c ++ posts_in_words detail c 0 posts)
    → PutsUpTo fault out mid (trace_line c ++ posts_in_words detail c 0 posts)) → PrintsVotes detail old new out mid (Err fault)
end_stops detail fault old now new u c posts out mid b stopped put =
    let used = trace_line c ++ posts_text 0 posts in
    let stop = stops_then fault old now new start u used [] b.moves stopped in
    let text : stop.more ≡ used ++ stop.rest = rw (append-nil used) at stop.text in
    stops_after detail fault old new out mid (used ++ []) (trace_line c ++ posts_in_words detail c 0 posts) stop
    (inr (inl (record {
      config = c;
      posts = posts;
      rest = stop.rest;
      begun = begun_of stop.more c posts stop.rest b.config b.each text;
      words = begun_words detail c posts;
    })))
    (put b.put)
