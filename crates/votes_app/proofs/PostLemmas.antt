-- One post after another.
use Rattle.std.proofs.Common.{◌≡◌, ℕ, ◌+◌, ◌<◌, ◌≤◌, Bool, List, [], ◌∷◌, ◌++◌, length, Ok, Err, refl, sym, ap, subst, ◌∙◌, arith, append_assoc, append-nil, length-append}
use Rattle.std.proofs.lemmas.List.Elements.{All-nil, All-push}
use Rattle.hb_base.specs.Numbers.{Numbers}
use Rattle.hb_wire.specs.declared.post.Post.{Post}
use Rattle.input_reader.specs.Streams.{SourceView}
use Rattle.trace_text.specs.Text.{post_line, posts_text}
use Rattle.trace_text.proofs.Numbered.{posts_append}
use Rattle.trace_reader.specs.Trace.{longest_trace, IsPost}
use Rattle.vote_words.specs.declared.detail.Detail.{Detail}
use Rattle.vote_words.specs.Words.{post_in_words, posts_in_words}
use Rattle.votes_app.specs.declared.fault.VotesFault.{VotesFault}
use Rattle.votes_app.specs.declared.fault.VotesFault.TheVariants.{ReadFault, TooLong, NotATrace, Memory, WriteFault}
use Rattle.votes_app.specs.Steps.{Moves, Stops, Shows, TakesLine, IsLine, HasNoPost, PrintsPost, ArePrinted, StopsIn, PrintsPosts}
use Rattle.votes_app.specs.Streams.{SinkView, HasPut}
use Rattle.votes_app.specs.Window.{Span}
use Rattle.votes_app.proofs.Moving.{uses, moves_then, stops_then}
use Rattle.votes_app.proofs.Puts.{has_put_nothing, has_put_then, fails_then}

pub none_printed : (detail : Detail) (c : Numbers) (s : SourceView) (w : Span) (out : SinkView) → ArePrinted detail c [] s s w w out out
none_printed detail c s w out = record { each = All-nil IsPost; moves = uses s w w [] refl refl; put = has_put_nothing out }

-- ---- a line is taken

pub more_taken : (detail : Detail) (c : Numbers) (posts : List Post) (old now new : SourceView) (w v u : Span) (out mid : SinkView)
    → ArePrinted detail c posts old now w v out mid → Moves now new v u [] → ArePrinted detail c posts old new w u out mid
more_taken detail c posts old now new w v u out mid printed moves = record {
  each = printed.each;
  moves = subst (λ (xs : List ℕ). Moves old new w u xs) (append-nil (posts_text 0 posts)) (moves_then old now new w v u (posts_text 0 posts) [] printed.moves moves);
  put = printed.put;
}

stopped_on : (fault : VotesFault) (old now new : SourceView) (w v : Span) (used : List ℕ) → Moves old now w v used → Stops fault now new v [] → Stops fault old new w used
stopped_on fault old now new w v used moves stop =
    subst (λ (xs : List ℕ). Stops fault old new w xs) (append-nil used) (stops_then fault old now new w v used [] moves stop)

pub line_stops_in : (detail : Detail) (c : Numbers) (posts : List Post) (fault : VotesFault) (old now new : SourceView) (w v u : Span) (out mid : SinkView)
    → ArePrinted detail c posts old now w v out mid → TakesLine now new v u (Err fault) → StopsIn detail c fault old new w out mid
line_stops_in detail c posts ReadFault old now new w v u out mid printed stop =
    record { posts = posts; each = printed.each; stops = stopped_on ReadFault old now new w v (posts_text 0 posts) printed.moves stop; put = printed.put }
line_stops_in detail c posts TooLong old now new w v u out mid printed stop =
    record { posts = posts; each = printed.each; stops = stopped_on TooLong old now new w v (posts_text 0 posts) printed.moves stop; put = printed.put }
line_stops_in detail c posts (NotATrace line) old now new w v u out mid printed stop = absurd stop.cause
line_stops_in detail c posts Memory old now new w v u out mid printed stop =
    record { posts = posts; each = printed.each; stops = stopped_on Memory old now new w v (posts_text 0 posts) printed.moves stop; put = printed.put }
line_stops_in detail c posts WriteFault old now new w v u out mid printed stop = absurd stop

-- ---- a post is printed

one_line : (k n : ℕ) (post : Post) → n ≡ k → posts_text n (post ∷ []) ≡ post_line k post
one_line k n post same = append-nil (post_line n post) ∙ ap (λ (m : ℕ). post_line m post) same

lines_more : (posts : List Post) (k : ℕ) (post : Post) → length posts ≡ k → posts_text 0 posts ++ post_line k post ≡ posts_text 0 (posts ++ post ∷ [])
lines_more posts k post count =
    let same : 0 + length posts ≡ k = omega (arith, count) in
    ap (λ (xs : List ℕ). posts_text 0 posts ++ xs) (sym (one_line k (0 + length posts) post same)) ∙ sym (posts_append 0 posts (post ∷ []))

words_append : (detail : Detail) (c : Numbers) (k : ℕ) (xs ys : List Post)
    → posts_in_words detail c k (xs ++ ys) ≡ posts_in_words detail c k xs ++ posts_in_words detail c (k + length xs) ys
words_append detail c k [] ys =
    let same : k ≡ k + 0 = omega arith in
    ap (λ (m : ℕ). posts_in_words detail c m ys) same
words_append detail c k (x ∷ xs) ys =
    let same : k + 1 + length xs ≡ k + length (x ∷ xs) = omega arith in
    ap (λ (text : List ℕ). post_in_words detail c k x ++ text)
    (words_append detail c (k + 1) xs ys ∙ ap (λ (m : ℕ). posts_in_words detail c (k + 1) xs ++ posts_in_words detail c m ys) same)
    ∙ sym (append_assoc (post_in_words detail c k x) (posts_in_words detail c (k + 1) xs) (posts_in_words detail c (k + length (x ∷ xs)) ys))

words_more : (detail : Detail) (c : Numbers) (posts : List Post) (k : ℕ) (post : Post) → length posts ≡ k
    → posts_in_words detail c 0 posts ++ post_in_words detail c k post ≡ posts_in_words detail c 0 (posts ++ post ∷ [])
words_more detail c posts k post count =
    let same : k ≡ 0 + length posts = omega (arith, count) in
    ap (λ (xs : List ℕ). posts_in_words detail c 0 posts ++ xs)
    (ap (λ (m : ℕ). post_in_words detail c m post) same ∙ sym (append-nil (post_in_words detail c (0 + length posts) post)))
    ∙ sym (words_append detail c 0 posts (post ∷ []))

line_moves : (posts : List Post) (k : ℕ) (post : Post) (old new : SourceView) (w v u : Span) → length posts ≡ k → Moves old new w v (posts_text 0 posts) → IsLine k post v u
    → Moves old new w u (posts_text 0 (posts ++ post ∷ []))
line_moves posts k post old new w v u count moves line =
    subst (λ (xs : List ℕ). Moves old new w u xs) (lines_more posts k post count)
    (moves_then old new new w v u (posts_text 0 posts) (post_line k post) moves (uses new v u (post_line k post) line.text line.budget))

pub more_printed : (detail : Detail) (c : Numbers) (posts : List Post) (k : ℕ) (post : Post) (old new : SourceView) (w v u : Span) (out mid out_after : SinkView) → length posts ≡ k
    → ArePrinted detail c posts old new w v out mid → IsLine k post v u → HasPut mid out_after (post_in_words detail c k post)
    → ArePrinted detail c (posts ++ post ∷ []) old new w u out out_after
more_printed detail c posts k post old new w v u out mid out_after count printed line put = record {
  each = All-push IsPost posts post printed.each line.is;
  moves = line_moves posts k post old new w v u count printed.moves line;
  put = subst (λ (xs : List ℕ). HasPut out out_after xs) (words_more detail c posts k post count)
      (has_put_then out mid out_after (posts_in_words detail c 0 posts) (post_in_words detail c k post) printed.put put);
}

-- ---- a post is not printed

pub post_stops_in : (detail : Detail) (c : Numbers) (posts : List Post) (k : ℕ) (fault : VotesFault) (old new : SourceView) (w v u : Span) (out mid out_after : SinkView) → length posts ≡ k
    → ArePrinted detail c posts old new w v out mid → PrintsPost detail c k v u mid out_after (Err fault) → StopsIn detail c fault old new w out out_after
post_stops_in detail c posts k ReadFault old new w v u out mid out_after count printed stop = absurd stop
post_stops_in detail c posts k TooLong old new w v u out mid out_after count printed stop = absurd stop
post_stops_in detail c posts k (NotATrace line) old new w v u out mid out_after count printed stop = absurd stop
post_stops_in detail c posts k Memory old new w v u out mid out_after count printed same = record {
  posts = posts;
  each = printed.each;
  stops = record {
    more = printed.moves.more;
    rest = v.bytes;
    taken = printed.moves.taken;
    text = printed.moves.text;
    few = omega (arith, printed.moves.spent);
    cause = printed.moves.quiet;
  };
  put = subst (λ (o : SinkView). HasPut out o (posts_in_words detail c 0 posts)) (sym same) printed.put;
}
post_stops_in detail c posts k WriteFault old new w v u out mid out_after count printed (post, line, failed) =
    let moves = line_moves posts k post old new w v u count printed.moves line in
    let words = words_more detail c posts k post count in
    record {
      posts = posts ++ post ∷ [];
      each = All-push IsPost posts post printed.each line.is;
      stops = record {
        more = moves.more;
        rest = u.bytes;
        taken = moves.taken;
        text = moves.text;
        few = omega (arith, moves.spent);
        cause = moves.quiet;
      };
      put = rw (sym words) (fails_then out mid out_after (posts_in_words detail c 0 posts) (post_in_words detail c k post) printed.put failed);
    }

-- ---- how much is left

pub line_some : (k : ℕ) (post : Post) → 1 ≤ length (post_line k post)
unfolding post_line
line_some k post = simp length-append (omega arith)

pub less_left : (now new : SourceView) (k : ℕ) (post : Post) (w v u : Span) → Moves now new w v [] → IsLine k post v u
    → length u.bytes + u.budget < length w.bytes + w.budget
less_left now new k post w v u moves line =
    omega (
      arith,
      line_some k post,
      ap (λ (xs : List ℕ). length xs) moves.text,
      length-append w.bytes moves.more,
      moves.spent,
      ap (λ (xs : List ℕ). length xs) line.text,
      length-append (post_line k post) u.bytes,
      line.budget,
    )

pub as_much_left : (now new : SourceView) (w v : Span) → Moves now new w v [] → length v.bytes + v.budget ≡ length w.bytes + w.budget
as_much_left now new w v moves =
    omega (arith, ap (λ (xs : List ℕ). length xs) moves.text, length-append w.bytes moves.more, moves.spent)

-- ---- no further post

pub posts_end : (detail : Detail) (c : Numbers) (posts : List Post) (count : ℕ) (ends : Bool) (old new : SourceView) (w v u : Span) (out mid out_after : SinkView)
    → ArePrinted detail c posts old new w v out mid → length posts ≡ count → count ≤ longest_trace + 1 → HasNoPost count v.bytes × (u ≡ v) × (out_after ≡ mid) → Shows ends new v
    → PrintsPosts detail c old new w u out out_after (Ok count)
posts_end detail c posts count ends old new w v u out mid out_after printed same few (lacks, still, quiet) shows =
    rw (still, quiet) (posts, printed, same, lacks, (ends, shows), few)
