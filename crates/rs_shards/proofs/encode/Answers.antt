use Rattle.std.proofs.Common.{◌≡◌, ◌∷◌, [], ◌++◌, ℕ, List, ◌+◌, ◌-◌, ◌*◌, ◌/◌, ◌≤◌, length, map, take, drop, sym, ap, ap₂, ◌∙◌, subst, arith}
use Rattle.std.specs.List.{All, range_with_len}
use Rattle.std.specs.Result.{IfOk}
use Rattle.std.proofs.Math.Nat.{zero-add}
use Rattle.std.proofs.lemmas.List.FromFn.{map-range_with_len_more}
use Rattle.std.proofs.lemmas.Result.{IfOk-weaker}
use Rattle.hb_base.specs.ByteLists.{AreBytes}
use Rattle.hb_base.specs.Limits.{longest_shard}
use Rattle.rs_shards.specs.Frame.{frame}
use Rattle.rs_shards.specs.Column.{AreEven}
use Rattle.rs_shards.specs.Rebuilding.{AreShards}
use Rattle.rs_shards.specs.Completing.{piece_at, pieces, completed, encoded, IsEncoding, shard_length}
use Rattle.rs_shards.proofs.Columns.{AreBytes-of}
use Rattle.rs_shards.proofs.Pieces.{frame-exact, frame-bytes, length-pieces, pieces-shards, pieces-even}
use Rattle.rs_shards.proofs.Encodings.{encoded-encoding, lengths-encoding, some-encoding, short-encoding, bytes-encoding}
use Rattle.rs_shards.proofs.encode.Goals as goal

-- one piece more
pub loop-i-preserved : goal.loop-i-preserved
loop-i-preserved c =
    let i = c.loop-i.i in
    let width = c.len.result / c.args.k in
    let frame = c.in_ok-frame.frame.items in
    let size : i * width + width - i * width ≡ width = omega arith in
    let piece : c.in_ok-copy.field-0 ≡ take width (drop (i * width) frame) =
    c.in_ok-copy.ensures ∙ ap (λ n. take n (drop (i * width) c.deref.result.now)) size
    ∙ ap (λ f. take width (drop (i * width) f)) c.deref.ensures.value in
    c.in_ok-push.ensures.items ∙ ap (λ xs. xs ++ (i, c.in_ok-copy.field-0) ∷ []) c.loop-i.invariant
    ∙ ap (λ x. map (piece_at width frame) (range_with_len 0 i) ++ (i, x) ∷ []) piece
    ∙ sym (map-range_with_len_more (piece_at width frame) 0 i i (zero-add i))

-- what the loop leaves are the pieces of the frame
are-pieces : (k i len : ℕ) (whole frame : List ℕ) (items got : List (ℕ × List ℕ)) → got ≡ items
    → items ≡ map (piece_at (len / k) frame) (range_with_len 0 i) → i ≡ k → len ≡ length frame → frame ≡ whole → got ≡ pieces k whole
unfolding pieces
are-pieces k i len whole frame items got is_got is_items all is_len is_frame =
    is_got ∙ is_items ∙ ap (λ i. map (piece_at (len / k) frame) (range_with_len 0 i)) all
    ∙ ap₂ (λ len frame. map (piece_at (len / k) frame) (range_with_len 0 k)) (is_len ∙ ap length is_frame) is_frame

given-pieces : (c : goal.After-deref-2) → c.deref-2.result.now ≡ pieces c.args.k (frame c.args.k c.args.value.now)
given-pieces c =
    let all : c.loop-i.i ≡ c.args.k = omega arith in
    are-pieces c.args.k c.loop-i.i c.len.result (frame c.args.k c.args.value.now) c.in_ok-frame.frame.items c.loop-i.pieces.items c.deref-2.result.now
    c.deref-2.ensures.value c.loop-i.invariant all (c.len.ensures ∙ c.in_ok-frame.frame.ok.0) c.in_ok-frame.ensures

pub complete-requires-clause-some : goal.complete-requires-clause-some
complete-requires-clause-some c =
    omega (arith, ap length (given-pieces c), length-pieces c.args.k (frame c.args.k c.args.value.now), c.requires.some)

pub complete-requires-clause-shards : goal.complete-requires-clause-shards
complete-requires-clause-shards c =
    subst (AreShards c.args.n) (sym (given-pieces c)) (pieces-shards c.args.n c.args.k (frame c.args.k c.args.value.now) c.requires.within)

pub complete-requires-clause-even : goal.complete-requires-clause-even
complete-requires-clause-even c =
    let k = c.args.k in
    let value = c.args.value.now in
    subst AreEven (sym (given-pieces c))
    (pieces-even (frame k value) k (frame-exact k value c.requires.some) (frame-bytes k value (AreBytes-of value c.type_inv.value)))

-- what `complete` gives, where it gives something, are the shards of the value
is-encoded : (n k : ℕ) (value : List ℕ) (got : List (ℕ × List ℕ)) → got ≡ pieces k (frame k value) → completed n (length got) got ≡ encoded n k value
unfolding encoded
is-encoded n k value got are =
    ap (λ xs. completed n (length xs) xs) are ∙ ap (λ d. completed n d (pieces k (frame k value))) (length-pieces k (frame k value))

module _ (c : goal.After-drop-frame-2) where
  shards-are : IfOk c.complete.result (λ shards. shards.items ≡ encoded c.args.n c.args.k c.args.value.now)
  shards-are =
      let all : c.loop-i.i ≡ c.args.k = omega arith in
      let got = c.deref-2.result.now in
      let are : got ≡ pieces c.args.k (frame c.args.k c.args.value.now) =
      are-pieces c.args.k c.loop-i.i c.len.result (frame c.args.k c.args.value.now) c.in_ok-frame.frame.items c.loop-i.pieces.items got
      c.deref-2.ensures.value c.loop-i.invariant all (c.len.ensures ∙ c.in_ok-frame.frame.ok.0) c.in_ok-frame.ensures in
      IfOk-weaker c.complete.result (λ shards. shards.items ≡ completed c.args.n (length got) got) (λ shards. shards.items ≡ encoded c.args.n c.args.k c.args.value.now)
      (λ shards is. is ∙ is-encoded c.args.n c.args.k c.args.value.now got are) c.complete.ensures

  encoding : IsEncoding c.args.n c.args.k c.args.value.now (encoded c.args.n c.args.k c.args.value.now)
  encoding =
      encoded-encoding c.args.n c.args.k c.args.value.now c.requires.some c.requires.within (omega arith) (AreBytes-of c.args.value.now c.type_inv.value)

  -- what holds of the shards of the value holds of what is returned
  so : (P : List (List ℕ) → Type 0) → P (encoded c.args.n c.args.k c.args.value.now) → IfOk c.complete.result (λ shards. P shards.items)
  so P h =
      IfOk-weaker c.complete.result (λ shards. shards.items ≡ encoded c.args.n c.args.k c.args.value.now) (λ shards. P shards.items)
      (λ shards is. subst P (sym is) h) shards-are

pub returns-clause-encoding : goal.returns-clause-encoding
returns-clause-encoding c = so c (IsEncoding c.args.n c.args.k c.args.value.now) (encoding c)

pub returns-clause-encoded : goal.returns-clause-encoded
returns-clause-encoded c = shards-are c

pub returns-clause-lengths : goal.returns-clause-lengths
returns-clause-lengths c =
    so c (All (λ shard. length shard ≡ shard_length c.args.k (length c.args.value.now)))
    (lengths-encoding c.args.n c.args.k c.args.value.now (encoded c.args.n c.args.k c.args.value.now) c.requires.some c.requires.within (omega arith) (encoding c))

pub returns-clause-filled : goal.returns-clause-filled
returns-clause-filled c =
    so c (All (λ shard. 1 ≤ length shard))
    (some-encoding c.args.n c.args.k c.args.value.now (encoded c.args.n c.args.k c.args.value.now) c.requires.some c.requires.within (omega arith) (encoding c))

pub returns-clause-short : goal.returns-clause-short
returns-clause-short c =
    so c (All (λ shard. length shard ≤ longest_shard))
    (short-encoding c.args.n c.args.k c.args.value.now (encoded c.args.n c.args.k c.args.value.now) c.requires.some c.requires.within (omega arith) (encoding c)
    c.requires.short)

pub returns-clause-bytes : goal.returns-clause-bytes
returns-clause-bytes c =
    so c (All AreBytes)
    (bytes-encoding c.args.n c.args.k c.args.value.now (encoded c.args.n c.args.k c.args.value.now) c.requires.some c.requires.within (omega arith) (encoding c))
