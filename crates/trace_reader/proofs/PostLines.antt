-- The lines of posts: what is read is spelled so, and what is spelled so is read.
use Rattle.std.proofs.Common.{◌≡◌, ℕ, ◌^◌, ◌<◌, ◌≤◌, ◌⊎◌, List, [], ◌∷◌, ◌++◌, length, get_or, codes, Option, Some, None, decimal, refl, sym, ap, subst, ◌∙◌, append_assoc, arith, inl, inr, length-append}
use Rattle.std.specs.Option.{option_or}
use Rattle.std.proofs.lemmas.Fmt.{decimal_nonempty}
use Rattle.hex.specs.Hex.{lower_digits}
use Rattle.hex.proofs.HexLemmas.{length-encode_with}
use Rattle.hb_base.specs.ByteLists.{AreBytes}
use Rattle.hb_wire.specs.Reading.{◌>>=◌}
use Rattle.hb_wire.specs.declared.vote.To.{To}
use Rattle.hb_wire.specs.declared.vote.To.TheVariants.{Book, Home, All, Node}
use Rattle.hb_wire.specs.declared.post.Post.{Post}
use Rattle.hb_wire.proofs.FieldLemmas.{IsBytes, Reads, reads_pair, bind_some, some_is}
use Rattle.ledger_text.specs.Lines.{counted, end_line}
use Rattle.trace_text.specs.Text.{address_text, bytes_text, post_words, post_line}
use Rattle.trace_reader.specs.declared.post.Words.{Words}
use Rattle.trace_reader.specs.Reading.{after, number_before, addressed, node_at, address_at, words_of, words_at, post_of, post_at}
use Rattle.trace_reader.specs.Trace.{IsAddress, IsPost}
use Rattle.trace_reader.proofs.Fields.{bytes_behind, after_takes, reads_after, reads_made, reads_as}
use Rattle.trace_reader.proofs.Numbers.{reads_number}
use Rattle.trace_reader.proofs.Hex.{reads_bytes}

-- ---- addresses

either_some : {A : Type 0} (a b : Option A) (x : A) → option_or a b ≡ Some x → (a ≡ Some x) ⊎ (b ≡ Some x)
either_some (Some y) b x is = inl is
either_some None b x is = inr is

addressed_some : (to : To) (found : Option (List ℕ)) (x : To) (rest : List ℕ) → addressed to found ≡ Some (x, rest) → (to ≡ x) × (found ≡ Some rest)
addressed_some to (Some behind) x rest is =
    let same : (to, behind) ≡ (x, rest) = some_is (to, behind) (x, rest) is in
    (ap (λ (p : To × List ℕ). p.0) same, ap (λ (p : To × List ℕ). Some p.1) same)
addressed_some to None x rest is = absurd cc

-- an address, and a blank
abbrev address_line : To → List ℕ
address_line to = address_text to ++ codes " "

abbrev TakesAddress : List ℕ → To → List ℕ → Type 0
TakesAddress bytes to rest = IsAddress to × (bytes ≡ address_line to ++ rest) × IsBytes rest

takes_word : (word : List ℕ) (to : To) (bytes : List ℕ) (x : To) (rest : List ℕ) → IsBytes bytes → IsAddress to → address_line to ≡ word → addressed to (after word bytes) ≡ Some (x, rest)
    → TakesAddress bytes x rest
takes_word word to bytes x rest are fits spelled is =
    let found = addressed_some to (after word bytes) x rest is in
    let text : bytes ≡ word ++ rest = after_takes word bytes rest found.1 in
    subst (λ (t : To). TakesAddress bytes t rest) found.0 (fits, text ∙ ap (λ (w : List ℕ). w ++ rest) (sym spelled), bytes_behind bytes word rest text are)

takes_node : (bytes : List ℕ) (x : To) (rest : List ℕ) → IsBytes bytes → node_at bytes ≡ Some (x, rest) → TakesAddress bytes x rest
unfolding node_at address_text counted
takes_node bytes x rest are is =
    let a = bind_some (after (codes "node ") bytes) (λ behind. number_before (codes " ") 255 behind >>= λ n. Some (Node n.0, n.1)) (x, rest) is in
    let b = bind_some (number_before (codes " ") 255 a.0) (λ n. Some (Node n.0, n.1)) (x, rest) a.2 in
    let front : bytes ≡ codes "node " ++ a.0 = after_takes (codes "node ") bytes a.0 a.1 in
    let t = (reads_number 32 [] 255 (omega arith) refl).takes a.0 b.0.0 b.0.1 (bytes_behind bytes (codes "node ") a.0 front are) b.1 in
    let same : (Node b.0.0, b.0.1) ≡ (x, rest) = some_is (Node b.0.0, b.0.1) (x, rest) b.2 in
    let parts : bytes ≡ ((codes "node " ++ decimal b.0.0) ++ codes " ") ++ b.0.1 =
    front ∙ ap (λ (xs : List ℕ). codes "node " ++ xs) t.1
    ∙ sym (append_assoc (codes "node ") (decimal b.0.0 ++ codes " ") b.0.1) ∙ ap (λ (xs : List ℕ). xs ++ b.0.1) (sym (append_assoc (codes "node ") (decimal b.0.0) (codes " "))) in
    let small : b.0.0 < 256 = omega (arith, t.0) in
    subst (λ (p : To × List ℕ). TakesAddress bytes p.0 p.1) same (small, parts, t.2)

takes_address : (bytes : List ℕ) (x : To) (rest : List ℕ) → IsBytes bytes → address_at bytes ≡ Some (x, rest) → TakesAddress bytes x rest
unfolding address_at address_text
takes_address bytes x rest are is =
    let book = addressed Book (after (codes "book ") bytes) in
    let home = addressed Home (after (codes "home ") bytes) in
    let all = addressed All (after (codes "all ") bytes) in
    elim (either_some book (option_or home (option_or all (node_at bytes))) (x, rest) is) [
      | inl found ↦ takes_word (codes "book ") Book bytes x rest are tt refl found
      | inr more ↦ elim (either_some home (option_or all (node_at bytes)) (x, rest) more) [
        | inl found ↦ takes_word (codes "home ") Home bytes x rest are tt refl found
        | inr more ↦ elim (either_some all (node_at bytes) (x, rest) more) [
          | inl found ↦ takes_word (codes "all ") All bytes x rest are tt refl found
          | inr found ↦ takes_node bytes x rest are found
        ]
      ]
    ]

again_address : (x : To) (rest : List ℕ) → IsAddress x → address_at (address_line x ++ rest) ≡ Some (x, rest)
unfolding address_at address_text node_at counted
again_address Book rest fits = refl
again_address Home rest fits = refl
again_address All rest fits = refl
again_address (Node m) rest fits =
    ap (λ (r : Option (ℕ × List ℕ)). r >>= λ n. Some (Node n.0, n.1)) ((reads_number 32 [] 255 (omega arith) refl).again m rest (omega (arith, fits)))

reads_address : Reads address_at address_line IsAddress
reads_address = record { takes = takes_address; again = again_address }

-- ---- the words of a post

abbrev words_in : Words → ℕ × (ℕ × To)
words_in w = (w.from, (w.actor, w.to))

abbrev words_text : ℕ → Words → List ℕ
words_text k w = (counted (codes "post ") k ++ codes " from ") ++ ((decimal w.from ++ codes " actor ") ++ ((decimal w.actor ++ codes " to ") ++ address_line w.to))

abbrev AreWords : Words → Type 0
AreWords w = (w.from ≤ 255) × ((w.actor ≤ 255) × IsAddress w.to)

reads_words : (k : ℕ) → Reads (words_at k) (words_text k) AreWords
unfolding words_at
reads_words k =
    reads_after (counted (codes "post ") k ++ codes " from ")
    (reads_made words_of words_in (λ x. refl) (λ w. refl)
    (reads_pair (reads_number 32 (codes "actor ") 255 (omega arith) refl) (reads_pair (reads_number 32 (codes "to ") 255 (omega arith) refl) reads_address)))

-- ---- the whole line

abbrev post_in : Post → Words × List ℕ
post_in p = (record { from = p.from; actor = p.actor; to = p.to }, p.bytes)

parts : (a k b f c x d to blank bytes end : List ℕ)
    → ((a ++ k) ++ b) ++ ((f ++ c) ++ ((x ++ d) ++ (to ++ blank))) ++ (bytes ++ end)
    ≡ ((a ++ k) ++ ((b ++ f) ++ ((c ++ x) ++ (d ++ (to ++ blank))))) ++ (bytes ++ end)
parts a k b f c x d to blank bytes end = simp append_assoc

line_parts : (k : ℕ) (p : Post) → words_text k (post_in p).0 ++ (bytes_text p.bytes ++ 10 ∷ []) ≡ post_line k p
unfolding post_line post_words counted
line_parts k p =
    parts (codes "post ") (decimal k) (codes " from ") (decimal p.from) (codes " actor ") (decimal p.actor) (codes " to ") (address_text p.to) (codes " ") (bytes_text p.bytes) (codes "\n")

is_post : (p : Post) → AreWords (post_in p).0 × AreBytes p.bytes → IsPost p
is_post p fits = record { from = omega (arith, fits.0.0); actor = omega (arith, fits.0.1.0); to = fits.0.1.1; bytes = fits.1 }

of_post : (p : Post) → IsPost p → AreWords (post_in p).0 × AreBytes p.bytes
of_post p is = ((omega (arith, is.from), (omega (arith, is.actor), is.to)), is.bytes)

pub reads_post : (k : ℕ) → Reads (post_at k) (post_line k) IsPost
unfolding post_at
reads_post k =
    reads_as (post_line k) IsPost (line_parts k) is_post of_post
    (reads_made post_of post_in (λ x. refl) (λ p. refl) (reads_pair (reads_words k) reads_bytes))

-- ---- how long a line is

address_long : (to : To) → 3 ≤ length (address_text to)
unfolding address_text counted
address_long Book = omega arith
address_long Home = omega arith
address_long All = omega arith
address_long (Node m) = omega arith

bytes_long : (bytes : List ℕ) → 1 ≤ length (bytes_text bytes)
unfolding bytes_text
bytes_long [] = omega arith
bytes_long (byte ∷ bytes) = omega (arith, length-encode_with lower_digits (byte ∷ bytes))

pub line_long : (k : ℕ) (p : Post) → k < 2 ^ 64 → IsPost p → 31 ≤ length (post_line k p)
unfolding post_line post_words counted
line_long k p small is =
    simp length-append (omega (
      arith,
      decimal_nonempty k small,
      decimal_nonempty p.from (omega (arith, is.from)),
      decimal_nonempty p.actor (omega (arith, is.actor)),
      address_long p.to,
      bytes_long p.bytes,
    ))

-- ---- the last line

-- a last line is no post's
pub end_or_post : (count k : ℕ) (p : Post) (x y : List ℕ) → end_line count ++ x ≡ post_line k p ++ y → ⊥
unfolding end_line post_line post_words counted
end_or_post count k p x y same =
    let first : 101 ≡ 112 = ap (λ (xs : List ℕ). get_or xs 0 0) same in
    absurd (omega (arith, first))
