-- A line has its end, and no other. So what comes behind a whole line changes nothing of whether it is one.
use Rattle.std.proofs.Common.{◌≡◌, ℕ, ◌^◌, ◌<◌, ◌≤◌, Bool, true, false, eqb, ◌||◌, not, List, [], ◌∷◌, ◌++◌, length, take, drop, get_or, codes, decimal, refl, sym, ap, ◌∙◌, arith, append_assoc, take-append-drop}
use Rattle.std.specs.List.{list_all}
use Rattle.std.specs.Str.Parse.{digits_value, AllDigits}
use Rattle.std.proofs.Math.Seq.{take-append_seam}
use Rattle.std.proofs.lemmas.Bool.Decides.{nat_tests}
use Rattle.std.proofs.lemmas.Fmt.{digits_decimal}
use Rattle.std.proofs.lemmas.List.{take-append-le}
use Rattle.std.proofs.lemmas.List.Elements.{All-from_get_or}
use Rattle.std.proofs.lemmas.List.Folds.{list_any-append, list_any_none}
use Rattle.std.proofs.lemmas.Str.Parse.{IsNumeralModel, numerals_by_value, tells_digits, digit_at}
use Rattle.hex.specs.Hex.{encode_lower}
use Rattle.hb_base.specs.Limits.{most_nodes}
use Rattle.hb_base.specs.NodeSet.{is_in}
use Rattle.hb_base.specs.Numbers.{Numbers}
use Rattle.hb_wire.specs.declared.vote.To.{To}
use Rattle.hb_wire.specs.declared.vote.To.TheVariants.{Book, Home, All as ToAll, Node}
use Rattle.hb_wire.specs.declared.post.Post.{Post}
use Rattle.ledger_text.specs.Lines.{counted, end_line}
use Rattle.trace_text.specs.Text.{nodes_number, trace_line, address_text, bytes_text, post_words, post_line}
use Rattle.trace_text.proofs.Nodes.{nodes_few}
use Rattle.trace_reader.specs.Trace.{IsConfig, IsAddress, IsPost, HasNoHead}
use Rattle.trace_reader.proofs.Decoding.{and_true, not_true, all_encoded}
use Rattle.votes_app.specs.Steps.{has_end, HasNoPost, HasNoEnd}

-- ---- bytes without a line's end

-- a text, and another
none_both : (xs ys : List ℕ) → has_end xs ≡ false → has_end ys ≡ false → has_end (xs ++ ys) ≡ false
none_both xs ys first second = list_any-append (λ byte. eqb byte 10) xs ys ∙ ap (λ (b : Bool). b || has_end ys) first ∙ second

none_all : (xs : List ℕ) → list_all (λ byte. not (eqb byte 10)) xs ≡ true → has_end xs ≡ false
none_all [] all = refl
none_all (x ∷ xs) all =
    let both = and_true (not (eqb x 10)) (list_all (λ byte. not (eqb byte 10)) xs) all in
    ap (λ (b : Bool). b || has_end xs) (not_true (eqb x 10) both.0) ∙ none_all xs both.1

numerals : IsNumeralModel (AllDigits 10) (digits_value 10)
numerals = numerals_by_value (AllDigits 10) tells_digits

above : (n : ℕ) → 48 ≤ n → eqb n 10 ≡ false
above n high = grind (arith, nat_tests)

none_decimal : (n : ℕ) → n < 2 ^ 64 → has_end (decimal n) ≡ false
none_decimal n small =
    list_any_none (λ byte. eqb byte 10) (decimal n)
    (All-from_get_or (λ byte. eqb byte 10 ≡ false) (decimal n) 0
    (λ i below. above (get_or (decimal n) i 0) (digit_at (decimal n) i (digits_decimal numerals n small) below).0))

none_counted : (word : List ℕ) (n : ℕ) → has_end word ≡ false → n < 2 ^ 64 → has_end (counted word n) ≡ false
unfolding counted
none_counted word n none small = none_both word (decimal n) none (none_decimal n small)

none_hex : (bytes : List ℕ) → has_end (encode_lower bytes) ≡ false
none_hex bytes = none_all (encode_lower bytes) (all_encoded (λ byte. not (eqb byte 10)) refl refl bytes)

none_bytes : (bytes : List ℕ) → has_end (bytes_text bytes) ≡ false
unfolding bytes_text
none_bytes [] = refl
none_bytes (byte ∷ bytes) = none_hex (byte ∷ bytes)

none_address : (to : To) → IsAddress to → has_end (address_text to) ≡ false
unfolding address_text
none_address Book is = refl
none_address Home is = refl
none_address ToAll is = refl
none_address (Node m) is = none_counted (codes "node ") m refl (omega (arith, is))

none_words : (k : ℕ) (post : Post) → k < 2 ^ 64 → IsPost post → has_end (post_words k post) ≡ false
unfolding post_words
none_words k post small is =
    let to : List ℕ = address_text post.to ++ codes " " in
    let behind : List ℕ = codes " to " ++ to in
    let actor : List ℕ = counted (codes " actor ") post.actor ++ behind in
    let from : List ℕ = counted (codes " from ") post.from ++ actor in
    let none_to : has_end to ≡ false = none_both (address_text post.to) (codes " ") (none_address post.to is.to) refl in
    let none_behind : has_end behind ≡ false = none_both (codes " to ") to refl none_to in
    let none_actor : has_end actor ≡ false =
    none_both (counted (codes " actor ") post.actor) behind (none_counted (codes " actor ") post.actor refl (omega (arith, is.actor))) none_behind in
    let none_from : has_end from ≡ false = none_both (counted (codes " from ") post.from) actor (none_counted (codes " from ") post.from refl (omega (arith, is.from))) none_actor in
    none_both (counted (codes "post ") k) from (none_counted (codes "post ") k refl small) none_from

-- ---- whole lines

-- bytes and the end of a line
pub record EndsOnce (line : List ℕ) : Type 0 where
  pub body : List ℕ
  pub parts : line ≡ body ++ 10 ∷ []
  pub none : has_end body ≡ false

pub post_once : (k : ℕ) (post : Post) → k < 2 ^ 64 → IsPost post → EndsOnce (post_line k post)
unfolding post_line
post_once k post small is = record {
  body = post_words k post ++ bytes_text post.bytes;
  parts = sym (append_assoc (post_words k post) (bytes_text post.bytes) (10 ∷ []));
  none = none_both (post_words k post) (bytes_text post.bytes) (none_words k post small is) (none_bytes post.bytes);
}

pub end_once : (count : ℕ) → count < 2 ^ 64 → EndsOnce (end_line count)
unfolding end_line
end_once count small = record { body = counted (codes "end ") count; parts = refl; none = none_counted (codes "end ") count refl small }

eight : (a b c d e f g h end : List ℕ) → a ++ (b ++ (c ++ (d ++ (e ++ (f ++ (g ++ (h ++ end))))))) ≡ (a ++ (b ++ (c ++ (d ++ (e ++ (f ++ (g ++ h))))))) ++ end
eight a b c d e f g h end = simp append_assoc

-- a word and a number, and more
none_more : (word : List ℕ) (n : ℕ) (rest : List ℕ) → has_end word ≡ false → n < 2 ^ 64 → has_end rest ≡ false → has_end (counted word n ++ rest) ≡ false
none_more word n rest none small later = none_both (counted word n) rest (none_counted word n none small) later

pub head_once : (c : Numbers) → IsConfig c → EndsOnce (trace_line c)
unfolding trace_line
head_once c is =
    let liars : ℕ = nodes_number most_nodes (is_in c.liars) in
    let few : liars < 2 ^ 16 = nodes_few most_nodes (is_in c.liars) in
    let s = is.sound in
    let t7 : List ℕ = counted (codes " seed ") c.seed ++ counted (codes " liars ") liars in
    let t6 : List ℕ = counted (codes " batch ") c.batch ++ t7 in
    let t5 : List ℕ = counted (codes " rounds ") c.rounds ++ t6 in
    let t4 : List ℕ = counted (codes " epochs ") c.epochs ++ t5 in
    let t3 : List ℕ = counted (codes " version ") c.version ++ t4 in
    let t2 : List ℕ = counted (codes " faulty ") c.f ++ t3 in
    let n7 : has_end t7 ≡ false =
    none_more (codes " seed ") c.seed (counted (codes " liars ") liars) refl is.seed (none_counted (codes " liars ") liars refl (omega (arith, few))) in
    let n6 : has_end t6 ≡ false = none_more (codes " batch ") c.batch t7 refl (omega (arith, s.batch.1)) n7 in
    let n5 : has_end t5 ≡ false = none_more (codes " rounds ") c.rounds t6 refl (omega (arith, s.rounds.1)) n6 in
    let n4 : has_end t4 ≡ false = none_more (codes " epochs ") c.epochs t5 refl (omega (arith, s.epochs.1)) n5 in
    let n3 : has_end t3 ≡ false = none_more (codes " version ") c.version t4 refl (omega (arith, s.version.1)) n4 in
    let n2 : has_end t2 ≡ false = none_more (codes " faulty ") c.f t3 refl (omega (arith, s.faulty.1)) n3 in
    record {
      body = counted (codes "trace nodes ") c.n ++ t2;
      parts =
          eight (counted (codes "trace nodes ") c.n) (counted (codes " faulty ") c.f) (counted (codes " version ") c.version) (counted (codes " epochs ") c.epochs)
          (counted (codes " rounds ") c.rounds) (counted (codes " batch ") c.batch) (counted (codes " seed ") c.seed) (counted (codes " liars ") liars) (10 ∷ []);
      none = none_more (codes "trace nodes ") c.n t2 refl (omega (arith, s.nodes.1)) n2;
    }

-- ---- what comes behind

-- bytes in which a line ends are no shorter than the line that they begin with
reaches_end : (bytes more body later : List ℕ) → has_end bytes ≡ true → has_end body ≡ false → bytes ++ more ≡ (body ++ 10 ∷ []) ++ later → length (body ++ 10 ∷ []) ≤ length bytes
reaches_end bytes more [] later ends none same = some bytes ends
  where
    some : (xs : List ℕ) → has_end xs ≡ true → 1 ≤ length xs
    some [] ends = absurd cc
    some (x ∷ xs) ends = omega arith
reaches_end [] more (y ∷ body) later ends none same = absurd cc
reaches_end (x ∷ bytes) more (y ∷ body) later ends none same =
    let first : x ≡ y = ap (λ (xs : List ℕ). get_or xs 0 0) same in
    let rest : bytes ++ more ≡ (body ++ 10 ∷ []) ++ later = ap (λ (xs : List ℕ). drop 1 xs) same in
    let parts = either (eqb y 10) (has_end body) none in
    let ends_later : has_end bytes ≡ true = behind (eqb x 10) (has_end bytes) (ap (λ (n : ℕ). eqb n 10) first ∙ parts.0) ends in
    omega (arith, reaches_end bytes more body later ends_later parts.1 rest)
  where
    either : (a b : Bool) → (a || b) ≡ false → (a ≡ false) × (b ≡ false)
    either true b e = absurd cc
    either false b e = (refl, e)

    behind : (a b : Bool) → a ≡ false → (a || b) ≡ true → b ≡ true
    behind true b lacks holds = absurd cc
    behind false b lacks holds = holds

-- bytes in which a line ends begin with a line already without what comes behind them
pub line_here : (bytes more line later : List ℕ) → has_end bytes ≡ true → EndsOnce line → bytes ++ more ≡ line ++ later → bytes ≡ line ++ drop (length line) bytes
line_here bytes more line later ends once same =
    let long : length line ≤ length bytes =
    rw once.parts (reaches_end bytes more once.body later ends once.none (same ∙ ap (λ (xs : List ℕ). xs ++ later) once.parts)) in
    let front : take (length line) bytes ≡ line =
    sym (take-append-le (length line) bytes more long) ∙ ap (λ (xs : List ℕ). take (length line) xs) same ∙ take-append_seam line later in
    sym (take-append-drop (length line) bytes) ∙ ap (λ (xs : List ℕ). xs ++ drop (length line) bytes) front

pub no_post_more : (k : ℕ) (bytes more : List ℕ) → k < 2 ^ 64 → has_end bytes ≡ true → HasNoPost k bytes → HasNoPost k (bytes ++ more)
no_post_more k bytes more small ends lacks = record {
  none = λ post later is same. lacks.none post (drop (length (post_line k post)) bytes) is (line_here bytes more (post_line k post) later ends (post_once k post small is) same);
}

pub no_end_more : (count : ℕ) (bytes more : List ℕ) → count < 2 ^ 64 → has_end bytes ≡ true → HasNoEnd count bytes → HasNoEnd count (bytes ++ more)
no_end_more count bytes more small ends lacks = record {
  none = λ later same. lacks.none (drop (length (end_line count)) bytes) (line_here bytes more (end_line count) later ends (end_once count small) same);
}

pub no_head_more : (bytes more : List ℕ) → has_end bytes ≡ true → HasNoHead bytes → HasNoHead (bytes ++ more)
no_head_more bytes more ends lacks = record {
  no_head = λ c rest is same. lacks.no_head c (drop (length (trace_line c)) bytes) is (line_here bytes more (trace_line c) rest ends (head_once c is) same);
}
