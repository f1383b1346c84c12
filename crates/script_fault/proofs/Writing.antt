-- Writing one text after another.
use Rattle.std.proofs.Common.{◌≡◌, ℕ, ◌+◌, List, [], ◌∷◌, ◌++◌, length, take, drop, Option, Result, Ok, Err, refl, sym, ap, ◌∙◌, arith}
use Rattle.std.proofs.Common.{append_assoc, length-append}
use Rattle.std.proofs.KnownBytes.{Appends-nil, Appends-trans}
use Rattle.std.proofs.Math.Seq.{take-append-add}
use Rattle.std.proofs.lemmas.List.{take-append-le, take-append-drop}
use Rattle.hex.specs.Hex.{encode_with, encode_lower, lower_digits}
use Rattle.script_fault.specs.Line.{Writes}

-- a text, and then another
pub writes_then : {T U V E : Type 0} {h h1 h2 : Option (List ℕ)} {c c1 c2 : ℕ} {x : T} {r : Result U E} {a b : List ℕ}
    → Writes {E = V} h h1 c c1 (Ok x) a → Writes h1 h2 c1 c2 r b → Writes h h2 c c2 r (a ++ b)
writes_then {h = h} {h1 = h1} {h2 = h2} {r = Ok y} {a = a} {b = b} first second = record {
  bytes = Appends-trans h h1 h2 a b first.bytes second.bytes;
  cause = record {
    later = omega (arith, first.cause.later, second.cause.later);
    failed = tt;
    quiet = second.cause.quiet ∙ first.cause.quiet;
  };
}
writes_then {h = h} {h1 = h1} {h2 = h2} {r = Err e} {a = a} {b = b} first second = record {
  bytes = (
    length a + second.bytes.0,
    omega (arith, length-append a b, second.bytes.1),
    rw (take-append-add a b second.bytes.0) (Appends-trans h h1 h2 a (take second.bytes.0 b) first.bytes second.bytes.2),
  );
  cause = record {
    later = omega (arith, first.cause.later, second.cause.later);
    failed = omega (arith, first.cause.quiet, second.cause.failed);
    quiet = tt;
  };
}

-- what failed wrote a front of any longer text
pub writes_front : {T U E F : Type 0} {h h1 : Option (List ℕ)} {c c1 : ℕ} {e : E} {d : F} {a : List ℕ} (b : List ℕ)
    → Writes {T = T} h h1 c c1 (Err e) a → Writes {T = U} h h1 c c1 (Err d) (a ++ b)
writes_front {h = h} {h1 = h1} {a = a} b given = record {
  bytes = (
    given.bytes.0,
    omega (arith, length-append a b, given.bytes.1),
    rw (take-append-le given.bytes.0 a b given.bytes.1) given.bytes.2,
  );
  cause = record { later = given.cause.later; failed = given.cause.failed; quiet = tt };
}

-- the hex of bytes is the hex of each part of them
encode_with-append : (digits a b : List ℕ) → encode_with digits (a ++ b) ≡ encode_with digits a ++ encode_with digits b
unfolding encode_with
encode_with-append digits [] b = refl
encode_with-append digits (x ∷ a) b = rw (encode_with-append digits a b) refl

pub encode_lower-append : (a b : List ℕ) → encode_lower (a ++ b) ≡ encode_lower a ++ encode_lower b
encode_lower-append a b = encode_with-append lower_digits a b

-- ---- the hex of bytes in pieces

pub writes_no_hex : {T E : Type 0} (held : Option (List ℕ)) (faults : ℕ) (x : T) → Writes {T = T} {E = E} held held faults faults (Ok x) (encode_lower [])
unfolding encode_with
writes_no_hex held faults x = record { bytes = Appends-nil held; cause = record { later = omega arith; failed = tt; quiet = refl } }

pub in_parts : (bytes front rest piece others : List ℕ) (k : ℕ) → bytes ≡ front ++ rest → piece ≡ take k rest → others ≡ drop k rest → bytes ≡ (front ++ piece) ++ others
in_parts bytes front rest piece others k all first second =
    all ∙ ap (λ xs. front ++ xs) (sym (take-append-drop k rest)) ∙ ap (λ xs. front ++ (xs ++ drop k rest)) (sym first)
    ∙ ap (λ xs. front ++ (piece ++ xs)) (sym second) ∙ sym (append_assoc front piece others)

pub hex_goes_on : {T U V E F : Type 0} {h h1 h2 : Option (List ℕ)} {c c1 c2 : ℕ} {x : T} {y : U} {z : V} (front piece : List ℕ)
    → Writes {E = E} h h1 c c1 (Ok x) (encode_lower front) → Writes {E = F} h1 h2 c1 c2 (Ok y) (encode_lower piece)
    → Writes {E = E} h h2 c c2 (Ok z) (encode_lower (front ++ piece))
hex_goes_on {h = h} {h1 = h1} {h2 = h2} front piece first second = rw (encode_lower-append front piece) (record {
  bytes = Appends-trans h h1 h2 (encode_lower front) (encode_lower piece) first.bytes second.bytes;
  cause = record {
    later = omega (arith, first.cause.later, second.cause.later);
    failed = tt;
    quiet = second.cause.quiet ∙ first.cause.quiet;
  };
})

pub hex_stops : {T U V E F G : Type 0} {h h1 h2 : Option (List ℕ)} {c c1 c2 : ℕ} {x : T} {e : E} {d : F} (bytes front piece others : List ℕ)
    → bytes ≡ (front ++ piece) ++ others
    → Writes {E = G} h h1 c c1 (Ok x) (encode_lower front) → Writes {T = U} h1 h2 c1 c2 (Err e) (encode_lower piece)
    → Writes {T = V} h h2 c c2 (Err d) (encode_lower bytes)
hex_stops bytes front piece others all first second =
    rw (all, encode_lower-append (front ++ piece) others, encode_lower-append front piece)
    (writes_front (encode_lower others) (writes_then first second))
