-- Fields of a line: what is read is spelled so, and what is spelled so is read.
use Rattle.std.proofs.Common.{◌≡◌, ℕ, suc, ◌+◌, ◌<◌, Bool, true, false, List, [], ◌∷◌, ◌++◌, length, take, drop, get_or, Option, Some, refl, sym, ap, subst, ◌∙◌, append_assoc, arith}
use Rattle.std.specs.Str.{bytes_eq}
use Rattle.std.specs.List.{prefix_len}
use Rattle.std.proofs.lemmas.Slice.Eq.{bytes_eq-Decides}
use Rattle.std.proofs.lemmas.List.{take_at, drop_at, take-append-drop, get_or-append-add}
use Rattle.hb_wire.specs.Reading.{◌>>=◌, made}
use Rattle.hb_wire.proofs.FieldLemmas.{IsBytes, Reads, bind_some, test_some, some_is}
use Rattle.trace_reader.specs.Reading.{after}

-- bytes behind others
pub bytes_behind : (bytes front rest : List ℕ) → bytes ≡ front ++ rest → IsBytes bytes → IsBytes rest
bytes_behind bytes front rest parts are i = subst (λ (b : ℕ). b < 256) (ap (λ (xs : List ℕ). get_or xs (length front + i) 0) parts ∙ get_or-append-add front rest i 0) (are (length front + i))

pub after_takes : (word bytes rest : List ℕ) → after word bytes ≡ Some rest → bytes ≡ word ++ rest
after_takes word bytes rest is =
    let t = test_some (bytes_eq (take (length word) bytes) word) (Some (drop (length word) bytes)) rest is in
    let front : take (length word) bytes ≡ word = (bytes_eq-Decides (take (length word) bytes) word).0 t.0 in
    let back : drop (length word) bytes ≡ rest = some_is (drop (length word) bytes) rest t.1 in
    sym (take-append-drop (length word) bytes) ∙ ap (λ (xs : List ℕ). xs ++ drop (length word) bytes) front ∙ ap (λ (xs : List ℕ). word ++ xs) back

pub after_again : (word rest : List ℕ) → after word (word ++ rest) ≡ Some rest
after_again word rest =
    let same : bytes_eq (take (length word) (word ++ rest)) word ≡ true = (bytes_eq-Decides (take (length word) (word ++ rest)) word).1 (take_at word rest (length word) refl) in
    rw same (ap Some (drop_at word rest (length word) refl))

-- a field behind a word
pub reads_after : {X : Type 0} {p : List ℕ → Option (X × List ℕ)} {f : X → List ℕ} {F : X → Type 0} (word : List ℕ)
    → Reads p f F → Reads (λ bytes. after word bytes >>= λ rest. p rest) (λ x. word ++ f x) F
reads_after {X} {p} {f} {F} word field = record {
  takes = λ bytes x rest are is.
      let a = bind_some (after word bytes) (λ more. p more) (x, rest) is in
      let front = after_takes word bytes a.0 a.1 in
      let t = field.takes a.0 x rest (bytes_behind bytes word a.0 front are) a.2 in
      (t.0, front ∙ ap (λ (xs : List ℕ). word ++ xs) t.1 ∙ sym (append_assoc word (f x) rest), t.2);
  again = λ x rest fits.
      ap (λ (bytes : List ℕ). after word bytes >>= λ more. p more) (append_assoc word (f x) rest)
      ∙ ap (λ (r : Option (List ℕ)). r >>= λ more. p more) (after_again word (f x ++ rest))
      ∙ field.again x rest fits;
}

-- a value that is made of a field, and of which the field can be had again
pub reads_made : {X Y : Type 0} {p : List ℕ → Option (X × List ℕ)} {f : X → List ℕ} {F : X → Type 0} (make : X → Y) (back : Y → X)
    → ((x : X) → back (make x) ≡ x) → ((y : Y) → make (back y) ≡ y) → Reads p f F → Reads (made make p) (λ y. f (back y)) (λ y. F (back y))
reads_made {X} {Y} {p} {f} {F} make back there here field = record {
  takes = λ bytes y rest are is.
      let a = bind_some (p bytes) (λ x. Some (make x.0, x.1)) (y, rest) is in
      let t = field.takes bytes a.0.0 a.0.1 are a.1 in
      let same : (make a.0.0, a.0.1) ≡ (y, rest) = some_is (make a.0.0, a.0.1) (y, rest) a.2 in
      let value : a.0.0 ≡ back y = sym (there a.0.0) ∙ ap (λ (z : Y × List ℕ). back z.0) same in
      let behind : a.0.1 ≡ rest = ap (λ (z : Y × List ℕ). z.1) same in
      subst (λ (x : X). F x × (bytes ≡ f x ++ rest) × IsBytes rest) value (subst (λ (r : List ℕ). F a.0.0 × (bytes ≡ f a.0.0 ++ r) × IsBytes r) behind t);
  again = λ y rest fits.
      ap (λ (r : Option (X × List ℕ)). r >>= λ x. Some (make x.0, x.1)) (field.again (back y) rest fits)
      ∙ ap (λ (z : Y). Some (z, rest)) (here y);
}

-- the same reader, spelled in other words
pub reads_as : {X : Type 0} {p : List ℕ → Option (X × List ℕ)} {f : X → List ℕ} {F : X → Type 0} (g : X → List ℕ) (G : X → Type 0)
    → ((x : X) → f x ≡ g x) → ((x : X) → F x → G x) → ((x : X) → G x → F x) → Reads p f F → Reads p g G
reads_as {X} {p} {f} {F} g G same to from field = record {
  takes = λ bytes x rest are is.
      let t = field.takes bytes x rest are is in
      (to x t.0, t.1 ∙ ap (λ (xs : List ℕ). xs ++ rest) (same x), t.2);
  again = λ x rest fits.
      ap (λ (xs : List ℕ). p (xs ++ rest)) (sym (same x)) ∙ field.again x rest (from x fits);
}

-- of a front that passes a test, before something that doesn't, the test passes just the front
pub prefix_len-front : (test : ℕ → Bool) (front : List ℕ) (x : ℕ) (rest : List ℕ) → ((i : ℕ) → i < length front → test (get_or front i 0) ≡ true) → test x ≡ false
    → prefix_len test (front ++ x ∷ rest) ≡ length front
prefix_len-front test [] x rest pass stop = rw stop refl
prefix_len-front test (y ∷ front) x rest pass stop =
    let first : test y ≡ true = pass 0 (omega arith) in
    let more : prefix_len test (front ++ x ∷ rest) ≡ length front = prefix_len-front test front x rest (λ i below. pass (suc i) (omega (arith, below))) stop in
    rw (first, more) (omega arith)
