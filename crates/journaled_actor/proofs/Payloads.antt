-- Votes to the bytes of a journal and back.
use Rattle.std.proofs.Common.{◌≡◌, ℕ, zero, suc, ◌<◌, ◌≤◌, ◌+◌, List, [], ◌∷◌, ◌++◌, length, Option, None, Some, get_or, take, drop, refl, sym, ap, ◌∙◌, subst, arith, append-nil, append_assoc, length-append}
use Rattle.std.specs.List.{AllByRecursion}
use Rattle.std.proofs.lemmas.Grind.{flat_map-append}
use Rattle.std.proofs.lemmas.List.{take_more, drop_more}
use Rattle.std.specs.Int.{w32, to_be_bytes}
use Rattle.hb_base.specs.ByteLists.{AreBytes}
use Rattle.hb_base.specs.Numbers.{Numbers}
use Rattle.hb_wire.specs.declared.vote.Vote.{Vote}
use Rattle.hb_wire.specs.Reading.{sized_at, vote_at}
use Rattle.hb_wire.specs.Votes.{Spells, spelling, sized_bytes}
use Rattle.hb_wire.proofs.FieldLemmas.{IsBytes, SizedFits, bytes_from, reads_sized, some_is}
use Rattle.hb_wire.proofs.VoteLemmas.{vote_again}
use Rattle.hb_rules.specs.History.{HasSpelling}
use Rattle.hb_rules.specs.Terms.{AreSpelled}
use Rattle.hb_rules.proofs.Lists.{AllByRecursion-append}
use Rattle.journaled_actor.specs.Payload.{payload, vote_bytes, longest_spelling, AreWritten}
use Rattle.journaled_actor.proofs.Lengths.{spelling_short, length-sized}

pair_is : {A B : Type 0} (a b : A) (x y : B) → ◌≡◌ {A = Option (A × B)} (Some (a, x)) (Some (b, y)) → (a ≡ b) × (x ≡ y)
pair_is {A} {B} a b x y h =
    let e : ◌≡◌ {A = A × B} (a, x) (b, y) = some_is (a, x) (b, y) h in
    (ap (λ (p : A × B). p.0) e, ap (λ (p : A × B). p.1) e)

one_is : {A : Type 0} (a b : A) → Some a ≡ Some b → a ≡ b
one_is a b h = cc (h)

none_is : {A : Type 0} (a : A) → None ≡ Some a → ⊥
none_is a h = cc (h)

-- how far reading has come: what is left has the votes that are not found yet, if the text is of votes
pub record IsReading (c : Numbers) (text left : List ℕ) (found : List Vote) : Type 0 where
  pub bytes : IsBytes left
  pub written : AreWritten c found
  pub goes : (votes : List Vote) → AreSpelled c votes → text ≡ payload votes
      → (rest : List Vote) × AreSpelled c rest × (left ≡ payload rest) × (found ++ rest ≡ votes)

pub reading_begins : (c : Numbers) (text : List ℕ) → IsBytes text → IsReading c text text []
reading_begins c text bytes = record { bytes = bytes; written = tt; goes = λ votes are is. (votes, are, is, refl) }

-- the bytes of a piece
front_bytes : (front piece rest : List ℕ) → IsBytes (front ++ (piece ++ rest)) → AreBytes piece
front_bytes [] piece rest bytes = bytes_from piece (λ i. at piece i bytes)
  where
    at : (xs : List ℕ) (i : ℕ) → IsBytes (xs ++ rest) → get_or xs i 0 < 256
    at [] i small = omega arith
    at (x ∷ xs) zero small = small 0
    at (x ∷ xs) (suc i) small = at xs i (λ k. small (suc k))
front_bytes (f ∷ front) piece rest bytes = front_bytes front piece rest (λ i. bytes (suc i))

piece_fits : (c : Numbers) (left : List ℕ) (vote : Vote) (votes : List Vote) → c.n ≤ 16 → IsBytes left → HasSpelling c vote
    → left ≡ payload (vote ∷ votes) → SizedFits 0 longest_spelling (spelling vote)
piece_fits c left vote votes few bytes is left_is = (
  omega arith,
  spelling_short c.n c.version vote few is,
  front_bytes (to_be_bytes w32 (length (spelling vote))) (spelling vote) (payload votes)
      (subst IsBytes (left_is ∙ append_assoc (to_be_bytes w32 (length (spelling vote))) (spelling vote) (payload votes)) bytes),
)

-- what is left begins with a whole piece, if it has a vote
pub piece_at : (c : Numbers) (left : List ℕ) (vote : Vote) (votes : List Vote) → c.n ≤ 16 → IsBytes left → HasSpelling c vote
    → left ≡ payload (vote ∷ votes) → (sized_at 0 longest_spelling left ≡ Some (spelling vote, payload votes)) × Spells c.n c.version (spelling vote) vote
piece_at c left vote votes few bytes is left_is =
    let fits = piece_fits c left vote votes few bytes is left_is in (
      ap (sized_at 0 longest_spelling) left_is ∙ (reads_sized 0 longest_spelling (omega arith)).again (spelling vote) (payload votes) fits,
      record { are_bytes = fits.2; fits = is; spelled = refl },
    )

module _ (c : Numbers) (text left : List ℕ) (found : List Vote) (few : c.n ≤ 16) (so_far : IsReading c text left found) where
  -- a piece that spells a vote
  pub reading_next : (piece after : List ℕ) (vote : Vote) → sized_at 0 longest_spelling left ≡ Some (piece, after)
      → Spells c.n c.version piece vote → IsReading c text after (found ++ vote ∷ [])
  reading_next piece after vote split spells =
      let takes = (reads_sized 0 longest_spelling (omega arith)).takes left piece after so_far.bytes split in
      record {
        bytes = takes.2;
        written = AllByRecursion-append (λ v. Spells c.n c.version (spelling v) v) found (vote ∷ []) so_far.written
            (record { are_bytes = subst AreBytes spells.spelled spells.are_bytes; fits = spells.fits; spelled = refl }, tt);
        goes = λ votes are is. let r = so_far.goes votes are is in by r.0 r.1 r.2 votes r.3;
      }
    where
      by : (rest : List Vote) → AreSpelled c rest → left ≡ payload rest → (votes : List Vote) → found ++ rest ≡ votes
          → (more : List Vote) × AreSpelled c more × (after ≡ payload more) × ((found ++ vote ∷ []) ++ more ≡ votes)
      by [] are is votes whole =
          let takes = (reads_sized 0 longest_spelling (omega arith)).takes left piece after so_far.bytes split in
          absurd (omega (
            arith,
            ap (λ (xs : List ℕ). length xs) is,
            ap (λ (xs : List ℕ). length xs) takes.1,
            length-append (sized_bytes piece) after,
            length-append (to_be_bytes w32 (length piece)) piece,
          ))
      by (v ∷ more) are is votes whole =
          let at = piece_at c left v more few so_far.bytes are.0 is in
          let same : ◌≡◌ {A = Option (List ℕ × List ℕ)} (Some (piece, after)) (Some (spelling v, payload more)) = sym split ∙ at.0 in
          let parts = pair_is piece (spelling v) after (payload more) same in
          let piece_is : piece ≡ spelling v = parts.0 in
          let after_is : after ≡ payload more = parts.1 in
          let one : Some vote ≡ Some v = sym (vote_again c.n c.version piece vote spells)
          ∙ ap (vote_at c.n c.version) piece_is ∙ vote_again c.n c.version (spelling v) v at.1 in
          let vote_is : vote ≡ v = one_is vote v one in
          (more, are.1, after_is, append_assoc found (vote ∷ []) more ∙ ap (λ (w : Vote). found ++ w ∷ more) vote_is ∙ whole)

  -- no whole piece is left
  pub reading_ends : sized_at 0 longest_spelling left ≡ None → (votes : List Vote) → AreSpelled c votes → text ≡ payload votes → found ≡ votes
  reading_ends none votes are is = let r = so_far.goes votes are is in by r.0 r.1 r.2 r.3
    where
      by : (rest : List Vote) → AreSpelled c rest → left ≡ payload rest → found ++ rest ≡ votes → found ≡ votes
      by [] are is whole = sym (append-nil found) ∙ whole
      by (v ∷ more) are is whole = absurd (cc (none, (piece_at c left v more few so_far.bytes are.0 is).0))

  -- a piece that spells no vote
  pub reading_stops : (piece after : List ℕ) → sized_at 0 longest_spelling left ≡ Some (piece, after) → vote_at c.n c.version piece ≡ None
      → (votes : List Vote) → AreSpelled c votes → text ≡ payload votes → found ≡ votes
  reading_stops piece after split none votes are is = let r = so_far.goes votes are is in by r.0 r.1 r.2 r.3
    where
      by : (rest : List Vote) → AreSpelled c rest → left ≡ payload rest → found ++ rest ≡ votes → found ≡ votes
      by [] are is whole = sym (append-nil found) ∙ whole
      by (v ∷ more) are is whole =
          let at = piece_at c left v more few so_far.bytes are.0 is in
          let piece_is : piece ≡ spelling v = (pair_is piece (spelling v) after (payload more) (sym split ∙ at.0)).0 in
          absurd (none_is v (sym none ∙ ap (vote_at c.n c.version) piece_is ∙ vote_again c.n c.version (spelling v) v at.1))

pub piece_smaller : (left piece after : List ℕ) → IsBytes left → ◌≡◌ {A = Option (List ℕ × List ℕ)} (sized_at 0 longest_spelling left) (Some (piece, after))
    → length after < length left
piece_smaller left piece after bytes split =
    let takes = (reads_sized 0 longest_spelling (omega arith)).takes left piece after bytes split in
    omega (
      arith,
      ap (λ (xs : List ℕ). length xs) takes.1,
      length-append (sized_bytes piece) after,
      length-append (to_be_bytes w32 (length piece)) piece,
    )

-- ---- writing

-- how far writing has come
pub record IsWriting (c : Numbers) (votes : List Vote) (k : ℕ) (text : List ℕ) : Type 0 where
  pub text_is : text ≡ payload (take k votes)
  pub written : AreWritten c (take k votes)

pub writing_begins : (c : Numbers) (votes : List Vote) → IsWriting c votes 0 []
writing_begins c votes = record { text_is = refl; written = tt }

pub next_taken : (votes : List Vote) (k : ℕ) (vote : Vote) → k < length votes → vote ≡ get_or votes k vote
    → take (k + 1) votes ≡ take k votes ++ vote ∷ []
next_taken votes k vote inside is = take_more votes k vote inside ∙ ap (λ (v : Vote). take k votes ++ v ∷ []) (sym is)

pub next_left : (votes : List Vote) (k : ℕ) (vote : Vote) → k < length votes → vote ≡ get_or votes k vote → drop k votes ≡ vote ∷ drop (k + 1) votes
next_left votes k vote inside is = drop_more votes k vote inside ∙ ap (λ (v : Vote). v ∷ drop (k + 1) votes) (sym is)

-- what holds of each vote holds of the one at a place
pub holds_at : (P : Vote → Type 0) (votes : List Vote) (k : ℕ) (vote : Vote) → AllByRecursion P votes → k < length votes → vote ≡ get_or votes k vote → P vote
holds_at P votes k vote all inside is = subst P (sym is) (at votes k inside all)
  where
    at : (vs : List Vote) (i : ℕ) → i < length vs → AllByRecursion P vs → P (get_or vs i vote)
    at [] i inside all = absurd (omega (arith, inside))
    at (v ∷ vs) zero inside all = all.0
    at (v ∷ vs) (suc i) inside all = at vs i (omega (arith, inside)) all.1

pub writing_next : (c : Numbers) (votes : List Vote) (k : ℕ) (vote : Vote) (text after : List ℕ) → k < length votes → vote ≡ get_or votes k vote
    → after ≡ text ++ vote_bytes vote → Spells c.n c.version (spelling vote) vote → IsWriting c votes k text → IsWriting c votes (k + 1) after
writing_next c votes k vote text after inside is put spells so_far =
    let taken = next_taken votes k vote inside is in
    record {
      text_is =
          put ∙ ap (λ (xs : List ℕ). xs ++ vote_bytes vote) so_far.text_is
          ∙ ap (λ (xs : List ℕ). payload (take k votes) ++ xs) (sym (append-nil (vote_bytes vote)))
          ∙ sym (flat_map-append vote_bytes (take k votes) (vote ∷ []))
          ∙ ap payload (sym taken);
      written =
          subst (AreWritten c) (sym taken)
          (AllByRecursion-append (λ v. Spells c.n c.version (spelling v) v) (take k votes) (vote ∷ []) so_far.written (spells, tt));
    }

-- no bytes are no votes
pub no_votes : (votes : List Vote) → payload votes ≡ [] → votes ≡ []
no_votes [] none = refl
no_votes (vote ∷ votes) none =
    absurd (omega (arith, ap length none, length-append (vote_bytes vote) (payload votes), length-sized (spelling vote)))
