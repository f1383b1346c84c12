-- Whether an actor has received what has come to it, by tests.
use Rattle.std.proofs.Common.{◌≡◌, ◌↔◌, ℕ, ◌+◌, ◌<◌, Bool, true, false, ◌||◌, ◌==◌, inl, inr, List, [], ◌∷◌, length, take, get_or, map, Contains, Some, slice_get, slice_index_or, slice_set, refl, sym, ap, ◌∙◌, subst, get_or-set_same, get_or-set_other}
use Rattle.std.specs.List.{list_any}
use Rattle.std.proofs.Math.Bool.{or-false}
use Rattle.std.proofs.lemmas.Bool.{cases_eq, eqb-true, eq-eqb, ne_eqb}
use Rattle.std.proofs.lemmas.List.{take_more, get_or-map}
use Rattle.std.proofs.lemmas.List.Folds.{list_any-append}
use Rattle.std.proofs.lemmas.Option.{slice_get_within, get_or_from_slice_get}
use Rattle.hb_wire.specs.declared.post.Post.{Post}
use Rattle.hb_rules.specs.declared.report.End.{End}
use Rattle.hb_rules.specs.declared.report.Report.{Report}
use Rattle.hb_rules.proofs.Among.{any_stands}
use Rattle.hb_rules.proofs.Lists.{list_any-from}
use Rattle.quiet_check.specs.Receipts.{HasReceived, is_sent, AreMarked}

pub marked_more : (marks : List Bool) (got : List ℕ) (p : ℕ) → p < length got → get_or got p 0 < length marks
    → ((k : ℕ) → slice_index_or marks k false ≡ list_any (λ m. m == k) (take p got))
    → (k : ℕ) → slice_index_or (slice_set marks (get_or got p 0) true) k false ≡ list_any (λ m. m == k) (take (p + 1) got)
marked_more marks got p below inside marked k =
    elim (cases_eq k n) [
      | inl same ↦
          ap (λ (k : ℕ). slice_index_or (slice_set marks n true) k false) same
          ∙ get_or-set_same marks n true false inside
          ∙ sym (all ∙ rw (eq-eqb n k (sym same)) (or_true (list_any (λ m. m == k) (take p got))))
      | inr other ↦
          get_or-set_other marks n k true false other
          ∙ marked k
          ∙ sym (all ∙ rw (ne_eqb n k (λ same. other (sym same))) (or-false (list_any (λ m. m == k) (take p got))))
    ]
  where
    n : ℕ
    n = get_or got p 0

    all : list_any (λ m. m == k) (take (p + 1) got) ≡ (list_any (λ m. m == k) (take p got) || ((get_or got p 0 == k) || false))
    all = ap (list_any (λ m. m == k)) (take_more got p 0 below) ∙ list_any-append (λ m. m == k) (take p got) (get_or got p 0 ∷ [])

    or_true : (b : Bool) → (b || true) ≡ true
    or_true true = refl
    or_true false = refl

-- a number is marked where it was received
marked_received : (got : List ℕ) (k : ℕ) → list_any (λ m. m == k) got ≡ true → Contains got k
marked_received got k some =
    let found = any_stands (λ m. m == k) got some in
    subst (Contains got) (eqb-true found.0 k found.2) found.1

received_marked : (got : List ℕ) (k : ℕ) → Contains got k → list_any (λ m. m == k) got ≡ true
received_marked got k stands = list_any-from (λ m. m == k) got k stands (eq-eqb k k refl)

sent_at : (report : Report) (k : ℕ) (post : Post) → slice_get report.history.items k ≡ Some post
    → slice_index_or (map (is_sent report) report.history.items) k false ≡ is_sent report post
sent_at report k post stands =
    get_or-map (is_sent report) report.history.items k post false (slice_get_within report.history.items k post stands)
    ∙ ap (is_sent report) (get_or_from_slice_get report.history.items k post post stands)

-- all that had to be received is marked exactly where it was received
pub marks_told : (report : Report) (end : End) (sent marks : List Bool) (answer : Bool) → sent ≡ map (is_sent report) report.history.items
    → ((k : ℕ) → slice_index_or marks k false ≡ list_any (λ m. m == k) end.got.items)
    → ((answer ≡ true) ↔ AreMarked report end sent marks) → (answer ≡ true) ↔ HasReceived report end
marks_told report end sent marks answer same marked exact = (
  λ told k expected.
      marked_received end.got.items k
      (sym (marked k)
      ∙ exact.0 told k expected.post expected.stands expected.comes
      (ap (λ (sent : List Bool). slice_index_or sent k false) same ∙ sent_at report k expected.post expected.stands ∙ expected.sent)),
  λ all. exact.1 (λ k post stands comes is.
      marked k
      ∙ received_marked end.got.items k
      (all k (record {
        post = post;
        stands = stands;
        comes = comes;
        sent = sym (ap (λ (sent : List Bool). slice_index_or sent k false) same ∙ sent_at report k post stands) ∙ is;
      }))),
)
