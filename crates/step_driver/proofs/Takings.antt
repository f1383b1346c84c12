-- An envelope is taken, and the others stay.
use Rattle.std.proofs.Common.{◌≡◌, ◌⊎◌, ℕ, zero, suc, ◌+◌, inl, inr, List, [], ◌∷◌, length, remove, Contains, Some, sym, ap, ◌∙◌, subst, arith, slice_get}
use Rattle.std.proofs.lemmas.List.Edits.{length-remove}
use Rattle.std.proofs.lemmas.Option.{slice_get_within}
use Rattle.rand_chacha.specs.ChaCha.{ChaCha}
use Rattle.net_script.specs.declared.script.Order.{Order}
use Rattle.net_script.specs.declared.script.Script.{Script}
use Rattle.hb_base.specs.Numbers.{Numbers}
use Rattle.hb_wire.specs.declared.post.Post.{Post}
use Rattle.hb_rules.proofs.Lists.{Contains-cases, Contains-first, Contains-later}
use Rattle.step_driver.specs.declared.envelope.Envelope.{Envelope}
use Rattle.step_driver.specs.Waiting.{Waiting, envelope, count_waiting, next_place, next_in, next_of, rest_in, after_next}
use Rattle.step_driver.specs.Places.{Spot}
use Rattle.step_driver.specs.Delivering.{IsOut, IsSupplied, Always, But}

-- what stays where one is taken out
Contains-remove : {A : Type 0} (xs : List A) (i : ℕ) (x y : A) → slice_get xs i ≡ Some x → Contains xs y → Contains (remove xs i) y ⊎ (y ≡ x)
Contains-remove [] i x y stands there = absurd (cc (stands))
Contains-remove (z ∷ zs) zero x y stands there = Contains-cases z zs y there (Contains zs y ⊎ (y ≡ x))
    (λ is. let same : z ≡ x = cc in inr (sym is ∙ same)) (λ later. inl later)
Contains-remove (z ∷ zs) (suc i) x y stands there = Contains-cases z zs y there (Contains (z ∷ remove zs i) y ⊎ (y ≡ x))
    (λ is. inl (subst (λ w. Contains (w ∷ remove zs i) y) (sym is) (Contains-first y (remove zs i))))
    (λ later. elim (Contains-remove zs i x y stands later) [ inl stays ↦ inl (Contains-later z (remove zs i) y stays) | inr is ↦ inr is ])

-- an envelope was taken out of what waits
pub record IsTakenOut (taken : Envelope) (old new : Waiting) : Type 0 where
  pub kept : (k p : ℕ) → IsOut old k p → IsOut new k p ⊎ (envelope k p ≡ taken)
  pub less : count_waiting new + 1 ≡ count_waiting old

taken_in : (order : Order) (words : ChaCha) (prompt late : List Envelope) (taken : Envelope) → next_in order words prompt late ≡ Some taken
    → IsTakenOut taken (record { prompt = prompt; late = late }) (rest_in order words prompt late)
taken_in order words [] late taken is = record {
  kept = λ k p. kept k p;
  less = omega (arith, length-remove late (next_place order words (length late)) (slice_get_within late (next_place order words (length late)) taken is));
}
  where
    kept : (k p : ℕ) → IsOut (record { prompt = []; late = late }) k p → IsOut (rest_in order words [] late) k p ⊎ (envelope k p ≡ taken)
    kept k p (inl out) = inl (inl out)
    kept k p (inr out) = elim (Contains-remove late (next_place order words (length late)) taken (envelope k p) is out) [ inl stays ↦ inl (inr stays) | inr same ↦ inr same ]
taken_in order words (e ∷ es) late taken is = record {
  kept = λ k p. kept k p;
  less =
      omega (arith, length-remove (e ∷ es) (next_place order words (length (e ∷ es))) (slice_get_within (e ∷ es) (next_place order words (length (e ∷ es))) taken is));
}
  where
    kept : (k p : ℕ) → IsOut (record { prompt = e ∷ es; late = late }) k p → IsOut (rest_in order words (e ∷ es) late) k p ⊎ (envelope k p ≡ taken)
    kept k p (inl out) = elim (Contains-remove (e ∷ es) (next_place order words (length (e ∷ es))) taken (envelope k p) is out) [ inl stays ↦ inl (inl stays) | inr same ↦ inr same ]
    kept k p (inr out) = inl (inr out)

pub taken_out : (order : Order) (words : ChaCha) (old new : Waiting) (taken : Envelope) → Some taken ≡ next_of order words old → new ≡ after_next order words old → IsTakenOut taken old new
taken_out order words old new taken is rest =
    subst (λ (w : Waiting). IsTakenOut taken old w) (sym rest) (taken_in order words old.prompt old.late taken (sym is))

-- what was supplied still is, but for the envelope that was taken
pub IsSupplied-taken : (c : Numbers) (s : Script) (posts : List Post) (all : List Spot) (old new : Waiting) (taken : Envelope) → IsTakenOut taken old new
    → IsSupplied Always c s posts all old → IsSupplied (But taken.place taken.post) c s posts all new
IsSupplied-taken c s posts all old new taken out supplied = record {
  each = λ p k pl other stands running received. elim (supplied.each p k pl tt stands running received) [
    | inl had ↦ inl had
    | inr waits ↦ elim (out.kept k p waits) [
      | inl stays ↦ inr stays
      | inr same ↦ absurd (elim other [
        | inl place ↦ place (ap (λ (e : Envelope). e.place) same)
        | inr post ↦ post (ap (λ (e : Envelope). e.post) same)
      ])
    ]
  ];
}
