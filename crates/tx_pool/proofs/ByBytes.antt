-- A map whose keys are owned bytes, looked up by bytes.
use Rattle.std.proofs.Common.{◌≡◌, ℕ, Bool, true, false, cond, List, Option, sym, ◌∙◌, subst, bytes_eq, ⊎_elim}
use Rattle.std.specs.declared.cmp.Ordering.{Ordering}
use Rattle.std.specs.Ordering.{nat_cmp, is_eq, eq_by_cmp}
use Rattle.std.specs.Cmp.{eq_by_cmp_equiv}
use Rattle.std.specs.Cmp.Lexicographic.{slice_cmp, nat_list_cmp_total, nat_list_eq_equiv}
use Rattle.std.specs.BTreeMap.{BTreeMap, is_at, get_by, UpdatesBy}
use Rattle.std.specs.Map.{lookup, KeepsOthers, IsKeyTest, AreApart}
use Rattle.std.specs.declared.vec.Vec.{Vec}
use Rattle.std.proofs.lemmas.Bool.{cases_Bool, cond-true, cond-false}
use Rattle.std.proofs.lemmas.Map.Text.{is_eq-slice_cmp}
use Rattle.std.proofs.lemmas.Slice.Eq.{bytes_eq-Decides}
use Rattle.tx_pool.specs.Standings.{query_cmp}

-- the order of owned bytes
abbrev pub vec_cmp : {A : Type 0} → Vec ℕ A → Vec ℕ A → Ordering
vec_cmp x y = slice_cmp nat_cmp x.items y.items

others : {K X : Type 0} (eq : K → K → Bool) (test : K → Bool) (old new : List (K × X)) → KeepsOthers eq test old new
    → (other : K → Bool) → IsKeyTest eq other → AreApart test other → lookup other new ≡ lookup other old
unfolding KeepsOthers
others eq test old new keeps = keeps

apart : (bs cs ks : List ℕ) → bytes_eq bs cs ≡ false → is_eq (slice_cmp nat_cmp bs ks) ≡ true → is_eq (slice_cmp nat_cmp cs ks) ≡ false
apart bs cs ks differ same =
    is_eq-slice_cmp cs ks
    ∙ nat_list_eq_equiv.symm cs ks
    ∙ sym (nat_list_eq_equiv.congr bs ks cs (sym (is_eq-slice_cmp bs ks) ∙ same))
    ∙ differ

-- what a change at the bytes bs leaves at any bytes
pub lookup-updated : {A X : Type 0} (bs : List ℕ) (m n : BTreeMap (Vec ℕ A) X) (w : Option X) → UpdatesBy vec_cmp (query_cmp bs) m n w
    → (cs : List ℕ) → get_by (query_cmp cs) n ≡ cond (bytes_eq bs cs) w (get_by (query_cmp cs) m)
lookup-updated {A} {X} bs m n w updates cs =
    ⊎_elim
    (λ same. subst (λ (l : List ℕ). get_by (query_cmp l) n ≡ w) ((bytes_eq-Decides bs cs).0 same) updates.1
    ∙ sym (cond-true (bytes_eq bs cs) w (get_by (query_cmp cs) m) same))
    (λ differ. others (eq_by_cmp vec_cmp) (is_at (query_cmp bs)) m.entries n.entries updates.3 (is_at (query_cmp cs))
    (λ x y. (eq_by_cmp_equiv nat_list_cmp_total).congr cs x.items y.items) (λ k. apart bs cs k.items differ)
    ∙ sym (cond-false (bytes_eq bs cs) w (get_by (query_cmp cs) m) differ))
    (cases_Bool (bytes_eq bs cs))
