-- The places of votes: two votes have one place where the one excludes the other, and Vals have one root place where they are
-- of one epoch.
use Rattle.std.proofs.Common.{◌≡◌, ℕ, Bool, true, false, ◌==◌, ◌&&◌, not, bytes_eq, if◌then◌else◌, List, [], Option, None, Some, refl, sym, ap, ◌∙◌}
use Rattle.std.specs.Option.{is_some, option_map}
use Rattle.std.proofs.lemmas.Bool.{and_parts, eqb-true, eq-eqb}
use Rattle.std.proofs.lemmas.Option.{same_Some}
use Rattle.hb_wire.specs.declared.vote.Vote.{Vote}
use Rattle.hb_wire.specs.declared.vote.Vote.TheVariants.{Val, Echo, Ready, Delivered, Est, Bval, Aux, Conf, Pick, Coin, Decided, Propose, NoMore, Closed}
use Rattle.accuse.specs.declared.place.Kind.{Kind}
use Rattle.accuse.specs.declared.place.Kind.TheVariants as kinds
use Rattle.accuse.specs.declared.place.Place.{Place}
use Rattle.accuse.specs.Conflicts.{excludes, show_two_roots}
use Rattle.accuse.specs.Places.{place, place_of, root_place}

-- both have this place
pub record HaveOne (one other : Option Place) : Type 0 where
  pub place : Place
  pub first : one ≡ Some place
  pub second : other ≡ Some place

pub if_some : {A : Type 0} (b : Bool) (x : A) → is_some (if b then Some x else None) ≡ true → b ≡ true
if_some true x e = refl
if_some false x e = absurd (cc (e))

-- the places of epochs and rounds that are the same
of_epoch : (x : ℕ) (kind : Kind) (d e : ℕ) → (d == e) ≡ true → HaveOne (Some (place x kind e 0 0)) (Some (place x kind d 0 0))
of_epoch x kind d e same = record {
  place = place x kind e 0 0;
  first = refl;
  second = ap (λ (k : ℕ). Some (place x kind k 0 0)) (eqb-true d e same);
}

of_round : (x : ℕ) (kind : Kind) (d e s r : ℕ) → ((d == e) && (s == r)) ≡ true → HaveOne (Some (place x kind e r 0)) (Some (place x kind d s 0))
of_round x kind d e s r same =
    let parts = and_parts (d == e) (s == r) same in
    let epochs : d ≡ e = eqb-true d e parts.0 in
    let rounds : s ≡ r = eqb-true s r parts.1 in
    record { place = place x kind e r 0; first = refl; second = λ k. Some (place x kind (epochs k) (rounds k) 0) }

of_target : (x d e t m : ℕ) → ((d == e) && (t == m)) ≡ true → HaveOne (Some (place x kinds.Val e 0 m)) (Some (place x kinds.Val d 0 t))
of_target x d e t m same =
    let parts = and_parts (d == e) (t == m) same in
    let epochs : d ≡ e = eqb-true d e parts.0 in
    let targets : t ≡ m = eqb-true t m parts.1 in
    record { place = place x kinds.Val e 0 m; first = refl; second = λ k. Some (place x kinds.Val (epochs k) 0 (targets k)) }

-- votes of which the one excludes the other have one place
pub share_place : (x : ℕ) (v w : Vote) → excludes v w ≡ true → HaveOne (place_of x v) (place_of x w)
unfolding excludes place_of
share_place x (Val e m root shard branch) (Val d t other piece path) h = of_target x d e t m h
share_place x (Val e m root shard branch) w h = absurd (cc (h))
share_place x (Echo e root shard branch) (Echo d other piece path) h = of_epoch x kinds.Echo d e h
share_place x (Echo e root shard branch) w h = absurd (cc (h))
share_place x (Ready e root) (Ready d other) h = of_epoch x kinds.Ready d e (if_some (d == e) other h)
share_place x (Ready e root) w h = absurd (cc (h))
share_place x (Delivered e value) (Delivered d other) h = of_epoch x kinds.Delivered d e (if_some (d == e) other h)
share_place x (Delivered e value) w h = absurd (cc (h))
share_place x (Est e r bit) (Est d s other) h = of_round x kinds.Est d e s r h
share_place x (Est e r bit) w h = absurd (cc (h))
share_place x (Bval e r bit) w h = absurd (cc (h))
share_place x (Aux e r bit) (Aux d s other) h = of_round x kinds.Aux d e s r h
share_place x (Aux e r bit) w h = absurd (cc (h))
share_place x (Conf e r vals) (Conf d s others) h = of_round x kinds.Conf d e s r h
share_place x (Conf e r vals) w h = absurd (cc (h))
share_place x (Pick e r vals) (Pick d s others) h = of_round x kinds.Pick d e s r h
share_place x (Pick e r vals) w h = absurd (cc (h))
share_place x (Coin e r share salt branch) (Coin d s other sugar path) h = of_round x kinds.Coin d e s r h
share_place x (Coin e r share salt branch) w h = absurd (cc (h))
share_place x (Decided e bit) (Decided d other) h = of_epoch x kinds.Decided d e (if_some (d == e) other h)
share_place x (Decided e bit) w h = absurd (cc (h))
share_place x (Propose e value) (Propose d other) h = of_epoch x kinds.Propose d e (if_some (d == e) other h)
share_place x (Propose e value) w h = absurd (cc (h))
share_place x (NoMore e) w h = absurd (cc (h))
share_place x (Closed e list) (Closed d others) h = of_epoch x kinds.Closed d e (if_some (d == e) others h)
share_place x (Closed e list) w h = absurd (cc (h))

-- ---- the converse

-- the votes of two actors are of one, and the one excludes the other
pub record AreRivals (x y : ℕ) (v w : Vote) : Type 0 where
  pub actors : x ≡ y
  pub excluded : excludes v w ≡ true

abbrev kind_at : Option Place → Option Kind
kind_at o = option_map (λ p. p.kind) o

-- two places that are the same
one_place : (a b wanted : Place) → Some a ≡ Some wanted → Some b ≡ Some wanted → a ≡ b
one_place a b wanted e d = same_Some a b (e ∙ sym d)

same_epochs : (a b : Place) → a ≡ b → (b.epoch == a.epoch) ≡ true
same_epochs a b same = eq-eqb b.epoch a.epoch (ap (λ (p : Place). p.epoch) (sym same))

both_true : (a b : Bool) → a ≡ true → b ≡ true → (a && b) ≡ true
both_true a b e d = ap (λ (c : Bool). c && b) e ∙ d

same_rounds : (a b : Place) → a ≡ b → ((b.epoch == a.epoch) && (b.round == a.round)) ≡ true
same_rounds a b same =
    both_true (b.epoch == a.epoch) (b.round == a.round) (same_epochs a b same) (eq-eqb b.round a.round (ap (λ (p : Place). p.round) (sym same)))

same_targets : (a b : Place) → a ≡ b → ((b.epoch == a.epoch) && (b.target == a.target)) ≡ true
same_targets a b same =
    both_true (b.epoch == a.epoch) (b.target == a.target) (same_epochs a b same) (eq-eqb b.target a.target (ap (λ (p : Place). p.target) (sym same)))

if_true : {A : Type 0} (b : Bool) (x : A) → b ≡ true → is_some (if b then Some x else None) ≡ true
if_true b x e = ap (λ (c : Bool). is_some (if c then Some x else None)) e

-- votes of one place are of one actor, and the one excludes the other
pub are_rivals : (x y : ℕ) (v w : Vote) (wanted : Place) → place_of x v ≡ Some wanted → place_of y w ≡ Some wanted → AreRivals x y v w
unfolding excludes place_of
are_rivals x y (Val e m root shard branch) (Val d t other piece path) wanted h k =
    let same : place x kinds.Val e 0 m ≡ place y kinds.Val d 0 t = one_place (place x kinds.Val e 0 m) (place y kinds.Val d 0 t) wanted h k in
    record { actors = ap (λ (p : Place). p.actor) same; excluded = same_targets (place x kinds.Val e 0 m) (place y kinds.Val d 0 t) same }
are_rivals x y (Val e m root shard branch) w wanted h k = absurd (cc (ap kind_at (h ∙ sym k)))
are_rivals x y (Echo e root shard branch) (Echo d other piece path) wanted h k =
    let same : place x kinds.Echo e 0 0 ≡ place y kinds.Echo d 0 0 = one_place (place x kinds.Echo e 0 0) (place y kinds.Echo d 0 0) wanted h k in
    record { actors = ap (λ (p : Place). p.actor) same; excluded = same_epochs (place x kinds.Echo e 0 0) (place y kinds.Echo d 0 0) same }
are_rivals x y (Echo e root shard branch) w wanted h k = absurd (cc (ap kind_at (h ∙ sym k)))
are_rivals x y (Ready e root) (Ready d other) wanted h k =
    let same : place x kinds.Ready e 0 0 ≡ place y kinds.Ready d 0 0 = one_place (place x kinds.Ready e 0 0) (place y kinds.Ready d 0 0) wanted h k in
    record { actors = ap (λ (p : Place). p.actor) same; excluded = if_true (d == e) other (same_epochs (place x kinds.Ready e 0 0) (place y kinds.Ready d 0 0) same) }
are_rivals x y (Ready e root) w wanted h k = absurd (cc (ap kind_at (h ∙ sym k)))
are_rivals x y (Delivered e value) (Delivered d other) wanted h k =
    let same : place x kinds.Delivered e 0 0 ≡ place y kinds.Delivered d 0 0 = one_place (place x kinds.Delivered e 0 0) (place y kinds.Delivered d 0 0) wanted h k in
    record { actors = ap (λ (p : Place). p.actor) same; excluded = if_true (d == e) other (same_epochs (place x kinds.Delivered e 0 0) (place y kinds.Delivered d 0 0) same) }
are_rivals x y (Delivered e value) w wanted h k = absurd (cc (ap kind_at (h ∙ sym k)))
are_rivals x y (Est e r bit) (Est d s other) wanted h k =
    let same : place x kinds.Est e r 0 ≡ place y kinds.Est d s 0 = one_place (place x kinds.Est e r 0) (place y kinds.Est d s 0) wanted h k in
    record { actors = ap (λ (p : Place). p.actor) same; excluded = same_rounds (place x kinds.Est e r 0) (place y kinds.Est d s 0) same }
are_rivals x y (Est e r bit) w wanted h k = absurd (cc (ap kind_at (h ∙ sym k)))
are_rivals x y (Aux e r bit) (Aux d s other) wanted h k =
    let same : place x kinds.Aux e r 0 ≡ place y kinds.Aux d s 0 = one_place (place x kinds.Aux e r 0) (place y kinds.Aux d s 0) wanted h k in
    record { actors = ap (λ (p : Place). p.actor) same; excluded = same_rounds (place x kinds.Aux e r 0) (place y kinds.Aux d s 0) same }
are_rivals x y (Aux e r bit) w wanted h k = absurd (cc (ap kind_at (h ∙ sym k)))
are_rivals x y (Conf e r vals) (Conf d s others) wanted h k =
    let same : place x kinds.Conf e r 0 ≡ place y kinds.Conf d s 0 = one_place (place x kinds.Conf e r 0) (place y kinds.Conf d s 0) wanted h k in
    record { actors = ap (λ (p : Place). p.actor) same; excluded = same_rounds (place x kinds.Conf e r 0) (place y kinds.Conf d s 0) same }
are_rivals x y (Conf e r vals) w wanted h k = absurd (cc (ap kind_at (h ∙ sym k)))
are_rivals x y (Pick e r vals) (Pick d s others) wanted h k =
    let same : place x kinds.Pick e r 0 ≡ place y kinds.Pick d s 0 = one_place (place x kinds.Pick e r 0) (place y kinds.Pick d s 0) wanted h k in
    record { actors = ap (λ (p : Place). p.actor) same; excluded = same_rounds (place x kinds.Pick e r 0) (place y kinds.Pick d s 0) same }
are_rivals x y (Pick e r vals) w wanted h k = absurd (cc (ap kind_at (h ∙ sym k)))
are_rivals x y (Coin e r share salt branch) (Coin d s other sugar path) wanted h k =
    let same : place x kinds.Coin e r 0 ≡ place y kinds.Coin d s 0 = one_place (place x kinds.Coin e r 0) (place y kinds.Coin d s 0) wanted h k in
    record { actors = ap (λ (p : Place). p.actor) same; excluded = same_rounds (place x kinds.Coin e r 0) (place y kinds.Coin d s 0) same }
are_rivals x y (Coin e r share salt branch) w wanted h k = absurd (cc (ap kind_at (h ∙ sym k)))
are_rivals x y (Decided e bit) (Decided d other) wanted h k =
    let same : place x kinds.Decided e 0 0 ≡ place y kinds.Decided d 0 0 = one_place (place x kinds.Decided e 0 0) (place y kinds.Decided d 0 0) wanted h k in
    record { actors = ap (λ (p : Place). p.actor) same; excluded = if_true (d == e) other (same_epochs (place x kinds.Decided e 0 0) (place y kinds.Decided d 0 0) same) }
are_rivals x y (Decided e bit) w wanted h k = absurd (cc (ap kind_at (h ∙ sym k)))
are_rivals x y (Propose e value) (Propose d other) wanted h k =
    let same : place x kinds.Propose e 0 0 ≡ place y kinds.Propose d 0 0 = one_place (place x kinds.Propose e 0 0) (place y kinds.Propose d 0 0) wanted h k in
    record { actors = ap (λ (p : Place). p.actor) same; excluded = if_true (d == e) other (same_epochs (place x kinds.Propose e 0 0) (place y kinds.Propose d 0 0) same) }
are_rivals x y (Propose e value) w wanted h k = absurd (cc (ap kind_at (h ∙ sym k)))
are_rivals x y (Closed e list) (Closed d others) wanted h k =
    let same : place x kinds.Closed e 0 0 ≡ place y kinds.Closed d 0 0 = one_place (place x kinds.Closed e 0 0) (place y kinds.Closed d 0 0) wanted h k in
    record { actors = ap (λ (p : Place). p.actor) same; excluded = if_true (d == e) others (same_epochs (place x kinds.Closed e 0 0) (place y kinds.Closed d 0 0) same) }
are_rivals x y (Closed e list) w wanted h k = absurd (cc (ap kind_at (h ∙ sym k)))
are_rivals x y (Bval e r bit) w wanted h k = absurd (cc (h))
are_rivals x y (NoMore e) w wanted h k = absurd (cc (h))

-- ---- roots

-- the root that a Val shows
abbrev pub root_of : Vote → List ℕ
root_of (Val e m root shard branch) = root
root_of _ = []

-- Vals that show two roots have one root place
pub share_root : (x : ℕ) (v w : Vote) → show_two_roots v w ≡ true → HaveOne (root_place x v) (root_place x w)
unfolding show_two_roots root_place
share_root x (Val e m root shard branch) (Val d t other piece path) h =
    let parts = and_parts (e == d) (not (bytes_eq root other)) h in
    record {
      place = place x kinds.Root d 0 0;
      first = ap (λ (k : ℕ). Some (place x kinds.Root k 0 0)) (eqb-true e d parts.0);
      second = refl;
    }
share_root x (Val e m root shard branch) w h = absurd (cc (h))
share_root x v w h = absurd (cc (h))

-- what a Val excludes has its root place, and what excludes one is one
pub exclude_root : (x : ℕ) (w v : Vote) (wanted : Place) → excludes v w ≡ true → root_place x w ≡ Some wanted → root_place x v ≡ Some wanted
unfolding excludes root_place
exclude_root x (Val d t other piece path) (Val e m root shard branch) wanted h k =
    let parts = and_parts (d == e) (t == m) h in
    ap (λ (n : ℕ). Some (place x kinds.Root n 0 0)) (sym (eqb-true d e parts.0)) ∙ k
exclude_root x (Val d t other piece path) v wanted h k = absurd (cc (h))
exclude_root x w v wanted h k = absurd (cc (k))

-- Vals of one root place are of one actor, and show two roots where these differ
pub record ShareRoot (x y : ℕ) (v w : Vote) : Type 0 where
  pub actors : x ≡ y
  pub roots : show_two_roots v w ≡ not (bytes_eq (root_of v) (root_of w))

pub of_one_root : (x y : ℕ) (v w : Vote) (wanted : Place) → root_place x v ≡ Some wanted → root_place y w ≡ Some wanted → ShareRoot x y v w
unfolding show_two_roots root_place
of_one_root x y (Val e m root shard branch) (Val d t other piece path) wanted h k =
    let same : place x kinds.Root e 0 0 ≡ place y kinds.Root d 0 0 = one_place (place x kinds.Root e 0 0) (place y kinds.Root d 0 0) wanted h k in
    record {
      actors = ap (λ (p : Place). p.actor) same;
      roots = ap (λ (b : Bool). b && not (bytes_eq root other)) (eq-eqb e d (ap (λ (p : Place). p.epoch) same));
    }
of_one_root x y (Val e m root shard branch) w wanted h k = absurd (cc (k))
of_one_root x y v w wanted h k = absurd (cc (h))

-- no vote has the root place of another
root_kind : (x : ℕ) (v : Vote) (wanted : Place) → root_place x v ≡ Some wanted → kind_at (Some wanted) ≡ Some kinds.Root
unfolding root_place
root_kind x (Val e m root shard branch) wanted h = ap kind_at (sym h)
root_kind x v wanted h = absurd (cc (h))

pub not_root : (x y : ℕ) (v w : Vote) (wanted : Place) → root_place x v ≡ Some wanted → place_of y w ≡ Some wanted → ⊥
unfolding place_of
not_root x y v (Val e m root shard branch) wanted h k = cc (ap kind_at k ∙ root_kind x v wanted h)
not_root x y v (Echo e root shard branch) wanted h k = cc (ap kind_at k ∙ root_kind x v wanted h)
not_root x y v (Ready e root) wanted h k = cc (ap kind_at k ∙ root_kind x v wanted h)
not_root x y v (Delivered e value) wanted h k = cc (ap kind_at k ∙ root_kind x v wanted h)
not_root x y v (Est e r bit) wanted h k = cc (ap kind_at k ∙ root_kind x v wanted h)
not_root x y v (Aux e r bit) wanted h k = cc (ap kind_at k ∙ root_kind x v wanted h)
not_root x y v (Conf e r vals) wanted h k = cc (ap kind_at k ∙ root_kind x v wanted h)
not_root x y v (Pick e r vals) wanted h k = cc (ap kind_at k ∙ root_kind x v wanted h)
not_root x y v (Coin e r share salt branch) wanted h k = cc (ap kind_at k ∙ root_kind x v wanted h)
not_root x y v (Decided e bit) wanted h k = cc (ap kind_at k ∙ root_kind x v wanted h)
not_root x y v (Propose e value) wanted h k = cc (ap kind_at k ∙ root_kind x v wanted h)
not_root x y v (Closed e list) wanted h k = cc (ap kind_at k ∙ root_kind x v wanted h)
not_root x y v (Bval e r bit) wanted h k = cc (k)
not_root x y v (NoMore e) wanted h k = cc (k)
