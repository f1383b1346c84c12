-- The ends of the actors at the front of a list.
use Rattle.std.proofs.Common.{◌≡◌, ℕ, ◌+◌, ◌<◌, List, [], ◌∷◌, ◌++◌, length, map, take, get_or, sym, ap, ap₂, ◌∙◌, subst}
use Rattle.std.specs.Prelude.{All}
use Rattle.std.proofs.lemmas.List.{map_more, map_push}
use Rattle.std.proofs.lemmas.List.Elements.{All-push}
use Rattle.hb_rules.specs.declared.report.End.{End}
use Rattle.step_driver.specs.Places.{PlayerView}
use Rattle.step_driver.specs.Running.{EndView, end_view, end_at, IsKept}

front_more : {X : Type 0} (view : X → PlayerView) (xs : List X) (n : ℕ) (x : X) → n < length xs → x ≡ get_or xs n x
    → map view (take (n + 1) xs) ≡ map view (take n xs) ++ view x ∷ []
front_more {X} view xs n x within is = map_more view xs n x within ∙ ap (λ (y : X). map view (take n xs) ++ view y ∷ []) (sym is)

pub ends_more : {X : Type 0} (view : X → PlayerView) (xs : List X) (n : ℕ) (x : X) (ends new : List End) (end : End) → n < length xs → x ≡ get_or xs n x
    → new ≡ ends ++ end ∷ [] → map end_view ends ≡ map end_at (map view (take n xs)) → end_view end ≡ end_at (view x)
    → map end_view new ≡ map end_at (map view (take (n + 1) xs))
ends_more view xs n x ends new end within is made was here =
    ap (λ (es : List End). map end_view es) made
    ∙ map_push end_view ends end
    ∙ ap₂ (λ (es : List EndView) (e : EndView). es ++ e ∷ []) was here
    ∙ sym (map_push end_at (map view (take n xs)) (view x))
    ∙ sym (ap (λ (players : List PlayerView). map end_at players) (front_more view xs n x within is))

pub kept_more : {X : Type 0} (view : X → PlayerView) (xs : List X) (n : ℕ) (x : X) → n < length xs → x ≡ get_or xs n x
    → All IsKept (map view (take n xs)) → IsKept (view x) → All IsKept (map view (take (n + 1) xs))
kept_more view xs n x within is was here =
    subst (λ (players : List PlayerView). All IsKept players) (sym (front_more view xs n x within is)) (All-push IsKept (map view (take n xs)) (view x) was here)
