-- Who is at a place that was read.
use Rattle.std.proofs.Common.{◌≡◌, ℕ, ◌<◌, List, length, Some, sym, ap, ◌∙◌, subst, arith, slice_get, get_or}
use Rattle.std.proofs.lemmas.List.{length-map}
use Rattle.std.proofs.lemmas.Option.{slice_get-get_or}
use Rattle.std.specs.Prelude.{filter_map}
use Rattle.hb_rules.specs.Actor.{ActorView}
use Rattle.hb_rules.specs.Book.{SeatView}
use Rattle.step_driver.specs.declared.place.Place.{Place}
use Rattle.step_driver.specs.declared.place.Place.TheVariants.{Correct, Lying}
use Rattle.step_driver.specs.declared.player.Player.{Player}
use Rattle.step_driver.specs.declared.hired.Hired.{Hired}
use Rattle.step_driver.specs.Places.{correct, lying, spot_of, spots, player_view, hired_view}
use Rattle.step_driver.specs.Running.{EndView, end_of}
use Rattle.step_driver.proofs.Stages.{slice_get-map}

-- an element that was read is the spot at its place
pub spot_at : {A L : Type 0} (seat : A → SeatView) (view : A → ActorView) (places : List (Place A L)) (p : ℕ) (place : Place A L) → p < length places
    → place ≡ get_or places p place → slice_get (spots seat view places) p ≡ Some (spot_of seat view place)
spot_at seat view places p place within is =
    slice_get-map (spot_of seat view) places p place (slice_get-get_or places p place within ∙ ap (λ (o : Place _ _). Some o) (sym is))

-- as many spots as places
pub spots_count : {A L : Type 0} (seat : A → SeatView) (view : A → ActorView) (places : List (Place A L)) → length (spots seat view places) ≡ length places
spots_count seat view places = length-map places (spot_of seat view)

pub correct_at : {A L : Type 0} (seat : A → SeatView) (view : A → ActorView) (places : List (Place A L)) (p : ℕ) (place : Place A L) (player : Player A) → p < length (spots seat view places)
    → place ≡ get_or places p place → place ≡ Correct player → slice_get (spots seat view places) p ≡ Some (correct (player_view seat view player))
correct_at {A} {L} seat view places p place player within is kind =
    spot_at seat view places p place (omega (arith, within, spots_count seat view places)) is ∙ ap (λ (o : Place A L). Some (spot_of seat view o)) kind

pub lying_at : {A L : Type 0} (seat : A → SeatView) (view : A → ActorView) (places : List (Place A L)) (p : ℕ) (place : Place A L) (hired : Hired L) → p < length (spots seat view places)
    → place ≡ get_or places p place → place ≡ Lying hired → slice_get (spots seat view places) p ≡ Some (lying (hired_view hired))
lying_at {A} {L} seat view places p place hired within is kind =
    spot_at seat view places p place (omega (arith, within, spots_count seat view places)) is ∙ ap (λ (o : Place A L). Some (spot_of seat view o)) kind

pub ends_lent : {A L : Type 0} (seat : A → SeatView) (view : A → ActorView) (ps qs : List (Place A L)) (ends : List EndView) → ps ≡ qs → ends ≡ filter_map end_of (spots seat view ps)
    → ends ≡ filter_map end_of (spots seat view qs)
ends_lent {A} {L} seat view ps qs ends same is = subst (λ (rs : List (Place A L)). ends ≡ filter_map end_of (spots seat view rs)) same is
