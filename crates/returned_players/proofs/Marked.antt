-- Actors that are marked end, and so their ends tell.
use Rattle.std.proofs.Common.{◌≡◌, ℕ, ◌<◌, Bool, true, false, ◌&&◌, if◌then◌else◌, List, length, map, get_or, refl, sym, ap, ◌∙◌, subst, arith}
use Rattle.std.specs.Prelude.{All}
use Rattle.std.specs.List.{AllZip}
use Rattle.std.proofs.lemmas.Bool.{false≢true}
use Rattle.std.proofs.lemmas.List.{get_or-map, length-map}
use Rattle.std.proofs.lemmas.List.Elements.{All-map, AllZip-get_or, length_all_zip}
use Rattle.hb_base.specs.Numbers.{Numbers}
use Rattle.hb_wire.specs.declared.post.Post.{Post}
use Rattle.hb_rules.specs.declared.report.End.{End}
use Rattle.hb_rules.specs.declared.report.Fate.{Fate}
use Rattle.hb_rules.specs.declared.report.Fate.TheVariants.{Memory}
use Rattle.hb_rules.specs.Actor.{ActorView}
use Rattle.hb_rules.specs.Report.{is_running_fate}
use Rattle.actor_cell.specs.Marks.{is_marked}
use Rattle.step_driver.specs.declared.player.Player.{Player}
use Rattle.step_driver.specs.Places.{PlayerView}
use Rattle.step_driver.specs.Running.{EndView, end_view, end_at}
use Rattle.last_deliveries.specs.Settling.{player_of, players_of, HasGoneOn}
use Rattle.returned_players.specs.Marking.{ended_by, EndsIfMarked}

abbrev PlayerEnds : List (List Bool) → PlayerView → Type 0
PlayerEnds marks p = EndsIfMarked marks p.seat.node p.seat.actor p.fate

abbrev ViewEnds : List (List Bool) → EndView → Type 0
ViewEnds marks e = EndsIfMarked marks e.node e.actor e.fate

one_ended : (runs marked : Bool) (fate : Fate) → is_running_fate fate ≡ runs → marked ≡ true → is_running_fate (if runs && marked then Memory else fate) ≡ false
one_ended true true fate is marks = refl
one_ended true false fate is marks = absurd (false≢true marks)
one_ended false marked fate is marks = is

module _ {A S : Type 0} (config : S → Numbers) (node actor : S → ℕ) (seen : S → List Post) (seat : A → S) (view : A → ActorView) (marks : List (List Bool)) where
  pub marked_ended : (players : List (Player A)) → All (PlayerEnds marks) (players_of config node actor seen seat view (map (ended_by node actor seat marks) players))
  marked_ended players =
      All-map (PlayerEnds marks) (player_of config node actor seen seat view) (map (ended_by node actor seat marks) players)
      (All-map (λ (p : Player A). PlayerEnds marks (player_of config node actor seen seat view p)) (ended_by node actor seat marks) players (λ k d within.
      let p = get_or players k d in
      one_ended (is_running_fate p.fate) (is_marked marks (node (seat p.actor)) (actor (seat p.actor))) p.fate refl))

-- one that had ended still has, when they have gone on
pub marked_gone_on : (marks : List (List Bool)) (old new : List PlayerView) → AllZip HasGoneOn old new → All (PlayerEnds marks) old → All (PlayerEnds marks) new
marked_gone_on marks old new went ended = λ k d within marked.
    let few : k < length old = omega (arith, within, length_all_zip HasGoneOn old new went) in
    let gone : HasGoneOn (get_or old k d) (get_or new k d) = AllZip-get_or HasGoneOn old new k d d went few in
    let same : is_marked marks (get_or new k d).seat.node (get_or new k d).seat.actor ≡ is_marked marks (get_or old k d).seat.node (get_or old k d).seat.actor =
    ap (λ (i : ℕ). is_marked marks i (get_or new k d).seat.actor) gone.seat.node
    ∙ ap (λ (x : ℕ). is_marked marks (get_or old k d).seat.node x) gone.seat.actor in
    let was : is_running_fate (get_or old k d).fate ≡ false = ended k d few (sym same ∙ marked) in
    ap is_running_fate (gone.ended was).1 ∙ was

-- what their ends tell
pub marked_told : (marks : List (List Bool)) (players : List PlayerView) (ends : List End) → map end_view ends ≡ map end_at players → All (PlayerEnds marks) players
    → All (λ (e : End). EndsIfMarked marks e.node e.actor e.fate) ends
marked_told marks players ends told ended = λ k d within.
    let views : All (ViewEnds marks) (map end_view ends) =
    subst (λ (views : List EndView). All (ViewEnds marks) views) (sym told) (All-map (ViewEnds marks) end_at players ended) in
    subst (ViewEnds marks) (get_or-map end_view ends k d (end_view d) within) (views k (end_view d) (omega (arith, within, length-map ends end_view)))
