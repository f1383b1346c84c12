-- Actors that came back from the threads of a run of script s, until its end.
use Rattle.std.proofs.Common.{ℕ, ◌<◌, Bool, List, length, map, get_or, arith}
use Rattle.std.specs.Prelude.{All}
use Rattle.std.specs.List.{AllPairs, AllZip}
use Rattle.std.specs.List.Sorted.{IsNonDecreasingBy}
use Rattle.std.proofs.lemmas.List.Elements.{All-map, AllZip-get_or, length_all_zip}
use Rattle.hb_base.specs.Numbers.{Numbers}
use Rattle.hb_wire.specs.declared.post.Post.{Post}
use Rattle.net_script.specs.declared.script.Script.{Script}
use Rattle.hb_rules.specs.declared.report.Fate.TheVariants.{Memory}
use Rattle.hb_rules.specs.Actor.{ActorView}
use Rattle.step_driver.specs.declared.player.Player.{Player}
use Rattle.step_driver.specs.Places.{PlayerView}
use Rattle.last_deliveries.specs.Settling.{player_of, players_of, IsOfRun, HasGoneOn}
use Rattle.last_deliveries.proofs.Players.{IsOfRun-memory}
use Rattle.run_closing.specs.Returning.{IsBack, IsNotAfter}
use Rattle.run_closing.proofs.Among.{pairs_map}
use Rattle.returned_players.specs.Marking.{ended_by}
use Rattle.returned_players.specs.Ordering.{place_number}
use Rattle.returned_players.proofs.Noted.{All-ended}

pub IsBack-of_run : (s : Script) (p : PlayerView) → IsBack s p → IsOfRun s p
IsBack-of_run s p is = record { config = is.config; player = is.player }

-- want of memory needs no cause
pub IsBack-memory : (s : Script) (p : PlayerView) → IsBack s p → IsBack s (record p { fate = Memory })
IsBack-memory s p is = record {
  config = is.config;
  node = is.node;
  actor = is.actor;
  player = (IsOfRun-memory s p (IsBack-of_run s p is)).player;
}

module _ {A S : Type 0} (config : S → Numbers) (node actor : S → ℕ) (seen : S → List Post) (seat : A → S) (view : A → ActorView) where
  -- the noted ones have ended
  pub back_ended : (s : Script) (marks : List (List Bool)) (players : List (Player A)) → All (λ p. IsBack s (player_of config node actor seen seat view p)) players
      → All (IsBack s) (players_of config node actor seen seat view (map (ended_by node actor seat marks) players))
  back_ended s marks players back =
      All-map (IsBack s) (player_of config node actor seen seat view) (map (ended_by node actor seat marks) players)
      (All-ended node actor seat marks (λ (p : Player A). IsBack s (player_of config node actor seen seat view p))
      (λ p is. IsBack-memory s (player_of config node actor seen seat view p) is) players back)

  -- by the numbers of their seats no one is after one behind it
  pub views_in_order : (players : List (Player A)) → IsNonDecreasingBy (place_number node actor seat) players
      → AllPairs IsNotAfter (players_of config node actor seen seat view players)
  views_in_order players order =
      pairs_map IsNotAfter (player_of config node actor seen seat view) players (λ i j d before within. order i j d (omega (arith, before)) within)

-- ---- when they have gone on

pub order_gone_on : (old new : List PlayerView) → AllZip HasGoneOn old new → AllPairs IsNotAfter old → AllPairs IsNotAfter new
order_gone_on old new went order = λ i j d before within.
    let few : j < length old = omega (arith, within, length_all_zip HasGoneOn old new went) in
    let one : HasGoneOn (get_or old i d) (get_or new i d) = AllZip-get_or HasGoneOn old new i d d went (omega (arith, before, few)) in
    let other : HasGoneOn (get_or old j d) (get_or new j d) = AllZip-get_or HasGoneOn old new j d d went few in
    omega (arith, one.seat.node, one.seat.actor, other.seat.node, other.seat.actor, order i j d before few)

pub back_gone_on : (s : Script) (old new : List PlayerView) → AllZip HasGoneOn old new → All (IsBack s) old → All (IsOfRun s) new → All (IsBack s) new
back_gone_on s old new went back of_run = λ k d within.
    let few : k < length old = omega (arith, within, length_all_zip HasGoneOn old new went) in
    let same = (AllZip-get_or HasGoneOn old new k d d went few).seat in
    let was : IsBack s (get_or old k d) = back k d few in
    let is : IsOfRun s (get_or new k d) = of_run k d within in
    record { config = is.config; node = omega (arith, same.node, was.node); actor = omega (arith, same.actor, was.actor); player = is.player }
