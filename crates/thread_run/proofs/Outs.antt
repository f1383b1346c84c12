-- What comes out of the locks of a run, for its end. The letters: a run of script s; A are actors over a book whose seats are S.
use Rattle.std.proofs.Common.{ℕ, List, All}
use Rattle.std.proofs.lemmas.List.Elements.{All-map, All-weaker}
use Rattle.hb_base.specs.Numbers.{Numbers}
use Rattle.hb_wire.specs.declared.post.Post.{Post}
use Rattle.net_script.specs.declared.script.Script.{Script}
use Rattle.hb_rules.specs.Actor.{ActorView}
use Rattle.step_driver.specs.declared.player.Player.{Player}
use Rattle.step_driver.specs.Places.{seat_at}
use Rattle.last_deliveries.specs.Settling.{player_of, seats_at}
use Rattle.run_closing.specs.Returning.{IsBack, IsLiarBack}
use Rattle.thread_team.specs.Returning.{IsOut, IsLiarOut}

module _ {A S : Type 0} (config : S → Numbers) (node actor : S → ℕ) (seen : S → List Post) (seat : A → S) (view : A → ActorView) where
  pub players_back : (knows : S → Type 0) (s : Script) (ps : List (Player A)) → All (IsOut knows config node actor seen seat view s) ps
      → All (λ (p : Player A). IsBack s (player_of config node actor seen seat view p)) ps
  players_back knows s ps out =
      All-weaker (IsOut knows config node actor seen seat view s) (λ (p : Player A). IsBack s (player_of config node actor seen seat view p))
      (λ p is. record { config = is.of_run; node = is.known.0; actor = is.known.1; player = is.player }) ps out

  pub players_known : (knows : S → Type 0) (s : Script) (ps : List (Player A)) → All (IsOut knows config node actor seen seat view s) ps
      → All (λ (p : Player A). knows (seat p.actor)) ps
  players_known knows s ps out = All-weaker (IsOut knows config node actor seen seat view s) (λ (p : Player A). knows (seat p.actor)) (λ p is. is.of_book) ps out

  pub liars_back : (knows : S → Type 0) (s : Script) (ls : List S) → All (IsLiarOut knows config node actor seen s) ls → All (IsLiarBack s) (seats_at config node actor seen ls)
  liars_back knows s ls out =
      All-map (IsLiarBack s) (seat_at config node actor seen) ls
      (All-weaker (IsLiarOut knows config node actor seen s) (λ (l : S). IsLiarBack s (seat_at config node actor seen l))
      (λ l is. record { config = is.of_run; node = is.known; lies = is.lies; actor = is.whole; few = is.few }) ls out)

  pub liars_known : (knows : S → Type 0) (s : Script) (ls : List S) → All (IsLiarOut knows config node actor seen s) ls → All knows ls
  liars_known knows s ls out = All-weaker (IsLiarOut knows config node actor seen s) knows (λ l is. is.of_book) ls out
