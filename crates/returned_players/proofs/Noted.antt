-- What stays when the noted actors have ended. The letters: actors A over a book whose seats are S.
use Rattle.std.proofs.Common.{◌≡◌, ℕ, ◌<◌, ◌≤◌, Bool, true, false, ◌&&◌, if◌then◌else◌, List, length, map, get_or, ap, arith}
use Rattle.std.specs.Prelude.{All}
use Rattle.std.specs.List.Sorted.{IsNonDecreasingBy}
use Rattle.std.proofs.lemmas.List.{get_or-map, length-map}
use Rattle.std.proofs.lemmas.List.Elements.{All-map}
use Rattle.hb_rules.specs.declared.report.Fate.TheVariants.{Memory}
use Rattle.hb_rules.specs.Report.{is_running_fate}
use Rattle.actor_cell.specs.Marks.{is_marked}
use Rattle.step_driver.specs.declared.player.Player.{Player}
use Rattle.returned_players.specs.Marking.{ended_by}
use Rattle.returned_players.specs.Ordering.{place_number}

ended_if : {A : Type 0} (P : Player A → Type 0) → ((p : Player A) → P p → P (record p { fate = Memory })) → (ends : Bool) (p : Player A) → P p
    → P (record p { fate = if ends then Memory else p.fate })
ended_if P memory true p is = memory p is
ended_if P memory false p is = is

module _ {A S : Type 0} (node actor : S → ℕ) (seat : A → S) (marks : List (List Bool)) where
  -- what an end for want of memory keeps
  pub All-ended : (P : Player A → Type 0) → ((p : Player A) → P p → P (record p { fate = Memory })) → (players : List (Player A)) → All P players
      → All P (map (ended_by node actor seat marks) players)
  All-ended P memory players all =
      All-map P (ended_by node actor seat marks) players (λ k d within.
      let p = get_or players k d in
      ended_if P memory (is_running_fate p.fate && is_marked marks (node (seat p.actor)) (actor (seat p.actor))) p (all k d within))

  -- the order
  pub order_ended : (players : List (Player A)) → IsNonDecreasingBy (place_number node actor seat) players
      → IsNonDecreasingBy (place_number node actor seat) (map (ended_by node actor seat marks) players)
  order_ended players order = λ i j d before within.
      let ended : Player A → Player A = ended_by node actor seat marks in
      let number : Player A → ℕ = place_number node actor seat in
      let few : j < length players = omega (arith, within, length-map players ended) in
      let one : number (get_or (map ended players) i d) ≡ number (get_or players i d) =
      ap number (get_or-map ended players i d d (omega (arith, before, few))) in
      let other : number (get_or (map ended players) j d) ≡ number (get_or players j d) = ap number (get_or-map ended players j d d few) in
      let rises : number (get_or players i d) ≤ number (get_or players j d) = order i j d before few in
      omega (arith, one, other, rises)
