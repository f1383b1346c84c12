-- What is known of what comes out of a lock. B are handles of books, A actors, S seats.
use Rattle.std.proofs.Common.{◌≡◌, ◌<◌, ◌≤◌, ℕ, true, List, count_by, sym, ap, ◌∙◌, subst, arith}
use Rattle.atomic_table.specs.Seated.{TableId}
use Rattle.hb_base.specs.Numbers.{Numbers}
use Rattle.hb_base.specs.NodeSet.{is_in}
use Rattle.hb_base.specs.Limits.{most_lies}
use Rattle.hb_wire.specs.declared.post.Post.{Post}
use Rattle.net_script.specs.declared.script.Script.{Script}
use Rattle.hb_rules.specs.Actor.{ActorView}
use Rattle.hb_rules.specs.Book.{SeatView}
use Rattle.step_driver.specs.declared.player.Player.{Player}
use Rattle.step_driver.specs.Places.{player_at, seat_at}
use Rattle.step_driver.specs.Delivering.{IsPlayer, is_from}
use Rattle.actor_cell.specs.Held.{IsHeld}
use Rattle.actor_cell.specs.Mail.{MailView}
use Rattle.liar_cell.specs.HeldLiar.{LiarView, IsHeldLiar}
use Rattle.thread_team.specs.Returning.{IsOut, IsLiarOut}

module _ {B S : Type 0} (knows : B → S → Type 0) (config : S → Numbers) (node actor : S → ℕ) (seen : S → List Post) (is_script : Script → Type 0) (run : TableId) (name : B → TableId)
    (one : (s t : Script) → is_script s → is_script t → s ≡ t) (by_name : (b c : B) (t : S) → name c ≡ name b → knows b t → knows c t)
    (s : Script) (b : B) (here : is_script s) (named : name b ≡ run) where
  pub is_out : {A : Type 0} (seat : A → S) (view : A → ActorView) (p : Player A) (held : B) (script : Script) (mail : MailView)
      → IsHeld knows is_script run (seat p.actor) held (name held) script mail (player_at config node actor seen seat view p.actor p.fate)
      → IsOut (knows b) config node actor seen seat view s p
  is_out seat view p held script mail is =
      let same : script ≡ s = one script s is.script here in
      record {
        of_book = by_name held b (seat p.actor) (named ∙ sym is.book) is.of_book;
        of_run = is.config ∙ ap (λ (t : Script). t.config) same;
        known = subst (λ (t : Script). (node (seat p.actor) < t.config.n) × (actor (seat p.actor) ≤ t.config.n)) same is.known;
        player = subst (λ (t : Script). IsPlayer t.config t true (player_at config node actor seen seat view p.actor p.fate)) same is.player;
      }

  pub is_liar_out : (seat : S) (h : LiarView B) → knows h.book seat → seat_at config node actor seen seat ≡ h.seat → IsHeldLiar is_script run name h
      → IsLiarOut (knows b) config node actor seen s seat
  is_liar_out seat h of_book at is =
      let same : h.script ≡ s = one h.script s is.script here in
      let few : count_by (is_from h.seat.node) h.seat.seen ≤ most_lies = omega (arith, is.said, is.few) in
      record {
        of_book = by_name h.book b seat (named ∙ sym is.book) of_book;
        of_run = ap (λ (v : SeatView). v.config) at ∙ is.config ∙ ap (λ (t : Script). t.config) same;
        known = subst (λ (t : Script). node seat < t.config.n) same (subst (λ (v : SeatView). v.node < h.script.config.n) (sym at) is.known);
        lies = subst (λ (t : Script). is_in t.config.liars (node seat) ≡ true) same (subst (λ (v : SeatView). is_in h.script.config.liars v.node ≡ true) (sym at) is.liar);
        whole = ap (λ (v : SeatView). v.actor) at ∙ is.actor;
        few = subst (λ (v : SeatView). count_by (is_from v.node) v.seen ≤ most_lies) (sym at) few;
      }
