-- What came back from the threads of a run of script s, when its end was made.
use Rattle.std.proofs.Common.{◌≡◌, ℕ, ◌+◌, ◌<◌, ◌≤◌, true, List, [], ◌∷◌, ◌++◌, length, map, get_or, refl, sym, ap, ◌∙◌, subst, arith}
use Rattle.std.specs.Prelude.{All, count_by}
use Rattle.std.specs.List.{AllPairs, AllZip}
use Rattle.std.proofs.lemmas.List.{map-append}
use Rattle.std.proofs.lemmas.List.Elements.{All-weaker, All-append, All-map, AllZip-get_or, length_all_zip}
use Rattle.hb_base.specs.Numbers.{Numbers}
use Rattle.hb_base.specs.NodeSet.{is_in}
use Rattle.hb_base.specs.Limits.{most_lies}
use Rattle.net_script.specs.declared.script.Script.{Script}
use Rattle.hb_wire.specs.declared.post.Post.{Post}
use Rattle.hb_rules.specs.declared.report.End.{End}
use Rattle.hb_rules.specs.Actor.{ActorView}
use Rattle.hb_rules.specs.Book.{SeatView}
use Rattle.step_driver.specs.declared.player.Player.{Player}
use Rattle.step_driver.specs.Places.{PlayerView, seat_at}
use Rattle.step_driver.specs.Delivering.{is_from}
use Rattle.step_driver.specs.Running.{end_view, end_at, IsKept}
use Rattle.step_driver.proofs.Tellings.{count_watched}
use Rattle.ledger_run.specs.Team.{names_below}
use Rattle.last_deliveries.specs.Settling.{players_of, IsOfRun, HasGoneOn, HasWatched, IsSettled}
use Rattle.run_closing.specs.Returning.{IsBack, IsLiarBack, IsNotAfter, HaveReturned}
use Rattle.returned_players.specs.Leaving.{IsLeft}
use Rattle.returned_players.proofs.Backs.{IsBack-of_run, order_gone_on, back_gone_on}

-- what the seat of a node that lies was shown are posts of others
IsLiarBack-watched : (s : Script) (old new : SeatView) → HasWatched old new → IsLiarBack s old → IsLiarBack s new
IsLiarBack-watched s old new has was =
    let lies : is_in old.config.liars old.node ≡ true = ap (λ (c : Numbers). is_in c.liars old.node) was.config ∙ was.lies in
    let same : count_by (is_from old.node) new.seen ≡ count_by (is_from old.node) old.seen =
    count_watched old.config old.node old.actor old.seen new.seen lies has.watched in
    let few : count_by (is_from old.node) new.seen ≤ most_lies = omega (arith, same, was.few) in
    record {
      config = has.config ∙ was.config;
      node = omega (arith, has.node, was.node);
      lies = ap (λ (i : ℕ). is_in s.config.liars i) has.node ∙ was.lies;
      actor = has.actor ∙ was.actor;
      few = subst (λ (i : ℕ). count_by (is_from i) new.seen ≤ most_lies) (sym has.node) few;
    }

liars_watched : (s : Script) (old new : List SeatView) → AllZip HasWatched old new → All (IsLiarBack s) old → All (IsLiarBack s) new
liars_watched s old new watched back = λ k d within.
    let few : k < length old = omega (arith, within, length_all_zip HasWatched old new watched) in
    IsLiarBack-watched s (get_or old k d) (get_or new k d) (AllZip-get_or HasWatched old new k d d watched few) (back k d few)

pub all_of_run : (s : Script) (players : List PlayerView) → All (IsBack s) players → All (IsOfRun s) players
all_of_run s players back = λ k d within. IsBack-of_run s (get_or players k d) (back k d within)

-- the last deliveries were made
pub HaveReturned-settled : (s : Script) (m : ℕ) (old new : List PlayerView) (liars watched : List SeatView) → All (IsBack s) old → AllPairs IsNotAfter old
    → All (IsLiarBack s) liars → length old + length liars ≡ length (names_below s.config s.config.n) → AllZip HasGoneOn old new → All (IsOfRun s) new
    → AllZip HasWatched liars watched → IsSettled s new watched m → HaveReturned s m new watched
HaveReturned-settled s m old new liars watched back order lies count went of_run shown settled = record {
  actors = back_gone_on s old new went back of_run;
  seats = liars_watched s liars watched shown lies;
  in_order = order_gone_on old new went order;
  count = omega (arith, count, length_all_zip HasGoneOn old new went, length_all_zip HasWatched liars watched shown);
  settled = settled;
}

-- ---- what they leave, actors A over a book whose seats are S

module _ {A S : Type 0} (config : S → Numbers) (node actor : S → ℕ) (seen : S → List Post) (seat : A → S) (view : A → ActorView) where
  seats_seen : (players : List (Player A)) → map (seat_at config node actor seen) (map (λ (p : Player A). seat p.actor) players)
      ≡ map (λ (p : PlayerView). p.seat) (players_of config node actor seen seat view players)
  seats_seen [] = refl
  seats_seen (p ∷ players) = ap (λ (seats : List SeatView). seat_at config node actor seen (seat p.actor) ∷ seats) (seats_seen players)

  pub IsLeft-made : (s : Script) (m : ℕ) (players read : List (Player A)) (liars all : List S) (ends : List End) → read ≡ players
      → HaveReturned s m (players_of config node actor seen seat view players) (map (seat_at config node actor seen) liars)
      → all ≡ map (λ (p : Player A). seat p.actor) players ++ liars → map end_view ends ≡ map end_at (players_of config node actor seen seat view read)
      → All IsKept (players_of config node actor seen seat view read) → IsLeft s (map (seat_at config node actor seen) all) ends
  IsLeft-made s m players read liars all ends same back made told kept = record {
    posts = m;
    players = players_of config node actor seen seat view players;
    liars = map (seat_at config node actor seen) liars;
    back = back;
    all_seats =
        ap (λ (seats : List S). map (seat_at config node actor seen) seats) made
        ∙ map-append (seat_at config node actor seen) (map (λ (p : Player A). seat p.actor) players) liars
        ∙ ap (λ (seats : List SeatView). seats ++ map (seat_at config node actor seen) liars) (seats_seen players);
    all_ends =
        record {
          same = told ∙ ap (λ (ps : List (Player A)). map end_at (players_of config node actor seen seat view ps)) same;
          kept = subst (λ (ps : List (Player A)). All IsKept (players_of config node actor seen seat view ps)) same kept;
        };
  }

-- what all their seats know of one handle of the book, they know of another
pub all_known : {B A S : Type 0} (knows : B → S → Type 0) (seat : A → S) (a b : B) → ((s : S) → knows a s → knows b s) → (players : List (Player A)) (liars all : List S)
    → all ≡ map (λ (p : Player A). seat p.actor) players ++ liars → All (λ (p : Player A). knows a (seat p.actor)) players → All (λ (s : S). knows a s) liars
    → All (λ (s : S). knows b s) all
all_known {B} {A} {S} knows seat a b on players liars all made one other =
    All-weaker (λ (s : S). knows a s) (λ (s : S). knows b s) on all
    (subst (λ (seats : List S). All (λ (s : S). knows a s) seats) (sym made)
    (All-append (λ (s : S). knows a s) (map (λ (p : Player A). seat p.actor) players) liars
    (All-map (λ (s : S). knows a s) (λ (p : Player A). seat p.actor) players one) other))
