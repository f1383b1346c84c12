-- What the run of a team leaves, for the end of the run.
use Rattle.std.proofs.Common.{◌≡◌, ℕ, List, [], length, map, ap, sym, ◌∙◌, subst}
use Rattle.std.proofs.lemmas.List.{length-map}
use Rattle.atomic_table.specs.Seated.{TableId}
use Rattle.hb_base.specs.Numbers.{Numbers, AreSound}
use Rattle.hb_rules.specs.Book.{SeatView}
use Rattle.hb_wire.specs.declared.post.Post.{Post}
use Rattle.hb_rules.specs.declared.report.End.{End}
use Rattle.net_script.specs.declared.script.Script.{Script}
use Rattle.net_script.specs.Scenario.{told}
use Rattle.net_script.specs.Sound.{IsScenario}
use Rattle.post_book.specs.SharedSeats.{SharedView, FirstView}
use Rattle.ledger_run.specs.Team.{names_below}
use Rattle.run_closing.specs.Returning.{number_of, seats_of}
use Rattle.run_closing.specs.Joining.{seats_in, HasClosedWith}
use Rattle.run_closing.specs.Closing.{IsRunOut}
use Rattle.returned_players.specs.Leaving.{IsLeft}

-- the team is out, over a first seat that has made a seat for each place
pub out_of : (s : Script) (k : Numbers) (book : TableId) (new first : FirstView) (seats : List SeatView) (ends : List End)
    → IsScenario (told s) → AreSound s.config → s.config ≡ k
    → new ≡ record { book = book; seen = []; given = []; joined = [] }
    → first ≡ record new { given = map number_of (names_below k k.n) }
    → (left : IsLeft s seats ends) → IsRunOut s left.posts left.players left.liars first
out_of s k book new first seats ends scenario sound config begun made left = record {
  scenario = scenario;
  sound = sound;
  seated = record {
    seen = ap (λ (f : FirstView). f.seen) made ∙ ap (λ (f : FirstView). f.seen) begun;
    given = ap (λ (f : FirstView). f.given) made ∙ sym (ap (λ (c : Numbers). map number_of (names_below c c.n)) config);
    joined = ap (λ (f : FirstView). f.joined) made ∙ ap (λ (f : FirstView). f.joined) begun;
  };
  returned = left.back;
}

-- as many seats as the law of the end counts
pub as_many_seats : (s : Script) (shared : List SharedView) (ends : List End) (given : List ℕ) (left : IsLeft s (seats_in shared) ends)
    → length (seats_of left.players left.liars) ≡ length given → length shared ≡ length given
as_many_seats s shared ends given left many =
    sym (length-map shared (λ (one : SharedView). one.seat)) ∙ ap (λ (seats : List SeatView). length seats) left.all_seats ∙ many

-- the book was closed with the seats that the law of the end tells of
pub closed_with : (s : Script) (k : Numbers) (seats : List SeatView) (ends : List End) (first : FirstView) (history : List Post)
    → s.config ≡ k → (left : IsLeft s seats ends) → HasClosedWith k seats first history
    → HasClosedWith s.config (seats_of left.players left.liars) first history
closed_with s k seats ends first history config left closed =
    subst (λ (c : Numbers). HasClosedWith c (seats_of left.players left.liars) first history) (sym config)
    (subst (λ (all : List SeatView). HasClosedWith k all first history) left.all_seats closed)
