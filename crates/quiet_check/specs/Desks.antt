-- Whether a desk owes a vote, by tests. The letters: e is an epoch, j a lane.
use Rattle.std.specs.Prelude.{ℕ, ◌-◌, Bool, true, not, ◌&&◌, ◌||◌, nat_le, List, is_some}
use Rattle.std.specs.List.{list_any}
use Rattle.std.specs.Option.{option_and_then}
use Rattle.hb_base.specs.Counting.{count_nodes}
use Rattle.hb_base.specs.Numbers.{Numbers}
use Rattle.hb_wire.specs.declared.vote.Vote.{Vote}
use Rattle.hb_rules.specs.Claims.{is_bit, is_any_proposal, is_no_more, is_any_closing}
use Rattle.hb_rules.specs.Desk.{is_open}
use Rattle.hb_rules.specs.DeskRows.{decision_of, delivery_of, items_of, accepted_below}
use Rattle.hb_rules.specs.Hearing.{Hearing}

-- whether it is known what a lane comes to: it has decided 0, or it has decided 1 and delivered
abbrev pub is_known : ℕ → List Hearing → ℕ → Bool
is_known e heard j = is_some (option_and_then (items_of j (delivery_of e heard j)) (decision_of e heard j))

abbrev pub owes_proposal : ℕ → List Vote → Bool
owes_proposal e own = not (list_any (is_any_proposal e) own) && is_open e own

abbrev pub owes_no_more : Numbers → ℕ → List Vote → List Hearing → Bool
owes_no_more c e own heard =
    not (list_any (is_no_more e) own) && nat_le (c.n - c.f) (count_nodes c.n (λ j. is_bit true (decision_of e heard j)))

abbrev pub owes_closing : Numbers → ℕ → List Vote → List Hearing → Bool
owes_closing c e own heard = not (list_any (is_any_closing e) own) && (is_open e own && is_some (accepted_below e heard c.n))

abbrev pub owes_in : Numbers → ℕ → List Vote → List Hearing → Bool
owes_in c e own heard = owes_proposal e own || (owes_no_more c e own heard || owes_closing c e own heard)
