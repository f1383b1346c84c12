-- The votes that a root makes due, and the state once they are cast.
use Rattle.std.specs.Prelude.{ℕ, ◌||◌, List, ◌++◌}
use Rattle.std.specs.Option.{option_map, option_or, option_to_list}
use Rattle.hb_wire.specs.declared.vote.Vote.{Vote}
use Rattle.hb_wire.specs.declared.vote.Vote.TheVariants.{Ready, Delivered}
use Rattle.hb_rules.specs.Slots.{when}
use Rattle.rbc_core.specs.declared.rbc.RootVotes.{RootVotes}
use Rattle.rbc_core.specs.Broadcast.{RbcView}

abbrev pub votes_in : ℕ → List ℕ → RootVotes → List Vote
votes_in e root votes = option_to_list (when votes.is_ready_due (Ready e root)) ++ option_to_list (option_map (Delivered e) votes.delivery)

abbrev pub after_votes : RbcView → RootVotes → RbcView
after_votes r votes = record r {
  is_ready_cast = r.is_ready_cast || votes.is_ready_due;
  delivered = option_or r.delivered votes.delivered;
}
