use Rattle.std.proofs.Common.{rules, ◌<◌}
use Rattle.hb_base.specs.Limits.{most_epochs, most_rounds}
use Rattle.liar_cast.proofs.Votes.{false_coin}
use Rattle.liar_cast.proofs.false_share.hand_out.Goals as goal

pub tell_vote-requires : goal.tell_vote-requires
tell_vote-requires c =
    let version = c.version-version.ensures.bounds in
    let early : c.args.at.epoch < most_epochs = search rules in
    let low : c.args.at.number < most_rounds = search rules in
    false_coin _ _ _ _ _ version.0 version.1 early low c.height.ensures.exact c.height.ensures.small
