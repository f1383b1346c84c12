use Rattle.std.proofs.Common.{◌≡◌, refl}
use Rattle.hb_base.specs.Words.{word_of, word_of-marks_of}
use Rattle.hb_base.proofs.node_set.NodeSetPartialEq.eq.Goals as goal

pub returns : goal.returns
returns c =
    let own : word_of c.args.self.now ≡ c.self.inside.bits =
    rw (← c.self.view_is) (word_of-marks_of 16 c.self.inside.bits c.self.invariant) in
    let others : word_of c.args.other.now ≡ c.other.inside.bits =
    rw (← c.other.view_is) (word_of-marks_of 16 c.other.inside.bits c.other.invariant) in
    rw (own, others) refl
