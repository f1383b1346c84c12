use Rattle.std.proofs.Common.{ap, ◌∙◌, ℕ}
use Rattle.std.specs.Prelude.{bit_or}
use Rattle.std.proofs.lemmas.Nat.{one_shl}
use Rattle.hb_base.proofs.Words.{set, is_in-set}
use Rattle.hb_base.specs.NodeSet.{is_in}
use Rattle.hb_base.specs.Words.{marks_of}
use Rattle.hb_base.proofs.node_set.NodeSet.add.Goals as goal

pub returns-clause-exact : goal.returns-clause-exact
returns-clause-exact c =
    rw (← c.self.view_is) (ap (λ (mask : ℕ). marks_of 16 (bit_or c.self.inside.bits mask)) (one_shl c.args.node 16 c.requires)
    ∙ set 16 c.self.inside.bits c.args.node c.requires)

pub returns-clause-members : goal.returns-clause-members
returns-clause-members c = λ other.
    rw (← c.self.view_is) (ap (λ (mask : ℕ). is_in (marks_of 16 (bit_or c.self.inside.bits mask)) other) (one_shl c.args.node 16 c.requires)
    ∙ is_in-set 16 c.self.inside.bits c.args.node other c.requires)
