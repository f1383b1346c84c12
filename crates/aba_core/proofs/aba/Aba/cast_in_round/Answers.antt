use Rattle.std.proofs.Common.{sym, ◌∙◌}
use Rattle.aba_core.proofs.Marking.{Casts-roundless}
use Rattle.aba_core.proofs.aba.Aba.cast_in_round.Goals as goal

pub cast_at-requires : goal.cast_at-requires
cast_at-requires c = record { round = record { epoch = c.requires.epoch; round = sym c.round_of.ensures ∙ c.in-Some.is }; kind = c.requires.kind }

pub returns-in-None : goal.returns-in-None
returns-in-None c = Casts-roundless c.args.self.now c.args.vote.now (sym c.round_of.ensures ∙ c.in-None.is) c.requires.kind
