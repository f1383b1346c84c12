use Rattle.std.proofs.Common.{sym, subst, []}
use Rattle.std.specs.List.{filter}
use Rattle.hb_rules.specs.Parts.{read_in_agreement}
use Rattle.hb_rules.specs.Slots.{IsIdle}
use Rattle.hb_rules.specs.Owing.{Place}
use Rattle.aba_core.specs.Standing.{slots_at}
use Rattle.lane_core.proofs.cores.Cores.rebuild.Goals as goal

pub returns-clause-stands : goal.returns-clause-stands
returns-clause-stands c = λ idle. record {
  rbc = c.in_ok-rbc.ensures.part;
  aba =
      c.in_ok-aba.ensures.part
      (subst (λ (p : Place). IsIdle (slots_at p) (filter (read_in_agreement c.args.epoch) c.args.own.now) []) (sym c.in_ok-aba.ensures.place) idle);
}
