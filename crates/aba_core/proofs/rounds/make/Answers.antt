use Rattle.std.proofs.Common.{◌≡◌, ◌+◌, ◌<◌, ◌∷◌, [], ◌++◌, length, ap, ◌∙◌, arith}
use Rattle.std.proofs.lemmas.List.{length_push}
use Rattle.aba_core.specs.declared.round.Round.{Round}
use Rattle.aba_core.specs.Made.{all_rounds}
use Rattle.aba_core.specs.Rounds.{new_round}
use Rattle.aba_core.proofs.Made.{all-more}
use Rattle.aba_core.proofs.rounds.make.Goals as goal

pub rounds-preserved : goal.rounds-preserved
rounds-preserved c =
    let n = c.args.config.now in
    let j = c.args.lane in
    let e = c.args.epoch in
    let made = c.rounds.made.items in
    let few : length made < n.rounds = omega (arith, c.rounds-test.true, c.requires.round, c.len.ensures, c.rounds.made.ok.0) in
    let next : c.len-next.result ≡ length made = omega (arith, c.len-next.ensures, c.rounds.made.ok.0) in
    let size : length c.push_reserved.new.self.items ≡ length made + 1 =
    ap length c.push_reserved.ensures.items ∙ length_push made c.new.result in
    record {
      same =
          ap (all_rounds n j e) (c.push_reserved.ensures.items ∙ ap (λ (x : Round). made ++ x ∷ []) (c.new.ensures ∙ ap (new_round n j e) next))
          ∙ all-more n j e made few ∙ c.rounds.invariant.same;
      count = omega (arith, size, few);
      room = c.push_reserved.ensures.capacity ∙ c.rounds.invariant.room;
    }
