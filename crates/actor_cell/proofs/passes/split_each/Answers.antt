use Rattle.std.proofs.Common.{List, [], ◌∷◌, ◌++◌, map, sym, ap, ◌∙◌, take}
use Rattle.std.proofs.lemmas.List.{map-append, take_more}
use Rattle.std.proofs.lemmas.List.Elements.{All-push}
use Rattle.atomic_blocks.specs.Laid.{WebId}
use Rattle.mailbox.specs.Passes.{PutPassView}
use Rattle.actor_cell.specs.Passes.{IsNewPut}
use Rattle.actor_cell.proofs.Puts.{same_after}
use Rattle.actor_cell.proofs.passes.split_each.Goals as goal

pub returns-in_err-push-clause-firsts : goal.returns-in_err-push-clause-firsts
returns-in_err-push-clause-firsts c =
    same_after (λ (p : PutPassView). p.at) c.loop-place.firsts.items c.loop-place.place c.index_mut-first.result.now c.split.new.pass c.index_mut-first.ensures.value c.split.ensures.same.0
    ∙ c.loop-place.invariant.firsts

pub loop-place-preserved : goal.loop-place-preserved
loop-place-preserved c = record {
  firsts =
      same_after (λ (p : PutPassView). p.at) c.loop-place.firsts.items c.loop-place.place c.index_mut-first.result.now c.split.new.pass c.index_mut-first.ensures.value c.split.ensures.same.0
      ∙ c.loop-place.invariant.firsts;
  at =
      ap (λ (puts : List PutPassView). map (λ (p : PutPassView). p.at) puts) c.in_ok-push.ensures.items
      ∙ map-append (λ (p : PutPassView). p.at) c.loop-place.puts.items (c.split.result ∷ [])
      ∙ ap (λ (names : List WebId). names ++ c.split.result.at ∷ []) c.loop-place.invariant.at
      ∙ ap (λ (name : WebId). take c.loop-place.place c.args.boxes.now ++ name ∷ []) (c.split.ensures.new.0 ∙ c.index-boxes-place.is)
      ∙ sym (take_more c.args.boxes.now c.loop-place.place c.index-boxes-place.result c.loop-place-test.true);
  new = rw c.in_ok-push.ensures.items (All-push IsNewPut c.loop-place.puts.items c.split.result c.loop-place.invariant.new c.split.ensures.new.2);
}
