use Rattle.std.proofs.Common.{[], ◌∷◌, ◌++◌, List, map, sym, ap, ◌∙◌}
use Rattle.std.proofs.lemmas.List.{map-append}
use Rattle.std.proofs.lemmas.List.Elements.{All-push}
use Rattle.atomic_blocks.specs.Laid.{WebId}
use Rattle.mailbox.specs.Passes.{PutPassView, TakePassView}
use Rattle.actor_cell.specs.Passes.{IsNewTake, names_of}
use Rattle.actor_cell.proofs.boxes.Making.add.Goals as goal

pub returns-clause-new : goal.returns-clause-new
returns-clause-new c =
    let put = c.in_ok-mailbox.put in
    let take = c.in_ok-mailbox.take in
    let takes = c.args.self.now.takes.items in
    record {
      puts = ap names_of c.in_ok-push-2.ensures.items ∙ map-append (λ (p : PutPassView). p.at) c.args.self.now.puts.items (put ∷ [])
          ∙ ap (λ (names : List WebId). names ++ put.at ∷ []) c.requires.puts
          ∙ ap (λ (name : WebId). c.args.self.now.boxes.items ++ name ∷ []) c.in_ok-mailbox.ensures.put.0
          ∙ sym c.in_ok-push.ensures.items;
      takes = ap (λ (all : List TakePassView). map (λ (t : TakePassView). t.at) all) c.in_ok-push-3.ensures.items
          ∙ map-append (λ (t : TakePassView). t.at) takes (take ∷ [])
          ∙ ap (λ (names : List WebId). names ++ take.at ∷ []) c.requires.takes
          ∙ ap (λ (name : WebId). c.args.self.now.boxes.items ++ name ∷ []) c.in_ok-mailbox.ensures.take.0
          ∙ sym c.in_ok-push.ensures.items;
      none = rw c.in_ok-push-3.ensures.items (All-push IsNewTake takes take c.requires.none (record {
        taken = c.in_ok-mailbox.ensures.take.1;
        splits = c.in_ok-mailbox.ensures.take.2;
        joined = c.in_ok-mailbox.ensures.take.3;
        own = c.in_ok-mailbox.ensures.take.5;
      }));
    }
