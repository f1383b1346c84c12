use Rattle.std.proofs.Common.{subst}
use Rattle.std.specs.Prelude.{Option}
use Rattle.post_judge.specs.declared.place.Place.{Place}
use Rattle.post_judge.specs.Tables.{Adds}
use Rattle.post_judge.proofs.Adding.{AreTold-push, AreTold-again}
use Rattle.post_judge.proofs.table.Table.put_vote.Goals as goal

pub returns-clause-told : goal.returns-clause-told
returns-clause-told c =
    let t = c.args.self.now in
    let old = t.buckets.by_place in
    let mid = c.add_at.new.self.by_place in
    let new = c.add_at-2.new.self.by_place in
    let number = c.in_ok-number.number in
    AreTold-push t.config t.posts.items old mid new c.args.post.now c.args.vote.now number c.requires.told c.requires.vote c.in_ok-number.ensures.next
    (subst (λ (o : Option Place). Adds old mid o number c.args.vote.now) c.cast_place-cast.ensures c.in_ok-add_at.ensures.ok)
    (subst (λ (o : Option Place). Adds mid new o number c.args.vote.now) c.told_place-told.ensures c.in_ok-add_at-2.ensures.ok)

pub returns-then-was_judged-clause-told : goal.returns-then-was_judged-clause-told
returns-then-was_judged-clause-told c =
    let t = c.args.self.now in
    AreTold-again t.config t.posts.items c.args.post.now t.buckets.by_place c.requires.told (c.was_judged.ensures.0 c.if-was_judged.true).0
