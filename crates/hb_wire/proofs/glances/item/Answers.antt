use Rattle.std.proofs.Common.{◌<◌, get_or, sym, ap, ◌∙◌, length}
use Rattle.hb_wire.proofs.GlanceLemmas.{closed_list}
use Rattle.hb_wire.proofs.glances.item.Goals as goal

pub nth_item-requires-clause-whole : goal.nth_item-requires-clause-whole
nth_item-requires-clause-whole c = (closed_list c.args.rest.now c.requires.0 c.requires.1).whole

pub nth_item-requires-clause-inside : goal.nth_item-requires-clause-inside
nth_item-requires-clause-inside c =
    let inside : c.args.j < length c.requires.0 = c.requires.2 in
    rw (closed_list c.args.rest.now c.requires.0 c.requires.1).count inside

pub returns : goal.returns
returns c = λ items closed d.
    let seen = closed_list c.args.rest.now items closed in
    ap (λ xs. get_or xs c.args.j d) (sym seen.same) ∙ c.nth_item.ensures d
