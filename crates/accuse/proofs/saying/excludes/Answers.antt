use Rattle.std.proofs.Common.{sym, ◌∙◌}
use Rattle.hb_wire.specs.Views.{vote_of}
use Rattle.accuse.proofs.Said.{excludes_at, excludes_nothing, excluded_by_nothing}
use Rattle.accuse.proofs.saying.excludes.Goals as goal

pub returns : goal.returns
returns c =
    c.eq.ensures
    ∙ excludes_at (vote_of c.args.vote.now) (vote_of c.args.other.now) c.in-Some.place c.in-Some-place_of.other_place
    (sym c.place_of.ensures ∙ c.in-Some.is) (sym c.place_of-2.ensures ∙ c.in-Some-place_of.is)

pub returns-in_default-place_of : goal.returns-in_default-place_of
returns-in_default-place_of c =
    excluded_by_nothing (vote_of c.args.vote.now) (vote_of c.args.other.now) (sym c.place_of-2.ensures ∙ c.in_default-place_of.is)

pub returns-in_default : goal.returns-in_default
returns-in_default c = excludes_nothing (vote_of c.args.vote.now) (vote_of c.args.other.now) (sym c.place_of.ensures ∙ c.in_default.is)
