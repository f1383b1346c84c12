use Rattle.std.proofs.Common.{not, bytes_eq, sym, ap, ◌∙◌}
use Rattle.std.specs.Option.{option_map}
use Rattle.hb_wire.specs.Views.{vote_of}
use Rattle.accuse.proofs.Said.{contradict_by_bytes}
use Rattle.accuse.proofs.saying.contradict.Goals as goal

pub returns-then-excludes : goal.returns-then-excludes
returns-then-excludes c =
    let post = c.args.post.now in
    let other = c.args.other.now in
    c.ne.ensures ∙ (λ k. not (bytes_eq (c.as_slice.ensures k) (c.as_slice-then-excludes.ensures k)))
    ∙ contradict_by_bytes c.args.config.now c.args.node post other (vote_of c.in-Some.vote) (vote_of c.in-Some-vote_by.other_vote)
    (sym c.vote_by.ensures ∙ ap (option_map (λ v. (post.actor, vote_of v))) c.in-Some.is)
    (sym c.vote_by-2.ensures ∙ ap (option_map (λ v. (other.actor, vote_of v))) c.in-Some-vote_by.is)
    c.if-post-other.false (sym c.show_two_roots.ensures ∙ c.if-show_two_roots.false) (sym c.excludes.ensures ∙ c.if-excludes.true)
