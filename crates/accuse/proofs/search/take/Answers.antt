use Rattle.std.proofs.Common.{Option, sym, ap, ◌∙◌, arith}
use Rattle.std.specs.Option.{option_map, option_or}
use Rattle.hb_wire.specs.Views.{vote_of}
use Rattle.hb_rules.specs.Slots.{when}
use Rattle.accuse.specs.declared.place.Place.{Place}
use Rattle.accuse.specs.Places.{first_at, is_place}
use Rattle.accuse.proofs.Against.{said_here, none_against, firsts_same, firsts_noted, table_below, against_here}
use Rattle.accuse.proofs.search.take.Goals as goal

pub returns-in_default-clause-found : goal.returns-in_default-clause-found
returns-in_default-clause-found c =
    let post = c.index-posts-number.result in
    sym (none_against c.args.config.now c.args.node c.args.posts.now c.args.number
    (said_here c.args.config.now c.args.node c.args.posts.now c.args.number post c.requires.inside c.index-posts-number.is
    ∙ sym c.vote_by.ensures ∙ ap (option_map (λ v. (post.actor, vote_of v))) c.in_default.is))

pub returns-in_default-clause-sound : goal.returns-in_default-clause-sound
returns-in_default-clause-sound c = λ _.
    let post = c.index-posts-number.result in
    firsts_same c.args.config.now c.args.node c.args.posts.now c.args.number c.args.firsts.now c.requires.sound
    (said_here c.args.config.now c.args.node c.args.posts.now c.args.number post c.requires.inside c.index-posts-number.is
    ∙ sym c.vote_by.ensures ∙ ap (option_map (λ v. (post.actor, vote_of v))) c.in_default.is)

pub first_told-requires-clause-root : goal.first_told-requires-clause-root
first_told-requires-clause-root c =
    table_below c.args.config.now c.args.node c.args.posts.now c.args.number c.args.firsts.now c.requires.sound (omega (arith, c.requires.inside))
    c.root_place-root.result

pub first_told-requires-clause-place : goal.first_told-requires-clause-place
first_told-requires-clause-place c =
    table_below c.args.config.now c.args.node c.args.posts.now c.args.number c.args.firsts.now c.requires.sound (omega (arith, c.requires.inside))
    c.place_of-place.result

pub returns-in-Some-first_told-clause-found : goal.returns-in-Some-first_told-clause-found
returns-in-Some-first_told-clause-found c =
    let post = c.index-posts-number.result in
    sym c.in-Some-first_told.is
    ∙ against_here c.args.config.now c.args.node c.args.posts.now c.args.number c.args.firsts.now post (vote_of c.in-Some.vote) c.root_place-root.result
    c.place_of-place.result c.first_told.result c.requires.sound c.requires.quiet
    (said_here c.args.config.now c.args.node c.args.posts.now c.args.number post c.requires.inside c.index-posts-number.is)
    (sym c.vote_by.ensures ∙ ap (option_map (λ v. (post.actor, vote_of v))) c.in-Some.is) c.root_place-root.ensures c.place_of-place.ensures
    c.first_told.ensures

pub returns-in_ok-note_at-in-None-2-clause-found : goal.returns-in_ok-note_at-in-None-2-clause-found
returns-in_ok-note_at-in-None-2-clause-found c =
    let post = c.index-posts-number.result in
    sym c.in-None.is
    ∙ against_here c.args.config.now c.args.node c.args.posts.now c.args.number c.args.firsts.now post (vote_of c.in-Some.vote) c.root_place-root.result
    c.place_of-place.result c.first_told.result c.requires.sound c.requires.quiet
    (said_here c.args.config.now c.args.node c.args.posts.now c.args.number post c.requires.inside c.index-posts-number.is)
    (sym c.vote_by.ensures ∙ ap (option_map (λ v. (post.actor, vote_of v))) c.in-Some.is) c.root_place-root.ensures c.place_of-place.ensures
    c.first_told.ensures

pub returns-in_ok-note_at-in-None-2-clause-sound : goal.returns-in_ok-note_at-in-None-2-clause-sound
returns-in_ok-note_at-in-None-2-clause-sound c = λ _.
    let post = c.index-posts-number.result in
    firsts_noted c.args.config.now c.args.node c.args.posts.now c.args.number c.args.firsts.now c.note_at.new.firsts c.note_at-in-None.new.firsts
    (post.actor, vote_of c.in-Some.vote) c.requires.sound
    (said_here c.args.config.now c.args.node c.args.posts.now c.args.number post c.requires.inside c.index-posts-number.is
    ∙ sym c.vote_by.ensures ∙ ap (option_map (λ v. (post.actor, vote_of v))) c.in-Some.is)
    (λ wanted. c.in_ok-note_at-in-None.ensures wanted
    ∙ ap (λ (o : Option Place). option_or (first_at c.args.firsts.now wanted) (when (is_place wanted o) c.args.number)) c.root_place-root.ensures)
    (λ wanted. c.in_ok-note_at-in-None-2.ensures wanted
    ∙ ap (λ (o : Option Place). option_or (first_at c.note_at.new.firsts wanted) (when (is_place wanted o) c.args.number)) c.place_of-place.ensures)
