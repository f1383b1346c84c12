use Rattle.std.proofs.Common.{◌+◌, ◌-◌, ◌%◌, [], ap, ap₂, ◌∙◌}
use Rattle.hb_base.specs.Limits.{most_posts}
use Rattle.net_script.specs.declared.script.LiarAt.{LiarAt}
use Rattle.seed_words.specs.Words.{word_of}
use Rattle.seed_words.proofs.Moving.{moved_more, one_more}
use Rattle.scenario_gen.specs.Generated.{liar, liars_place, kind_name}
use Rattle.scenario_gen.proofs.Drawn.{word_at_place}
use Rattle.scenario_gen.proofs.drawing.draw_liars.Goals as goal

pub loop-j-preserved : goal.loop-j-preserved
loop-j-preserved c =
    let g = c.args.words.now in
    let n = c.args.n in
    let j = c.loop-j.j in
    let word = word_at_place g c.loop-j.words j (liars_place n + j) c.next_word.result c.loop-j.invariant.moved
    (ap (λ place. place + j) c.requires.place) c.next_word.ensures.word in
    record {
      drawn = one_more (liar n (word_of g)) [] c.loop-j.drawn.items _ _ j c.loop-j.invariant.drawn c.in_ok-push.ensures.items
          (ap₂ (λ f name. let a : LiarAt = record { node = n - f + j; name = name; hears = most_posts } in a) c.faulty_of-f.ensures.value
          (c.name_of-name.ensures ∙ ap (λ w. kind_name (w % 6)) word));
      moved = c.next_word.ensures.moved ∙ moved_more g c.loop-j.words j 1 c.loop-j.invariant.moved;
    }
