use Rattle.std.proofs.Common.{◌≡◌, ◌+◌, ◌*◌, ◌%◌, ap, ◌∙◌}
use Rattle.rand_chacha.specs.ChaCha.{ChaCha}
use Rattle.seed_words.specs.Words.{word, words_from, moved_by, word_of}
use Rattle.scenario_gen.specs.Generated.{faulty, submits, liars, plans, liars_place, stops_place}
use Rattle.scenario_gen.proofs.Sound.{generated_sound}
use Rattle.scenario_gen.proofs.Whole.{whole}
use Rattle.scenario_gen.proofs.generate.Goals as goal

pub returns-clause-exact : goal.returns-clause-exact
returns-clause-exact c =
    let number = c.args.number in
    let w = word number 0 in
    let n = 4 + c.next_word.result % 7 in
    let one : c.next_word.new.words ≡ words_from number 0 1 = c.next_word.ensures.moved ∙ ap (λ (g : ChaCha). moved_by g 1) c.words_of-words.ensures in
    let two : c.next_word-2.new.words ≡ words_from number 0 2 = c.next_word-2.ensures.moved ∙ ap (λ (g : ChaCha). moved_by g 1) one in
    let three : c.next_word-3.new.words ≡ words_from number 0 3 = c.next_word-3.ensures.moved ∙ ap (λ (g : ChaCha). moved_by g 1) two in
    let four : c.next_word-4.new.words ≡ words_from number 0 4 = c.next_word-4.ensures.moved ∙ ap (λ (g : ChaCha). moved_by g 1) three in
    let drawn : c.draw_submits.new.words ≡ words_from number 0 (liars_place n) =
    c.in_ok-submit.ensures.moved ∙ ap (λ (g : ChaCha). moved_by g (2 * (64 * n))) four in
    let done : c.draw_liars.new.words ≡ words_from number 0 (stops_place n) =
    c.in_ok-liars.ensures.moved ∙ ap (λ (g : ChaCha). moved_by g (faulty n)) drawn in
    let next = λ (g : ChaCha). word_of g g.word_pos in
    whole number w n _ _ _ _ _ _ _ _
    (ap (λ x. 4 + x % 7) (c.next_word.ensures.word ∙ ap next c.words_of-words.ensures))
    (ap (λ x. 2 + x % 4) (c.next_word-2.ensures.word ∙ ap next one))
    (ap (λ x. 8 + x % 16) (c.next_word-3.ensures.word ∙ ap next two))
    (ap (λ x. 1 + x % 3) (c.next_word-4.ensures.word ∙ ap next three))
    c.config_of.ensures
    (c.in_ok-submit.ensures.drawn ∙ ap (λ (g : ChaCha). submits n (word_of g)) four)
    (c.in_ok-liars.ensures.drawn ∙ ap (λ (g : ChaCha). liars n (word_of g)) drawn)
    c.in_ok-links.ensures
    (c.in_ok-plans.ensures ∙ ap (λ (g : ChaCha). plans n (word_of g)) done)

pub returns-clause-sound : goal.returns-clause-sound
returns-clause-sound c = rw (returns-clause-exact c) (generated_sound c.args.number)
