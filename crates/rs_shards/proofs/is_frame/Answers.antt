use Rattle.std.proofs.Common.{◌≡◌, ◌+◌, ◌-◌, ◌<◌, ◌==◌, length, take, drop, sym, ap, ◌∙◌, subst, arith}
use Rattle.std.proofs.lemmas.List.{take_all, length-drop}
use Rattle.std.specs.List.{list_all}
use Rattle.rs_shards.specs.Frame.{stated_length}
use Rattle.rs_shards.proofs.Frames.{false_frame, last_test}
use Rattle.rs_shards.proofs.is_frame.Goals as goal

pub returns-then-bytes-lt4-clause-value : goal.returns-then-bytes-lt4-clause-value
returns-then-bytes-lt4-clause-value c = false_frame c.args.k c.args.bytes.now (λ t. omega (arith, t.header))

pub returns-then-len-gt-LONGEST_VALUE-clause-value : goal.returns-then-len-gt-LONGEST_VALUE-clause-value
returns-then-len-gt-LONGEST_VALUE-clause-value c = false_frame c.args.k c.args.bytes.now (λ t. omega (arith, t.short))

pub returns-then-bytes-len-clause-value : goal.returns-then-bytes-len-clause-value
returns-then-bytes-len-clause-value c = false_frame c.args.k c.args.bytes.now (λ t. omega (arith, t.inside))

pub returns-then-rest-k-clause-value : goal.returns-then-rest-k-clause-value
returns-then-rest-k-clause-value c =
    let bytes = c.args.bytes.now in
    false_frame c.args.k bytes (λ t. omega (arith, t.few, take_all (length bytes - (4 + c.stated_length-len.result)) (drop (4 + c.stated_length-len.result) bytes), length-drop (4 + c.stated_length-len.result) bytes))

pub returns-clause-value : goal.returns-clause-value
returns-clause-value c =
    let bytes = c.args.bytes.now in
    let len = c.stated_length-len.result in
    let is : len ≡ stated_length bytes = c.stated_length-len.ensures.value in
    let whole : take (length bytes - (4 + len)) (drop (4 + len) bytes) ≡ drop (4 + len) bytes =
    take_all (length bytes - (4 + len)) (drop (4 + len) bytes) (omega (arith, length-drop (4 + len) bytes)) in
    let few : length bytes - (4 + len) < c.args.k = omega (arith, ap length whole, length-drop (4 + len) bytes) in
    c.are_zero.ensures ∙ ap (list_all (λ b. b == 0)) whole ∙ ap (λ n. list_all (λ b. b == 0) (drop (4 + n) bytes)) is
    ∙ sym (last_test c.args.k bytes c.if-bytes-lt4.false (omega arith) (omega arith) (subst (λ n. length bytes - (4 + n) < c.args.k) is few))
