use Rattle.std.proofs.Common.{◌≡◌, ◌≤◌, ◌+◌, ◌++◌, List, ℕ, [], length, take, drop, sym, ap, ◌∙◌, subst}
use Rattle.std.proofs.lemmas.Result.{IfOk-weaker}
use Rattle.hb_base.specs.ByteLists.{AreBytes}
use Rattle.hb_base.specs.Limits.{longest_value}
use Rattle.rs_shards.specs.Codeword.{data_of}
use Rattle.rs_shards.specs.Frame.{value_in, framed_value}
use Rattle.rs_shards.proofs.Frames.{length-value_in}
use Rattle.rs_shards.proofs.Values.{value_in-frame, behind_front, part_behind_front}
use Rattle.rs_shards.proofs.value_behind.Goals as goal

pub returns-in-Some-clause-value : goal.returns-in-Some-clause-value
returns-in-Some-clause-value c =
    let k = c.args.k in
    let front = c.args.front.now in
    let bytes : List ℕ = data_of k c.args.shards.now in
    let whole = c.in_ok-whole.whole in
    let lent = c.as_slice.result.now in
    let len = c.in-Some.len in
    let joined : whole ≡ front ++ bytes = c.in_ok-whole.ensures ∙ c.in_ok-joined.ensures in
    let behind = behind_front front bytes lent (c.as_slice.ensures ∙ joined) in
    let part : List ℕ = take len (drop (length front + 4) whole) in
    let is : part ≡ framed_value k c.args.shards.now =
    part_behind_front front bytes whole 4 len joined
    ∙ ap (λ xs. take len (drop 4 xs)) (sym behind) ∙ sym c.in-Some.ensures.value ∙ ap (value_in k) behind in
    IfOk-weaker c.part.result (λ b. b ≡ part) (λ b. b ≡ framed_value k c.args.shards.now) (λ b e. e ∙ is) c.part.ensures

pub returns-in-Some-clause-reads_back : goal.returns-in-Some-clause-reads_back
returns-in-Some-clause-reads_back c n value some short h =
    let k = c.args.k in
    IfOk-weaker c.part.result (λ b. b ≡ framed_value k c.args.shards.now) (λ b. b ≡ value)
    (λ b e. e ∙ ap (value_in k) h.framed ∙ value_in-frame k value some short) (returns-in-Some-clause-value c)

pub returns-in-Some-clause-short : goal.returns-in-Some-clause-short
returns-in-Some-clause-short c =
    let k = c.args.k in
    IfOk-weaker c.part.result (λ b. b ≡ framed_value k c.args.shards.now) (λ b. length b ≤ longest_value)
    (λ b e. subst (λ b. length b ≤ longest_value) (sym e) (length-value_in k (data_of k c.args.shards.now))) (returns-in-Some-clause-value c)

pub returns-in-Some-clause-bytes : goal.returns-in-Some-clause-bytes
returns-in-Some-clause-bytes c =
    let k = c.args.k in
    let front = c.args.front.now in
    let bytes : List ℕ = data_of k c.args.shards.now in
    let behind = behind_front front bytes c.as_slice.result.now (c.as_slice.ensures ∙ c.in_ok-whole.ensures ∙ c.in_ok-joined.ensures) in
    IfOk-weaker c.part.result (λ b. b ≡ framed_value k c.args.shards.now) AreBytes
    (λ b e. subst AreBytes (ap (value_in k) behind ∙ sym e) c.value_len.ensures.bytes) (returns-in-Some-clause-value c)

pub returns-clause-reads_back : goal.returns-clause-reads_back
returns-clause-reads_back c n value some short h =
    let k = c.args.k in
    let front = c.args.front.now in
    let bytes : List ℕ = data_of k c.args.shards.now in
    let behind = behind_front front bytes c.as_slice.result.now (c.as_slice.ensures ∙ c.in_ok-whole.ensures ∙ c.in_ok-joined.ensures) in
    let is : [] ≡ value = sym c.in-None.ensures.value ∙ ap (value_in k) (behind ∙ h.framed) ∙ value_in-frame k value some short in
    IfOk-weaker c.copy.result (λ b. b ≡ []) (λ b. b ≡ value) (λ b e. e ∙ is) c.copy.ensures
