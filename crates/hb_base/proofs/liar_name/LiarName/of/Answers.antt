use Rattle.std.proofs.Common.{arith, ◌≡◌, ◌∙◌, ap, ℕ, ◌-◌, length, drop, replicate, List}
use Rattle.std.proofs.lemmas.List.{drop_at, drop-replicate, length-replicate, length-append}
use Rattle.hb_base.proofs.liar_name.LiarName.of.Goals as goal

pub invariant_of-result : goal.invariant_of-result
invariant_of-result c =
    let len = length c.as_bytes-text.result.now in
    let size : length c.copy_from_slice.new.self ≡ len = ap (λ (bs : List ℕ). length bs) c.copy_from_slice.ensures.after in
    let zeros : drop len (replicate {A = ℕ} 16 0) ≡ replicate (16 - len) 0 = drop-replicate len 16 0 in
    record {
      short = omega arith;
      whole = length-append c.copy_from_slice.new.self (drop len (replicate 16 0))
          ∙ omega (arith, size, ap (λ (bs : List ℕ). length bs) zeros, length-replicate {A = ℕ} (16 - len) 0);
      zeros = drop_at c.copy_from_slice.new.self (drop len (replicate 16 0)) len size ∙ zeros;
    }
