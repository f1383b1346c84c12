use Rattle.std.proofs.Common.{List, ℕ, length, ap, arith}
use Rattle.journaled_actor.proofs.Lengths.{spelling_short}
use Rattle.journaled_actor.proofs.payload.put_vote.Goals as goal

pub put_sized-requires : goal.put_sized-requires
put_sized-requires c =
    let few = spelling_short c.args.config.now.n c.args.config.now.version c.args.vote.now (omega (arith, c.n-n.ensures.value, c.n-n.ensures.bounds.1)) c.requires in
    omega (arith, few, ap (λ (xs : List ℕ). length xs) c.in_ok-bytes.ensures.spelled, ap (λ (xs : List ℕ). length xs) c.as_slice.ensures)
