use Rattle.std.proofs.Common.{◌≡◌, true, subst}
use Rattle.hb_wire.specs.declared.vote.Vote.{Vote}
use Rattle.hb_wire.specs.Echoes.{is_valid_echo}
use Rattle.hb_wire.proofs.VoteLemmas.{vote_again}
use Rattle.hb_wire.proofs.post_bytes.PostBytes.of_valid_echo.Goals as goal

pub invariant_of-result : goal.invariant_of-result
invariant_of-result c vote reads =
    let again = vote_again c.args.n c.args.version c.args.bytes c.args.vote.now c.requires.spells in
    let same : c.args.vote.now ≡ vote = cc (again, reads) in
    subst (λ (v : Vote). is_valid_echo c.args.n c.args.m v ≡ true) same c.requires.valid
