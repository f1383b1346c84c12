use Rattle.std.proofs.Common.{◌≡◌, ℕ, List, Option, subst, rules}
use Rattle.std.specs.Prelude.{IfOk, IfSome}
use Rattle.hb_base.specs.ByteLists.{AreBytes}
use Rattle.hb_wire.specs.Votes.{spelling, Spells}
use Rattle.hb_wire.proofs.VoteLemmas.{written_spells, spelled_again, vote_again}
use Rattle.hb_wire.proofs.writing.write.Goals as goal

pub returns-clause-spelled : goal.returns-clause-spelled
returns-clause-spelled c =
    let out = c.put_vote.new.out.items in
    let spelled : out ≡ spelling c.args.vote.now = search rules in
    written_spells c.args.n c.args.version c.args.vote.now out c.from_vec.result c.requires c.in_ok-put_vote.ensures.bytes spelled c.from_vec.ensures

pub returns-clause-meant : goal.returns-clause-meant
returns-clause-meant c =
    let out = c.put_vote.new.out.items in
    let spelled : out ≡ spelling c.args.vote.now = search rules in
    let spells : IfOk c.from_vec.result (λ bytes. Spells c.args.n c.args.version bytes c.args.vote.now) =
    written_spells c.args.n c.args.version c.args.vote.now out c.from_vec.result c.requires c.in_ok-put_vote.ensures.bytes spelled c.from_vec.ensures
    in
    spelled_again c.args.n c.args.version c.args.vote.now c.from_vec.result spells

pub returns-in-Some-clause-meant : goal.returns-in-Some-clause-meant
returns-in-Some-clause-meant c =
    let vote = c.args.vote.now in
    vote_again c.args.n c.args.version c.in-Some.bytes vote (record {
      are_bytes = subst (λ (found : Option (List ℕ)). IfSome found AreBytes) c.in-Some.is c.in_ok-bytes.ensures.bytes;
      fits = c.requires;
      spelled = subst (λ (found : Option (List ℕ)). IfSome found (λ bytes. bytes ≡ spelling vote)) c.in-Some.is c.in_ok-bytes.ensures.spelled;
    })
