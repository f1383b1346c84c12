use Rattle.std.proofs.Common.{◌≡◌, ◌∙◌, arith}
use Rattle.std.specs.Option.{option_map}
use Rattle.hb_wire.specs.Reading.{vote_at, whole_vote}
use Rattle.hb_wire.specs.Views.{vote_of}
use Rattle.hb_wire.proofs.VoteLemmas.{vote_is, shown_is, spells_seen}
use Rattle.hb_wire.proofs.reading.view.Goals as goal

pub returns-clause-meant : goal.returns-clause-meant
returns-clause-meant c =
    vote_is c.args.n c.args.version c.args.bytes.now (λ i. omega (arith, c.type_inv.bytes i))
    ∙ shown_is vote_of c.scan.result (whole_vote c.args.n c.args.version c.args.bytes.now) c.scan.ensures

pub returns-clause-found : goal.returns-clause-found
returns-clause-found c =
    let n = c.args.n in
    let version = c.args.version in
    let bytes = c.args.bytes.now in
    let meant : vote_at n version bytes ≡ option_map vote_of c.scan.result =
    vote_is n version bytes (λ i. omega (arith, c.type_inv.bytes i)) ∙ shown_is vote_of c.scan.result (whole_vote n version bytes) c.scan.ensures
    in
    spells_seen vote_of n version bytes c.scan.result meant
