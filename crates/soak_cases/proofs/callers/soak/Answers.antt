use Rattle.std.proofs.Common.{rules, map, string_bytes}
use Rattle.hb_app.specs.Commands.{AsksSoak}
use Rattle.soak_cases.proofs.Generated.{ends}
use Rattle.soak_cases.proofs.callers.soak.Goals as goal

pub returns-clause-told : goal.returns-clause-told
returns-clause-told g c ran =
    let asks : AsksSoak (map string_bytes c.as_slice-words.result.now) c.args.number = search rules in
    ((c.hb_main-status.ensures.soak c.args.number asks).0.ran ran).1

pub returns-clause-ends : goal.returns-clause-ends
returns-clause-ends g c ran apart room =
    let asks : AsksSoak (map string_bytes c.as_slice-words.result.now) c.args.number = search rules in
    ends (c.hb_main-status.ensures.soak c.args.number asks).0 ran apart room
