use Rattle.std.proofs.Common.{◌≡◌, ◌∙◌, sym}
use Rattle.vote_journal.proofs.journal.Journal.append_entry.Goals as goal

pub returns : goal.returns
returns g c =
    let is : c.payload_in.result.now ≡ c.args.entry.payload = c.payload_in.ensures c.args.entry.payload (c.deref.ensures.value ∙ c.into_framed-framed.ensures) in
    rw (sym is) c.add.ensures
