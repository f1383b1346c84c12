use Rattle.std.proofs.Common.{◌≡◌, rules}
use Rattle.hb_wire.specs.Batches.{batch_bytes}
use Rattle.hb_wire.proofs.BatchLemmas.{written_back, written_value}
use Rattle.hb_wire.proofs.batches.write_batch.Goals as goal

pub returns-clause-read_back : goal.returns-clause-read_back
returns-clause-read_back c =
    let batch = c.args.batch.now in
    let out = c.put_batch.new.out.items in
    let spelled : out ≡ batch_bytes batch = search rules in
    written_back batch out c.from_vec.result c.requires spelled c.from_vec.ensures

pub returns-clause-value : goal.returns-clause-value
returns-clause-value c =
    let batch = c.args.batch.now in
    let out = c.put_batch.new.out.items in
    let spelled : out ≡ batch_bytes batch = search rules in
    written_value batch out c.from_vec.result c.requires spelled c.in_ok-put_batch.ensures.bytes c.from_vec.ensures
