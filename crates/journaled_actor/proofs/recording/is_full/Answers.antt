use Rattle.std.proofs.Common.{sym, ◌∙◌, rules, tests}
use Rattle.vote_journal.specs.Usable.{entries_in_journal, entry_count, byte_count}
use Rattle.journaled_actor.proofs.Left.{full_by, not_64, not_equal}
use Rattle.journaled_actor.proofs.recording.is_full.Goals as goal

pub returns-then-entries-eq-MOST_ENTRIES : goal.returns-then-entries-eq-MOST_ENTRIES
returns-then-entries-eq-MOST_ENTRIES g c =
    let j = c.args.journal.now in
    full_by (entries_in_journal g.D.Disk.seen j) (entry_count j) (byte_count j) c.requires.count c.requires.bytes
    (sym c.entries.ensures ∙ c.if-entries-eq-MOST_ENTRIES.true) _ (λ h. search (rules, tests)) (λ h. search (rules, tests))

pub returns-else-entries-eq-MOST_ENTRIES : goal.returns-else-entries-eq-MOST_ENTRIES
returns-else-entries-eq-MOST_ENTRIES g c =
    let j = c.args.journal.now in
    not_equal c.entries.result 64 c.if-entries-eq-MOST_ENTRIES.false
    ∙ not_64 (entries_in_journal g.D.Disk.seen j) (entry_count j) (byte_count j) c.requires.count c.requires.bytes
    (λ is. c.if-entries-eq-MOST_ENTRIES.false (c.entries.ensures ∙ is))
