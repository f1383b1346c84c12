use Rattle.std.proofs.Common.{◌∙◌, ap, subst, sym, []}
use Rattle.vote_journal.specs.Text.{IsSound, live_entries}
use Rattle.vote_journal.proofs.Says.{alone, alone_few, held_says, text_is}
use Rattle.vote_journal.proofs.Alone.{live_alone}
use Rattle.vote_journal.proofs.laws.usable_laws.Goals as goal

pub returns-clause-sound : goal.returns-clause-sound
returns-clause-sound g c = λ journal usable. (held_says journal.live (g.D.Disk.seen journal.disk) _ [] _ _ usable.live usable.spare (alone _) (alone_few _)).sound

pub returns-clause-entries : goal.returns-clause-entries
returns-clause-entries g c = λ journal usable. live_alone journal.live (g.D.Disk.seen journal.disk) _ usable.live usable.spare

pub returns-clause-text : goal.returns-clause-text
returns-clause-text g c = λ journal usable. text_is journal.live (g.D.Disk.seen journal.disk) _ usable.live usable.spare

pub returns-clause-crash : goal.returns-clause-crash
returns-clause-crash g c = λ journal left usable may.
    let same = usable.durable left may in (
      subst IsSound (sym same) (returns-clause-sound g c journal usable),
      ap live_entries same ∙ returns-clause-entries g c journal usable,
    )
