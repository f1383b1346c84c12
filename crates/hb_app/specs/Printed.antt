-- The texts of a run.
use Rattle.std.specs.Prelude.{ℕ, List, Result, Ok, Err, ⊤}
use Rattle.hb_rules.specs.declared.report.Report.{Report}
use Rattle.ledger_text.specs.Text.{run_text, soak_text}
use Rattle.trace_text.specs.Text.{trace_text}
use Rattle.observer_text.specs.Text.{observe_text}
use Rattle.accuse.specs.Accused.{accused}
use Rattle.accuse_text.specs.Text.{accuse_text}
use Rattle.hb_app.specs.declared.command.Text.{Text}
use Rattle.hb_app.specs.declared.command.Text.TheVariants.{Ledgers, Trace, Observed, Accused}
use Rattle.hb_app.specs.declared.printing.PrintFault.{PrintFault}
use Rattle.hb_app.specs.declared.printing.PrintFault.TheVariants.{Sink, Memory}
use Rattle.hb_app.specs.declared.task.Wanted.{Wanted}
use Rattle.hb_app.specs.declared.task.Wanted.TheVariants.{Word, Soaked}
use Rattle.hb_app.specs.Streams.{SinkView, IsUnused, HasPut, FailsWithin}

-- what is printed of a report
abbrev pub text_of : Text → Report → List ℕ
text_of Ledgers report = run_text report
text_of Trace report = trace_text report
text_of Observed report = observe_text report
text_of Accused report = accuse_text report (accused report.config report.history.items)

-- a text for which memory may be wanting
abbrev pub WantsMemory : Text → Type 0
WantsMemory Ledgers = ⊥
WantsMemory Trace = ⊥
WantsMemory Observed = Unit {0}
WantsMemory Accused = Unit {0}

-- the text that is wanted of a report
abbrev pub wanted_text : Wanted → Report → List ℕ
wanted_text (Word text) report = text_of text report
wanted_text (Soaked number) report = soak_text number report

-- it is one for which memory may be wanting
abbrev pub MayLackMemory : Wanted → Type 0
MayLackMemory (Word text) = WantsMemory text
MayLackMemory (Soaked number) = ⊥

-- the text was put, or a front of it, or nothing for want of memory
abbrev pub Prints : {O : Type 0} → Wanted → Report → SinkView O → SinkView O → Result ⊤ PrintFault → Type 0
Prints wanted report old new (Ok done) = HasPut old new (wanted_text wanted report)
Prints wanted report old new (Err Sink) = FailsWithin old new (wanted_text wanted report)
Prints wanted report old new (Err Memory) = MayLackMemory wanted × IsUnused old new
