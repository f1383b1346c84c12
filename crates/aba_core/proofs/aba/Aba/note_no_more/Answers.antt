use Rattle.std.proofs.Common.{false, sym, ap, ◌∙◌}
use Rattle.hb_rules.specs.Marks.{any_est}
use Rattle.aba_core.specs.State.{AbaView, mark_at}
use Rattle.aba_core.specs.Inputs.{with_input}
use Rattle.aba_core.proofs.Notes.{Notes-no_more_of}
use Rattle.aba_core.proofs.Inputs.{Notes-no_more, Notes-no_more_begun}
use Rattle.aba_core.proofs.aba.Aba.note_no_more.Goals as goal

pub returns-then-from-self : goal.returns-then-from-self
returns-then-from-self c = rw (← c.self.view_is) (Notes-no_more_of _ c.args.from (rw (← c.self.view_is) at c.requires) c.if-from-self.true)

pub returns-then-has_begun : goal.returns-then-has_begun
returns-then-has_begun c =
    rw (c.take.ensures, ← c.self.view_is) (Notes-no_more_begun _ c.args.from c.self.invariant.aba c.if-from-self.false
    (ap (λ (a : AbaView). mark_at a (any_est 0)) (sym (c.take.ensures ∙ ap (with_input false) (sym c.self.view_is))) ∙ sym c.has_begun.ensures ∙ c.if-has_begun.true))

pub returns : goal.returns
returns c =
    rw (c.take.ensures, ← c.self.view_is) (Notes-no_more _ c.args.from c.self.invariant.aba c.if-from-self.false
    (ap (λ (a : AbaView). mark_at a (any_est 0)) (sym (c.take.ensures ∙ ap (with_input false) (sym c.self.view_is))) ∙ sym c.has_begun.ensures ∙ c.if-has_begun.false))
