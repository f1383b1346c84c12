use Rattle.std.proofs.Common.{◌≡◌, ◌≤◌, ◌+◌, length, take, max, ap, sym, ◌∙◌, arith, ℕ, List}
use Rattle.std.proofs.lemmas.List.{length-take-le}
use Rattle.disk_model.specs.Disk.{overwritten}
use Rattle.disk_model.specs.Area.{AreaState, after_write}
use Rattle.disk_model.specs.Undo.{UndoState}
use Rattle.disk_model.proofs.Lists.{length-overwritten}
use Rattle.disk_model.proofs.Areas.{write_made, write_is, written_front}
use Rattle.disk_model.proofs.area.Area.write.Goals as goal

-- What is written over the bytes, of which a read gives the front.
module _ (c : goal.After-self-1) where
  abbrev old : List ℕ
  old = c.self.inside.bytes.current

  front : length (take c.self.inside.len old) ≡ c.self.inside.len
  front = length-take-le c.self.inside.len old c.self.invariant.1

  at_end : c.args.at ≤ c.self.inside.len
  at_end = omega (arith, c.requires, ap (λ (s : AreaState). length s.content) c.self.view_is, front)

  made : c.write.new.self.current ≡ overwritten c.args.at c.args.bytes.now old
  made = ap (λ (s : UndoState). s.current) c.in-Ok.ensures.ok

  content : take c.max-self-inside.result c.write.new.self.current ≡ overwritten c.args.at c.args.bytes.now (take c.self.inside.len old)
  content = written_front c.args.at c.self.inside.len c.max-self-inside.result c.args.bytes.now old c.write.new.self.current made at_end c.self.invariant.1
      c.max-self-inside.ensures

  synced : c.write.new.self.settled ≡ c.self.inside.bytes.settled
  synced = ap (λ (s : UndoState). s.settled) c.in-Ok.ensures.ok

  most : length c.write.new.self.current ≡ max (length old) (c.args.at + length c.args.bytes.now)
  most = ap length made ∙ length-overwritten c.args.at c.args.bytes.now old (omega (arith, at_end, c.self.invariant.1))

pub invariant_of-self-in-Ok : goal.invariant_of-self-in-Ok
invariant_of-self-in-Ok c = (
  write_made _ c.args.at c.args.bytes.now _ _ _ _ c.self.invariant.0 (omega (arith, at_end c, front c)) (content c) (synced c) c.in_ok-push.ensures.items
      (most c),
  omega (arith, c.max-self-inside.ensures, ap length (made c), length-overwritten c.args.at c.args.bytes.now (old c) (omega (arith, at_end c, c.self.invariant.1)), c.self.invariant.1),
)

pub returns-in-Ok-clause-ok : goal.returns-in-Ok-clause-ok
returns-in-Ok-clause-ok c =
    write_is c.args.at c.args.bytes.now _ _ _ _ _ (sym c.if-is_empty.ensures) (content c) (synced c) c.in_ok-push.ensures.items (most c)
    ∙ ap (λ (s : AreaState). after_write c.args.at c.args.bytes.now s) c.self.view_is
