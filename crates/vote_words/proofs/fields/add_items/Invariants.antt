use Rattle.std.proofs.Common.{◌≡◌, ◌++◌, codes, length, take}
use Rattle.std.specs.List.{flat_map}
use Rattle.ledger_text.specs.Lines.{counted}
use Rattle.vote_words.specs.Words.{item_text}
use Rattle.vote_words.proofs.fields.add_items.Given as goal

-- the values so far
abbrev pub invariant-loop-item : goal.invariant-loop-item
invariant-loop-item l = l.line.items ≡ l.fn.line.items ++ (counted (codes " values ") (length l.items) ++ flat_map (item_text l.detail) (take l.item-index l.items))
