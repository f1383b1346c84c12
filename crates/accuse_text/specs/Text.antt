-- What is printed of accusations. Numbers are in decimal.
use Rattle.std.specs.Prelude.{ℕ, List, ◌++◌, codes}
use Rattle.std.specs.List.{flat_map}
use Rattle.hb_rules.specs.declared.report.Report.{Report}
use Rattle.ledger_text.specs.Lines.{counted, numbers_line, end_line}
use Rattle.accuse.specs.declared.accusation.Accusation.{Accusation}

-- a node, and the numbers of its two posts
unfoldable pub accused_line : Accusation → List ℕ
accused_line a =
    counted (codes "accused ") a.node ++ (counted (codes " posts ") a.first ++ (counted (codes " ") a.second ++ codes "\n"))

-- the whole text
unfoldable pub accuse_text : Report → List Accusation → List ℕ
accuse_text report found = numbers_line (codes "accuse") report.config ++ (flat_map accused_line found ++ end_line report.status)
