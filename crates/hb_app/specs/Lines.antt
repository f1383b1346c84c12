-- The lines that are told besides the text of a run and the line of a fault.
use Rattle.std.specs.Prelude.{ℕ, List, codes}

abbrev pub usage_line : List ℕ
usage_line = codes "usage: hb_ledger run|soak N|trace|audit|observe|accuse\n"

abbrev pub read_line : List ℕ
read_line = codes "read failed\n"

abbrev pub write_line : List ℕ
write_line = codes "write failed\n"

abbrev pub memory_line : List ℕ
memory_line = codes "no memory\n"
