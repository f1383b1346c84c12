-- The lines of the text of a run. Numbers are in decimal, bytes in lower-case hex. The letters: i is a node of a run with config
-- c, x an actor, e an epoch, j the node of a batch.
use Rattle.std.specs.Prelude.{ℕ, Bool, true, false, List, ◌++◌, codes, decimal}
use Rattle.hex.specs.Hex.{encode_lower}
use Rattle.hb_base.specs.Numbers.{Numbers}
use Rattle.hb_rules.specs.declared.report.Fate.{Fate}
use Rattle.hb_rules.specs.declared.report.Fate.TheVariants.{Running, Memory, Journal, Full}

-- a word, and a number
unfoldable pub counted : List ℕ → ℕ → List ℕ
counted word number = word ++ decimal number

-- the first line of a text: a word, and the numbers of the run
unfoldable pub numbers_line : List ℕ → Numbers → List ℕ
numbers_line word c =
    word ++ (counted (codes " nodes ") c.n ++ (counted (codes " faulty ") c.f ++ (counted (codes " version ") c.version
    ++ (counted (codes " epochs ") c.epochs ++ codes "\n"))))

-- a node, and what it is
unfoldable pub node_line : ℕ → List ℕ → List ℕ
node_line i word = counted (codes "node ") i ++ (codes " " ++ (word ++ codes "\n"))

-- the word of a fate
abbrev pub fate_word : Fate → List ℕ
fate_word Running = codes "running"
fate_word Memory = codes "memory"
fate_word Journal = codes "journal"
fate_word Full = codes "full"

-- an actor, and how it has ended
unfoldable pub actor_line : ℕ → Fate → List ℕ
actor_line x fate = counted (codes "actor ") x ++ (codes " " ++ (fate_word fate ++ codes "\n"))

-- an epoch, and how many batches its list has
unfoldable pub epoch_line : ℕ → ℕ → List ℕ
epoch_line e batches = counted (codes "epoch ") e ++ (counted (codes " batches ") batches ++ codes "\n")

-- the batch of a node, and how many transactions it has
unfoldable pub batch_line : ℕ → ℕ → List ℕ
batch_line j txs = counted (codes "batch ") j ++ (counted (codes " txs ") txs ++ codes "\n")

unfoldable pub tx_line : List ℕ → List ℕ
tx_line tx = codes "tx " ++ (encode_lower tx ++ codes "\n")

-- the last line of a text, with a number: of a run the status
unfoldable pub end_line : ℕ → List ℕ
end_line number = counted (codes "end ") number ++ codes "\n"

unfoldable pub soak_line : ℕ → Numbers → ℕ → List ℕ
soak_line number c workers =
    counted (codes "soak ") number ++ (counted (codes " nodes ") c.n ++ (counted (codes " faulty ") c.f ++ (counted (codes " epochs ") c.epochs
    ++ (counted (codes " batch ") c.batch ++ (counted (codes " workers ") workers ++ codes "\n")))))

abbrev pub yes_or_no : Bool → List ℕ
yes_or_no true = codes "yes"
yes_or_no false = codes "no"

-- a question, and its answer
unfoldable pub answer_line : List ℕ → Bool → List ℕ
answer_line question answer = question ++ (codes " " ++ (yes_or_no answer ++ codes "\n"))
