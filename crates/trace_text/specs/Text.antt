-- What is printed of a history: its run's numbers, each post with its number, and how many there are. Numbers are in decimal,
-- bytes in lower-case hex.
use Rattle.std.specs.Prelude.{ℕ, zero, suc, ◌+◌, ◌^◌, Bool, List, [], ◌∷◌, ◌++◌, length, if◌then◌else◌, codes}
use Rattle.hex.specs.Hex.{encode_lower}
use Rattle.hb_base.specs.Limits.{most_nodes}
use Rattle.hb_base.specs.NodeSet.{is_in}
use Rattle.hb_base.specs.Numbers.{Numbers}
use Rattle.hb_wire.specs.declared.vote.To.{To}
use Rattle.hb_wire.specs.declared.vote.To.TheVariants.{Book, Home, All, Node}
use Rattle.hb_wire.specs.declared.post.Post.{Post}
use Rattle.hb_rules.specs.declared.report.Report.{Report}
use Rattle.ledger_text.specs.Lines.{counted, end_line}

-- the sum of 2 ^ i over the nodes i below n that pass a test
abbrev pub nodes_number : ℕ → (ℕ → Bool) → ℕ
nodes_number zero test = 0
nodes_number (suc n) test = nodes_number n test + (if test n then 2 ^ n else 0)

-- the numbers of the run, of its liars the sum of 2 ^ i over them
unfoldable pub trace_line : Numbers → List ℕ
trace_line c =
    counted (codes "trace nodes ") c.n ++ (counted (codes " faulty ") c.f ++ (counted (codes " version ") c.version
    ++ (counted (codes " epochs ") c.epochs ++ (counted (codes " rounds ") c.rounds ++ (counted (codes " batch ") c.batch
    ++ (counted (codes " seed ") c.seed ++ (counted (codes " liars ") (nodes_number most_nodes (is_in c.liars)) ++ codes "\n")))))))

-- where a post goes
unfoldable pub address_text : To → List ℕ
address_text Book = codes "book"
address_text Home = codes "home"
address_text All = codes "all"
address_text (Node m) = counted (codes "node ") m

-- bytes, and a dash where there are none
unfoldable pub bytes_text : List ℕ → List ℕ
bytes_text [] = codes "-"
bytes_text (byte ∷ bytes) = encode_lower (byte ∷ bytes)

-- post k up to its bytes: its sender, and where it goes
unfoldable pub post_words : ℕ → Post → List ℕ
post_words k post =
    counted (codes "post ") k ++ (counted (codes " from ") post.from ++ (counted (codes " actor ") post.actor
    ++ (codes " to " ++ (address_text post.to ++ codes " "))))

-- the line of post k
unfoldable pub post_line : ℕ → Post → List ℕ
post_line k post = post_words k post ++ (bytes_text post.bytes ++ codes "\n")

-- the lines of posts, numbered from k on
abbrev pub posts_text : ℕ → List Post → List ℕ
posts_text k [] = []
posts_text k (post ∷ posts) = post_line k post ++ posts_text (k + 1) posts

-- the whole text of a report's history
unfoldable pub trace_text : Report → List ℕ
trace_text report =
    trace_line report.config ++ (posts_text 0 report.history.items ++ end_line (length report.history.items))
