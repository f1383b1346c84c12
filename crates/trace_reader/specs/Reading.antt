-- Reading a text of a history from left to right: a field is a value and the bytes behind it.
use Rattle.std.specs.Prelude.{ℕ, ◌+◌, ◌-◌, ◌^◌, Bool, ◌&&◌, ◌||◌, ◌==◌, nat_lt, nat_le, if◌then◌else◌, List, [], ◌++◌, length, take, drop}
use Rattle.std.specs.Prelude.{slice_index, codes, bytes_eq, Option, Some, None, option_map}
use Rattle.std.specs.Option.{option_or}
use Rattle.std.specs.Result.{result_ok}
use Rattle.std.specs.List.{prefix_len, position, list_any}
use Rattle.std.specs.Char.{is_ascii_digit, is_ascii_uppercase}
use Rattle.std.specs.Str.Parse.{digits_value}
use Rattle.hex.specs.Hex.{decode_of}
use Rattle.hb_base.specs.Limits.{most_nodes}
use Rattle.hb_base.specs.NodeSet.{is_in}
use Rattle.hb_base.specs.Numbers.{Numbers}
use Rattle.hb_wire.specs.Reading.{◌>>=◌, pair, made}
use Rattle.hb_wire.specs.declared.vote.To.{To}
use Rattle.hb_wire.specs.declared.vote.To.TheVariants.{Book, Home, All, Node}
use Rattle.hb_wire.specs.declared.post.Post.{Post}
use Rattle.ledger_text.specs.Lines.{counted, end_line}
use Rattle.trace_text.specs.Text.{nodes_number}
use Rattle.trace_reader.specs.declared.head.Head.{Head}
use Rattle.trace_reader.specs.declared.post.Words.{Words}

-- ---- words and numbers

-- the bytes behind a word, where they begin with it
abbrev pub after : List ℕ → List ℕ → Option (List ℕ)
after word bytes = if bytes_eq (take (length word) bytes) word then Some (drop (length word) bytes) else None

-- a single digit, or digits of which the first isn't 0
abbrev pub is_plain : List ℕ → Bool
is_plain digits = (length digits == 1) || nat_lt 48 (slice_index digits 0)

-- a number in decimal without needless zeros, at most so large
unfoldable pub number_at : ℕ → List ℕ → Option (ℕ × List ℕ)
number_at most bytes =
    let count = prefix_len is_ascii_digit bytes in
    let number = digits_value 10 (take count bytes) in
    if is_plain (take count bytes) && nat_le number most then Some (number, drop count bytes) else None

-- a number, and a word behind it
unfoldable pub number_before : List ℕ → ℕ → List ℕ → Option (ℕ × List ℕ)
number_before word most bytes = number_at most bytes >>= λ n. after word n.1 >>= λ rest. Some (n.0, rest)

-- ---- the first line

-- the numbers behind the first words
abbrev pub numbers_at : List ℕ → Option ((ℕ × (ℕ × (ℕ × (ℕ × (ℕ × (ℕ × (ℕ × ℕ))))))) × List ℕ)
numbers_at =
    pair (number_before (codes " faulty ") 255) (pair (number_before (codes " version ") 255)
    (pair (number_before (codes " epochs ") 255) (pair (number_before (codes " rounds ") 255)
    (pair (number_before (codes " batch ") 255) (pair (number_before (codes " seed ") 255)
    (pair (number_before (codes " liars ") (2 ^ 64 - 1)) (number_before (codes "\n") 65535)))))))

abbrev pub head_of : (ℕ × (ℕ × (ℕ × (ℕ × (ℕ × (ℕ × (ℕ × ℕ))))))) → Head
head_of x = record {
  nodes = x.0;
  faulty = x.1.0;
  version = x.1.1.0;
  epochs = x.1.1.1.0;
  rounds = x.1.1.1.1.0;
  batch = x.1.1.1.1.1.0;
  seed = x.1.1.1.1.1.1.0;
  liars = x.1.1.1.1.1.1.1;
}

unfoldable pub head_at : List ℕ → Option (Head × List ℕ)
head_at bytes = after (codes "trace nodes ") bytes >>= λ rest. made head_of numbers_at rest

-- the numbers of the first line of a run
abbrev pub numbers_of : Numbers → Head
numbers_of c = record {
  nodes = c.n;
  faulty = c.f;
  version = c.version;
  epochs = c.epochs;
  rounds = c.rounds;
  batch = c.batch;
  seed = c.seed;
  liars = nodes_number most_nodes (is_in c.liars);
}

-- ---- the line of a post

-- a post goes where the word says that the bytes begin with
abbrev pub addressed : To → Option (List ℕ) → Option (To × List ℕ)
addressed to found = option_map (λ rest. (to, rest)) found

unfoldable pub node_at : List ℕ → Option (To × List ℕ)
node_at bytes = after (codes "node ") bytes >>= λ rest. number_before (codes " ") 255 rest >>= λ n. Some (Node n.0, n.1)

-- where a post goes, and a blank
unfoldable pub address_at : List ℕ → Option (To × List ℕ)
address_at bytes =
    option_or (addressed Book (after (codes "book ") bytes)) (option_or (addressed Home (after (codes "home ") bytes))
    (option_or (addressed All (after (codes "all ") bytes)) (node_at bytes)))

abbrev pub words_of : (ℕ × (ℕ × To)) → Words
words_of x = record { from = x.0; actor = x.1.0; to = x.1.1 }

-- the words of post k up to its bytes
unfoldable pub words_at : ℕ → List ℕ → Option (Words × List ℕ)
words_at k bytes =
    after (counted (codes "post ") k ++ codes " from ") bytes
    >>= λ rest. made words_of (pair (number_before (codes " actor ") 255) (pair (number_before (codes " to ") 255) address_at)) rest

-- a line without its end, and the bytes behind that
unfoldable pub line_at : List ℕ → Option (List ℕ × List ℕ)
line_at bytes = position (λ byte. byte == 10) bytes >>= λ count. Some (take count bytes, drop (count + 1) bytes)

-- the bytes that a text in lower-case hex stands for; a dash stands for none
unfoldable pub bytes_of : List ℕ → Option (List ℕ)
bytes_of text =
    if bytes_eq text (codes "-") then Some []
    else if (length text == 0) || list_any is_ascii_uppercase text then None
    else result_ok (decode_of text)

-- the bytes of a post, and the end of its line
unfoldable pub bytes_at : List ℕ → Option (List ℕ × List ℕ)
bytes_at bytes = line_at bytes >>= λ line. bytes_of line.0 >>= λ read. Some (read, line.1)

abbrev pub post_of : Words × List ℕ → Post
post_of x = record { from = x.0.from; actor = x.0.actor; to = x.0.to; bytes = x.1 }

-- the post with these words whose bytes come next, and what is behind its line
unfoldable pub with_words : Words → List ℕ → Option (Post × List ℕ)
with_words words bytes = bytes_at bytes >>= λ read. Some (post_of (words, read.0), read.1)

-- post k, and what is behind its line
unfoldable pub post_at : ℕ → List ℕ → Option (Post × List ℕ)
post_at k bytes = made post_of (pair (words_at k) bytes_at) bytes

-- what is behind the last line, that of so many posts
abbrev pub end_at : ℕ → List ℕ → Option (List ℕ)
end_at count bytes = after (end_line count) bytes
