-- The line of a post in words: who sent it where, and the vote that its bytes spell. Numbers are in decimal, bytes in lower-case
-- hex.
use Rattle.std.specs.Prelude.{ℕ, ◌+◌, Bool, true, false, List, [], ◌∷◌, ◌++◌, length, take, Option, None, Some, codes}
use Rattle.std.specs.List.{flat_map}
use Rattle.hex.specs.Hex.{encode_lower}
use Rattle.merkle_branch.specs.declared.Branch.{Branch}
use Rattle.merkle_branch.specs.Branches.{siblings}
use Rattle.hb_wire.specs.declared.items.Item.{Item}
use Rattle.hb_wire.specs.declared.post.Post.{Post}
use Rattle.hb_wire.specs.declared.vote.Vals.{Vals}
use Rattle.hb_wire.specs.declared.vote.Vals.TheVariants.{Zero, One, Both}
use Rattle.hb_wire.specs.declared.vote.Vote.{Vote}
use Rattle.hb_wire.specs.declared.vote.Vote.TheVariants.{Val, Echo, Ready, Delivered, Est, Bval, Aux, Pick, Coin, Decided, Propose, NoMore, Closed}
use Rattle.hb_wire.specs.declared.vote.Vote.TheVariants.{Conf}
use Rattle.hb_base.specs.Numbers.{Numbers}
use Rattle.hb_wire.specs.Reading.{vote_at}
use Rattle.hb_wire.specs.Votes.{epoch_of}
use Rattle.ledger_text.specs.Lines.{counted, end_line}
use Rattle.trace_text.specs.Text.{trace_line, address_text, bytes_text}
use Rattle.vote_words.specs.declared.detail.Detail.{Detail}
use Rattle.vote_words.specs.declared.detail.Detail.TheVariants.{Brief, Full}

-- ---- fields

-- a word, and a root, a salt or a digest: its first four bytes, or all of them
unfoldable pub digest_text : List ℕ → Detail → List ℕ → List ℕ
digest_text word Brief digest = word ++ encode_lower (take 4 digest)
digest_text word Full digest = word ++ encode_lower digest

-- a word, and a shard or a value: how many bytes it has, or all of them, with a dash for none
unfoldable pub string_text : List ℕ → Detail → List ℕ → List ℕ
string_text word Brief bytes = word ++ counted (codes "length ") (length bytes)
string_text word Full bytes = word ++ bytes_text bytes

-- a bit
abbrev pub bit_text : Bool → List ℕ
bit_text false = codes " bit 0"
bit_text true = codes " bit 1"

-- a set of bits
abbrev pub set_text : Vals → List ℕ
set_text Zero = codes " bits 0"
set_text One = codes " bits 1"
set_text Both = codes " bits 0 1"

-- the digests of a branch, from the bottom up
abbrev pub digests_text : Detail → List (List ℕ) → List ℕ
digests_text detail digests = flat_map (λ digest. digest_text (codes " ") detail digest) digests

-- a dash where there is no digest
abbrev pub if_none : List (List ℕ) → List ℕ
if_none [] = codes " -"
if_none (digest ∷ digests) = []

-- a branch
unfoldable pub branch_text : Detail → Branch → List ℕ
branch_text detail branch = codes " branch" ++ (digests_text detail (siblings branch) ++ if_none (siblings branch))

-- what shows a shard of a broadcast
unfoldable pub shard_text : Detail → List ℕ → List ℕ → Branch → List ℕ
shard_text detail root shard branch = digest_text (codes " root ") detail root ++ (string_text (codes " shard ") detail shard ++ branch_text detail branch)

-- what shows a share of the coin of a round
unfoldable pub share_text : Detail → ℕ → ℕ → List ℕ → Branch → List ℕ
share_text detail round share salt branch =
    counted (codes " round ") round ++ (counted (codes " share ") share ++ (digest_text (codes " salt ") detail salt ++ branch_text detail branch))

-- a round, and a bit
unfoldable pub round_bit_text : ℕ → Bool → List ℕ
round_bit_text round bit = counted (codes " round ") round ++ bit_text bit

-- a round, and a set of bits
unfoldable pub round_set_text : ℕ → Vals → List ℕ
round_set_text round vals = counted (codes " round ") round ++ set_text vals

-- a node, and its value
unfoldable pub item_text : Detail → Item → List ℕ
item_text detail item = counted (codes " node ") item.node ++ string_text (codes " value ") detail item.value

-- how many values there are, and each
unfoldable pub items_text : Detail → List Item → List ℕ
items_text detail items = counted (codes " values ") (length items) ++ flat_map (item_text detail) items

-- ---- votes

-- the name of a vote, and the word before its epoch
abbrev pub name_text : Vote → List ℕ
name_text (Val epoch target root shard branch) = codes "VAL epoch "
name_text (Echo epoch root shard branch) = codes "ECHO epoch "
name_text (Ready epoch root) = codes "READY epoch "
name_text (Delivered epoch value) = codes "DELIVERED epoch "
name_text (Est epoch round bit) = codes "EST epoch "
name_text (Bval epoch round bit) = codes "BVAL epoch "
name_text (Aux epoch round bit) = codes "AUX epoch "
name_text (Pick epoch round vals) = codes "PICK epoch "
name_text (Coin epoch round share salt branch) = codes "COIN epoch "
name_text (Decided epoch bit) = codes "DECIDED epoch "
name_text (Conf epoch round vals) = codes "CONF epoch "
name_text (Propose epoch value) = codes "PROPOSE epoch "
name_text (NoMore epoch) = codes "NOMORE epoch "
name_text (Closed epoch items) = codes "CLOSED epoch "

-- the fields of a vote behind its epoch
abbrev pub fields_text : Detail → Vote → List ℕ
fields_text detail (Val epoch target root shard branch) = counted (codes " target ") target ++ shard_text detail root shard branch
fields_text detail (Echo epoch root shard branch) = shard_text detail root shard branch
fields_text detail (Ready epoch root) = digest_text (codes " root ") detail root
fields_text detail (Delivered epoch value) = string_text (codes " value ") detail value
fields_text detail (Est epoch round bit) = round_bit_text round bit
fields_text detail (Bval epoch round bit) = round_bit_text round bit
fields_text detail (Aux epoch round bit) = round_bit_text round bit
fields_text detail (Pick epoch round vals) = round_set_text round vals
fields_text detail (Coin epoch round share salt branch) = share_text detail round share salt branch
fields_text detail (Decided epoch bit) = bit_text bit
fields_text detail (Conf epoch round vals) = round_set_text round vals
fields_text detail (Propose epoch value) = string_text (codes " value ") detail value
fields_text detail (NoMore epoch) = []
fields_text detail (Closed epoch items) = items_text detail items

-- a vote
unfoldable pub vote_text : Detail → Vote → List ℕ
vote_text detail vote = counted (name_text vote) (epoch_of vote) ++ fields_text detail vote

-- bytes that spell no vote
unfoldable pub no_vote_text : Detail → List ℕ → List ℕ
no_vote_text Brief bytes = codes "no vote"
no_vote_text Full bytes = codes "no vote " ++ bytes_text bytes

-- bytes, and the vote that they spell
abbrev pub said_text : Detail → List ℕ → Option Vote → List ℕ
said_text detail bytes None = no_vote_text detail bytes
said_text detail bytes (Some vote) = vote_text detail vote

-- ---- lines

-- post k up to its bytes: its sender, and where it goes
unfoldable pub front_text : ℕ → Post → List ℕ
front_text k post =
    counted (codes "post ") k ++ (counted (codes " from ") post.from ++ (counted (codes " actor ") post.actor
    ++ (codes " to " ++ (address_text post.to ++ codes ": "))))

-- The line of post k of a run. The vote is the one that the bytes spell among the nodes of the run, under its version of the
-- rules.
unfoldable pub post_in_words : Detail → Numbers → ℕ → Post → List ℕ
post_in_words detail c k post = front_text k post ++ (said_text detail post.bytes (vote_at c.n c.version post.bytes) ++ codes "\n")

-- the lines of posts, numbered from k on
abbrev pub posts_in_words : Detail → Numbers → ℕ → List Post → List ℕ
posts_in_words detail c k [] = []
posts_in_words detail c k (post ∷ posts) = post_in_words detail c k post ++ posts_in_words detail c (k + 1) posts

-- the first line of a run, and the lines of posts
unfoldable pub begun_in_words : Detail → Numbers → List Post → List ℕ
begun_in_words detail c posts = trace_line c ++ posts_in_words detail c 0 posts

-- the whole history
unfoldable pub history_in_words : Detail → Numbers → List Post → List ℕ
history_in_words detail c posts = begun_in_words detail c posts ++ end_line (length posts)
