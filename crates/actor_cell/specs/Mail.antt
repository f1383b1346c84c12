-- The mail of an actor: which numbers it has to put into whose mailboxes, and what comes of that. The letters: a run of config c
-- and script s, post k, actor x of node i.
use Rattle.std.specs.Prelude.{◌≡◌, ◌⊎◌, ℕ, ◌+◌, ◌==◌, ◌&&◌, ◌||◌, Bool, true, false, List, [], ◌∷◌, if◌then◌else◌, Option, None, Some, slice_get, slice_index_or, replicate}
use Rattle.std.specs.List.{list_any, flat_map, range_with_len}
use Rattle.hb_base.specs.Numbers.{Numbers}
use Rattle.hb_base.specs.NodeSet.{is_in}
use Rattle.hb_wire.specs.declared.post.Post.{Post}
use Rattle.hb_wire.specs.Addresses.{reaches}
use Rattle.net_script.specs.declared.script.Script.{Script}
use Rattle.net_script.specs.declared.script.Shape.{Shape}
use Rattle.net_script.specs.declared.script.Shape.TheVariants.{Once, Twice, Late, Drop}
use Rattle.net_script.specs.Delivery.{shape_of}
use Rattle.actor_cell.specs.Boxes.{BoxesView, place_of}
use Rattle.actor_cell.specs.Marks.{is_marked}
use Rattle.actor_cell.specs.Passes.{PassesView, puts_of, blocks_of, with_put}

-- the mailboxes of the run, the actor's passes to them, and the actors whose mailbox refused a number
pub record MailView : Type 0 where
  pub boxes : BoxesView
  pub passes : PassesView
  pub noted : List (List Bool)

-- ---- what is to be put

-- a number to be put into the mailbox of actor x of node i, or of node i if it lies, of which actor 0 then stands for all
pub record Delivery : Type 0 where
  pub node : ℕ
  pub actor : ℕ
  pub number : ℕ

abbrev pub delivery : ℕ → ℕ → ℕ → Delivery
delivery i x k = record { node = i; actor = x; number = k }

-- how often a number is put by its shape. A late one is held back by whoever takes it.
abbrev pub copies : Shape → ℕ
copies Once = 1
copies Twice = 2
copies Late = 1
copies Drop = 0

-- whether a post reaches any actor of a node
abbrev pub reaches_node : ℕ → Post → ℕ → Bool
reaches_node n post i = list_any (reaches n post i) (range_with_len 0 (n + 1))

-- by its shape, what is to be put for one actor, and that if it is reached
abbrev pub by_shape : Script → Post → ℕ → ℕ → ℕ → List Delivery
by_shape s post k i x = replicate (copies (shape_of s.links.items post.from i k)) (delivery i x k)

abbrev pub if_reached : Numbers → Script → Post → ℕ → ℕ → ℕ → List Delivery
if_reached c s post k i x = if reaches c.n post i x then by_shape s post k i x else []

-- what is to be put for a node that lies, and for each actor of a correct one
abbrev pub at_liar : Numbers → Script → Post → ℕ → ℕ → List Delivery
at_liar c s post k i = if reaches_node c.n post i then by_shape s post k i 0 else []

abbrev pub at_correct : Numbers → Script → Post → ℕ → ℕ → List Delivery
at_correct c s post k i = flat_map (if_reached c s post k i) (range_with_len 0 (c.n + 1))

abbrev pub at_node : Numbers → Script → Post → ℕ → ℕ → List Delivery
at_node c s post k i = if is_in c.liars i then at_liar c s post k i else at_correct c s post k i

-- for all nodes
abbrev pub of_post : Numbers → Script → Post → ℕ → List Delivery
of_post c s post k = flat_map (at_node c s post k) (range_with_len 0 c.n)

abbrev pub of_found : Numbers → Script → Option Post → ℕ → List Delivery
of_found c s None k = []
of_found c s (Some post) k = of_post c s post k

-- what is to be put of the posts with these numbers
abbrev pub deliveries : Numbers → Script → List Post → List ℕ → List Delivery
deliveries c s posts numbers = flat_map (λ k. of_found c s (slice_get posts k) k) numbers

-- ---- what was put

-- what was put through each pass, in the order of the mailboxes, whether it saw last that a new block is needed, and who was
-- noted
pub record Sent : Type 0 where
  pub puts : List (List ℕ)
  pub blocks : List Bool
  pub noted : List (List Bool)

abbrev pub sent_of : MailView → Sent
sent_of mail = record { puts = puts_of mail.passes; blocks = blocks_of mail.passes; noted = mail.noted }

-- the number was added to the list of the pass for the mailbox of that actor, and to no other
pub record IsPut (c : Numbers) (d : Delivery) (old new : Sent) : Type 0 where
  pub puts : new.puts ≡ with_put (place_of c d.node d.actor) d.number old.puts
  pub noted : new.noted ≡ old.noted

-- the number was not put, since the mailbox needs a new block for it, and the actor was noted
pub record IsRefusedBy (c : Numbers) (d : Delivery) (old new : Sent) : Type 0 where
  pub puts : new.puts ≡ old.puts
  pub cause : slice_index_or new.blocks (place_of c d.node d.actor) false ≡ true
  pub noted : (i x : ℕ) → is_marked new.noted i x ≡ (((i == d.node) && (x == d.actor)) || is_marked old.noted i x)

-- one after another, each was put or refused, and nothing else was put
abbrev pub ArePut : Numbers → List Delivery → Sent → Sent → Type 0
ArePut c [] old new = new ≡ old
ArePut c (d ∷ ds) old new = (mid : Sent) × (IsPut c d old mid ⊎ IsRefusedBy c d old mid) × ArePut c ds mid new

-- the same mailboxes, and what was taken is as before; the take pass may have been told of more own puts
pub record IsSameTaker (old new : MailView) : Type 0 where
  pub boxes : new.boxes ≡ old.boxes
  pub place : new.passes.place ≡ old.passes.place
  pub take : new.passes.take ≡ record old.passes.take { own = new.passes.take.own }

-- each of these was put or not put and its actor noted, and nothing was taken
pub record AreSent (c : Numbers) (ds : List Delivery) (old new : MailView) : Type 0 where
  pub taker : IsSameTaker old new
  pub put : ArePut c ds (sent_of old) (sent_of new)
