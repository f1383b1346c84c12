-- What a contract sees of a pass.
use Rattle.std.specs.Prelude.{◌≡◌, ℕ, ◌%◌, ◌==◌, nat_le, Bool, true, false, ◌&&◌, ◌||◌, List, Option, None, slice_index}
use Rattle.std.specs.Global.{Global}
use Rattle.atomic_blocks.specs.Laid.{WebId}
use Rattle.atomic_blocks.specs.declared.web.Seat.{Seat}
use Rattle.crossbeam_queue.specs.declared.seg_queue.Going.{Going}
use Rattle.crossbeam_queue.specs.declared.seg_queue.Stage.{Stage}
use Rattle.crossbeam_queue.specs.declared.seg_queue.Stage.TheVariants.{SawHead, SawTail}
use Rattle.mailbox.specs.declared.rule.View.{View}
use Rattle.mailbox.specs.Ordered.{putter, taker}

-- The mailbox that it belongs to, how many splits it comes from, what it put, in order, how often it was asked to put, and
-- whether the last that it saw of the queue is a place which needs a new block of memory, or the end of the 2 ^ 62 places.
-- A put counts first, after which no clause tells what was seen before.
pub record PutPassView : Type 0 where
  pub at : WebId
  pub splits : ℕ
  pub put : List ℕ
  pub asked : ℕ
  pub needs_block : Bool

-- the mailbox that it belongs to, what it took, in order, and of the put passes that it took in how many splits each comes
-- from and what each put, in order; how often it was asked for a number; what was put through the pass that it was told of
-- last, up to the last `put_own`; and whether, since it was asked last, both ends of the queue were seen at one place
pub record TakePassView : Type 0 where
  pub at : WebId
  pub taken : List ℕ
  pub splits : List ℕ
  pub joined : List (List ℕ)
  pub asked : ℕ
  pub own : List ℕ
  pub saw_empty : Bool

abbrev pub QueueSeat : Type 0
QueueSeat = Seat (Option ℕ) (Going ℕ View) Global

abbrev pub known_to : QueueSeat → View
known_to seat = seat.me.view.client

-- no block of the queue is out with it
abbrev pub IsFree : QueueSeat → Type 0
IsFree seat = (seat.me.hand ≡ None) × (seat.me.spare ≡ None)

abbrev pub saw_tail : Stage → Bool
saw_tail SawTail = true
saw_tail _ = false

-- blocks have 32 places, and whoever takes the place 30 lays the next block
abbrev pub saw_no_room : Stage → ℕ → Bool
saw_no_room stage place = saw_tail stage && (place % 32 == 30 || nat_le 4611686018427387776 place)

abbrev pub put_pass_view : QueueSeat → PutPassView
put_pass_view seat = record {
  at = seat.web;
  splits = slice_index (known_to seat).splits 0;
  put = (known_to seat).sent;
  asked = (known_to seat).asked;
  needs_block = saw_no_room seat.me.view.stage seat.me.view.at;
}

abbrev pub IsPutSeat : QueueSeat → Type 0
IsPutSeat seat =
    IsFree seat × (known_to seat ≡ putter (slice_index (known_to seat).splits 0) (known_to seat).sent (known_to seat).asked)

abbrev pub saw_head : Stage → Bool
saw_head SawHead = true
saw_head _ = false

-- One pass saw the front of the queue and another its back, at the same place, and both tell this count. By `IsDated` a pass
-- with no share that does so was not made before.
abbrev pub is_empty_seen : ℕ → QueueSeat → QueueSeat → Bool
is_empty_seen asked front back =
    saw_head front.me.view.stage && saw_tail back.me.view.stage && front.me.view.at == back.me.view.at
    && (known_to front).asked == asked && (known_to back).asked == asked

-- they are passes of this mailbox
abbrev pub AreOf : WebId → QueueSeat → QueueSeat → Type 0
AreOf at front back = (front.web ≡ at) × (back.web ≡ at)

-- the seat of a take pass, and those of the passes by which the ends of the queue were seen
abbrev pub take_pass_view : QueueSeat → QueueSeat → QueueSeat → TakePassView
take_pass_view seat front back = record {
  at = seat.web;
  taken = (known_to seat).taken;
  splits = (known_to seat).splits;
  joined = (known_to seat).joined;
  asked = (known_to seat).asked;
  own = (known_to seat).own;
  saw_empty = is_empty_seen (known_to seat).asked front back;
}

abbrev pub IsTakeSeat : QueueSeat → Type 0
IsTakeSeat seat =
    IsFree seat × (known_to seat ≡ taker (known_to seat).splits (known_to seat).taken (known_to seat).joined (known_to seat).asked (known_to seat).own)

-- the seat of the take pass of a mailbox, with what it knows
abbrev pub IsTaker : WebId → View → QueueSeat → Type 0
IsTaker at v seat = (seat.web ≡ at) × IsFree seat × (known_to seat ≡ v)

-- the same, whatever it knows as the take pass
abbrev pub IsTakerAsKnown : WebId → QueueSeat → Type 0
IsTakerAsKnown at seat =
    IsTaker at (taker (known_to seat).splits (known_to seat).taken (known_to seat).joined (known_to seat).asked (known_to seat).own) seat
