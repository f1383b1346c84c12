-- What lies under the lock of a node that lies.
use Rattle.std.specs.Prelude.{◌≡◌, ℕ, ◌<◌, ◌≤◌, true, List, [], count_by}
use Rattle.atomic_table.specs.Seated.{TableId}
use Rattle.hb_base.specs.Limits.{most_lies}
use Rattle.hb_base.specs.NodeSet.{is_in}
use Rattle.net_script.specs.declared.script.Script.{Script}
use Rattle.hb_rules.specs.Book.{SeatView}
pub use Rattle.step_driver.specs.Places.{seat_at}
use Rattle.step_driver.specs.Delivering.{is_from}
use Rattle.actor_cell.specs.Boxes.{place_of}
use Rattle.actor_cell.specs.Mail.{MailView}

-- a node that lies: its seat, how many lies stand under it, how many posts it still hears, its book, the script of the run, its
-- mail, and the numbers that it holds back, in order
pub record LiarView (B : Type 0) : Type 0 where
  pub seat : SeatView
  pub said : ℕ
  pub hears : ℕ
  pub book : B
  pub script : Script
  pub mail : MailView
  pub back : List ℕ

-- one that has said nothing
abbrev pub new_liar : {B : Type 0} → SeatView → ℕ → B → Script → MailView → LiarView B
new_liar seat hears book s mail = record { seat = seat; said = 0; hears = hears; book = book; script = s; mail = mail; back = [] }

-- The book and the script are those of the run, the seat is that of a node of the config that lies, the mailboxes are of the
-- config, and the one from which numbers are taken is the node's. All lies that stand under it are counted, and are no more than
-- a node may say.
pub record IsHeldLiar {B : Type 0} (is_script : Script → Type 0) (run : TableId) (name : B → TableId) (h : LiarView B) : Type 0 where
  pub book : name h.book ≡ run
  pub script : is_script h.script
  pub config : h.seat.config ≡ h.script.config
  pub known : h.seat.node < h.script.config.n
  pub liar : is_in h.script.config.liars h.seat.node ≡ true
  pub actor : h.seat.actor ≡ 255
  pub boxes : h.mail.boxes.config ≡ h.script.config
  pub place : h.mail.passes.place ≡ place_of h.script.config h.seat.node 0
  pub said : count_by (is_from h.seat.node) h.seat.seen ≡ h.said
  pub few : h.said ≤ most_lies
