-- What a turn does for its seat.
use Rattle.std.proofs.Common.{◌≡◌, ℕ, ◌<◌, List, [], ◌∷◌, ◌++◌, Result, Ok, Err, length, sym, subst, ap, ◌∙◌, append-nil}
use Rattle.std.specs.Prelude.{IfOk, OnOk, OnErr}
use Rattle.std.proofs.lemmas.List.{append_cancel_left}
use mathlib.Core.List as lists
use Rattle.hb_base.specs.Limits.{most_posts}
use Rattle.hb_base.specs.Numbers.{Numbers}
use Rattle.hb_wire.specs.declared.post.Post.{Post}
use Rattle.hb_rules.specs.Ledger.{IsPrefix}
use Rattle.hb_rules.specs.declared.book.BookFault.{BookFault}
use Rattle.hb_rules.specs.Book.{mine_in, Watched, Posted}
use Rattle.hb_rules.specs.BookLaws.{mine_in-append}
use Rattle.turn_book.specs.Entries.{entries_of}
use Rattle.post_book.specs.Numbering.{IsPlace, seat_number, post_number}
use Rattle.post_book.proofs.Numbers.{entries_are_mine}

pub begins : {A : Type 0} (front whole : List A) → lists.IsPrefix front whole → IsPrefix front whole
begins front whole prefix = record { rest = prefix.0; is = sym prefix.1 }

-- a history whose posts of a seat are those that it has seen went on by posts of others
pub watched : (c : Numbers) (i x : ℕ) → IsPlace c i x → (old new : List Post) → lists.IsPrefix old new
    → entries_of (post_number c) (seat_number i x) new ≡ entries_of (post_number c) (seat_number i x) old → Watched c i x old new
watched c i x place old new prefix same = record {
  between = prefix.0;
  others =
      append_cancel_left (mine_in c i x old) (mine_in c i x prefix.0) []
      (sym (mine_in-append c i x old prefix.0)
      ∙ ap (mine_in c i x) prefix.1
      ∙ sym (entries_are_mine c i x place new)
      ∙ same
      ∙ entries_are_mine c i x place old
      ∙ sym (append-nil (mine_in c i x old)));
  is = sym prefix.1;
}

-- what a call did in its turn, where the seat has then seen what the posts became
pub posted : (result : Result ℕ BookFault) (c : Numbers) (i x : ℕ) (post : Post) (seen old new last : List Post) → Watched c i x seen old
    → IfOk result (λ k. (k ≡ length old) × (k < most_posts)) → OnOk result (new ≡ old ++ post ∷ []) → last ≡ new
    → IfOk result (λ k. (k < most_posts) × Posted c i x post k seen last)
posted (Ok k) c i x post seen old new last watched number added is = (
  number.1,
  record { before = old; watched = watched; number = number.0; is = is ∙ added },
)
posted (Err fault) c i x post seen old new last watched number added is = tt

pub refused : (result : Result ℕ BookFault) (c : Numbers) (i x : ℕ) (seen old new last : List Post) → Watched c i x seen old
    → OnErr result (new ≡ old) → last ≡ new → OnErr result (Watched c i x seen last)
refused (Ok k) c i x seen old new last watched same is = tt
refused (Err fault) c i x seen old new last watched same is = subst (Watched c i x seen) (sym (is ∙ same)) watched
