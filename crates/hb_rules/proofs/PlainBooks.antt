-- What the contract of a book says of a plain book: nothing stands in it but what a seat was told.
use Rattle.std.proofs.Common.{◌≡◌, ℕ, true, List, [], ◌∷◌, ◌++◌, length, refl, sym, ap, ap₂, ◌∙◌, subst, append-nil}
use Rattle.std.proofs.lemmas.List.{append_cancel_left, append_cancel_right}
use Rattle.hb_base.specs.Numbers.{Numbers}
use Rattle.hb_wire.specs.declared.post.Post.{Post}
use Rattle.hb_rules.specs.Book.{SeatView, BookView, is_mine, mine_in, Watched, Posted, Extended, IsSeatOf, Moved}
use Rattle.hb_rules.specs.BookLaws.{mine_in-append}
use Rattle.hb_rules.proofs.Lists.{filter_all}

mine_watched : (c : Numbers) (i x : ℕ) (old new : List Post) → Watched c i x old new → mine_in c i x new ≡ mine_in c i x old
mine_watched c i x old new watched =
    ap (mine_in c i x) watched.is
    ∙ mine_in-append c i x old watched.between
    ∙ ap (λ (posts : List Post). mine_in c i x old ++ posts) watched.others
    ∙ append-nil (mine_in c i x old)

mine_extended : (c : Numbers) (i x : ℕ) (old new : List Post) (extended : Extended c i x old new)
    → mine_in c i x new ≡ mine_in c i x old ++ extended.added
mine_extended c i x old new extended =
    ap (mine_in c i x) extended.is
    ∙ mine_in-append c i x old extended.added
    ∙ ap (λ (posts : List Post). mine_in c i x old ++ posts)
    (filter_all (is_mine c i x) (is_mine c i x) (λ post mine. mine) extended.added extended.mine)

-- the posts by which a book went on, where a seat's own posts in it went on by these
added_is : (c : Numbers) (i x : ℕ) (seen old new more : List Post) (extended : Extended c i x old new) → Watched c i x seen old
    → mine_in c i x new ≡ mine_in c i x seen ++ more → extended.added ≡ more
added_is c i x seen old new more extended watched own =
    append_cancel_left (mine_in c i x seen) extended.added more
    (ap (λ (posts : List Post). posts ++ extended.added) (sym (mine_watched c i x seen old watched))
    ∙ sym (mine_extended c i x old new extended)
    ∙ own)

same_book : (a b : BookView) (posts : List Post) → b.config ≡ a.config → b.posts ≡ posts → b ≡ record a { posts = posts }
same_book a b posts config is = ap₂ (λ (c : Numbers) (history : List Post). record { config = c; posts = history }) config is

by_config : (i x : ℕ) (a b : BookView) (s : SeatView) → IsSeatOf a s → Moved i x a b → Extended s.config i x a.posts b.posts
by_config i x a b s seat moved = subst (λ (config : Numbers). Extended config i x a.posts b.posts) (sym seat.config) moved.extended

pub plain_still : (a b : BookView) (s : SeatView) (seen : List Post) → IsSeatOf a s → Moved s.node s.actor a b → IsSeatOf b (record s { seen = seen })
    → Watched s.config s.node s.actor s.seen seen → b ≡ a
plain_still a b s seen seat moved kept watched =
    let extended = by_config s.node s.actor a b s seat moved in
    let own : mine_in s.config s.node s.actor b.posts ≡ mine_in s.config s.node s.actor s.seen ++ [] =
    mine_watched s.config s.node s.actor seen b.posts kept.watched
    ∙ mine_watched s.config s.node s.actor s.seen seen watched
    ∙ sym (append-nil (mine_in s.config s.node s.actor s.seen)) in
    let none : extended.added ≡ [] =
    added_is s.config s.node s.actor s.seen a.posts b.posts [] extended seat.watched own in
    same_book a b a.posts moved.config
    (extended.is ∙ ap (λ (posts : List Post). a.posts ++ posts) none ∙ append-nil a.posts)

pub plain_added : (a b : BookView) (s : SeatView) (seen : List Post) (post : Post) (k : ℕ) → IsSeatOf a s → Moved s.node s.actor a b
    → seen ≡ b.posts → is_mine s.config s.node s.actor post ≡ true → Posted s.config s.node s.actor post k s.seen seen
    → (b ≡ record a { posts = a.posts ++ post ∷ [] }) × (k ≡ length a.posts)
plain_added a b s seen post k seat moved all mine posted =
    let extended = by_config s.node s.actor a b s seat moved in
    let one : mine_in s.config s.node s.actor (post ∷ []) ≡ post ∷ [] = rw mine refl in
    let own : mine_in s.config s.node s.actor b.posts ≡ mine_in s.config s.node s.actor s.seen ++ post ∷ [] =
    ap (mine_in s.config s.node s.actor) (sym all ∙ posted.is)
    ∙ mine_in-append s.config s.node s.actor posted.before (post ∷ [])
    ∙ ap₂ (λ (front back : List Post). front ++ back) (mine_watched s.config s.node s.actor s.seen posted.before posted.watched) one in
    let added : extended.added ≡ post ∷ [] =
    added_is s.config s.node s.actor s.seen a.posts b.posts (post ∷ []) extended seat.watched own in
    let is : b.posts ≡ a.posts ++ post ∷ [] = extended.is ∙ ap (λ (posts : List Post). a.posts ++ posts) added in
    let before : posted.before ≡ a.posts =
    append_cancel_right posted.before a.posts (post ∷ []) (sym posted.is ∙ all ∙ is) in
    (same_book a b (a.posts ++ post ∷ []) moved.config is, posted.number ∙ ap (λ (posts : List Post). length posts) before)
