-- Legal histories, one post after another.
use Rattle.std.proofs.Common.{◌≡◌, ℕ, zero, suc, ◌<◌, get_or, sym, subst, List, [], ◌∷◌, ◌++◌, length, arith, append_assoc, append-nil, length-append}
use Rattle.std.specs.List.{AllByRecursion}
use Rattle.std.proofs.lemmas.List.Elements.{All-push}
use Rattle.hb_base.specs.Limits.{most_posts}
use Rattle.hb_base.specs.Numbers.{Numbers}
use Rattle.hb_wire.specs.declared.post.Post.{Post}
use Rattle.hb_rules.specs.History.{MayFollow, AreLegalAfter, IsLegal}
use Rattle.hb_rules.specs.Book.{BookView, AreKept}

AreLegalAfter-push : (c : Numbers) (before posts : List Post) (post : Post) → AreLegalAfter c before posts → MayFollow c (before ++ posts) post
    → AreLegalAfter c before (posts ++ post ∷ [])
AreLegalAfter-push c before [] post legal may = (rw append-nil at may, tt)
AreLegalAfter-push c before (first ∷ posts) post legal may =
    (legal.0, AreLegalAfter-push c (before ++ first ∷ []) posts post legal.1 (rw append_assoc may))

-- a legal history with room goes on by a post that may follow
pub IsLegal-push : (c : Numbers) (history : List Post) (post : Post) → IsLegal c history → length history < most_posts → MayFollow c history post
    → IsLegal c (history ++ post ∷ [])
IsLegal-push c history post legal room may = record {
  short = rw length-append (omega arith);
  each = AreLegalAfter-push c [] history post legal.each may;
}

-- the posts of a book with room, and one more that may follow
pub AreKept-push : (book : BookView) (post : Post) → AreKept book → length book.posts < most_posts → MayFollow book.config book.posts post
    → post.actor < 256 → AreKept (record { config = book.config; posts = book.posts ++ post ∷ [] })
AreKept-push book post kept room may small = record {
  legal = IsLegal-push book.config book.posts post kept.legal room may;
  actors = All-push (λ (p : Post). p.actor < 256) book.posts post kept.actors small;
}

known_after : (c : Numbers) (before posts : List Post) → AreLegalAfter c before posts → AllByRecursion (λ post. post.from < c.n) posts
known_after c before [] legal = tt
known_after c before (post ∷ posts) legal = (legal.0.known, known_after c (before ++ post ∷ []) posts legal.1)

-- each post that a book keeps is of one of the n nodes
pub known_at : (book : BookView) (posts : List Post) (k : ℕ) (post : Post) → AreKept book → posts ≡ book.posts → k < length posts
    → post ≡ get_or posts k post → post.from < book.config.n
known_at book posts k post kept is inside there =
    subst (λ (p : Post). p.from < book.config.n) (sym there)
    (at posts k inside (subst (λ (ps : List Post). AllByRecursion (λ p. p.from < book.config.n) ps) (sym is)
    (known_after book.config [] book.posts kept.legal.each)))
  where
    at : (ps : List Post) (i : ℕ) → i < length ps → AllByRecursion (λ p. p.from < book.config.n) ps → (get_or ps i post).from < book.config.n
    at [] i inside known = absurd (omega (arith, inside))
    at (p ∷ ps) zero inside known = known.0
    at (p ∷ ps) (suc i) inside known = at ps i (omega (arith, inside)) known.1
