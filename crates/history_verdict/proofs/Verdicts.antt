-- The verdict on a history, by what is judged of its posts.
use Rattle.std.proofs.Common.{◌≡◌, ℕ, ◌+◌, ◌<◌, ◌≤◌, Bool, true, false, get_or, List, [], ◌∷◌, ◌++◌, length, take, refl, sym, ap, ◌∙◌, subst, arith, append_assoc, append-nil}
use Rattle.std.proofs.lemmas.List.{take_more, length-take}
use Rattle.hb_base.specs.Limits.{most_posts}
use Rattle.hb_base.specs.Numbers.{Numbers}
use Rattle.hb_wire.specs.declared.post.Post.{Post}
use Rattle.hb_rules.specs.History.{MayFollow, AreLegalAfter, IsLegal}
use Rattle.hb_rules.specs.Strings.{NoCollision}
use Rattle.hb_rules.proofs.Histories.{IsLegal-push}
use Rattle.history_verdict.specs.Verdicts.{Judges, IsFirstIllegal}

last_after : (c : Numbers) (before posts : List Post) (post : Post) → AreLegalAfter c before (posts ++ post ∷ []) → MayFollow c (before ++ posts) post
last_after c before [] post legal = rw append-nil legal.0
last_after c before (first ∷ posts) post legal = rw append_assoc at (last_after c (before ++ first ∷ []) posts post legal.1)

-- the last post of a legal history may follow those before it
pub last_follows : (c : Numbers) (history : List Post) (post : Post) → IsLegal c (history ++ post ∷ []) → MayFollow c history post
last_follows c history post legal = last_after c [] history post legal.each

-- no post is a legal history
pub legal_none : (c : Numbers) → IsLegal c []
legal_none c = record { short = omega arith; each = tt }

-- the posts up to the next, which was let pass
pub legal_more : (c : Numbers) (posts : List Post) (k : ℕ) (post : Post) → k < length posts → post ≡ get_or posts k post
    → length posts ≤ most_posts → IsLegal c (take k posts) → Judges c (take k posts) post true → IsLegal c (take (k + 1) posts)
legal_more c posts k post inside is short legal judges =
    let more : take (k + 1) posts ≡ take k posts ++ post ∷ [] =
    take_more posts k post inside ∙ ap (λ (p : Post). take k posts ++ p ∷ []) (sym is) in
    let room : length (take k posts) < most_posts = omega (arith, inside, short, length-take k posts) in
    rw more (IsLegal-push c (take k posts) post legal room (judges.sound refl))

-- the first that was not
pub first_illegal : (c : Numbers) (posts : List Post) (k : ℕ) (post : Post) → k < length posts → post ≡ get_or posts k post
    → IsLegal c (take k posts) → Judges c (take k posts) post false → IsFirstIllegal c posts k
first_illegal c posts k post inside is legal judges =
    let more : take (k + 1) posts ≡ take k posts ++ post ∷ [] =
    take_more posts k post inside ∙ ap (λ (p : Post). take k posts ++ p ∷ []) (sym is) in
    record {
      inside = inside;
      before = legal;
      with_it = λ apart with_it.
          judges.complete refl (subst (NoCollision c) more apart)
          (last_follows c (take k posts) post (subst (IsLegal c) more with_it));
    }

-- what was judged, of the run and the posts in question
pub judged_at : (c d : Numbers) (front seen : List Post) (post : Post) (answer b : Bool) → d ≡ c → seen ≡ front → answer ≡ b
    → (IsLegal d seen → Judges d seen post answer) → IsLegal c front → Judges c front post b
judged_at c d front seen post answer b config posts is judged = rw (config, posts, is) at judged

-- the posts that were judged, and the next
pub seen_more : (posts : List Post) (k : ℕ) (post : Post) (old new : List Post) → k < length posts → post ≡ get_or posts k post
    → old ≡ take k posts → new ≡ old ++ post ∷ [] → new ≡ take (k + 1) posts
seen_more posts k post old new inside is before more =
    more ∙ ap (λ (ps : List Post). ps ++ post ∷ []) before
    ∙ sym (take_more posts k post inside ∙ ap (λ (p : Post). take k posts ++ p ∷ []) (sym is))
