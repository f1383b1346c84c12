-- What actors have cast, by what each of the posts shows.
use Rattle.std.proofs.Common.{◌≡◌, ℕ, ◌+◌, ◌<◌, Bool, true, ◌||◌, List, [], ◌∷◌, length, take, slice_index_or, Contains, Option, None, Some, refl, sym, ap, ◌∙◌}
use Rattle.std.specs.List.{list_any, cons_option}
use Rattle.std.proofs.lemmas.List.Folds.{list_any_more, Any-from_list_any}
use Rattle.hb_base.specs.Numbers.{Numbers}
use Rattle.hb_wire.specs.declared.vote.Vote.{Vote}
use Rattle.hb_wire.specs.declared.post.Post.{Post}
use Rattle.hb_rules.specs.Hearing.{vote_by, own_in}
use Rattle.run_status.specs.Shown.{passes, shows}

-- an actor has cast a vote that passes a test where some post shows it
pub cast_shown : (c : Numbers) (i x : ℕ) (test : Vote → Bool) (posts : List Post)
    → list_any test (own_in c i x posts) ≡ list_any (shows c i x test) posts
cast_shown c i x test [] = refl
cast_shown c i x test (post ∷ posts) = by (vote_by c i x post) (cast_shown c i x test posts)
  where
    by : (o : Option Vote) → list_any test (own_in c i x posts) ≡ list_any (shows c i x test) posts
        → list_any test (cons_option o (own_in c i x posts)) ≡ (passes test o || list_any (shows c i x test) posts)
    by None later = later
    by (Some vote) later = ap (λ (rest : Bool). test vote || rest) later

-- what stands of the posts so far, with one post more
pub one_more : (test : Post → Bool) (posts : List Post) (number : ℕ) (post : Post) (old new : Bool) → number < length posts
    → post ≡ slice_index_or posts number post → old ≡ list_any test (take number posts) → new ≡ (old || test post)
    → new ≡ list_any test (take (number + 1) posts)
one_more test posts number post old new inside is before now =
    now
    ∙ ap (λ (b : Bool). b || test post) before
    ∙ ap (λ (p : Post). list_any test (take number posts) || test p) is
    ∙ sym (list_any_more test posts number post inside)

pub same_any : {A : Type 0} (p q : A → Bool) → ((x : A) → p x ≡ q x) → (xs : List A) → list_any p xs ≡ list_any q xs
same_any p q same [] = refl
same_any p q same (x ∷ xs) = ap (λ (b : Bool). b || list_any p xs) (same x) ∙ ap (λ (b : Bool). q x || b) (same_any p q same xs)

-- an element that passes a test
pub record IsFound {A : Type 0} (test : A → Bool) (xs : List A) : Type 0 where
  pub element : A
  pub stands : Contains xs element
  pub passing : test element ≡ true

pub found : {A : Type 0} (test : A → Bool) (xs : List A) → list_any test xs ≡ true → IsFound test xs
found test xs h =
    let any = Any-from_list_any test xs h in
    record { element = any.1; stands = (any.0, any.2, any.3); passing = any.4 }
