-- Which posts were judged before.
use Rattle.std.proofs.Common.{◌≡◌, ◌⊎◌, ◌↔◌, ℕ, Bool, true, false, ◌&&◌, inl, inr, List, Contains, slice_get, Option, None, Some, if◌then◌else◌, refl, ap, ◌∙◌}
use Rattle.std.specs.List.{list_any}
use Rattle.std.proofs.lemmas.Option.{cond_some}
use Rattle.hb_base.specs.Numbers.{Numbers}
use Rattle.hb_wire.specs.declared.post.Post.{Post}
use Rattle.hb_wire.specs.declared.vote.Vote.{Vote}
use Rattle.hb_rules.specs.Hearing.{is_within, spelled}
use Rattle.hb_rules.specs.Lanes.{is_correct}
use Rattle.hb_rules.proofs.Among.{any_stands}
use Rattle.hb_rules.proofs.Lists.{list_any-from, source_of, Contains-filter_map}
use Rattle.post_judge.specs.declared.place.Place.{Place}
use Rattle.post_judge.specs.Places.{own_place, heard_place, is_told, counts, told_place, cast_place}
use Rattle.post_judge.specs.Tables.{Table, same_post, is_same, is_post, numbers_at, AreTold}
use Rattle.post_judge.proofs.Places.{not_own}

-- a post that is heard has no place among what was cast
told_apart : (c : Numbers) (post : Post) (vote own : Vote) (i x : ℕ) → told_place c post vote ≡ Some (own_place c.n i x own) → ⊥
told_apart c post vote own i x h =
    by (is_within c vote && (is_told c.n post.from post.actor vote && counts c post.from post.actor vote)) h
  where
    by : (b : Bool) → (if b then heard_place post.from post.actor vote else None) ≡ Some (own_place c.n i x own) → ⊥
    by true h = not_own c.n i x post.from post.actor own vote h
    by false h = absurd (cc (h))

-- the number of a post that is the same is one of this post
numbered : (seen : List Post) (post : Post) (k : ℕ) → ((a b : Post) → same_post a b ≡ true → a ≡ b) → is_post seen post k ≡ true
    → slice_get seen k ≡ Some post
numbered seen post k same has = by (slice_get seen k) refl has
  where
    by : (o : Option Post) → slice_get seen k ≡ o → is_same post o ≡ true → slice_get seen k ≡ Some post
    by None is h = absurd (cc (h))
    by (Some q) is h = is ∙ ap (λ (r : Post). Some r) (same q post h)

-- at the place of what its actor has cast a post stands exactly where it was judged and its node is correct
pub judged_exactly : (c : Numbers) (seen : List Post) (table : Table) (post : Post) (vote : Vote) → AreTold c seen table
    → spelled c post ≡ Some vote → ((a b : Post) → (same_post a b ≡ true) ↔ (a ≡ b))
    → (list_any (is_post seen post) (numbers_at table (own_place c.n post.from post.actor vote)) ≡ true)
    ↔ (Contains seen post × (is_correct c post.from ≡ true))
judged_exactly c seen table post vote are is same = (there, back)
  where
    p : Place
    p = own_place c.n post.from post.actor vote

    placed : (v : Vote) → (cast_place c post v ≡ Some p) ⊎ (told_place c post v ≡ Some p) → is_correct c post.from ≡ true
    placed v (inl cast) = (cond_some (is_correct c post.from) (own_place c.n post.from post.actor v) p cast).0
    placed v (inr told) = absurd (told_apart c post v vote post.from post.actor told)

    there : list_any (is_post seen post) (numbers_at table p) ≡ true → Contains seen post × (is_correct c post.from ≡ true)
    there has =
        let found = any_stands (is_post seen post) (numbers_at table p) has in
        let gives = numbered seen post found.0 (λ a b h. (same a b).0 h) found.2 in
        let told = are.right p post (Contains-filter_map (slice_get seen) (numbers_at table p) found.0 post found.1 gives) in
        (told.stands, placed told.vote told.placed)

    back : Contains seen post × (is_correct c post.from ≡ true) → list_any (is_post seen post) (numbers_at table p) ≡ true
    back both =
        let cast : cast_place c post vote ≡ Some p = ap (λ (b : Bool). if b then Some p else None) both.1 in
        let source = source_of (slice_get seen) (numbers_at table p) post
        (are.all p post (record { stands = both.0; vote = vote; is = is; placed = inl cast })) in
        list_any-from (is_post seen post) (numbers_at table p) source.element source.stands
        (ap (is_same post) source.gives ∙ (same post post).1 refl)
