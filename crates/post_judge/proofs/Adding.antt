-- A post whose number was put into a table.
use Rattle.std.proofs.Common.{◌≡◌, ◌⊎◌, ℕ, ◌<◌, Bool, true, false, cond, inl, inr, List, [], ◌∷◌, ◌++◌, length, Contains, slice_get, map, Option, None, Some, if◌then◌else◌, refl, sym, ap, ◌∙◌, subst, arith, ap₂}
use Rattle.std.specs.BTreeMap.{get}
use Rattle.std.specs.Option.{option_and_then}
use Rattle.std.proofs.lemmas.List.{length-append, get_or_append_left, map-append}
use Rattle.std.proofs.Math.Seq.{get_or-append_seam}
use Rattle.std.proofs.lemmas.Option.{slice_get_within, slice_get-get_or, get_or_from_slice_get}
use Rattle.std.proofs.lemmas.List.Elements.{Contains-append_left, Contains-push, Contains-push_cases}
use Rattle.hb_base.specs.Numbers.{Numbers}
use Rattle.hb_wire.specs.declared.post.Post.{Post}
use Rattle.hb_wire.specs.declared.vote.Vote.{Vote}
use Rattle.hb_rules.specs.Hearing.{spelled}
use Rattle.hb_rules.proofs.Lists.{IsSource, source_of, Contains-filter_map, Contains-later, Contains-first}
use Rattle.post_judge.specs.declared.buckets.Bucket.{Bucket}
use Rattle.post_judge.specs.declared.place.Place.{Place}
use Rattle.post_judge.specs.contracts.place.PlaceOrd.TheImpl.{ghosts as places}
use Rattle.post_judge.specs.Places.{told_place, cast_place}
use Rattle.post_judge.specs.Tables.{Table, same_place, numbers_at, votes_at, spelled_at, posts_of, posts_at, added_at, Adds, IsTold, AreTold}
use Rattle.post_judge.proofs.Same.{place_is, place_self}

-- a bucket that was put where there was none
pub put_new : {A : Type 0} (lies : Option Bucket → List A) (old between new : Table) (place : Place) (b : Bucket) (more : List A)
    → lies None ≡ [] → between ≡ old → get places.cmp old place ≡ None → lies (Some b) ≡ more
    → ((q : Place) → get places.cmp new q ≡ cond (same_place place q) (Some b) (get places.cmp between q))
    → (other : Place)
    → lies (get places.cmp new other)
    ≡ (if same_place place other then lies (get places.cmp old place) ++ more else lies (get places.cmp old other))
put_new {A} lies old between new place b more empty same none items updates other =
    ap lies (updates other ∙ ap (λ (m : Table). cond (same_place place other) (Some b) (get places.cmp m other)) same)
    ∙ by (same_place place other)
  where
    by : (s : Bool) → lies (cond s (Some b) (get places.cmp old other)) ≡ (if s then lies (get places.cmp old place) ++ more else lies (get places.cmp old other))
    by true = items ∙ sym (ap (λ (xs : List A). xs ++ more) (ap lies none ∙ empty))
    by false = refl

more_at : {A : Type 0} (old : Place → List A) (place p : Place) (more : List A)
    → (if same_place place p then old place ++ more else old p) ≡ added_at old (Some place) more p
more_at {A} old place p more = by (same_place place p) refl
  where
    by : (s : Bool) → same_place place p ≡ s → (if s then old place ++ more else old p) ≡ (if s then old p ++ more else old p)
    by true here = ap (λ (q : Place). old q ++ more) (place_is place p here)
    by false apart = refl

-- the same, of what lies at each place
pub adds_one : (old new : Table) (place : Place) (k : ℕ) (vote : Vote)
    → ((other : Place) → numbers_at new other ≡ (if same_place place other then numbers_at old place ++ k ∷ [] else numbers_at old other))
    → ((other : Place) → votes_at new other ≡ (if same_place place other then votes_at old place ++ vote ∷ [] else votes_at old other))
    → Adds old new (Some place) k vote
adds_one old new place k vote numbers votes = record {
  adds = λ p. numbers p ∙ more_at (numbers_at old) place p (k ∷ []);
  votes = λ p. votes p ∙ more_at (votes_at old) place p (vote ∷ []);
}

-- ---- what a place has then

kept_there : (old new : Table) (o : Option Place) (k : ℕ) (v : Vote) → Adds old new o k v → (p : Place) (j : ℕ) → Contains (numbers_at old p) j
    → Contains (numbers_at new p) j
kept_there old new None k v adds p j stands = subst (λ (ks : List ℕ). Contains ks j) (sym (adds.adds p)) stands
kept_there old new (Some place) k v adds p j stands =
    subst (λ (ks : List ℕ). Contains ks j) (sym (adds.adds p)) (by (same_place place p))
  where
    by : (s : Bool) → Contains (if s then numbers_at old p ++ k ∷ [] else numbers_at old p) j
    by true = Contains-append_left (numbers_at old p) (k ∷ []) j stands
    by false = stands

put_there : (old new : Table) (o : Option Place) (k : ℕ) (v : Vote) → Adds old new o k v → (p : Place) → o ≡ Some p → Contains (numbers_at new p) k
put_there old new None k v adds p is = absurd (cc (is))
put_there old new (Some place) k v adds p is =
    let one : place ≡ p = cc (is) in
    let here : same_place place p ≡ true = ap (same_place place) (sym one) ∙ place_self place in
    subst (λ (ks : List ℕ). Contains ks k)
    (sym (adds.adds p ∙ ap (λ (s : Bool). if s then numbers_at old p ++ k ∷ [] else numbers_at old p) here)) (Contains-push (numbers_at old p) k)

there_from : (old new : Table) (o : Option Place) (k : ℕ) (v : Vote) → Adds old new o k v → (p : Place) (j : ℕ) → Contains (numbers_at new p) j
    → Contains (numbers_at old p) j ⊎ ((k ≡ j) × (o ≡ Some p))
there_from old new None k v adds p j stands = inl (subst (λ (ks : List ℕ). Contains ks j) (adds.adds p) stands)
there_from old new (Some place) k v adds p j stands =
    by (same_place place p) refl (subst (λ (ks : List ℕ). Contains ks j) (adds.adds p) stands)
  where
    by : (s : Bool) → same_place place p ≡ s → Contains (if s then numbers_at old p ++ k ∷ [] else numbers_at old p) j
        → Contains (numbers_at old p) j ⊎ ((k ≡ j) × (Some place ≡ Some p))
    by true here stands = elim (Contains-push_cases (numbers_at old p) k j stands) [
      | inl before ↦ inl before
      | inr is ↦ inr (is, ap (λ (q : Place). Some q) (place_is place p here))
    ]
    by false apart stands = inl stands

-- ---- histories with one more post

one_more : (seen : List Post) (post : Post) (k : ℕ) → k < length seen → k < length (seen ++ post ∷ [])
one_more seen post k inside = omega (arith, inside, length-append seen (post ∷ []))

-- the posts before it keep their numbers
keeps : (seen : List Post) (post : Post) (k : ℕ) (q : Post) → slice_get seen k ≡ Some q → slice_get (seen ++ post ∷ []) k ≡ Some q
keeps seen post k q is =
    let inside : k < length seen = slice_get_within seen k q is in
    slice_get-get_or (seen ++ post ∷ []) k q (omega (arith, inside, length-append seen (post ∷ [])))
    ∙ ap (λ (r : Post). Some r) (get_or_append_left seen (post ∷ []) q k inside ∙ get_or_from_slice_get seen k q q is)

had : (seen : List Post) (post : Post) (k : ℕ) (q : Post) → k < length seen → slice_get (seen ++ post ∷ []) k ≡ Some q → slice_get seen k ≡ Some q
had seen post k q inside is =
    slice_get-get_or seen k q inside
    ∙ ap (λ (r : Post). Some r) (sym (get_or_append_left seen (post ∷ []) q k inside) ∙ get_or_from_slice_get (seen ++ post ∷ []) k q q is)

same_number : (seen : List Post) (post : Post) (k : ℕ) → k < length seen → slice_get (seen ++ post ∷ []) k ≡ slice_get seen k
same_number seen post k inside =
    slice_get-get_or (seen ++ post ∷ []) k post (one_more seen post k inside)
    ∙ ap (λ (r : Post). Some r) (get_or_append_left seen (post ∷ []) post k inside) ∙ sym (slice_get-get_or seen k post inside)

-- and their votes
same_votes : (c : Numbers) (seen : List Post) (post : Post) (ks : List ℕ) → ((k : ℕ) → Contains ks k → k < length seen)
    → map (spelled_at c (seen ++ post ∷ [])) ks ≡ map (spelled_at c seen) ks
same_votes c seen post [] known = refl
same_votes c seen post (k ∷ ks) known =
    ap₂ (λ (o : Option Vote) (os : List (Option Vote)). o ∷ os)
    (ap (option_and_then (spelled c)) (same_number seen post k (known k (Contains-first k ks))))
    (same_votes c seen post ks (λ j stands. known j (Contains-later k ks j stands)))

-- and it has the next number
last : (seen : List Post) (post : Post) → slice_get (seen ++ post ∷ []) (length seen) ≡ Some post
last seen post =
    slice_get-get_or (seen ++ post ∷ []) (length seen) post (omega (arith, length-append seen (post ∷ [])))
    ∙ ap (λ (r : Post). Some r) (get_or-append_seam seen post [] post)

next_vote : (c : Numbers) (seen : List Post) (post : Post) (k : ℕ) (vote : Vote) → k ≡ length seen → spelled c post ≡ Some vote
    → spelled_at c (seen ++ post ∷ []) k ≡ Some vote
next_vote c seen post k vote next is =
    ap (option_and_then (spelled c)) (ap (slice_get (seen ++ post ∷ [])) next ∙ last seen post) ∙ is

kept_posts : (seen : List Post) (post : Post) (table : Table) (p : Place) (q : Post) → Contains (posts_at seen table p) q
    → Contains (posts_at (seen ++ post ∷ []) table p) q
kept_posts seen post table p q stands =
    let source = source_of (slice_get seen) (numbers_at table p) q stands in
    Contains-filter_map (slice_get (seen ++ post ∷ [])) (numbers_at table p) source.element q source.stands
    (keeps seen post source.element q source.gives)

posts_before : (c : Numbers) (seen : List Post) (post : Post) (table : Table) → AreTold c seen table → (p : Place) (q : Post)
    → Contains (posts_at (seen ++ post ∷ []) table p) q → Contains (posts_at seen table p) q
posts_before c seen post table are p q stands =
    let source = source_of (slice_get (seen ++ post ∷ [])) (numbers_at table p) q stands in
    Contains-filter_map (slice_get seen) (numbers_at table p) source.element q source.stands
    (had seen post source.element q (are.known p source.element source.stands) source.gives)

told_later : (c : Numbers) (seen : List Post) (post : Post) (p : Place) (q : Post) → IsTold c seen p q → IsTold c (seen ++ post ∷ []) p q
told_later c seen post p q told = record {
  stands = Contains-append_left seen (post ∷ []) q told.stands;
  vote = told.vote;
  is = told.is;
  placed = told.placed;
}

-- each number at a place has its vote beside it
abbrev Beside : Numbers → List Post → Table → Place → Type 0
Beside c seen table p = map Some (votes_at table p) ≡ map (spelled_at c seen) (numbers_at table p)

-- also where a number and its vote were put
put_beside : (c : Numbers) (seen : List Post) (old new : Table) (o : Option Place) (k : ℕ) (vote : Vote) → Adds old new o k vote
    → spelled_at c seen k ≡ Some vote → (p : Place) → Beside c seen old p → Beside c seen new p
put_beside c seen old new None k vote adds is p before =
    ap (map Some) (adds.votes p) ∙ before ∙ ap (map (spelled_at c seen)) (sym (adds.adds p))
put_beside c seen old new (Some place) k vote adds is p before =
    ap (map Some) (adds.votes p) ∙ by (same_place place p) ∙ ap (map (spelled_at c seen)) (sym (adds.adds p))
  where
    by : (s : Bool) → map Some (if s then votes_at old p ++ vote ∷ [] else votes_at old p)
        ≡ map (spelled_at c seen) (if s then numbers_at old p ++ k ∷ [] else numbers_at old p)
    by true =
        map-append Some (votes_at old p) (vote ∷ [])
        ∙ ap₂ (λ (vs ws : List (Option Vote)). vs ++ ws) before (ap (λ (o : Option Vote). o ∷ []) (sym is))
        ∙ sym (map-append (spelled_at c seen) (numbers_at old p) (k ∷ []))
    by false = before

-- and in a history with one more post
still_beside : (c : Numbers) (seen : List Post) (post : Post) (table : Table) → AreTold c seen table → (p : Place)
    → Beside c (seen ++ post ∷ []) table p
still_beside c seen post table are p = are.votes p ∙ sym (same_votes c seen post (numbers_at table p) (are.known p))

-- a post that was read, and put at its places
pub AreTold-push : (c : Numbers) (seen : List Post) (old mid new : Table) (post : Post) (vote : Vote) (k : ℕ) → AreTold c seen old
    → spelled c post ≡ Some vote → k ≡ length seen → Adds old mid (cast_place c post vote) k vote
    → Adds mid new (told_place c post vote) k vote → AreTold c (seen ++ post ∷ []) new
AreTold-push c seen old mid new post vote k are is next cast told = record { known = known; right = right; all = all; votes = votes }
  where
    more : List Post
    more = seen ++ post ∷ []

    known : (p : Place) (j : ℕ) → Contains (numbers_at new p) j → j < length more
    known p j stands = elim (there_from mid new (told_place c post vote) k vote told p j stands) [
      | inl between ↦ elim (there_from old mid (cast_place c post vote) k vote cast p j between) [
        | inl before ↦ one_more seen post j (are.known p j before)
        | inr here ↦ let same : k ≡ j = here.0 in omega (arith, next, same, length-append seen (post ∷ []))
      ]
      | inr here ↦ let same : k ≡ j = here.0 in omega (arith, next, same, length-append seen (post ∷ []))
    ]

    numbered : (j : ℕ) (q : Post) → k ≡ j → slice_get more j ≡ Some q → post ≡ q
    numbered j q same gives =
        let there : slice_get more j ≡ Some post = ap (slice_get more) (sym same ∙ next) ∙ last seen post in
        cc (there, gives)

    right : (p : Place) (q : Post) → Contains (posts_at more new p) q → IsTold c more p q
    right p q stands = elim (there_from mid new (told_place c post vote) k vote told p source.element source.stands) [
      | inl between ↦ elim (there_from old mid (cast_place c post vote) k vote cast p source.element between) [
        | inl before ↦
            told_later c seen post p q (are.right p q
            (Contains-filter_map (slice_get seen) (numbers_at old p) source.element q before
            (had seen post source.element q (are.known p source.element before) source.gives)))
        | inr new_cast ↦
            subst (IsTold c more p) (numbered source.element q new_cast.0 source.gives)
            (record { stands = Contains-push seen post; vote = vote; is = is; placed = inl new_cast.1 })
      ]
      | inr new_told ↦
          subst (IsTold c more p) (numbered source.element q new_told.0 source.gives)
          (record { stands = Contains-push seen post; vote = vote; is = is; placed = inr new_told.1 })
    ]
      where
        source : IsSource (slice_get more) (numbers_at new p) q
        source = source_of (slice_get more) (numbers_at new p) q stands

    all : (p : Place) (q : Post) → IsTold c more p q → Contains (posts_at more new p) q
    all p q is_told = elim (Contains-push_cases seen post q is_told.stands) [
      | inl before ↦
          let source = source_of (slice_get seen) (numbers_at old p) q
          (are.all p q (record { stands = before; vote = is_told.vote; is = is_told.is; placed = is_told.placed })) in
          Contains-filter_map (slice_get more) (numbers_at new p) source.element q
          (kept_there mid new (told_place c post vote) k vote told p source.element
          (kept_there old mid (cast_place c post vote) k vote cast p source.element source.stands))
          (keeps seen post source.element q source.gives)
      | inr now ↦
          let one : is_told.vote ≡ vote = cc (is_told.is, ap (spelled c) now, is) in
          Contains-filter_map (slice_get more) (numbers_at new p) k q
          (placed p (subst (λ (v : Vote). (cast_place c post v ≡ Some p) ⊎ (told_place c post v ≡ Some p)) one
          (subst (λ (r : Post). (cast_place c r is_told.vote ≡ Some p) ⊎ (told_place c r is_told.vote ≡ Some p)) (sym now) is_told.placed)))
          (ap (slice_get more) next ∙ last seen post ∙ ap (λ (r : Post). Some r) now)
    ]
      where
        placed : (p : Place) → (cast_place c post vote ≡ Some p) ⊎ (told_place c post vote ≡ Some p) → Contains (numbers_at new p) k
        placed p (inl there) =
            kept_there mid new (told_place c post vote) k vote told p k (put_there old mid (cast_place c post vote) k vote cast p there)
        placed p (inr there) = put_there mid new (told_place c post vote) k vote told p there

    votes : (p : Place) → Beside c more new p
    votes p =
        put_beside c more mid new (told_place c post vote) k vote told now p
        (put_beside c more old mid (cast_place c post vote) k vote cast now p (still_beside c seen post old are p))
      where
        now : spelled_at c more k ≡ Some vote
        now = next_vote c seen post k vote next is

-- a post that spells nothing
pub AreTold-unread : (c : Numbers) (seen : List Post) (post : Post) (table : Table) → AreTold c seen table → spelled c post ≡ None
    → AreTold c (seen ++ post ∷ []) table
AreTold-unread c seen post table are none = record {
  known = λ p k stands. one_more seen post k (are.known p k stands);
  right = λ p q stands. told_later c seen post p q (are.right p q (posts_before c seen post table are p q stands));
  all = λ p q told. elim (Contains-push_cases seen post q told.stands) [
    | inl before ↦
        kept_posts seen post table p q (are.all p q (record { stands = before; vote = told.vote; is = told.is; placed = told.placed }))
    | inr now ↦ absurd (cc (none, ap (spelled c) now, told.is))
  ];
  votes = still_beside c seen post table are;
}

-- a post that was judged before
pub AreTold-again : (c : Numbers) (seen : List Post) (post : Post) (table : Table) → AreTold c seen table → Contains seen post
    → AreTold c (seen ++ post ∷ []) table
AreTold-again c seen post table are before = record {
  known = λ p k stands. one_more seen post k (are.known p k stands);
  right = λ p q stands. told_later c seen post p q (are.right p q (posts_before c seen post table are p q stands));
  all = λ p q told. elim (Contains-push_cases seen post q told.stands) [
    | inl stands ↦
        kept_posts seen post table p q (are.all p q (record { stands = stands; vote = told.vote; is = told.is; placed = told.placed }))
    | inr now ↦
        kept_posts seen post table p q
        (are.all p q (record {
          stands = subst (λ (r : Post). Contains seen r) now before;
          vote = told.vote;
          is = told.is;
          placed = told.placed;
        }))
  ];
  votes = still_beside c seen post table are;
}

-- where nothing was judged nothing is told
pub AreTold-none : (c : Numbers) (table : Table) → ((p : Place) → numbers_at table p ≡ [])
    → ((p : Place) → votes_at table p ≡ []) → AreTold c [] table
AreTold-none c table none unsaid = record {
  known = λ p k stands. absurd (omega (arith, (subst (λ (ks : List ℕ). Contains ks k) (none p) stands).1));
  right = λ p q stands. absurd (omega (arith, (subst (λ (ks : List ℕ). Contains (posts_of [] ks) q) (none p) stands).1));
  all = λ p q told. absurd (omega (arith, told.stands.1));
  votes = λ p. ap (map Some) (unsaid p) ∙ sym (ap (map (spelled_at c [])) (none p));
}
