-- Tables of first claims, one post after another.
use Rattle.std.proofs.Common.{◌≡◌, ◌≢◌, ℕ, zero, suc, ◌+◌, ◌<◌, inl, inr, List, [], ◌∷◌, ◌++◌, Contains, Option, None, Some, length, take, slice_get, slice_index_or, slice_set, refl, sym, ap, ◌∙◌, subst, arith}
use Rattle.std.specs.Prelude.{replicate}
use Rattle.std.specs.Option.{option_map, option_and_then}
use Rattle.std.proofs.lemmas.Bool.{cases_eq}
use Rattle.std.proofs.lemmas.List.{take_more, get_or-set_same, get_or-set_other, length-set, length-replicate}
use Rattle.std.proofs.lemmas.List.Elements.{Contains-push_cases}
use Rattle.std.proofs.lemmas.Option.{slice_get-get_or, slice_get_within, get_or_from_slice_get}
use Rattle.hb_base.specs.Numbers.{Numbers}
use Rattle.hb_wire.specs.declared.post.Post.{Post}
use Rattle.rbc_world.specs.declared.claims.Kind.{Kind}
use Rattle.rbc_world.specs.Claimed.{claim_of, claim_at, entry, AreOne, IsEntry, AreEntries}

-- the post with this number
pub record IsPostAt (posts : List Post) (number : ℕ) (post : Post) : Type 0 where
  pub inside : number < length posts
  pub is : post ≡ slice_index_or posts number post

pub post_given : (posts : List Post) (number : ℕ) (post : Post) → IsPostAt posts number post → slice_get posts number ≡ Some post
post_given posts number post at = slice_get-get_or posts number post at.inside ∙ ap (λ (p : Post). Some p) (sym at.is)

pub given_stands : (posts : List Post) (number : ℕ) (post : Post) → slice_get posts number ≡ Some post → Contains posts post
given_stands posts number post got = (number, slice_get_within posts number post got, get_or_from_slice_get posts number post post got)

pub post_stands : (posts : List Post) (number : ℕ) (post : Post) → IsPostAt posts number post → Contains posts post
post_stands posts number post at = (number, at.inside, sym at.is)

pub one_more : (posts : List Post) (number : ℕ) (post : Post) → IsPostAt posts number post → take (number + 1) posts ≡ take number posts ++ post ∷ []
one_more posts number post at = take_more posts number post at.inside ∙ ap (λ (p : Post). take number posts ++ p ∷ []) (sym at.is)

-- what is claimed by a post with a number
pub claim_given : (c : Numbers) (kind : Kind) (posts : List Post) (number : ℕ) (post : Post) → IsPostAt posts number post
    → claim_at c kind posts number ≡ claim_of c kind post
claim_given c kind posts number post at = ap (option_and_then (claim_of c kind)) (post_given posts number post at)

-- a number with a claim is that of a post
pub number_inside : (c : Numbers) (kind : Kind) (posts : List Post) (number s : ℕ) (body : List ℕ) → claim_at c kind posts number ≡ Some (s, body)
    → number < length posts
number_inside c kind posts number s body claims = by (slice_get posts number) refl claims
  where
    by : (o : Option Post) → slice_get posts number ≡ o → option_and_then (claim_of c kind) o ≡ Some (s, body) → number < length posts
    by None is claims = absurd (cc (claims))
    by (Some post) is claims = slice_get_within posts number post is

pub same_claim : (s t : ℕ) (body other : List ℕ) (o : Option (ℕ × List ℕ)) → o ≡ Some (s, body) → o ≡ Some (t, other) → (s ≡ t) × (body ≡ other)
same_claim s t body other o one two =
    let same : Some (s, body) ≡ Some (t, other) = sym one ∙ two in
    let pair : (s, body) ≡ (t, other) = cc (same) in
    (ap (λ (x : ℕ × List ℕ). x.0) pair, ap (λ (x : ℕ × List ℕ). x.1) pair)

-- the entry of a table that was changed at a place
pub entry_set : (table : List (Option ℕ)) (s t : ℕ) (o : Option ℕ) → s < length table → (P : Option ℕ → Type 0) → (t ≡ s → P o)
    → (t ≢ s → P (entry table t)) → P (entry (slice_set table s o) t)
entry_set table s t o inside P here other = elim (cases_eq t s) [
  | inl same ↦ subst P (sym (ap (entry (slice_set table s o)) same ∙ get_or-set_same table s o None inside)) (here same)
  | inr apart ↦ subst P (sym (get_or-set_other table s t o None apart)) (other apart)
]

-- ---- one more claim

-- one that is the first for its place
pub entries_first : (c : Numbers) (kind : Kind) (posts : List Post) (number s : ℕ) (post : Post) (body : List ℕ) (table : List (Option ℕ))
    → IsPostAt posts number post → claim_of c kind post ≡ Some (s, body) → s < 512 → entry table s ≡ None
    → AreEntries c kind posts (take number posts) table
    → AreEntries c kind posts (take (number + 1) posts) (slice_set table s (Some number))
entries_first c kind posts number s post body table at claims inside empty entries = record {
  size = length-set table s (Some number) ∙ entries.size;
  sound = sound;
  each = λ p t other stands said. by p t other (subst (λ (some : List Post). Contains some p) (one_more posts number post at) stands) said;
}
  where
    within : s < length table
    within = omega (arith, entries.size, inside)

    given : claim_at c kind posts number ≡ Some (s, body)
    given = claim_given c kind posts number post at ∙ claims

    sound : (t n : ℕ) → entry (slice_set table s (Some number)) t ≡ Some n → (b : List ℕ) × (claim_at c kind posts n ≡ Some (t, b))
    sound t n = entry_set table s t (Some number) within (λ o. o ≡ Some n → (b : List ℕ) × (claim_at c kind posts n ≡ Some (t, b)))
        (λ same is.
        let numbers : number ≡ n = cc (is) in
        (body, ap (claim_at c kind posts) (sym numbers) ∙ given ∙ ap (λ (u : ℕ). Some (u, body)) (sym same)))
        (λ apart is. entries.sound t n is)

    here : (t : ℕ) (other : List ℕ) → t ≡ s → body ≡ other → IsEntry c kind posts (slice_set table s (Some number)) t other
    here t other same bodies = record {
      number = number;
      is = entry_set table s t (Some number) within (λ o. o ≡ Some number) (λ _. refl) (λ apart. absurd (apart same));
      claims = given ∙ ap (λ (u : ℕ). Some (u, body)) (sym same) ∙ ap (λ (b : List ℕ). Some (t, b)) bodies;
    }

    kept : (t : ℕ) (other : List ℕ) → IsEntry c kind posts table t other → IsEntry c kind posts (slice_set table s (Some number)) t other
    kept t other old = record {
      number = old.number;
      is = entry_set table s t (Some number) within (λ o. o ≡ Some old.number)
          (λ same. absurd (cc (empty, ap (entry table) same, old.is)))
          (λ apart. old.is);
      claims = old.claims;
    }

    by : (p : Post) (t : ℕ) (other : List ℕ) → Contains (take number posts ++ post ∷ []) p → claim_of c kind p ≡ Some (t, other)
        → IsEntry c kind posts (slice_set table s (Some number)) t other
    by p t other stands said = elim (Contains-push_cases (take number posts) post p stands) [
      | inl before ↦ kept t other (entries.each p t other before said)
      | inr is ↦
          let same = same_claim s t body other (claim_of c kind post) claims (ap (claim_of c kind) is ∙ said) in
          here t other (sym same.0) same.1
    ]

-- what the post claims that stands in the table
pub first_claim : (c : Numbers) (kind : Kind) (posts some : List Post) (s number : ℕ) (post : Post) (table : List (Option ℕ)) → IsPostAt posts number post
    → entry table s ≡ Some number → AreEntries c kind posts some table → (body : List ℕ) × (claim_of c kind post ≡ Some (s, body))
first_claim c kind posts some s number post table at is entries =
    let found = entries.sound s number is in
    (found.0, sym (claim_given c kind posts number post at) ∙ found.1)

pub body_is : (s : ℕ) (body other : List ℕ) (o : Option (ℕ × List ℕ)) → o ≡ Some (s, body) → option_map (λ (x : ℕ × List ℕ). x.1) o ≡ Some other
    → body ≡ other
body_is s body other o is mapped =
    let same : Some body ≡ Some other = sym (ap (option_map (λ (x : ℕ × List ℕ). x.1)) is) ∙ mapped in
    cc (same)

-- one that claims what the first one of its place does
pub entries_same : (c : Numbers) (kind : Kind) (posts : List Post) (number s first : ℕ) (post one : Post) (body : List ℕ) (table : List (Option ℕ))
    → IsPostAt posts number post → IsPostAt posts first one → claim_of c kind post ≡ Some (s, body) → entry table s ≡ Some first
    → option_map (λ (x : ℕ × List ℕ). x.1) (claim_of c kind one) ≡ Some body → AreEntries c kind posts (take number posts) table
    → AreEntries c kind posts (take (number + 1) posts) table
entries_same c kind posts number s first post one body table at at_first claims is like entries = record {
  size = entries.size;
  sound = entries.sound;
  each = λ p t other stands said. by p t other (subst (λ (some : List Post). Contains some p) (one_more posts number post at) stands) said;
}
  where
    given : claim_at c kind posts first ≡ Some (s, body)
    given =
        let found = first_claim c kind posts (take number posts) s first one table at_first is entries in
        claim_given c kind posts first one at_first ∙ found.1 ∙ ap (λ (b : List ℕ). Some (s, b)) (body_is s found.0 body (claim_of c kind one) found.1 like)

    here : (t : ℕ) (other : List ℕ) → s ≡ t → body ≡ other → IsEntry c kind posts table t other
    here t other same bodies = record {
      number = first;
      is = ap (entry table) (sym same) ∙ is;
      claims = given ∙ ap (λ (u : ℕ). Some (u, body)) same ∙ ap (λ (b : List ℕ). Some (t, b)) bodies;
    }

    by : (p : Post) (t : ℕ) (other : List ℕ) → Contains (take number posts ++ post ∷ []) p → claim_of c kind p ≡ Some (t, other)
        → IsEntry c kind posts table t other
    by p t other stands said = elim (Contains-push_cases (take number posts) post p stands) [
      | inl before ↦ entries.each p t other before said
      | inr same_post ↦
          let same = same_claim s t body other (claim_of c kind post) claims (ap (claim_of c kind) same_post ∙ said) in
          here t other same.0 same.1
    ]

-- where all claims for a place are one, the first one's is that of the post
pub first_like : (c : Numbers) (kind : Kind) (posts some : List Post) (number s first : ℕ) (post one : Post) (body : List ℕ) (table : List (Option ℕ))
    → IsPostAt posts number post → IsPostAt posts first one → claim_of c kind post ≡ Some (s, body) → entry table s ≡ Some first
    → AreEntries c kind posts some table → AreOne c kind posts
    → option_map (λ (x : ℕ × List ℕ). x.1) (claim_of c kind one) ≡ Some body
first_like c kind posts some number s first post one body table at at_first claims is entries all =
    let found = first_claim c kind posts some s first one table at_first is entries in
    let same = all.one one post s found.0 body (post_stands posts first one at_first) (post_stands posts number post at) found.1 claims in
    ap (option_map (λ (x : ℕ × List ℕ). x.1)) found.1 ∙ ap (λ (b : List ℕ). Some b) same

-- ---- all claims

-- where there is a table with all of them, all claims for a place are one
pub entries_one : (c : Numbers) (kind : Kind) (posts : List Post) (table : List (Option ℕ)) → AreEntries c kind posts posts table → AreOne c kind posts
entries_one c kind posts table entries = record {
  one = λ p q s body other first second said also.
      let a = entries.each p s body first said in
      let b = entries.each q s other second also in
      let numbers : a.number ≡ b.number = cc (a.is, b.is) in
      (same_claim s s body other (claim_at c kind posts b.number) (ap (claim_at c kind posts) (sym numbers) ∙ a.claims) b.claims).1;
}

none_at : (n s : ℕ) → entry (replicate n None) s ≡ None
none_at zero s = refl
none_at (suc n) zero = refl
none_at (suc n) (suc s) = none_at n s

-- no claim of no post
pub entries_none : (c : Numbers) (kind : Kind) (posts : List Post) (table : List (Option ℕ)) → table ≡ replicate 512 None
    → AreEntries c kind posts [] table
entries_none c kind posts table is = record {
  size = ap (λ (t : List (Option ℕ)). length t) is ∙ length-replicate {A = Option ℕ} 512 None;
  sound = λ s number found. absurd (cc (none_at 512 s, ap (λ (t : List (Option ℕ)). entry t s) is, found));
  each = λ p s body stands said. absurd (omega (arith, stands.1));
}
