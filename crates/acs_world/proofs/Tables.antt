-- What tables show of the lists with which correct desks closed epochs.
use Rattle.std.proofs.Common.{◌≡◌, ℕ, zero, suc, ◌+◌, ◌-◌, ◌==◌, ◌&&◌, ◌||◌, bytes_eq, Bool, true, false, inl, inr, List, [], ◌∷◌, length, slice_get, slice_index_or, Contains, Option, None, Some, if◌then◌else◌, refl, sym, ap, ◌∙◌, subst, arith}
use Rattle.std.specs.List.{list_all, flat_map, range_with_len}
use Rattle.std.specs.Option.{option_and_then}
use Rattle.std.specs.Cmp.Lexicographic.{bytes_decides}
use Rattle.std.proofs.lemmas.Bool.{and_parts, eqb-true, eq-eqb, and_from, both_ways, false_from_ne_true}
use Rattle.std.proofs.lemmas.List.{length-append}
use Rattle.std.proofs.lemmas.Option.{option_and_then_some, slice_get_within, get_or_from_slice_get}
use Rattle.hb_base.specs.Counting.{count_nodes}
use Rattle.hb_base.specs.Numbers.{Numbers}
use Rattle.hb_wire.specs.declared.items.Item.{Item}
use Rattle.hb_wire.specs.declared.vote.Vote.{Vote}
use Rattle.hb_wire.specs.declared.vote.Vote.TheVariants.{Closed}
use Rattle.hb_wire.specs.declared.post.Post.{Post}
use Rattle.hb_wire.specs.Reading.{vote_at}
use Rattle.hb_rules.specs.Hearing.{own_in, spelled}
use Rattle.hb_rules.specs.Lanes.{is_correct}
use Rattle.hb_rules.specs.Ledger.{ledger, IsCorrect}
use Rattle.acs_world.specs.Agreed.{ClosingsAgree, ClosingsFollow}
use Rattle.acs_world.specs.Closed.{Closure, closing, closing_by}
use Rattle.acs_world.specs.Closures.{IsTabledRest}
use Rattle.acs_world.specs.Firsts.{place_of, post_at, is_epoch, is_closing, has_closed, has_bytes, agrees, agrees_at, is_like_one, repeats, repeats_at}
use Rattle.acs_world.proofs.Exact.{each_passes}
use Rattle.acs_world.proofs.Ledgers.{lists_at, list_has, HasOneList, one_list_at}
use Rattle.acs_world.proofs.Reading.{IsOfDesk, at_desk, closing_cast, cast_closing}

-- ---- posts

-- where a post closes something, its bytes tell what
bytes_close : (c : Numbers) (post : Post) (closure : Closure) → closing_by c post ≡ Some closure
    → option_and_then closing (vote_at c.n c.version post.bytes) ≡ Some closure
bytes_close c post closure closes = by (is_correct c post.from && (post.actor == c.n)) closes
  where
    by : (b : Bool) → (if b then option_and_then closing (spelled c post) else None) ≡ Some closure
        → option_and_then closing (vote_at c.n c.version post.bytes) ≡ Some closure
    by true closes = closes
    by false closes = absurd (cc (closes))

one_closure : (c : Numbers) (p q : Post) (x y : Closure) → closing_by c p ≡ Some x → closing_by c q ≡ Some y → p.bytes ≡ q.bytes → x ≡ y
one_closure c p q x y first second same =
    let one : Some x ≡ Some y =
    sym (bytes_close c p x first) ∙ ap (λ (bs : List ℕ). option_and_then closing (vote_at c.n c.version bs)) same ∙ bytes_close c q y second in
    cc (one)

-- a post of the same desk with the same bytes closes the same
correct_closing : (c : Numbers) (post : Post) (closure : Closure) → closing_by c post ≡ Some closure → is_correct c post.from ≡ true
correct_closing c post closure closes = by (is_correct c post.from) refl closes
  where
    by : (b : Bool) → is_correct c post.from ≡ b → (if b && (post.actor == c.n) then option_and_then closing (spelled c post) else None) ≡ Some closure
        → is_correct c post.from ≡ true
    by true right closes = right
    by false wrong closes = absurd (cc (closes))

same_closing : (c : Numbers) (p q : Post) (closure : Closure) → closing_by c p ≡ Some closure → q.from ≡ p.from → q.actor ≡ c.n → p.bytes ≡ q.bytes
    → closing_by c q ≡ Some closure
same_closing c p q closure closes sender desk bytes =
    let of_desk : IsOfDesk c q = record { correct = ap (is_correct c) sender ∙ correct_closing c p closure closes; desk = desk } in
    at_desk c q of_desk ∙ ap (λ (bs : List ℕ). option_and_then closing (vote_at c.n c.version bs)) (sym bytes) ∙ bytes_close c p closure closes

-- the post at a place of a table is one of the posts
post_stands : (posts : List Post) (table : List (Option ℕ)) (place : ℕ) (post : Post) → post_at posts table place ≡ Some post → Contains posts post
post_stands posts table place post found =
    option_and_then_some (slice_get posts) (slice_index_or table place None) post found (λ number is gives.
    (number, slice_get_within posts number post gives, get_or_from_slice_get posts number post post gives))

record HasBytes (bytes : List ℕ) (o : Option Post) : Type 0 where
  post : Post
  is : o ≡ Some post
  same : bytes ≡ post.bytes

bytes_found : (bytes : List ℕ) (o : Option Post) → has_bytes bytes o ≡ true → HasBytes bytes o
bytes_found bytes None h = absurd (cc (h))
bytes_found bytes (Some post) h = record { post = post; is = refl; same = (bytes_decides bytes post.bytes).0 h }

-- a table leads to a post that closes an epoch
record IsFound (c : Numbers) (i e : ℕ) (o : Option Post) : Type 0 where
  post : Post
  is : o ≡ Some post
  from : post.from ≡ i
  list : List Item
  closes : closing_by c post ≡ Some (e, list)

epoch_found : (e : ℕ) (o : Option Closure) → is_epoch e o ≡ true → (list : List Item) × (o ≡ Some (e, list))
epoch_found e None h = absurd (cc (h))
epoch_found e (Some closure) h =
    let same : closure.0 ≡ e = eqb-true closure.0 e h in
    (closure.1, ap (λ (d : ℕ). let x : Closure = (d, closure.1) in Some x) same)

closing_found : (c : Numbers) (i e : ℕ) (o : Option Post) → is_closing c i e o ≡ true → IsFound c i e o
closing_found c i e None h = absurd (cc (h))
closing_found c i e (Some post) h =
    let parts = and_parts (post.from == i) (is_epoch e (closing_by c post)) h in
    let found = epoch_found e (closing_by c post) parts.1 in
    record { post = post; is = refl; from = eqb-true post.from i parts.0; list = found.0; closes = found.1 }

-- the desk has cast what it found to have closed
found_cast : (c : Numbers) (posts : List Post) (table : List (Option ℕ)) (i e : ℕ) → has_closed c posts table i e ≡ true
    → (list : List Item) × Contains (own_in c i c.n posts) (Closed e list)
found_cast c posts table i e h =
    let found = closing_found c i e (post_at posts table (place_of i e)) h in
    let cast = closing_cast c posts found.post (e, found.list) (post_stands posts table (place_of i e) found.post found.is) found.closes in
    (found.list, subst (λ (a : ℕ). Contains (own_in c a c.n posts) (Closed e found.list)) found.from cast.cast)

-- ---- where all posts agree with the tables

-- a post of a correct desk's that closes an epoch, and agrees
record Agrees (c : Numbers) (posts : List Post) (table leading : List (Option ℕ)) (i e : ℕ) (list : List Item) : Type 0 where
  post : Post
  closes : closing_by c post ≡ Some (e, list)
  like : HasBytes post.bytes (post_at posts leading e)
  follows : ((e == 0) || has_closed c posts table i (e - 1)) ≡ true

agrees_with : (c : Numbers) (posts : List Post) (table leading : List (Option ℕ)) → list_all (agrees c posts table leading) posts ≡ true
    → (i e : ℕ) (list : List Item) → IsCorrect c i → Contains (own_in c i c.n posts) (Closed e list) → Agrees c posts table leading i e list
agrees_with c posts table leading all i e list correct stands =
    let posted = cast_closing c posts i e list correct stands in
    let passes : agrees_at c posts table leading posted.post (Some (e, list)) ≡ true =
    ap (λ (o : Option Closure). agrees_at c posts table leading posted.post o) (sym posted.closes)
    ∙ each_passes (agrees c posts table leading) posts posted.post all posted.stands in
    let parts = and_parts (has_bytes posted.post.bytes (post_at posts leading e))
    ((e == 0) || has_closed c posts table posted.post.from (e - 1)) passes in
    record {
      post = posted.post;
      closes = posted.closes;
      like = bytes_found posted.post.bytes (post_at posts leading e) parts.0;
      follows = ap (λ (a : ℕ). (e == 0) || has_closed c posts table a (e - 1)) (sym posted.from) ∙ parts.1;
    }

pub all_agree : (c : Numbers) (posts : List Post) (table leading : List (Option ℕ)) → list_all (agrees c posts table leading) posts ≡ true
    → ClosingsAgree c posts
all_agree c posts table leading all = record { one = one }
  where
    one : (e i m : ℕ) (list other : List Item) → IsCorrect c i → IsCorrect c m → Contains (own_in c i c.n posts) (Closed e list)
        → Contains (own_in c m c.n posts) (Closed e other) → list ≡ other
    one e i m list other correct also first second =
        let p = agrees_with c posts table leading all i e list correct first in
        let q = agrees_with c posts table leading all m e other also second in
        let both : Some p.like.post ≡ Some q.like.post = sym p.like.is ∙ q.like.is in
        let post : p.like.post ≡ q.like.post = cc (both) in
        let bytes : p.post.bytes ≡ q.post.bytes = p.like.same ∙ ap (λ (x : Post). x.bytes) post ∙ sym q.like.same in
        ap (λ (x : Closure). x.1) (one_closure c p.post q.post (e, list) (e, other) p.closes q.closes bytes)

pub all_follow : (c : Numbers) (posts : List Post) (table leading : List (Option ℕ)) → list_all (agrees c posts table leading) posts ≡ true
    → ClosingsFollow c posts
all_follow c posts table leading all = record { before = before }
  where
    before : (e i : ℕ) (list : List Item) → IsCorrect c i → Contains (own_in c i c.n posts) (Closed (suc e) list)
        → (other : List Item) × Contains (own_in c i c.n posts) (Closed e other)
    before e i list correct stands =
        let p = agrees_with c posts table leading all i (suc e) list correct stands in
        let less : suc e - 1 ≡ e = omega arith in
        let more : (suc e == 0) ≡ false = false_from_ne_true (suc e == 0) (λ same. omega (arith, eqb-true (suc e) 0 same)) in
        let h : has_closed c posts table i (suc e - 1) ≡ true = ap (λ (b : Bool). b || has_closed c posts table i (suc e - 1)) (sym more) ∙ p.follows in
        found_cast c posts table i e (ap (λ (d : ℕ). has_closed c posts table i d) (sym less) ∙ h)

-- ---- where each desk repeats what it closed with

-- each post with which a correct desk closes an epoch is as the one to which the table leads
record IsTabled (c : Numbers) (posts : List Post) (table : List (Option ℕ)) (i e : ℕ) (list : List Item) : Type 0 where
  post : Post
  is : post_at posts table (place_of i e) ≡ Some post
  from : post.from ≡ i
  closes : closing_by c post ≡ Some (e, list)

repeated : (c : Numbers) (posts : List Post) (table : List (Option ℕ)) → list_all (repeats c posts table) posts ≡ true
    → (i e : ℕ) (list : List Item) → IsCorrect c i → Contains (own_in c i c.n posts) (Closed e list)
    → IsTabled c posts table i e list
repeated c posts table all i e list correct stands =
    let posted = cast_closing c posts i e list correct stands in
    let passes : repeats_at c posts table posted.post (Some (e, list)) ≡ true =
    ap (λ (o : Option Closure). repeats_at c posts table posted.post o) (sym posted.closes)
    ∙ each_passes (repeats c posts table) posts posted.post all posted.stands in
    by posted.post posted.from posted.closes (post_at posts table (place_of posted.post.from e)) refl passes
  where
    by : (p : Post) → p.from ≡ i → closing_by c p ≡ Some (e, list) → (o : Option Post) → post_at posts table (place_of p.from e) ≡ o
        → is_like_one c p.from p.bytes o ≡ true
        → IsTabled c posts table i e list
    by p from closes None is h = absurd (cc (h))
    by p from closes (Some first) is h =
        let parts = and_parts ((first.from == p.from) && (first.actor == c.n)) (bytes_eq p.bytes first.bytes) h in
        let mine = and_parts (first.from == p.from) (first.actor == c.n) parts.0 in
        let sender : first.from ≡ p.from = eqb-true first.from p.from mine.0 in
        record {
          post = first;
          is = ap (λ (a : ℕ). post_at posts table (place_of a e)) (sym from) ∙ is;
          from = sender ∙ from;
          closes = same_closing c p first (e, list) closes sender (eqb-true first.actor c.n mine.1) ((bytes_decides p.bytes first.bytes).0 parts.1);
        }

tabled_one : (c : Numbers) (posts : List Post) (table : List (Option ℕ)) (i e : ℕ) (list other : List Item) → IsTabled c posts table i e list
    → IsTabled c posts table i e other → list ≡ other
tabled_one c posts table i e list other one two =
    let both : Some one.post ≡ Some two.post = sym one.is ∙ two.is in
    let post : one.post ≡ two.post = cc (both) in
    ap (λ (x : Closure). x.1) (one_closure c one.post two.post (e, list) (e, other) one.closes two.closes (ap (λ (p : Post). p.bytes) post))

tabled_closed : (c : Numbers) (posts : List Post) (table : List (Option ℕ)) (i e : ℕ) (list : List Item) → IsTabled c posts table i e list
    → has_closed c posts table i e ≡ true
tabled_closed c posts table i e list tabled =
    let epoch : is_epoch e (closing_by c tabled.post) ≡ true = ap (is_epoch e) tabled.closes ∙ eq-eqb e e refl in
    ap (is_closing c i e) tabled.is ∙ and_from (tabled.post.from == i) (is_epoch e (closing_by c tabled.post)) (eq-eqb tabled.post.from i tabled.from) epoch

-- of an epoch its ledger has one list or none
has_one : (c : Numbers) (posts : List Post) (table : List (Option ℕ)) (i : ℕ) → list_all (repeats c posts table) posts ≡ true → IsCorrect c i
    → (e : ℕ) → HasOneList e (own_in c i c.n posts) (lists_at e (own_in c i c.n posts))
has_one c posts table i all correct e = one_list_at e own one
  where
    own : List Vote
    own = own_in c i c.n posts

    tabled : (list : List Item) → Contains own (Closed e list) → IsTabled c posts table i e list
    tabled list stands = repeated c posts table all i e list correct stands

    one : (list other : List Item) → Contains own (Closed e list) → Contains own (Closed e other) → list ≡ other
    one list other first second = tabled_one c posts table i e list other (tabled list first) (tabled other second)

nothing_has : (e : ℕ) (own : List Vote) (list : List Item) → Contains own (Closed e list) → lists_at e own ≡ [] → ⊥
nothing_has e own list stands none =
    let nothing : Contains [] list = subst (λ (lists : List (List Item)). Contains lists list) none (list_has e own list stands) in
    omega (arith, nothing.1)

-- and none exactly where the table leads to none
pub none_tabled : (c : Numbers) (posts : List Post) (table : List (Option ℕ)) (i : ℕ) → list_all (repeats c posts table) posts ≡ true → IsCorrect c i
    → (e : ℕ) → has_closed c posts table i e ≡ false → lists_at e (own_in c i c.n posts) ≡ []
none_tabled c posts table i all correct e not_closed = by (has_one c posts table i all correct e)
  where
    own : List Vote
    own = own_in c i c.n posts

    by : HasOneList e own (lists_at e own) → lists_at e own ≡ []
    by (inl none) = none
    by (inr some) =
        absurd (both_ways (has_closed c posts table i e) not_closed
        (tabled_closed c posts table i e some.0 (repeated c posts table all i e some.0 correct some.1)))

pub some_tabled : (c : Numbers) (posts : List Post) (table : List (Option ℕ)) (i : ℕ) → list_all (repeats c posts table) posts ≡ true → IsCorrect c i
    → (e : ℕ) (rest : List ℕ) → (tabled : IsTabledRest c posts table i e rest) → lists_at e (own_in c i c.n posts) ≡ tabled.list ∷ []
some_tabled c posts table i all correct e rest tabled = by (has_one c posts table i all correct e)
  where
    own : List Vote
    own = own_in c i c.n posts

    is : IsTabled c posts table i e tabled.list
    is = record { post = tabled.post; is = tabled.is; from = tabled.from; closes = tabled.closes }

    cast : Contains own (Closed e tabled.list)
    cast =
        let stands = closing_cast c posts tabled.post (e, tabled.list) (post_stands posts table (place_of i e) tabled.post tabled.is) tabled.closes in
        subst (λ (a : ℕ). Contains (own_in c a c.n posts) (Closed e tabled.list)) tabled.from stands.cast

    by : HasOneList e own (lists_at e own) → lists_at e own ≡ tabled.list ∷ []
    by (inl none) = absurd (nothing_has e own tabled.list cast none)
    by (inr some) =
        some.2
        ∙ ap (λ (l : List Item). l ∷ [])
        (tabled_one c posts table i e some.0 tabled.list (repeated c posts table all i e some.0 correct some.1) is)

-- so many lists its ledger has of an epoch
one_or_none : (c : Numbers) (posts : List Post) (table : List (Option ℕ)) (i : ℕ) → list_all (repeats c posts table) posts ≡ true → IsCorrect c i
    → (e : ℕ) → length (lists_at e (own_in c i c.n posts)) ≡ (if has_closed c posts table i e then 1 else 0)
one_or_none c posts table i all correct e = by (has_closed c posts table i e) refl (has_one c posts table i all correct e)
  where
    own : List Vote
    own = own_in c i c.n posts

    by : (b : Bool) → has_closed c posts table i e ≡ b → HasOneList e own (lists_at e own) → length (lists_at e own) ≡ (if b then 1 else 0)
    by true closed (inl none) =
        let cast = found_cast c posts table i e closed in
        absurd (nothing_has e own cast.0 cast.1 none)
    by true closed (inr some) = ap (λ (lists : List (List Item)). length lists) some.2
    by false not_closed one = ap (λ (lists : List (List Item)). length lists) (none_tabled c posts table i all correct e not_closed)

lengths : (A : ℕ → List (List Item)) (p : ℕ → Bool) (s k : ℕ) → ((e : ℕ) → length (A e) ≡ (if p e then 1 else 0))
    → length (flat_map A (range_with_len s k)) + count_nodes s p ≡ count_nodes (s + k) p
lengths A p s zero each =
    let e : s ≡ s + 0 = omega arith in
    let same : count_nodes s p ≡ count_nodes (s + 0) p = ap (λ (m : ℕ). count_nodes m p) e in
    omega (arith, same)
lengths A p s (suc k) each =
    let more : s + 1 ≡ suc s = omega arith in
    let all : s + 1 + k ≡ s + suc k = omega arith in
    let here : count_nodes (s + 1) p ≡ count_nodes s p + (if p s then 1 else 0) = ap (λ (m : ℕ). count_nodes m p) more in
    let there : count_nodes (s + 1 + k) p ≡ count_nodes (s + suc k) p = ap (λ (m : ℕ). count_nodes m p) all in
    let whole = length-append (A s) (flat_map A (range_with_len (s + 1) k)) in
    omega (arith, here, there, whole, each s, lengths A p (s + 1) k each)

lengths_below : (A : ℕ → List (List Item)) (p : ℕ → Bool) (k : ℕ) → ((e : ℕ) → length (A e) ≡ (if p e then 1 else 0))
    → length (flat_map A (range_with_len 0 k)) ≡ count_nodes k p
lengths_below A p k each =
    let all : 0 + k ≡ k = omega arith in
    let same : count_nodes (0 + k) p ≡ count_nodes k p = ap (λ (m : ℕ). count_nodes m p) all in
    omega (arith, same, lengths A p 0 k each)

pub tabled_count : (c : Numbers) (posts : List Post) (table : List (Option ℕ)) (i : ℕ) → list_all (repeats c posts table) posts ≡ true
    → IsCorrect c i → count_nodes 32 (has_closed c posts table i) ≡ length (ledger c posts i)
tabled_count c posts table i all correct =
    sym (lengths_below (λ (e : ℕ). lists_at e (own_in c i c.n posts)) (has_closed c posts table i) 32 (one_or_none c posts table i all correct))
