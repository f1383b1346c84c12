-- Which correct nodes have closed an epoch, post by post.
use Rattle.std.proofs.Common.{◌≡◌, ℕ, ◌+◌, ◌<◌, ◌&&◌, ◌||◌, ◌==◌, not, nat_lt, nat_le, Bool, true, false, List, [], ◌∷◌, ◌++◌, Option, None, Some, is_some, if◌then◌else◌, refl, sym, ap, ◌∙◌, arith}
use Rattle.std.specs.List.{list_any, cons_option}
use Rattle.std.specs.Option.{option_and_then}
use Rattle.std.proofs.lemmas.Bool.{eqb-true, eq-eqb, both_ways, false_from_ne_true, le-leb, leb-true, lt-ltb, ltb-true}
use Rattle.std.proofs.lemmas.List.Elements.{filter_map-append}
use Rattle.std.proofs.lemmas.List.Folds.{list_any-append}
use Rattle.net_script.specs.declared.script.Link.{Link}
use Rattle.net_script.specs.Delivery.{shape_of}
use Rattle.hb_base.specs.NodeSet.{is_in}
use Rattle.hb_base.specs.Numbers.{Numbers}
use Rattle.hb_wire.specs.declared.vote.Vote.{Vote}
use Rattle.hb_wire.specs.declared.vote.Vote.TheVariants.{Closed}
use Rattle.hb_wire.specs.declared.post.Post.{Post}
use Rattle.hb_rules.specs.Claims.{is_any_closing}
use Rattle.hb_rules.specs.Hearing.{spelled, vote_by, own_in, said_in}
use Rattle.hb_rules.specs.Lanes.{is_correct}
use Rattle.hb_rules.specs.Report.{is_drop}
use Rattle.hb_rules.proofs.LaneVotes.{correct_is}
use Rattle.acs_world.specs.Closed.{closing, closing_by}
use Rattle.acs_world.specs.Firsts.{is_epoch}
use Rattle.observer.specs.Agreeing.{is_closer}
use Rattle.observer.specs.Beside.{arriving}

and_none : (b : Bool) → (b && false) ≡ false
and_none true = refl
and_none false = refl

and_or : (b x y : Bool) → (b && (x || y)) ≡ ((b && x) || (b && y))
and_or true x y = refl
and_or false x y = refl

or_none : (b : Bool) → b ≡ (b || false)
or_none true = refl
or_none false = refl

-- by what was heard first, and by what was heard then
pub closer_append : (c : Numbers) (heard more : List Post) (e i : ℕ) → is_closer c (heard ++ more) e i ≡ (is_closer c heard e i || is_closer c more e i)
closer_append c heard more e i =
    ap (λ (b : Bool). is_correct c i && b)
    (ap (list_any (is_any_closing e)) (filter_map-append (vote_by c i c.n) heard more)
    ∙ list_any-append (is_any_closing e) (own_in c i c.n heard) (own_in c i c.n more))
    ∙ and_or (is_correct c i) (said_in c c.n heard i (is_any_closing e)) (said_in c c.n more i (is_any_closing e))

-- by nothing
pub closer_none : (c : Numbers) (e i : ℕ) → is_closer c [] e i ≡ false
closer_none c e i = and_none (is_correct c i)

any_is : (e : ℕ) (vote : Vote) → is_any_closing e vote ≡ is_epoch e (closing vote)
any_is e (Closed d list) = by (d == e)
  where
    by : (b : Bool) → is_some (if b then Some list else None) ≡ b
    by true = refl
    by false = refl
any_is e vote = refl

one_vote : (e : ℕ) (o : Option Vote) → list_any (is_any_closing e) (cons_option o []) ≡ is_epoch e (option_and_then closing o)
one_vote e None = refl
one_vote e (Some vote) = sym (or_none (is_any_closing e vote)) ∙ any_is e vote

-- by one post
pub closer_one : (c : Numbers) (post : Post) (e i : ℕ) → is_closer c (post ∷ []) e i ≡ ((i == post.from) && is_epoch e (closing_by c post))
closer_one c post e i = by (post.from == i) refl
  where
    by : (b : Bool) → (post.from == i) ≡ b
        → (is_correct c i && list_any (is_any_closing e) (cons_option (if b && (post.actor == c.n) then spelled c post else None) []))
        ≡ ((i == post.from) && is_epoch e (closing_by c post))
    by false apart =
        let other : (i == post.from) ≡ false =
        false_from_ne_true (i == post.from) (λ h. both_ways (post.from == i) apart (eq-eqb post.from i (sym (eqb-true i post.from h)))) in
        and_none (is_correct c i) ∙ ap (λ (b : Bool). b && is_epoch e (closing_by c post)) (sym other)
    by true same =
        let node : post.from ≡ i = eqb-true post.from i same in
        let here : (i == post.from) ≡ true = eq-eqb i post.from (sym node) in
        ap (λ (k : ℕ). is_correct c k && list_any (is_any_closing e) (cons_option (if post.actor == c.n then spelled c post else None) [])) (sym node)
        ∙ desk (is_correct c post.from) (post.actor == c.n)
        ∙ ap (λ (b : Bool). b && is_epoch e (closing_by c post)) (sym here)
      where
        desk : (right at : Bool) → (right && list_any (is_any_closing e) (cons_option (if at then spelled c post else None) []))
            ≡ is_epoch e (if right && at then option_and_then closing (spelled c post) else None)
        desk false at = refl
        desk true false = refl
        desk true true = one_vote e (spelled c post)

-- ---- a post that comes or is dropped

pub closer_dropped : (c : Numbers) (links : List Link) (node k e i : ℕ) (post : Post) → is_drop (shape_of links post.from node k) ≡ true
    → is_closer c (arriving links node k (post ∷ [])) e i ≡ false
closer_dropped c links node k e i post dropped =
    let none : arriving links node k (post ∷ []) ≡ [] = rw dropped refl in
    ap (λ (heard : List Post). is_closer c heard e i) none ∙ closer_none c e i

pub closer_comes : (c : Numbers) (links : List Link) (node k e i : ℕ) (post : Post) → is_drop (shape_of links post.from node k) ≡ false
    → is_closer c (arriving links node k (post ∷ [])) e i ≡ ((i == post.from) && is_epoch e (closing_by c post))
closer_comes c links node k e i post comes =
    let one : arriving links node k (post ∷ []) ≡ post ∷ [] = rw comes refl in
    ap (λ (heard : List Post). is_closer c heard e i) one ∙ closer_one c post e i

-- the nodes stay where a post is dropped
pub kept_dropped : (c : Numbers) (links : List Link) (node k e i : ℕ) (post : Post) (b : Bool) → is_drop (shape_of links post.from node k) ≡ true
    → b ≡ (b || is_closer c (arriving links node k (post ∷ [])) e i)
kept_dropped c links node k e i post b dropped =
    or_none b ∙ ap (λ (d : Bool). b || d) (sym (closer_dropped c links node k e i post dropped))

-- or closes no such epoch
pub kept_open : (c : Numbers) (links : List Link) (node k e i : ℕ) (post : Post) (b : Bool) → is_drop (shape_of links post.from node k) ≡ false
    → is_epoch e (closing_by c post) ≡ false → b ≡ (b || is_closer c (arriving links node k (post ∷ [])) e i)
kept_open c links node k e i post b comes none =
    or_none b
    ∙ ap (λ (d : Bool). b || d)
    (sym (closer_comes c links node k e i post comes ∙ ap (λ (d : Bool). (i == post.from) && d) none ∙ and_none (i == post.from)))

-- and one is added where it does
pub added_closer : (c : Numbers) (links : List Link) (node k e i : ℕ) (post : Post) (b : Bool) → is_drop (shape_of links post.from node k) ≡ false
    → is_epoch e (closing_by c post) ≡ true → ((i == post.from) || b) ≡ (b || is_closer c (arriving links node k (post ∷ [])) e i)
added_closer c links node k e i post b comes closes =
    turned (i == post.from) b
    ∙ ap (λ (d : Bool). b || d)
    (sym (closer_comes c links node k e i post comes ∙ ap (λ (d : Bool). (i == post.from) && d) closes ∙ and_all (i == post.from)))
  where
    turned : (a b : Bool) → (a || b) ≡ (b || a)
    turned true true = refl
    turned true false = refl
    turned false true = refl
    turned false false = refl

    and_all : (a : Bool) → (a && true) ≡ a
    and_all true = refl
    and_all false = refl

-- who closes an epoch is a node of the run
pub closing_known : (c : Numbers) (post : Post) (e : ℕ) → is_epoch e (closing_by c post) ≡ true → post.from < c.n
closing_known c post e h = by (is_correct c post.from) refl h
  where
    by : (right : Bool) → is_correct c post.from ≡ right
        → is_epoch e (if right && (post.actor == c.n) then option_and_then closing (spelled c post) else None) ≡ true → post.from < c.n
    by false lies h = absurd (cc (h))
    by true right h = (correct_is c post.from right).known

pub closer_within : (c : Numbers) (heard : List Post) (e i : ℕ) → is_closer c heard e i ≡ (nat_lt i c.n && is_closer c heard e i)
closer_within c heard e i = by (nat_lt i c.n) (not (is_in c.liars i)) (said_in c c.n heard i (is_any_closing e))
  where
    by : (known honest said : Bool) → ((known && honest) && said) ≡ (known && ((known && honest) && said))
    by false honest said = refl
    by true honest said = refl

-- more than f nodes are f + 1
pub more_than : (f many : ℕ) → nat_lt f many ≡ nat_le (f + 1) many
more_than f many = by (nat_lt f many) refl
  where
    by : (b : Bool) → nat_lt f many ≡ b → b ≡ nat_le (f + 1) many
    by true more = sym (le-leb (f + 1) many (omega (arith, ltb-true f many more)))
    by false few =
        sym (false_from_ne_true (nat_le (f + 1) many) (λ h. both_ways (nat_lt f many) few (lt-ltb f many (omega (arith, leb-true (f + 1) many h)))))
