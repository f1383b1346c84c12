-- What is computed of the posts is what is defined of the ledgers.
use Rattle.std.proofs.Common.{◌≡◌, ◌-◌, ◌≤◌, Bool, true, List, [], ◌∷◌, Contains, Option, None, Some, length, refl, ap, sym, ◌∙◌, arith}
use Rattle.std.specs.List.{list_all}
use Rattle.std.proofs.lemmas.Bool.{and_parts, and_from, leb-true, le-leb}
use Rattle.hb_base.specs.Numbers.{Numbers}
use Rattle.hb_wire.specs.declared.post.Post.{Post}
use Rattle.hb_rules.specs.Ledger.{BatchesAreEnough}
use Rattle.hb_rules.proofs.Lists.{Contains-first, Contains-later, Contains-cases}
use Rattle.acs_world.specs.Closed.{Closure, closing_by, is_enough}
use Rattle.acs_world.proofs.Ledgers.{ledger_from, ledger_has}
use Rattle.acs_world.proofs.Reading.{closing_cast, cast_closing}

-- ---- what holds of each element

pub each_passes : {A : Type 0} (test : A → Bool) (xs : List A) (x : A) → list_all test xs ≡ true → Contains xs x → test x ≡ true
each_passes test [] x all stands = absurd (omega (arith, stands.1))
each_passes test (y ∷ xs) x all stands =
    let parts = and_parts (test y) (list_all test xs) all in
    Contains-cases y xs x stands (test x ≡ true) (λ is. ap test (sym is) ∙ parts.0) (λ later. each_passes test xs x parts.1 later)

pub all_pass : {A : Type 0} (test : A → Bool) (xs : List A) → ((x : A) → Contains xs x → test x ≡ true) → list_all test xs ≡ true
all_pass test [] each = refl
all_pass test (y ∷ xs) each =
    and_from (test y) (list_all test xs) (each y (Contains-first y xs)) (all_pass test xs (λ x stands. each x (Contains-later y xs x stands)))

-- ---- batches

abbrev enough_at : Numbers → Post → Bool
enough_at c post = is_enough c (closing_by c post)

pub batches_from : (c : Numbers) (posts : List Post) → list_all (λ (post : Post). is_enough c (closing_by c post)) posts ≡ true
    → BatchesAreEnough c posts
batches_from c posts all i list correct stands =
    let closed = ledger_from c posts i list stands in
    let posted = cast_closing c posts i closed.0 list correct closed.1 in
    let passes : enough_at c posted.post ≡ true = each_passes (enough_at c) posts posted.post all posted.stands in
    leb-true (c.n - c.f) (length list) (ap (λ (o : Option Closure). is_enough c o) (sym posted.closes) ∙ passes)

enough_by : (c : Numbers) (o : Option Closure) → ((closure : Closure) → o ≡ Some closure → c.n - c.f ≤ length closure.1) → is_enough c o ≡ true
enough_by c None each = refl
enough_by c (Some closure) each = le-leb (c.n - c.f) (length closure.1) (each closure refl)

pub batches_all : (c : Numbers) (posts : List Post) → BatchesAreEnough c posts
    → list_all (λ (post : Post). is_enough c (closing_by c post)) posts ≡ true
batches_all c posts enough =
    all_pass (enough_at c) posts (λ post stands. enough_by c (closing_by c post) (λ closure closes.
    let cast = closing_cast c posts post closure stands closes in
    enough post.from closure.1 cast.correct (ledger_has c posts post.from closure.0 closure.1 cast.cast)))
