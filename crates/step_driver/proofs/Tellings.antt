-- A liar's posts are counted.
use Rattle.std.proofs.Common.{◌≡◌, ℕ, ◌+◌, ◌<◌, ◌≤◌, Bool, true, false, List, [], ◌∷◌, ◌++◌, inl, inr, refl, sym, ap, ◌∙◌, length, subst, arith, cond}
use Rattle.std.specs.Prelude.{count_by}
use Rattle.std.specs.List.{filter}
use Rattle.std.proofs.lemmas.List.{append-nil, append_assoc}
use Rattle.std.proofs.lemmas.List.Elements.{filter-append}
use Rattle.std.proofs.lemmas.List.Sums.{sum_by-append, length-filter}
use Rattle.std.proofs.lemmas.Bool.{eq-eqb}
use Rattle.hb_base.specs.Numbers.{Numbers}
use Rattle.hb_base.specs.NodeSet.{is_in}
use Rattle.hb_base.specs.Limits.{most_lies}
use Rattle.hb_wire.specs.declared.post.Lie.{Lie}
use Rattle.hb_wire.specs.declared.post.Post.{Post}
use Rattle.hb_rules.specs.Book.{lie_of, mine_in, Watched, Posted}
use Rattle.step_driver.specs.Delivering.{is_from}
use Rattle.step_driver.specs.Telling.{AreSome, Tells}

pub count_append : (test : Post → Bool) (xs ys : List Post) → count_by test (xs ++ ys) ≡ count_by test xs + count_by test ys
count_append test xs ys = sum_by-append (λ (post : Post). cond (test post) 1 0) xs ys

-- others' posts are not its own
own_none : (c : Numbers) (i x : ℕ) (posts : List Post) → is_in c.liars i ≡ true → mine_in c i x posts ≡ [] → filter (is_from i) posts ≡ []
own_none c i x [] liar none = refl
own_none c i x (post ∷ posts) liar none = by (is_from i post) refl (λ rest. own_none c i x posts liar rest)
  where
    by : (b : Bool) → is_from i post ≡ b → (mine_in c i x posts ≡ [] → filter (is_from i) posts ≡ []) → filter (is_from i) (post ∷ posts) ≡ []
    by true mine later = absurd (cc (rw (mine, liar) at none))
    by false other later = rw other (later (rw other at none))

pub count_none : (c : Numbers) (i x : ℕ) (posts : List Post) → is_in c.liars i ≡ true → mine_in c i x posts ≡ [] → count_by (is_from i) posts ≡ 0
count_none c i x posts liar none =
    sym (length-filter (is_from i) posts) ∙ ap (λ (own : List Post). length own) (own_none c i x posts liar none)

-- others' posts don't count
pub count_watched : (c : Numbers) (i x : ℕ) (old new : List Post) → is_in c.liars i ≡ true → Watched c i x old new → count_by (is_from i) new ≡ count_by (is_from i) old
count_watched c i x old new liar watched =
    let none : count_by (is_from i) watched.between ≡ 0 = count_none c i x watched.between liar watched.others in
    let more : count_by (is_from i) (old ++ watched.between) ≡ count_by (is_from i) old = omega (arith, none, count_append (is_from i) old watched.between) in
    ap (λ (posts : List Post). count_by (is_from i) posts) watched.is ∙ more

count_one : (i : ℕ) (posts : List Post) (post : Post) → post.from ≡ i → count_by (is_from i) (posts ++ post ∷ []) ≡ count_by (is_from i) posts + 1
count_one i posts post from =
    let mine : is_from i post ≡ true = eq-eqb post.from i from in
    let one : count_by (is_from i) (post ∷ []) ≡ 1 = rw mine refl in
    omega (arith, one, count_append (is_from i) posts (post ∷ []))

-- ---- of which lies the posts are

AreSome-none : (i : ℕ) (lies : List Lie) → AreSome i lies []
AreSome-none i [] = refl
AreSome-none i (lie ∷ lies) = inl (AreSome-none i lies)

AreSome-append : (i : ℕ) (lies more : List Lie) (xs ys : List Post) → AreSome i lies xs → AreSome i more ys → AreSome i (lies ++ more) (xs ++ ys)
AreSome-append i [] more xs ys one two = subst (λ (zs : List Post). AreSome i more (zs ++ ys)) (sym one) two
AreSome-append i (lie ∷ lies) more xs ys (inl left) two = inl (AreSome-append i lies more xs ys left two)
AreSome-append i (lie ∷ lies) more xs ys (inr told) two =
    inr (told.0 ++ ys, ap (λ (zs : List Post). zs ++ ys) told.1, AreSome-append i lies more told.0 ys told.2 two)

-- ---- one lie, and one after another

pub Tells-none : {S : Type 0} (config : S → Numbers) (node actor : S → ℕ) (seen : S → List Post) (lies : List Lie) (old : S) (told : ℕ)
    → count_by (is_from (node old)) (seen old) ≡ told → told ≤ most_lies → Tells config node actor seen lies old old told
Tells-none config node actor seen lies old told said few = record { same = (refl, refl, refl); said = said; few = few; added = []; grown = sym (append-nil (seen old)); own = AreSome-none (node old) lies }

pub Tells-refused : {S : Type 0} (config : S → Numbers) (node actor : S → ℕ) (seen : S → List Post) (lies : List Lie) (old new : S) (told : ℕ) → is_in (config old).liars (node old) ≡ true
    → (config new ≡ config old) × (node new ≡ node old) × (actor new ≡ actor old) → Watched (config old) (node old) (actor old) (seen old) (seen new)
    → count_by (is_from (node old)) (seen old) ≡ told → told ≤ most_lies → Tells config node actor seen lies old new told
Tells-refused config node actor seen lies old new told liar same watched said few = record {
  same = same;
  said =
      ap (λ (i : ℕ). count_by (is_from i) (seen new)) same.1
      ∙ count_watched (config old) (node old) (actor old) (seen old) (seen new) liar watched ∙ said;
  few = few;
  added = watched.between;
  grown = watched.is;
  own = subst (λ (posts : List Post). AreSome (node old) lies posts) (sym (own_none (config old) (node old) (actor old) watched.between liar watched.others)) (AreSome-none (node old) lies);
}

pub Tells-one : {S : Type 0} (config : S → Numbers) (node actor : S → ℕ) (seen : S → List Post) (lie : Lie) (old new : S) (k told : ℕ) → is_in (config old).liars (node old) ≡ true
    → (config new ≡ config old) × (node new ≡ node old) × (actor new ≡ actor old)
    → Posted (config old) (node old) (actor old) (lie_of (node old) lie.actor lie.to lie.bytes) k (seen old) (seen new)
    → count_by (is_from (node old)) (seen old) ≡ told → told < most_lies → Tells config node actor seen (lie ∷ []) old new (told + 1)
Tells-one config node actor seen lie old new k told liar same posted said few =
    let i = node old in
    let post = lie_of i lie.actor lie.to lie.bytes in
    let before : count_by (is_from i) posted.before ≡ told =
    count_watched (config old) i (actor old) (seen old) posted.before liar posted.watched ∙ said in
    let mine : is_from i post ≡ true = eq-eqb i i refl in
    let one : filter (is_from i) (post ∷ []) ≡ post ∷ [] = rw mine refl in
    let own : filter (is_from i) (posted.watched.between ++ post ∷ []) ≡ post ∷ [] =
    filter-append (is_from i) posted.watched.between (post ∷ [])
    ∙ ap (λ (posts : List Post). posts ++ filter (is_from i) (post ∷ [])) (own_none (config old) i (actor old) posted.watched.between liar posted.watched.others) ∙ one in
    let after : count_by (is_from i) (posted.before ++ post ∷ []) ≡ told + 1 = count_one i posted.before post refl ∙ ap (λ (n : ℕ). n + 1) before in
    record {
      same = same;
      said = ap (λ (j : ℕ). count_by (is_from j) (seen new)) same.1 ∙ ap (λ (posts : List Post). count_by (is_from i) posts) posted.is ∙ after;
      few = omega (arith, few);
      added = posted.watched.between ++ post ∷ [];
      grown =
          posted.is ∙ ap (λ (posts : List Post). posts ++ post ∷ []) posted.watched.is
          ∙ append_assoc (seen old) posted.watched.between (post ∷ []);
      own = subst (λ (posts : List Post). AreSome i (lie ∷ []) posts) (sym own) (inr ([], refl, refl));
    }

-- one lie more, after some
pub Tells-more : {S : Type 0} (config : S → Numbers) (node actor : S → ℕ) (seen : S → List Post) (lies : List Lie) (lie : Lie) (old mid new : S) (one two : ℕ)
    → Tells config node actor seen lies old mid one → Tells config node actor seen (lie ∷ []) mid new two → Tells config node actor seen (lies ++ lie ∷ []) old new two
Tells-more config node actor seen lies lie old mid new one two first then =
    let i = node old in
    let last : AreSome i (lie ∷ []) (filter (is_from i) then.added) =
    subst (λ (j : ℕ). AreSome j (lie ∷ []) (filter (is_from j) then.added)) first.same.1 then.own in
    record {
      same = (then.same.0 ∙ first.same.0, then.same.1 ∙ first.same.1, then.same.2 ∙ first.same.2);
      said = then.said;
      few = then.few;
      added = first.added ++ then.added;
      grown =
          then.grown ∙ ap (λ (posts : List Post). posts ++ then.added) first.grown
          ∙ append_assoc (seen old) first.added then.added;
      own = subst (λ (posts : List Post). AreSome i (lies ++ lie ∷ []) posts) (sym (filter-append (is_from i) first.added then.added))
          (AreSome-append i lies (lie ∷ []) (filter (is_from i) first.added) (filter (is_from i) then.added) first.own last);
    }

-- what was known of a liar's seat holds on
pub liar_on : {S : Type 0} (config : S → Numbers) (node actor : S → ℕ) (seen : S → List Post) (lies : List Lie) (old new : S) (told : ℕ)
    → Tells config node actor seen lies old new told → is_in (config old).liars (node old) ≡ true → is_in (config new).liars (node new) ≡ true
liar_on config node actor seen lies old new told tells liar =
    ap (λ (c : Numbers). is_in c.liars (node new)) tells.same.0 ∙ ap (λ (i : ℕ). is_in (config old).liars i) tells.same.1 ∙ liar

-- calls by the same seat
pub moved_on : {B S : Type 0} (moved : ℕ → ℕ → B → B → Type 0) (config : S → Numbers) (node actor : S → ℕ) (seen : S → List Post) (lies : List Lie) (old new : S) (told : ℕ) (a b : B)
    → Tells config node actor seen lies old new told → moved (node new) (actor new) a b → moved (node old) (actor old) a b
moved_on moved config node actor seen lies old new told a b tells went =
    subst (λ (x : ℕ). moved (node old) x a b) tells.same.2 (subst (λ (i : ℕ). moved i (actor new) a b) tells.same.1 went)
