-- The state of a lane that has cast some votes, and has heard nothing since.
use Rattle.std.proofs.Common.{◌≡◌, ℕ, ◌<◌, ◌≤◌, Bool, true, false, ◌||◌, ◌==◌, List, [], ◌∷◌, ◌++◌, take, Option, None, Some, if◌then◌else◌, is_some, unwrap_or, length, get_or, add-one, ◌+◌, refl, sym, ap, ◌∙◌, arith}
use Rattle.std.specs.List.{list_any, filter}
use Rattle.std.specs.Option.{option_map, option_or}
use Rattle.std.proofs.Math.Bool.{or-false}
use Rattle.std.proofs.Math.Seq.{take-suc}
use Rattle.std.proofs.lemmas.Bool.{and_parts}
use Rattle.std.proofs.lemmas.List.{take_all}
use Rattle.std.proofs.lemmas.List.Folds.{list_any-append}
use Rattle.hb_base.specs.NodeSet.{is_in}
use Rattle.hb_wire.specs.declared.vote.Vote.{Vote}
use Rattle.hb_wire.specs.declared.vote.Vote.TheVariants.{Val, Echo, Ready, Delivered}
use Rattle.rs_shards.specs.Completing.{encoded}
use Rattle.hb_rules.specs.Claims.{delivered, is_val_to, is_any_echo, is_any_ready}
use Rattle.hb_rules.specs.Code.{data_count}
use Rattle.hb_rules.specs.Parts.{in_broadcast}
use Rattle.hb_rules.specs.Slots.{first_of, IsIdle}
use Rattle.hb_rules.specs.BroadcastRows.{val_of, val_slot, echo_slot, ready_slot, delivery_slot}
use Rattle.hb_rules.specs.Owing.{Place}
use Rattle.hb_rules.proofs.Lists.{AllByRecursion-append, AllByRecursion-each, any_within, first_within}
use Rattle.hb_rules.proofs.Passing.{IsSettledAt, settled_if_none, pass_settled}
use Rattle.rbc_core.specs.Broadcast.{RbcView, place_of, slots_at, Stands, Marks}
use Rattle.rbc_core.specs.RootViews.{RootView, unheard}
use Rattle.rbc_core.specs.Roots.{RootsView, found, view_at}
use Rattle.rbc_core.proofs.Firsts.{first_of-append, option_or-none}
use Rattle.rbc_core.proofs.RootStates.{none_marked, IsRootView-unheard}
use Rattle.rbc_core.proofs.Choices.{vals_at, echo_at, ready_at, delivery_at}

-- the marks are of what was cast, and no root was heard of
pub record AreMarked (r : RbcView) (p : Place) (own : List Vote) : Type 0 where
  pub place : place_of r ≡ p
  pub none : (root : List ℕ) → found r.roots root ≡ None
  pub vals : (m : ℕ) → is_in r.vals m ≡ list_any (is_val_to p.epoch m) own
  pub echo : r.is_echo_cast ≡ list_any (is_any_echo p.epoch) own
  pub ready : r.is_ready_cast ≡ list_any (is_any_ready p.epoch) own
  pub delivered : r.delivered ≡ first_of (delivered p.epoch) own

any_push : (test : Vote → Bool) (own : List Vote) (vote : Vote) (old new : Bool) → new ≡ (old || test vote) → old ≡ list_any test own
    → new ≡ list_any test (own ++ vote ∷ [])
any_push test own vote old new is was =
    is ∙ ap (λ (b : Bool). b || test vote) was
    ∙ sym (list_any-append test own (vote ∷ []) ∙ ap (λ (b : Bool). list_any test own || b) (or-false (test vote)))

-- one vote more
pub AreMarked-push : (old new : RbcView) (p : Place) (own : List Vote) (vote : Vote) → AreMarked old p own → Marks old new vote
    → AreMarked new p (own ++ vote ∷ [])
AreMarked-push old new p own vote are marks =
    let place : place_of new ≡ place_of old = ap place_of marks.same in
    let roots : new.roots ≡ old.roots = ap (λ (r : RbcView). r.roots) marks.same in
    let epoch : old.epoch ≡ p.epoch = ap (λ (p : Place). p.epoch) are.place in
    record {
      place = place ∙ are.place;
      none = λ root. ap (λ (r : RootsView). found r root) roots ∙ are.none root;
      vals = λ m. any_push (is_val_to p.epoch m) own vote (is_in old.vals m) (is_in new.vals m)
          (marks.vals m ∙ ap (λ (e : ℕ). is_in old.vals m || is_val_to e m vote) epoch) (are.vals m);
      echo = any_push (is_any_echo p.epoch) own vote old.is_echo_cast new.is_echo_cast
          (marks.echo ∙ ap (λ (e : ℕ). old.is_echo_cast || is_any_echo e vote) epoch) are.echo;
      ready = any_push (is_any_ready p.epoch) own vote old.is_ready_cast new.is_ready_cast
          (marks.ready ∙ ap (λ (e : ℕ). old.is_ready_cast || is_any_ready e vote) epoch) are.ready;
      delivered =
          marks.delivered ∙ ap (λ (e : ℕ). option_or old.delivered (delivered e vote)) epoch
          ∙ ap (λ (o : Option (List ℕ)). option_or o (delivered p.epoch vote)) are.delivered
          ∙ sym (first_of-append (delivered p.epoch) own (vote ∷ [])
          ∙ ap (λ (o : Option (List ℕ)). option_or (first_of (delivered p.epoch) own) o) (option_or-none (delivered p.epoch vote)));
    }

-- nothing is owed where nothing was heard
pub nothing_heard : (p : Place) (own : List Vote) → IsIdle (slots_at p) own []
unfolding val_slot echo_slot ready_slot delivery_slot
nothing_heard p own =
    pass_settled (slots_at p) own []
    (AllByRecursion-append (λ slot. IsSettledAt slot own []) (vals_at p) (echo_at p ∷ ready_at p ∷ delivery_at p ∷ [])
    (AllByRecursion-each (λ slot. IsSettledAt slot own []) p.config.n (λ m. val_slot p.config p.node p.lane p.epoch m ∷ [])
    (λ m _. (settled_if_none (val_slot p.config p.node p.lane p.epoch m) own [] (no_val m (p.node == p.lane)), tt)))
    (settled_if_none (echo_at p) own [] refl, (settled_if_none (ready_at p) own [] refl, (settled_if_none (delivery_at p) own [] refl, tt))))
  where
    no_val : (m : ℕ) (b : Bool)
        → (if b then option_map (λ (value : List ℕ). val_of p.epoch m (encoded p.config.n (data_count p.config) value)) None else None) ≡ None
    no_val m true = refl
    no_val m false = refl

pub stands_marked : (r : RbcView) (p : Place) (own : List Vote) → 1 ≤ data_count r.roots.config → AreMarked r p own → Stands r own []
stands_marked r p own some are =
    let epoch : r.epoch ≡ p.epoch = ap (λ (p : Place). p.epoch) are.place in
    let here : (root : List ℕ) → view_at r.roots root ≡ unheard = λ root. ap (λ (o : Option RootView). unwrap_or o unheard) (are.none root) in
    record {
      idle = nothing_heard (place_of r) own;
      vals = rw epoch are.vals;
      echo = rw epoch are.echo;
      ready = rw epoch are.ready;
      delivered = rw epoch are.delivered;
      roots = λ root. record {
        known = λ named. absurd (cc (named));
        shows = record {
          echoes = λ a. ap (λ (v : RootView). is_in v.echoes a) (here root) ∙ none_marked a;
          readies = λ a. ap (λ (v : RootView). is_in v.readies a) (here root) ∙ none_marked a;
          shards = ap (λ (v : RootView). v.shards) (here root) ∙ sym (take_all (data_count r.roots.config) [] (omega arith));
          value =
              rw (here root) (IsRootView-unheard r.roots.config root some).value;
        };
      };
      nodes = λ a above. refl;
    }

-- ---- the part of the votes that the broadcast of the epoch casts

inside_val : (e m : ℕ) (vote : Vote) → is_val_to e m vote ≡ true → in_broadcast e vote ≡ true
inside_val e m (Val d target root shard branch) h = (and_parts (d == e) (target == m) h).0
inside_val e m vote h = absurd (cc (h))

inside_echo : (e : ℕ) (vote : Vote) → is_any_echo e vote ≡ true → in_broadcast e vote ≡ true
inside_echo e (Echo d root shard branch) h = h
inside_echo e vote h = absurd (cc (h))

some_only : {A : Type 0} (b : Bool) (x : A) → is_some (if b then Some x else None) ≡ true → b ≡ true
some_only true x h = refl
some_only false x h = absurd (cc (h))

inside_ready : (e : ℕ) (vote : Vote) → is_any_ready e vote ≡ true → in_broadcast e vote ≡ true
inside_ready e (Ready d root) h = some_only (d == e) root h
inside_ready e vote h = absurd (cc (h))

outside_delivered : (e : ℕ) (vote : Vote) → in_broadcast e vote ≡ false → delivered e vote ≡ None
outside_delivered e (Delivered d value) outside = let other : (d == e) ≡ false = outside in rw other refl
outside_delivered e vote outside = refl

-- the marks are of this part alone
pub AreMarked-part : (r : RbcView) (p : Place) (own : List Vote) → AreMarked r p own → AreMarked r p (filter (in_broadcast p.epoch) own)
AreMarked-part r p own are = record {
  place = are.place;
  none = are.none;
  vals = λ m. are.vals m ∙ sym (any_within (is_val_to p.epoch m) (in_broadcast p.epoch) (inside_val p.epoch m) own);
  echo = are.echo ∙ sym (any_within (is_any_echo p.epoch) (in_broadcast p.epoch) (inside_echo p.epoch) own);
  ready = are.ready ∙ sym (any_within (is_any_ready p.epoch) (in_broadcast p.epoch) (inside_ready p.epoch) own);
  delivered = are.delivered ∙ sym (first_within (delivered p.epoch) (in_broadcast p.epoch) (outside_delivered p.epoch) own);
}

-- the first elements, and the next one
pub take_next : (xs : List Vote) (i : ℕ) (d : Vote) → i < length xs → take i xs ++ get_or xs i d ∷ [] ≡ take (i + 1) xs
take_next xs i d below = rw add-one (sym (take-suc xs i d below))
