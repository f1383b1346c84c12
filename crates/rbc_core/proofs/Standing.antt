-- What a broadcast's state stands for after one more hearing.
use Rattle.std.proofs.Common.{◌≡◌, ℕ, ◌<◌, ◌≤◌, Bool, true, false, ◌||◌, ◌==◌, List, [], ◌∷◌, ◌++◌, Option, None, Some, refl, sym, ap, ◌∙◌, subst, arith}
use Rattle.std.specs.List.{list_any}
use Rattle.std.specs.Option.{option_map, option_or, option_to_list}
use Rattle.std.proofs.lemmas.Bool.{eqb-true, eq-eqb, false_from_ne_true}
use Rattle.std.proofs.lemmas.List.Folds.{list_any-append}
use Rattle.hb_base.specs.NodeSet.{is_in}
use Rattle.hb_wire.specs.declared.vote.Vote.{Vote}
use Rattle.hb_wire.specs.declared.vote.Vote.TheVariants.{Ready, Delivered}
use Rattle.hb_rules.specs.Claims.{delivered, is_val_to, is_any_echo, is_any_ready, is_any_delivery}
use Rattle.hb_rules.specs.Hearing.{Hearing, heard_by}
use Rattle.hb_rules.specs.Slots.{pass, first_of, when, IsIdle, IsOwed}
use Rattle.hb_rules.specs.Owing.{Place}
use Rattle.hb_rules.proofs.BroadcastSlots.{broadcast-rests, broadcast-owed}
use Rattle.rbc_core.specs.Broadcast.{RbcView, place_of, slots_at, IsHeard, Stands, Hears}
use Rattle.rbc_core.specs.Roots.{RootsView}
use Rattle.rbc_core.proofs.Firsts.{first_of-append}
use Rattle.rbc_core.proofs.Hearings.{heard_by-push}

-- all roots are as they were heard, and none but the nodes was heard
pub record AreHeard (r : RootsView) (e : ℕ) (heard : List Hearing) : Type 0 where
  pub roots : (root : List ℕ) → IsHeard r e heard root
  pub nodes : (a : ℕ) → r.config.n ≤ a → heard_by heard a (λ vote. true) ≡ false

-- The state changed by one hearing and the votes that it made due: the votes fill the marks, and the roots are as they were
-- heard.
pub record Changes (old new : RbcView) (h : Hearing) (votes : List Vote) : Type 0 where
  pub place : place_of new ≡ place_of old
  pub from : h.from < old.roots.config.n
  pub vals : (m : ℕ) → is_in new.vals m ≡ (is_in old.vals m || list_any (is_val_to old.epoch m) votes)
  pub echo : new.is_echo_cast ≡ (old.is_echo_cast || list_any (is_any_echo old.epoch) votes)
  pub ready : new.is_ready_cast ≡ (old.is_ready_cast || list_any (is_any_ready old.epoch) votes)
  pub delivered : new.delivered ≡ option_or old.delivered (first_of (delivered old.epoch) votes)
  pub roots : (heard : List Hearing) → AreHeard old.roots old.epoch heard → (root : List ℕ) → IsHeard new.roots old.epoch (heard ++ h ∷ []) root

-- one pass owes these votes, whatever the state stands for
pub record AreOwed (r : RbcView) (h : Hearing) (votes : List Vote) : Type 0 where
  pub gives : (own : List Vote) (heard : List Hearing) → Stands r own heard → pass (slots_at (place_of r)) own (heard ++ h ∷ []) ≡ votes

mark_more : (test : Vote → Bool) (own votes : List Vote) (old new : Bool) → new ≡ (old || list_any test votes) → old ≡ list_any test own
    → new ≡ list_any test (own ++ votes)
mark_more test own votes old new is was = is ∙ ap (λ (b : Bool). b || list_any test votes) was ∙ sym (list_any-append test own votes)

-- none but the nodes was heard, after a hearing of a node
pub nodes_now : (n : ℕ) (heard : List Hearing) (h : Hearing) → h.from < n → ((a : ℕ) → n ≤ a → heard_by heard a (λ vote. true) ≡ false)
    → (a : ℕ) → n ≤ a → heard_by (heard ++ h ∷ []) a (λ vote. true) ≡ false
nodes_now n heard h from nodes a above =
    heard_by-push heard h a (λ vote. true)
    ∙ rw (nodes a above, false_from_ne_true (h.from == a) (λ same. omega (arith, eqb-true h.from a same))) refl

stands_with : (old new : RbcView) (h : Hearing) (votes : List Vote) → Changes old new h votes → AreOwed old h votes
    → (own : List Vote) (heard : List Hearing) → Stands old own heard → Stands new (own ++ votes) (heard ++ h ∷ [])
stands_with old new h votes changes owed own heard stands =
    let p : Place = place_of old in
    let epoch : new.epoch ≡ old.epoch = ap (λ (p : Place). p.epoch) changes.place in
    let n : new.roots.config.n ≡ old.roots.config.n = ap (λ (p : Place). p.config.n) changes.place in
    record {
      idle =
          subst (λ (p : Place). IsIdle (slots_at p) (own ++ votes) (heard ++ h ∷ [])) (sym changes.place)
          (subst (λ (vs : List Vote). IsIdle (slots_at p) (own ++ vs) (heard ++ h ∷ [])) (owed.gives own heard stands)
          (broadcast-rests p.config p.node p.lane p.epoch own (heard ++ h ∷ [])));
      vals = λ m. rw epoch (mark_more (is_val_to old.epoch m) own votes (is_in old.vals m) (is_in new.vals m) (changes.vals m) (stands.vals m));
      echo = rw epoch (mark_more (is_any_echo old.epoch) own votes old.is_echo_cast new.is_echo_cast changes.echo stands.echo);
      ready = rw epoch (mark_more (is_any_ready old.epoch) own votes old.is_ready_cast new.is_ready_cast changes.ready stands.ready);
      delivered =
          rw epoch (changes.delivered ∙ ap (λ (o : Option (List ℕ)). option_or o (first_of (delivered old.epoch) votes)) stands.delivered
          ∙ sym (first_of-append (delivered old.epoch) own votes));
      roots = λ root. rw epoch (changes.roots heard (record { roots = stands.roots; nodes = stands.nodes }) root);
      nodes = λ a above. nodes_now old.roots.config.n heard h changes.from stands.nodes a (omega (arith, n));
    }

-- a state that changed by a hearing and the votes owed has heard it
pub Hears-by : (old new : RbcView) (h : Hearing) (votes before after : List Vote) → Changes old new h votes → AreOwed old h votes
    → after ≡ before ++ votes → Hears old new h before after
Hears-by old new h votes before after changes owed is =
    let p : Place = place_of old in
    record {
      place = changes.place;
      votes = votes;
      due = is;
      gives = owed.gives;
      owed = λ own heard stands.
          subst (λ (vs : List Vote). IsOwed (slots_at p) own (heard ++ h ∷ []) vs) (owed.gives own heard stands)
          (broadcast-owed p.config p.node p.lane p.epoch own (heard ++ h ∷ []));
      stands = stands_with old new h votes changes owed;
    }

-- ---- marks that stay

pub stays : (b : Bool) → b ≡ (b || false)
stays true = refl
stays false = refl

pub option_stays : {A : Type 0} (o : Option A) → o ≡ option_or o None
option_stays None = refl
option_stays (Some x) = refl

-- ---- the votes that a root makes

pub no_delivery : (e : ℕ) (root : List ℕ) (due : Bool) → list_any (is_any_delivery e) (option_to_list (when due (Ready e root))) ≡ false
no_delivery e root true = refl
no_delivery e root false = refl

-- what these votes are of each kind
pub record FillsMarks (e : ℕ) (due : Bool) (value : Option (List ℕ)) (votes : List Vote) : Type 0 where
  pub vals : (m : ℕ) → list_any (is_val_to e m) votes ≡ false
  pub echo : list_any (is_any_echo e) votes ≡ false
  pub ready : list_any (is_any_ready e) votes ≡ due
  pub delivered : first_of (delivered e) votes ≡ value

pub root_votes : (e : ℕ) (root : List ℕ) (due : Bool) (value : Option (List ℕ))
    → FillsMarks e due value (option_to_list (when due (Ready e root)) ++ option_to_list (option_map (Delivered e) value))
root_votes e root true None = record { vals = λ m. refl; echo = refl; ready = rw (eq-eqb e e refl) refl; delivered = refl }
root_votes e root false None = record { vals = λ m. refl; echo = refl; ready = refl; delivered = refl }
root_votes e root true (Some x) =
    record { vals = λ m. refl; echo = refl; ready = rw (eq-eqb e e refl) refl; delivered = rw (eq-eqb e e refl) refl }
root_votes e root false (Some x) = record { vals = λ m. refl; echo = refl; ready = refl; delivered = rw (eq-eqb e e refl) refl }
