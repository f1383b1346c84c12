-- What the tables stand for after one more hearing.
use Rattle.std.proofs.Common.{◌≡◌, ℕ, ◌-◌, ◌<◌, ◌≤◌, Bool, true, false, not, ◌&&◌, ◌==◌, nat_le, List, [], ◌∷◌, ◌++◌, length, get_or, set, inl, inr, refl, sym, ap, ◌∙◌, subst, append-nil, get_or-set_same, get_or-set_other, arith}
use Rattle.std.specs.List.{list_any, list_all, AllByRecursion}
use Rattle.std.specs.Option.{option_to_list}
use Rattle.std.proofs.lemmas.Bool.{cases_eq, cases_lt, eq-eqb, eqb-true, false_from_ne_true}
use Rattle.std.proofs.lemmas.List.{get_or_past}
use Rattle.std.proofs.Math.ListN.{length-set}
use Rattle.hb_base.specs.Numbers.{Numbers}
use Rattle.hb_wire.specs.declared.vote.Vote.{Vote}
use Rattle.hb_wire.specs.declared.vote.Vote.TheVariants.{NoMore}
use Rattle.hb_wire.specs.Votes.{epoch_of}
use Rattle.hb_rules.specs.Claims.{is_no_more}
use Rattle.hb_rules.specs.DeskRows.{no_more_slot, accepted_below}
use Rattle.hb_rules.specs.Hearing.{Hearing}
use Rattle.hb_rules.specs.Slots.{Slot, pass, when, IsIdle, IsOwed}
use Rattle.hb_rules.specs.Turns.{IsPlain}
use Rattle.hb_rules.proofs.Lists.{AllByRecursion-each}
use Rattle.hb_rules.proofs.Passing.{plain-rests, pass-rests, IsOwed-pass, IsOwed-unique, settled_idle}
use Rattle.hb_rules.proofs.Rows.{pass-each, not_heard}
use Rattle.acs_core.specs.Shown.{accepted_of}
use Rattle.acs_core.specs.Subset.{AcsView, NodeEpoch, node_epoch_of, fresh, slots_at, heard_in_subset, Stands, Hears}
use Rattle.acs_core.proofs.Standing.{no_more_plain, pass_is, deciders, Stands-part, Stands-fresh}
use Rattle.acs_core.proofs.Accepting.{accepted_heard, get_or_any}
use Rattle.epoch_core.specs.declared.table.Table.{Table}
use Rattle.epoch_core.specs.declared.table.Table.TheVariants.{Unheard}
use Rattle.epoch_core.specs.Tables.{acs_of, acs_at, list_at, ArePlaced, AreUnheard, HaveHeard, HearsOne, HearsAll, no_more_if}
use Rattle.epoch_core.proofs.Rows.{row_of, row_settled}
use Rattle.epoch_core.proofs.VoteKinds.{any_same, no_more_none, no_more_all}

-- the slots of NoMore of the epochs below n
abbrev pub no_more_row : Numbers → ℕ → List (Slot Vote Hearing)
no_more_row c n = row_of (no_more_slot c) n

-- ---- what one table stands for, at its place

pub idle_at : (c : Numbers) (i e : ℕ) (a : AcsView) (own : List Vote) (heard : List Hearing) → node_epoch_of a ≡ record { config = c; node = i; epoch = e }
    → Stands a own heard → IsIdle (no_more_slot c e ∷ []) own heard
idle_at c i e a own heard place stands = subst (λ (p : NodeEpoch). IsIdle (slots_at p) own heard) place stands.idle

-- votes without NoMore of its epoch, and a hearing of another epoch, leave it
pub stands_apart : (c : Numbers) (i e : ℕ) (a : AcsView) (own more : List Vote) (heard : List Hearing) (h : Hearing)
    → node_epoch_of a ≡ record { config = c; node = i; epoch = e } → list_any (is_no_more e) more ≡ false → (epoch_of h.vote ≡ e → ⊥)
    → Stands a own heard → Stands a (own ++ more) (heard ++ h ∷ [])
stands_apart c i e a own more heard h place none apart stands =
    let epoch : e ≡ a.epoch = ap (λ (p : NodeEpoch). p.epoch) (sym place) in
    Stands-part a own (own ++ more) heard (heard ++ h ∷ [])
    (sym (any_same (is_no_more a.epoch) own more (subst (λ (e : ℕ). list_any (is_no_more e) more ≡ false) epoch none)))
    (sym (not_heard (heard_in_subset a.epoch) heard h
    (subst (λ (e : ℕ). (epoch_of h.vote == e) ≡ false) epoch (false_from_ne_true (epoch_of h.vote == e) (λ same. apart (eqb-true (epoch_of h.vote) e same))))))
    stands

-- so do votes without it, with nothing heard more
pub stands_more : (c : Numbers) (i e : ℕ) (a : AcsView) (own more : List Vote) (heard : List Hearing)
    → node_epoch_of a ≡ record { config = c; node = i; epoch = e } → list_any (is_no_more e) more ≡ false
    → Stands a own heard → Stands a (own ++ more) heard
stands_more c i e a own more heard place none stands =
    let epoch : e ≡ a.epoch = ap (λ (p : NodeEpoch). p.epoch) (sym place) in
    Stands-part a own (own ++ more) heard heard
    (sym (any_same (is_no_more a.epoch) own more (subst (λ (e : ℕ). list_any (is_no_more e) more ≡ false) epoch none)))
    refl stands

-- its list is that of what was heard
pub list_heard : (c : Numbers) (i e : ℕ) (a : AcsView) (own : List Vote) (heard : List Hearing) → node_epoch_of a ≡ record { config = c; node = i; epoch = e }
    → Stands a own heard → accepted_of a.lanes c.n ≡ accepted_below e heard c.n
list_heard c i e a own heard place stands =
    ap (λ (p : NodeEpoch). accepted_of a.lanes p.config.n) (sym place) ∙ accepted_heard a own heard stands a.config.n (omega arith)
    ∙ ap (λ (p : NodeEpoch). accepted_below p.epoch heard p.config.n) place

-- ---- all tables

pub lists_heard : (c : Numbers) (i : ℕ) (tables : List Table) (own : List Vote) (heard : List Hearing) → ArePlaced c i tables → HaveHeard c i tables own heard
    → (e : ℕ) → e < c.epochs → list_at c i tables e ≡ accepted_below e heard c.n
lists_heard c i tables own heard placed have e below =
    list_heard c i e (acs_at c i tables e) own heard (placed e) (have.each e below)

pub HaveHeard-more : (c : Numbers) (i : ℕ) (tables : List Table) (own more : List Vote) (heard : List Hearing) → ArePlaced c i tables
    → ((e : ℕ) → list_any (is_no_more e) more ≡ false) → HaveHeard c i tables own heard → HaveHeard c i tables (own ++ more) heard
HaveHeard-more c i tables own more heard placed none have = record {
  each = λ e below. stands_more c i e (acs_at c i tables e) own more heard (placed e) (none e) (have.each e below);
}

-- the slots of NoMore owe nothing, whatever other votes follow
pub row_plain : (c : Numbers) (n : ℕ) → AllByRecursion IsPlain (no_more_row c n)
row_plain c n = AllByRecursion-each IsPlain n (λ e. no_more_slot c e ∷ []) (λ e below. (no_more_plain c e, tt))

pub row_rests : (c : Numbers) (i : ℕ) (tables : List Table) (own : List Vote) (heard : List Hearing) → ArePlaced c i tables → HaveHeard c i tables own heard
    → IsIdle (no_more_row c c.epochs) own heard
row_rests c i tables own heard placed have =
    row_settled (no_more_slot c) c.epochs own heard
    (λ e below. (settled_idle (no_more_slot c e ∷ []) own heard (idle_at c i e (acs_at c i tables e) own heard (placed e) (have.each e below))).0)

-- nothing was heard, of a config with f below n
pub HaveHeard-fresh : (c : Numbers) (i : ℕ) (tables : List Table) (own : List Vote) → c.f < c.n → AreUnheard own c.epochs tables → HaveHeard c i tables own []
HaveHeard-fresh c i tables own enough unheard = record {
  each = λ e below.
      subst (λ (t : Table). Stands (acs_of c i e t) own []) (sym (unheard.each e below))
      (Stands-fresh (fresh c i e (list_any (is_no_more e) own)) own enough refl refl);
}

pub ArePlaced-fresh : (c : Numbers) (i : ℕ) (tables : List Table) (own : List Vote) → AreUnheard own c.epochs tables → ArePlaced c i tables
ArePlaced-fresh c i tables own unheard e = elim (cases_lt e c.epochs) [
  | inl below ↦ ap (λ (t : Table). node_epoch_of (acs_of c i e t)) (unheard.each e below)
  | inr above ↦ ap (λ (t : Table). node_epoch_of (acs_of c i e t)) (get_or_past tables e (Unheard false) (omega (arith, unheard.count)))
]

-- ---- a hearing

-- votes of one epoch's NoMore hold none of another
other_no_more : (is_due : Bool) (e k : ℕ) → (e ≡ k → ⊥) → list_any (is_no_more k) (no_more_if is_due e) ≡ false
other_no_more is_due e k apart = no_more_none (is_no_more k) is_due e (false_from_ne_true (e == k) (λ same. apart (eqb-true e k same)))

same_no_more : (e : ℕ) (b : Bool) → list_all (is_no_more e) (option_to_list (when b (NoMore e))) ≡ true
same_no_more e b = no_more_all (is_no_more e) b e (eq-eqb e e refl)

-- no table hears it: of an epoch that the run does not have
pub HearsAll-outside : (c : Numbers) (i : ℕ) (tables : List Table) (h : Hearing) → ArePlaced c i tables → c.epochs ≤ epoch_of h.vote
    → HearsAll c i tables tables h false
HearsAll-outside c i tables h placed outside =
    let now : (own : List Vote) (heard : List Hearing) → HaveHeard c i tables own heard → HaveHeard c i tables (own ++ []) (heard ++ h ∷ []) =
    λ own heard have. record {
      each = λ e below. stands_apart c i e (acs_at c i tables e) own [] heard h (placed e) refl (λ same. omega arith) (have.each e below);
    } in
    record {
      count = refl;
      placed = placed;
      row = λ own heard have.
          ap (λ (own : List Vote). pass (no_more_row c c.epochs) own (heard ++ h ∷ [])) (sym (append-nil own))
          ∙ row_rests c i tables (own ++ []) (heard ++ h ∷ []) placed (now own heard have);
      stands = now;
    }

-- the table of its epoch hears it
pub record SetsTable (c : Numbers) (i : ℕ) (old new : List Table) (e : ℕ) (a : AcsView) : Type 0 where
  pub count : length new ≡ length old
  pub here : acs_at c i new e ≡ a
  pub others : (k : ℕ) → (e ≡ k → ⊥) → acs_at c i new k ≡ acs_at c i old k

pub sets_table : (c : Numbers) (i : ℕ) (tables : List Table) (e : ℕ) (table : Table) → e < length tables
    → SetsTable c i tables (set tables e table) e (acs_of c i e table)
sets_table c i tables e table below = record {
  count = length-set tables e table;
  here = ap (acs_of c i e) (get_or-set_same tables e table (Unheard false) below);
  others = λ k apart. ap (acs_of c i k) (get_or-set_other tables e k table (Unheard false) (λ same. apart (sym same)));
}

pub HearsAll-inside : (c : Numbers) (i : ℕ) (old new : List Table) (h : Hearing) (a : AcsView) (is_due : Bool) → ArePlaced c i old
    → epoch_of h.vote < c.epochs → SetsTable c i old new (epoch_of h.vote) a → HearsOne (acs_at c i old (epoch_of h.vote)) a h is_due
    → HearsAll c i old new h is_due
HearsAll-inside c i old new h a is_due placed inside sets hears =
    let epoch : (acs_at c i old (epoch_of h.vote)).epoch ≡ epoch_of h.vote = ap (λ (p : NodeEpoch). p.epoch) (placed (epoch_of h.vote)) in
    record {
      count = sets.count;
      placed = λ k. elim (cases_eq (epoch_of h.vote) k) [
        | inl same ↦
            ap (λ (k : ℕ). node_epoch_of (acs_at c i new k)) (sym same) ∙ ap node_epoch_of sets.here ∙ hears.node_epoch ∙ placed (epoch_of h.vote)
            ∙ ap (λ (k : ℕ). record { config = c; node = i; epoch = k }) same
        | inr apart ↦ ap node_epoch_of (sets.others k apart) ∙ placed k
      ];
      row = λ own heard have.
          pass-each (is_no_more (epoch_of h.vote)) c.epochs (epoch_of h.vote) own (heard ++ h ∷ []) (λ k. no_more_slot c k ∷ []) inside
          (record {
            others = λ k below other more all.
                plain-rests (no_more_slot c k ∷ []) (no_more_plain c k, tt) own more (heard ++ h ∷ [])
                (ap (λ (own : List Vote). pass (no_more_slot c k ∷ []) own (heard ++ h ∷ [])) (sym (append-nil own))
                ∙ idle_at c i k (acs_at c i old k) (own ++ []) (heard ++ h ∷ []) (placed k)
                (stands_apart c i k (acs_at c i old k) own [] heard h (placed k) refl (λ same. other (sym same)) (have.each k below)));
            here = λ own.
                ap (list_all (is_no_more (epoch_of h.vote))) (pass_is c (epoch_of h.vote) own (heard ++ h ∷ []))
                ∙ same_no_more (epoch_of h.vote) (not (list_any (is_no_more (epoch_of h.vote)) own) && nat_le (c.n - c.f) (deciders c (epoch_of h.vote) (heard ++ h ∷ [])));
          })
          ∙ IsOwed-unique (no_more_slot c (epoch_of h.vote) ∷ []) own (heard ++ h ∷ []) (pass (no_more_slot c (epoch_of h.vote) ∷ []) own (heard ++ h ∷ [])) (no_more_if is_due (epoch_of h.vote))
          (IsOwed-pass (no_more_slot c (epoch_of h.vote) ∷ []) own (heard ++ h ∷ [])
          (pass-rests (no_more_slot c (epoch_of h.vote) ∷ []) (no_more_plain c (epoch_of h.vote), tt) own (heard ++ h ∷ [])))
          (subst (λ (p : NodeEpoch). IsOwed (slots_at p) own (heard ++ h ∷ []) (no_more_if is_due p.epoch)) (placed (epoch_of h.vote))
          (hears.owed own heard (have.each (epoch_of h.vote) inside)));
      stands = λ own heard have. record {
        each = λ k below. elim (cases_eq (epoch_of h.vote) k) [
          | inl same ↦
              subst (λ (k : ℕ). Stands (acs_at c i new k) (own ++ no_more_if is_due (epoch_of h.vote)) (heard ++ h ∷ [])) same
              (subst (λ (a : AcsView). Stands a (own ++ no_more_if is_due (epoch_of h.vote)) (heard ++ h ∷ [])) (sym sets.here)
              (subst (λ (e : ℕ). Stands a (own ++ no_more_if is_due e) (heard ++ h ∷ [])) epoch
              (hears.stands own heard (have.each (epoch_of h.vote) inside))))
          | inr apart ↦
              subst (λ (a : AcsView). Stands a (own ++ no_more_if is_due (epoch_of h.vote)) (heard ++ h ∷ [])) (sym (sets.others k apart))
              (stands_apart c i k (acs_at c i old k) own (no_more_if is_due (epoch_of h.vote)) heard h (placed k)
              (other_no_more is_due (epoch_of h.vote) k apart) apart (have.each k below))
        ];
      };
    }

-- one common subset hears it, with room for its own vote
pub HearsOne-from : (old new : AcsView) (h : Hearing) (due : List Vote) (b : Bool) (hears : Hears old new h [] due) → not hears.is_due ≡ b
    → HearsOne old new h (not b)
HearsOne-from old new h due b hears is =
    let same : hears.is_due ≡ not b = twice hears.is_due ∙ ap not is in
    record {
      node_epoch = hears.node_epoch;
      owed = λ own heard stands.
          subst (λ (d : Bool). IsOwed (slots_at (node_epoch_of old)) own (heard ++ h ∷ []) (no_more_if d old.epoch)) same (hears.owed own heard stands);
      stands = λ own heard stands.
          subst (λ (d : Bool). Stands new (own ++ no_more_if d old.epoch) (heard ++ h ∷ [])) same (hears.stands own heard stands);
    }
  where
    twice : (b : Bool) → b ≡ not (not b)
    twice true = refl
    twice false = refl

-- the table at a place is the one that is read there
pub table_read : (tables : List Table) (e : ℕ) (table : Table) → e < length tables → table ≡ get_or tables e table
    → table ≡ get_or tables e (Unheard false)
table_read tables e table below is = is ∙ get_or_any tables e table (Unheard false) below

-- the table of an epoch hears a vote of it
pub HearsAll-set : (c : Numbers) (i : ℕ) (tables : List Table) (e : ℕ) (table new : Table) (h : Hearing) (is_due : Bool) → ArePlaced c i tables
    → e ≡ epoch_of h.vote → e < c.epochs → length tables ≡ c.epochs → table ≡ get_or tables e table
    → HearsOne (acs_of c i e table) (acs_of c i e new) h is_due → HearsAll c i tables (set tables e new) h is_due
HearsAll-set c i tables e table new h is_due placed same below count is hears =
    let read : table ≡ get_or tables e (Unheard false) = table_read tables e table (omega (arith, count)) is in
    HearsAll-inside c i tables (set tables e new) h (acs_of c i e new) is_due placed (subst (λ (e : ℕ). e < c.epochs) same below)
    (subst (λ (k : ℕ). SetsTable c i tables (set tables e new) k (acs_of c i e new)) same (sets_table c i tables e new (omega (arith, count))))
    (subst (λ (k : ℕ). HearsOne (acs_at c i tables k) (acs_of c i e new) h is_due) same
    (subst (λ (t : Table). HearsOne (acs_of c i e t) (acs_of c i e new) h is_due) read hears))
