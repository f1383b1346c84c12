-- What the desks of the tests may post.
use Rattle.std.proofs.Common.{◌≡◌, ℕ, [], ◌∷◌, inr, refl, sym, subst, arith}
use Rattle.atomic_table.specs.Seated.{TableId}
use Rattle.hb_base.specs.Numbers.{Numbers}
use Rattle.hb_wire.specs.declared.vote.Vote.{Vote}
use Rattle.hb_wire.specs.Votes.{Spells, spelling}
use Rattle.hb_wire.proofs.FieldLemmas.{bytes_passed}
use Rattle.hb_rules.specs.History.{IsAllowed}
use Rattle.post_book.specs.SharedSeats.{SharedView}
use Rattle.book_cases.specs.Run.{IsRun, empty_proposal}
use Rattle.book_cases.specs.Posting.{MayPost}

-- the proposal has a spelling under the first version of the rules, and later ones
pub proposal_spells : (n version : ℕ) → version ≡ 1 → Spells n version (spelling empty_proposal) empty_proposal
proposal_spells n version first = record {
  are_bytes = bytes_passed (spelling empty_proposal) refl;
  fits = record {
    begun = omega (arith, first);
    built = omega (arith, first);
    epoch = omega arith;
    fields = ((omega arith, omega arith, bytes_passed (0 ∷ 0 ∷ []) refl), tt);
  };
  spelled = refl;
}

-- a desk may propose for the first epoch before anything was heard
pub may_propose : (c : Numbers) (i : ℕ) → IsRun c → IsAllowed c i 5 [] empty_proposal
may_propose c i run = inr (inr (sym run.nodes, (omega (arith, run.epochs), refl, refl)))

-- a desk's seat that was just made may post the proposal
pub may_post : (name : TableId) (c : Numbers) (i : ℕ) (s : SharedView) → IsRun c
    → s ≡ record { book = name; looks = 0; seat = record { config = c; node = i; actor = 5; seen = [] } } → MayPost name empty_proposal s
may_post name c i s run is = subst (MayPost name empty_proposal) (sym is) (record {
  book = refl;
  spelled = proposal_spells c.n c.version run.version;
  allowed = may_propose c i run;
})

-- what holds of the proposal holds of a vote that is the proposal
pub may_as : (name : TableId) (vote other : Vote) (s : SharedView) → vote ≡ other → MayPost name other s → MayPost name vote s
may_as name vote other s is may = subst (λ (v : Vote). MayPost name v s) (sym is) may
