use Rattle.std.proofs.Common.{◌≡◌, Bool, true, false, List, Option, None, Some, is_some, not, slice_index_or, refl, sym, ap, ◌∙◌}
use Rattle.aba_core.specs.declared.round.Round.{Round}
use Rattle.aba_core.specs.Rounds.{blank}
use Rattle.aba_core.proofs.Made.{all-coin}
use Rattle.aba_core.proofs.rounds.Rounds.is_dealt.Goals as goal

none_where : (coin : Option Bool) (b : Bool) → is_some coin ≡ not b → b ≡ true → coin ≡ None
none_where None b is set = refl
none_where (Some coin) b is set = absurd (cc (is ∙ ap not set))

not_both : {A : Type 0} → (b : Bool) → b ≡ true → b ≡ false → A
not_both b set unset = absurd (cc (set, unset))

some_where : (coin : Option Bool) (b : Bool) → is_some coin ≡ not b → coin ≡ None → b ≡ true
some_where coin true is none = refl
some_where coin false is none = absurd (cc (sym is ∙ ap is_some none))

pub returns-then-is_none-clause-exact : goal.returns-then-is_none-clause-exact
returns-then-is_none-clause-exact c =
    let s = c.self.inside in
    let read =
    c.coin_in.ensures ∙ ap (λ (xs : List Round). (slice_index_or xs c.args.round blank).coin) c.as_slice.ensures.value
    ∙ sym (all-coin s.deal.value s.lane s.epoch s.made.items c.args.round (rw (← c.self.view_is) at c.requires.round)) in
    let given = rw c.deref.ensures at c.is_dealt.ensures.exact in
    rw (← c.self.view_is) (
      λ h. (sym read ∙ none_where c.coin_in.result c.is_none.result c.is_none.ensures c.if-is_none.true, given.0 h),
      λ both. given.1 both.1,
    )

pub returns-else-is_none-clause-exact : goal.returns-else-is_none-clause-exact
returns-else-is_none-clause-exact c =
    let s = c.self.inside in
    let read =
    c.coin_in.ensures ∙ ap (λ (xs : List Round). (slice_index_or xs c.args.round blank).coin) c.as_slice.ensures.value
    ∙ sym (all-coin s.deal.value s.lane s.epoch s.made.items c.args.round (rw (← c.self.view_is) at c.requires.round)) in
    rw (← c.self.view_is) (
      λ h. not_both c.is_none.result h c.if-is_none.false,
      λ both. some_where c.coin_in.result c.is_none.result c.is_none.ensures (read ∙ both.0),
    )
