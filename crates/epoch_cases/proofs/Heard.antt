-- Two hearings, one after the other.
use Rattle.std.proofs.Common.{ℕ, List, [], ◌∷◌, ◌++◌, ap, ◌∙◌, subst}
use Rattle.hb_base.specs.Numbers.{Numbers}
use Rattle.hb_wire.specs.declared.vote.Vote.{Vote}
use Rattle.hb_rules.specs.Hearing.{Hearing}
use Rattle.hb_rules.specs.Owing.{desk_slots}
use Rattle.hb_rules.specs.Slots.{IsOwed}
use Rattle.epoch_core.specs.Epochs.{EpochsView, Stands, Hears}
use Rattle.epoch_cases.specs.Heard.{HearsTwo}

pub hears_two : {old among new : EpochsView} {one two : Hearing} {before then after : List Vote}
    → Hears old among one before then → Hears among new two then after → HearsTwo old new one two before after
hears_two {old} {among} {new} {one} {two} {before} {then} {after} at_first at_second = record {
  first = at_first.votes;
  second = at_second.votes;
  due = at_second.due ∙ ap (λ (votes : List Vote). votes ++ at_second.votes) at_first.due;
  owed_first = at_first.owed;
  owed_second = owed_second;
  stands = λ submitted own heard stands.
      at_second.stands submitted (own ++ at_first.votes) (heard ++ one ∷ []) (at_first.stands submitted own heard stands);
}
  where
    owed_second : (submitted : List (List ℕ)) (own : List Vote) (heard : List Hearing) → Stands old submitted own heard
        → IsOwed (desk_slots old.config submitted) (own ++ at_first.votes) ((heard ++ one ∷ []) ++ two ∷ []) at_second.votes
    owed_second submitted own heard stands =
        subst (λ (c : Numbers). IsOwed (desk_slots c submitted) (own ++ at_first.votes) ((heard ++ one ∷ []) ++ two ∷ []) at_second.votes)
        at_first.config
        (at_second.owed submitted (own ++ at_first.votes) (heard ++ one ∷ []) (at_first.stands submitted own heard stands))
