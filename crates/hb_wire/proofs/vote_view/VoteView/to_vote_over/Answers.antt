use Rattle.std.proofs.Common.{IfSome, subst}
use Rattle.hb_wire.specs.Views.{vote_of, IsSpelling}
use Rattle.hb_wire.proofs.PartLemmas.{val_shard, echo_shard, delivered_value, proposed_value}
use Rattle.hb_wire.proofs.vote_view.VoteView.to_vote_over.Goals as goal

pub held-requires : goal.held-requires
held-requires c =
    val_shard c.args.whole (λ w. w.now) c.in-Val.epoch c.in-Val.target c.in-Val.root c.in-Val.shard.now c.in-Val.branch
    (subst (λ v. IfSome c.args.whole (λ bytes. IsSpelling (vote_of v) bytes.now)) c.in-Val.is c.requires)

pub held-requires-in-Echo : goal.held-requires-in-Echo
held-requires-in-Echo c =
    echo_shard c.args.whole (λ w. w.now) c.in-Echo.epoch c.in-Echo.root c.in-Echo.shard.now c.in-Echo.branch
    (subst (λ v. IfSome c.args.whole (λ bytes. IsSpelling (vote_of v) bytes.now)) c.in-Echo.is c.requires)

pub held-requires-in-Delivered : goal.held-requires-in-Delivered
held-requires-in-Delivered c =
    delivered_value c.args.whole (λ w. w.now) c.in-Delivered.epoch c.in-Delivered.value.now
    (subst (λ v. IfSome c.args.whole (λ bytes. IsSpelling (vote_of v) bytes.now)) c.in-Delivered.is c.requires)

pub held-requires-in-Propose : goal.held-requires-in-Propose
held-requires-in-Propose c =
    proposed_value c.args.whole (λ w. w.now) c.in-Propose.epoch c.in-Propose.value.now
    (subst (λ v. IfSome c.args.whole (λ bytes. IsSpelling (vote_of v) bytes.now)) c.in-Propose.is c.requires)
