use Rattle.std.proofs.Common.{eqb, take, sym, ap, ◌∙◌}
use Rattle.coin_deal.specs.Heard.{HeardShare, heard_share, has_share_of}
use Rattle.coin_share.specs.declared.KeptShare.{KeptShare}
use Rattle.coin_share.proofs.Adding.{list_any-map}
use Rattle.coin_share.proofs.Shares.has_share_of.Goals as goal

pub returns : goal.returns
returns c =
    let m = c.args.m in
    let kept = take c.self.inside.count c.self.inside.kept in
    let given : KeptShare → HeardShare = λ k. heard_share k.node k.share k.salt.value k.branch.value in
    c.has_node.ensures ∙ sym (list_any-map (λ (a : HeardShare). eqb a.node m) given kept) ∙ ap (λ s. has_share_of s.added m) c.self.view_is
