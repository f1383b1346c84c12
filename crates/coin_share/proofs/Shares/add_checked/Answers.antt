use Rattle.std.proofs.Common.{◌≡◌, Bool, true, not, ◌&&◌, [], ◌∷◌, ◌++◌, if◌then◌else◌, sym, ap, ◌∙◌}
use Rattle.std.proofs.lemmas.Bool.{and_from, not_from_false}
use Rattle.coin_deal.specs.Heard.{HeardShare, heard_share, has_share_of, is_good}
use Rattle.coin_deal.proofs.Shares.{is_good-from}
use Rattle.coin_share.specs.Shares.{SharesView}
use Rattle.coin_share.proofs.Shares.add_checked.Goals as goal

pub returns-then-is_first : goal.returns-then-is_first
returns-then-is_first c =
    let s : SharesView = c.args.self.now in
    let a : HeardShare = heard_share c.args.m c.args.share c.args.salt.now c.args.branch.now in
    let counts : (not (has_share_of s.added a.node) && is_good s.root s.n a) ≡ true =
    and_from (not (has_share_of s.added a.node)) (is_good s.root s.n a) (not_from_false (has_share_of s.added a.node) (sym c.has_share_of-is_first.ensures ∙ c.if-is_first.true))
    (is_good-from s.root s.n a c.requires) in
    c.keep.ensures ∙ sym (ap (λ (t : Bool). record s { added = if t then s.added ++ a ∷ [] else s.added }) counts)
