use Rattle.std.proofs.Common.{◌+◌, sym, ap, ◌∙◌, subst}
use Rattle.gf_field.specs.Polynomial.{polynomial_at}
use Rattle.coin_deal.specs.Deal.{coin_root}
use Rattle.coin_deal.specs.Heard.{IsGood, HasForm}
use Rattle.coin_deal.proofs.Coins.{salt_at}
use Rattle.coin_deal.proofs.Form.{share_form, share_good, same_heard}
use Rattle.coin_deal.proofs.dealt.Deal.dealt_to.Goals as goal

pub returns-clause-salt : goal.returns-clause-salt
returns-clause-salt c = salt_at c.args.self.now c.args.e c.args.j c.args.r c.args.m _ c.salts_of-salts.ensures.exact c.requires.node

-- the share that is given is the dealt one
pub returns-clause-good : goal.returns-clause-good
returns-clause-good c =
    let n = c.args.self.now in
    let e = c.args.e in
    let j = c.args.j in
    let r = c.args.r in
    let m = c.args.m in
    subst (IsGood (coin_root n e j r) n.n)
    (same_heard m _ _ _ _ _ _ (sym (c.share_at.ensures ∙ ap (λ cs. polynomial_at cs (m + 1)) c.coefficients_of-coefficients.ensures))
    (sym (salt_at n e j r m _ c.salts_of-salts.ensures.exact c.requires.node))
    (sym c.branch_from.ensures))
    (share_good n e j r m c.salts_of-salts.ensures.few c.requires.node)

pub returns-clause-form : goal.returns-clause-form
returns-clause-form c =
    let n = c.args.self.now in
    let e = c.args.e in
    let j = c.args.j in
    let r = c.args.r in
    let m = c.args.m in
    subst (HasForm n.n)
    (same_heard m _ _ _ _ _ _ (sym (c.share_at.ensures ∙ ap (λ cs. polynomial_at cs (m + 1)) c.coefficients_of-coefficients.ensures))
    (sym (salt_at n e j r m _ c.salts_of-salts.ensures.exact c.requires.node))
    (sym c.branch_from.ensures))
    (share_form n e j r m c.salts_of-salts.ensures.few c.requires.node)
