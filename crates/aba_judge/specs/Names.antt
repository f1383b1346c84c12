-- The names that the code has for the marks of a lane's votes and for nodes' claims.
use Rattle.hb_rules.specs.Marks.{Mark, delivery, est, any_est, bval, any_aux, any_conf, pick, any_pick, any_coin, any_decision, Claim, bvals, auxes, any_auxes, confs, any_confs, confs_with}
use Rattle.aba_judge.specs.declared.marks.Cast.{Cast}
use Rattle.aba_judge.specs.declared.marks.Cast.TheVariants as casts
use Rattle.aba_judge.specs.declared.claims.Said.{Said}
use Rattle.aba_judge.specs.declared.claims.Said.TheVariants as says

abbrev pub mark_of : Cast → Mark
mark_of casts.Delivery = delivery
mark_of (casts.Est r b) = est r b
mark_of (casts.AnyEst r) = any_est r
mark_of (casts.Bval r b) = bval r b
mark_of (casts.AnyAux r) = any_aux r
mark_of (casts.AnyConf r) = any_conf r
mark_of (casts.Pick r vals) = pick r vals
mark_of (casts.AnyPick r) = any_pick r
mark_of (casts.AnyCoin r) = any_coin r
mark_of casts.AnyDecision = any_decision

abbrev pub claim_of : Said → Claim
claim_of (says.Bvals r b) = bvals r b
claim_of (says.Auxes r b) = auxes r b
claim_of (says.AnyAuxes r) = any_auxes r
claim_of (says.Confs r b) = confs r b
claim_of (says.AnyConfs r) = any_confs r
claim_of (says.ConfsWith r b) = confs_with r b
