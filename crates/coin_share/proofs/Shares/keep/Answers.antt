use Rattle.std.proofs.Common.{◌≡◌, ℕ, ◌+◌, ◌<◌, false, List, length, ap, ◌∙◌, arith}
use Rattle.merkle_branch.specs.declared.Branch.{Branch}
use Rattle.coin_deal.specs.Heard.{HeardShare, heard_share, has_share_of, IsGood}
use Rattle.coin_share.specs.Shares.{SharesView, view_of, with_share, AreKept}
use Rattle.coin_share.specs.declared.KeptShare.{KeptShare}
use Rattle.std.specs.declared.snapshot.Snapshot.{Snapshot}
use Rattle.std.proofs.lemmas.List.{length-set}
use Rattle.coin_share.proofs.Adding.{kept_more, length-added_of, added_of-more}
use Rattle.coin_share.proofs.Shares.keep.Goals as goal

abbrev with_added : ℕ → ℕ → List ℕ → List HeardShare → SharesView
with_added n f root added = record { n = n; f = f; root = root; added = added }

same_share : (m share : ℕ) (salt salt' : List ℕ) (branch branch' : Branch) → salt ≡ salt' → branch ≡ branch' → heard_share m share salt branch ≡ heard_share m share salt' branch'
same_share m share salt salt' branch branch' e h = ap (λ s. heard_share m share s branch) e ∙ ap (λ b. heard_share m share salt' b) h

-- the entries of a `Shares`, once a share was added
more : (n f count m share : ℕ) (root salt salt' : List ℕ) (branch branch' : Branch) (kept : List KeptShare) (now : SharesView)
    → AreKept (view_of n f root count kept) count (length kept) → view_of n f root count kept ≡ now → salt ≡ salt' → branch ≡ branch'
    → has_share_of now.added m ≡ false → IsGood now.root now.n (heard_share m share salt' branch')
    → AreKept (with_share (view_of n f root count kept) (heard_share m share salt branch)) (count + 1) (length kept)
more n f count m share root salt salt' branch branch' kept now held is e h none one =
    kept_more (view_of n f root count kept) now (heard_share m share salt branch) (heard_share m share salt' branch') count (length kept) held
    (length-added_of kept count (omega (arith, held.few, held.front, held.whole))) is (same_share m share salt salt' branch branch' e h) none one

pub listed : goal.listed
listed c =
    let a = c.self.inside in
    let h = more a.n a.f a.count c.args.m c.args.share a.root c.of.result.value c.args.salt.now c.of-2.result.value c.args.branch.now a.kept c.args.self.now
    c.self.invariant c.self.view_is c.of.ensures c.of-2.ensures c.requires.first c.requires.good in
    omega (arith, h.front, h.few, h.whole)

pub way_replace-drop : goal.way_replace-drop
way_replace-drop c =
    let a = c.self.inside in
    let h = more a.n a.f a.count c.args.m c.args.share a.root c.of.result.value c.args.salt.now c.of-2.result.value c.args.branch.now a.kept c.args.self.now
    c.self.invariant c.self.view_is c.of.ensures c.of-2.ensures c.requires.first c.requires.good in
    omega (arith, h.front, h.few)

abbrev entry : (m share : ℕ) (salt : Snapshot (List ℕ)) (branch : Snapshot Branch) → KeptShare
entry m share salt branch = record { node = m; share = share; salt = salt; branch = branch }

pub invariant_of-self : goal.invariant_of-self
invariant_of-self c =
    let a = c.self.inside in
    let k = entry c.args.m c.args.share c.of.result c.of-2.result in
    let h = more a.n a.f a.count c.args.m c.args.share a.root c.of.result.value c.args.salt.now c.of-2.result.value c.args.branch.now a.kept c.args.self.now
    c.self.invariant c.self.view_is c.of.ensures c.of-2.ensures c.requires.first c.requires.good in
    let inside : a.count < length a.kept = omega (arith, h.front, h.few, h.whole) in
    rw (added_of-more a.kept a.count k inside, length-set a.kept a.count k) h

pub returns : goal.returns
returns c =
    let a = c.self.inside in
    let k = entry c.args.m c.args.share c.of.result c.of-2.result in
    let s = heard_share c.args.m c.args.share c.of.result.value c.of-2.result.value in
    let h = more a.n a.f a.count c.args.m c.args.share a.root c.of.result.value c.args.salt.now c.of-2.result.value c.args.branch.now a.kept c.args.self.now
    c.self.invariant c.self.view_is c.of.ensures c.of-2.ensures c.requires.first c.requires.good in
    let inside : a.count < length a.kept = omega (arith, h.front, h.few, h.whole) in
    ap (with_added a.n a.f a.root) (added_of-more a.kept a.count k inside)
    ∙ ap (λ t. with_share t s) c.self.view_is
    ∙ ap (with_share c.args.self.now) (same_share c.args.m c.args.share c.of.result.value c.args.salt.now c.of-2.result.value c.args.branch.now c.of.ensures c.of-2.ensures)
