use Rattle.std.proofs.Common.{◌≡◌, ◌<◌, ◌-◌, bytes_eq, true, false, List, ℕ, [], length, get_or, sym, ap, subst, ◌∙◌, arith}
use Rattle.std.proofs.lemmas.Grind.{common_steps}
use Rattle.ledger_text.specs.Chains.{chains, chain_of, last_of}
use Rattle.ledger_text.specs.Seen.{txs_of}
use Rattle.ledger_text.proofs.Chains.{at_place, walk_starts, walk_goes, walk_finds, walk_ends, read_at}
use Rattle.ledger_text.proofs.seen.Seen.has.Goals as goal

pub loop-number-init : goal.loop-number-init
loop-number-init c =
    let txs : List (List ℕ) = txs_of c.args.self.now in
    let latest : List ℕ = c.args.self.now.latest.items in
    let low : chain_of c.args.tx.now < chains = subst (λ (k : ℕ). k < chains) c.chain_of.ensures.value c.chain_of.ensures.low in
    let some : 0 < length txs = grind (arith, common_steps) in
    let wide : length latest ≡ chains = c.requires.wide (omega (arith, some, c.requires.few)) in
    walk_starts txs c.args.tx.now c.index-number.result.now
    (sym (read_at latest c.chain_of.result 0 c.index-number.result.now (omega (arith, c.chain_of.ensures.low, wide)) c.index-number.ensures)
    ∙ ap (λ (k : ℕ). get_or latest k 0) c.chain_of.ensures.value ∙ c.requires.chained.starts (chain_of c.args.tx.now) low)

pub returns-then-eq : goal.returns-then-eq
returns-then-eq c =
    let txs : List (List ℕ) = txs_of c.args.self.now in
    let number : ℕ = c.loop-number.number in
    let some : 0 < number = omega (arith, c.loop-number-test.true) in
    let inside : number - 1 < length txs = omega (arith, some, c.loop-number.invariant.low) in
    let same : bytes_eq c.args.tx.now (get_or txs (number - 1) []) ≡ true =
    ap (bytes_eq c.args.tx.now) (at_place _ c.args.self.now.txs.items (number - 1) _ c.as_slice-txs.ensures.value inside) ∙ sym c.eq.ensures
    ∙ c.if-eq.true in
    sym (walk_finds txs c.args.tx.now number c.loop-number.invariant some same)

pub loop-number-preserved : goal.loop-number-preserved
loop-number-preserved c =
    let txs : List (List ℕ) = txs_of c.args.self.now in
    let number : ℕ = c.loop-number.number in
    let some : 0 < number = omega (arith, c.loop-number-test.true) in
    let inside : number - 1 < length txs = omega (arith, some, c.loop-number.invariant.low) in
    let other : bytes_eq c.args.tx.now (get_or txs (number - 1) []) ≡ false =
    ap (bytes_eq c.args.tx.now) (at_place _ c.args.self.now.txs.items (number - 1) _ c.as_slice-txs.ensures.value inside) ∙ sym c.eq.ensures
    ∙ c.if-eq.false in
    let leads : get_or c.as_slice-earlier.result.now (number - 1) 0 ≡ last_of (chain_of (get_or txs (number - 1) [])) txs (number - 1) =
    ap (λ (ys : List ℕ). get_or ys (number - 1) 0) c.as_slice-earlier.ensures.value ∙ c.requires.chained.leads (number - 1) inside in
    (walk_goes txs c.args.tx.now number (get_or c.as_slice-earlier.result.now (number - 1) 0) c.loop-number.invariant some other leads).0

pub loop-number-smaller : goal.loop-number-smaller
loop-number-smaller c =
    let txs : List (List ℕ) = txs_of c.args.self.now in
    let number : ℕ = c.loop-number.number in
    let some : 0 < number = omega (arith, c.loop-number-test.true) in
    let inside : number - 1 < length txs = omega (arith, some, c.loop-number.invariant.low) in
    let other : bytes_eq c.args.tx.now (get_or txs (number - 1) []) ≡ false =
    ap (bytes_eq c.args.tx.now) (at_place _ c.args.self.now.txs.items (number - 1) _ c.as_slice-txs.ensures.value inside) ∙ sym c.eq.ensures
    ∙ c.if-eq.false in
    let leads : get_or c.as_slice-earlier.result.now (number - 1) 0 ≡ last_of (chain_of (get_or txs (number - 1) [])) txs (number - 1) =
    ap (λ (ys : List ℕ). get_or ys (number - 1) 0) c.as_slice-earlier.ensures.value ∙ c.requires.chained.leads (number - 1) inside in
    (walk_goes txs c.args.tx.now number (get_or c.as_slice-earlier.result.now (number - 1) 0) c.loop-number.invariant some other leads).1

pub returns : goal.returns
returns c = sym (walk_ends (txs_of c.args.self.now) c.args.tx.now c.loop-number.number c.loop-number.invariant (omega (arith, c.loop-number-test.false)))
