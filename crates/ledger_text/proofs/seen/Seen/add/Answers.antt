use Rattle.std.proofs.Common.{◌≡◌, ◌<◌, ◌∷◌, ◌++◌, [], List, ℕ, suc, length, get_or, set, sym, subst, ap, ◌∙◌, arith, Bor}
use Rattle.std.proofs.lemmas.List.{length-map, length-set, length_push}
use Rattle.ledger_text.specs.Chains.{chains, chain_of, IsChained}
use Rattle.ledger_text.specs.Seen.{txs_of}
use Rattle.ledger_text.proofs.Chains.{chains_add, room_left, read_at, txs_added}
use Rattle.ledger_text.proofs.seen.Seen.add.Goals as goal

pub returns-clause-chained : goal.returns-clause-chained
returns-clause-chained c =
    let old = c.args.self.now in
    let txs : List (List ℕ) = txs_of old in
    let tx : List ℕ = c.args.tx.now in
    let latest : List ℕ = old.latest.items in
    let earlier : List ℕ = old.earlier.items in
    let chain : c.chain_of-chain.result ≡ chain_of tx = c.chain_of-chain.ensures.value in
    let low : chain_of tx < chains = subst (λ (k : ℕ). k < chains) chain c.chain_of-chain.ensures.low in
    let room : length txs < old.room = room_left (length txs) old.room c.is_full.result c.is_full.ensures c.if-is_full.false in
    let wide : length latest ≡ chains = c.requires.wide (omega (arith, room)) in
    let before : c.index.result.now ≡ get_or latest (chain_of tx) 0 =
    sym (read_at latest (chain_of tx) 0 c.index.result.now (omega (arith, low, wide))
    (subst (λ (k : ℕ). c.index.result.now ≡ get_or latest k c.index.result.now) chain c.index.ensures)) in
    let many : length txs ≡ length old.txs.items = length-map old.txs.items (λ (x : Bor (List ℕ)). x.now) in
    let more : c.push_reserved-2.new.self.items ≡ old.txs.items ++ c.args.tx ∷ [] =
    c.push_reserved-2.ensures.items ∙ ap (λ (xs : List (Bor (List ℕ))). xs ++ c.args.tx ∷ []) c.reserve.ensures.items in
    let links : c.push_reserved.new.self.items ≡ earlier ++ c.index.result.now ∷ [] =
    c.push_reserved.ensures.items ∙ ap (λ (xs : List ℕ). xs ++ c.index.result.now ∷ []) c.reserve-else-is_err.ensures.items in
    let last : c.len.result ≡ suc (length txs) = omega (arith, c.len.ensures, c.push_reserved-2.ensures.len, c.reserve.ensures.len, many) in
    let one = chains_add txs tx earlier latest c.index.result.now c.len.result c.requires.chained wide low before last in
    record {
      low = c.requires.low;
      wide = λ some. length-set latest c.chain_of-chain.result c.len.result ∙ wide;
      few = omega (arith, room, ap length (txs_added c.push_reserved-2.new.self.items old.txs.items c.args.tx more), length_push txs tx);
      chained = subst (λ (xs : List (List ℕ)). IsChained xs c.push_reserved.new.self.items (set latest c.chain_of-chain.result c.len.result))
          (sym (txs_added c.push_reserved-2.new.self.items old.txs.items c.args.tx more))
          (subst (λ (ys : List ℕ). IsChained (txs ++ tx ∷ []) ys (set latest c.chain_of-chain.result c.len.result)) (sym links)
          (subst (λ (k : ℕ). IsChained (txs ++ tx ∷ []) (earlier ++ c.index.result.now ∷ []) (set latest k c.len.result)) (sym chain) one));
    }
