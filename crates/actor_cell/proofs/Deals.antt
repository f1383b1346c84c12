-- New passes.
use Rattle.std.proofs.Common.{◌≡◌, ℕ, zero, suc, List, [], ◌∷◌, map, length, Some, sym, ap, ◌∙◌, arith, get_or, slice_get, All}
use Rattle.std.proofs.lemmas.List.{get_or-map, get_or_past, length-map}
use Rattle.std.proofs.lemmas.List.FromFn.{get_or-range_with_len}
use Rattle.std.proofs.lemmas.Option.{slice_get-get_or}
use Rattle.atomic_blocks.specs.Laid.{WebId}
use Rattle.mailbox.specs.Passes.{PutPassView}
use Rattle.actor_cell.specs.Boxes.{BoxesView}
use Rattle.actor_cell.specs.Passes.{PassesView, ArePassesOf, IsNewPut, AreDealt}

-- through no pass of a new row anything was put
new_puts : (puts : List PutPassView) (i : ℕ) → All IsNewPut puts → get_or (map (λ (p : PutPassView). p.put) puts) i [] ≡ []
new_puts [] i new = get_or_past [] i [] (omega arith)
new_puts (p ∷ ps) zero new = new 0 p (omega arith)
new_puts (p ∷ ps) (suc i) new = new_puts ps i (λ k d within. new (suc k) d (omega (arith, within)))

-- each is of these mailboxes
pub fit_each : (boxes : BoxesView) (all : List PassesView) → AreDealt boxes.names all → All (ArePassesOf boxes) all
fit_each boxes all dealt k d within =
    let passes : PassesView = get_or all k d in
    let count : length all ≡ length boxes.names = sym (length-map all (λ (p : PassesView). p.take.at)) ∙ ap length dealt.takes in
    let place : passes.place ≡ k =
    sym (get_or-map (λ (p : PassesView). p.place) all k d k within) ∙ ap (λ (places : List ℕ). get_or places k k) dealt.places
    ∙ get_or-range_with_len 0 (length boxes.names) k k (omega (arith, within, count)) ∙ omega arith in
    let name : get_or boxes.names k passes.take.at ≡ passes.take.at =
    ap (λ (names : List WebId). get_or names k passes.take.at) (sym dealt.takes) ∙ get_or-map (λ (p : PassesView). p.take.at) all k d passes.take.at within in
    let new = dealt.new k d within in
    record {
      take =
          ap (λ (p : ℕ). slice_get boxes.names p) place
          ∙ slice_get-get_or boxes.names k passes.take.at (omega (arith, within, count))
          ∙ ap (λ (at : WebId). Some at) name;
      puts = new.puts;
      own = new.take.own ∙ sym (new_puts passes.puts passes.place new.none);
    }
