-- A row of put passes, of which one puts.
use Rattle.std.proofs.Common.{◌≡◌, ◌≢◌, ℕ, ◌<◌, Bool, true, false, List, [], ◌∷◌, ◌++◌, length, map, sym, ap, ◌∙◌, subst, arith, get_or, length-append, All, Result, Ok, Err, OnOk, OnErr}
use Rattle.std.proofs.lemmas.List.{map-set, get_or-map, get_or-set_same, get_or-set_other, length-map}
use Rattle.std.proofs.Math.Seq.{map-set_same, get_or-append_seam}
use Rattle.std.proofs.Math.ListN.{set}
use Rattle.atomic_blocks.specs.Laid.{WebId}
use Rattle.mailbox.specs.Passes.{PutPassView, TakePassView}
use Rattle.actor_cell.specs.Passes.{PassesView, with_put, own_puts}

-- what all passes have of one kind stays, where the one that puts keeps it
pub same_after : {B : Type 0} (f : PutPassView → B) (puts : List PutPassView) (i : ℕ) (old new : PutPassView) → old ≡ get_or puts i old → f new ≡ f old
    → map f (set puts i new) ≡ map f puts
same_after f puts i old new is same = map-set_same f puts i new old (same ∙ ap f is)

-- there is a pass for each mailbox
pub within_row : (puts : List PutPassView) (names : List WebId) (i : ℕ) → map (λ (p : PutPassView). p.at) puts ≡ names → i < length names → i < length puts
within_row puts names i are within = omega (arith, within, ap length are, length-map puts (λ (p : PutPassView). p.at))

-- what was put through each
pub put_after : (puts : List PutPassView) (i number : ℕ) (old new : PutPassView) → i < length puts → old ≡ get_or puts i old → new.put ≡ old.put ++ number ∷ []
    → map (λ (p : PutPassView). p.put) (set puts i new) ≡ with_put i number (map (λ (p : PutPassView). p.put) puts)
put_after puts i number old new within is more =
    let lists : List (List ℕ) = map (λ (p : PutPassView). p.put) puts in
    let here : get_or lists i [] ≡ old.put = get_or-map (λ (p : PutPassView). p.put) puts i old [] within ∙ ap (λ (p : PutPassView). p.put) (sym is) in
    map-set (λ (p : PutPassView). p.put) puts i new ∙ ap (λ (list : List ℕ). set lists i list) (more ∙ ap (λ (list : List ℕ). list ++ number ∷ []) (sym here))

-- whether the one that put needs a block
pub block_after : (puts : List PutPassView) (i : ℕ) (new : PutPassView) → i < length puts → new.needs_block ≡ true
    → get_or (map (λ (p : PutPassView). p.needs_block) (set puts i new)) i false ≡ true
block_after puts i new within needs =
    ap (λ (blocks : List Bool). get_or blocks i false) (map-set (λ (p : PutPassView). p.needs_block) puts i new)
    ∙ get_or-set_same (map (λ (p : PutPassView). p.needs_block) puts) i new.needs_block false (omega (arith, within, length-map puts (λ (p : PutPassView). p.needs_block)))
    ∙ needs

-- what holds of each of some take passes holds of one among them
pub holds_among : (P : TakePassView → Type 0) (before after all : List TakePassView) (take : TakePassView) → All P all → before ++ take ∷ after ≡ all → P take
holds_among P before after all take each is =
    subst P (ap (λ (takes : List TakePassView). get_or takes (length before) take) (sym is) ∙ get_or-append_seam before take after take)
    (each (length before) take (omega (arith, ap length is, length-append before (take ∷ after))))

-- ---- the own mailbox

-- what the take pass was told of, and what was put through the own pass
pub told_own : {T E : Type 0} (r : Result T E) (take take' : TakePassView) (put put' : List ℕ) → OnOk r (take' ≡ record take { own = put' }) → OnErr r ((put' ≡ put) × (take' ≡ take))
    → take.own ≡ put → take'.own ≡ put'
told_own (Ok x) take take' put put' told none was = ap (λ (t : TakePassView). t.own) told
told_own (Err x) take take' put put' told none was = ap (λ (t : TakePassView). t.own) none.1 ∙ was ∙ sym none.0

-- nothing else of the take pass changes
pub same_take : {T E : Type 0} (r : Result T E) (take take' : TakePassView) (put put' : List ℕ) → OnOk r (take' ≡ record take { own = put' }) → OnErr r ((put' ≡ put) × (take' ≡ take))
    → take' ≡ record take { own = take'.own }
same_take (Ok x) take take' put put' told none =
    told ∙ ap (λ (own : List ℕ). record take { own = own }) (sym (ap (λ (t : TakePassView). t.own) told))
same_take (Err x) take take' put put' told none =
    none.1 ∙ ap (λ (own : List ℕ). record take { own = own }) (sym (ap (λ (t : TakePassView). t.own) none.1))

-- what was put through the pass at a place, before and after
pub put_before : (puts : List PutPassView) (i : ℕ) (old : PutPassView) → i < length puts → old ≡ get_or puts i old
    → get_or (map (λ (p : PutPassView). p.put) puts) i [] ≡ old.put
put_before puts i old within is = get_or-map (λ (p : PutPassView). p.put) puts i old [] within ∙ ap (λ (p : PutPassView). p.put) (sym is)

pub put_here : (puts : List PutPassView) (i : ℕ) (new : PutPassView) → i < length puts → get_or (map (λ (p : PutPassView). p.put) (set puts i new)) i [] ≡ new.put
put_here puts i new within =
    ap (λ (lists : List (List ℕ)). get_or lists i []) (map-set (λ (p : PutPassView). p.put) puts i new)
    ∙ get_or-set_same (map (λ (p : PutPassView). p.put) puts) i new.put [] (omega (arith, within, length-map puts (λ (p : PutPassView). p.put)))

pub put_elsewhere : (puts : List PutPassView) (i j : ℕ) (new : PutPassView) → j ≢ i
    → get_or (map (λ (p : PutPassView). p.put) (set puts i new)) j [] ≡ get_or (map (λ (p : PutPassView). p.put) puts) j []
put_elsewhere puts i j new apart =
    ap (λ (lists : List (List ℕ)). get_or lists j []) (map-set (λ (p : PutPassView). p.put) puts i new)
    ∙ get_or-set_other (map (λ (p : PutPassView). p.put) puts) i j new.put [] apart

-- the take pass is told of an own put
pub own_after : {T E : Type 0} (r : Result T E) (passes : PassesView) (take : TakePassView) (i : ℕ) (old new : PutPassView) → i ≡ passes.place → i < length passes.puts
    → old ≡ get_or passes.puts i old → passes.take.own ≡ own_puts passes → OnOk r (take ≡ record passes.take { own = new.put })
    → OnErr r ((new.put ≡ old.put) × (take ≡ passes.take)) → take.own ≡ own_puts (record { place = passes.place; take = take; puts = set passes.puts i new })
own_after r passes take i old new here within is was told none =
    told_own r passes.take take old.put new.put told none
    (was ∙ ap (λ (k : ℕ). get_or (map (λ (p : PutPassView). p.put) passes.puts) k []) (sym here) ∙ put_before passes.puts i old within is)
    ∙ sym (put_here passes.puts i new within) ∙ ap (λ (k : ℕ). get_or (map (λ (p : PutPassView). p.put) (set passes.puts i new)) k []) here

-- a put elsewhere is no own put
pub own_apart : (passes : PassesView) (i : ℕ) (new : PutPassView) → (i ≡ passes.place → ⊥) → passes.take.own ≡ own_puts passes
    → passes.take.own ≡ own_puts (record { place = passes.place; take = passes.take; puts = set passes.puts i new })
own_apart passes i new apart was = was ∙ sym (put_elsewhere passes.puts i passes.place new (λ e. apart (sym e)))
