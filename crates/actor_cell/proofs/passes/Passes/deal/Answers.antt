use Rattle.std.proofs.Common.{◌≡◌, ℕ, List, [], ◌∷◌, ◌++◌, length, map, sym, ap, ◌∙◌, append_assoc, length-append, arith, rules}
use Rattle.std.specs.List.{range_with_len}
use Rattle.std.specs.Vec.Iter.{into_iter_items}
use Rattle.std.proofs.lemmas.Simd.{map-map}
use Rattle.std.proofs.lemmas.List.{append-nil, nil_from_length, map-append, length-map}
use Rattle.std.proofs.lemmas.List.Elements.{All-push}
use Rattle.mailbox.specs.Passes.{TakePassView}
use Rattle.actor_cell.specs.Passes.{PassesView, AreNewPasses, IsNewTake}
use Rattle.actor_cell.proofs.Places.{range_more}
use Rattle.actor_cell.proofs.Puts.{holds_among}
use Rattle.actor_cell.proofs.passes.Passes.deal.Goals as goal

pub loop-take-preserved : goal.loop-take-preserved
loop-take-preserved c =
    let passes : PassesView = record { place = c.len-place.result; take = c.in-Some.take; puts = c.in_ok-puts.puts.items } in
    let here : c.len-place.result ≡ length c.loop-take.all.items = search rules in
    let rest : c.loop-take.yielded ++ c.in-Some.take ∷ into_iter_items c.next.new.self ≡ c.args.takes.items =
    ap (λ (items : List TakePassView). c.loop-take.yielded ++ items) (sym c.in-Some.ensures.steps.0) ∙ c.loop-take.invariant.rest in
    let new : AreNewPasses c.args.boxes.now passes = record {
      take = holds_among IsNewTake c.loop-take.yielded (into_iter_items c.next.new.self) c.args.takes.items c.in-Some.take c.requires.takes.1 rest;
      puts = c.in_ok-puts.ensures.at;
      none = c.in_ok-puts.ensures.new;
    } in
    record {
      rest = append_assoc c.loop-take.yielded (c.in-Some.take ∷ []) (into_iter_items c.next.new.self) ∙ rest;
      firsts = c.split_each.ensures.firsts;
      takes =
          ap (λ (all : List PassesView). map (λ (p : PassesView). p.take) all) c.in_ok-push.ensures.items
          ∙ map-append (λ (p : PassesView). p.take) c.loop-take.all.items (passes ∷ [])
          ∙ ap (λ (takes : List TakePassView). takes ++ c.in-Some.take ∷ []) c.loop-take.invariant.takes;
      places =
          ap (λ (all : List PassesView). map (λ (p : PassesView). p.place) all) c.in_ok-push.ensures.items
          ∙ map-append (λ (p : PassesView). p.place) c.loop-take.all.items (passes ∷ [])
          ∙ ap (λ (places : List ℕ). places ++ c.len-place.result ∷ []) c.loop-take.invariant.places
          ∙ ap (λ (place : ℕ). range_with_len 0 (length c.loop-take.all.items) ++ place ∷ []) here
          ∙ sym (range_more (length c.loop-take.all.items))
          ∙ ap (λ (k : ℕ). range_with_len 0 k) (sym (ap length c.in_ok-push.ensures.items ∙ length-append c.loop-take.all.items (passes ∷ [])));
      new = rw c.in_ok-push.ensures.items (All-push (AreNewPasses c.args.boxes.now) c.loop-take.all.items passes c.loop-take.invariant.new new);
    }

pub returns : goal.returns
returns c =
    let all : c.loop-take.yielded ≡ c.args.takes.items =
    sym (append-nil c.loop-take.yielded)
    ∙ ap (λ (rest : List TakePassView). c.loop-take.yielded ++ rest)
    (sym (nil_from_length (into_iter_items c.loop-take.take-iterator) (omega (arith, c.in-None.ensures.steps.0, c.loop-take.take-iterator.rest.ok.0))))
    ∙ c.loop-take.invariant.rest in
    let takes : map (λ (p : PassesView). p.take.at) c.loop-take.all.items ≡ c.args.boxes.now =
    sym (map-map (λ (t : TakePassView). t.at) (λ (p : PassesView). p.take) c.loop-take.all.items)
    ∙ ap (λ (takes : List TakePassView). map (λ (t : TakePassView). t.at) takes) (c.loop-take.invariant.takes ∙ all) ∙ c.requires.takes.0 in
    record {
      places =
          c.loop-take.invariant.places
          ∙ ap (λ (k : ℕ). range_with_len 0 k) (sym (length-map c.loop-take.all.items (λ (p : PassesView). p.take.at)) ∙ ap length takes);
      takes = takes;
      new = c.loop-take.invariant.new;
    }
