use Rattle.std.proofs.Common.{◌≡◌, List, length, refl, sym, ap, subst}
use native.Mathlib.Omega.{arith}
use Rattle.std.proofs.lemmas.Result.{on_ok_weaker, IfOk-weaker}
use Rattle.hb_base.specs.Numbers.{Numbers}
use Rattle.hb_wire.specs.declared.post.Post.{Post}
use Rattle.hb_rules.specs.Actor.{ActorView}
use Rattle.hb_rules.specs.Book.{SeatView}
use Rattle.step_driver.specs.declared.place.Place.{Place}
use Rattle.step_driver.specs.Directory.{Groups, IsDirectory}
use Rattle.rand_chacha.specs.ChaCha.{ChaCha}
use Rattle.step_driver.specs.Places.{spots, names}
use Rattle.step_driver.specs.Delivering.{IsStage, IsSupplied, Always}
use Rattle.step_driver.proofs.Directories.{IsDirectory-on, IsDirectory-lent}
use Rattle.step_driver.proofs.Turns.{HasRun-of, IsSupplied-empty, words-few, GoesOn-all, AreKept-of}
use Rattle.step_driver.proofs.Occupants.{ends_lent}
use Rattle.step_driver.proofs.run.run_all.Goals as goal

-- the directory is of the places as they were
at_start : {A L : Type 0} (seat : A → SeatView) (view : A → ActorView) (c d : Numbers) (ps qs : List (Place A L)) (groups : Groups) → c ≡ d → ps ≡ qs
    → IsDirectory c.n groups (names (spots seat view ps)) → IsDirectory d.n groups (names (spots seat view qs))
at_start seat view c d ps qs groups same_config same directory =
    IsDirectory-lent seat view c.n d.n (spots seat view ps) qs ps groups (ap (λ (e : Numbers). e.n) (sym same_config)) (sym same) refl directory

pub start_all-requires : goal.start_all-requires
start_all-requires g c =
    let all = spots g.A.Actor.seat g.A.Actor.view c.args.places.now.items in
    record {
      listed = at_start g.A.Actor.seat g.A.Actor.view c.config-config.result c.args.book.now.config c.as_slice.result.now c.args.places.now.items c.in_ok-directory.directory
          c.config-config.ensures c.as_slice.ensures.value c.in_ok-directory.ensures;
      stage = subst (λ (posts : List Post). IsStage c.args.book.now.config c.args.script.now 0 posts all) (sym c.requires.empty) c.requires.stage;
      supplied = subst (λ (posts : List Post). IsSupplied Always c.args.book.now.config c.args.script.now posts all c.new-line.result) (sym c.requires.empty)
          (IsSupplied-empty c.args.book.now.config c.args.script.now all c.new-line.result);
    }

pub run_line-requires-clause-listed : goal.run_line-requires-clause-listed
run_line-requires-clause-listed g c lifetimes outlive =
    let old = spots g.A.Actor.seat g.A.Actor.view c.args.places.now.items in
    let new = spots g.A.Actor.seat g.A.Actor.view c.start_all.new.places.items in
    let goes = c.in_ok-start_all.ensures in
    IsDirectory-on c.args.book.now.config.n c.start_all.new.book.config.n old new c.in_ok-directory.directory (ap (λ (d : Numbers). d.n) goes.config) goes.same_names
    (at_start g.A.Actor.seat g.A.Actor.view c.config-config.result c.args.book.now.config c.as_slice.result.now c.args.places.now.items c.in_ok-directory.directory
    c.config-config.ensures c.as_slice.ensures.value c.in_ok-directory.ensures)

pub run_line-requires-clause-words : goal.run_line-requires-clause-words
run_line-requires-clause-words g c =
    let old = spots g.A.Actor.seat g.A.Actor.view c.args.places.now.items in
    let new = spots g.A.Actor.seat g.A.Actor.view c.start_all.new.places.items in
    let at_start : c.words_of-words.result.word_pos ≡ 0 = ap (λ (w : ChaCha). w.word_pos) c.words_of-words.ensures in
    omega (
      arith,
      words-few c.args.script.now (length old) c.args.book.now c.start_all.new.book old new c.new-line.result c.start_all.new.line c.args.book.now.config
          c.requires.empty c.new-line.ensures c.requires.stage c.in_ok-start_all.ensures,
      at_start,
    )

pub returns : goal.returns
returns g c =
    let old = spots g.A.Actor.seat g.A.Actor.view c.args.places.now.items in
    let mid = spots g.A.Actor.seat g.A.Actor.view c.start_all.new.places.items in
    let new = spots g.A.Actor.seat g.A.Actor.view c.run_line.new.places.items in
    let n = length old in
    let one = c.in_ok-start_all.ensures in
    let two = c.in_ok-run_line.ensures.goes in
    let goes = GoesOn-all c.args.script.now c.args.book.now c.start_all.new.book c.run_line.new.book old mid new c.new-line.result c.start_all.new.line c.run_line.new.line one two in
    record {
      ran = on_ok_weaker c.ends_of.result (λ kept. HasRun-of c.args.script.now n c.args.book.now c.run_line.new.book old new c.new-line.result c.run_line.new.line c.requires.team goes refl c.in_ok-run_line.ensures.rests
          (AreKept-of g.A.Actor.seat g.A.Actor.view c.as_slice-2.result.now c.run_line.new.places.items c.as_slice-2.ensures.value kept)) c.ends_of.ensures.kept;
      config = on_ok_weaker c.ends_of.result (λ kept. goes.config) c.ends_of.ensures.kept;
      ends = IfOk-weaker c.ends_of.result _ _ (λ ends same. ends_lent g.A.Actor.seat g.A.Actor.view c.as_slice-2.result.now c.run_line.new.places.items _ c.as_slice-2.ensures.value same) c.ends_of.ensures.ends;
    }
