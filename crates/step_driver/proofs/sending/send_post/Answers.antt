use Rattle.std.proofs.Common.{◌≡◌, ◌<◌, ℕ, List, length, Some, refl, sym, ap, ◌∙◌, slice_get, get_or}
use native.Mathlib.Omega.{arith}
use Rattle.std.proofs.lemmas.Option.{slice_get-get_or}
use Rattle.step_driver.specs.Places.{spots, spot_of}
use Rattle.step_driver.specs.Directory.{led_to}
use Rattle.step_driver.proofs.Sendings.{AreSentIn-start, AreSentIn-step, IsSent-of}
use Rattle.step_driver.proofs.Occupants.{spot_at}
use Rattle.step_driver.proofs.Directories.{led_below}
use Rattle.step_driver.proofs.sending.send_post.Goals as goal

pub loop-number-init : goal.loop-number-init
loop-number-init g c =
    AreSentIn-start c.args.config.now c.args.script.now c.args.post.now c.args.k (spots g.A.Actor.seat g.A.Actor.view c.args.places.now) (led_to c.args.directory.now c.args.post.now) c.args.line.now

pub bounds-places-number : goal.bounds-places-number
bounds-places-number g c =
    let led = c.led_to-number-items.result.now in
    let i = c.loop-number.number-index in
    led_below g.A.Actor.seat g.A.Actor.view c.args.config.now.n c.args.directory.now c.args.places.now c.args.post.now led i (get_or led i 0) c.requires.listed c.led_to-number-items.ensures
    (slice_get-get_or led i 0 c.loop-number-test.true)

pub offset_bounds-places-number : goal.offset_bounds-places-number
offset_bounds-places-number g c =
    let led = c.led_to-number-items.result.now in
    let i = c.loop-number.number-index in
    let below : get_or led i 0 < length c.args.places.now =
    led_below g.A.Actor.seat g.A.Actor.view c.args.config.now.n c.args.directory.now c.args.places.now c.args.post.now led i (get_or led i 0) c.requires.listed c.led_to-number-items.ensures
    (slice_get-get_or led i 0 c.loop-number-test.true) in
    omega (arith, below)

pub loop-number-preserved : goal.loop-number-preserved
loop-number-preserved g c =
    let all = spots g.A.Actor.seat g.A.Actor.view c.args.places.now in
    let led = c.led_to-number-items.result.now in
    let i = c.loop-number.number-index in
    let place = c.index-places-number.result in
    let at : slice_get led i ≡ Some (get_or led i 0) = slice_get-get_or led i 0 c.loop-number-test.true in
    let below : get_or led i 0 < length c.args.places.now =
    led_below g.A.Actor.seat g.A.Actor.view c.args.config.now.n c.args.directory.now c.args.places.now c.args.post.now led i (get_or led i 0) c.requires.listed c.led_to-number-items.ensures at in
    AreSentIn-step c.args.config.now c.args.script.now c.args.post.now c.args.k all (led_to c.args.directory.now c.args.post.now) i (get_or led i 0) c.args.line.now c.loop-number.line
    c.send_to.new.line (spot_of g.A.Actor.seat g.A.Actor.view place) (ap (λ (ps : List ℕ). slice_get ps i) (sym c.led_to-number-items.ensures) ∙ at)
    (spot_at g.A.Actor.seat g.A.Actor.view c.args.places.now (get_or led i 0) place below c.index-places-number.is) c.in_ok-send_to.ensures c.loop-number.invariant

pub returns : goal.returns
returns g c =
    let led = led_to c.args.directory.now c.args.post.now in
    let all_of_them : c.loop-number.number-index ≡ length led =
    omega (arith, c.loop-number-test.false, c.loop-number.auto.number-index-end, ap (λ (ps : List ℕ). length ps) c.led_to-number-items.ensures) in
    IsSent-of c.args.config.now c.args.script.now c.args.post.now c.args.k (spots g.A.Actor.seat g.A.Actor.view c.args.places.now) c.args.directory.now led c.loop-number.number-index
    c.args.line.now c.loop-number.line c.requires.listed refl all_of_them c.loop-number.invariant
