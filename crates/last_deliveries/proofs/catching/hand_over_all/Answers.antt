use Rattle.std.proofs.Common.{ℕ, List, [], ◌∷◌, ◌++◌, take, refl, sym, ap, ◌∙◌, get_or, arith}
use Rattle.std.proofs.lemmas.List.{append-nil, append_assoc, take_all, take_more}
use Rattle.actor_cell.proofs.Hearings.{moved_on}
use Rattle.last_deliveries.specs.Settling.{player_of}
use Rattle.last_deliveries.proofs.Players.{HasGoneOn-refl, HasGoneOn-then, works_on}
use Rattle.last_deliveries.proofs.Catches.{WasRestarted-then, running_fate}
use Rattle.last_deliveries.proofs.catching.hand_over_all.Goals as goal

pub loop-k-init : goal.loop-k-init
loop-k-init g c =
    let b = g.B.Book in
    let a = g.A.Actor in
    record {
      seat = c.requires.seat;
      moved = g.met.B.Book.stays (b.node (a.seat c.args.player.now.actor)) (b.actor (a.seat c.args.player.now.actor)) c.args.book.now;
      of_run = c.requires.of_run;
      running = c.requires.running;
      went = HasGoneOn-refl (player_of b.config b.node b.actor b.seen a.seat a.view c.args.player.now);
      got = sym (append-nil (a.view c.args.player.now.actor).got);
      restarts = refl;
      unheard = λ none. (none, refl);
    }

pub loop-k-preserved : goal.loop-k-preserved
loop-k-preserved g c =
    let b = g.B.Book in
    let a = g.A.Actor in
    let was = c.loop-k.invariant in
    let handed = c.hand_over.ensures in
    let o = player_of b.config b.node b.actor b.seen a.seat a.view c.args.player.now in
    let p = player_of b.config b.node b.actor b.seen a.seat a.view c.loop-k.player in
    let numbers = c.args.numbers.now in
    let i = c.loop-k.k-index in
    let got = (a.view c.args.player.now.actor).got in
    let taken = handed.heard c.if-not-hand_over.false in
    record {
      seat = handed.seat;
      moved = moved_on b.moved g.met.B.Book.goes_on c.args.book.now c.loop-k.book c.hand_over.new.book o p was.went.seat was.moved handed.moved;
      of_run = handed.of_run;
      running = handed.works c.if-not-hand_over.false;
      went = HasGoneOn-then o p (player_of b.config b.node b.actor b.seen a.seat a.view c.hand_over.new.player) was.went handed.went;
      got =
          taken.got ∙ ap (λ (ks : List ℕ). ks ++ get_or numbers i 0 ∷ []) was.got ∙ append_assoc got (take i numbers) (get_or numbers i 0 ∷ [])
          ∙ ap (λ (ks : List ℕ). got ++ ks) (sym (take_more numbers i 0 c.loop-k-test.true));
      restarts = taken.restarts ∙ was.restarts;
      unheard = λ none.
          let still = handed.unheard none in
          let before = was.unheard still.0 in
          (before.0, still.2 ∙ before.1);
    }

pub returns-then-not-hand_over-clause-moved : goal.returns-then-not-hand_over-clause-moved
returns-then-not-hand_over-clause-moved g c =
    let b = g.B.Book in
    let a = g.A.Actor in
    let was = c.loop-k.invariant in
    moved_on b.moved g.met.B.Book.goes_on c.args.book.now c.loop-k.book c.hand_over.new.book (player_of b.config b.node b.actor b.seen a.seat a.view c.args.player.now)
    (player_of b.config b.node b.actor b.seen a.seat a.view c.loop-k.player) was.went.seat was.moved c.hand_over.ensures.moved

pub returns-then-not-hand_over-clause-went : goal.returns-then-not-hand_over-clause-went
returns-then-not-hand_over-clause-went g c =
    let b = g.B.Book in
    let a = g.A.Actor in
    HasGoneOn-then (player_of b.config b.node b.actor b.seen a.seat a.view c.args.player.now) (player_of b.config b.node b.actor b.seen a.seat a.view c.loop-k.player)
    (player_of b.config b.node b.actor b.seen a.seat a.view c.hand_over.new.player) c.loop-k.invariant.went c.hand_over.ensures.went

pub returns-then-not-hand_over-clause-works : goal.returns-then-not-hand_over-clause-works
returns-then-not-hand_over-clause-works g c = λ works. running_fate c.hand_over.new.player.fate (sym c.is_running.ensures ∙ works)

pub returns-then-not-hand_over-clause-again : goal.returns-then-not-hand_over-clause-again
returns-then-not-hand_over-clause-again g c =
    let a = g.A.Actor in
    λ works. WasRestarted-then (a.view c.args.player.now.actor) (a.view c.loop-k.player.actor) (a.view c.hand_over.new.player.actor) c.loop-k.invariant.restarts
    (c.hand_over.ensures.again c.if-not-hand_over.true (running_fate c.hand_over.new.player.fate (sym c.is_running.ensures ∙ works)))

pub returns-then-not-hand_over-clause-heard : goal.returns-then-not-hand_over-clause-heard
returns-then-not-hand_over-clause-heard g c =
    λ ended running. absurd (works_on c.hand_over.new.player.fate running (sym c.is_running.ensures ∙ ended))

pub returns-then-not-hand_over-clause-unheard : goal.returns-then-not-hand_over-clause-unheard
returns-then-not-hand_over-clause-unheard g c =
    λ none.
    let still = c.hand_over.ensures.unheard none in
    let before = c.loop-k.invariant.unheard still.0 in
    (before.0, still.2 ∙ before.1)

pub returns-clause-heard : goal.returns-clause-heard
returns-clause-heard g c =
    let a = g.A.Actor in
    λ over running. c.loop-k.invariant.got ∙ ap (λ (ks : List ℕ). (a.view c.args.player.now.actor).got ++ ks) (take_all c.loop-k.k-index c.args.numbers.now (omega arith))
