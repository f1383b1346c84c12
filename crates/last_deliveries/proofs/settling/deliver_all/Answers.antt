use Rattle.std.proofs.Common.{ℕ, [], length, refl, sym, ap, ◌∙◌, subst, get_or, arith}
use Rattle.std.specs.Prelude.{All}
use Rattle.hb_rules.specs.Ledger.{IsPrefix}
use Rattle.last_deliveries.specs.Catching.{HasHeardTo, HasLooked}
use Rattle.last_deliveries.specs.Listing.{Listing}
use Rattle.last_deliveries.specs.Settling.{player_of, players_of, HasGoneOn, HasHeardNothing}
use Rattle.last_deliveries.proofs.Catches.{HasGoneOn-looked, HasHeardNothing-looked, HasHeardNothing-refl, HasHeardNothing-then, HasHeardTo-none}
use Rattle.last_deliveries.proofs.Players.{HasGoneOn-refl, HasGoneOn-then}
use Rattle.last_deliveries.proofs.Readings.{IsPrefix-nil}
use Rattle.last_deliveries.proofs.Settles.{HasReadFront-on, served_count}
use Rattle.last_deliveries.proofs.Zips.{AllZip-refl, AllZip-then, AllZip-weaker}
use Rattle.last_deliveries.proofs.settling.deliver_all.Goals as goal

pub rounds-init : goal.rounds-init
rounds-init g c =
    let b = g.B.Book in
    let a = g.A.Actor in
    let players = players_of b.config b.node b.actor b.seen a.seat a.view c.args.players.now.items in
    record {
      book = refl;
      seats = c.requires.seats;
      players = c.requires.players;
      went = AllZip-refl HasGoneOn HasGoneOn-refl players;
      within = c.requires.within;
      front = λ p stands. subst (λ (l : Listing). IsPrefix l.posts p.seat.seen) (sym c.requires.none) (IsPrefix-nil p.seat.seen);
      few = omega (arith, ap (λ (l : Listing). length l.posts) c.requires.none);
      before = subst (λ (l : Listing). All (HasHeardTo c.args.script.now l.posts (length l.posts)) players) (sym c.requires.none) (λ i d within. HasHeardTo-none c.args.script.now [] (get_or players i d));
      unheard = λ none. (none, AllZip-refl HasHeardNothing HasHeardNothing-refl players);
    }

pub rounds-preserved : goal.rounds-preserved
rounds-preserved g c =
    let b = g.B.Book in
    let a = g.A.Actor in
    let was = c.rounds.invariant in
    let read = c.in_ok-is_more.ensures in
    let caught = c.catch_up_each.ensures in
    let first = players_of b.config b.node b.actor b.seen a.seat a.view c.args.players.now.items in
    let old = players_of b.config b.node b.actor b.seen a.seat a.view c.rounds.players.items in
    let mid = players_of b.config b.node b.actor b.seen a.seat a.view c.read_more.new.players.items in
    let new = players_of b.config b.node b.actor b.seen a.seat a.view c.catch_up_each.new.players.items in
    let shown = AllZip-weaker HasLooked HasGoneOn HasGoneOn-looked old mid read.looked in
    let went = AllZip-then HasGoneOn HasGoneOn-then first mid new (AllZip-then HasGoneOn HasGoneOn-then first old mid was.went shown) caught.went in
    record {
      book = caught.book ∙ read.book ∙ was.book;
      seats = caught.seats;
      players = caught.players;
      went = went;
      within = omega (arith, c.requires.within, served_count HasGoneOn (player_of b.config b.node b.actor b.seen a.seat a.view) c.args.players.now.items c.catch_up_each.new.players.items went);
      front = HasReadFront-on c.read_more.new.posts.posts c.args.reader mid new read.read caught.went;
      few = read.few;
      before = caught.all;
      unheard = λ none.
          let still = caught.unheard none in
          let before = was.unheard still.0 in
          let looked = AllZip-weaker HasLooked HasHeardNothing HasHeardNothing-looked old mid read.looked in
          (before.0, AllZip-then HasHeardNothing HasHeardNothing-then first mid new (AllZip-then HasHeardNothing HasHeardNothing-then first old mid before.1 looked) still.1);
    }

pub rounds-smaller : goal.rounds-smaller
rounds-smaller g c =
    omega (arith, c.in_ok-is_more.ensures.more c.if-not-is_more.false, c.in_ok-is_more.ensures.few)

pub returns-in_err-is_more-clause-went : goal.returns-in_err-is_more-clause-went
returns-in_err-is_more-clause-went g c =
    let b = g.B.Book in
    let a = g.A.Actor in
    let first = players_of b.config b.node b.actor b.seen a.seat a.view c.args.players.now.items in
    let old = players_of b.config b.node b.actor b.seen a.seat a.view c.rounds.players.items in
    let mid = players_of b.config b.node b.actor b.seen a.seat a.view c.read_more.new.players.items in
    AllZip-then HasGoneOn HasGoneOn-then first old mid c.rounds.invariant.went (AllZip-weaker HasLooked HasGoneOn HasGoneOn-looked old mid c.read_more.ensures.looked)

pub returns-in_err-is_more-clause-unheard : goal.returns-in_err-is_more-clause-unheard
returns-in_err-is_more-clause-unheard g c =
    let b = g.B.Book in
    let a = g.A.Actor in
    let first = players_of b.config b.node b.actor b.seen a.seat a.view c.args.players.now.items in
    let old = players_of b.config b.node b.actor b.seen a.seat a.view c.rounds.players.items in
    let mid = players_of b.config b.node b.actor b.seen a.seat a.view c.read_more.new.players.items in
    λ none.
    let before = c.rounds.invariant.unheard none in
    (before.0, AllZip-then HasHeardNothing HasHeardNothing-then first old mid before.1 (AllZip-weaker HasLooked HasHeardNothing HasHeardNothing-looked old mid c.read_more.ensures.looked))

pub returns-then-not-is_more-clause-went : goal.returns-then-not-is_more-clause-went
returns-then-not-is_more-clause-went g c =
    let b = g.B.Book in
    let a = g.A.Actor in
    let first = players_of b.config b.node b.actor b.seen a.seat a.view c.args.players.now.items in
    let old = players_of b.config b.node b.actor b.seen a.seat a.view c.rounds.players.items in
    let mid = players_of b.config b.node b.actor b.seen a.seat a.view c.read_more.new.players.items in
    AllZip-then HasGoneOn HasGoneOn-then first old mid c.rounds.invariant.went (AllZip-weaker HasLooked HasGoneOn HasGoneOn-looked old mid c.read_more.ensures.looked)

pub returns-then-not-is_more-clause-unheard : goal.returns-then-not-is_more-clause-unheard
returns-then-not-is_more-clause-unheard g c =
    let b = g.B.Book in
    let a = g.A.Actor in
    let first = players_of b.config b.node b.actor b.seen a.seat a.view c.args.players.now.items in
    let old = players_of b.config b.node b.actor b.seen a.seat a.view c.rounds.players.items in
    let mid = players_of b.config b.node b.actor b.seen a.seat a.view c.read_more.new.players.items in
    λ none.
    let before = c.rounds.invariant.unheard none in
    (before.0, AllZip-then HasHeardNothing HasHeardNothing-then first old mid before.1 (AllZip-weaker HasLooked HasHeardNothing HasHeardNothing-looked old mid c.read_more.ensures.looked))

pub returns-then-not-is_more-clause-all : goal.returns-then-not-is_more-clause-all
returns-then-not-is_more-clause-all g c =
    let b = g.B.Book in
    let a = g.A.Actor in
    λ all. subst (λ (count : ℕ). All (HasHeardTo c.args.script.now c.read_more.new.posts.posts count) (players_of b.config b.node b.actor b.seen a.seat a.view c.read_more.new.players.items))
    (c.in_ok-is_more.ensures.end c.if-not-is_more.true) c.in_ok-is_more.ensures.before
