use Rattle.std.proofs.Common.{◌≡◌, false, ◌≤◌, [], refl, sym, arith}
use Rattle.disk_model.specs.Image.{Image}
use Rattle.vote_journal.specs.Text.{text_of}
use Rattle.hb_base.specs.Limits.{most_stops}
use Rattle.hb_rules.specs.Actor.{AreSeen, budget}
use Rattle.journaled_actor.specs.Kept.{IsSafe}
use Rattle.journaled_actor.proofs.Actors.{along, few_none, few_within, budget_on, empty_text, safe_empty}
use Rattle.journaled_actor.proofs.actor.JournaledActor.new.Goals as goal

pub invariant_of-result : goal.invariant_of-result
invariant_of-result g c =
    let d = g.D.Disk in
    let t = g.C.Core.terms c.args.core in
    let posts = g.B.Book.seen c.args.seat in
    record {
      is = c.requires.is;
      lawful = c.lawful.ensures;
      safe = along (sym c.shut.ensures) (λ disk. IsSafe t posts (d.may_leave disk))
          (safe_empty d.seen d.may_leave c.args.disk t posts c.requires.empty c.requires.unused);
      few = few_within t posts 0 1 (omega arith) (few_none t posts c.requires.unused);
      bound = along (sym c.shut.ensures) (λ disk. budget 0 (d.supply disk) ≤ most_stops)
          (budget_on (d.supply c.args.disk) c.requires.on (omega (arith, c.stops_left-stops.ensures.few)));
      received = along (sym c.new.ensures.items) (AreSeen t posts) (λ k stands. absurd (omega (arith, stands.1)));
      fresh = λ begun. (c.new.ensures.items, refl, c.requires.unused);
      live = λ live. absurd (cc (live));
      fresh_on = λ fresh. along (sym c.shut.ensures) (λ disk. (d.supply disk).off ≡ false) c.requires.on;
      live_on = λ live. absurd (cc (live));
      fresh_empty = λ fresh. along (sym c.shut.ensures) (λ disk. (image : Image) → d.may_leave disk image → text_of image ≡ [])
          (empty_text d.seen d.may_leave c.args.disk c.requires.empty);
    }
