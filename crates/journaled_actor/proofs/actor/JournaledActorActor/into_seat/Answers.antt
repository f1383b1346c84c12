use Rattle.std.proofs.Common.{◌≡◌, refl}
use Rattle.journaled_actor.proofs.Actors.{along}
use Rattle.journaled_actor.proofs.actor.JournaledActorActor.into_seat.Goals as goal

pub returns : goal.returns
returns g c = along c.self.view_is (λ a. c.self.inside.seat ≡ a.seat) refl
