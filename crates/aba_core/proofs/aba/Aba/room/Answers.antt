use Rattle.aba_core.proofs.aba.Aba.room.Goals as goal

pub returns-clause-sound : goal.returns-clause-sound
returns-clause-sound c = rw (← c.self.view_is) c.self.invariant.aba
