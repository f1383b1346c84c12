-- Actors and seats that go on.
use Rattle.std.proofs.Common.{◌≡◌, ◌⊎◌, ℕ, true, false, inl, inr, List, ◌++◌, Contains, refl, sym, ap, ◌∙◌, subst, arith}
use Rattle.std.proofs.lemmas.List.{append_assoc}
use Rattle.hb_base.specs.Numbers.{Numbers}
use Rattle.hb_wire.specs.declared.post.Post.{Post}
use Rattle.net_script.specs.declared.script.Script.{Script}
use Rattle.hb_rules.specs.declared.report.Fate.{Fate}
use Rattle.hb_rules.specs.declared.report.Fate.TheVariants.{Running, Memory, Journal, Full}
use Rattle.hb_rules.specs.Actor.{ActorView}
use Rattle.hb_rules.specs.Book.{SeatView, Watched, mine_in}
use Rattle.hb_rules.specs.BookLaws.{mine_in-append, Watched-refl}
use Rattle.hb_rules.specs.Report.{IsReceived, is_running_fate}
use Rattle.step_driver.specs.Places.{PlayerView}
use Rattle.step_driver.specs.Delivering.{IsSound, HasFate, HasMetFault}
use Rattle.step_driver.proofs.Playing.{IsSound-on}
use Rattle.actor_cell.specs.Turning.{IsShown, KeepsTerms, Hears}
use Rattle.actor_cell.proofs.Hearings.{IsPrefix-refl, IsPrefix-then, IsSameSeat-refl, IsSameSeat-then, KeepsTerms-refl, KeepsTerms-then, shown_longer}
use Rattle.actor_cell.proofs.Turnings.{IsPlayer-hears}
use Rattle.last_deliveries.specs.Settling.{IsOfRun, HasGoneOn, HasWatched}

-- ---- actors

pub HasGoneOn-refl : (p : PlayerView) → HasGoneOn p p
HasGoneOn-refl p = record { seat = IsSameSeat-refl p; seen = IsPrefix-refl p.seat.seen; keeps = KeepsTerms-refl p.view; ended = λ _. (refl, refl) }

pub HasGoneOn-then : (p q r : PlayerView) → HasGoneOn p q → HasGoneOn q r → HasGoneOn p r
HasGoneOn-then p q r one two = record {
  seat = IsSameSeat-then p q r one.seat two.seat;
  seen = IsPrefix-then p.seat.seen q.seat.seen r.seat.seen one.seen two.seen;
  keeps = KeepsTerms-then p.view q.view r.view one.keeps two.keeps;
  ended = λ over.
      let first = one.ended over in
      let then = two.ended (ap is_running_fate first.1 ∙ over) in
      (then.0 ∙ first.0, then.1 ∙ first.1);
}

-- it looked at the history
pub HasGoneOn-shown : (p q : PlayerView) → IsShown p q → (is_running_fate p.fate ≡ false → q.fate ≡ p.fate) → HasGoneOn p q
HasGoneOn-shown p q shown fate = record {
  seat = shown.seat;
  seen = shown_longer p q shown;
  keeps = subst (λ (v : ActorView). KeepsTerms p.view v) (sym shown.view) (KeepsTerms-refl p.view);
  ended = λ over. (shown.view, fate over);
}

pub works_on : (fate : Fate) → fate ≡ Running → is_running_fate fate ≡ false → ⊥
works_on fate running over = cc (ap is_running_fate running, over)

-- it works, and heard a post
pub HasGoneOn-hears : (k : ℕ) (p q : PlayerView) (before after : List ℕ) → p.fate ≡ Running → Hears k p q before after → HasGoneOn p q
HasGoneOn-hears k p q before after running hears =
    record { seat = hears.seat; seen = hears.seen; keeps = hears.keeps; ended = λ over. absurd (works_on p.fate running over) }

-- one that works gets another fate
pub HasGoneOn-fate : (p q : PlayerView) (fate : Fate) → p.fate ≡ Running → HasGoneOn p q → HasGoneOn p (record q { fate = fate })
HasGoneOn-fate p q fate running went = record {
  seat = record { config = went.seat.config; node = went.seat.node; actor = went.seat.actor };
  seen = went.seen;
  keeps = went.keeps;
  ended = λ over. absurd (works_on p.fate running over);
}

-- a fate that has its cause still has it after a look, unless it came of a full book
fate_shown : (fate : Fate) (p q : PlayerView) → (fate ≡ Full → ⊥) → q.view ≡ p.view → HasFate true fate p.seat p.view → HasFate true fate q.seat q.view
fate_shown Running p q other same has = ap (λ (v : ActorView). v.live) same ∙ has
fate_shown Memory p q other same has = tt
fate_shown Journal p q other same has = subst (λ (v : ActorView). HasMetFault v) (sym same) has
fate_shown Full p q other same has = absurd (other refl)

pub IsSound-shown : (c : Numbers) (s : Script) (p q : PlayerView) → IsShown p q → IsSound c s p → IsSound c s q
IsSound-shown c s p q shown sound =
    IsSound-on c s p q sound shown.seat.node shown.seat.actor (shown_longer p q shown) (ap (λ (v : ActorView). v.terms) shown.view)
    (ap (λ (v : ActorView). v.supply.planned) shown.view) (rw shown.view (omega arith))
    (record { each = λ k stands. inl (subst (λ (v : ActorView). Contains v.got k) shown.view stands) })

pub IsOfRun-shown : (s : Script) (p q : PlayerView) → IsShown p q → q.fate ≡ p.fate → (p.fate ≡ Full → ⊥) → IsOfRun s p → IsOfRun s q
IsOfRun-shown s p q shown fate other was = record {
  config = shown.seat.config ∙ was.config;
  player = record {
    sound = IsSound-shown s.config s p q shown was.player.sound;
    fate = subst (λ (f : Fate). HasFate true f q.seat q.view) (sym fate) (fate_shown p.fate p q other shown.view was.player.fate);
  };
}

-- want of memory needs no cause
pub IsOfRun-memory : (s : Script) (p : PlayerView) → IsOfRun s p → IsOfRun s (record p { fate = Memory })
IsOfRun-memory s p was = record {
  config = was.config;
  player = record {
    sound =
        IsSound-on s.config s p (record p { fate = Memory }) was.player.sound refl refl (IsPrefix-refl p.seat.seen) refl refl (omega arith)
        (record { each = λ k stands. inl stands });
    fate = tt;
  };
}

pub IsOfRun-hears : (s : Script) (k : ℕ) (p q : PlayerView) (before after : List ℕ) → IsOfRun s p → IsReceived s.config s p.seat.seen p.seat.node p.seat.actor k
    → Hears k p q before after → IsOfRun s q
IsOfRun-hears s k p q before after was comes hears =
    record { config = hears.seat.config ∙ was.config; player = IsPlayer-hears s.config s k p q before after was.player comes hears }

pub works_not_full : (fate : Fate) → fate ≡ Running → fate ≡ Full → ⊥
works_not_full fate running full = cc (running, full)

pub ended_not_full : (fate : Fate) → (fate ≡ Memory) ⊎ (fate ≡ Journal) → fate ≡ Full → ⊥
ended_not_full fate (inl memory) full = cc (memory, full)
ended_not_full fate (inr journal) full = cc (journal, full)

-- ---- seats

Watched-then : (c : Numbers) (i x : ℕ) (old mid new : List Post) → Watched c i x old mid → Watched c i x mid new → Watched c i x old new
Watched-then c i x old mid new one two = record {
  between = one.between ++ two.between;
  others = mine_in-append c i x one.between two.between ∙ ap (λ (posts : List Post). posts ++ mine_in c i x two.between) one.others ∙ two.others;
  is = two.is ∙ ap (λ (posts : List Post). posts ++ two.between) one.is ∙ append_assoc old one.between two.between;
}

pub HasWatched-refl : (seat : SeatView) → HasWatched seat seat
HasWatched-refl seat = record { config = refl; node = refl; actor = refl; watched = Watched-refl seat.config seat.node seat.actor seat.seen }

pub HasWatched-then : (a b c : SeatView) → HasWatched a b → HasWatched b c → HasWatched a c
HasWatched-then a b c one two = record {
  config = two.config ∙ one.config;
  node = two.node ∙ one.node;
  actor = two.actor ∙ one.actor;
  watched =
      Watched-then a.config a.node a.actor a.seen b.seen c.seen one.watched
      (subst (λ (x : ℕ). Watched a.config a.node x b.seen c.seen) one.actor
      (subst (λ (i : ℕ). Watched a.config i b.actor b.seen c.seen) one.node (subst (λ (d : Numbers). Watched d b.node b.actor b.seen c.seen) one.config two.watched)));
}
