-- What a liar has said, with one lie more.
use Rattle.std.proofs.Common.{◌≡◌, ◌<◌, ◌≤◌, ℕ, List, [], ◌∷◌, length, refl, arith, length-append}
use Rattle.std.proofs.lemmas.List.Elements.{All-push}
use Rattle.hb_base.specs.Limits.{most_lies, longest_lie}
use Rattle.hb_wire.specs.declared.post.Lie.{Lie}
use Rattle.hb_wire.specs.declared.vote.To.{To}
use Rattle.liar_cast.specs.Lies.{LiesView, IsWithinLimits, with_lie}

pub within_with_lie : (lies : LiesView) (actor : ℕ) (to : To) (bytes : List ℕ) → IsWithinLimits lies
    → lies.taken < most_lies → length bytes ≤ longest_lie → IsWithinLimits (with_lie lies actor to bytes)
within_with_lie lies actor to bytes within room short =
    let lie : Lie = record { node = lies.node; actor = actor; to = to; bytes = bytes } in
    record {
      node = All-push (λ x. x.node ≡ lies.node) lies.waiting lie within.node refl;
      short = All-push (λ x. length x.bytes ≤ longest_lie) lies.waiting lie within.short short;
      counted = omega (arith, within.counted, length-append lies.waiting (lie ∷ []));
      few = omega (arith, room);
    }
