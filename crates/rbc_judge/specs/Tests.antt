-- What a lane may cast in a broadcast, by tests. The letters: node i of a run with config c, epoch e, target m.
use Rattle.std.specs.Prelude.{ℕ, ◌+◌, ◌*◌, Bool, false, not, ◌&&◌, ◌==◌, nat_lt, nat_le, List, Option, None, Some}
use Rattle.hb_base.specs.NodeSet.{is_in}
use Rattle.hb_base.specs.Numbers.{Numbers}
use Rattle.hb_wire.specs.declared.vote.Vote.{Vote}
use Rattle.rs_shards.specs.Completing.{encoded}
use Rattle.hb_rules.specs.BroadcastRows.{val_of, value_of}
use Rattle.hb_rules.specs.Claims.{proposed, readied, are_these}
use Rattle.hb_rules.specs.Code.{data_count, ready_count}
use Rattle.hb_rules.specs.Hearing.{Hearing, heard_by}
use Rattle.hb_rules.specs.Same.{same_vote}

-- whether a vote is the Val to node m of this value, if there is one
abbrev pub is_part : Numbers → ℕ → ℕ → Option (List ℕ) → Vote → Bool
is_part c e m None vote = false
is_part c e m (Some value) vote = same_vote (val_of e m (encoded c.n (data_count c) value)) vote

-- whether it is of a value that the own desk proposes in a hearing
abbrev pub is_source : Numbers → ℕ → ℕ → ℕ → Vote → Hearing → Bool
is_source c i e m vote h = (h.from == i) && is_part c e m (proposed e h.vote) vote

-- whether a value is delivered under a root: 2f + 1 nodes are ready, and the shards rebuild to the value
abbrev pub is_carried : Numbers → ℕ → List Hearing → List ℕ → List ℕ → Bool
is_carried c e heard value root = nat_le (2 * c.f + 1) (ready_count c.n e root (heard_by heard)) && are_these value (value_of c e heard root)

-- whether it is delivered under the root that is given, if one is
abbrev pub is_carried_by : Numbers → ℕ → List Hearing → List ℕ → Option (List ℕ) → Bool
is_carried_by c e heard value None = false
is_carried_by c e heard value (Some root) = is_carried c e heard value root

-- whether it is delivered under the root for which a node that is no liar is ready in a hearing
abbrev pub is_delivered_by : Numbers → ℕ → List Hearing → List ℕ → Hearing → Bool
is_delivered_by c e heard value h = (nat_lt h.from c.n && not (is_in c.liars h.from)) && is_carried_by c e heard value (readied e h.vote)
