-- What was heard was said, and what was said stays said; and what more nodes have said than lie, a correct one has said.
use Rattle.std.proofs.Common.{◌≡◌, ℕ, ◌+◌, ◌<◌, ◌≤◌, Bool, true, false, ◌&&◌, ◌==◌, List, ◌++◌, Contains, subst, arith}
use Rattle.std.proofs.lemmas.Bool.{eqb-true, and_parts}
use Rattle.hb_base.specs.Counting.{count_nodes}
use Rattle.hb_base.specs.Numbers.{Numbers, AreSound}
use Rattle.hb_base.specs.NodeSet.{is_in}
use Rattle.hb_wire.specs.declared.vote.Vote.{Vote}
use Rattle.hb_wire.specs.declared.post.Post.{Post}
use Rattle.hb_rules.specs.Hearing.{Hearing, heard_in, heard_by, own_in, said_in}
use Rattle.hb_rules.proofs.Among.{Grows, any_stands}
use Rattle.hb_rules.proofs.Counts.{count_nodes-wider, correct_member, shared_correct}
use Rattle.hb_rules.proofs.Lists.{list_any-from}
use Rattle.hb_rules.proofs.Addressed.{AreAddressed}
use Rattle.hb_rules.proofs.Cast.{cast_stays, heard_cast}

-- what a lane of a correct node heard, the lanes of its number have said
pub heard-said : (c : Numbers) (i x : ℕ) (history : List Post) → AreAddressed c history → x < c.n → is_in c.liars i ≡ false
    → Grows (heard_by (heard_in c i x history)) (said_in c x history)
heard-said c i x history addressed lane correct = record {
  grows = λ a test away h.
      let passes : Hearing → Bool = λ g. (g.from == a) && test g.vote in
      let found = any_stands passes (heard_in c i x history) h in
      let parts = and_parts (found.0.from == a) (test found.0.vote) found.2 in
      let cast = heard_cast c i x history found.0 addressed lane correct found.1 (away.away found.0.vote parts.1) in
      list_any-from test (own_in c a x history) found.0.vote
      (subst (λ (b : ℕ). Contains (own_in c b x history) found.0.vote) (eqb-true found.0.from a parts.0) cast) parts.1;
}

-- what was said stays said
pub said-stays : (c : Numbers) (x : ℕ) (history more : List Post) → Grows (said_in c x history) (said_in c x (history ++ more))
said-stays c x history more = record {
  grows = λ a test away h.
      let found = any_stands test (own_in c a x history) h in
      list_any-from test (own_in c a x (history ++ more)) found.0 (cast_stays c a x history more found.0 found.1) found.2;
}

-- a correct node of the run whose actor x has cast a vote that passes the test for this node
pub record IsSaidBy (c : Numbers) (x : ℕ) (history : List Post) (test : ℕ → Vote → Bool) (a : ℕ) : Type 0 where
  pub known : a < c.n
  pub correct : is_in c.liars a ≡ false
  pub said : said_in c x history a (test a) ≡ true

pub few_liars : (c : Numbers) → AreSound c → count_nodes c.n (is_in c.liars) ≤ c.f
few_liars c sound = omega (arith, sound.few, count_nodes-wider c.n 16 (is_in c.liars) sound.nodes.1)

-- of more than f nodes that have said something one is correct
pub correct_said : (c : Numbers) (x : ℕ) (history : List Post) (test : ℕ → Vote → Bool) → AreSound c
    → c.f + 1 ≤ count_nodes c.n (λ a. said_in c x history a (test a))
    → (a : ℕ) × IsSaidBy c x history test a
correct_said c x history test sound many =
    let found = correct_member c.n c.f (is_in c.liars) (λ a. said_in c x history a (test a)) (few_liars c sound) (omega (arith, many)) in
    (found.0, record { known = found.1; correct = found.3; said = found.2 })

-- two quorums have said two things: a correct node is in both
pub both_said : (c : Numbers) (x : ℕ) (history : List Post) (one other : ℕ → Vote → Bool) → AreSound c
    → c.n + c.f < count_nodes c.n (λ a. said_in c x history a (one a)) + count_nodes c.n (λ a. said_in c x history a (other a))
    → (a : ℕ) × IsSaidBy c x history one a × IsSaidBy c x history other a
both_said c x history one other sound many =
    let found =
    shared_correct c.n c.f (is_in c.liars) (λ a. said_in c x history a (one a)) (λ a. said_in c x history a (other a)) (few_liars c sound) many in
    (found.0, record { known = found.1; correct = found.4; said = found.2 }, record { known = found.1; correct = found.4; said = found.3 })
