-- What a correct lane has heard gives no coin but the dealt one, where no two hashed strings share a digest.
use Rattle.std.proofs.Common.{◌≡◌, ℕ, ◌<◌, Bool, true, ◌&&◌, nat_lt, inl, inr, List, ◌++◌, Contains, sym, ap, ◌∙◌, subst}
use Rattle.std.proofs.lemmas.Bool.{ltb-true, and_parts}
use Rattle.hb_base.specs.Numbers.{Numbers, AreSound}
use Rattle.coin_deal.specs.Deal.{IsCoin, coin_root, dealt_coin}
use Rattle.coin_deal.specs.Heard.{HeardShare, IsGood, coin_through, Collides}
use Rattle.coin_deal.proofs.OneCoin.{only_coin, dealt, in_tree}
use Rattle.hb_wire.specs.declared.vote.Vote.TheVariants.{Coin}
use Rattle.hb_wire.specs.declared.post.Post.{Post}
use Rattle.hb_rules.specs.Hearing.{Hearing, heard_in, is_within}
use Rattle.hb_rules.specs.Coins.{hearing_of_share, HasCoin}
use Rattle.hb_rules.specs.Ledger.{IsCorrect}
use Rattle.hb_rules.specs.Strings.{IsHashed, NoCollision}
use Rattle.hb_rules.proofs.Cast.{heard_from, heard_stays}

-- a share that was heard is of a coin of the run
share_within : (c : Numbers) (i j e r : ℕ) (a : HeardShare) (history : List Post) → j < c.n
    → Contains (heard_in c i j history) (hearing_of_share e r a) → IsCoin c e j r
share_within c i j e r a history lane stands =
    let source = heard_from c i j history (hearing_of_share e r a) stands in
    let vote_is : source.2.vote ≡ Coin e r a.share a.salt a.branch = ap (λ (h : Hearing). h.vote) source.2.hearing_is in
    let within : (nat_lt e c.epochs && nat_lt r c.rounds) ≡ true = ap (is_within c) (sym vote_is) ∙ source.2.within in
    let parts = and_parts (nat_lt e c.epochs) (nat_lt r c.rounds) within in
    record { epoch = ltb-true e c.epochs parts.0; lane = lane; round = ltb-true r c.rounds parts.1 }

-- a share that was heard doesn't collide with the deal
no_collision : (c : Numbers) (i j e r : ℕ) (a : HeardShare) (before later : List Post) → AreSound c → j < c.n → IsCorrect c i
    → NoCollision c (before ++ later) → IsGood (coin_root c e j r) c.n a → Contains (heard_in c i j before) (hearing_of_share e r a)
    → Collides c e j r a → ⊥
no_collision c i j e r a before later sound lane correct premise good stands collides =
    let collision = in_tree c e j r a sound.nodes.1 good.node collides in
    let coin : IsCoin c e j r = share_within c i j e r a before lane stands in
    collision.differ
    (premise.apart collision.one collision.other (IsHashed.dealt (record { e = e; j = j; r = r; coin = coin; found = collision.one_in }))
    (IsHashed.shown i j a.node e r a.share a.salt a.branch correct (heard_stays c i j before later (hearing_of_share e r a) stands) collision.other_in)
    collision.same_digest)

pub coin_dealt : (c : Numbers) (i j e r : ℕ) (b : Bool) (before later : List Post) → AreSound c → j < c.n → IsCorrect c i
    → NoCollision c (before ++ later) → HasCoin c e j r (heard_in c i j before) b → b ≡ dealt_coin c e j r
coin_dealt c i j e r b before later sound lane correct premise coin =
    let given : b ≡ coin_through coin.shares = only_coin (coin_root c e j r) c.n coin.shares b sound.nodes.1 coin.choice.good coin.coin in
    elim (dealt c e j r coin.shares sound.nodes.1 coin.choice) [
      | inl is ↦ given ∙ is
      | inr some ↦
          let good : IsGood (coin_root c e j r) c.n some.1 = subst (IsGood (coin_root c e j r) c.n) some.3 (coin.choice.good.good some.0 some.1 some.2) in
          let stands : Contains (heard_in c i j before) (hearing_of_share e r some.1) =
          subst (λ (a : HeardShare). Contains (heard_in c i j before) (hearing_of_share e r a)) some.3 (coin.stand some.0 some.1 some.2) in
          absurd (no_collision c i j e r some.1 before later sound lane correct premise good stands some.4)
    ]
