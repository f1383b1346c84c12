-- In a legal history only liars contradict themselves.
use Rattle.std.proofs.Common.{◌≡◌, ℕ, suc, ◌+◌, inl, inr, Bool, true, false, ◌==◌, ◌&&◌, not, bytes_eq, List, [], ◌∷◌, ◌++◌, Contains, Option, None, Some, length, if◌then◌else◌, slice_get, zero, refl, sym, ap, subst, ◌∙◌, arith, add-one}
use Rattle.std.specs.Option.{is_some, option_map, option_to_list}
use Rattle.std.specs.List.{list_any, filter_map, range_with_len, cons_option}
use Rattle.std.specs.Cmp.Lexicographic.{bytes_decides}
use Rattle.std.proofs.lemmas.Bool.{and_parts, both_ways, eqb-true, eq-eqb, true_from_ne_false}
use Rattle.std.proofs.lemmas.Option.{option_and_then_some, same_Some}
use Rattle.std.proofs.lemmas.List.Elements.{filter_map-append}
use Rattle.hb_base.specs.Numbers.{Numbers, AreSound}
use Rattle.hb_base.specs.NodeSet.{is_in}
use Rattle.merkle_branch.specs.declared.Branch.{Branch}
use Rattle.merkle_branch.specs.Digests.{tree_root}
use Rattle.rs_shards.specs.Completing.{encoded}
use Rattle.rs_shards.proofs.Encodings.{encoding-only}
use Rattle.hb_wire.specs.declared.vote.Vote.{Vote}
use Rattle.hb_wire.specs.declared.vote.Vote.TheVariants.{Val, Echo, Ready, Delivered, Est, Bval, Aux, Conf, Pick, Coin, Decided, Propose, NoMore, Closed}
use Rattle.hb_wire.specs.declared.post.Post.{Post}
use Rattle.hb_wire.proofs.Equality.{one_vote}
use Rattle.hb_rules.specs.Claims.{is_val_to, is_any_echo, is_any_ready, is_any_delivery, is_any_decision, is_any_proposal, is_any_closing}
use Rattle.hb_rules.specs.Code.{data_count}
use Rattle.hb_rules.specs.Marks.{is_any_est, is_any_aux, is_any_conf, is_any_pick, is_any_coin}
use Rattle.hb_rules.specs.Hearing.{Hearing, heard_in, own_in}
use Rattle.hb_rules.specs.History.{IsLegal}
use Rattle.hb_rules.specs.Rules.{MayCast}
use Rattle.hb_rules.specs.Same.{same_vote}
use Rattle.hb_rules.proofs.Lists.{source_of, at_contains}
use Rattle.hb_rules.proofs.FirstShards.{data_count-some}
use Rattle.hb_rules.proofs.Cast.{cast_stands, WasAllowed, was_allowed, said_later, IsOfDesk-proposal, desk_cast}
use Rattle.hb_rules.proofs.Once.{cast_once}
use Rattle.accuse.specs.declared.accusation.Accusation.{Accusation}
use Rattle.accuse.specs.Conflicts.{excludes, show_two_roots, conflicts}
use Rattle.accuse.specs.Accused.{said, said_at, contradict, first_against, first_contradiction, accusation, accused}
use Rattle.accuse.proofs.Least.{least_some}
use Rattle.accuse.proofs.Places.{if_some, share_place, are_rivals}
use Rattle.accuse.proofs.Said.{said_is}
use Rattle.accuse.proofs.Against.{either_true, not_true}

-- ---- votes that a correct actor casts once

-- what passes a test of one number passes that of an equal one, and so it is with two numbers
in_epoch : (test : ℕ → Vote → Bool) (d e : ℕ) (own : List Vote) → (d == e) ≡ true → list_any (test e) own ≡ list_any (test d) own
in_epoch test d e own h = ap (λ (k : ℕ). list_any (test k) own) (sym (eqb-true d e h))

in_round : (test : ℕ → ℕ → Vote → Bool) (d e s r : ℕ) (own : List Vote) → ((d == e) && (s == r)) ≡ true
    → list_any (test e r) own ≡ list_any (test d s) own
in_round test d e s r own h =
    let parts = and_parts (d == e) (s == r) h in
    let epochs : d ≡ e = eqb-true d e parts.0 in
    let rounds : s ≡ r = eqb-true s r parts.1 in
    sym (λ k. list_any (test (epochs k) (rounds k)) own)

-- a vote that another excludes may be cast only where no vote is that the other excludes
limited : (c : Numbers) (i x : ℕ) (own : List Vote) (heard : List Hearing) (v w : Vote) → excludes v w ≡ true → MayCast c i x own heard w
    → list_any (excludes v) own ≡ false
unfolding excludes
limited c i x own heard (Val e m root shard branch) (Val d t other piece path) h (inl may) =
    in_round is_val_to d e t m own h ∙ may.1.2
limited c i x own heard (Val e m root shard branch) (Val d t other piece path) h (inr may) = absurd may.1
limited c i x own heard (Val e m root shard branch) w h may = absurd (cc (h))
limited c i x own heard (Echo e root shard branch) (Echo d other piece path) h (inl may) =
    in_epoch is_any_echo d e own h ∙ may.1.2
limited c i x own heard (Echo e root shard branch) (Echo d other piece path) h (inr may) = absurd may.1
limited c i x own heard (Echo e root shard branch) w h may = absurd (cc (h))
limited c i x own heard (Ready e root) (Ready d other) h (inl may) =
    in_epoch is_any_ready d e own (if_some (d == e) other h) ∙ may.1.1
limited c i x own heard (Ready e root) (Ready d other) h (inr may) = absurd may.1
limited c i x own heard (Ready e root) w h may = absurd (cc (h))
limited c i x own heard (Delivered e value) (Delivered d other) h (inl may) =
    in_epoch is_any_delivery d e own (if_some (d == e) other h) ∙ may.1.1
limited c i x own heard (Delivered e value) (Delivered d other) h (inr may) = absurd may.1
limited c i x own heard (Delivered e value) w h may = absurd (cc (h))
limited c i x own heard (Est e r bit) (Est d s other) h (inl may) =
    in_round is_any_est d e s r own h ∙ may.1.2
limited c i x own heard (Est e r bit) (Est d s other) h (inr may) = absurd may.1
limited c i x own heard (Est e r bit) w h may = absurd (cc (h))
limited c i x own heard (Aux e r bit) (Aux d s other) h (inl may) =
    in_round is_any_aux d e s r own h ∙ may.1.3
limited c i x own heard (Aux e r bit) (Aux d s other) h (inr may) = absurd may.1
limited c i x own heard (Aux e r bit) w h may = absurd (cc (h))
limited c i x own heard (Conf e r vals) (Conf d s others) h (inl may) =
    in_round is_any_conf d e s r own h ∙ may.1.3
limited c i x own heard (Conf e r vals) (Conf d s others) h (inr may) = absurd may.1
limited c i x own heard (Conf e r vals) w h may = absurd (cc (h))
limited c i x own heard (Pick e r vals) (Pick d s others) h (inl may) =
    in_round is_any_pick d e s r own h ∙ may.1.2
limited c i x own heard (Pick e r vals) (Pick d s others) h (inr may) = absurd may.1
limited c i x own heard (Pick e r vals) w h may = absurd (cc (h))
limited c i x own heard (Coin e r share salt branch) (Coin d s other sugar path) h (inl may) =
    in_round is_any_coin d e s r own h ∙ may.1.5
limited c i x own heard (Coin e r share salt branch) (Coin d s other sugar path) h (inr may) = absurd may.1
limited c i x own heard (Coin e r share salt branch) w h may = absurd (cc (h))
limited c i x own heard (Decided e bit) (Decided d other) h (inl may) =
    in_epoch is_any_decision d e own (if_some (d == e) other h) ∙ may.1.1
limited c i x own heard (Decided e bit) (Decided d other) h (inr may) = absurd may.1
limited c i x own heard (Decided e bit) w h may = absurd (cc (h))
limited c i x own heard (Propose e value) (Propose d other) h (inr may) =
    in_epoch is_any_proposal d e own (if_some (d == e) other h) ∙ may.1.2
limited c i x own heard (Propose e value) (Propose d other) h (inl may) = absurd may.1
limited c i x own heard (Propose e value) w h may = absurd (cc (h))
limited c i x own heard (Closed e list) (Closed d others) h (inr may) =
    in_epoch is_any_closing d e own (if_some (d == e) others h) ∙ may.1.2
limited c i x own heard (Closed e list) (Closed d others) h (inl may) = absurd may.1
limited c i x own heard (Closed e list) w h may = absurd (cc (h))
limited c i x own heard (Bval e r bit) w h may = absurd (cc (h))
limited c i x own heard (NoMore e) w h may = absurd (cc (h))

-- a correct actor casts one of the votes that exclude each other
one_of_them : (c : Numbers) (i x : ℕ) → is_in c.liars i ≡ false → (history : List Post) → IsLegal c history → (v w : Vote)
    → Contains (own_in c i x history) v → Contains (own_in c i x history) w → excludes v w ≡ true → v ≡ w
one_of_them c i x correct history legal v w first second excluded =
    let one = share_place 0 v w excluded in
    cast_once c (excludes v) (record { first = λ i x own heard vote marked may. limited c i x own heard v vote marked may }) i x correct history legal v w
    first second (are_rivals 0 0 v v one.place one.first one.first).excluded excluded

-- ---- roots

-- the root is that of a value that the node's desk has proposed
record IsRootOf (c : Numbers) (history : List Post) (i e : ℕ) (root : List ℕ) : Type 0 where
  value : List ℕ
  proposed : Contains (own_in c i c.n history) (Propose e value)
  root_is : tree_root (encoded c.n (data_count c) value) ≡ root

root_shown : (c : Numbers) (i x : ℕ) → AreSound c → is_in c.liars i ≡ false → (history : List Post) → IsLegal c history → (e m : ℕ)
    (root shard : List ℕ) (branch : Branch) → Contains (own_in c i x history) (Val e m root shard branch) → IsRootOf c history i e root
root_shown c i x sound correct history legal e m root shard branch stands = by (was_allowed c i x correct history legal (Val e m root shard branch) stands)
  where
    by : WasAllowed c i x history (Val e m root shard branch) → IsRootOf c history i e root
    by was = at was.may
      where
        at : MayCast c i x (own_in c i x was.before) (heard_in c i x was.before) (Val e m root shard branch) → IsRootOf c history i e root
        at (inr may) = absurd may.1
        at (inl may) =
            let source = may.1.1 in
            let coded = source.coded in
            record {
              value = source.value;
              proposed =
                  said_later c i x i c.n history (Val e m root shard branch) (Propose e source.value) was
                  (desk_cast c i x i (Propose e source.value) was.before (IsOfDesk-proposal c.n e source.value) source.proposed);
              root_is =
                  ap tree_root (sym (encoding-only c.n (data_count c) source.value coded.shards (data_count-some c sound)
                  (omega arith) (omega (arith, sound.nodes.1)) coded.encoding)) ∙ coded.root_is;
            }

-- a correct desk proposes one value for an epoch
one_value : (c : Numbers) (i e : ℕ) → is_in c.liars i ≡ false → (history : List Post) → IsLegal c history → (value other : List ℕ)
    → Contains (own_in c i c.n history) (Propose e value) → Contains (own_in c i c.n history) (Propose e other) → value ≡ other
unfolding excludes
one_value c i e correct history legal value other first second =
    let same : Propose e value ≡ Propose e other =
    one_of_them c i c.n correct history legal (Propose e value) (Propose e other) first second
    (ap (λ (b : Bool). is_some (if b then Some other else None)) (eq-eqb e e refl)) in
    cc (same)

no_two_roots : (c : Numbers) (i x : ℕ) → AreSound c → is_in c.liars i ≡ false → (history : List Post) → IsLegal c history → (v w : Vote)
    → Contains (own_in c i x history) v → Contains (own_in c i x history) w → show_two_roots v w ≡ true → ⊥
unfolding show_two_roots
no_two_roots c i x sound correct history legal (Val e m root shard branch) (Val d t other piece path) first second shown =
    let parts = and_parts (e == d) (not (bytes_eq root other)) shown in
    let one = root_shown c i x sound correct history legal e m root shard branch first in
    let two = root_shown c i x sound correct history legal d t other piece path second in
    let proposed : Contains (own_in c i c.n history) (Propose e two.value) =
    subst (λ (k : ℕ). Contains (own_in c i c.n history) (Propose k two.value)) (sym (eqb-true e d parts.0)) two.proposed in
    let value : one.value ≡ two.value = one_value c i e correct history legal one.value two.value one.proposed proposed in
    let same : root ≡ other =
    sym one.root_is ∙ ap (λ (bytes : List ℕ). tree_root (encoded c.n (data_count c) bytes)) value ∙ two.root_is in
    both_ways (bytes_eq root other) (not_true (bytes_eq root other) parts.1) ((bytes_decides root other).1 same)
no_two_roots c i x sound correct history legal (Val e m root shard branch) w first second shown = cc (shown)
no_two_roots c i x sound correct history legal v w first second shown = cc (shown)

-- ---- accusations

no_conflict : (c : Numbers) (i x : ℕ) → AreSound c → is_in c.liars i ≡ false → (history : List Post) → IsLegal c history → (v w : Vote)
    → Contains (own_in c i x history) v → Contains (own_in c i x history) w → conflicts v w ≡ true → ⊥
no_conflict c i x sound correct history legal v w first second conflict =
    elim (either_true (show_two_roots v w) (excludes v w && not (same_vote v w)) conflict) [
      | inl roots ↦ no_two_roots c i x sound correct history legal v w first second roots
      | inr votes ↦
          let parts = and_parts (excludes v w) (not (same_vote v w)) votes in
          both_ways (same_vote v w) (not_true (same_vote v w) parts.1)
          ((one_vote v w).1 (one_of_them c i x correct history legal v w first second parts.0))
    ]

-- what a post of a history says, its actor has cast
said_cast : (c : Numbers) (i : ℕ) (history : List Post) (p : ℕ) (s : ℕ × Vote) → said_at c i history p ≡ Some s
    → Contains (own_in c i s.0 history) s.1
said_cast c i history p s says =
    option_and_then_some (said c i) (slice_get history p) s says (λ post there said.
    let saying = said_is c i post s said in
    cast_stands c i s.0 history post s.1 (at_contains history p post there) (record { from = saying.from; actor = saying.actor; is = saying.spells }))

no_contradiction : (c : Numbers) (i : ℕ) → AreSound c → is_in c.liars i ≡ false → (history : List Post) → IsLegal c history → (p q : ℕ)
    → contradict (said_at c i history p) (said_at c i history q) ≡ true → ⊥
no_contradiction c i sound correct history legal p q at = by (said_at c i history p) refl (said_at c i history q) refl at
  where
    by : (a : Option (ℕ × Vote)) → said_at c i history p ≡ a → (b : Option (ℕ × Vote)) → said_at c i history q ≡ b → contradict a b ≡ true → ⊥
    by None one b two at = cc (at)
    by (Some s) one None two at = cc (at)
    by (Some s) one (Some t) two at =
        let parts = and_parts (s.0 == t.0) (conflicts s.1 t.1) at in
        let there : Contains (own_in c i s.0 history) t.1 =
        subst (λ (x : ℕ). Contains (own_in c i x history) t.1) (sym (eqb-true s.0 t.0 parts.0)) (said_cast c i history q t two) in
        no_conflict c i s.0 sound correct history legal s.1 t.1 (said_cast c i history p s one) there parts.1

-- an accusation names the node, and two posts of it that contradict each other
record IsFounded (c : Numbers) (history : List Post) (i : ℕ) (a : Accusation) : Type 0 where
  named : a.node ≡ i
  p : ℕ
  q : ℕ
  posts : contradict (said_at c i history p) (said_at c i history q) ≡ true

is_founded : (c : Numbers) (history : List Post) (i : ℕ) (a : Accusation) → accusation c history i ≡ Some a → IsFounded c history i a
unfolding accusation first_against
is_founded c history i a is =
    option_and_then_some (λ q. option_map (λ p. record { node = i; first = p; second = q }) (first_against c i history q))
    (first_contradiction c i history (length history)) a is (λ q there found. by q (first_against c i history q) refl found)
  where
    by : (q : ℕ) (o : Option ℕ) → first_against c i history q ≡ o → option_map (λ p. record { node = i; first = p; second = q }) o ≡ Some a
        → IsFounded c history i a
    by q None none found = absurd (cc (found))
    by q (Some p) first found =
        let same : record { node = i; first = p; second = q } ≡ a = same_Some (record { node = i; first = p; second = q }) a found in
        record {
          named = ap (λ (b : Accusation). b.node) (sym same);
          p = p;
          q = q;
          posts = (least_some q (λ r. contradict (said_at c i history r) (said_at c i history q)) p first).passes;
        }

pub only_liars : (c : Numbers) (history : List Post) → AreSound c → IsLegal c history → (a : Accusation) → Contains (accused c history) a
    → is_in c.liars a.node ≡ true
only_liars c history sound legal a stands =
    let source = source_of (accusation c history) (range_with_len 0 c.n) a stands in
    let founded = is_founded c history source.element a source.gives in
    ap (is_in c.liars) founded.named
    ∙ true_from_ne_false (is_in c.liars source.element)
    (λ correct. no_contradiction c source.element sound correct history legal founded.p founded.q founded.posts)

-- ---- the list

range_more : (a k : ℕ) → range_with_len a (suc k) ≡ range_with_len a k ++ (a + k) ∷ []
range_more a zero = let e : a ≡ a + 0 = omega arith in ap (λ (x : ℕ). x ∷ []) e
range_more a (suc k) =
    let e : (a + 1) + k ≡ a + suc k = omega arith in
    ap (λ (xs : List ℕ). a ∷ xs) (range_more (a + 1) k ∙ ap (λ (x : ℕ). range_with_len (a + 1) k ++ x ∷ []) e)

one_more : (o : Option Accusation) → cons_option o [] ≡ option_to_list o
one_more None = refl
one_more (Some a) = refl

-- the accusations of the nodes below one, and its own
pub accused_more : (c : Numbers) (history : List Post) (k : ℕ)
    → filter_map (accusation c history) (range_with_len 0 (k + 1))
    ≡ filter_map (accusation c history) (range_with_len 0 k) ++ option_to_list (accusation c history k)
accused_more c history k =
    let front : List Accusation = filter_map (accusation c history) (range_with_len 0 k) in
    let last : 0 + k ≡ k = omega arith in
    ap (filter_map (accusation c history)) (ap (range_with_len 0) (add-one k) ∙ range_more 0 k)
    ∙ filter_map-append (accusation c history) (range_with_len 0 k) ((0 + k) ∷ [])
    ∙ ap (λ (j : ℕ). front ++ cons_option (accusation c history j) []) last
    ∙ ap (λ (xs : List Accusation). front ++ xs) (one_more (accusation c history k))
