-- The two laws of votes: what is read is spelled so, and what is spelled so is read.
use Rattle.std.proofs.Common.{◌≡◌, ℕ, suc, ◌<◌, ◌≤◌, Bool, true, false, cond, ltb, eqb, ◌&&◌, ◌||◌, List, [], ◌∷◌, ◌++◌, length, Option, Some, None}
use Rattle.std.proofs.Common.{refl, sym, ap, subst, ◌∙◌, arith}
use Rattle.std.specs.Option.{option_map}
use Rattle.std.specs.Prelude.{IfSome, IfOk, Result, Ok, Err}
use Rattle.std.specs.List.{flat_map, list_all, AllByRecursion}
use Rattle.std.proofs.lemmas.Bool.{ltb-true, lt-ltb, eqb-true}
use Rattle.std.proofs.lemmas.Bool.Decides.{nat_tests}
use Rattle.std.proofs.lemmas.List.{append-nil, nil_from_length, append_cancel_right}
use Rattle.hb_base.specs.ByteLists.{AreBytes}
use Rattle.hb_wire.specs.declared.vote.Vote.{Vote}
use Rattle.hb_wire.specs.declared.vote.Vote.TheVariants.{Val, Echo, Ready, Delivered, Est, Bval, Aux, Pick, Coin, Decided, Conf, Propose, NoMore}
use Rattle.hb_wire.specs.declared.vote.Vote.TheVariants.{Closed}
use Rattle.hb_base.specs.Limits.{most_epochs, most_rounds, longest_shard, longest_value}
use Rattle.hb_wire.specs.Votes.{row, kind_of, epoch_of, first_version, field_bytes, FieldFits, IsVote, spelling}
use Rattle.hb_wire.specs.Votes.{Spells}
use Rattle.hb_wire.specs.Reading.{◌>>=◌, made, val_at, echo_at, ready_at}
use Rattle.hb_wire.specs.Reading.{delivered_at, est_at, bval_at, aux_at, pick_at, conf_at, coin_at, decided_at, propose_at, no_more_at, closed_at}
use Rattle.hb_wire.specs.Reading.{Shows, broadcast_at, agreement_at, desk_at, fields_at, front_vote, whole_vote, vote_at}
use Rattle.hb_wire.proofs.FieldLemmas.{IsBytes, bytes_at, bytes_from, bytes_pass, bytes_passed, Reads, some_is, bind_some, test_some, reads_pair}
use Rattle.hb_wire.proofs.FieldLemmas.{reads_ended, reads_byte, reads_bit, reads_set, reads_block, reads_sized}
use Rattle.hb_wire.proofs.PathLemmas.{reads_path}
use Rattle.hb_wire.proofs.ListLemmas.{reads_list}

-- ---- the fields of one kind

-- the vote has this row, and its fields are spelled so
pub record HasRow (n version kind epoch : ℕ) (bytes : List ℕ) (vote : Vote) : Type 0 where
  pub kind_is : kind_of vote ≡ kind
  pub epoch_is : epoch_of vote ≡ epoch
  pub begun : first_version vote ≤ version
  pub fields : AllByRecursion (FieldFits n) (row vote).fields
  pub parts : bytes ≡ flat_map field_bytes (row vote).fields

pub record Front (n version kind epoch : ℕ) (bytes : List ℕ) (vote : Vote) (rest : List ℕ) : Type 0 where
  pub has_row : HasRow n version kind epoch (flat_map field_bytes (row vote).fields) vote
  pub parts : bytes ≡ flat_map field_bytes (row vote).fields ++ rest

-- what is read of bytes is a vote of this kind and epoch, and they begin with its fields
abbrev Takes : ℕ → ℕ → ℕ → ℕ → (List ℕ → Option (Vote × List ℕ)) → Type 0
Takes n version kind epoch read =
    (bytes : List ℕ) (vote : Vote) (rest : List ℕ) → IsBytes bytes → read bytes ≡ Some (vote, rest) → Front n version kind epoch bytes vote rest

made_takes : {X : Type 0} {p : List ℕ → Option (X × List ℕ)} {f : X → List ℕ} {F : X → Type 0} (h : X → Vote) → Reads p f F
    → (n version kind epoch : ℕ)
    → ((x : X) → F x → HasRow n version kind epoch (f x) (h x))
    → Takes n version kind epoch (made h p)
made_takes {X} {p} {f} {F} h reads n version kind epoch shape bytes vote rest fits e =
    let a = bind_some (p bytes) (λ x. Some (h x.0, x.1)) (vote, rest) e in
    let t = reads.takes bytes a.0.0 a.0.1 fits a.1 in
    let s = shape a.0.0 t.0 in
    let whole : Vote × List ℕ = (h a.0.0, a.0.1) in
    let front : Front n version kind epoch bytes (h a.0.0) a.0.1 = record {
      has_row = record { kind_is = s.kind_is; epoch_is = s.epoch_is; begun = s.begun; fields = s.fields; parts = refl };
      parts = t.1 ∙ ap (λ (bs : List ℕ). bs ++ a.0.1) s.parts;
    }
    in
    subst (λ (w : Vote × List ℕ). Front n version kind epoch bytes w.0 w.1) (some_is whole (vote, rest) a.2) front

made_again : {X : Type 0} {p : List ℕ → Option (X × List ℕ)} {f : X → List ℕ} {F : X → Type 0} (h : X → Vote) → Reads p f F
    → (x : X) (rest : List ℕ) → F x → made h p (f x ++ rest) ≡ Some (h x, rest)
made_again {X} h reads x rest fits = ap (λ (r : Option (X × List ℕ)). r >>= λ y. Some (h y.0, y.1)) (reads.again x rest fits)

val_takes : (n version epoch : ℕ) → 1 ≤ version → Takes n version 1 epoch (val_at n epoch)
unfolding val_at
val_takes n version epoch begun =
    made_takes (λ x. Val epoch x.0 x.1.0 x.1.1.0 x.1.1.1.0) (reads_pair (reads_byte n) (reads_pair (reads_block 32) (reads_pair (reads_sized 1 longest_shard (omega arith)) (reads_pair (reads_path n) reads_ended)))) n version 1 epoch
    (λ x fits. record { kind_is = refl; epoch_is = refl; begun = begun; fields = fits; parts = refl })

echo_takes : (n version epoch : ℕ) → 1 ≤ version → Takes n version 2 epoch (echo_at n epoch)
unfolding echo_at
echo_takes n version epoch begun =
    made_takes (λ x. Echo epoch x.0 x.1.0 x.1.1.0) (reads_pair (reads_block 32) (reads_pair (reads_sized 1 longest_shard (omega arith)) (reads_pair (reads_path n) reads_ended))) n version 2 epoch
    (λ x fits. record { kind_is = refl; epoch_is = refl; begun = begun; fields = fits; parts = refl })

ready_takes : (n version epoch : ℕ) → 1 ≤ version → Takes n version 3 epoch (ready_at epoch)
unfolding ready_at
ready_takes n version epoch begun =
    made_takes (λ x. Ready epoch x.0) (reads_pair (reads_block 32) reads_ended) n version 3 epoch
    (λ x fits. record { kind_is = refl; epoch_is = refl; begun = begun; fields = fits; parts = refl })

delivered_takes : (n version epoch : ℕ) → 1 ≤ version → Takes n version 4 epoch (delivered_at epoch)
unfolding delivered_at
delivered_takes n version epoch begun =
    made_takes (λ x. Delivered epoch x.0) (reads_pair (reads_sized 0 longest_value (omega arith)) reads_ended) n version 4 epoch
    (λ x fits. record { kind_is = refl; epoch_is = refl; begun = begun; fields = fits; parts = refl })

est_takes : (n version epoch : ℕ) → 1 ≤ version → Takes n version 5 epoch (est_at epoch)
unfolding est_at
est_takes n version epoch begun =
    made_takes (λ x. Est epoch x.0 x.1.0) (reads_pair (reads_byte most_rounds) (reads_pair reads_bit reads_ended)) n version 5 epoch
    (λ x fits. record { kind_is = refl; epoch_is = refl; begun = begun; fields = fits; parts = refl })

bval_takes : (n version epoch : ℕ) → 1 ≤ version → Takes n version 6 epoch (bval_at epoch)
unfolding bval_at
bval_takes n version epoch begun =
    made_takes (λ x. Bval epoch x.0 x.1.0) (reads_pair (reads_byte most_rounds) (reads_pair reads_bit reads_ended)) n version 6 epoch
    (λ x fits. record { kind_is = refl; epoch_is = refl; begun = begun; fields = fits; parts = refl })

aux_takes : (n version epoch : ℕ) → 1 ≤ version → Takes n version 7 epoch (aux_at epoch)
unfolding aux_at
aux_takes n version epoch begun =
    made_takes (λ x. Aux epoch x.0 x.1.0) (reads_pair (reads_byte most_rounds) (reads_pair reads_bit reads_ended)) n version 7 epoch
    (λ x fits. record { kind_is = refl; epoch_is = refl; begun = begun; fields = fits; parts = refl })

pick_takes : (n version epoch : ℕ) → 1 ≤ version → Takes n version 8 epoch (pick_at epoch)
unfolding pick_at
pick_takes n version epoch begun =
    made_takes (λ x. Pick epoch x.0 x.1.0) (reads_pair (reads_byte most_rounds) (reads_pair reads_set reads_ended)) n version 8 epoch
    (λ x fits. record { kind_is = refl; epoch_is = refl; begun = begun; fields = fits; parts = refl })

coin_takes : (n version epoch : ℕ) → 1 ≤ version → Takes n version 9 epoch (coin_at n epoch)
unfolding coin_at
coin_takes n version epoch begun =
    made_takes (λ x. Coin epoch x.0 x.1.0 x.1.1.0 x.1.1.1.0) (reads_pair (reads_byte most_rounds) (reads_pair (reads_byte 256) (reads_pair (reads_block 16) (reads_pair (reads_path n) reads_ended)))) n version 9 epoch
    (λ x fits. record { kind_is = refl; epoch_is = refl; begun = begun; fields = fits; parts = refl })

decided_takes : (n version epoch : ℕ) → 1 ≤ version → Takes n version 10 epoch (decided_at epoch)
unfolding decided_at
decided_takes n version epoch begun =
    made_takes (λ x. Decided epoch x.0) (reads_pair reads_bit reads_ended) n version 10 epoch
    (λ x fits. record { kind_is = refl; epoch_is = refl; begun = begun; fields = fits; parts = refl })

conf_takes : (n version epoch : ℕ) → 2 ≤ version → Takes n version 11 epoch (conf_at epoch)
unfolding conf_at
conf_takes n version epoch begun =
    made_takes (λ x. Conf epoch x.0 x.1.0) (reads_pair (reads_byte most_rounds) (reads_pair reads_set reads_ended)) n version 11 epoch
    (λ x fits. record { kind_is = refl; epoch_is = refl; begun = begun; fields = fits; parts = refl })

propose_takes : (n version epoch : ℕ) → 1 ≤ version → Takes n version 16 epoch (propose_at epoch)
unfolding propose_at
propose_takes n version epoch begun =
    made_takes (λ x. Propose epoch x.0) (reads_pair (reads_sized 0 longest_value (omega arith)) reads_ended) n version 16 epoch
    (λ x fits. record { kind_is = refl; epoch_is = refl; begun = begun; fields = fits; parts = refl })

no_more_takes : (n version epoch : ℕ) → 1 ≤ version → Takes n version 17 epoch (no_more_at epoch)
unfolding no_more_at
no_more_takes n version epoch begun =
    made_takes (λ x. NoMore epoch) (reads_ended) n version 17 epoch
    (λ x fits. record { kind_is = refl; epoch_is = refl; begun = begun; fields = fits; parts = refl })

closed_takes : (n version epoch : ℕ) → 1 ≤ version → Takes n version 18 epoch (closed_at n epoch)
unfolding closed_at
closed_takes n version epoch begun =
    made_takes (λ x. Closed epoch x.0) (reads_pair (reads_list n) reads_ended) n version 18 epoch
    (λ x fits. record { kind_is = refl; epoch_is = refl; begun = begun; fields = fits; parts = refl })

-- ---- any kind

chosen : (b : Bool) (x y z : Option (Vote × List ℕ)) → cond b x y ≡ z → (G : Type 0) → (b ≡ true → x ≡ z → G) → (b ≡ false → y ≡ z → G) → G
chosen true x y z e G here there = here refl e
chosen false x y z e G here there = there refl e

at_kind : {x y : Option (Vote × List ℕ)} {z : Option (Vote × List ℕ)} (kind k : ℕ) → cond (eqb kind k) x y ≡ z → (G : Type 0) → (kind ≡ k → x ≡ z → G)
    → (y ≡ z → G) → G
at_kind {x} {y} {z} kind k e G here there = chosen (eqb kind k) x y z e G (λ is r. here (eqb-true kind k is) r) (λ _ r. there r)

both_true : (a b : Bool) → (a && b) ≡ true → (a ≡ true) × (b ≡ true)
both_true true b e = (refl, e)
both_true false b e = absurd cc

of_kind : {n version epoch : ℕ} {bytes : List ℕ} {vote : Vote} {rest : List ℕ} (kind k : ℕ) → kind ≡ k → Front n version k epoch bytes vote rest
    → Front n version kind epoch bytes vote rest
of_kind {n} {version} {epoch} {bytes} {vote} {rest} kind k is front = subst (λ j. Front n version j epoch bytes vote rest) (sym is) front

broadcast_takes : (n version kind epoch : ℕ) → 1 ≤ version → Takes n version kind epoch (broadcast_at n kind epoch)
unfolding broadcast_at
broadcast_takes n version kind epoch begun bytes vote rest fits e0 =
    let G = Front n version kind epoch bytes vote rest in
    at_kind kind 1 e0 G (λ is r. of_kind kind 1 is (val_takes n version epoch begun bytes vote rest fits r)) (λ e1.
    at_kind kind 2 e1 G (λ is r. of_kind kind 2 is (echo_takes n version epoch begun bytes vote rest fits r)) (λ e2.
    at_kind kind 3 e2 G (λ is r. of_kind kind 3 is (ready_takes n version epoch begun bytes vote rest fits r)) (λ e3.
    at_kind kind 4 e3 G (λ is r. of_kind kind 4 is (delivered_takes n version epoch begun bytes vote rest fits r)) (λ e4.
    absurd cc))))

agreement_takes : (n version kind epoch : ℕ) → 1 ≤ version → Takes n version kind epoch (agreement_at n version kind epoch)
unfolding agreement_at
agreement_takes n version kind epoch begun bytes vote rest fits e0 =
    let G = Front n version kind epoch bytes vote rest in
    let at_conf : (eqb kind 11 && eqb version 2) ≡ true → conf_at epoch bytes ≡ Some (vote, rest) → G =
    λ both r.
    let is = both_true (eqb kind 11) (eqb version 2) both in
    let second : version ≡ 2 = eqb-true version 2 is.1 in
    of_kind kind 11 (eqb-true kind 11 is.0) (conf_takes n version epoch (omega arith) bytes vote rest fits r)
    in
    at_kind kind 5 e0 G (λ is r. of_kind kind 5 is (est_takes n version epoch begun bytes vote rest fits r)) (λ e1.
    at_kind kind 6 e1 G (λ is r. of_kind kind 6 is (bval_takes n version epoch begun bytes vote rest fits r)) (λ e2.
    at_kind kind 7 e2 G (λ is r. of_kind kind 7 is (aux_takes n version epoch begun bytes vote rest fits r)) (λ e3.
    at_kind kind 8 e3 G (λ is r. of_kind kind 8 is (pick_takes n version epoch begun bytes vote rest fits r)) (λ e4.
    at_kind kind 9 e4 G (λ is r. of_kind kind 9 is (coin_takes n version epoch begun bytes vote rest fits r)) (λ e5.
    at_kind kind 10 e5 G (λ is r. of_kind kind 10 is (decided_takes n version epoch begun bytes vote rest fits r)) (λ e6.
    chosen (eqb kind 11 && eqb version 2) (conf_at epoch bytes) None (Some (vote, rest)) e6 G at_conf (λ _ none. absurd cc)))))))

desk_takes : (n version kind epoch : ℕ) → 1 ≤ version → Takes n version kind epoch (desk_at n kind epoch)
unfolding desk_at
desk_takes n version kind epoch begun bytes vote rest fits e0 =
    let G = Front n version kind epoch bytes vote rest in
    at_kind kind 16 e0 G (λ is r. of_kind kind 16 is (propose_takes n version epoch begun bytes vote rest fits r)) (λ e1.
    at_kind kind 17 e1 G (λ is r. of_kind kind 17 is (no_more_takes n version epoch begun bytes vote rest fits r)) (λ e2.
    at_kind kind 18 e2 G (λ is r. of_kind kind 18 is (closed_takes n version epoch begun bytes vote rest fits r)) (λ e3.
    absurd cc)))

fields_take : (n version kind epoch : ℕ) → 1 ≤ version → (bytes : List ℕ) (vote : Vote) (rest : List ℕ) → IsBytes bytes
    → fields_at n version kind epoch bytes ≡ Some (vote, rest)
    → Front n version kind epoch bytes vote rest
unfolding fields_at
fields_take n version kind epoch begun bytes vote rest fits e =
    let G = Front n version kind epoch bytes vote rest in
    let late : Option (Vote × List ℕ) = cond (ltb kind 16) (agreement_at n version kind epoch bytes) (desk_at n kind epoch bytes) in
    chosen (ltb kind 5) (broadcast_at n kind epoch bytes) late (Some (vote, rest)) e G
    (λ _ r. broadcast_takes n version kind epoch begun bytes vote rest fits r)
    (λ _ r. chosen (ltb kind 16) (agreement_at n version kind epoch bytes) (desk_at n kind epoch bytes) (Some (vote, rest)) r G
    (λ _ s. agreement_takes n version kind epoch begun bytes vote rest fits s)
    (λ _ s. desk_takes n version kind epoch begun bytes vote rest fits s))

-- a vote that fits is read again, whatever follows it
fields_again : (n version : ℕ) (vote : Vote) (rest : List ℕ) → first_version vote ≤ version → version ≤ 2
    → AllByRecursion (FieldFits n) (row vote).fields
    → fields_at n version (kind_of vote) (epoch_of vote) (flat_map field_bytes (row vote).fields ++ rest) ≡ Some (vote, rest)
unfolding fields_at broadcast_at agreement_at desk_at val_at echo_at ready_at delivered_at est_at bval_at aux_at pick_at conf_at coin_at decided_at propose_at no_more_at closed_at
fields_again n version (Val epoch target root shard branch) rest begun built fits =
    made_again (λ x. Val epoch x.0 x.1.0 x.1.1.0 x.1.1.1.0) (reads_pair (reads_byte n) (reads_pair (reads_block 32) (reads_pair (reads_sized 1 longest_shard (omega arith)) (reads_pair (reads_path n) reads_ended)))) (target, (root, (shard, (branch, tt)))) rest fits
fields_again n version (Echo epoch root shard branch) rest begun built fits =
    made_again (λ x. Echo epoch x.0 x.1.0 x.1.1.0) (reads_pair (reads_block 32) (reads_pair (reads_sized 1 longest_shard (omega arith)) (reads_pair (reads_path n) reads_ended))) (root, (shard, (branch, tt))) rest fits
fields_again n version (Ready epoch root) rest begun built fits =
    made_again (λ x. Ready epoch x.0) (reads_pair (reads_block 32) reads_ended) (root, tt) rest fits
fields_again n version (Delivered epoch value) rest begun built fits =
    made_again (λ x. Delivered epoch x.0) (reads_pair (reads_sized 0 longest_value (omega arith)) reads_ended) (value, tt) rest fits
fields_again n version (Est epoch round bit) rest begun built fits =
    made_again (λ x. Est epoch x.0 x.1.0) (reads_pair (reads_byte most_rounds) (reads_pair reads_bit reads_ended)) (round, (bit, tt)) rest fits
fields_again n version (Bval epoch round bit) rest begun built fits =
    made_again (λ x. Bval epoch x.0 x.1.0) (reads_pair (reads_byte most_rounds) (reads_pair reads_bit reads_ended)) (round, (bit, tt)) rest fits
fields_again n version (Aux epoch round bit) rest begun built fits =
    made_again (λ x. Aux epoch x.0 x.1.0) (reads_pair (reads_byte most_rounds) (reads_pair reads_bit reads_ended)) (round, (bit, tt)) rest fits
fields_again n version (Pick epoch round vals) rest begun built fits =
    made_again (λ x. Pick epoch x.0 x.1.0) (reads_pair (reads_byte most_rounds) (reads_pair reads_set reads_ended)) (round, (vals, tt)) rest fits
fields_again n version (Coin epoch round share salt branch) rest begun built fits =
    made_again (λ x. Coin epoch x.0 x.1.0 x.1.1.0 x.1.1.1.0) (reads_pair (reads_byte most_rounds) (reads_pair (reads_byte 256) (reads_pair (reads_block 16) (reads_pair (reads_path n) reads_ended)))) (round, (share, (salt, (branch, tt)))) rest fits
fields_again n version (Decided epoch bit) rest begun built fits =
    made_again (λ x. Decided epoch x.0) (reads_pair reads_bit reads_ended) (bit, tt) rest fits
fields_again n version (Conf epoch round vals) rest begun built fits =
    let second : version ≡ 2 = omega arith in
    rw second (made_again (λ x. Conf epoch x.0 x.1.0) (reads_pair (reads_byte most_rounds) (reads_pair reads_set reads_ended)) (round, (vals, tt)) rest fits)
fields_again n version (Propose epoch value) rest begun built fits =
    made_again (λ x. Propose epoch x.0) (reads_pair (reads_sized 0 longest_value (omega arith)) reads_ended) (value, tt) rest fits
fields_again n version (NoMore epoch) rest begun built fits =
    made_again (λ x. NoMore epoch) (reads_ended) tt rest fits
fields_again n version (Closed epoch list) rest begun built fits =
    made_again (λ x. Closed epoch x.0) (reads_pair (reads_list n) reads_ended) (list, tt) rest fits

front_again : (n version : ℕ) (vote : Vote) (rest : List ℕ) → IsVote n version vote → front_vote n version (spelling vote ++ rest) ≡ Some (vote, rest)
unfolding front_vote
front_again n version vote rest is =
    let early : ltb (epoch_of vote) most_epochs ≡ true = lt-ltb (epoch_of vote) most_epochs is.epoch in
    rw early (fields_again n version vote rest is.begun is.built is.fields)

record FrontTaken (n version : ℕ) (bytes : List ℕ) (vote : Vote) (rest : List ℕ) : Type 0 where
  fits : IsVote n version vote
  parts : bytes ≡ spelling vote ++ rest

front_takes : (n version : ℕ) (bytes : List ℕ) (vote : Vote) (rest : List ℕ) → 1 ≤ version → version ≤ 2 → IsBytes bytes
    → front_vote n version bytes ≡ Some (vote, rest)
    → FrontTaken n version bytes vote rest
unfolding front_vote
front_takes n version [] vote rest begun built fits e = absurd cc
front_takes n version (kind ∷ []) vote rest begun built fits e = absurd cc
front_takes n version (kind ∷ epoch ∷ bytes) vote rest begun built fits e =
    let g = test_some (ltb epoch most_epochs) (fields_at n version kind epoch bytes) (vote, rest) e in
    let early : epoch < most_epochs = ltb-true epoch most_epochs g.0 in
    let front = fields_take n version kind epoch begun bytes vote rest (λ i. fits (suc (suc i))) g.1 in
    let fields = flat_map field_bytes (row vote).fields in
    record {
      fits = record { begun = front.has_row.begun; built = built; epoch = rw front.has_row.epoch_is early; fields = front.has_row.fields };
      parts = ap (λ bs. kind ∷ epoch ∷ bs) front.parts
          ∙ ap (λ k. k ∷ epoch ∷ fields ++ rest) (sym front.has_row.kind_is)
          ∙ ap (λ k. kind_of vote ∷ k ∷ fields ++ rest) (sym front.has_row.epoch_is);
    }

-- ---- the laws

either_version : (version : ℕ) → (eqb version 1 || eqb version 2) ≡ true → (1 ≤ version) × (version ≤ 2)
either_version version e = version_from (eqb version 1) (eqb version 2) e (eqb-true version 1) (eqb-true version 2)
  where
    version_from : (a b : Bool) → (a || b) ≡ true → (a ≡ true → version ≡ 1) → (b ≡ true → version ≡ 2) → (1 ≤ version) × (version ≤ 2)
    version_from true b e first second = let is : version ≡ 1 = first refl in (omega arith, omega arith)
    version_from false b e first second = let is : version ≡ 2 = second e in (omega arith, omega arith)

whole_takes : (n version : ℕ) (bytes : List ℕ) (vote : Vote) → AreBytes bytes → whole_vote n version bytes ≡ Some vote → Spells n version bytes vote
unfolding whole_vote
whole_takes n version bytes vote fits e =
    let g = test_some (eqb version 1 || eqb version 2) (front_vote n version bytes >>= λ x. cond (eqb (length x.1) 0) (Some x.0) None) vote e in
    let known = either_version version g.0 in
    let a = bind_some (front_vote n version bytes) (λ x. cond (eqb (length x.1) 0) (Some x.0) None) vote g.1 in
    let h = test_some (eqb (length a.0.1) 0) (Some a.0.0) vote a.2 in
    let t = front_takes n version bytes a.0.0 a.0.1 known.0 known.1 (bytes_at bytes fits) a.1 in
    let nothing : a.0.1 ≡ [] = nil_from_length a.0.1 (eqb-true (length a.0.1) 0 h.0) in
    let whole : bytes ≡ spelling a.0.0 = t.parts ∙ ap (λ (r : List ℕ). spelling a.0.0 ++ r) nothing ∙ append-nil (spelling a.0.0) in
    subst (Spells n version bytes) (some_is a.0.0 vote h.1) (record { are_bytes = fits; fits = t.fits; spelled = whole })

first_at_least : (vote : Vote) → 1 ≤ first_version vote
first_at_least (Val epoch target root shard branch) = omega arith
first_at_least (Echo epoch root shard branch) = omega arith
first_at_least (Ready epoch root) = omega arith
first_at_least (Delivered epoch value) = omega arith
first_at_least (Est epoch round bit) = omega arith
first_at_least (Bval epoch round bit) = omega arith
first_at_least (Aux epoch round bit) = omega arith
first_at_least (Pick epoch round vals) = omega arith
first_at_least (Coin epoch round share salt branch) = omega arith
first_at_least (Decided epoch bit) = omega arith
first_at_least (Conf epoch round vals) = omega arith
first_at_least (Propose epoch value) = omega arith
first_at_least (NoMore epoch) = omega arith
first_at_least (Closed epoch list) = omega arith

version_test : (version : ℕ) → 1 ≤ version → version ≤ 2 → (eqb version 1 || eqb version 2) ≡ true
version_test version begun built = grind (arith, nat_tests)

whole_again : (n version : ℕ) (bytes : List ℕ) (vote : Vote) → Spells n version bytes vote → whole_vote n version bytes ≡ Some vote
unfolding whole_vote
whole_again n version bytes vote is =
    let parts : bytes ≡ spelling vote ++ [] = is.spelled ∙ sym (append-nil (spelling vote)) in
    let front : front_vote n version bytes ≡ Some (vote, []) = ap (front_vote n version) parts ∙ front_again n version vote [] is.fits in
    let known : (eqb version 1 || eqb version 2) ≡ true = version_test version (omega (arith, first_at_least vote, is.fits.begun)) is.fits.built in
    ap (λ t. cond t (front_vote n version bytes >>= λ x. cond (eqb (length x.1) 0) (Some x.0) None) None) known
    ∙ ap (λ (r : Option (Vote × List ℕ)). r >>= λ x. cond (eqb (length x.1) 0) (Some x.0) None) front

-- of bytes, the vote is what the whole of them makes up
pub vote_is : (n version : ℕ) (bytes : List ℕ) → IsBytes bytes → vote_at n version bytes ≡ whole_vote n version bytes
unfolding vote_at
vote_is n version bytes fits =
    ap (λ t. cond t (whole_vote n version bytes) None) (bytes_pass bytes (bytes_from bytes fits))

pub vote_takes : (n version : ℕ) (bytes : List ℕ) (vote : Vote) → vote_at n version bytes ≡ Some vote → Spells n version bytes vote
unfolding vote_at
vote_takes n version bytes vote e =
    let g = test_some (list_all (λ byte. ltb byte 256) bytes) (whole_vote n version bytes) vote e in
    whole_takes n version bytes vote (bytes_passed bytes g.0) g.1

pub vote_again : (n version : ℕ) (bytes : List ℕ) (vote : Vote) → Spells n version bytes vote → vote_at n version bytes ≡ Some vote
unfolding vote_at
vote_again n version bytes vote is =
    ap (λ t. cond t (whole_vote n version bytes) None) (bytes_pass bytes is.are_bytes) ∙ whole_again n version bytes vote is

-- no spelling goes on as another, and none spells two votes
pub one_spelling : (n version : ℕ) (a b x y : List ℕ) (v w : Vote) → Spells n version a v → Spells n version b w → a ++ x ≡ b ++ y → (a ≡ b) × (v ≡ w)
one_spelling n version a b x y v w first second same =
    let one : front_vote n version (a ++ x) ≡ Some (v, x) = ap (λ (t : List ℕ). front_vote n version (t ++ x)) first.spelled ∙ front_again n version v x first.fits in
    let other : front_vote n version (b ++ y) ≡ Some (w, y) = ap (λ (t : List ℕ). front_vote n version (t ++ y)) second.spelled ∙ front_again n version w y second.fits in
    let both : (v, x) ≡ (w, y) = some_is (v, x) (w, y) (sym one ∙ ap (front_vote n version) same ∙ other) in
    let rest : x ≡ y = ap (λ (p : Vote × List ℕ). p.1) both in
    (append_cancel_right a b x (same ∙ ap (λ (t : List ℕ). b ++ t) (sym rest)), ap (λ (p : Vote × List ℕ). p.0) both)

-- ---- what a view shows

pub shown_is : {X Y : Type 0} (see : X → Y) (r : Option X) (read : Option Y) → Shows see r read → read ≡ option_map see r
shown_is see None read shows = shows
shown_is see (Some x) read shows = shows

pub spells_seen : {X : Type 0} (see : X → Vote) (n version : ℕ) (bytes : List ℕ) (r : Option X) → vote_at n version bytes ≡ option_map see r
    → IfSome r (λ x. Spells n version bytes (see x))
spells_seen see n version bytes None is = tt
spells_seen see n version bytes (Some x) is = vote_takes n version bytes (see x) is

pub written_spells : {E : Type 0} (n version : ℕ) (vote : Vote) (out : List ℕ) (r : Result (List ℕ) E) → IsVote n version vote → AreBytes out
    → out ≡ spelling vote
    → IfOk r (λ bytes. bytes ≡ out) → IfOk r (λ bytes. Spells n version bytes vote)
written_spells n version vote out (Ok bytes) fits are spelled is = record { are_bytes = subst AreBytes (sym is) are; fits = fits; spelled = is ∙ spelled }
written_spells n version vote out (Err fault) fits are spelled is = tt

pub spelled_again : {E : Type 0} (n version : ℕ) (vote : Vote) (r : Result (List ℕ) E) → IfOk r (λ bytes. Spells n version bytes vote)
    → IfOk r (λ bytes. vote_at n version bytes ≡ Some vote)
spelled_again n version vote (Ok bytes) spells = vote_again n version bytes vote spells
spelled_again n version vote (Err fault) spells = tt

-- ---- bytes that are too short

either_none : {A : Type 0} (test : Bool) (r : Option A) → r ≡ None → cond test r None ≡ None
either_none true r is = is
either_none false r is = refl

whole_short : (n version : ℕ) (bytes : List ℕ) → length bytes < 2 → whole_vote n version bytes ≡ None
unfolding whole_vote front_vote
whole_short n version [] short = either_none (eqb version 1 || eqb version 2) None refl
whole_short n version (kind ∷ []) short = either_none (eqb version 1 || eqb version 2) None refl
whole_short n version (kind ∷ epoch ∷ bytes) short = absurd (omega arith)

pub none_short : (n version : ℕ) (bytes : List ℕ) → length bytes < 2 → vote_at n version bytes ≡ None
unfolding vote_at
none_short n version bytes short = either_none (list_all (λ byte. ltb byte 256) bytes) (whole_vote n version bytes) (whole_short n version bytes short)
