-- What a table of posts has for an actor is what the actor has cast, and what it hears and a rule looks at. The letters: actor x of node i.
use Rattle.std.proofs.Common.{◌≡◌, ◌≢◌, ◌⊎◌, ℕ, ◌<◌, ◌≤◌, nat_lt, Bool, true, false, ◌&&◌, ◌==◌, inl, inr, List, [], ◌∷◌, ◌++◌, Contains, Option, None, Some, filter_map, if◌then◌else◌, refl, sym, ap, ◌∙◌, subst, arith}
use Rattle.std.specs.List.{list_any, flat_map}
use Rattle.std.proofs.lemmas.Bool.{le-ltb, and_parts, and_from, eqb-true, false_from_ne_true, both_ways}
use Rattle.std.proofs.lemmas.Option.{cond_some}
use Rattle.std.proofs.lemmas.List.Elements.{All-weaker, All-contains_itself, recursion_from_All, Contains-append_left, Contains-append_right, Contains-append_cases}
use Rattle.hb_base.specs.NodeSet.{is_in}
use Rattle.hb_base.specs.Numbers.{Numbers}
use Rattle.coin_deal.specs.Heard.{is_good_share}
use Rattle.hb_wire.specs.Addresses.{reaches}
use Rattle.hb_wire.specs.Votes.{address_of, epoch_of}
use Rattle.hb_wire.specs.declared.post.Post.{Post}
use Rattle.hb_wire.specs.declared.vote.To.TheVariants.{Home}
use Rattle.hb_wire.specs.declared.vote.Vote.{Vote}
use Rattle.hb_wire.specs.declared.vote.Vote.TheVariants.{Echo, Coin}
use Rattle.hb_wire.proofs.VoteLemmas.{vote_again, vote_takes}
use Rattle.hb_rules.specs.Hearing.{Hearing, hearing, heeds, is_within, spelled, name_at, hearing_at, hearing_of, heard_in, own_in}
use Rattle.hb_rules.specs.History.{HasSpelling}
use Rattle.hb_rules.specs.Lanes.{is_correct}
use Rattle.hb_rules.specs.Same.{AreSame}
use Rattle.hb_rules.specs.Terms.{AreAmong, AreHeardSpelled}
use Rattle.hb_rules.proofs.Addressed.{AreAddressed}
use Rattle.hb_rules.proofs.Among.{any_stands}
use Rattle.hb_rules.proofs.Cast.{IsCastBy, IsHeard, cast_from, cast_stands, heard_from}
use Rattle.hb_rules.proofs.Lists.{list_any-from, source_of, Contains-filter_map, Contains-cases, Contains-first, Contains-later}
use Rattle.rbc_judge.specs.Checked.{is_checked, AreChecked}
use Rattle.aba_judge.specs.Checked.{is_share_checked, AreSharesChecked}
use Rattle.post_judge.specs.declared.place.Place.{Place}
use Rattle.post_judge.specs.declared.place.Topic.TheVariants as topics
use Rattle.post_judge.specs.Places.{place, own_place, heard_place, is_told, counts, told_place, cast_place}
use Rattle.post_judge.specs.Tables.{Table, posts_at, own_votes, told_as, told_to, told_from, IsTold, AreTold}
use Rattle.post_judge.proofs.Kept.{AreKept}
use Rattle.post_judge.proofs.OwnEpoch.{AreAlike}
use Rattle.post_judge.proofs.Places.{ListensAt, IsToldAs, told_heeded, share_lane, not_own, heeded_told, same_lane}

-- ---- lists

-- an element of which a list has the result
record IsPiece {A B : Type 0} (f : A → List B) (xs : List A) (y : B) : Type 0 where
  element : A
  stands : Contains xs element
  has : Contains (f element) y

piece_of : {A B : Type 0} (f : A → List B) (xs : List A) (y : B) → Contains (flat_map f xs) y → IsPiece f xs y
piece_of f [] y stands = absurd (omega (arith, stands.1))
piece_of f (x ∷ xs) y stands = elim (Contains-append_cases (f x) (flat_map f xs) y stands) [
  | inl here ↦ record { element = x; stands = Contains-first x xs; has = here }
  | inr later ↦
      let rest = piece_of f xs y later in
      record { element = rest.element; stands = Contains-later x xs rest.element rest.stands; has = rest.has }
]

piece_stands : {A B : Type 0} (f : A → List B) (xs : List A) (x : A) (y : B) → Contains xs x → Contains (f x) y → Contains (flat_map f xs) y
piece_stands f [] x y stands has = absurd (omega (arith, stands.1))
piece_stands {A} {B} f (z ∷ zs) x y stands has =
    Contains-cases z zs x stands (Contains (f z ++ flat_map f zs) y)
    (λ is. Contains-append_left (f z) (flat_map f zs) y (subst (λ (w : A). Contains (f w) y) (sym is) has))
    (λ rest. Contains-append_right (f z) (flat_map f zs) y (piece_stands f zs x y rest has))

cond_some_place : (b : Bool) (o : Option Place) (p : Place) → (if b then o else None) ≡ Some p → (b ≡ true) × (o ≡ Some p)
cond_some_place true o p h = (refl, h)
cond_some_place false o p h = absurd (cc (h))

-- a test that the same votes of two lists pass
same_test : (one other : List Vote) (test : Vote → Bool) → ((v : Vote) → Contains one v → test v ≡ true → Contains other v)
    → ((v : Vote) → Contains other v → test v ≡ true → Contains one v) → list_any test one ≡ list_any test other
same_test one other test there back = by (list_any test one) refl (list_any test other) refl
  where
    by : (a : Bool) → list_any test one ≡ a → (b : Bool) → list_any test other ≡ b → list_any test one ≡ list_any test other
    by true h b g =
        let found = any_stands test one h in
        h ∙ sym (list_any-from test other found.0 (there found.0 found.1 found.2) found.2)
    by false h true g =
        let found = any_stands test other g in
        absurd (both_ways (list_any test one) h (list_any-from test one found.0 (back found.0 found.1 found.2) found.2))
    by false h false g = h ∙ sym g

-- ---- what an actor has cast

module _ (c : Numbers) (seen : List Post) (table : Table) (are : AreTold c seen table) (i x : ℕ) where
  -- what the table has at the place of a vote the actor has cast
  pub own_right : (vote v : Vote) → Contains (own_votes c i x vote seen table) v → Contains (own_in c i x seen) v
  own_right vote v stands =
      let source = source_of (spelled c) (posts_at seen table (own_place c.n i x vote)) v stands in
      let told = are.right (own_place c.n i x vote) source.element source.stands in
      let one : told.vote ≡ v = cc (told.is, source.gives) in
      cast_stands c i x seen source.element v told.stands
      (subst (λ (w : Vote). IsCastBy c i x source.element w) one (by source.element told told.placed))
    where
      by : (post : Post) (told : IsTold c seen (own_place c.n i x vote) post)
          → (cast_place c post told.vote ≡ Some (own_place c.n i x vote)) ⊎ (told_place c post told.vote ≡ Some (own_place c.n i x vote))
          → IsCastBy c i x post told.vote
      by post told (inl cast) =
          let is = (cond_some (is_correct c post.from) (own_place c.n post.from post.actor told.vote) (own_place c.n i x vote) cast).1 in
          record { from = ap (λ (p : Place). p.owner) is; actor = ap (λ (p : Place). p.part) is; is = told.is }
      by post told (inr heard) =
          absurd (not_own c.n i x post.from post.actor vote told.vote
          (cond_some_place (is_within c told.vote && (is_told c.n post.from post.actor told.vote && counts c post.from post.actor told.vote))
          (heard_place post.from post.actor told.vote) (own_place c.n i x vote) heard).1)

  -- and it has all that the actor of a correct node has cast at the same place
  pub own_all : is_correct c i ≡ true → (vote v : Vote) → own_place c.n i x v ≡ own_place c.n i x vote → Contains (own_in c i x seen) v
      → Contains (own_votes c i x vote seen table) v
  own_all correct vote v same stands =
      let source = cast_from c i x seen v stands in
      let known : is_correct c source.0.from ≡ true = ap (is_correct c) source.2.from ∙ correct in
      let place : own_place c.n source.0.from source.0.actor v ≡ own_place c.n i x v = λ k. own_place c.n (source.2.from k) (source.2.actor k) v in
      let placed : cast_place c source.0 v ≡ Some (own_place c.n i x vote) =
      ap (λ (b : Bool). if b then Some (own_place c.n source.0.from source.0.actor v) else None) known ∙ ap Some (place ∙ same) in
      Contains-filter_map (spelled c) (posts_at seen table (own_place c.n i x vote)) source.0 v
      (are.all (own_place c.n i x vote) source.0 (record { stands = source.1; vote = v; is = source.2.is; placed = inl placed }))
      source.2.is

  lane_all : is_correct c i ≡ true → x < c.n → (vote v : Vote) → epoch_of v ≡ epoch_of vote → Contains (own_in c i x seen) v
      → Contains (own_votes c i x vote seen table) v
  lane_all correct lane vote v same stands =
      own_all correct vote v (ap (λ (e : ℕ). place topics.Own i (if nat_lt x c.n then e else 0) x) same) stands

  desk_all : is_correct c i ≡ true → c.n ≤ x → (vote v : Vote) → Contains (own_in c i x seen) v → Contains (own_votes c i x vote seen table) v
  desk_all correct above vote v stands =
      let out : nat_lt x c.n ≡ false = le-ltb x c.n above in
      own_all correct vote v
      (ap (λ (b : Bool). place topics.Own i (if b then epoch_of v else 0) x) out
      ∙ sym (ap (λ (b : Bool). place topics.Own i (if b then epoch_of vote else 0) x) out)) stands

  -- it has of a lane the votes of the epoch, and of a desk all
  pub own_lane : is_correct c i ≡ true → x < c.n → (vote : Vote) → AreAlike (epoch_of vote) (own_votes c i x vote seen table) (own_in c i x seen)
  own_lane correct lane vote = record {
    tests = λ test at.
        same_test (own_votes c i x vote seen table) (own_in c i x seen) test (λ v stands passes. own_right vote v stands)
        (λ v stands passes. lane_all correct lane vote v (at v passes) stands);
  }

  pub own_desk : is_correct c i ≡ true → c.n ≤ x → (vote : Vote) → AreSame (own_votes c i x vote seen table) (own_in c i x seen)
  own_desk correct above vote = record {
    tests = λ test.
        same_test (own_votes c i x vote seen table) (own_in c i x seen) test (λ v stands passes. own_right vote v stands)
        (λ v stands passes. desk_all correct above vote v stands);
  }

  -- ---- what it hears

  -- how a post at a place at which the actor listens is heard
  record IsHeardAt (p : Place) (post : Post) (h : Hearing) : Type 0 where
    told : IsTold c seen p post
    within : is_within c told.vote ≡ true
    fits : is_told c.n post.from post.actor told.vote ≡ true
    counted : counts c post.from post.actor told.vote ≡ true
    at : heard_place post.from post.actor told.vote ≡ Some p
    reached : reaches c.n post i x ≡ true
    is : hearing (name_at c x post) told.vote ≡ h

  heard_at : (p : Place) (post : Post) (h : Hearing) → ListensAt c.n i x p → Contains (posts_at seen table p) post → told_to c i x post ≡ Some h
      → IsHeardAt p post h
  heard_at p post h listens stands gives = by told.placed
    where
      told : IsTold c seen p post
      told = are.right p post stands

      by : (cast_place c post told.vote ≡ Some p) ⊎ (told_place c post told.vote ≡ Some p) → IsHeardAt p post h
      by (inl cast) =
          let is = (cond_some (is_correct c post.from) (own_place c.n post.from post.actor told.vote) p cast).1 in
          absurd ((subst (ListensAt c.n i x) (sym is) listens).listens)
      by (inr heard) =
          let chosen =
          cond_some_place (is_within c told.vote && (is_told c.n post.from post.actor told.vote && counts c post.from post.actor told.vote))
          (heard_place post.from post.actor told.vote) p heard in
          let parts = and_parts (is_within c told.vote) (is_told c.n post.from post.actor told.vote && counts c post.from post.actor told.vote) chosen.0 in
          let inner = and_parts (is_told c.n post.from post.actor told.vote) (counts c post.from post.actor told.vote) parts.1 in
          let reach = cond_some (reaches c.n post i x) (hearing (name_at c x post) told.vote) h (ap (told_as c i x post) (sym told.is) ∙ gives) in
          record {
            told = told;
            within = parts.0;
            fits = inner.0;
            counted = inner.1;
            at = chosen.1;
            reached = reach.0;
            is = reach.1;
          }

  heard_of_at : (p : Place) (post : Post) (h : Hearing) → ListensAt c.n i x p → IsHeardAt p post h → Contains (heard_in c i x seen) h
  heard_of_at p post h listens heard =
      let vote : Vote = heard.told.vote in
      let heeded : heeds c.n i x post.from post.actor vote ≡ true =
      told_heeded c.n i x post.from post.actor vote p heard.fits heard.at listens in
      let all : (reaches c.n post i x && (heeds c.n i x post.from post.actor vote && is_within c vote)) ≡ true =
      and_from (reaches c.n post i x) (heeds c.n i x post.from post.actor vote && is_within c vote) heard.reached
      (and_from (heeds c.n i x post.from post.actor vote) (is_within c vote) heeded heard.within) in
      let gives : hearing_of c i x post ≡ Some h =
      ap (hearing_at c i x post) heard.told.is
      ∙ ap (λ (b : Bool). if b then Some (hearing (name_at c x post) vote) else None) all ∙ ap Some heard.is in
      Contains-filter_map (hearing_of c i x) seen post h heard.told.stands gives

  -- a hearing of the posts at some places
  record IsOfPlaces (wanted : List Place) (h : Hearing) : Type 0 where
    place : Place
    stands : Contains wanted place
    post : Post
    heard : IsHeardAt place post h

  of_places : (wanted : List Place) → ((p : Place) → Contains wanted p → ListensAt c.n i x p) → (h : Hearing)
      → Contains (told_from c i x seen table wanted) h → IsOfPlaces wanted h
  of_places wanted listens h stands =
      let piece = piece_of (λ (p : Place). filter_map (told_to c i x) (posts_at seen table p)) wanted h stands in
      let source = source_of (told_to c i x) (posts_at seen table piece.element) h piece.has in
      record {
        place = piece.element;
        stands = piece.stands;
        post = source.element;
        heard = heard_at piece.element source.element h (listens piece.element piece.stands) source.stands source.gives;
      }

  -- what it hears at places at which it listens is among all that it hears
  pub heard_among : (wanted : List Place) → ((p : Place) → Contains wanted p → ListensAt c.n i x p)
      → AreAmong (told_from c i x seen table wanted) (heard_in c i x seen)
  heard_among wanted listens = record {
    each = λ h stands.
        let from = of_places wanted listens h stands in
        heard_of_at from.place from.post h (listens from.place from.stands) from.heard;
  }

  -- it has spellings
  pub told_spelled : (wanted : List Place) → ((p : Place) → Contains wanted p → ListensAt c.n i x p) → AreHeardSpelled c (told_from c i x seen table wanted)
  told_spelled wanted listens =
      recursion_from_All (λ (h : Hearing). HasSpelling c h.vote) (told_from c i x seen table wanted)
      (All-weaker (Contains (told_from c i x seen table wanted)) (λ (h : Hearing). HasSpelling c h.vote)
      (λ h stands.
      let from = of_places wanted listens h stands in
      subst (λ (g : Hearing). HasSpelling c g.vote) from.heard.is
      (vote_takes c.n c.version from.post.bytes from.heard.told.vote from.heard.told.is).fits)
      (told_from c i x seen table wanted) (All-contains_itself (told_from c i x seen table wanted)))

  -- a lane knows nodes by their numbers
  lane_name : x < c.n → (post : Post) → name_at c x post ≡ post.from
  lane_name lane post =
      let other : (x == c.n) ≡ false = false_from_ne_true (x == c.n) (λ desk. omega (arith, eqb-true x c.n desk, lane)) in
      ap (λ (b : Bool). if b then post.actor else post.from) other

  -- and a lane hears no Echo with a wrong branch there
  pub told_checked : x < c.n → (wanted : List Place) → ((p : Place) → Contains wanted p → ListensAt c.n i x p)
      → AreChecked c.n (told_from c i x seen table wanted)
  told_checked lane wanted listens =
      All-weaker (Contains (told_from c i x seen table wanted)) (λ (h : Hearing). is_checked c.n h.from h.vote ≡ true)
      (λ h stands.
      let from = of_places wanted listens h stands in
      subst (λ (g : Hearing). is_checked c.n g.from g.vote ≡ true) from.heard.is
      (subst (λ (a : ℕ). is_checked c.n a from.heard.told.vote ≡ true) (sym (lane_name lane from.post))
      (checked from.post.from from.post.actor from.heard.told.vote from.heard.counted)))
      (told_from c i x seen table wanted) (All-contains_itself (told_from c i x seen table wanted))
    where
      checked : (a y : ℕ) (vote : Vote) → counts c a y vote ≡ true → is_checked c.n a vote ≡ true
      checked a y (Echo e root shard branch) h = h
      checked a y vote h = refl

  -- and no wrong share
  pub told_shares_checked : x < c.n → (wanted : List Place) → ((p : Place) → Contains wanted p → ListensAt c.n i x p)
      → AreSharesChecked c x (told_from c i x seen table wanted)
  told_shares_checked lane wanted listens =
      All-weaker (Contains (told_from c i x seen table wanted)) (λ (h : Hearing). is_share_checked c x h.from h.vote ≡ true)
      (λ h stands.
      let from = of_places wanted listens h stands in
      subst (λ (g : Hearing). is_share_checked c x g.from g.vote ≡ true) from.heard.is
      (subst (λ (a : ℕ). is_share_checked c x a from.heard.told.vote ≡ true) (sym (lane_name lane from.post))
      (checked from.post.from from.post.actor from.heard.told.vote from.place from.heard.counted from.heard.at (listens from.place from.stands))))
      (told_from c i x seen table wanted) (All-contains_itself (told_from c i x seen table wanted))
    where
      checked : (a y : ℕ) (vote : Vote) (p : Place) → counts c a y vote ≡ true → heard_place a y vote ≡ Some p → ListensAt c.n i x p
          → is_share_checked c x a vote ≡ true
      checked a y (Coin e r share salt branch) p h at there =
          subst (λ (z : ℕ). is_good_share c e z r a share salt branch ≡ true) (share_lane c.n i x a y e r share salt branch p at there) h
      checked a y vote p h at there = refl

  -- of all that it hears it has there what counts at these places
  pub heard_kept : AreAddressed c seen → is_in c.liars i ≡ false → (wanted : List Place) (p : Place) → Contains wanted p
      → AreKept c i x p (heard_in c i x seen) (told_from c i x seen table wanted)
  heard_kept addressed correct wanted p among = record { each = each }
    where
      each : (h : Hearing) → Contains (heard_in c i x seen) h → counts c h.from x h.vote ≡ true → heard_place i x h.vote ≡ Some p
          → Contains (told_from c i x seen table wanted) h
      each h stands counted at =
          piece_stands (λ (p : Place). filter_map (told_to c i x) (posts_at seen table p)) wanted p h among
          (Contains-filter_map (told_to c i x) (posts_at seen table p) source.0 h
          (are.all p source.0 (record { stands = source.1; vote = said.vote; is = said.is; placed = inr placed })) gives)
        where
          source : (post : Post) × Contains seen post × IsHeard c i x post h
          source = heard_from c i x seen h stands

          said : IsHeard c i x source.0 h
          said = source.2

          stays : address_of said.vote ≢ Home → source.0.to ≡ Home → i ≢ source.0.from
          stays away home own =
              let right = addressed.each source.0 source.1 (ap (is_in c.liars) (sym own) ∙ correct) in
              let again : spelled c source.0 ≡ Some right.vote = vote_again c.n c.version source.0.bytes right.vote right.spells in
              let is : spelled c source.0 ≡ Some said.vote = said.is in
              let same : right.vote ≡ said.vote = cc (again, is) in
              away (ap address_of (sym same) ∙ sym right.address ∙ home)

          told : IsToldAs c i x source.0.from source.0.actor said.vote
          told = heeded_told c i x source.0.from source.0.actor said.vote said.heeded
              (λ away. same_lane c.n source.0.to source.0.from source.0.actor i x said.reached (stays away))

          counted_there : counts c source.0.from source.0.actor said.vote ≡ true
          counted_there = told.counted (subst (λ (g : Hearing). counts c g.from x g.vote ≡ true) (sym said.hearing_is) counted)

          placed : told_place c source.0 said.vote ≡ Some p
          placed =
              ap (λ (b : Bool). if b then heard_place source.0.from source.0.actor said.vote else None)
              (and_from (is_within c said.vote) (is_told c.n source.0.from source.0.actor said.vote && counts c source.0.from source.0.actor said.vote)
              said.within
              (and_from (is_told c.n source.0.from source.0.actor said.vote) (counts c source.0.from source.0.actor said.vote) told.told counted_there))
              ∙ told.same
              ∙ ap (λ (g : Hearing). heard_place i x g.vote) said.hearing_is
              ∙ at

          gives : told_to c i x source.0 ≡ Some h
          gives =
              ap (told_as c i x source.0) said.is
              ∙ ap (λ (b : Bool). if b then Some (hearing (name_at c x source.0) said.vote) else None) said.reached ∙ ap Some said.hearing_is
