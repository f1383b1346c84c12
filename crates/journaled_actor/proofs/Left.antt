-- What calls leave of a journal, of the votes that are cast, and of what is heard.
use Rattle.std.proofs.Common.{◌≡◌, ℕ, ◌<◌, ◌≤◌, ◌+◌, ◌-◌, ◌^◌, min, inl, inr, ⊎_elim, Bool, true, false, ◌==◌, nat_lt, List, [], ◌∷◌, ◌++◌, length, take, Option, None, Some, slice_get, get_or, Result, Ok, Err, refl, sym, ap, ◌∙◌, subst, arith, append-nil}
use Rattle.std.specs.Prelude.{OnOk, IfSome}
use Rattle.hb_wire.specs.Addresses.{reaches}
use Rattle.std.specs.List.{concat}
use Rattle.std.proofs.lemmas.Bool.{cases_Bool, cases_order, both_ways, eqb-true, eq-eqb, ltb-true, ltb-false, lt-ltb, and_parts}
use Rattle.std.proofs.lemmas.List.{take_more, length-append}
use Rattle.std.proofs.lemmas.List.Folds.{concat-append}
use Rattle.disk_model.specs.Image.{Image}
use Rattle.disk_model.specs.Supply.{Supply}
use Rattle.hb_base.specs.Numbers.{Numbers}
use Rattle.hb_wire.specs.declared.vote.Vote.{Vote}
use Rattle.hb_wire.specs.declared.post.Post.{Post}
use Rattle.vote_journal.specs.declared.journal.Journal.{Journal}
use Rattle.vote_journal.specs.Runs.{Runs, LeftOrSays}
use Rattle.vote_journal.specs.Text.{text_of, live_entries, SaysOnly, SaysMaybe}
use Rattle.vote_journal.specs.Usable.{disk_of}
use Rattle.hb_rules.specs.Actor.{IsFew, AreSeen, ReachesActor}
use Rattle.hb_rules.specs.Hearing.{Hearing, hearing_of}
use Rattle.hb_rules.specs.History.{HasSpelling}
use Rattle.hb_rules.specs.Ledger.{IsPrefix}
use Rattle.hb_rules.specs.Same.{count, firsts}
use Rattle.hb_rules.specs.Terms.{Terms, AreVotes, AreLawful, AreSpelled, AreHeardSpelled, AreAmong, cast_in, heard_got, heard_all}
use Rattle.hb_rules.proofs.Lists.{AllByRecursion-parts}
use Rattle.journaled_actor.specs.Folding.{is_full, folded_if_full, entries_after, AreFew, most_while, IsReady}
use Rattle.journaled_actor.specs.Payload.{payload}
use Rattle.journaled_actor.specs.Kept.{Covers, IsCovered, IsSafe, IsAll, IsOpen, Turn, CastSome, HearsPost, heard_with}
use Rattle.journaled_actor.proofs.Crashes.{left_now}
use Rattle.hb_rules.proofs.Received.{got_heard, heard_spelled}
use Rattle.journaled_actor.proofs.Heard.{got_more, got_longer, seen_more, seen_longer, reaches_longer, slice_longer}
use Rattle.journaled_actor.proofs.Owing.{open_with}
use Rattle.journaled_actor.proofs.Safe.{usable_says, live_is, entries_say, safe_said, safe_left, all_covers}
use Rattle.hb_rules.proofs.Turns.{turn_after, votes_longer, owed_votes, none_among}

-- ---- results

pub always_ok : {T E P : Type 0} (result : Result T E) → P → OnOk result P
always_ok (Ok x) p = p
always_ok (Err e) p = tt

-- ---- entries

pub not_equal : (n m : ℕ) → (n ≡ m → ⊥) → (n == m) ≡ false
not_equal n m differ = by (n == m) refl
  where
    by : (b : Bool) → (n == m) ≡ b → (n == m) ≡ false
    by true is = absurd (differ (eqb-true n m is))
    by false is = is

pub full_is : (es : List (List ℕ)) → is_full es ≡ true → (length es ≡ 64) × (length (concat es) < 2 ^ 32)
full_is es full =
    let both = and_parts (length es == 64) (nat_lt (length (concat es)) (2 ^ 32)) full in
    (eqb-true (length es) 64 both.0, ltb-true (length (concat es)) (2 ^ 32) both.1)

module _ (es : List (List ℕ)) (m b : ℕ) (many : m ≡ min (length es) (2 ^ 32 - 1)) (bytes : b ≡ min (length (concat es)) (2 ^ 64 - 1)) where
  pub full_by : m ≡ 64 → (short : Bool) → (short ≡ true → b ≤ 2 ^ 32 - 1) → (short ≡ false → 2 ^ 32 - 1 < b) → short ≡ is_full es
  full_by is true few long =
      sym (rw (eq-eqb (length es) 64 (omega (arith, many, is)), lt-ltb (length (concat es)) (2 ^ 32) (omega (arith, bytes, few refl))) refl)
  full_by is false few long = too_long (long refl)
    where
      too_long : 2 ^ 32 - 1 < b → false ≡ is_full es
      too_long more = at (is_full es) refl
        where
          at : (full : Bool) → is_full es ≡ full → false ≡ full
          at true now = absurd (omega (arith, bytes, more, (full_is es now).1))
          at false now = refl

  pub not_64 : (m ≡ 64 → ⊥) → false ≡ is_full es
  not_64 other = by (is_full es) refl
    where
      by : (full : Bool) → is_full es ≡ full → false ≡ full
      by true is = absurd (other (omega (arith, many, (full_is es is).0)))
      by false is = refl

pub folded_full : (es : List (List ℕ)) → is_full es ≡ true → folded_if_full es ≡ concat es ∷ []
folded_full es full = rw full refl

pub folded_not : (es : List (List ℕ)) → is_full es ≡ false → folded_if_full es ≡ es
folded_not es full = rw full refl

full_if : (es : List (List ℕ)) → length es ≡ 64 → nat_lt (length (concat es)) (2 ^ 32) ≡ true → is_full es ≡ true
full_if es many short = rw (eq-eqb (length es) 64 many, short) refl

-- few stay few while one is added
pub most_few : (es : List (List ℕ)) (text : List ℕ) → text ≡ concat es → AreFew (length es) text → AreFew (most_while es) text
most_few es text is (inr long) = inr long
most_few es text is (inl few) = by (is_full es) refl
  where
    by : (full : Bool) → is_full es ≡ full → AreFew (most_while es) text
    by true full = inl (omega (arith, few, ap length (folded_full es full)))
    by false full =
        ⊎_elim
        (λ (short : nat_lt (length (concat es)) (2 ^ 32) ≡ true). ⊎_elim
        (λ (many : length es ≡ 64). absurd (both_ways _ full (full_if es many short)))
        (λ apart. ⊎_elim
        (λ (less : length es < 64). inl (omega (arith, less, ap length (folded_not es full))))
        (λ (more : 64 < length es). absurd (omega (arith, more, few)))
        apart)
        (cases_order (length es) 64))
        (λ (long : nat_lt (length (concat es)) (2 ^ 32) ≡ false). inr (omega (arith, ltb-false _ _ long, ap length is)))
        (cases_Bool (nat_lt (length (concat es)) (2 ^ 32)))

-- and once it is added
pub added_few : (es new : List (List ℕ)) (text now entry : List ℕ) → text ≡ concat es → AreFew (length es) text
    → new ≡ folded_if_full es ++ entry ∷ [] → now ≡ text ++ entry → AreFew (length new) now
added_few es new text now entry is few has more =
    ⊎_elim
    (λ (most : most_while es ≤ 64). inl (omega (arith, most, ap length has, length-append (folded_if_full es) (entry ∷ []))))
    (λ (long : 2 ^ 32 ≤ length text). inr (omega (arith, long, ap length more, length-append text entry)))
    (most_few es text is few)

-- with votes that are cast
pub something : (due : List Vote) → (length due == 0) ≡ false → due ≡ [] → ⊥
something [] some none = absurd (cc (some))
something (vote ∷ due) some none = absurd (cc (none))

pub entries_same : (es : List (List ℕ)) (due : List Vote) → due ≡ [] → entries_after es due ≡ es
entries_same es [] none = refl
entries_same es (vote ∷ due) none = absurd (cc (none))

pub entries_more : (es : List (List ℕ)) (due : List Vote) → (length due == 0) ≡ false → entries_after es due ≡ folded_if_full es ++ payload due ∷ []
entries_more es [] some = absurd (cc (some))
entries_more es (vote ∷ due) some = refl

-- entries that are put together one by one
pub gathered_more : (entries : List (List ℕ)) (k : ℕ) (text entry : List ℕ) → k < length entries → entry ≡ get_or entries k entry
    → text ≡ concat (take k entries) → text ++ entry ≡ concat (take (k + 1) entries)
gathered_more entries k text entry within at is =
    ap (λ (xs : List ℕ). xs ++ entry) is
    ∙ ap (λ (xs : List ℕ). concat (take k entries) ++ xs) (sym (append-nil entry))
    ∙ sym (ap concat (take_more entries k entry within ∙ ap (λ (e : List ℕ). take k entries ++ e ∷ []) (sym at))
    ∙ concat-append (take k entries) (entry ∷ []))

-- ---- images

pub says_maybe : (text entry : List ℕ) (n most : ℕ) (image : Image) → n ≤ most → SaysOnly text n image → SaysMaybe text entry most image
says_maybe text entry n most image le only = record { sound = only.sound; says = inl only.says; few = omega (arith, le, only.few) }

pub maybe_most : (text entry : List ℕ) (n most : ℕ) (image : Image) → n ≤ most → SaysMaybe text entry n image → SaysMaybe text entry most image
maybe_most text entry n most image le maybe = record { sound = maybe.sound; says = maybe.says; few = omega (arith, le, maybe.few) }

-- an opened journal's disk, whatever came of it
pub reopened : {D : Type 0} {faults : D → ℕ} {supply : D → Supply} (seen : D → Image) (may_leave : D → Image → Type 0) (moment : D → ℕ)
    (left_since : D → ℕ → Image → Type 0) → ((disk : D) (t : ℕ) (c : Image) → t ≤ moment disk → may_leave disk c → left_since disk t c)
    → ((disk : D) → may_leave disk (seen disk)) → (old new : D)
    → Runs moment left_since faults supply old new (LeftOrSays (may_leave old) (text_of (seen old)) (length (live_entries (seen old))))
    → (t : Terms) (posts : List Post) → IsSafe t posts (may_leave old) → IsSafe t posts (may_leave new)
reopened seen may_leave moment left_since counts stays old new runs t posts safe =
    safe_left t posts (may_leave old) (may_leave new) (seen old) (stays old) safe
    (left_now may_leave moment left_since counts old new (LeftOrSays (may_leave old) (text_of (seen old)) (length (live_entries (seen old)))) runs.moments)

-- the votes of a journal that was opened
pub votes_read : (t : Terms) (posts : List Post) (image : Image) (c : Numbers) (text : List ℕ) (found : List Vote) → c ≡ t.config
    → text ≡ text_of image → ((votes : List Vote) → AreSpelled c votes → text ≡ payload votes → found ≡ votes) → IsCovered t posts image
    → Covers t posts found × (text_of image ≡ payload found)
votes_read t posts image c text found same is finds covered =
    let found_is : found ≡ covered.votes =
    finds covered.votes (subst (λ (d : Numbers). AreSpelled d covered.votes) (sym same) covered.covers.are.spelled) (is ∙ covered.says) in
    (subst (Covers t posts) (sym found_is) covered.covers, covered.says ∙ ap payload (sym found_is))

module _ {D : Type 0} {seen : D → Image} {may_leave : D → Image → Type 0} {journal : Journal D} where
  few_live : IsReady seen may_leave journal → AreFew (length (live_entries (seen (disk_of journal)))) (text_of (seen (disk_of journal)))
  few_live ready =
      subst (λ (es : List (List ℕ)). AreFew (length es) (text_of (seen (disk_of journal)))) (sym (live_is ready.usable)) ready.few

  -- while an entry is added
  pub ready_most : IsReady seen may_leave journal → AreFew (most_while (live_entries (seen (disk_of journal)))) (text_of (seen (disk_of journal)))
  ready_most ready =
      most_few (live_entries (seen (disk_of journal))) (text_of (seen (disk_of journal)))
      (entries_say ready.usable ∙ ap concat (sym (live_is ready.usable))) (few_live ready)

  pub safe_covered : (t : Terms) (posts : List Post) (votes : List Vote) → IsReady seen may_leave journal
      → text_of (seen (disk_of journal)) ≡ payload votes → Covers t posts votes → IsSafe t posts (may_leave (disk_of journal))
  safe_covered t posts votes ready says covers =
      safe_said t posts (may_leave (disk_of journal)) (text_of (seen (disk_of journal))) votes (length (live_entries (seen (disk_of journal))))
      (usable_says seen may_leave journal ready.usable) (few_live ready) says covers

  pub safe_all : (t : Terms) (posts : List Post) (votes : List Vote) → IsReady seen may_leave journal
      → IsAll t posts (text_of (seen (disk_of journal))) votes → IsSafe t posts (may_leave (disk_of journal))
  safe_all t posts votes ready all =
      safe_covered t posts votes ready all.says (all_covers t posts (text_of (seen (disk_of journal))) votes all)

-- ---- votes that are cast

pub nothing_in : (votes : List Vote) → (length votes == 0) ≡ true → votes ≡ []
nothing_in [] none = refl
nothing_in (vote ∷ votes) none = absurd (omega (arith, eqb-true (length (vote ∷ votes)) 0 none))

pub spelled_due : (t : Terms) (posts : List Post) (votes due : List Vote) → AreVotes t posts (votes ++ due) → AreSpelled t.config due
spelled_due t posts votes due are = (AllByRecursion-parts (HasSpelling t.config) votes due are.spelled).1

pub cast_none : (t : Terms) (posts : List Post) (votes : List Vote) → CastSome t posts posts votes
cast_none t posts votes = record { count = 0; cast = sym (append-nil (cast_in t posts)) }

pub all_as_before : (t : Terms) (posts : List Post) (text : List ℕ) (votes due : List Vote) → due ≡ [] → IsAll t posts text votes
    → IsAll t posts text (votes ++ due)
all_as_before t posts text votes due none all =
    subst (IsAll t posts text) (sym (ap (λ (more : List Vote). votes ++ more) none ∙ append-nil votes)) all

pub all_cast : (t : Terms) (old new : List Post) (text now : List ℕ) (votes due : List Vote) → IsPrefix old new → IsAll t old text votes
    → AreVotes t old (votes ++ due) → now ≡ payload (votes ++ due)
    → ((before : List Vote) → Turn t old before due → firsts (cast_in t new) ≡ before ++ due) → IsAll t new now (votes ++ due)
all_cast t old new text now votes due prefix all are says complete = record {
  says = says;
  are = votes_longer t old new (votes ++ due) prefix are;
  complete = complete votes (turn_after t old votes due are all.complete);
}

-- ---- beginning

-- the votes that are owed once the core is rebuilt
pub begins : (t u : Terms) (posts : List Post) (text : List ℕ) (votes due : List Vote) → u ≡ t → AreLawful t → IsAll t posts text votes
    → due ≡ t.owed votes [] → IsAll u posts text votes × AreVotes u posts (votes ++ due)
begins t u posts text votes due same lawful all is =
    subst (λ (v : Terms). IsAll v posts text votes × AreVotes v posts (votes ++ due)) (sym same) (
      all,
      subst (λ (more : List Vote). AreVotes t posts (votes ++ more)) (sym is)
          (owed_votes t posts votes [] lawful all.are tt (none_among t posts)),
    )

-- and once they are cast
pub open_cast : (t u : Terms) (posts : List Post) (text : List ℕ) (stands : List Vote → List Hearing → Type 0) (votes due : List Vote)
    (heard : List Hearing) → u ≡ t → AreLawful t → due ≡ t.owed votes heard → stands (votes ++ t.owed votes heard) heard
    → IsAll u posts text (votes ++ due) → IsOpen t posts text stands heard
open_cast t u posts text stands votes due heard same lawful is standing all =
    open_with t posts text stands votes heard lawful
    (subst (λ (more : List Vote). IsAll t posts text (votes ++ more)) is (subst (λ (v : Terms). IsAll v posts text (votes ++ due)) same all)) standing

pub few_more : (t : Terms) (posts : List Post) (most : ℕ) → IsFew t posts most → IsFew t posts (most + 1)
few_more t posts most few = record { each = λ vote. omega (arith, few.each vote) }

pub few_watched : (t : Terms) (old new : List Post) (most : ℕ) → cast_in t new ≡ cast_in t old → IsFew t old most → IsFew t new most
few_watched t old new most same few = record { each = λ vote. omega (arith, few.each vote, ap (λ (votes : List Vote). count vote votes) same) }

-- ---- hearing

module _ (t : Terms) (post : Post) (own : List Vote) (heard : List Hearing) (before after : List Vote) (stands : List Vote → List Hearing → Type 0) where
  pub hears_none : hearing_of t.config t.node t.actor post ≡ None → after ≡ before → t.owed own heard ≡ [] → stands own heard
      → HearsPost t post own heard before after stands
  hears_none none same idle standing =
      let as_before : heard_with t heard post ≡ heard = rw none (append-nil heard) in
      let nothing : t.owed own (heard_with t heard post) ≡ [] = ap (t.owed own) as_before ∙ idle in
      let whole : own ≡ own ++ t.owed own (heard_with t heard post) =
      sym (ap (λ (more : List Vote). own ++ more) nothing ∙ append-nil own) in
      record {
        due = same ∙ sym (ap (λ (more : List Vote). before ++ more) nothing ∙ append-nil before);
        holds = subst (λ (hs : List Hearing). stands (own ++ t.owed own (heard_with t heard post)) hs) (sym as_before)
            (subst (λ (votes : List Vote). stands votes heard) whole standing);
      }

  pub hears_some : (h : Hearing) → hearing_of t.config t.node t.actor post ≡ Some h → after ≡ before ++ t.owed own (heard ++ h ∷ [])
      → stands (own ++ t.owed own (heard ++ h ∷ [])) (heard ++ h ∷ []) → HearsPost t post own heard before after stands
  hears_some h some due standing =
      let more : heard_with t heard post ≡ heard ++ h ∷ [] = rw some refl in
      record {
        due = due ∙ ap (λ (hs : List Hearing). before ++ t.owed own hs) (sym more);
        holds = subst (λ (hs : List Hearing). stands (own ++ t.owed own hs) hs) (sym more) standing;
      }

-- what was heard once a post more was received
pub heard_now : (t : Terms) (old new : List Post) (got : List ℕ) (k : ℕ) (post : Post) → IsPrefix old new → AreSeen t old got
    → slice_get new k ≡ Some post → heard_with t (heard_got t old got) post ≡ heard_got t new (got ++ k ∷ [])
heard_now t old new got k post prefix seen is =
    ap (λ (hs : List Hearing). heard_with t hs post) (sym (got_longer t old new got prefix seen)) ∙ sym (got_more t new got k post is)

-- what is owed once a post more was received may be kept
pub steps : (t u : Terms) (posts : List Post) (text : List ℕ) (got : List ℕ) (votes due : List Vote) (heard : List Hearing) → u ≡ t → AreLawful t
    → heard ≡ heard_got t posts got → IsAll t posts text votes → due ≡ t.owed votes heard
    → IsAll u posts text votes × AreVotes u posts (votes ++ due)
steps t u posts text got votes due heard same lawful heard_is all is =
    subst (λ (v : Terms). IsAll v posts text votes × AreVotes v posts (votes ++ due)) (sym same) (
      all,
      subst (λ (more : List Vote). AreVotes t posts (votes ++ more)) (sym is)
          (owed_votes t posts votes heard lawful all.are
          (subst (AreHeardSpelled t.config) (sym heard_is) (heard_spelled t.config t.node t.actor _))
          (subst (λ (hs : List Hearing). AreAmong hs (heard_all t posts)) (sym heard_is) (got_heard t posts got))),
    )

-- once they are cast
pub open_step : (t u : Terms) (old mid new : List Post) (now : List ℕ) (stands : List Vote → List Hearing → Type 0) (got : List ℕ) (k : ℕ)
    (votes due : List Vote) (heard : List Hearing) → u ≡ t → AreLawful t → IsPrefix old mid → IsPrefix mid new → AreSeen t old got
    → ReachesActor t.config old t.node t.actor k → heard ≡ heard_got t mid (got ++ k ∷ []) → due ≡ t.owed votes heard
    → stands (votes ++ t.owed votes heard) heard → IsAll u new now (votes ++ due) → IsOpen t new now stands (heard_got t new (got ++ k ∷ []))
open_step t u old mid new now stands got k votes due heard same lawful one two seen there heard_is is standing all =
    subst (IsOpen t new now stands)
    (heard_is
    ∙ sym (got_longer t mid new (got ++ k ∷ []) two
    (seen_more t mid got k (seen_longer t old mid got one seen) (reaches_longer t.config old mid t.node t.actor k one there))))
    (open_cast t u new now stands votes due heard same lawful is standing all)

pub heard_as : (c d : Numbers) (i j x y : ℕ) (post : Post) (heard : Option Hearing) → c ≡ d → i ≡ j → x ≡ y → heard ≡ hearing_of c i x post
    → hearing_of d j y post ≡ heard
heard_as c d i j x y post heard config node actor is =
    subst (λ (e : Numbers). hearing_of e j y post ≡ heard) config
    (subst (λ (k : ℕ). hearing_of c k y post ≡ heard) node (subst (λ (z : ℕ). hearing_of c i z post ≡ heard) actor (sym is)))

-- ---- a post that is read

some_known : (found : Option Post) (post : Post) (P : Post → Type 0) → found ≡ Some post → IfSome found P → P post
some_known found post P is p = subst (λ (o : Option Post). IfSome o P) is p

pub some_same : (a b : Post) → Some a ≡ Some b → a ≡ b
some_same a b h = cc (h)

pub received : (t : Terms) (c : Numbers) (old new : List Post) (k : ℕ) (found : Option Post) → c ≡ t.config → IsPrefix old new
    → ReachesActor t.config old t.node t.actor k → found ≡ slice_get new k → IfSome found (λ post. post.from < c.n)
    → (post : Post) × (found ≡ Some post) × (reaches t.config.n post t.node t.actor ≡ true) × (post.from < t.config.n)
received t c old new k found same prefix there is known =
    let stands : slice_get new k ≡ Some there.post = slice_longer old new k there.post prefix there.stands in (
      there.post,
      is ∙ stands,
      there.reaches,
      subst (λ (d : Numbers). there.post.from < d.n) same (some_known found there.post (λ (post : Post). post.from < c.n) (is ∙ stands) known),
    )
