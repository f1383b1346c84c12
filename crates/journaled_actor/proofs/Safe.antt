-- What images of a disk have of the votes that an actor has cast.
use Rattle.std.proofs.Common.{◌≡◌, ℕ, ◌≤◌, inl, inr, arith, length, ⊎_elim, List, [], ◌∷◌, ◌++◌, refl, sym, ap, ◌∙◌, subst}
use Rattle.std.specs.List.{concat}
use Rattle.std.proofs.lemmas.List.{length-append}
use Rattle.std.proofs.lemmas.Grind.{flat_map-append}
use Rattle.disk_model.specs.Image.{Image}
use Rattle.hb_wire.specs.declared.vote.Vote.{Vote}
use Rattle.hb_wire.specs.declared.post.Post.{Post}
use Rattle.vote_journal.specs.declared.journal.Journal.{Journal}
use Rattle.vote_journal.specs.Runs.{LeftOrSays}
use Rattle.vote_journal.specs.Text.{text_of, live_entries, SaysOnly, SaysMaybe}
use Rattle.vote_journal.specs.Usable.{IsUsable, disk_of, entries_in_journal}
use Rattle.vote_journal.proofs.Says.{alone, alone_few, held_says, text_is}
use Rattle.vote_journal.proofs.Alone.{live_alone}
use Rattle.hb_rules.specs.Ledger.{IsPrefix}
use Rattle.hb_rules.specs.Terms.{Terms, AreVotes, cast_in}
use Rattle.journaled_actor.specs.Folding.{AreFew}
use Rattle.journaled_actor.specs.Payload.{payload, vote_bytes}
use Rattle.journaled_actor.specs.Kept.{Covers, IsCovered, IsSafe, IsAll}
use Rattle.hb_rules.proofs.Turns.{covers_watched}

pub payload_append : (votes more : List Vote) → payload (votes ++ more) ≡ payload votes ++ payload more
payload_append votes more = flat_map-append vote_bytes votes more

-- a usable journal's disk says its text, whatever a crash leaves
pub usable_says : {D : Type 0} (seen : D → Image) (may_leave : D → Image → Type 0) (journal : Journal D) → IsUsable seen may_leave journal
    → (image : Image) → may_leave (disk_of journal) image
    → SaysOnly (text_of (seen (disk_of journal))) (length (live_entries (seen (disk_of journal)))) image
usable_says seen may_leave journal u image may =
    let here = seen journal.disk in
    let es = entries_in_journal seen journal in
    let says = held_says journal.live here es [] (concat es) (length es) u.live u.spare (alone es) (alone_few es) in
    subst (λ (i : Image). SaysOnly (text_of here) (length (live_entries here)) i) (sym (u.durable image may))
    (record { sound = says.sound; says = refl; few = omega arith })

-- the entries of its disk are its own, and its text is theirs
module _ {D : Type 0} {seen : D → Image} {may_leave : D → Image → Type 0} {journal : Journal D} (u : IsUsable seen may_leave journal) where
  pub live_is : live_entries (seen (disk_of journal)) ≡ entries_in_journal seen journal
  live_is = live_alone journal.live (seen journal.disk) (entries_in_journal seen journal) u.live u.spare

  pub entries_say : text_of (seen (disk_of journal)) ≡ concat (entries_in_journal seen journal)
  entries_say = text_is journal.live (seen journal.disk) (entries_in_journal seen journal) u.live u.spare

-- ---- how many entries there are

pub few_longer : (most : ℕ) (text more : List ℕ) → length text ≤ length more → AreFew most text → AreFew most more
few_longer most text more longer (inl few) = inl few
few_longer most text more longer (inr long) = inr (omega (arith, long, longer))

pub few_same : (m n : ℕ) (text now : List ℕ) → m ≡ n → now ≡ text → AreFew n text → AreFew m now
few_same m n text now count same few =
    subst (λ (k : ℕ). AreFew k now) (sym count) (subst (λ (xs : List ℕ). AreFew n xs) (sym same) few)

few_said : (text : List ℕ) (most : ℕ) (image : Image) → SaysOnly text most image → AreFew most text → AreFew (length (live_entries image)) (text_of image)
few_said text most image says (inl few) = inl (omega (arith, few, says.few))
few_said text most image says (inr long) = inr (omega (arith, long, ap length says.says))

-- ---- images

pub covered_says : (t : Terms) (posts : List Post) (image : Image) (votes : List Vote) (most : ℕ) → SaysOnly (payload votes) most image
    → AreFew most (payload votes) → Covers t posts votes → IsCovered t posts image
covered_says t posts image votes most says few covers =
    record { sound = says.sound; votes = votes; says = says.says; few = few_said (payload votes) most image says few; covers = covers }

pub safe_said : (t : Terms) (posts : List Post) (left : Image → Type 0) (text : List ℕ) (votes : List Vote) (most : ℕ)
    → ((image : Image) → left image → SaysOnly text most image) → AreFew most text → text ≡ payload votes → Covers t posts votes → IsSafe t posts left
safe_said t posts left text votes most says few is covers image may =
    covered_says t posts image votes most (subst (λ (xs : List ℕ). SaysOnly xs most image) is (says image may))
    (subst (λ (xs : List ℕ). AreFew most xs) is few) covers

pub all_covers : (t : Terms) (posts : List Post) (text : List ℕ) (votes : List Vote) → IsAll t posts text votes → Covers t posts votes
all_covers t posts text votes all = record { are = all.are; posted = record { rest = []; is = sym (append_nil votes) ∙ ap (λ (xs : List Vote). xs ++ []) (sym all.complete) } }
  where
    append_nil : (xs : List Vote) → xs ++ [] ≡ xs
    append_nil [] = refl
    append_nil (x ∷ xs) = ap (λ (ys : List Vote). x ∷ ys) (append_nil xs)

pub more_covers : (t : Terms) (posts : List Post) (text : List ℕ) (votes due : List Vote) → IsAll t posts text votes → AreVotes t posts (votes ++ due)
    → Covers t posts (votes ++ due)
more_covers t posts text votes due all are = record {
  are = are;
  posted = record { rest = due; is = ap (λ (xs : List Vote). xs ++ due) (sym all.complete) };
}

-- an entry of these votes is there or not
pub safe_maybe : (t : Terms) (posts : List Post) (left : Image → Type 0) (text entry : List ℕ) (most : ℕ) (votes due : List Vote)
    → IsAll t posts text votes → AreVotes t posts (votes ++ due) → entry ≡ payload due → AreFew most text
    → ((image : Image) → left image → SaysMaybe text entry most image) → IsSafe t posts left
safe_maybe t posts left text entry most votes due all are is few says image may =
    let s = says image may in
    let whole : text ++ entry ≡ payload (votes ++ due) = ap (λ (xs : List ℕ). xs ++ entry) all.says
    ∙ ap (λ (xs : List ℕ). payload votes ++ xs) is ∙ sym (payload_append votes due) in
    ⊎_elim
    (λ same. covered_says t posts image votes most (record { sound = s.sound; says = same ∙ all.says; few = s.few })
    (subst (λ (xs : List ℕ). AreFew most xs) all.says few) (all_covers t posts text votes all))
    (λ more. covered_says t posts image (votes ++ due) most (record { sound = s.sound; says = more ∙ whole; few = s.few })
    (few_longer most text (payload (votes ++ due)) (omega (arith, ap length whole, length-append text entry)) few)
    (more_covers t posts text votes due all are))
    s.says

-- others posted
pub safe_watched : (t : Terms) (old new : List Post) (left : Image → Type 0) → IsPrefix old new → cast_in t new ≡ cast_in t old → IsSafe t old left
    → IsSafe t new left
safe_watched t old new left prefix same safe image may =
    let c = safe image may in
    record { sound = c.sound; votes = c.votes; says = c.says; few = c.few; covers = covers_watched t old new c.votes prefix same c.covers }

-- what may have been left before, or says the same
pub safe_left : (t : Terms) (posts : List Post) (old new : Image → Type 0) (here : Image) → old here → IsSafe t posts old
    → ((image : Image) → new image → LeftOrSays old (text_of here) (length (live_entries here)) image) → IsSafe t posts new
safe_left t posts old new here may safe says image left =
    ⊎_elim
    (λ before. safe image before)
    (λ same.
    let c = safe here may in
    let most = length (live_entries here) in
    covered_says t posts image c.votes most (subst (λ (xs : List ℕ). SaysOnly xs most image) c.says same)
    (subst (λ (xs : List ℕ). AreFew most xs) c.says c.few) c.covers)
    (says image left)
