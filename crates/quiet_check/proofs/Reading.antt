-- What an actor has cast, and what it heard, post by post.
use Rattle.std.proofs.Common.{◌≡◌, ℕ, ◌<◌, ◌+◌, Bool, true, false, List, [], ◌∷◌, ◌++◌, length, take, get_or, Option, None, Some, slice_get, if◌then◌else◌, refl, sym, ap, ◌∙◌}
use Rattle.std.specs.List.{filter_map, cons_option}
use Rattle.std.specs.Option.{option_to_list}
use Rattle.std.proofs.lemmas.List.{take_more}
use Rattle.std.proofs.lemmas.List.Elements.{filter_map-append}
use Rattle.std.proofs.lemmas.Option.{slice_get-get_or}
use Rattle.hb_base.specs.Numbers.{Numbers}
use Rattle.hb_wire.specs.declared.post.Post.{Post}
use Rattle.hb_wire.specs.declared.vote.Vote.{Vote}
use Rattle.hb_wire.proofs.VoteLemmas.{vote_takes}
use Rattle.hb_rules.specs.declared.report.End.{End}
use Rattle.hb_rules.specs.declared.report.Report.{Report}
use Rattle.hb_rules.specs.Hearing.{Hearing, spelled, is_by, own_in, hearing_of, heard_in, heard_of}
use Rattle.hb_rules.specs.Report.{IsReceived}
use Rattle.hb_rules.specs.Terms.{AreSpelled}
use Rattle.hb_rules.proofs.Lists.{at_contains}
use Rattle.quiet_check.specs.Receipts.{AreReceived}

one_more : {A B : Type 0} (f : A → Option B) (x : A) → filter_map f (x ∷ []) ≡ option_to_list (f x)
one_more {A} {B} f x = by (f x)
  where
    by : (o : Option B) → cons_option o [] ≡ option_to_list o
    by None = refl
    by (Some y) = refl

-- a list gone through as far as its next element
pub mapped_more : {A B : Type 0} (f : A → Option B) (xs : List A) (k : ℕ) (d : A) → k < length xs
    → filter_map f (take k xs) ++ option_to_list (f (get_or xs k d)) ≡ filter_map f (take (k + 1) xs)
mapped_more {A} {B} f xs k d below =
    ap (λ (more : List B). filter_map f (take k xs) ++ more) (sym (one_more f (get_or xs k d)))
    ∙ sym (filter_map-append f (take k xs) (get_or xs k d ∷ []))
    ∙ ap (filter_map f) (sym (take_more xs k d below))

-- what an actor has cast has spellings
pub own_spelled : (c : Numbers) (i x : ℕ) (posts : List Post) → AreSpelled c (own_in c i x posts)
own_spelled c i x [] = tt
own_spelled c i x (post ∷ posts) = by (is_by i x post) (spelled c post) refl (own_spelled c i x posts)
  where
    by : (b : Bool) (o : Option Vote) → spelled c post ≡ o → AreSpelled c (own_in c i x posts)
        → AreSpelled c (cons_option (if b then o else None) (own_in c i x posts))
    by true (Some vote) is rest = ((vote_takes c.n c.version post.bytes vote is).fits, rest)
    by true None is rest = rest
    by false o is rest = rest

-- what is heard of the next post that was received
pub heard_more : (c : Numbers) (i x : ℕ) (history : List Post) (got : List ℕ) (p : ℕ) (d : ℕ) (post : Post) → p < length got
    → slice_get history (get_or got p d) ≡ Some post
    → heard_of c i x history (take p got) ++ option_to_list (hearing_of c i x post) ≡ heard_of c i x history (take (p + 1) got)
heard_more c i x history got p d post below stands =
    ap (λ (more : List Hearing). heard_in c i x (filter_map (slice_get history) (take p got)) ++ more) (sym (one_more (hearing_of c i x) post))
    ∙ sym (filter_map-append (hearing_of c i x) (filter_map (slice_get history) (take p got)) (post ∷ []))
    ∙ ap (heard_in c i x)
    (ap (λ (o : Option Post). filter_map (slice_get history) (take p got) ++ option_to_list o) (sym stands)
    ∙ mapped_more (slice_get history) got p d below)

-- the next number that was received
pub received_at : (report : Report) (end : End) (p d : ℕ) → AreReceived report end → p < length end.got.items
    → IsReceived report.config report.script report.history.items end.node end.actor (get_or end.got.items p d)
received_at report end p d received below =
    received (get_or end.got.items p d) (at_contains end.got.items p (get_or end.got.items p d) (slice_get-get_or end.got.items p d below))
