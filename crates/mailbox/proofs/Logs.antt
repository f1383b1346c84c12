-- The log of all puts: as it grows, as a sender gets its place among the passes that were taken in, and one list in it.
use Rattle.std.proofs.Common.{◌≡◌, ◌≢◌, length, arith, ℕ, zero, suc, ◌<◌, ◌==◌, cond, Bool, true, false, List, [], ◌∷◌, ◌++◌, map, sym, refl, ap, ◌∙◌}
use Rattle.std.proofs.Common.{append-nil, eq-eqb, ne_eqb}
use mathlib.Core.Logic.{dite}
use native.Mathlib.Decide.{ℕ_discrete}
use Rattle.std.specs.Prelude.{slice_index_or}
use Rattle.mailbox.specs.Interleaving.{numbers, numbers_at, IsInterleaving, HasAll}
use Rattle.mailbox.specs.Ordered.{Sender, pass_number, joined_place, is_same, Put, all_of, sent_by}

pub all_of-snoc : (log : List Put) (p : Put) → all_of (log ++ p ∷ []) ≡ all_of log ++ p.number ∷ []
all_of-snoc [] p = refl
all_of-snoc (q ∷ qs) p = ap (λ l. q.number ∷ l) (all_of-snoc qs p)

pushed : (b : Bool) (n : ℕ) (xs ys zs : List ℕ) → xs ≡ ys ++ zs → cond b (n ∷ xs) xs ≡ cond b (n ∷ ys) ys ++ zs
pushed true n xs ys zs e = ap (λ l. n ∷ l) e
pushed false n xs ys zs e = e

sent_by-append : (s : Sender) (log more : List Put) → sent_by s (log ++ more) ≡ sent_by s log ++ sent_by s more
sent_by-append s [] more = refl
sent_by-append s (q ∷ qs) more = pushed (is_same q.sender s) q.number _ _ _ (sent_by-append s qs more)

pub sent_by-same : (s : Sender) (log : List Put) (p : Put) → is_same p.sender s ≡ true → sent_by s (log ++ p ∷ []) ≡ sent_by s log ++ p.number ∷ []
sent_by-same s log p h = sent_by-append s log (p ∷ []) ∙ ap (λ b. sent_by s log ++ cond b (p.number ∷ []) []) h

pub sent_by-other : (s : Sender) (log : List Put) (p : Put) → is_same p.sender s ≡ false → sent_by s (log ++ p ∷ []) ≡ sent_by s log
sent_by-other s log p h = sent_by-append s log (p ∷ []) ∙ ap (λ b. sent_by s log ++ cond b (p.number ∷ []) []) h ∙ append-nil (sent_by s log)

-- the pass with number j and the place k, exchanged
abbrev pub exchanged : ℕ → ℕ → Sender → Sender
exchanged j k (pass_number a) = cond (a == j) (joined_place k) (pass_number a)
exchanged j k (joined_place a) = cond (a == k) (pass_number j) (joined_place a)

abbrev pub renamed : ℕ → ℕ → Put → Put
renamed j k p = record { sender = exchanged j k p.sender; number = p.number }

pub all_of-renamed : (j k : ℕ) (log : List Put) → all_of (map (renamed j k) log) ≡ all_of log
all_of-renamed j k [] = refl
all_of-renamed j k (p ∷ ps) = ap (λ l. p.number ∷ l) (all_of-renamed j k ps)

swap_test : (a b : ℕ) → (a == b) ≡ (b == a)
swap_test a b = dite (ℕ_discrete a b) (λ e. eq-eqb a b e ∙ sym (eq-eqb b a (sym e))) (λ n. ne_eqb a b n ∙ sym (ne_eqb b a (λ e. n (sym e))))

-- the four cases of two senders of one kind, and of two kinds
alike : (a b j : ℕ) (s : Sender) (kind : ℕ → Sender) → ((c : ℕ) → is_same s (kind c) ≡ false) → ((c : ℕ) → is_same (kind c) s ≡ false)
    → ((c d : ℕ) → is_same (kind c) (kind d) ≡ (c == d)) → is_same (cond (a == j) s (kind a)) (kind b) ≡ is_same (kind a) (cond (b == j) s (kind b))
alike a b j s kind left right same = dite (ℕ_discrete a j)
    (λ e. dite (ℕ_discrete b j)
    (λ f. rw (eq-eqb a j e, eq-eqb b j f) (left b ∙ sym (right a)))
    (λ g. rw (eq-eqb a j e, ne_eqb b j g) (left b ∙ sym (same a b ∙ ne_eqb a b (λ h. g (sym h ∙ e))))))
    (λ n. dite (ℕ_discrete b j)
    (λ f. rw (ne_eqb a j n, eq-eqb b j f) (same a b ∙ ne_eqb a b (λ h. n (h ∙ f)) ∙ sym (right a)))
    (λ g. rw (ne_eqb a j n, ne_eqb b j g) refl))

crossed : (a j b k : ℕ) → is_same (cond (a == j) (joined_place k) (pass_number a)) (joined_place b)
    ≡ is_same (pass_number a) (cond (b == k) (pass_number j) (joined_place b))
crossed a j b k = dite (ℕ_discrete a j)
    (λ e. dite (ℕ_discrete b k)
    (λ f. rw (eq-eqb a j e, eq-eqb b k f) (eq-eqb k b (sym f) ∙ sym (eq-eqb a j e)))
    (λ g. rw (eq-eqb a j e, ne_eqb b k g) (ne_eqb k b (λ h. g (sym h)))))
    (λ n. dite (ℕ_discrete b k)
    (λ f. rw (ne_eqb a j n, eq-eqb b k f) (sym (ne_eqb a j n)))
    (λ g. rw (ne_eqb a j n, ne_eqb b k g) refl))

is_same-swap : (a b : Sender) → is_same a b ≡ is_same b a
is_same-swap (pass_number a) (pass_number b) = swap_test a b
is_same-swap (pass_number a) (joined_place b) = refl
is_same-swap (joined_place a) (pass_number b) = refl
is_same-swap (joined_place a) (joined_place b) = swap_test a b

is_same-exchanged : (j k : ℕ) (a b : Sender) → is_same (exchanged j k a) b ≡ is_same a (exchanged j k b)
is_same-exchanged j k (pass_number a) (pass_number b) = alike a b j (joined_place k) pass_number (λ _. refl) (λ _. refl) (λ _ _. refl)
is_same-exchanged j k (pass_number a) (joined_place b) = crossed a j b k
is_same-exchanged j k (joined_place a) (pass_number b) =
    is_same-swap (exchanged j k (joined_place a)) (pass_number b) ∙ sym (crossed b j a k) ∙ is_same-swap (exchanged j k (pass_number b)) (joined_place a)
is_same-exchanged j k (joined_place a) (joined_place b) = alike a b k (pass_number j) joined_place (λ _. refl) (λ _. refl) (λ _ _. refl)

both_ways : (b c : Bool) (n : ℕ) (xs ys : List ℕ) → b ≡ c → xs ≡ ys → cond b (n ∷ xs) xs ≡ cond c (n ∷ ys) ys
both_ways b c n xs ys e f = λ i. cond (e i) (n ∷ f i) (f i)

pub sent_by-renamed : (j k : ℕ) (s : Sender) (log : List Put) → sent_by s (map (renamed j k) log) ≡ sent_by (exchanged j k s) log
sent_by-renamed j k s [] = refl
sent_by-renamed j k s (p ∷ ps) = both_ways _ _ p.number _ _ (is_same-exchanged j k p.sender s) (sent_by-renamed j k s ps)

-- each number beside the place of its pass, where all passes that were not taken in have one place
place_of : ℕ → Sender → ℕ
place_of others (pass_number j) = others
place_of others (joined_place k) = k

placed : ℕ → List Put → List (ℕ × ℕ)
placed others [] = []
placed others (p ∷ ps) = (place_of others p.sender, p.number) ∷ placed others ps

numbers-placed : (others : ℕ) (log : List Put) → numbers (placed others log) ≡ all_of log
unfolding placed
numbers-placed others [] = refl
numbers-placed others (p ∷ ps) = ap (λ l. p.number ∷ l) (numbers-placed others ps)

-- no pass of the queue put anything that isn't under a place
abbrev pub NoneElse : List Put → Type 0
NoneElse log = (j : ℕ) → sent_by (pass_number j) log ≡ []

put_by_none : (a n : ℕ) (ps : List Put) → cond (a == a) (n ∷ sent_by (pass_number a) ps) (sent_by (pass_number a) ps) ≡ [] → ⊥
put_by_none a n ps e = let t : (n ∷ sent_by (pass_number a) ps) ≡ [] =
    ap (λ b. cond b (n ∷ sent_by (pass_number a) ps) (sent_by (pass_number a) ps)) (sym (eq-eqb a a refl)) ∙ e in cc

after_one : (s : Sender) (n : ℕ) (ps : List Put) → NoneElse (record { sender = s; number = n } ∷ ps) → NoneElse ps
after_one (pass_number a) n ps none = absurd (put_by_none a n ps (none a))
after_one (joined_place a) n ps none = none

one_placed : (s : Sender) (n k : ℕ) (ps : List Put) → NoneElse (record { sender = s; number = n } ∷ ps)
    → numbers_at k (placed 0 ps) ≡ sent_by (joined_place k) ps
    → cond (place_of 0 s == k) (n ∷ numbers_at k (placed 0 ps)) (numbers_at k (placed 0 ps))
    ≡ cond (is_same s (joined_place k)) (n ∷ sent_by (joined_place k) ps) (sent_by (joined_place k) ps)
unfolding place_of
one_placed (pass_number a) n k ps none same = absurd (put_by_none a n ps (none a))
one_placed (joined_place a) n k ps none same = both_ways (a == k) (a == k) n _ _ refl same

numbers_at-placed : (k : ℕ) (log : List Put) → NoneElse log → numbers_at k (placed 0 log) ≡ sent_by (joined_place k) log
unfolding placed
numbers_at-placed k [] none = refl
numbers_at-placed k (p ∷ ps) none = one_placed p.sender p.number k ps none (numbers_at-placed k ps (after_one p.sender p.number ps none))

-- where every sender has a place, the log is an interleaving
pub interleaved : (log : List Put) (lists : List (List ℕ)) (whole : List ℕ) → NoneElse log → all_of log ≡ whole
    → ((k : ℕ) → sent_by (joined_place k) log ≡ slice_index_or lists k [])
    → IsInterleaving lists whole
interleaved log lists whole none all known = (placed 0 log, numbers-placed 0 log ∙ all, λ k. numbers_at-placed k log none ∙ known k)

one_apart : (others : ℕ) (s : Sender) (n k : ℕ) (ps : List Put) → others ≢ k → numbers_at k (placed others ps) ≡ sent_by (joined_place k) ps
    → cond (place_of others s == k) (n ∷ numbers_at k (placed others ps)) (numbers_at k (placed others ps))
    ≡ cond (is_same s (joined_place k)) (n ∷ sent_by (joined_place k) ps) (sent_by (joined_place k) ps)
unfolding place_of
one_apart others (pass_number a) n k ps apart same = both_ways (others == k) false n _ _ (ne_eqb others k apart) same
one_apart others (joined_place a) n k ps apart same = both_ways (a == k) (a == k) n _ _ refl same

numbers_at-apart : (others k : ℕ) (log : List Put) → others ≢ k → numbers_at k (placed others log) ≡ sent_by (joined_place k) log
unfolding placed
numbers_at-apart others k [] apart = refl
numbers_at-apart others k (p ∷ ps) apart = one_apart others p.sender p.number k ps apart (numbers_at-apart others k ps apart)

-- whatever others put, the log has all of the passes that were taken in
pub has_all : (log : List Put) (lists : List (List ℕ)) (whole : List ℕ) → all_of log ≡ whole
    → ((k : ℕ) → sent_by (joined_place k) log ≡ slice_index_or lists k []) → HasAll lists whole
has_all log lists whole all known = (
  placed (length lists) log,
  numbers-placed (length lists) log ∙ all,
  λ k below. numbers_at-apart (length lists) k log (λ e. omega (arith, e, below)) ∙ known k,
)

-- ---- one list among all

first : (own : List ℕ) (places : List (ℕ × ℕ)) → numbers_at 0 places ≡ own → (k : ℕ) → k < length (own ∷ [])
    → numbers_at k places ≡ slice_index_or (own ∷ []) k []
first own places mine zero below = mine
first own places mine (suc k) below = absurd (omega (arith, below))

has_one : (own whole : List ℕ) (places : List (ℕ × ℕ)) → numbers places ≡ whole → numbers_at 0 places ≡ own → HasAll (own ∷ []) whole
has_one own whole places all mine = (places, all, first own places mine)

-- each number beside the place 1, which is not that of the one list
abbrev beside : List ℕ → List (ℕ × ℕ)
beside [] = []
beside (x ∷ xs) = (1, x) ∷ beside xs

numbers-beside : (xs : List ℕ) → numbers (beside xs) ≡ xs
numbers-beside [] = refl
numbers-beside (x ∷ xs) = ap (λ l. x ∷ l) (numbers-beside xs)

numbers_at-beside : (xs : List ℕ) → numbers_at 0 (beside xs) ≡ []
numbers_at-beside [] = refl
numbers_at-beside (x ∷ xs) = numbers_at-beside xs

pub has_nothing : (whole : List ℕ) → HasAll ([] ∷ []) whole
has_nothing whole = has_one [] whole (beside whole) (numbers-beside whole) (numbers_at-beside whole)

numbers-snoc : (places : List (ℕ × ℕ)) (x : ℕ) → numbers (places ++ (1, x) ∷ []) ≡ numbers places ++ x ∷ []
numbers-snoc [] x = refl
numbers-snoc (p ∷ ps) x = ap (λ l. p.1 ∷ l) (numbers-snoc ps x)

numbers_at-snoc : (places : List (ℕ × ℕ)) (x : ℕ) → numbers_at 0 (places ++ (1, x) ∷ []) ≡ numbers_at 0 places
numbers_at-snoc [] x = refl
numbers_at-snoc (p ∷ ps) x = both_ways (p.0 == 0) (p.0 == 0) p.1 _ _ refl (numbers_at-snoc ps x)

pub has_more : (own whole : List ℕ) (x : ℕ) → HasAll (own ∷ []) whole → HasAll (own ∷ []) (whole ++ x ∷ [])
has_more own whole x has =
    has_one own (whole ++ x ∷ []) (has.0 ++ (1, x) ∷ []) (numbers-snoc has.0 x ∙ ap (λ l. l ++ x ∷ []) has.1)
    (numbers_at-snoc has.0 x ∙ has.2 0 (omega arith))

-- the numbers of one sender have the place 0
abbrev chosen : Sender → List Put → List (ℕ × ℕ)
chosen s [] = []
chosen s (p ∷ ps) = (cond (is_same p.sender s) 0 1, p.number) ∷ chosen s ps

picked : (b : Bool) → (cond b 0 1 == 0) ≡ b
picked true = refl
picked false = refl

numbers-chosen : (s : Sender) (log : List Put) → numbers (chosen s log) ≡ all_of log
numbers-chosen s [] = refl
numbers-chosen s (p ∷ ps) = ap (λ l. p.number ∷ l) (numbers-chosen s ps)

numbers_at-chosen : (s : Sender) (log : List Put) → numbers_at 0 (chosen s log) ≡ sent_by s log
numbers_at-chosen s [] = refl
numbers_at-chosen s (p ∷ ps) =
    both_ways (cond (is_same p.sender s) 0 1 == 0) (is_same p.sender s) p.number _ _ (picked (is_same p.sender s)) (numbers_at-chosen s ps)

-- the log has all that one sender put
pub has_sent : (s : Sender) (log : List Put) → HasAll (sent_by s log ∷ []) (all_of log)
has_sent s log = has_one (sent_by s log) (all_of log) (chosen s log) (numbers-chosen s log) (numbers_at-chosen s log)
