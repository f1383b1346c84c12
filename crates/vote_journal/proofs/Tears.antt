-- What writes and cuts leave of a half that holds entries, done or cut short by a crash.
use Rattle.std.proofs.Common.{◌≡◌, ◌≤◌, ◌<◌, ◌+◌, ◌^◌, ◌==◌, ◌⊎◌, inl, inr, ⊎_elim, ℕ, false, zero, suc, List, [], ◌∷◌, ◌++◌, length, take}
use Rattle.std.proofs.Common.{drop, slice_index, refl, sym, ◌∙◌, ap, subst, arith}
use Rattle.std.proofs.lemmas.Bool.{cases_Bool, cases_order, eqb-true}
use Rattle.std.proofs.lemmas.List.{length-append, append_assoc, append-nil, take_at, drop_at, drop-drop, take-append-drop, length-take-le}
use Rattle.std.proofs.lemmas.List.{ext_get_or, get_or-take, get_or_append_left, get_or_at}
use Rattle.disk_model.specs.Disk.{TornWrite, Cut, overwritten}
use Rattle.vote_journal.specs.Text.{magic, size_bytes, blocks, AreShort, HoldsEntries}
use Rattle.vote_journal.proofs.Blocks.{gate_first}

-- a list that agrees with the front of another begins with it
pub front_same : (front back new : List ℕ) → length front ≤ length new
    → ((k : ℕ) → k < length front → slice_index new k ≡ slice_index (front ++ back) k) → new ≡ front ++ drop (length front) new
front_same front back new h same =
    let long : length (take (length front) new) ≡ length front = length-take-le (length front) new h in
    let is : take (length front) new ≡ front = ext_get_or 0 _ _ long (λ k l.
    let m : k < length front = omega (arith, l, long) in
    get_or-take (length front) new k 0 m ∙ same k m ∙ get_or_append_left front back 0 k m) in
    sym (take-append-drop (length front) new) ∙ ap (λ (xs : List ℕ). xs ++ drop (length front) new) is

pub front_torn : (front back new : List ℕ) (at n : ℕ) → length front ≤ at → TornWrite at n (front ++ back) new → new ≡ front ++ drop (length front) new
front_torn front back new at n h torn =
    front_same front back new (omega (arith, torn.no_shorter, length-append front back)) (λ k l.
    torn.below k (omega (arith, l, length-append front back)) (omega (arith, l, h)))

-- what stands behind a byte doesn't depend on it
pub later : (front back : List ℕ) (x y k : ℕ) → length front < k → slice_index (front ++ x ∷ back) k ≡ slice_index (front ++ y ∷ back) k
later [] back x y zero h = absurd (omega (arith, h))
later [] back x y (suc k) h = refl
later (f ∷ front) back x y zero h = absurd (omega (arith, h))
later (f ∷ front) back x y (suc k) h = later front back x y k (omega (arith, h))

-- one byte that is torn is some byte, between what stood before it and behind it
pub byte_torn : (front back new : List ℕ) (old at : ℕ) → at ≡ length front → TornWrite at 1 (front ++ old ∷ back) new → new ≡ front ++ slice_index new at ∷ back
byte_torn front back new old at e torn =
    let long = length-append front (old ∷ back) in
    let made = length-append front (slice_index new at ∷ back) in
    let same : length new ≡ length (front ++ slice_index new at ∷ back) = omega (arith, torn.no_shorter, torn.no_longer, long, made, e) in
    ext_get_or 0 _ _ same (λ k l. ⊎_elim
    (λ (here : k ≡ at). ap (slice_index new) here ∙ sym (get_or_at front (slice_index new at) back 0 k (sym e ∙ sym here)))
    (λ apart. ⊎_elim
    (λ (before : k < at).
    let m : k < length front = omega (arith, before, e) in
    torn.below k (omega (arith, l, same, made, long)) before ∙ get_or_append_left front (old ∷ back) 0 k m
    ∙ sym (get_or_append_left front (slice_index new at ∷ back) 0 k m))
    (λ (past : at < k).
    torn.above k (omega (arith, l, same, made, long)) (omega (arith, past)) ∙ later front back old (slice_index new at) k (omega (arith, past, e)))
    apart)
    (cases_order k at))

-- a write at the end of a front
pub over_at : (front back bytes : List ℕ) (at : ℕ) → at ≡ length front → overwritten at bytes (front ++ back) ≡ front ++ (bytes ++ drop (length bytes) back)
over_at front back bytes at e =
    let f : take at (front ++ back) ≡ front = take_at front back at (sym e) in
    let d : drop (at + length bytes) (front ++ back) ≡ drop (length bytes) back = sym (drop-drop (length bytes) at (front ++ back))
    ∙ ap (drop (length bytes)) (drop_at front back at (sym e)) in
    ap (λ (xs : List ℕ). xs ++ bytes ++ drop (at + length bytes) (front ++ back)) f ∙ ap (λ (xs : List ℕ). front ++ bytes ++ xs) d
    ∙ append_assoc front bytes (drop (length bytes) back)

-- the magic and the blocks, with and without the gate behind them
abbrev front_of : List (List ℕ) → List ℕ
front_of entries = magic ++ blocks entries

length-front_of : (entries : List (List ℕ)) → length (front_of entries) ≡ 8 + length (blocks entries)
length-front_of entries = omega (arith, length-append magic (blocks entries))

at_gate : (entries : List (List ℕ)) (gate : ℕ) (tail : List ℕ) → magic ++ (blocks entries ++ gate ∷ tail) ≡ front_of entries ++ gate ∷ tail
at_gate entries gate tail = sym (append_assoc magic (blocks entries) (gate ∷ tail))

past_gate : (entries : List (List ℕ)) (gate : ℕ) (tail : List ℕ) → magic ++ (blocks entries ++ gate ∷ tail) ≡ (front_of entries ++ gate ∷ []) ++ tail
past_gate entries gate tail = at_gate entries gate tail ∙ sym (append_assoc (front_of entries) (gate ∷ []) tail)

length-past_gate : (entries : List (List ℕ)) (gate : ℕ) → length (front_of entries ++ gate ∷ []) ≡ 9 + length (blocks entries)
length-past_gate entries gate = omega (arith, length-append (front_of entries) (gate ∷ []), length-front_of entries)

-- the bytes of an entry stand behind a closed gate, and a closed gate behind them
pub record Staged (half : List ℕ) (entries : List (List ℕ)) (payload : List ℕ) : Type 0 where
  pub gate : ℕ
  pub tail : List ℕ
  pub is : half ≡ magic ++ (blocks entries ++ gate ∷ (size_bytes (length payload) ++ (payload ++ 0 ∷ tail)))
  pub closed : (gate == 0x5A) ≡ false
  pub short : AreShort entries

-- a write behind the gate leaves the entries
pub torn_behind : (half new : List ℕ) (entries : List (List ℕ)) (at n : ℕ) → HoldsEntries half entries → 9 + length (blocks entries) ≤ at
    → TornWrite at n half new → HoldsEntries new entries
torn_behind half new entries at n holds h torn =
    let front = front_of entries ++ holds.gate ∷ [] in
    let was : half ≡ front ++ holds.tail = holds.is ∙ past_gate entries holds.gate holds.tail in
    let is = front_torn front holds.tail new at n (omega (arith, h, length-past_gate entries holds.gate))
    (subst (λ (xs : List ℕ). TornWrite at n xs new) was torn) in
    record {
      gate = holds.gate;
      tail = drop (length front) new;
      is = is ∙ sym (past_gate entries holds.gate (drop (length front) new));
      closed = holds.closed;
      short = holds.short;
    }

pub cut_behind : (half new : List ℕ) (entries : List (List ℕ)) (n : ℕ) → HoldsEntries half entries → 9 + length (blocks entries) ≤ n → Cut n half new
    → HoldsEntries new entries
cut_behind half new entries n holds h cut =
    let front = front_of entries ++ holds.gate ∷ [] in
    let was : half ≡ front ++ holds.tail = holds.is ∙ past_gate entries holds.gate holds.tail in
    let c = subst (λ (xs : List ℕ). Cut n xs new) was cut in
    let long = length-past_gate entries holds.gate in
    let enough : length front ≤ length new = omega (arith, c.no_shorter, long, h, length-append front holds.tail) in
    let is = front_same front holds.tail new enough (λ k l. c.front k (omega (arith, l, long, h)) (omega (arith, l, enough))) in
    record {
      gate = holds.gate;
      tail = drop (length front) new;
      is = is ∙ sym (past_gate entries holds.gate (drop (length front) new));
      closed = holds.closed;
      short = holds.short;
    }

-- an entry written behind the gate is staged
pub staged : (half : List ℕ) (entries : List (List ℕ)) (payload bytes : List ℕ) (at : ℕ) → HoldsEntries half entries → at ≡ 9 + length (blocks entries)
    → bytes ≡ size_bytes (length payload) ++ (payload ++ 0 ∷ [])
    → Staged (overwritten at bytes half) entries payload
staged half entries payload bytes at holds e b =
    let front = front_of entries ++ holds.gate ∷ [] in
    let rest = drop (length bytes) holds.tail in
    let is : overwritten at bytes half ≡ front ++ (bytes ++ rest) =
    ap (overwritten at bytes) (holds.is ∙ past_gate entries holds.gate holds.tail)
    ∙ over_at front holds.tail bytes at (e ∙ sym (length-past_gate entries holds.gate)) in
    let order : bytes ++ rest ≡ size_bytes (length payload) ++ (payload ++ 0 ∷ rest) =
    ap (λ (xs : List ℕ). xs ++ rest) b ∙ append_assoc (size_bytes (length payload)) (payload ++ 0 ∷ []) rest
    ∙ ap (λ (xs : List ℕ). size_bytes (length payload) ++ xs) (append_assoc payload (0 ∷ []) rest) in
    record {
      gate = holds.gate;
      tail = rest;
      is = is ∙ ap (λ (xs : List ℕ). front ++ xs) order
          ∙ sym (past_gate entries holds.gate (size_bytes (length payload) ++ (payload ++ 0 ∷ rest)));
      closed = holds.closed;
      short = holds.short;
    }

-- one entry more
blocks_more : (entries : List (List ℕ)) (payload tail : List ℕ)
    → blocks entries ++ 0x5A ∷ (size_bytes (length payload) ++ (payload ++ 0 ∷ tail)) ≡ blocks (entries ++ payload ∷ []) ++ 0 ∷ tail
blocks_more [] payload tail = ap (λ (xs : List ℕ). 0x5A ∷ (size_bytes (length payload) ++ (xs ++ 0 ∷ tail))) (sym (append-nil payload))
blocks_more (entry ∷ entries) payload tail =
    let more = 0x5A ∷ (size_bytes (length payload) ++ (payload ++ 0 ∷ tail)) in
    ap (λ (xs : List ℕ). 0x5A ∷ (size_bytes (length entry) ++ xs)) (append_assoc entry (blocks entries) more
    ∙ ap (λ (xs : List ℕ). entry ++ xs) (blocks_more entries payload tail) ∙ sym (append_assoc entry (blocks (entries ++ payload ∷ [])) (0 ∷ tail)))

short_more : (entries : List (List ℕ)) (payload : List ℕ) → AreShort entries → length payload < 2 ^ 32 → AreShort (entries ++ payload ∷ [])
short_more [] payload short h = (h, tt)
short_more (entry ∷ entries) payload short h = (short.0, short_more entries payload short.1 h)

-- an open gate before a staged entry makes it one entry more
opens : (half : List ℕ) (entries : List (List ℕ)) (payload tail : List ℕ) (gate : ℕ)
    → half ≡ front_of entries ++ gate ∷ (size_bytes (length payload) ++ (payload ++ 0 ∷ tail)) → gate ≡ 0x5A → AreShort entries → length payload < 2 ^ 32
    → HoldsEntries half (entries ++ payload ∷ [])
opens half entries payload tail gate is raised short h =
    let bytes = size_bytes (length payload) ++ (payload ++ 0 ∷ tail) in
    record {
      gate = 0;
      tail = tail;
      is = is ∙ ap (λ (g : ℕ). front_of entries ++ g ∷ bytes) raised ∙ append_assoc magic (blocks entries) (0x5A ∷ bytes)
          ∙ ap (λ (xs : List ℕ). magic ++ xs) (blocks_more entries payload tail);
      closed = refl;
      short = short_more entries payload short h;
    }

pub gate_opened : (half : List ℕ) (entries : List (List ℕ)) (payload : List ℕ) (at : ℕ) → Staged half entries payload
    → at ≡ 8 + length (blocks entries) → length payload < 2 ^ 32
    → HoldsEntries (overwritten at (0x5A ∷ []) half) (entries ++ payload ∷ [])
gate_opened half entries payload at staged e h =
    let bytes = size_bytes (length payload) ++ (payload ++ 0 ∷ staged.tail) in
    opens _ entries payload staged.tail 0x5A (ap (overwritten at (0x5A ∷ [])) (staged.is ∙ at_gate entries staged.gate bytes)
    ∙ over_at (front_of entries) (staged.gate ∷ bytes) (0x5A ∷ []) at (e ∙ sym (length-front_of entries))) refl staged.short h

-- a gate that is torn leaves the entries, or makes it one entry more
pub gate_torn : (half new : List ℕ) (entries : List (List ℕ)) (payload : List ℕ) (at : ℕ) → Staged half entries payload
    → at ≡ 8 + length (blocks entries) → length payload < 2 ^ 32 → TornWrite at 1 half new
    → HoldsEntries new entries ⊎ HoldsEntries new (entries ++ payload ∷ [])
gate_torn half new entries payload at staged e h torn =
    let bytes = size_bytes (length payload) ++ (payload ++ 0 ∷ staged.tail) in
    let is = byte_torn (front_of entries) bytes new staged.gate at (e ∙ sym (length-front_of entries))
    (subst (λ (xs : List ℕ). TornWrite at 1 xs new) (staged.is ∙ at_gate entries staged.gate bytes) torn) in
    ⊎_elim
    (λ raised. inr (opens new entries payload staged.tail (slice_index new at) is (eqb-true _ _ raised) staged.short h))
    (λ closed. inl (record {
      gate = slice_index new at;
      tail = bytes;
      is = is ∙ sym (at_gate entries (slice_index new at) bytes);
      closed = closed;
      short = staged.short;
    }))
    (cases_Bool (slice_index new at == 0x5A))

-- the first gate of a half that has entries, when it is closed
pub gate_shut : (half : List ℕ) (entries : List (List ℕ)) → HoldsEntries half entries → HoldsEntries (overwritten 8 (0 ∷ []) half) []
gate_shut half entries holds =
    let first = gate_first entries holds.gate holds.tail in
    record {
      gate = 0;
      tail = first.1;
      is = ap (overwritten 8 (0 ∷ [])) (holds.is ∙ ap (λ (xs : List ℕ). magic ++ xs) first.2) ∙ over_at magic (first.0 ∷ first.1) (0 ∷ []) 8 refl;
      closed = refl;
      short = tt;
    }

pub shut_torn : (half new : List ℕ) (entry : List ℕ) (entries : List (List ℕ)) → HoldsEntries half (entry ∷ entries) → TornWrite 8 1 half new
    → HoldsEntries new (entry ∷ entries) ⊎ HoldsEntries new []
shut_torn half new entry entries holds torn =
    let rest = size_bytes (length entry) ++ ((entry ++ blocks entries) ++ holds.gate ∷ holds.tail) in
    let is = byte_torn magic rest new 0x5A 8 refl (subst (λ (xs : List ℕ). TornWrite 8 1 xs new) holds.is torn) in
    ⊎_elim
    (λ raised. inl (record {
      gate = holds.gate;
      tail = holds.tail;
      is = is ∙ ap (λ (g : ℕ). magic ++ g ∷ rest) (eqb-true _ _ raised);
      closed = holds.closed;
      short = holds.short;
    }))
    (λ closed. inr (record { gate = slice_index new 8; tail = rest; is = is; closed = closed; short = tt }))
    (cases_Bool (slice_index new 8 == 0x5A))

-- what a cut to the first gate leaves
pub cut_done : (half : List ℕ) → HoldsEntries half [] → HoldsEntries (take 9 half) []
cut_done half holds = record {
  gate = holds.gate;
  tail = [];
  is = ap (take 9) (holds.is ∙ past_gate [] holds.gate holds.tail) ∙ take_at (front_of [] ++ holds.gate ∷ []) holds.tail 9 refl;
  closed = holds.closed;
  short = tt;
}

pub length-cut : (half : List ℕ) → HoldsEntries half [] → length (take 9 half) ≡ 9
length-cut half holds =
    ap length (ap (take 9) (holds.is ∙ past_gate [] holds.gate holds.tail) ∙ take_at (front_of [] ++ holds.gate ∷ []) holds.tail 9 refl)
