-- The digests of a branch, one behind the other.
use Rattle.std.proofs.Common.{◌≡◌, ℕ, zero, suc, ◌+◌, ◌-◌, ◌*◌, ◌<◌, ◌≤◌, List, [], ◌∷◌, ◌++◌, length, take, drop, set, replicate, Option, Some, refl}
use Rattle.std.proofs.Common.{sym, ap, subst, ◌∙◌, append_assoc, arith}
use Rattle.std.specs.List.{flat_map, AllByRecursion}
use Rattle.std.proofs.lemmas.List.{take_at, drop_at, take-append-drop, length-append, length-take-le, length-drop, length-replicate, length-set}
use Rattle.std.proofs.lemmas.List.{take_more_set, drop-set-lt, drop-drop, drop-replicate, append-nil}
use Rattle.merkle_branch.specs.declared.Branch.{Branch}
use Rattle.merkle_branch.specs.Digests.{IsDigest, no_digest, height}
use Rattle.merkle_branch.specs.Branches.{siblings, IsPath}
use Rattle.merkle_branch.proofs.HeightLemmas.{height_low}
use Rattle.hb_wire.specs.Reading.{◌>>=◌, block_at, digests_in, branch_in, path_at}
use Rattle.hb_wire.proofs.FieldLemmas.{IsBytes, IsBytes-take, IsBytes-drop, bytes_from, bytes_at, Reads, some, some_is, bind_some, block_takes}
use Rattle.hb_wire.proofs.FieldLemmas.{block_again}

pub length-digests_in : (count : ℕ) (bytes : List ℕ) → length (digests_in count bytes) ≡ count
length-digests_in zero bytes = refl
length-digests_in (suc count) bytes = ap suc (length-digests_in count (drop 32 bytes))

joined : (count : ℕ) (bytes : List ℕ) → length bytes ≡ 32 * count → flat_map (λ digest. digest) (digests_in count bytes) ≡ bytes
joined zero [] size = refl
joined zero (b ∷ bytes) size = absurd (omega arith)
joined (suc count) bytes size =
    ap (λ (xs : List ℕ). take 32 bytes ++ xs) (joined count (drop 32 bytes) (omega (arith, length-drop 32 bytes)))
    ∙ take-append-drop 32 bytes

digests_read : (count : ℕ) (bytes : List ℕ) → length bytes ≡ 32 * count → IsBytes bytes → AllByRecursion IsDigest (digests_in count bytes)
digests_read zero bytes size fits = tt
digests_read (suc count) bytes size fits = (
  record { len = length-take-le 32 bytes (omega arith); bytes = bytes_from (take 32 bytes) (IsBytes-take 32 bytes fits) },
  digests_read count (drop 32 bytes) (omega (arith, length-drop 32 bytes)) (IsBytes-drop 32 bytes fits),
)

length-joined : (digests : List (List ℕ)) → AllByRecursion IsDigest digests → length (flat_map (λ digest. digest) digests) ≡ 32 * length digests
length-joined [] whole = refl
length-joined (digest ∷ digests) whole =
    let size : length digest ≡ 32 = whole.0.len in
    omega (arith, length-append digest (flat_map (λ d. d) digests), length-joined digests whole.1)

split : (digests : List (List ℕ)) → AllByRecursion IsDigest digests → digests_in (length digests) (flat_map (λ digest. digest) digests) ≡ digests
split [] whole = refl
split (digest ∷ digests) whole =
    let rest = flat_map (λ d. d) digests in
    ap (λ (xs : List ℕ). xs ∷ digests_in (length digests) (drop 32 (digest ++ rest))) (take_at digest rest 32 whole.0.len)
    ∙ ap (λ xs. digest ∷ digests_in (length digests) xs) (drop_at digest rest 32 whole.0.len)
    ∙ ap (λ xs. digest ∷ xs) (split digests whole.1)

-- the branch of digests that were read
siblings-branch_in : (n : ℕ) (bytes : List ℕ) → siblings (branch_in n bytes) ≡ digests_in (height n) bytes
unfolding branch_in
siblings-branch_in n bytes = take_at _ _ _ (length-digests_in (height n) bytes)

is_path : (n : ℕ) (bytes : List ℕ) → length bytes ≡ 32 * height n → IsBytes bytes → IsPath n (branch_in n bytes)
unfolding branch_in
is_path n bytes size fits =
    let h = height n in
    let low : h ≤ 4 = height_low n in
    let count : length (digests_in h bytes) ≡ h = length-digests_in h bytes in
    record {
      len = refl;
      padded = record {
        len = low;
        entries = omega (arith, length-append (digests_in h bytes) (replicate (4 - h) no_digest), length-replicate (4 - h) no_digest);
        rest = drop_at _ _ _ count;
      };
      digests = subst (AllByRecursion IsDigest) (sym (siblings-branch_in n bytes)) (digests_read h bytes size fits);
    }

path_takes : (n : ℕ) (bytes : List ℕ) (branch : Branch) (rest : List ℕ) → IsBytes bytes → path_at n bytes ≡ Some (branch, rest)
    → IsPath n branch × (bytes ≡ flat_map (λ digest. digest) (siblings branch) ++ rest) × IsBytes rest
unfolding path_at
path_takes n bytes branch rest fits e =
    let a = bind_some (block_at (32 * height n) bytes) (λ x. Some (branch_in n x.0, x.1)) (branch, rest) e in
    let t = block_takes (32 * height n) bytes a.0.0 a.0.1 fits a.1 in
    let spelled : flat_map (λ digest. digest) (siblings (branch_in n a.0.0)) ≡ a.0.0 = ap (flat_map (λ digest. digest)) (siblings-branch_in n a.0.0) ∙ joined (height n) a.0.0 t.0.0 in
    let whole : Branch × List ℕ = (branch_in n a.0.0, a.0.1) in
    subst (λ (w : Branch × List ℕ). IsPath n w.0 × (bytes ≡ flat_map (λ digest. digest) (siblings w.0) ++ w.1) × IsBytes w.1) (some_is whole (branch, rest) a.2)
    (is_path n a.0.0 t.0.0 (bytes_at a.0.0 t.0.1), t.1 ∙ ap (λ (xs : List ℕ). xs ++ a.0.1) (sym spelled), t.2)

pub length-siblings : (n : ℕ) (branch : Branch) → IsPath n branch → length (siblings branch) ≡ height n
length-siblings n branch is =
    let entries : length branch.digests ≡ 4 = is.padded.entries in
    let low : branch.len ≤ 4 = is.padded.len in
    length-take-le branch.len branch.digests (omega arith) ∙ is.len

-- a branch's digests have 32 bytes each
pub length-path : (n : ℕ) (branch : Branch) → IsPath n branch → length (flat_map (λ digest. digest) (siblings branch)) ≡ 32 * branch.len
length-path n branch is =
    length-joined (siblings branch) is.digests ∙ ap (λ k. 32 * k) (length-siblings n branch is ∙ sym is.len)

abbrev pub with_digests : ℕ → List (List ℕ) → Branch
with_digests len digests = record { len = len; digests = digests }

-- a branch is the one that is read from its digests
same_branch : (n : ℕ) (branch : Branch) → IsPath n branch → branch_in n (flat_map (λ digest. digest) (siblings branch)) ≡ branch
unfolding branch_in
same_branch n branch is =
    let count : length (siblings branch) ≡ height n = length-siblings n branch is in
    let read : digests_in (height n) (flat_map (λ digest. digest) (siblings branch)) ≡ siblings branch =
    ap (λ k. digests_in k (flat_map (λ digest. digest) (siblings branch))) (sym count) ∙ split (siblings branch) is.digests
    in
    let rest : replicate (4 - height n) no_digest ≡ drop branch.len branch.digests = ap (λ k. replicate (4 - k) no_digest) (sym is.len) ∙ sym is.padded.rest in
    ap (λ ds. with_digests (height n) (ds ++ replicate (4 - height n) no_digest)) read
    ∙ ap (λ ds. with_digests (height n) (siblings branch ++ ds)) rest
    ∙ ap (λ ds. with_digests (height n) ds) (take-append-drop branch.len branch.digests)
    ∙ ap (λ k. with_digests k branch.digests) (sym is.len)

path_again : (n : ℕ) (branch : Branch) (rest : List ℕ) → IsPath n branch
    → path_at n (flat_map (λ digest. digest) (siblings branch) ++ rest) ≡ Some (branch, rest)
unfolding path_at
path_again n branch rest is =
    let bytes = flat_map (λ digest. digest) (siblings branch) in
    let size : length bytes ≡ 32 * height n = length-joined (siblings branch) is.digests ∙ ap (λ k. 32 * k) (length-siblings n branch is) in
    ap (λ (r : Option (List ℕ × List ℕ)). r >>= λ x. Some (branch_in n x.0, x.1)) (block_again (32 * height n) bytes rest size)
    ∙ ap (λ b. some (b, rest)) (same_branch n branch is)

pub reads_path : (n : ℕ) → Reads (path_at n) (λ branch. flat_map (λ digest. digest) (siblings branch)) (IsPath n)
reads_path n = record { takes = path_takes n; again = path_again n }

-- ---- a loop over them

-- the digests below this level are copied
pub record Copies (h level : ℕ) (path rest : List ℕ) (digests : List (List ℕ)) : Type 0 where
  pub left : length rest ≡ 32 * (h - level)
  pub taken : take level digests ++ digests_in (h - level) rest ≡ digests_in h path
  pub free : drop level digests ≡ replicate (4 - level) no_digest
  pub entries : length digests ≡ 4

pub copy_begins : (h : ℕ) (path : List ℕ) (digests : List (List ℕ)) → length path ≡ 32 * h → digests ≡ replicate 4 no_digest
    → Copies h 0 path path digests
copy_begins h path digests size zeros =
    let all : h - 0 ≡ h = omega arith in
    record {
      left = size ∙ ap (λ k. 32 * k) (sym all);
      taken = ap (λ k. digests_in k path) all;
      free = zeros;
      entries = ap length zeros;
    }

pub copy_left : (h level : ℕ) (path rest : List ℕ) (digests : List (List ℕ)) → level < h → Copies h level path rest digests → 32 ≤ length rest
copy_left h level path rest digests below copies = omega (arith, copies.left)

pub copy_goes_on : (h level : ℕ) (path rest digest above : List ℕ) (digests : List (List ℕ)) → level < h → h ≤ 4 → digest ≡ take 32 rest
    → above ≡ drop 32 rest → Copies h level path rest digests
    → Copies h (level + 1) path above (set digests level digest)
copy_goes_on h level path rest digest above digests below low front back copies =
    let step : h - level ≡ suc (h - (level + 1)) = omega arith in
    let left : 4 - level - 1 ≡ 4 - (level + 1) = omega arith in
    let entries : length digests ≡ 4 = copies.entries in
    record {
      left = ap length back ∙ length-drop 32 rest ∙ omega (arith, copies.left);
      taken = ap (λ xs. xs ++ digests_in (h - (level + 1)) above) (take_more_set digests level digest (omega arith))
          ∙ append_assoc (take level digests) (digest ∷ []) (digests_in (h - (level + 1)) above)
          ∙ ap (λ d. take level digests ++ d ∷ digests_in (h - (level + 1)) above) front
          ∙ ap (λ bs. take level digests ++ take 32 rest ∷ digests_in (h - (level + 1)) bs) back
          ∙ ap (λ k. take level digests ++ digests_in k rest) (sym step)
          ∙ copies.taken;
      free = drop-set-lt (level + 1) digests level digest (omega arith)
          ∙ sym (drop-drop 1 level digests)
          ∙ ap (drop 1) copies.free
          ∙ drop-replicate 1 (4 - level) no_digest
          ∙ ap (λ n. replicate n no_digest) left;
      entries = length-set digests level digest ∙ entries;
    }

-- the branch is made once all are copied
pub copy_ends : (n level : ℕ) (path rest : List ℕ) (digests : List (List ℕ)) → level ≡ height n → Copies (height n) level path rest digests
    → with_digests (height n) digests ≡ branch_in n path
unfolding branch_in
copy_ends n level path rest digests ends copies =
    let none : height n - level ≡ 0 = omega arith in
    let taken : take level digests ≡ digests_in (height n) path =
    sym (append-nil (take level digests)) ∙ ap (λ k. take level digests ++ digests_in k rest) (sym none) ∙ copies.taken
    in
    let whole : digests ≡ digests_in (height n) path ++ replicate (4 - height n) no_digest =
    sym (take-append-drop level digests)
    ∙ ap (λ xs. xs ++ drop level digests) taken
    ∙ ap (λ xs. digests_in (height n) path ++ xs) copies.free
    ∙ ap (λ k. digests_in (height n) path ++ replicate (4 - k) no_digest) ends
    in
    ap (with_digests (height n)) whole
