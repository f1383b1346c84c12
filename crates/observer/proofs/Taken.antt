-- What an observer keeps stands for the posts that it has heard.
use Rattle.std.proofs.Common.{◌≡◌, ℕ, zero, suc, ◌+◌, ◌<◌, ◌≤◌, ◌&&◌, ◌||◌, ◌==◌, not, nat_lt, nat_le, bytes_eq, Bool, true, false, inl, inr, is_some, is_none, List, [], ◌∷◌, ◌++◌, set, slice_index_or, Option, None, Some, if◌then◌else◌, refl, sym, ap, ◌∙◌, subst, arith, get_or-set_other}
use Rattle.std.specs.Option.{option_and_then, option_or, option_map}
use Rattle.std.specs.Cmp.Lexicographic.{bytes_decides}
use Rattle.std.proofs.lemmas.Bool.{and_parts, eqb-true, eq-eqb, lt-ltb, ltb-true, leb-true, both_ways, cases_Bool, false_from_ne_true, cases_lt}
use Rattle.std.proofs.lemmas.List.{get_or-set_same}
use Rattle.hb_base.specs.Counting.{count_nodes}
use Rattle.hb_base.specs.Limits.{most_nodes}
use Rattle.hb_base.specs.NodeSet.{is_in}
use Rattle.hb_base.specs.Numbers.{Numbers}
use Rattle.hb_wire.specs.declared.items.Item.{Item}
use Rattle.hb_wire.specs.declared.vote.Vote.{Vote}
use Rattle.hb_wire.specs.declared.vote.Vote.TheVariants.{Closed}
use Rattle.hb_wire.specs.declared.post.Post.{Post}
use Rattle.hb_wire.specs.Votes.{spelling}
use Rattle.hb_wire.specs.Reading.{vote_at}
use Rattle.hb_wire.proofs.VoteLemmas.{vote_takes}
use Rattle.acs_world.specs.Closed.{Closure, closing}
use Rattle.observer.specs.Claims.{Table, nodes_at, Sets}
use Rattle.observer.specs.Observed.{claim_of, has_claimed, claim_count, is_new, adds_node, taken_list, reached, observed_list, observed}
use Rattle.observer.specs.Standing.{ObserverView, closed_list, list_at, ledger_of, closes_one, IsSoundView, HasHeard, takes, taken_with}
use Rattle.observer.proofs.Chained.{same_lists}
use Rattle.observer.proofs.Claimed.{IsClaimOf, claim_is, makes, has_push, makes_own, makes_no_other, same_said, reached_many, taken_many, never_many, observed_push}

-- ---- counts

-- where two tests agree on the nodes below n, and the second fails from n on
pub count_below : (n m : ℕ) (p q : ℕ → Bool) → n ≤ m → ((a : ℕ) → q a ≡ (nat_lt a n && p a)) → count_nodes m q ≡ count_nodes n p
count_below n zero p q low same = ap (λ (k : ℕ). count_nodes k p) (let none : 0 ≡ n = omega (arith, low) in none)
count_below n (suc m) p q low same = elim (cases_lt m n) [
  | inl whole ↦
      let all : suc m ≡ n = omega (arith, low, whole) in
      each (suc m) (λ a inside. same a ∙ ap (λ (b : Bool). b && p a) (lt-ltb a n (omega (arith, inside, all))))
      ∙ ap (λ (k : ℕ). count_nodes k p) all
  | inr past ↦
      let outside : nat_lt m n ≡ false = false_from_ne_true (nat_lt m n) (λ h. omega (arith, past, ltb-true m n h)) in
      let fails : q m ≡ false = same m ∙ ap (λ (b : Bool). b && p m) outside in
      rw fails (omega (arith, count_below n m p q (omega (arith, past)) same))
]
  where
    each : (k : ℕ) → ((a : ℕ) → a < k → q a ≡ p a) → count_nodes k q ≡ count_nodes k p
    each zero alike = refl
    each (suc k) alike = rw (alike k (omega arith), each k (λ a inside. alike a (omega (arith, inside)))) refl

-- the same test of the nodes below n
pub same_count : (n : ℕ) (p q : ℕ → Bool) → ((a : ℕ) → a < n → p a ≡ q a) → count_nodes n p ≡ count_nodes n q
same_count zero p q same = refl
same_count (suc n) p q same = rw (same n (omega arith), same_count n p q (λ a inside. same a (omega (arith, inside)))) refl

-- ---- bytes and claims

-- the claim of the same bytes is the same
same_claim : (c : Numbers) (bytes other : List ℕ) (one two : Closure) → vote_at c.n c.version bytes ≡ Some (Closed one.0 one.1)
    → vote_at c.n c.version other ≡ Some (Closed two.0 two.1) → bytes ≡ other → one ≡ two
same_claim c bytes other one two first second same =
    let votes : Some (Closed one.0 one.1) ≡ Some (Closed two.0 two.1) = sym first ∙ ap (vote_at c.n c.version) same ∙ second in
    let epoch : one.0 ≡ two.0 = cc (votes) in
    let list : one.1 ≡ two.1 = cc (votes) in
    ap (λ (e : ℕ). (e, one.1)) epoch ∙ ap (λ (l : List Item). (two.0, l)) list

-- and the bytes of the same claim are the same
same_bytes : (c : Numbers) (bytes other : List ℕ) (one two : Closure) → vote_at c.n c.version bytes ≡ Some (Closed one.0 one.1)
    → vote_at c.n c.version other ≡ Some (Closed two.0 two.1) → one ≡ two → bytes ≡ other
same_bytes c bytes other one two first second same =
    (vote_takes c.n c.version bytes (Closed one.0 one.1) first).spelled
    ∙ ap (λ (x : Closure). spelling (Closed x.0 x.1)) same
    ∙ sym (vote_takes c.n c.version other (Closed two.0 two.1) second).spelled

pub closed_list_is : (c : Numbers) (bytes : List ℕ) (claim : Closure) → vote_at c.n c.version bytes ≡ Some (Closed claim.0 claim.1)
    → closed_list c bytes ≡ Some claim.1
closed_list_is c bytes claim is =
    ap (λ (o : Option Vote). option_map (λ (x : Closure). x.1) (option_and_then closing o)) is

-- ---- nothing heard

pub heard_none : (o : ObserverView) → ((bytes : List ℕ) (a : ℕ) → is_in (nodes_at o.claims bytes) a ≡ false)
    → ((e : ℕ) → slice_index_or o.taken e None ≡ None) → HasHeard o []
heard_none o empty none = record {
  nodes = λ bytes claim a is inside. empty bytes a ∙ sym (nobody (nat_lt a o.config.n));
  lists = λ e inside. ap (option_and_then (closed_list o.config)) (none e);
}
  where
    nobody : (b : Bool) → (b && false) ≡ false
    nobody true = refl
    nobody false = refl

-- ---- a post that adds no node

pub heard_nothing : (o : ObserverView) (heard : List Post) (post : Post) → HasHeard o heard → adds_node o.config heard post ≡ false
    → HasHeard o (heard ++ post ∷ [])
heard_nothing o heard post has nothing = record {
  nodes = λ bytes claim a is inside. has.nodes bytes claim a is inside ∙ nodes claim a inside;
  lists = λ e inside. has.lists e inside ∙ sym (lists e inside);
}
  where
    c : Numbers
    c = o.config

    all : List Post
    all = heard ++ post ∷ []

    nodes : (claim : Closure) (a : ℕ) → claim.0 < c.epochs → (nat_lt a c.n && has_claimed c heard claim a) ≡ (nat_lt a c.n && has_claimed c all claim a)
    nodes claim a inside = by (nat_lt a c.n) refl
      where
        by : (b : Bool) → nat_lt a c.n ≡ b → (b && has_claimed c heard claim a) ≡ (b && has_claimed c all claim a)
        by false past = refl
        by true known = sym (same_said c heard post claim a nothing (ltb-true a c.n known) inside)

    unreached : (e : ℕ) → e < c.epochs → observed_list c heard e ≡ None → (r : Option (List Item)) → reached c all e post ≡ r → r ≡ None
    unreached e inside none None is = refl
    unreached e inside none (Some list) is =
        let many : c.f + 1 ≤ claim_count c all (e, list) = reached_many c all e post list is in
        let same : claim_count c all (e, list) ≡ claim_count c heard (e, list) =
        same_count c.n (has_claimed c all (e, list)) (has_claimed c heard (e, list)) (λ a known. same_said c heard post (e, list) a nothing known inside) in
        absurd (never_many c e heard list inside none (omega (arith, many, same)))

    lists : (e : ℕ) → e < c.epochs → observed_list c all e ≡ observed_list c heard e
    lists e inside = observed_push c e heard post ∙ by (observed_list c heard e) refl
      where
        by : (x : Option (List Item)) → observed_list c heard e ≡ x → option_or x (reached c all e post) ≡ x
        by (Some list) is = refl
        by None is = unreached e inside is (reached c all e post) refl

-- ---- a post that adds one

-- the nodes of a claim, once the node of a post is among them
pub record IsCounted (o : ObserverView) (post : Post) (claim : Closure) (nodes : List Bool) : Type 0 where
  pub claims : claim_of o.config post ≡ Some claim
  pub new : is_in (nodes_at o.claims post.bytes) post.from ≡ false
  pub more : (a : ℕ) → is_in nodes a ≡ ((a == post.from) || is_in (nodes_at o.claims post.bytes) a)

counted_node : (o : ObserverView) (heard : List Post) (post : Post) (claim : Closure) (nodes : List Bool) → HasHeard o heard
    → IsCounted o post claim nodes → (a : ℕ) → is_in nodes a ≡ (nat_lt a o.config.n && has_claimed o.config (heard ++ post ∷ []) claim a)
counted_node o heard post claim nodes has counted a =
    counted.more a ∙ ap (λ (b : Bool). (a == post.from) || b) (has.nodes post.bytes claim a is.spells is.inside)
    ∙ by (a == post.from) refl (nat_lt a o.config.n) refl
    ∙ ap (λ (b : Bool). nat_lt a o.config.n && b) (sym (has_push o.config heard post claim a))
  where
    is : IsClaimOf o.config post claim
    is = claim_is o.config post claim counted.claims

    had : Bool
    had = has_claimed o.config heard claim a

    by : (b : Bool) → (a == post.from) ≡ b → (k : Bool) → nat_lt a o.config.n ≡ k
        → (b || (k && had)) ≡ (k && (had || makes o.config claim a post))
    by true same true known =
        let here : post.from ≡ a = sym (eqb-true a post.from same) in
        let now : makes o.config claim a post ≡ true =
        ap (λ (m : ℕ). makes o.config claim m post) (sym here) ∙ makes_own o.config post claim counted.claims in
        rw now (sym (anyway had))
      where
        anyway : (h : Bool) → (h || true) ≡ true
        anyway true = refl
        anyway false = refl
    by true same false past =
        absurd (both_ways (nat_lt a o.config.n) past (lt-ltb a o.config.n (omega (arith, is.known, eqb-true a post.from same))))
    by false apart true known =
        let not_now : makes o.config claim a post ≡ false =
        makes_no_other o.config post claim a (ltb-true a o.config.n known) is.inside (λ from claims.
        both_ways (a == post.from) apart (eq-eqb a post.from (sym from))) in
        rw not_now (sym (alone had))
      where
        alone : (h : Bool) → (h || false) ≡ h
        alone true = refl
        alone false = refl
    by false apart false past = refl

-- what is kept once the claim was counted
abbrev pub with_claims : ObserverView → Table → ℕ → List Bool → List ℕ → ObserverView
with_claims o claims e nodes bytes = record { config = o.config; claims = claims; taken = taken_with o e nodes bytes }

counted_nodes : (o : ObserverView) (claims : Table) (heard : List Post) (post : Post) (claim : Closure) (nodes : List Bool) → HasHeard o heard
    → IsCounted o post claim nodes → Sets o.claims claims post.bytes nodes
    → (bytes : List ℕ) (other : Closure) (a : ℕ) → vote_at o.config.n o.config.version bytes ≡ Some (Closed other.0 other.1)
    → other.0 < o.config.epochs
    → is_in (nodes_at claims bytes) a ≡ (nat_lt a o.config.n && has_claimed o.config (heard ++ post ∷ []) other a)
counted_nodes o claims heard post claim nodes has counted sets bytes other a spells inside =
    ap (λ (set : List Bool). is_in set a) (sets.is bytes) ∙ by (bytes_eq post.bytes bytes) refl
  where
    is : IsClaimOf o.config post claim
    is = claim_is o.config post claim counted.claims

    by : (b : Bool) → bytes_eq post.bytes bytes ≡ b
        → is_in (if b then nodes else nodes_at o.claims bytes) a ≡ (nat_lt a o.config.n && has_claimed o.config (heard ++ post ∷ []) other a)
    by true same =
        let one : claim ≡ other =
        same_claim o.config post.bytes bytes claim other is.spells spells ((bytes_decides post.bytes bytes).0 same) in
        counted_node o heard post claim nodes has counted a
        ∙ ap (λ (x : Closure). nat_lt a o.config.n && has_claimed o.config (heard ++ post ∷ []) x a) one
    by false apart =
        has.nodes bytes other a spells inside ∙ below (nat_lt a o.config.n) refl
        ∙ ap (λ (b : Bool). nat_lt a o.config.n && b) (sym (has_push o.config heard post other a))
      where
        no_other : claim_of o.config post ≡ Some other → ⊥
        no_other claims =
            let one : claim ≡ other = cc (counted.claims, claims) in
            both_ways (bytes_eq post.bytes bytes) apart
            ((bytes_decides post.bytes bytes).1 (same_bytes o.config post.bytes bytes claim other is.spells spells one))

        alone : (h b : Bool) → b ≡ false → h ≡ (h || b)
        alone true b misses = refl
        alone false b misses = sym misses

        below : (k : Bool) → nat_lt a o.config.n ≡ k
            → (k && has_claimed o.config heard other a) ≡ (k && (has_claimed o.config heard other a || makes o.config other a post))
        below false past = refl
        below true known =
            alone (has_claimed o.config heard other a) (makes o.config other a post)
            (makes_no_other o.config post other a (ltb-true a o.config.n known) inside (λ from claims. no_other claims))

-- the places of other epochs stay
taken_other : (o : ObserverView) (e d : ℕ) (nodes : List Bool) (bytes : List ℕ) → (d ≡ e → ⊥)
    → slice_index_or (taken_with o e nodes bytes) d None ≡ slice_index_or o.taken d None
taken_other o e d nodes bytes apart = by (takes o e nodes)
  where
    by : (b : Bool) → slice_index_or (if b then set o.taken e (Some bytes) else o.taken) d None ≡ slice_index_or o.taken d None
    by true = get_or-set_other o.taken e d (Some bytes) None apart
    by false = refl

-- the list of the claim's epoch
counted_list : (o : ObserverView) (claims : Table) (heard : List Post) (post : Post) (claim : Closure) (nodes : List Bool) → o.config.n ≤ most_nodes
    → IsSoundView o → HasHeard o heard → IsCounted o post claim nodes
    → list_at (with_claims o claims claim.0 nodes post.bytes) claim.0 ≡ observed_list o.config (heard ++ post ∷ []) claim.0
counted_list o claims heard post claim nodes few sound has counted =
    by (slice_index_or o.taken claim.0 None) refl
    ∙ ap (option_or (observed_list c heard claim.0)) (sym now)
    ∙ sym (observed_push c claim.0 heard post)
  where
    c : Numbers
    c = o.config

    all : List Post
    all = heard ++ post ∷ []

    is : IsClaimOf c post claim
    is = claim_is c post claim counted.claims

    here : (claim.0 == claim.0) ≡ true
    here = eq-eqb claim.0 claim.0 refl

    now : reached c all claim.0 post ≡ taken_list c all claim.0 claim
    now = ap (option_and_then (taken_list c all claim.0)) counted.claims

    before : list_at o claim.0 ≡ observed_list c heard claim.0
    before = has.lists claim.0 is.inside

    many : count_nodes most_nodes (is_in nodes) ≡ claim_count c all claim
    many = count_below c.n most_nodes (has_claimed c all claim) (is_in nodes) few (counted_node o heard post claim nodes has counted)

    list_of : Option (List ℕ) → Option (List Item)
    list_of slot = option_and_then (closed_list c) slot

    -- an epoch without a list
    fresh : (slot : Option (List ℕ)) → slot ≡ None → slice_index_or o.taken claim.0 None ≡ slot → (b : Bool)
        → nat_lt c.f (count_nodes most_nodes (is_in nodes)) ≡ b
        → list_of (slice_index_or (if is_none slot && b then set o.taken claim.0 (Some post.bytes) else o.taken) claim.0 None)
        ≡ (if (claim.0 == claim.0) && nat_le (c.f + 1) (claim_count c all claim) then Some claim.1 else None)
    fresh slot none at true enough =
        let reach : c.f + 1 ≤ claim_count c all claim = omega (arith, ltb-true c.f (count_nodes most_nodes (is_in nodes)) enough, many) in
        let put : slice_index_or (set o.taken claim.0 (Some post.bytes)) claim.0 None ≡ Some post.bytes =
        get_or-set_same o.taken claim.0 (Some post.bytes) None (omega (arith, is.inside, sound.places)) in
        ap (λ (s : Option (List ℕ)). list_of (slice_index_or (if is_none s && true then set o.taken claim.0 (Some post.bytes) else o.taken) claim.0 None)) none
        ∙ ap list_of put ∙ closed_list_is c post.bytes claim is.spells ∙ sym (taken_many c all claim.0 claim.1 reach)
    fresh slot none at false few_nodes =
        let short : nat_le (c.f + 1) (claim_count c all claim) ≡ false =
        false_from_ne_true (nat_le (c.f + 1) (claim_count c all claim)) (λ h.
        both_ways (nat_lt c.f (count_nodes most_nodes (is_in nodes))) few_nodes
        (lt-ltb c.f (count_nodes most_nodes (is_in nodes)) (omega (arith, leb-true (c.f + 1) (claim_count c all claim) h, many)))) in
        ap (λ (s : Option (List ℕ)). list_of (slice_index_or (if is_none s && false then set o.taken claim.0 (Some post.bytes) else o.taken) claim.0 None)) none
        ∙ ap list_of (at ∙ none)
        ∙ sym (rw (here, short) refl)

    by : (slot : Option (List ℕ)) → slice_index_or o.taken claim.0 None ≡ slot
        → list_of (slice_index_or (if is_none (slice_index_or o.taken claim.0 None) && nat_lt c.f (count_nodes most_nodes (is_in nodes))
        then set o.taken claim.0 (Some post.bytes) else o.taken) claim.0 None)
        ≡ option_or (observed_list c heard claim.0) (taken_list c all claim.0 claim)
    by None at =
        let none : observed_list c heard claim.0 ≡ None = sym before ∙ ap list_of at in
        fresh (slice_index_or o.taken claim.0 None) at refl (nat_lt c.f (count_nodes most_nodes (is_in nodes))) refl
        ∙ ap (λ (x : Option (List Item)). option_or x (taken_list c all claim.0 claim)) (sym none)
    by (Some bytes) at =
        ap (λ (s : Option (List ℕ)). list_of (slice_index_or (if is_none s && nat_lt c.f (count_nodes most_nodes (is_in nodes))
        then set o.taken claim.0 (Some post.bytes) else o.taken) claim.0 None)) at
        ∙ before
        ∙ kept (observed_list c heard claim.0) refl
      where
        closed : is_some (closed_list c bytes) ≡ true
        closed = ap (closes_one c) (sym at) ∙ sound.closed claim.0

        kept : (x : Option (List Item)) → observed_list c heard claim.0 ≡ x
            → x ≡ option_or x (taken_list c all claim.0 claim)
        kept (Some list) some = refl
        kept None none =
            absurd (both_ways (is_some (closed_list c bytes)) (ap is_some (ap list_of (sym at) ∙ before ∙ none)) closed)

pub heard_counted : (o : ObserverView) (claims : Table) (heard : List Post) (post : Post) (claim : Closure) (nodes : List Bool)
    → o.config.n ≤ most_nodes → IsSoundView o → HasHeard o heard → IsCounted o post claim nodes → Sets o.claims claims post.bytes nodes
    → HasHeard (with_claims o claims claim.0 nodes post.bytes) (heard ++ post ∷ [])
heard_counted o claims heard post claim nodes few sound has counted sets = record {
  nodes = counted_nodes o claims heard post claim nodes has counted sets;
  lists = lists;
}
  where
    c : Numbers
    c = o.config

    lists : (e : ℕ) → e < c.epochs
        → list_at (with_claims o claims claim.0 nodes post.bytes) e ≡ observed_list c (heard ++ post ∷ []) e
    lists e inside = elim (cases_Bool (claim.0 == e)) [
      | inl same ↦
          subst (λ (d : ℕ). list_at (with_claims o claims claim.0 nodes post.bytes) d ≡ observed_list c (heard ++ post ∷ []) d)
          (eqb-true claim.0 e same) (counted_list o claims heard post claim nodes few sound has counted)
      | inr apart ↦
          let nothing : reached c (heard ++ post ∷ []) e post ≡ None =
          ap (option_and_then (taken_list c (heard ++ post ∷ []) e)) counted.claims ∙ (rw apart refl) in
          ap (option_and_then (closed_list c)) (taken_other o claim.0 e nodes post.bytes (λ is. both_ways (claim.0 == e) apart (eq-eqb claim.0 e (sym is))))
          ∙ has.lists e inside
          ∙ alone (observed_list c heard e)
          ∙ ap (option_or (observed_list c heard e)) (sym nothing)
          ∙ sym (observed_push c e heard post)
    ]
      where
        alone : (x : Option (List Item)) → x ≡ option_or x None
        alone None = refl
        alone (Some list) = refl

-- ---- the ledger

pub heard_ledger : (o : ObserverView) (heard : List Post) → HasHeard o heard → ledger_of o ≡ observed o.config heard
heard_ledger o heard has = same_lists (list_at o) (observed_list o.config heard) 0 o.config.epochs (λ e inside. has.lists e (omega (arith, inside)))

-- ---- whether a post adds its node, by what is kept

pub node_known : (o : ObserverView) (heard : List Post) (post : Post) (claim : Closure) → HasHeard o heard → claim_of o.config post ≡ Some claim
    → is_in (nodes_at o.claims post.bytes) post.from ≡ true → adds_node o.config heard post ≡ false
node_known o heard post claim has claims among =
    let is = claim_is o.config post claim claims in
    let both = and_parts (nat_lt post.from o.config.n) (has_claimed o.config heard claim post.from)
    (sym (has.nodes post.bytes claim post.from is.spells is.inside) ∙ among) in
    ap (is_new o.config heard post.from) claims ∙ ap not both.1

pub node_new : (o : ObserverView) (heard : List Post) (post : Post) (claim : Closure) → HasHeard o heard → claim_of o.config post ≡ Some claim
    → is_in (nodes_at o.claims post.bytes) post.from ≡ false → adds_node o.config heard post ≡ true
node_new o heard post claim has claims missing =
    let is = claim_is o.config post claim claims in
    let inside : nat_lt post.from o.config.n ≡ true = lt-ltb post.from o.config.n is.known in
    let new : has_claimed o.config heard claim post.from ≡ false =
    ap (λ (b : Bool). b && has_claimed o.config heard claim post.from) (sym inside)
    ∙ sym (has.nodes post.bytes claim post.from is.spells is.inside) ∙ missing in
    ap (is_new o.config heard post.from) claims ∙ ap not new

pub no_claim : (c : Numbers) (heard : List Post) (post : Post) → claim_of c post ≡ None → adds_node c heard post ≡ false
no_claim c heard post none = ap (is_new c heard post.from) none

-- an observer that keeps so much
pub counted_self : (o n : ObserverView) (heard : List Post) (post : Post) (claim : Closure) (nodes : List Bool) → o.config.n ≤ most_nodes
    → IsSoundView o → HasHeard o heard → IsCounted o post claim nodes → n.config ≡ o.config → Sets o.claims n.claims post.bytes nodes
    → n.taken ≡ taken_with o claim.0 nodes post.bytes → HasHeard n (heard ++ post ∷ [])
counted_self o n heard post claim nodes few sound has counted config sets taken =
    subst (λ (x : ObserverView). HasHeard x (heard ++ post ∷ []))
    (ap (λ (c : Numbers). record { config = c; claims = n.claims; taken = taken_with o claim.0 nodes post.bytes }) (sym config)
    ∙ ap (λ (t : List (Option (List ℕ))). record { config = n.config; claims = n.claims; taken = t }) (sym taken))
    (heard_counted o n.claims heard post claim nodes few sound has counted sets)
