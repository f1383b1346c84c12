-- The state after each kind of hearing.
use Rattle.std.proofs.Common.{◌≡◌, ℕ, ◌+◌, ◌*◌, ◌<◌, ◌≤◌, Bool, true, false, not, ◌&&◌, ◌||◌, nat_le, List, [], ◌∷◌, ◌++◌, Contains, Option, None, Some, if◌then◌else◌, is_some, unwrap_or, refl, sym, ap, ◌∙◌, subst, append-nil, bytes_eq}
use Rattle.std.specs.List.{list_any}
use Rattle.std.specs.Option.{option_map, option_or, option_to_list}
use Rattle.std.proofs.lemmas.Slice.Eq.{bytes_eq-Decides}
use Rattle.hb_base.specs.Counting.{count_nodes}
use Rattle.hb_base.specs.Limits.{most_nodes}
use Rattle.hb_base.specs.Numbers.{Numbers}
use Rattle.hb_base.specs.NodeSet.{is_in}
use Rattle.hb_wire.specs.declared.vote.Vote.{Vote}
use Rattle.hb_wire.specs.declared.vote.Vote.TheVariants.{Ready, Delivered}
use Rattle.hb_rules.specs.Claims.{delivered, is_any_ready, is_any_delivery}
use Rattle.hb_rules.specs.Hearing.{Hearing}
use Rattle.hb_rules.specs.Slots.{first_of, when}
use Rattle.hb_rules.specs.BroadcastRows.{proposal_in, echo_in, named, ready_made, delivery_made}
use Rattle.rbc_core.specs.Broadcast.{RbcView, place_of, ShowsHeard, Stands, Hears, KeepsStanding}
use Rattle.rbc_core.specs.Due.{is_ready_by, unless}
use Rattle.rbc_core.specs.RootViews.{RootView, unheard}
use Rattle.rbc_core.specs.Roots.{RootsView, found, view_at, IsRootView, Finds, IsUnchanged}
use Rattle.rbc_core.proofs.Hearings.{silent_if_none}
use Rattle.rbc_core.proofs.Choices.{AreSettled, AreSettled-idle, ready_settled, delivery_settled, named_owed, IsUnheeded, nothing_owed}
use Rattle.rbc_core.proofs.Standing.{AreHeard, AreOwed, Hears-by, stays, option_stays, nodes_now, no_delivery, FillsMarks, root_votes}
use Rattle.rbc_core.proofs.Shown.{heard-silent, heard-named, made-view}

-- ---- nothing becomes due

-- a hearing that names no root, and makes nothing owed, leaves the state
pub Hears-quiet : (r : RbcView) (h : Hearing) (due : List Vote) → h.from < r.roots.config.n → named r.roots.config.n r.epoch h ≡ None
    → AreOwed r h [] → Hears r r h due due
Hears-quiet r h due from none owed =
    Hears-by r r h [] due due
    (record {
      place = refl;
      from = from;
      vals = λ m. stays (is_in r.vals m);
      echo = stays r.is_echo_cast;
      ready = stays r.is_ready_cast;
      delivered = option_stays r.delivered;
      roots = λ heard are root. heard-silent r.roots r.roots r.epoch heard h root refl refl (silent_if_none r.roots.config.n r.epoch h none root) (are.roots root);
    })
    owed (sym (append-nil due))

pub Hears-unheeded : (r : RbcView) (h : Hearing) (due : List Vote) → h.from < r.roots.config.n → IsUnheeded (place_of r) h → Hears r r h due due
Hears-unheeded r h due from unheeded =
    Hears-quiet r h due from unheeded.named
    (record { gives = λ own heard stands. nothing_owed (place_of r) own heard h (AreSettled-idle (place_of r) own heard stands.idle) unheeded })

-- where the roots show what they showed, the state stands for what it stood for
pub KeepsStanding-roots : (r : RbcView) (roots : RootsView) → IsUnchanged r.roots roots → KeepsStanding r (record r { roots = roots })
KeepsStanding-roots r roots same = record {
  marks = refl;
  roots = same;
  stands = λ own heard stands. record {
    idle = rw same.config stands.idle;
    vals = stands.vals;
    echo = stands.echo;
    ready = stands.ready;
    delivered = stands.delivered;
    roots = λ root.
        let is = stands.roots root in
        record {
          known = λ named. ap is_some (same.found root) ∙ is.known (rw same.config at named);
          shows = rw same.config (subst (ShowsHeard r.roots.config r.epoch heard root) (sym (ap (λ (o : Option RootView). unwrap_or o unheard) (same.found root))) is.shows);
        };
    nodes = rw same.config stands.nodes;
  };
}

-- ---- a root is named

is_some-first_of : {A B : Type 0} (f : A → Option B) (xs : List A) → is_some (first_of f xs) ≡ list_any (λ x. is_some (f x)) xs
is_some-first_of f [] = refl
is_some-first_of {A} {B} f (x ∷ xs) = by (f x) (is_some-first_of f xs)
  where
    by : (o : Option B) → is_some (first_of f xs) ≡ list_any (λ x. is_some (f x)) xs
        → is_some (option_or o (first_of f xs)) ≡ (is_some o || list_any (λ x. is_some (f x)) xs)
    by None e = e
    by (Some y) e = refl

-- whether a value was delivered
was_delivered : (r : RbcView) (own : List Vote) (heard : List Hearing) → Stands r own heard → is_some r.delivered ≡ list_any (is_any_delivery r.epoch) own
was_delivered r own heard stands = ap (λ (o : Option (List ℕ)). is_some o) stands.delivered ∙ is_some-first_of (delivered r.epoch) own

unless_ready : (cast test : Bool) (vote : Vote) → unless cast (when test vote) ≡ when (not cast && test) vote
unless_ready true test vote = refl
unless_ready false test vote = refl

-- the value that is delivered, unless one was
abbrev pub delivered_now : Bool → Bool → Option (List ℕ) → Option (List ℕ)
delivered_now cast test value = if (not cast && (test && is_some value)) then value else None

unless_delivery : (e : ℕ) (cast test : Bool) (value : Option (List ℕ))
    → unless cast (if test then option_map (Delivered e) value else None) ≡ option_map (Delivered e) (delivered_now cast test value)
unless_delivery e true test value = refl
unless_delivery e false true None = refl
unless_delivery e false true (Some x) = refl
unless_delivery e false false value = refl

-- a hearing that names a root, of which this is known then, and the votes that it makes
pub record NamesRoot (r : RbcView) (h : Hearing) (root : List ℕ) : Type 0 where
  pub from : h.from < r.roots.config.n
  pub few : r.roots.config.n ≤ most_nodes
  pub proposal : r.node ≡ r.lane → proposal_in r.node r.epoch h ≡ None
  pub echo : echo_in r.roots.config.n r.epoch r.node r.lane h ≡ None
  pub names : named r.roots.config.n r.epoch h ≡ Some root

-- the votes are those that the view makes: a Ready where it is due, and the delivery of this
pub record AreVotesOf (r : RbcView) (v : RootView) (due : Bool) (value : Option (List ℕ)) : Type 0 where
  pub ready : due
      ≡ (not r.is_ready_cast
      && is_ready_by r.roots.config (count_nodes most_nodes (is_in v.echoes)) (count_nodes most_nodes (is_in v.readies)) (is_some v.value))
  pub delivery : value ≡ delivered_now (is_some r.delivered) (nat_le (2 * r.roots.config.f + 1) (count_nodes most_nodes (is_in v.readies))) v.value

pub Hears-named : (r : RbcView) (roots : RootsView) (h : Hearing) (root : List ℕ) (v : RootView) (due : Bool) (value : Option (List ℕ))
    (before after : List Vote)
    → NamesRoot r h root → Finds r.roots roots root v → IsRootView r.roots.config root v
    → ((heard : List Hearing) → AreHeard r.roots r.epoch heard → ShowsHeard r.roots.config r.epoch (heard ++ h ∷ []) root v)
    → AreVotesOf r v due value
    → after ≡ before ++ (option_to_list (when due (Ready r.epoch root)) ++ option_to_list (option_map (Delivered r.epoch) value))
    → Hears r (record r { roots = roots; is_ready_cast = r.is_ready_cast || due; delivered = option_or r.delivered value }) h before after
Hears-named r roots h root v due value before after names finds is shows are is_due =
    let c : Numbers = r.roots.config in
    let e : ℕ = r.epoch in
    let ready : Option Vote = when due (Ready e root) in
    let delivery : Option Vote = option_map (Delivered e) value in
    let votes : List Vote = option_to_list ready ++ option_to_list delivery in
    let fills : FillsMarks e due value votes = root_votes e root due value in
    Hears-by r (record r { roots = roots; is_ready_cast = r.is_ready_cast || due; delivered = option_or r.delivered value })
    h votes before after
    (record {
      place = ap (λ (c : Numbers). record { config = c; node = r.node; lane = r.lane; epoch = r.epoch }) finds.config;
      from = names.from;
      vals = λ m. stays (is_in r.vals m) ∙ ap (λ (b : Bool). is_in r.vals m || b) (sym (fills.vals m));
      echo = stays r.is_echo_cast ∙ ap (λ (b : Bool). r.is_echo_cast || b) (sym fills.echo);
      ready = ap (λ (b : Bool). r.is_ready_cast || b) (sym fills.ready);
      delivered = ap (λ (o : Option (List ℕ)). option_or r.delivered o) (sym fills.delivered);
      roots = λ heard all. heard-named r.roots roots e heard h root v finds names.names (shows heard all) all;
    })
    (record {
      gives = λ own heard stands.
          let made = made-view c e (heard ++ h ∷ []) root v names.few is
          (shows heard (record { roots = stands.roots; nodes = stands.nodes }))
          (nodes_now c.n heard h names.from stands.nodes) in
          named_owed (place_of r) own heard h root ready delivery (AreSettled-idle (place_of r) own heard stands.idle)
          names.proposal names.echo names.names
          (ap (λ (b : Bool). unless b (ready_made c e (heard ++ h ∷ []) root)) (sym stands.ready)
          ∙ ap (λ (o : Option Vote). unless r.is_ready_cast o) made.0
          ∙ unless_ready r.is_ready_cast
          (is_ready_by c (count_nodes most_nodes (is_in v.echoes)) (count_nodes most_nodes (is_in v.readies)) (is_some v.value)) (Ready e root)
          ∙ ap (λ (b : Bool). when b (Ready e root)) (sym are.ready))
          (ap (λ (b : Bool). unless b (delivery_made c e (heard ++ h ∷ []) root)) (sym (was_delivered r own heard stands))
          ∙ ap (λ (o : Option Vote). unless (is_some r.delivered) o) made.1
          ∙ unless_delivery e (is_some r.delivered) (nat_le (2 * c.f + 1) (count_nodes most_nodes (is_in v.readies))) v.value
          ∙ ap (λ (o : Option (List ℕ)). option_map (Delivered e) o) (sym are.delivery))
          (no_delivery e root due);
    })
    is_due

-- ---- a root is named again

-- a hearing that named the root
pub record WasNamed (n e : ℕ) (heard : List Hearing) (root : List ℕ) : Type 0 where
  pub hearing : Hearing
  pub stands : Contains heard hearing
  pub names : named n e hearing ≡ Some root

-- what was found of a known root is found of it
same_found : (roots : RootsView) (root : List ℕ) → is_some (found roots root) ≡ true → Finds roots roots root (view_at roots root)
same_found roots root known = record { config = refl; found = λ other. by other (bytes_eq root other) refl }
  where
    there : (o : Option RootView) → is_some o ≡ true → o ≡ Some (unwrap_or o unheard)
    there None some = absurd (cc (some))
    there (Some v) some = refl

    by : (other : List ℕ) (b : Bool) → bytes_eq root other ≡ b → found roots other ≡ (if b then Some (view_at roots root) else found roots other)
    by other true same = ap (found roots) (sym ((bytes_eq-Decides root other).0 same)) ∙ there (found roots root) known
    by other false apart = refl

-- a hearing that shows what was shown leaves the state
pub Hears-again : (r : RbcView) (h : Hearing) (root : List ℕ) (due : List Vote) → NamesRoot r h root → IsRootView r.roots.config root (view_at r.roots root)
    → is_some (found r.roots root) ≡ true
    → ((heard : List Hearing) → AreHeard r.roots r.epoch heard → ShowsHeard r.roots.config r.epoch (heard ++ h ∷ []) root (view_at r.roots root))
    → ((heard : List Hearing) → AreHeard r.roots r.epoch heard → WasNamed r.roots.config.n r.epoch heard root)
    → Hears r r h due due
Hears-again r h root due names is known shows was =
    let c : Numbers = r.roots.config in
    let e : ℕ = r.epoch in
    let v : RootView = view_at r.roots root in
    Hears-by r r h [] due due
    (record {
      place = refl;
      from = names.from;
      vals = λ m. stays (is_in r.vals m);
      echo = stays r.is_echo_cast;
      ready = stays r.is_ready_cast;
      delivered = option_stays r.delivered;
      roots = λ heard are. heard-named r.roots r.roots e heard h root v (same_found r.roots root known) names.names (shows heard are) are;
    })
    (record {
      gives = λ own heard stands.
          let are : AreHeard r.roots e heard = record { roots = stands.roots; nodes = stands.nodes } in
          let settled : AreSettled (place_of r) own heard = AreSettled-idle (place_of r) own heard stands.idle in
          let g = was heard are in
          let before = made-view c e heard root v names.few is (stands.roots root).shows stands.nodes in
          let now = made-view c e (heard ++ h ∷ []) root v names.few is (shows heard are) (nodes_now c.n heard h names.from stands.nodes) in
          named_owed (place_of r) own heard h root None None settled names.proposal names.echo names.names
          (ap (λ (o : Option Vote). unless (list_any (is_any_ready e) own) o) (now.0 ∙ sym before.0)
          ∙ ready_settled (place_of r) own heard g.hearing root settled g.stands g.names)
          (ap (λ (o : Option Vote). unless (list_any (is_any_delivery e) own) o) (now.1 ∙ sym before.1)
          ∙ delivery_settled (place_of r) own heard g.hearing root settled g.stands g.names)
          refl;
    })
    (sym (append-nil due))
