use Rattle.std.proofs.Common.{◌≡◌, ℕ, ◌<◌, not, List, ◌++◌, length, take, slice_index_or, slice_get, Option, Some, sym, ap, ◌∙◌, subst, arith}
use Rattle.std.specs.List.{filter_map}
use Rattle.std.specs.Option.{option_to_list}
use Rattle.std.proofs.lemmas.Bool.{and_parts}
use Rattle.std.proofs.lemmas.Option.{slice_get_within, get_or_from_slice_get}
use Rattle.hb_wire.specs.Addresses.{reaches}
use Rattle.hb_wire.specs.declared.post.Post.{Post}
use Rattle.net_script.specs.Delivery.{shape_of}
use Rattle.hb_rules.specs.Hearing.{Hearing, heard_of}
use Rattle.hb_rules.specs.Report.{is_drop}
use Rattle.hb_rules.specs.Terms.{AreHeardSpelled}
use Rattle.hb_rules.proofs.Received.{heard_spelled}
use Rattle.quiet_check.proofs.Reading.{received_at, heard_more}
use Rattle.quiet_check.proofs.votes.hearings_of.Goals as goal

pub index-post-requires : goal.index-post-requires
index-post-requires c =
    let same : c.deref-number-items.result.now ≡ c.args.end.now.got.items = c.deref-number-items.ensures.value in
    let there : c.loop-number.number-index < length c.args.end.now.got.items = omega (arith, ap length same) in
    let has = received_at c.args.report.now c.args.end.now c.loop-number.number-index 0 c.requires there in
    let within = slice_get_within c.args.report.now.history.items (slice_index_or c.args.end.now.got.items c.loop-number.number-index 0) has.post has.stands in
    let below : slice_index_or c.deref-number-items.result.now c.loop-number.number-index 0 < length c.args.report.now.history.items =
    subst (λ (got : List ℕ). slice_index_or got c.loop-number.number-index 0 < length c.args.report.now.history.items) (sym same) within in
    omega (arith, below, c.args.report.now.history.ok)

pub hear-requires : goal.hear-requires
hear-requires c =
    let posts : List Post = c.args.report.now.history.items in
    let same : c.deref-number-items.result.now ≡ c.args.end.now.got.items = c.deref-number-items.ensures.value in
    let there : c.loop-number.number-index < length c.args.end.now.got.items = omega (arith, ap length same) in
    let has = received_at c.args.report.now c.args.end.now c.loop-number.number-index 0 c.requires there in
    let item : c.index-post.result.now ≡ has.post =
    c.index-post.ensures
    ∙ ap (λ (got : List ℕ). slice_index_or posts (slice_index_or got c.loop-number.number-index 0) c.index-post.result.now) same
    ∙ get_or_from_slice_get posts (slice_index_or c.args.end.now.got.items c.loop-number.number-index 0) has.post c.index-post.result.now has.stands in
    ap (λ (post : Post). reaches c.args.report.now.config.n post c.args.end.now.node c.args.end.now.actor) item
    ∙ (and_parts (reaches c.args.report.now.config.n has.post c.args.end.now.node c.args.end.now.actor)
    (not (is_drop (shape_of c.args.report.now.script.links.items has.post.from c.args.end.now.node
    (slice_index_or c.args.end.now.got.items c.loop-number.number-index 0)))) has.comes).0

pub loop-number-preserved : goal.loop-number-preserved
loop-number-preserved c =
    let posts : List Post = c.args.report.now.history.items in
    let got : List ℕ = c.args.end.now.got.items in
    let same : c.deref-number-items.result.now ≡ got = c.deref-number-items.ensures.value in
    let there : c.loop-number.number-index < length got = omega (arith, ap length same) in
    let has = received_at c.args.report.now c.args.end.now c.loop-number.number-index 0 c.requires there in
    let item : c.index-post.result.now ≡ has.post =
    c.index-post.ensures
    ∙ ap (λ (got : List ℕ). slice_index_or posts (slice_index_or got c.loop-number.number-index 0) c.index-post.result.now) same
    ∙ get_or_from_slice_get posts (slice_index_or got c.loop-number.number-index 0) has.post c.index-post.result.now has.stands in
    c.in_ok-add_heard.ensures
    ∙ ap (λ (heard : List Hearing). heard ++ option_to_list c.in_ok-said.said) c.loop-number.invariant
    ∙ ap (λ (o : Option Hearing). heard_of c.args.report.now.config c.args.end.now.node c.args.end.now.actor posts (take c.loop-number.number-index got) ++ option_to_list o)
    c.in_ok-said.ensures
    ∙ heard_more c.args.report.now.config c.args.end.now.node c.args.end.now.actor posts got c.loop-number.number-index 0 c.index-post.result.now there
    (has.stands ∙ ap Some (sym item))

pub returns-clause-spelled : goal.returns-clause-spelled
returns-clause-spelled c =
    subst (AreHeardSpelled c.args.report.now.config) (sym c.loop-number.invariant)
    (heard_spelled c.args.report.now.config c.args.end.now.node c.args.end.now.actor
    (filter_map (slice_get c.args.report.now.history.items) (take c.loop-number.number-index c.args.end.now.got.items)))
