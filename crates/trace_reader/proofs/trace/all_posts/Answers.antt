use Rattle.std.proofs.Common.{◌≡◌, length, sym, ◌∙◌, arith}
use Rattle.std.proofs.lemmas.Bool.{eqb-true}
use Rattle.trace_reader.proofs.Whole.{ends_wrong, some_later, goes_on, is_whole}
use Rattle.trace_reader.proofs.trace.all_posts.Goals as goal

pub returns-in-None : goal.returns-in-None
returns-in-None c whole n is head =
    let posts = c.in_ok-posts.posts in
    let read = c.in_ok-posts.ensures in
    let count : length posts.items ≡ c.len-count.result = omega (arith, c.len-count.ensures, posts.ok.0) in
    ends_wrong whole c.args.bytes.now c.in_ok-posts.rest.now n posts.items c.len-count.result is head read.posts read.text count read.last c.in-None.ensures

pub returns-in-Some : goal.returns-in-Some
returns-in-Some c whole n is head =
    let posts = c.in_ok-posts.posts in
    let read = c.in_ok-posts.ensures in
    let later = c.in-Some.later.now in
    let count : length posts.items ≡ c.len-count.result = omega (arith, c.len-count.ensures, posts.ok.0) in
    let none : length later ≡ 0 = eqb-true (length later) 0 (sym c.is_empty.ensures ∙ c.if-is_empty.true) in (
      is_whole whole c.args.bytes.now c.in_ok-posts.rest.now later n posts.items c.len-count.result is head read.posts read.text count c.in-Some.ensures none,
      omega (arith, read.few, c.requires),
    )

pub returns-in-Some-2 : goal.returns-in-Some-2
returns-in-Some-2 c whole n is head =
    let posts = c.in_ok-posts.posts in
    let read = c.in_ok-posts.ensures in
    let later = c.in-Some.later.now in
    let count : length posts.items ≡ c.len-count.result = omega (arith, c.len-count.ensures, posts.ok.0) in
    let some = some_later (length later) (sym c.is_empty.ensures ∙ c.if-is_empty.false) in
    goes_on whole c.args.bytes.now c.in_ok-posts.rest.now later n posts.items c.len-count.result is head read.posts read.text count c.in-Some.ensures some
