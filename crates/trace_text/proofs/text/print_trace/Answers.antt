use Rattle.std.proofs.Common.{List, length, sym, ap}
use Rattle.std.proofs.lemmas.Result.{err_from_is_err_and}
use Rattle.script_fault.proofs.Writing.{writes_then, writes_front}
use Rattle.hb_wire.specs.declared.post.Post.{Post}
use Rattle.ledger_text.specs.Lines.{end_line}
use Rattle.ledger_text.proofs.Order.{writes_as}
use Rattle.trace_text.specs.Text.{posts_text, trace_text}
use Rattle.trace_text.proofs.text.print_trace.Goals as goal

pub returns-in_err-put_posts : goal.returns-in_err-put_posts
unfolding trace_text
returns-in_err-put_posts g c =
    let p = err_from_is_err_and c.from_residual-in_err-put_posts.result c.from_residual-in_err-put_posts.ensures.1 in
    rw p.1 (writes_then c.in_ok-put_numbers.ensures (writes_front _ (writes_as (ap (posts_text 0) (sym c.as_slice-posts.ensures.value)) c.in_err-put_posts.ensures)))

pub returns : goal.returns
unfolding trace_text
returns g c =
    writes_then c.in_ok-put_numbers.ensures
    (writes_then (writes_as (ap (posts_text 0) (sym c.as_slice-posts.ensures.value)) c.in_ok-put_posts.ensures) (writes_as (ap (λ (posts : List Post). end_line (length posts)) (sym c.as_slice-posts.ensures.value)) c.put_end.ensures))
