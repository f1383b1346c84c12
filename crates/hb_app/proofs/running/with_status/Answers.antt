use Rattle.std.proofs.Common.{◌<◌, ◌^◌, All, subst, arith}
use Rattle.trace_reader.specs.Trace.{IsPost}
use Rattle.hb_app.proofs.Runs.{headline, text_tells}
use Rattle.hb_app.proofs.running.with_status.Goals as goal

pub returns : goal.returns
returns c s scenario run =
    let made = c.args.made in
    let posts = made.history.items in
    let sound = c.liars-sound.ensures.sound in
    let seed : made.config.seed < 2 ^ 64 = omega (arith, c.seed-seed.ensures) in
    headline s made c.status.result run c.status.ensures sound
    (text_tells s made scenario run.config sound seed (subst (All IsPost) c.as_slice.ensures.value c.posts_fit.ensures))
    (c.ledger_laws.ensures.comparable made.config posts sound run.legal)
    (c.ledger_laws.ensures.batches made.config posts sound run.legal)
    (c.ledger_laws.ensures.unaltered made.config posts sound run.legal)
    (λ apart. record {
      nodes = λ heard of. c.observer_laws.ensures.nodes made.config posts heard sound run.legal apart of;
      observers = λ heard others of other_of. c.observer_laws.ensures.observers made.config posts heard others sound run.legal apart of other_of;
      complete = λ heard e of closers. c.observer_laws.ensures.complete made.config posts heard e sound run.legal apart of closers;
    })
    (c.quiet_laws.ensures.completed made sound run.legal run.quiet)
    c.calm_laws.ensures.epochs c.calm_laws.ensures.status
    (c.accuse_laws.ensures made.config posts sound run.legal)
