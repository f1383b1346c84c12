use Rattle.std.proofs.Common.{arith}
use Rattle.trace_reader.proofs.Heads.{head_found, none_read, none_built}
use Rattle.trace_reader.proofs.head.config_at.Goals as goal

pub returns-in_err-head-clause-none : goal.returns-in_err-head-clause-none
returns-in_err-head-clause-none c = rw c.from_residual.ensures (none_read c.args.bytes.now c.in_err-head.ensures)

pub returns-in_err-config-clause-none : goal.returns-in_err-config-clause-none
returns-in_err-config-clause-none c =
    rw c.from_residual-in_err-config.ensures (none_built c.args.bytes.now c.in_ok-head.rest.now c.in_ok-head.head c.in_ok-head.ensures c.in_err-config.ensures.none)

pub returns-clause-found : goal.returns-clause-found
returns-clause-found c =
    let found = c.in_ok-config.ensures.found in
    (found.0, head_found c.args.bytes.now c.in_ok-head.rest.now c.in_ok-head.head c.in_ok-config.config (λ i. omega (arith, c.type_inv.bytes i)) c.in_ok-head.ensures found.1)
