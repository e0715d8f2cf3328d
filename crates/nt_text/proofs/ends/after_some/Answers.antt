use Rattle.nt_text.specs.Run.{is_of_kind}
use Rattle.nt_text.proofs.Tags.{some_found, none_found}
use Rattle.nt_text.proofs.ends.after_some.Goals as goal

pub returns-then-rest-bytes-clause-found : goal.returns-then-rest-bytes-clause-found
returns-then-rest-bytes-clause-found c = some_found (is_of_kind c.args.kind) c.args.bytes.now c.after_run-rest.result.now c.after_run-rest.ensures c.if-rest-bytes.true

pub returns-else-rest-bytes-clause-none : goal.returns-else-rest-bytes-clause-none
returns-else-rest-bytes-clause-none c = none_found (is_of_kind c.args.kind) c.args.bytes.now c.after_run-rest.result.now c.after_run-rest.ensures c.if-rest-bytes.false
