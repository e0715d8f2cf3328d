use Rattle.std.proofs.Common.{arith}
use Rattle.std.proofs.lemmas.Bool.Decides.{nat_tests}
use Rattle.wire.proofs.Said.{look_fault}
use Rattle.wire.proofs.requests.read_look.Goals as goal

pub returns-in-Err-clause-fault : goal.returns-in-Err-clause-fault
returns-in-Err-clause-fault c = look_fault c.args.scripted _ c.in-Err.fault (grind arith) (λ none. grind (arith, nat_tests)) c.in-Err.ensures.fault
