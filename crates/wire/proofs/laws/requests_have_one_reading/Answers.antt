use Rattle.wire.proofs.OneRequest.{one_fault, one_request, request_or_fault}
use Rattle.wire.proofs.laws.requests_have_one_reading.Goals as goal

pub returns : goal.returns
returns c = record { requests = one_request; faults = one_fault; either = request_or_fault }
