use Rattle.script.proofs.OneAnswer.{Laws, one_answer}
use Rattle.script.proofs.laws.scripts_have_one_answer.Goals as goal

pub returns : goal.returns
returns c = one_answer laws
  where
    laws : Laws
    laws = record {
      requests = c.requests_have_one_reading.ensures.requests;
      faults = c.requests_have_one_reading.ensures.faults;
      either = c.requests_have_one_reading.ensures.either;
      differences = c.documents_have_one_reading.ensures.differences;
      document_faults = c.documents_have_one_reading.ensures.faults;
      document_either = c.documents_have_one_reading.ensures.either;
      steps = c.steps_have_one_reply.ensures;
      networks = c.histories_leave_one_network.ensures;
      traces = c.one_trace.ensures;
    }
