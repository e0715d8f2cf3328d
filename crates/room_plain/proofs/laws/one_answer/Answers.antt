use Rattle.room_words.specs.Overlay.{no_overlay}
use Rattle.room_plain.proofs.LawsBelow.{KeepLaws}
use Rattle.room_plain.proofs.OneAnswer.{one_answer}
use Rattle.room_plain.proofs.laws.one_answer.Goals as goal

-- the laws that are called here
laws : goal.After-scripts_have_one_answer → KeepLaws
laws c = record {
  set = c.bases_have_one_reading.ensures.set;
  either = c.bases_have_one_reading.ensures.either;
  refusal = c.bases_have_one_reading.ensures.refusal;
  trace = λ m x phases. c.one_trace.ensures m no_overlay x phases;
  script = c.scripts_have_one_answer.ensures;
}

pub returns : goal.returns
returns c = one_answer (laws c)
