use Rattle.room_base.proofs.LawsBelow.{KeepLaws}
use Rattle.room_base.proofs.OneBase.{base_or_refused, one_refusal, one_set}
use Rattle.room_base.proofs.laws.bases_have_one_reading.Goals as goal

-- the laws that are called here
laws : goal.After-one_set → KeepLaws
laws c = record {
  document = c.documents_have_one_reading.ensures.statements;
  bad_line = c.documents_have_one_reading.ensures.bad_line;
  either = c.documents_have_one_reading.ensures.either;
  set = c.one_set.ensures;
}

pub returns-clause-set : goal.returns-clause-set
returns-clause-set c bytes a b p q = one_set (laws c) bytes a b p.read q.read

pub returns-clause-either : goal.returns-clause-either
returns-clause-either c = base_or_refused (laws c)

pub returns-clause-refusal : goal.returns-clause-refusal
returns-clause-refusal c = one_refusal (laws c)
