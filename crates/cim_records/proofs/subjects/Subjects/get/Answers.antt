use Rattle.std.proofs.Common.{ap, ◌∙◌}
use Rattle.cim_records.specs.Found.{found}
use Rattle.cim_records.proofs.subjects.Subjects.get.Goals as goal

pub returns : goal.returns
returns c = c.copied.ensures ∙ c.get.ensures.value ∙ ap (λ entries. found entries c.args.id.number) c.self.view_is
