use Rattle.std.proofs.Common.{◌∙◌, ℕ, Option, map}
use Rattle.std.proofs.lemmas.Result.{IfOk-weaker}
use Rattle.cim_words.specs.Properties as property
use Rattle.cim_model.specs.Model.{said}
use Rattle.cim_model.specs.Values.{number_said}
use Rattle.cim_profile.specs.declared.table.Row.{Row}
use Rattle.cim_profile.proofs.RowValues.{values_read}
use Rattle.cim_profile.proofs.facts.Facts.numbers_of.Goals as goal

pub returns : goal.returns
returns c =
    IfOk-weaker c.present.result _ _ (λ numbers is. is ∙ values_read number_said (map (λ (row : Row (Option ℕ)). row.value) c.at.result.now) (said c.args.self.now.statements.now c.args.terminal.number property.sequence_number) (rw c.at.ensures (c.args.self.now.of_numbers c.args.terminal.number))) c.present.ensures
