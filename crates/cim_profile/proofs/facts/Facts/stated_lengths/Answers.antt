use Rattle.std.proofs.Common.{◌∙◌, Option, map, sym, ap}
use Rattle.std.proofs.lemmas.Result.{IfOk-weaker}
use Rattle.cim_words.specs.Properties as property
use Rattle.cim_words.specs.declared.length.Length.{Length}
use Rattle.cim_model.specs.Model.{said}
use Rattle.cim_model.specs.Values.{mm_of}
use Rattle.cim_profile.specs.declared.table.Row.{Row}
use Rattle.cim_profile.proofs.RowValues.{lengths_read}
use Rattle.cim_profile.proofs.facts.Facts.stated_lengths.Goals as goal

pub returns-then-is_of : goal.returns-then-is_of
returns-then-is_of c =
    rw (sym c.is_of.ensures ∙ c.if-is_of.true)
    (IfOk-weaker c.present.result _ _ (λ lengths is. ap (map mm_of) is ∙ lengths_read (map (λ (row : Row (Option Length)). row.value) c.at.result.now) (said c.args.self.now.statements.now c.args.segment.number property.conductor_length) (rw c.at.ensures (c.args.self.now.of_lengths c.args.segment.number))) c.present.ensures)
