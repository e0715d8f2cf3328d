use Rattle.std.proofs.Common.{◌∙◌, not, sym, ap, Option}
use Rattle.cim_words.specs.Groups.{is_part}
use Rattle.cim_words.specs.declared.class.Class.{Class}
use Rattle.cim_profile.specs.declared.table.Row.{Row}
use Rattle.cim_profile.proofs.RowValues.{some_values}
use Rattle.cim_profile.proofs.facts.Facts.is_thing.Goals as goal

pub returns-then-not-is_empty : goal.returns-then-not-is_empty
returns-then-not-is_empty c =
    rw (sym c.types_of-types.ensures.empty ∙ some_values (λ (row : Row (Option Class)). row.value) c.types_of-types.result.now (sym c.is_empty.ensures ∙ c.if-not-is_empty.true))
    (ap not (c.names_any.ensures ∙ c.types_of-types.ensures.any is_part))
