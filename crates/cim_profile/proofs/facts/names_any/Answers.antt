use Rattle.std.proofs.Common.{◌∙◌, sym, rules, Option}
use Rattle.std.proofs.lemmas.Iterator.{YieldsList-from_slice}
use Rattle.std.proofs.lemmas.Iterator.Search.{any_from_yields_List}
use Rattle.cim_words.specs.declared.class.Class.{Class}
use Rattle.cim_profile.specs.Facts as spec
use Rattle.cim_profile.specs.declared.table.Row.{Row}
use Rattle.cim_profile.proofs.RowValues.{any_present}
use Rattle.cim_profile.proofs.facts.names_any.Goals as goal

pub returns : goal.returns
returns c =
    any_from_yields_List (λ (row : Row (Option Class)). spec.is_present_and (spec.kind_test c.args.kind) row.value) _ _ _ c.any.ensures.ran (YieldsList-from_slice c.args.rows.now cc) (λ x b q k. search rules)
    ∙ sym (any_present (spec.kind_test c.args.kind) (λ (row : Row (Option Class)). row.value) c.args.rows.now)
