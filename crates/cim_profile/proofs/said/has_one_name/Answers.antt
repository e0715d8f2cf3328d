use Rattle.std.proofs.Common.{◌∙◌, ◌&&◌, sym, rules}
use Rattle.std.proofs.lemmas.Iterator.Search.{any_from_yields_List}
use Rattle.plain_laws.proofs.Tests.{any_map_filter}
use Rattle.cim_words.specs.Properties as property
use Rattle.cim_words.specs.declared.statement.Statement.{Statement}
use Rattle.cim_model.specs.Model as spec
use Rattle.statement_set.proofs.Steps.{YieldsList-from_about}
use Rattle.cim_profile.proofs.Names.{is_name, one_name}
use Rattle.cim_profile.proofs.said.has_one_name.Goals as goal

pub returns-then-count-eq1 : goal.returns-then-count-eq1
returns-then-count-eq1 c =
    any_from_yields_List (λ (s : Statement). spec.is_by property.rdf_type s && is_name s.object) _ _ _ c.any.ensures.ran (YieldsList-from_about c.args.statements.now cc) (λ x b q k. search rules)
    ∙ sym (any_map_filter is_name (λ (s : Statement). s.object) (spec.is_by property.rdf_type) c.args.statements.now)
    ∙ one_name (spec.said_in c.args.statements.now property.rdf_type) (sym c.count.ensures ∙ c.if-count-eq1.true)
