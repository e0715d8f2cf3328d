use Rattle.std.proofs.Common.{◌∙◌, sym, rules}
use Rattle.std.specs.List.{filter}
use Rattle.std.proofs.lemmas.Iterator.Consumers.{YieldsList-from_filter, count_from_yields_List}
use Rattle.std.proofs.lemmas.List.{length-map}
use Rattle.cim_words.specs.declared.statement.Statement.{Statement}
use Rattle.cim_model.specs.Model as spec
use Rattle.statement_set.proofs.Steps.{YieldsList-from_about}
use Rattle.cim_profile.proofs.said.count.Goals as goal

pub returns : goal.returns
returns c =
    count_from_yields_List c.filter.result _ c.count.ensures.ran (YieldsList-from_filter _ (spec.is_by c.args.known) (YieldsList-from_about c.args.statements.now cc) c.filter.ensures.closure (λ x r q k. search rules))
    ∙ sym (length-map (filter (spec.is_by c.args.known) c.args.statements.now) (λ (s : Statement). s.object))
