use Rattle.std.proofs.Common.{◌∙◌, ◌&&◌, not, sym, rules}
use Rattle.std.proofs.lemmas.Iterator.Search.{any_from_yields_List}
use Rattle.plain_laws.proofs.Tests.{any_map_filter}
use Rattle.cim_words.specs.declared.object.Object.{Object}
use Rattle.cim_words.specs.declared.statement.Statement.{Statement}
use Rattle.cim_model.specs.Model.{is_by}
use Rattle.cim_model.specs.Profile.{names_target}
use Rattle.statement_set.proofs.Steps.{YieldsList-from_about}
use Rattle.cim_profile.proofs.rules.says_no_target.Goals as goal

pub returns : goal.returns
returns c =
    any_from_yields_List (λ (s : Statement). is_by c.args.known s && not (names_target c.args.facts.now.statements.now c.args.known s.object)) _ _ _ c.any.ensures.ran (YieldsList-from_about c.args.statements.now cc) (λ x b q k. search rules)
    ∙ sym (any_map_filter (λ (o : Object). not (names_target c.args.facts.now.statements.now c.args.known o)) (λ (s : Statement). s.object) (is_by c.args.known) c.args.statements.now)
