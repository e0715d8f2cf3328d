use Rattle.std.proofs.Common.{◌∙◌, ◌&&◌, not, sym, rules, List, ap}
use Rattle.std.specs.List.{list_any}
use Rattle.std.proofs.lemmas.Iterator.Search.{any_from_yields_List}
use Rattle.plain_laws.proofs.Tests.{any_map_filter}
use Rattle.cim_words.specs.Properties as property
use Rattle.cim_words.specs.declared.object.Object.{Object}
use Rattle.cim_words.specs.declared.statement.Statement.{Statement}
use Rattle.cim_model.specs.Model.{is_by, said_in}
use Rattle.cim_model.specs.Profile.{same_object}
use Rattle.statement_set.proofs.Steps.{YieldsList-from_about}
use Rattle.cim_profile.proofs.rules.has_other_side.Goals as goal

pub returns : goal.returns
returns c m is =
    any_from_yields_List (λ (s : Statement). is_by property.phase_side_2 s && not (same_object c.args.side.now s.object)) _ _ _ c.any.ensures.ran (YieldsList-from_about c.args.subject.now.statements cc) (λ x b q k. search rules)
    ∙ sym (any_map_filter (λ (o : Object). not (same_object c.args.side.now o)) (λ (s : Statement). s.object) (is_by property.phase_side_2) c.args.subject.now.statements)
    ∙ ap (λ (statements : List Statement). list_any (λ (o : Object). not (same_object c.args.side.now o)) (said_in statements property.phase_side_2)) is.statements
