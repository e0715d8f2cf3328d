use Rattle.std.proofs.Common.{◌∙◌, ◌&&◌, sym, rules, List, ap}
use Rattle.std.specs.List.{list_any}
use Rattle.std.proofs.lemmas.Iterator.Search.{any_from_yields_List}
use Rattle.plain_laws.proofs.Tests.{any_map_filter}
use Rattle.plain_laws.proofs.Truth.{and_passed}
use Rattle.cim_words.specs.Properties as property
use Rattle.cim_words.specs.declared.statement.Statement.{Statement}
use Rattle.cim_model.specs.Model.{is_by, said_in}
use Rattle.cim_model.specs.Profile.{has_other_side}
use Rattle.statement_set.proofs.Steps.{YieldsList-from_about}
use Rattle.cim_profile.proofs.rules.breaks_sides.Goals as goal

pub returns-then-is_of : goal.returns-then-is_of
returns-then-is_of c m is =
    any_from_yields_List (λ (s : Statement). is_by property.phase_side_1 s && has_other_side m c.args.subject.now.id.number s.object) _ _ _ c.any.ensures.ran (YieldsList-from_about c.args.subject.now.statements cc) (λ x b q k. search (rules, is))
    ∙ sym (any_map_filter (has_other_side m c.args.subject.now.id.number) (λ (s : Statement). s.object) (is_by property.phase_side_1) c.args.subject.now.statements)
    ∙ ap (λ (statements : List Statement). list_any (has_other_side m c.args.subject.now.id.number) (said_in statements property.phase_side_1)) is.statements
    ∙ and_passed _ _ (sym (c.is_of.ensures m is) ∙ c.if-is_of.true)
