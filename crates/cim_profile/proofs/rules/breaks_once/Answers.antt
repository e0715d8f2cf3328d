use Rattle.std.proofs.Common.{rules}
use Rattle.std.proofs.lemmas.Iterator.{YieldsList-from_slice}
use Rattle.std.proofs.lemmas.Iterator.Search.{any_from_yields_List}
use Rattle.cim_model.specs.Profile.{states_twice}
use Rattle.cim_profile.specs.declared.attributes.TheConstants.{ATTRIBUTES}
use Rattle.cim_profile.proofs.rules.breaks_once.Goals as goal

pub returns : goal.returns
returns c m is = any_from_yields_List (states_twice m c.args.subject.now.id.number) _ _ _ c.any.ensures.ran (YieldsList-from_slice ATTRIBUTES cc) (λ x b q k. search (rules, is))
