use Rattle.std.proofs.Common.{ℕ, ◌∙◌, sym, rules}
use Rattle.std.specs.Prelude.{nat_lt}
use Rattle.std.proofs.lemmas.Iterator.{YieldsList-from_slice}
use Rattle.std.proofs.lemmas.Iterator.Search.{any_from_yields_List}
use Rattle.plain_laws.proofs.Tests.{any_map}
use Rattle.cim_words.specs.declared.length.Length.{Length}
use Rattle.cim_model.specs.Values.{mm_of}
use Rattle.cim_profile.proofs.places.is_above_one.Goals as goal

pub returns : goal.returns
returns c =
    any_from_yields_List (λ (one : Length). nat_lt one.mm c.args.length.mm) _ _ _ c.any.ensures.ran (YieldsList-from_slice c.args.limits.now cc) (λ x b q k. search rules)
    ∙ sym (any_map (λ (n : ℕ). nat_lt n c.args.length.mm) mm_of c.args.limits.now)
