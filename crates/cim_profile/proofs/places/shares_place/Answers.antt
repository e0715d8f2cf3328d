use Rattle.std.proofs.Common.{◌∙◌, rules}
use Rattle.std.specs.List.{list_any}
use Rattle.std.proofs.lemmas.Iterator.{YieldsList-from_slice}
use Rattle.std.proofs.lemmas.Iterator.Search.{any_from_yields_List}
use Rattle.cim_words.specs.declared.length.Length.{Length}
use Rattle.cim_profile.specs.Places.{is_at, is_other}
use Rattle.cim_profile.proofs.PlaceLemmas.{shared_by}
use Rattle.cim_profile.proofs.places.shares_place.Goals as goal

pub returns : goal.returns
returns c m holds =
    let s = c.args.segment.number in
    let x = c.args.cut.number in
    any_from_yields_List (λ (length : Length). list_any (is_at s (is_other length.mm x)) c.args.places.now) _ _ _ c.any.ensures.ran (YieldsList-from_slice c.args.lengths.now cc) (λ y b q k. search rules)
    ∙ shared_by m s x c.args.lengths.now _ (λ length. holds s (is_other length.mm x))
