use Rattle.std.proofs.Common.{◌∙◌}
use Rattle.cim_words.proofs.Lengths.{length_of-no_number, length_of-no_scale, length_of-divided, length_of-multiplied}
use Rattle.cim_words.proofs.length.read_length.Goals as goal

pub returns-in_default : goal.returns-in_default
returns-in_default c = length_of-no_number _ _ _ _ c.split_number.ensures.split c.in_default.ensures.value

pub returns-in_default-read_scale : goal.returns-in_default-read_scale
returns-in_default-read_scale c =
    length_of-no_scale _ _ _ _ _ c.split_number.ensures.split c.in-Some.ensures.value c.in_default-read_scale.ensures.value

pub returns-then-scale : goal.returns-then-scale
returns-then-scale c =
    c.millimetres.ensures
    ∙ rw c.is_negative-negative.ensures
    (length_of-divided _ _ _ _ _ _ c.split_number.ensures.split c.in-Some.ensures.value c.in-Some-read_scale.ensures.value c.if-scale.true)

pub returns-else-scale : goal.returns-else-scale
returns-else-scale c =
    c.millimetres-else-scale.ensures
    ∙ rw c.is_negative-negative.ensures
    (length_of-multiplied _ _ _ _ _ _ c.split_number.ensures.split c.in-Some.ensures.value c.in-Some-read_scale.ensures.value c.if-scale.false)
