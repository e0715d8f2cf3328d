use Rattle.std.proofs.Common.{◌<◌, arith}
use Rattle.nt_text.proofs.HexDigits.{hex_room}
use Rattle.nt_text.proofs.characters.hex_number.Goals as goal

pub overflow_mul-number : goal.overflow_mul-number
overflow_mul-number c =
    let few : c.loop-digit.digit-index < 8 = omega arith in
    omega (arith, hex_room c.loop-digit.digit-index c.loop-digit.number few c.loop-digit.invariant.0)

pub overflow_add-number : goal.overflow_add-number
overflow_add-number c =
    let few : c.loop-digit.digit-index < 8 = omega arith in
    let digit = c.in_ok-number.ensures.value in
    omega (arith, hex_room c.loop-digit.digit-index c.loop-digit.number few c.loop-digit.invariant.0, digit)
