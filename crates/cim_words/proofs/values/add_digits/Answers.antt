use Rattle.std.proofs.Common.{arith}
use Rattle.cim_words.proofs.Digits.{number_from_more}
use Rattle.cim_words.proofs.values.add_digits.Goals as goal

pub overflow_mul-number : goal.overflow_mul-number
overflow_mul-number c =
    omega (arith, number_from_more c.loop-digit.number c.args.digits.now c.loop-digit.digit-index c.loop-digit-test.true)

pub overflow_add-number : goal.overflow_add-number
overflow_add-number c =
    omega (arith, number_from_more c.loop-digit.number c.args.digits.now c.loop-digit.digit-index c.loop-digit-test.true)
