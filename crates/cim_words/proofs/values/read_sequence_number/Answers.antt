use Rattle.std.proofs.Common.{arith, sym, ◌∙◌}
use Rattle.cim_words.proofs.Digits.{number_of-lt}
use Rattle.cim_words.proofs.values.read_sequence_number.Goals as goal

pub add_digits-requires-clause-fits : goal.add_digits-requires-clause-fits
add_digits-requires-clause-fits c =
    omega (arith, number_of-lt c.as_bytes-digits.result.now 9 (sym c.are_digits.ensures ∙ c.if-are_digits.true) c.if-digits-le-MOST_DIGITS.true)

pub overflow_cast-result : goal.overflow_cast-result
overflow_cast-result c =
    omega (arith, number_of-lt c.as_bytes-digits.result.now 9 (sym c.are_digits.ensures ∙ c.if-are_digits.true) c.if-digits-le-MOST_DIGITS.true)
