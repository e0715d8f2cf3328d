use Rattle.std.proofs.Common.{◌≤◌, length, arith}
use Rattle.cim_words.proofs.Digits.{number_of-lt}
use Rattle.cim_words.proofs.Lengths.{number_in-parts, number_in-small}
use Rattle.cim_words.proofs.length.read_number.Goals as goal

pub add_digits-requires-clause-fits : goal.add_digits-requires-clause-fits
add_digits-requires-clause-fits c =
    let short : length c.args.whole.now ≤ 30 = omega arith in
    omega (arith, number_of-lt c.args.whole.now 30 c.requires.whole short)

pub add_digits-requires-2-clause-fits : goal.add_digits-requires-2-clause-fits
add_digits-requires-2-clause-fits c =
    rw c.add_digits.ensures
    (omega (arith, number_in-small c.args.whole.now c.args.fraction.now c.requires.whole c.requires.fraction (omega arith)))

pub returns-clause-value : goal.returns-clause-value
returns-clause-value c =
    number_in-parts c.args.whole.now c.args.fraction.now c.add_digits-2.result (omega arith) (omega arith)
    (rw (← c.add_digits.ensures) c.add_digits-2.ensures)

pub returns-clause-small : goal.returns-clause-small
returns-clause-small c =
    rw (c.add_digits-2.ensures, c.add_digits.ensures)
    (number_in-small c.args.whole.now c.args.fraction.now c.requires.whole c.requires.fraction (omega arith))
