use Rattle.std.proofs.Common.{◌≡◌, drop}
use Rattle.cim_words.specs.Values.{number_from}
use Rattle.cim_words.proofs.values.add_digits.Given as goal

abbrev pub invariant-loop-digit : goal.invariant-loop-digit
invariant-loop-digit l = number_from l.number (drop l.digit-index l.digits) ≡ number_from l.fn.before l.digits
