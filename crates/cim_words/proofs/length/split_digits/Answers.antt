use Rattle.std.proofs.lemmas.List.Sums.{prefix_len-le-length}
use Rattle.cim_words.specs.Values.{is_digit}
use Rattle.cim_words.proofs.Lengths.{digits_only}
use Rattle.cim_words.proofs.length.split_digits.Goals as goal

pub split_at-requires : goal.split_at-requires
split_at-requires c = rw c.count_digits.ensures (prefix_len-le-length is_digit c.args.text.now)

pub returns-clause-only : goal.returns-clause-only
returns-clause-only c = rw (c.split_at.ensures.front, c.count_digits.ensures) (digits_only c.args.text.now)
