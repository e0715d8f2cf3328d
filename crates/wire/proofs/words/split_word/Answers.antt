use Rattle.std.proofs.lemmas.List.Sums.{prefix_len-le-length}
use Rattle.wire.proofs.Splits.{first_word}
use Rattle.wire.proofs.words.split_word.Goals as goal

pub split_at-requires : goal.split_at-requires
split_at-requires c = rw c.word_length.ensures (prefix_len-le-length _ c.args.line.now)

pub returns : goal.returns
returns c = rw (c.split_at.ensures.front, c.split_at.ensures.back, c.word_length.ensures) (first_word c.args.line.now)
