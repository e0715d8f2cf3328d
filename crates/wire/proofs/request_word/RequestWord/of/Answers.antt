use Rattle.wire.proofs.Tables.{word_found, word_none}
use Rattle.wire.proofs.request_word.RequestWord.of.Goals as goal

pub returns-clause-found : goal.returns-clause-found
returns-clause-found c = word_found c.args.word.now c.among.result c.among.ensures

pub returns-clause-none : goal.returns-clause-none
returns-clause-none c = word_none c.args.word.now c.among.result c.among.ensures
