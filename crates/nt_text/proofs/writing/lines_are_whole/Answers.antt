use Rattle.nt_text.proofs.Free.{feed, free_line, return}
use Rattle.nt_text.proofs.writing.lines_are_whole.Goals as goal

pub returns-clause-no_feed : goal.returns-clause-no_feed
returns-clause-no_feed c = free_line feed

pub returns-clause-no_return : goal.returns-clause-no_return
returns-clause-no_return c = free_line return
