use Rattle.difference.proofs.WrittenDocument.{written_is_document}
use Rattle.difference.proofs.writing.written_differences_are_read.Goals as goal

pub returns : goal.returns
returns c = written_is_document (record {
  none = c.lines_are_cut_apart.ensures.none;
  first = c.lines_are_cut_apart.ensures.first;
  no_feed = c.lines_are_whole.ensures.no_feed;
  no_return = c.lines_are_whole.ensures.no_return;
  reads = c.written_lines_are_read.ensures;
})
