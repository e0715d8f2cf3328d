use Rattle.std.proofs.Common.{[], sym, append-nil}
use Rattle.nt_text.proofs.ReaderStates.{at_again}
use Rattle.nt_text.proofs.reader.LineReader.feed.Goals as goal

pub returns-in-Some-clause-reads : goal.returns-in-Some-clause-reads
returns-in-Some-clause-reads c =
    rw (← c.self.view_is)
    (λ bytes found is. ([], sym (append-nil c.args.into.now), at_again _ c.in-Some.fault bytes found c.args.piece.now c.in-Some.is is))
