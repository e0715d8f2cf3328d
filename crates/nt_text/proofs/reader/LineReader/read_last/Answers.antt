use Rattle.nt_text.proofs.Faults.{last_one}
use Rattle.nt_text.proofs.ReaderLemmas.{some_kept}
use Rattle.nt_text.proofs.reader.LineReader.read_last.Goals as goal

pub returns-clause-ok : goal.returns-clause-ok
returns-clause-ok c =
    let some = some_kept c.self.inside.rest.len c.self.inside.rest.items c.self.inside.rest.ok.0 c.if-is_empty.ensures in
    rw (← c.self.view_is, last_one c.self.inside.rest.items some, ← c.deref.ensures.value) c.read_into.ensures.ok
