use Rattle.std.proofs.Common.{ap, sym, ◌∙◌}
use Rattle.nt_text.specs.Reader.{ReaderState}
use Rattle.nt_text.proofs.ReaderStates.{finished, finished_again, finished_bad}
use Rattle.nt_text.proofs.reader.LineReader.finish.Goals as goal

pub returns-in-Some-clause-err : goal.returns-in-Some-clause-err
returns-in-Some-clause-err c = rw (← c.self.view_is) (finished_again _ c.in-Some.fault c.args.into.now c.in-Some.is)

pub returns-in-Err-clause-err : goal.returns-in-Err-clause-err
returns-in-Err-clause-err c =
    let none = sym (ap (λ (s : ReaderState). s.fault) c.self.view_is) ∙ c.in_default.is in
    finished_bad c.args.self.now c.in-Err.fault c.args.into.now c.read_last.new.into none c.in-Err.ensures.kept c.in-Err.ensures.err

pub returns-clause-ok : goal.returns-clause-ok
returns-clause-ok c =
    let none = sym (ap (λ (s : ReaderState). s.fault) c.self.view_is) ∙ c.in_default.is in
    finished c.args.self.now c.args.into.now c.read_last.new.into none c.in_default-read_last.ensures.ok
