use Rattle.std.proofs.Common.{◌≡◌, [], ◌++◌, ap, ◌∙◌}
use Rattle.nt_text.specs.Reader.{ReaderState}
use Rattle.nt_text.proofs.ReaderLemmas.{none_kept}
use Rattle.nt_text.proofs.reader.LineReader.end_line.Goals as goal

pub returns-then-is_empty-clause-ok : goal.returns-then-is_empty-clause-ok
returns-then-is_empty-clause-ok c =
    let none : c.self.inside.rest.items ≡ [] = none_kept c.self.inside.rest.len c.self.inside.rest.items c.self.inside.rest.ok.0 c.if-is_empty.ensures in
    rw (← c.self.view_is, none) c.in_ok-read_into.ensures.ok

pub returns-clause-ok : goal.returns-clause-ok
returns-clause-ok c =
    let rest : c.deref.result.now ≡ c.args.self.now.rest ++ c.args.line.now =
    c.deref.ensures.value ∙ ap (λ (s : ReaderState). s.rest) (c.self-2.view_is ∙ c.in_ok-keep.ensures.ok) in
    rw (← rest) c.in_ok-read_into-2.ensures.ok
