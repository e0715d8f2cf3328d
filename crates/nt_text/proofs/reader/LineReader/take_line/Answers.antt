use Rattle.std.proofs.Common.{[], refl, sym, ◌∙◌, append-nil}
use Rattle.nt_text.proofs.ReaderLemmas.{on_ok_with, if_err_with, step_half, step_ended, fails_ended}
use Rattle.nt_text.proofs.reader.LineReader.take_line.Goals as goal

pub returns-then-half-clause-ok : goal.returns-then-half-clause-ok
returns-then-half-clause-ok c =
    rw (← c.self.view_is) ([], sym (append-nil c.args.into.now), step_half _ _ c.args.line.now c.args.end (sym c.if-half.ensures) refl)

pub returns-clause-ok : goal.returns-clause-ok
returns-clause-ok c =
    rw (← c.self.view_is)
    (on_ok_with c.end_line.result
    (λ gained same. (
      gained.0,
      gained.1,
      step_ended _ c.end_line.new.self c.args.line.now c.args.end gained.0 c.requires.plain c.requires.ends (sym c.if-half.ensures) same gained.2,
    ))
    c.end_line.ensures.ok c.end_line.ensures.ended)

pub returns-clause-err : goal.returns-clause-err
returns-clause-err c =
    rw (← c.self.view_is)
    (if_err_with c.end_line.result
    (λ f kept bad. (
      [],
      kept ∙ sym (append-nil c.args.into.now),
      fails_ended _ c.args.line.now c.args.end f c.requires.plain c.requires.ends (sym c.if-half.ensures) bad,
    ))
    c.end_line.ensures.kept c.end_line.ensures.err)
