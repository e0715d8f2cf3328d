use Rattle.std.proofs.lemmas.Result.{on_ok_weaker, IfErr-weaker}
use Rattle.nt_text.proofs.ReaderLemmas.{step_kept, fails_kept}
use Rattle.nt_text.proofs.reader.LineReader.keep_front.Goals as goal

pub returns-clause-ok : goal.returns-clause-ok
returns-clause-ok c =
    rw (← c.self.view_is)
    (on_ok_weaker c.keep.result (step_kept _ c.keep.new.self c.args.front.now c.requires.plain c.if-is_empty.ensures) c.keep.ensures.ok)

pub returns-clause-err : goal.returns-clause-err
returns-clause-err c =
    rw (← c.self.view_is) (IfErr-weaker c.keep.result _ _ (λ f. fails_kept _ c.args.front.now f c.requires.plain) c.keep.ensures.err)
