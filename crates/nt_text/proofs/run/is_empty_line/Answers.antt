use Rattle.std.proofs.Common.{◌∙◌, sym, ap}
use Rattle.nt_text.specs.Run.{begins_no_term}
use Rattle.nt_text.proofs.Runs.{empty_line_from, empty_line_begins}
use Rattle.nt_text.proofs.run.is_empty_line.Goals as goal

pub returns : goal.returns
returns c =
    let same = c.is_comment.ensures ∙ ap begins_no_term c.after_run.ensures in (
      λ is. empty_line_from c.args.bytes.now (sym same ∙ is),
      λ empty. same ∙ empty_line_begins c.args.bytes.now empty,
    )
