use Rattle.std.proofs.Common.{◌∙◌, take, ap, length, min, sym}
use Rattle.grid_out.proofs.InputLaws.{none_read_where_none_left, read_and_left}
use Rattle.grid_out.proofs.input.Input.read.Goals as goal

pub returns-clause-taken : goal.returns-clause-taken
returns-clause-taken c =
    read_and_left c.self.inside.bytes.items _ _ c.self.inside.taken _ (sym c.self.view_is)
    (c.copy_front-count.ensures.front ∙ ap (take c.copy_front-count.result) c.left.ensures)

pub returns-clause-ended : goal.returns-clause-ended
returns-clause-ended c =
    none_read_where_none_left _ _ _ c.requires
    (c.copy_front-count.ensures.count ∙ ap (λ left. min (length c.args.into.now) (length left)) c.left.ensures)
