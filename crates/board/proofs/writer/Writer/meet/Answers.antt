use Rattle.std.proofs.Common.{rules, length, sym, ap, ◌∙◌, subst}
use Rattle.board.specs.Fronts.{IsReader}
use Rattle.board.specs.Views.{founds_of}
use Rattle.board.proofs.Learning.{can_copy}
use Rattle.board.proofs.writer.Writer.meet.Goals as goal

pub split_seat-copy-requires : goal.split_seat-copy-requires
split_seat-copy-requires g c = (search rules, search rules, can_copy g.V.Dated.log g.V.Dated.origin _ c.reader.inside.seat.me c.reader.inside.console c.reader.inside.front c.reader.invariant.4)

pub invariant_of-reader : goal.invariant_of-reader
invariant_of-reader g c =
    let same = c.split_seat-copy.ensures.2 in (
      search rules,
      search rules,
      search rules,
      c.reader.invariant.3 ∙ ap (λ m. length (founds_of m.0.role)) (sym same),
      subst (λ m. IsReader g.V.Dated.log g.V.Dated.origin m c.reader.inside.console c.reader.inside.front) (sym same) c.reader.invariant.4,
    )
