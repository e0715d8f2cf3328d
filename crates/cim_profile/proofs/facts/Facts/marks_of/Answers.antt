use Rattle.std.proofs.Common.{◌∙◌, ap}
use Rattle.std.specs.List.{filter}
use Rattle.std.proofs.lemmas.Result.{IfOk-weaker}
use Rattle.cim_model.specs.Model.{is_of, naming}
use Rattle.cim_profile.specs.Facts.{kind_test}
use Rattle.cim_profile.specs.MarkKind.{segment_of}
use Rattle.cim_profile.specs.declared.kind.Kind.{Kind}
use Rattle.cim_profile.proofs.facts.Facts.marks_of.Goals as goal

pub returns : goal.returns
returns c =
    let m = c.args.self.now.statements.now in
    let named = segment_of c.args.kind in
    IfOk-weaker c.those_of.result _ _ (λ ids is. is ∙ ap (λ (kind : Kind). filter (is_of m (kind_test kind)) (naming m named c.args.segment.number)) c.class.ensures) (c.those_of.ensures named c.marks.ensures)
