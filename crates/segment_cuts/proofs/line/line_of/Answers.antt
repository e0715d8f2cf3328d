use Rattle.std.proofs.Common.{◌≡◌, rules, refl}
use Rattle.std.proofs.lemmas.List.Sorted.{answers_always}
use Rattle.segment_cuts.specs.declared.line.Placed.{Placed}
use Rattle.segment_cuts.proofs.Placing.{placed_all, placed_line}
use Rattle.segment_cuts.proofs.line.line_of.Goals as goal

pub returns : goal.returns
returns c =
    let all : c.add_marks.new.line.items ≡ placed_all c.args.marks.now = rw (c.in_ok-add_marks.ensures, c.in_ok-push-2.ensures.items, c.in_ok-push.ensures.items, c.new-line.ensures.items, c.end.ensures, c.end-2.ensures) refl in
    placed_line c.args.marks.now c.requires _ _ all c.sort_unstable_by_key.ensures.permutation
    (c.sort_unstable_by_key.ensures.sorted (λ (p : Placed). (p.number, p.id.number)) (answers_always _ _ _ (λ f a r q k. search rules)))
