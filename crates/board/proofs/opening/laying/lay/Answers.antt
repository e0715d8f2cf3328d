use Rattle.std.proofs.Common.{rules, arith, ◌≡◌, ℕ, List, length, replicate, sym, ap, ◌∙◌, subst, Option}
use Rattle.atomic_table.specs.Table.{opening}
use Rattle.board.specs.Views.{opened}
use Rattle.board.specs.Laid.{laid}
use Rattle.board.specs.Rule.{Stands}
use Rattle.board.proofs.Begins.{begins}
use Rattle.board.proofs.opening.laying.lay.Goals as goal

pub new-made-requires : goal.new-made-requires
new-made-requires g c =
    let V : Type 0 = g.row.V.Denot in
    let log = g.V.Dated.log in
    let origin = g.V.Dated.origin in
    let n : ℕ = c.args.consoles in
    let first : V = c.args.first.now in
    let count_is : c.from.result ≡ n = c.from.ensures in
    let words_are : c.as_slice.result.now ≡ replicate n c.stale_word.result =
    c.as_slice.ensures.value ∙ (c.in_ok-words.ensures.items_if_clones_equal (λ y e. search rules) ∙ ap (λ k. replicate k c.stale_word.result) count_is) in
    let slots_are : c.in_ok-slots.slots.items ≡ laid n first = c.in_ok-slots.ensures in
    let first_is : c.of.result.value ≡ first = c.of.ensures in
    let w = c.stale_word.ensures in
    let number_is : c.number.result ≡ length (log first) = c.number.ensures in
    let narrow = c.number.type_inv in
    subst (λ (z : List ℕ × List (Option V) × V). Stands log origin (opening z.0 z.1 (opened n (log z.2) (origin z.2)))) (λ i. (sym words_are i, sym slots_are i, sym first_is i))
    (begins log origin n c.stale_word.result first w.slot w.fresh (w.number ∙ number_is) (omega arith))
