use Rattle.std.proofs.Common.{ℕ, List, length, nat_le, ap, ◌∙◌, arith}
use Rattle.std.specs.List.{filter}
use Rattle.room_words.specs.declared.items.TempItem.{TempItem}
use Rattle.temporary.specs.Parts.{is_first_at, is_second_at}
use Rattle.temporary.proofs.Counts.{terms_counted}
use Rattle.temporary.proofs.places.has_at_most_terminals.Goals as goal

pub returns : goal.returns
returns c =
    let all = terms_counted c.args.index.now c.args.overlay.now c.args.place in
    let of_model = c.of_model.ensures in
    let first = c.first_at.ensures ∙ ap (λ (items : List TempItem). length (filter (is_first_at c.args.place) items)) c.as_slice-items.ensures in
    let second = c.second_at.ensures ∙ ap (λ (items : List TempItem). length (filter (is_second_at c.args.place) items)) c.as_slice-items.ensures in
    c.fit.ensures ∙ ap (λ (n : ℕ). nat_le n c.args.most) (omega (arith, all, of_model, first, second))
