use Rattle.std.proofs.Common.{rules, ◌≡◌, ◌≤◌, ◌++◌, ◌∷◌, [], List, All, length, vec_capacity, ap, sym, subst, ◌∙◌, arith}
use Rattle.desk.proofs.Queues.{all_behind, all_taken, first_off, nothing}
use Rattle.desk.specs.Ends.{PostState}
use Rattle.room_console.proofs.Emptied.{emptied}
use Rattle.room_console.proofs.seats.seat_all.Goals as goal

pub new-requires-clause-fresh : goal.new-requires-clause-fresh
new-requires-clause-fresh g c κs within =
    let State : Type 0 = PostState g.row.V.Denot g.row.V-Origin.Denot in
    let done = c.loop-consoles.consoles.items in
    let x = c.remove.result in
    let rest = c.remove.new.self.items in
    let whole : c.loop-consoles.posts.items ≡ x ∷ rest = first_off c.loop-consoles.posts.items rest x (search rules) c.remove.ensures.value (search rules) in
    let all : c.args.posts.items ≡ done ++ x ∷ rest = c.loop-consoles.invariant.0 ∙ ap (λ (xs : List State). done ++ xs) whole in
    let P : State → Type 0 = λ post. (post.reader.seen ≡ []) × (post.receipts ≡ []) in
    all_behind P done x rest (subst (All P) all c.requires.fresh)

pub returns-clause-posts : goal.returns-clause-posts
returns-clause-posts g c =
    let left = c.loop-consoles.posts in
    let capacity = c.loop-consoles.invariant.2 in
    let fits : length c.args.posts.items ≤ vec_capacity c.args.posts = search rules in
    (nothing left.items (emptied left.items left.len c.is_empty.result left.ok.0 c.is_empty.ensures c.loop-consoles-test.false), omega (arith, fits, capacity))

pub returns-clause-consoles : goal.returns-clause-consoles
returns-clause-consoles g c =
    let left = c.loop-consoles.posts in
    sym (all_taken c.args.posts.items c.loop-consoles.consoles.items left.items c.loop-consoles.invariant.0
    (emptied left.items left.len c.is_empty.result left.ok.0 c.is_empty.ensures c.loop-consoles-test.false))
