use Rattle.std.proofs.Common.{rules, arith, ◌≡◌, ◌++◌, ◌∷◌, [], List, All, length, map, refl, ap, sym, subst, ◌∙◌, append_assoc, length-append}
use Rattle.std.proofs.lemmas.List.{map-append}
use Rattle.std.proofs.lemmas.List.Elements.{All-nil, All-push}
use Rattle.std.proofs.lemmas.List.Sums.{sum_by-append, sum_by-cons}
use Rattle.desk.proofs.Queues.{first_off, all_taken}
use Rattle.desk.specs.Ends.{PostState, number_of}
use Rattle.desk.specs.Receipts.{AreSomeOf, receipts_in}
use Rattle.desk.proofs.posts.gather.Goals as goal

pub loop-posts-init : goal.loop-posts-init
loop-posts-init g c =
    let State : Type 0 = PostState g.row.V.Denot g.row.V-Origin.Denot in (
      [],
      refl,
      c.requires.share.0,
      c.requires.share.1,
      c.requires.readers.0,
      refl,
      All-nil (λ (post : State). post.reader.board ≡ g.N.RoomName.board),
      All-nil (λ (post : State). AreSomeOf post.receipts (receipts_in (number_of post) post.reader.seen)),
    )

pub loop-posts-preserved : goal.loop-posts-preserved
loop-posts-preserved g c =
    let State : Type 0 = PostState g.row.V.Denot g.row.V-Origin.Denot in
    let i = c.loop-posts.invariant in
    let x = c.remove.result in
    let rest = c.remove.new.self.items in
    let count : State → _ = λ post. length post.receipts in
    let whole : c.loop-posts.posts.items ≡ x ∷ rest = first_off c.loop-posts.posts.items rest x (search rules) c.remove.ensures.value (search rules) in (
      i.0 ++ x ∷ [],
      i.1 ∙ ap (λ (xs : List State). i.0 ++ xs) whole ∙ sym (append_assoc i.0 (x ∷ []) rest),
      omega (arith, c.merge.ensures.parts, c.into_parts-reader.ensures.share.0, i.2, length-append i.0 (x ∷ [])),
      omega (arith, c.merge.ensures.amount, c.into_parts-reader.ensures.share.1, i.3, sum_by-append count i.0 (x ∷ []), sum_by-cons count x []),
      c.push_reserved.ensures.items ∙ ap (λ xs. xs ++ c.into_parts-reader.result.0 ∷ []) i.4 ∙ ap (λ r. map (λ (post : State). post.reader) i.0 ++ r ∷ []) c.into_parts-reader.ensures.reader.0
          ∙ sym (map-append (λ (post : State). post.reader) i.0 (x ∷ [])),
      c.push_reserved.ensures.capacity ∙ i.5,
      All-push (λ (post : State). post.reader.board ≡ g.N.RoomName.board) i.0 x i.6 c.into_parts-reader.ensures.reader.1,
      All-push (λ (post : State). AreSomeOf post.receipts (receipts_in (number_of post) post.reader.seen)) i.0 x i.7 c.into_parts-reader.ensures.named,
    )

pub returns-clause-readers : goal.returns-clause-readers
returns-clause-readers g c =
    let State : Type 0 = PostState g.row.V.Denot g.row.V-Origin.Denot in
    let i = c.loop-posts.invariant in
    i.4 ∙ ap (λ (xs : List State). map (λ (post : State). post.reader) xs) (sym (all_taken c.args.posts.items i.0 c.loop-posts.posts.items i.1 (grind arith)))

pub returns-clause-board : goal.returns-clause-board
returns-clause-board g c =
    let State : Type 0 = PostState g.row.V.Denot g.row.V-Origin.Denot in
    let i = c.loop-posts.invariant in
    subst (All (λ (post : State). post.reader.board ≡ g.N.RoomName.board)) (sym (all_taken c.args.posts.items i.0 c.loop-posts.posts.items i.1 (grind arith))) i.6

pub returns-clause-named : goal.returns-clause-named
returns-clause-named g c =
    let State : Type 0 = PostState g.row.V.Denot g.row.V-Origin.Denot in
    let i = c.loop-posts.invariant in
    subst (All (λ (post : State). AreSomeOf post.receipts (receipts_in (number_of post) post.reader.seen))) (sym (all_taken c.args.posts.items i.0 c.loop-posts.posts.items i.1 (grind arith))) i.7
