use Rattle.std.proofs.Common.{rules, arith, ◌≡◌, ◌<◌, ◌++◌, ◌∷◌, [], List, All, Some, IfSome, length, map, slice_get, ap, sym, subst, ◌∙◌, append_assoc, length-append}
use Rattle.std.proofs.lemmas.List.{map-append, length-map}
use Rattle.std.proofs.lemmas.List.Elements.{All-push}
use Rattle.desk.proofs.Queues.{first_off, all_taken, all_behind, get_behind}
use Rattle.board.specs.Ends.{ReaderState}
use Rattle.desk.specs.Ends.{PostState}
use Rattle.room_words.specs.declared.event.Entry.{Entry}
use Rattle.desk.proofs.posts.hand_out.Goals as goal

pub new-requires-clause-board : goal.new-requires-clause-board
new-requires-clause-board g c κs within =
    let State : Type 0 = PostState g.row.V.Denot g.row.V-Origin.Denot in
    let Seen : Type 0 = ReaderState g.row.V.Denot Entry g.row.V-Origin.Denot in
    let done : List Seen = map (λ (post : State). post.reader) c.loop-alloc.posts.items in
    let x = c.remove-reader.result in
    let rest = c.remove-reader.new.self.items in
    let whole : c.loop-alloc.readers.items ≡ x ∷ rest = first_off c.loop-alloc.readers.items rest x (search rules) c.remove-reader.ensures.value (search rules) in
    let all : c.args.readers.items ≡ done ++ x ∷ rest = c.loop-alloc.invariant.0 ∙ ap (λ (xs : List Seen). done ++ xs) whole in
    all_behind (λ (reader : Seen). reader.board ≡ g.N.RoomName.board) done x rest (subst (All (λ (reader : Seen). reader.board ≡ g.N.RoomName.board)) all c.requires.board)

pub new-requires-clause-console : goal.new-requires-clause-console
new-requires-clause-console g c =
    let State : Type 0 = PostState g.row.V.Denot g.row.V-Origin.Denot in
    let Seen : Type 0 = ReaderState g.row.V.Denot Entry g.row.V-Origin.Denot in
    let done : List Seen = map (λ (post : State). post.reader) c.loop-alloc.posts.items in
    let x = c.remove-reader.result in
    let rest = c.remove-reader.new.self.items in
    let whole : c.loop-alloc.readers.items ≡ x ∷ rest = first_off c.loop-alloc.readers.items rest x (search rules) c.remove-reader.ensures.value (search rules) in
    let all : c.args.readers.items ≡ done ++ x ∷ rest = c.loop-alloc.invariant.0 ∙ ap (λ (xs : List Seen). done ++ xs) whole in
    let within : length done < length c.args.readers.items = let count : length c.args.readers.items ≡ length (done ++ x ∷ rest) = ap length all in omega (arith, count, length-append done (x ∷ rest)) in
    let there : slice_get c.args.readers.items (length done) ≡ Some x = ap (λ (xs : List Seen). slice_get xs (length done)) all ∙ get_behind done x rest in
    let at : x.console ≡ length done = subst (λ o. IfSome o (λ (reader : Seen). reader.console ≡ length done)) there (c.requires.order (length done) within) in
    let console : c.loop-alloc.console ≡ length c.loop-alloc.posts.items = search rules in
    omega (arith, at, console, length-map c.loop-alloc.posts.items (λ (post : State). post.reader))

pub new-requires-clause-range : goal.new-requires-clause-range
new-requires-clause-range g c κs within =
    let State : Type 0 = PostState g.row.V.Denot g.row.V-Origin.Denot in
    let Seen : Type 0 = ReaderState g.row.V.Denot Entry g.row.V-Origin.Denot in
    let done : List Seen = map (λ (post : State). post.reader) c.loop-alloc.posts.items in
    let i = c.loop-alloc.invariant in
    let count : length c.args.readers.items ≡ length (done ++ c.loop-alloc.readers.items) = ap length i.0 in
    let some : 0 < length c.loop-alloc.readers.items = search rules in
    let console : c.loop-alloc.console ≡ length c.loop-alloc.posts.items = search rules in
    (omega arith, omega (arith, count, some, console, c.requires.few, length-append done c.loop-alloc.readers.items, length-map c.loop-alloc.posts.items (λ (post : State). post.reader)))

pub push_reserved-requires : goal.push_reserved-requires
push_reserved-requires g c =
    let State : Type 0 = PostState g.row.V.Denot g.row.V-Origin.Denot in
    let Seen : Type 0 = ReaderState g.row.V.Denot Entry g.row.V-Origin.Denot in
    let done : List Seen = map (λ (post : State). post.reader) c.loop-alloc.posts.items in
    let i = c.loop-alloc.invariant in
    let count : length c.args.readers.items ≡ length (done ++ c.loop-alloc.readers.items) = ap length i.0 in
    let some : 0 < length c.loop-alloc.readers.items = search rules in
    let made : length c.loop-alloc.posts.items ≡ c.loop-alloc.posts.len = search rules in
    omega (arith, count, some, made, i.5, c.requires.posts.1, length-append done c.loop-alloc.readers.items, length-map c.loop-alloc.posts.items (λ (post : State). post.reader))

pub loop-alloc-preserved : goal.loop-alloc-preserved
loop-alloc-preserved g c =
    let State : Type 0 = PostState g.row.V.Denot g.row.V-Origin.Denot in
    let Seen : Type 0 = ReaderState g.row.V.Denot Entry g.row.V-Origin.Denot in
    let old = c.loop-alloc.posts.items in
    let done : List Seen = map (λ (post : State). post.reader) old in
    let i = c.loop-alloc.invariant in
    let x = c.remove-reader.result in
    let rest = c.remove-reader.new.self.items in
    let whole : c.loop-alloc.readers.items ≡ x ∷ rest = first_off c.loop-alloc.readers.items rest x (search rules) c.remove-reader.ensures.value (search rules) in
    let pushed : c.push_reserved.new.self.items ≡ old ++ c.new.result ∷ [] = c.push_reserved.ensures.items in
    let readers : map (λ (post : State). post.reader) c.push_reserved.new.self.items ≡ done ++ x ∷ [] =
    ap (λ (xs : List State). map (λ (post : State). post.reader) xs) pushed ∙ map-append (λ (post : State). post.reader) old (c.new.result ∷ []) ∙ ap (λ (r : Seen). done ++ r ∷ []) c.new.ensures.0 in
    let count : length c.loop-alloc.readers.items ≡ length (x ∷ rest) = ap length whole in (
      i.0 ∙ ap (λ (xs : List Seen). done ++ xs) whole ∙ sym (append_assoc done (x ∷ []) rest) ∙ ap (λ (xs : List Seen). xs ++ rest) (sym readers),
      subst (All (λ (post : State). post.receipts ≡ [])) (sym pushed) (All-push (λ (post : State). post.receipts ≡ []) old c.new.result i.1 c.new.ensures.1),
      omega (arith, i.2, c.push_reserved.ensures.len),
      omega (arith, i.3, count, c.split_off-share.ensures.parts_left),
      omega (arith, i.4, c.split_off-share.ensures.amount_left),
      c.push_reserved.ensures.capacity ∙ i.5,
      c.remove-reader.ensures.capacity ∙ i.6,
    )

pub returns-clause-posts : goal.returns-clause-posts
returns-clause-posts g c =
    let State : Type 0 = PostState g.row.V.Denot g.row.V-Origin.Denot in
    let i = c.loop-alloc.invariant in
    (sym (all_taken c.args.readers.items (map (λ (post : State). post.reader) c.loop-alloc.posts.items) c.loop-alloc.readers.items i.0 (grind arith)), i.1)
