use Rattle.std.proofs.Common.{rules, ◌≡◌, All, Some, length, ap, sym, subst, ◌∙◌}
use Rattle.std.specs.List.{sum_by}
use Rattle.std.proofs.lemmas.List.Elements.{All-map, All-weaker}
use Rattle.board.specs.Ends.{ReaderState}
use Rattle.board.specs.Lists.{IsPrefix}
use Rattle.room_words.specs.declared.event.Entry.{Entry}
use Rattle.desk.specs.Ends.{DeskState, PostState, number_of}
use Rattle.desk.specs.Legal.{IsLegal}
use Rattle.desk.proofs.Counting.{receipts_are_all, named_in_log}
use Rattle.desk.proofs.Serials.{legal_numbered}
use Rattle.desk.specs.Receipts.{AreNumbered, receipts_in}
use Rattle.desk.proofs.Queues.{all_of_map}
use Rattle.desk.proofs.desk.Desk.close.Goals as goal

pub close-requires-clause-board : goal.close-requires-clause-board
close-requires-clause-board g c κs within =
    let State : Type 0 = PostState g.row.V.Denot g.row.V-Origin.Denot in
    let Seen : Type 0 = ReaderState g.row.V.Denot Entry g.row.V-Origin.Denot in
    let here : c.self.inside.writer.board ≡ g.N.RoomName.board = c.self.invariant.0.board_is in
    let P : Seen → Type 0 = λ reader. reader.board ≡ c.self.inside.writer.board in
    subst (All P) (sym c.gather-all.ensures.readers)
    (All-map P (λ (post : State). post.reader) c.args.posts.items
    (All-weaker (λ (post : State). post.reader.board ≡ g.N.RoomName.board) (λ (post : State). P post.reader) (λ post is. is ∙ sym here) c.args.posts.items c.gather-all.ensures.board))

pub returns-clause-legal : goal.returns-clause-legal
returns-clause-legal g c =
    let judges = g.V.Advance.judges in
    let origin = g.V.Dated.origin in
    let log = g.V.Dated.log in
    subst (λ (desk : DeskState g.row.V.Denot). IsLegal (judges (origin desk.current)) (log desk.current)) c.self.view_is c.self.invariant.0.legal

pub returns-clause-seen : goal.returns-clause-seen
returns-clause-seen g c =
    let State : Type 0 = PostState g.row.V.Denot g.row.V-Origin.Denot in
    let Seen : Type 0 = ReaderState g.row.V.Denot Entry g.row.V-Origin.Denot in
    let last : c.close.result.last ≡ c.args.self.current = search rules in
    let P : Seen → Type 0 = λ reader. IsPrefix reader.seen (g.V.Dated.log c.args.self.current) in
    let all : All P c.gather-all.result.1.items = subst (λ v. All (λ (reader : Seen). IsPrefix reader.seen (g.V.Dated.log v)) c.gather-all.result.1.items) last c.close.ensures.seen in
    all_of_map (λ (post : State). post.reader) P c.args.posts.items (subst (All P) c.gather-all.ensures.readers all)

pub returns-clause-began : goal.returns-clause-began
returns-clause-began g c =
    let State : Type 0 = PostState g.row.V.Denot g.row.V-Origin.Denot in
    let Seen : Type 0 = ReaderState g.row.V.Denot Entry g.row.V-Origin.Denot in
    let began : c.self.inside.writer.origin ≡ Some (g.V.Dated.origin c.args.self.current) = search rules in
    let P : Seen → Type 0 = λ reader. reader.origin ≡ Some (g.V.Dated.origin c.args.self.current) in
    let all : All P c.gather-all.result.1.items = subst (λ o. All (λ (reader : Seen). reader.origin ≡ o) c.gather-all.result.1.items) began c.close.ensures.origin in
    all_of_map (λ (post : State). post.reader) P c.args.posts.items (subst (All P) c.gather-all.ensures.readers all)

pub returns-clause-receipts : goal.returns-clause-receipts
returns-clause-receipts g c =
    let State : Type 0 = PostState g.row.V.Denot g.row.V-Origin.Denot in
    let log = g.V.Dated.log c.args.self.current in
    let made : sum_by (λ (post : State). length post.receipts) c.args.posts.items ≡ length log =
    sym c.gather-all.ensures.amount ∙ c.audit.ensures.whole (c.gather-all.ensures.parts ∙ c.requires.all.count ∙ c.requires.room)
    ∙ c.self.invariant.0.counted ∙ ap (λ (desk : DeskState g.row.V.Denot). length (g.V.Dated.log desk.current)) c.self.view_is in
    receipts_are_all g.N.RoomName.posts log c.args.posts.items c.requires.all (named_in_log log c.args.posts.items c.gather-all.ensures.named (returns-clause-seen g c)) made

pub returns-clause-serials : goal.returns-clause-serials
returns-clause-serials g c =
    let State : Type 0 = PostState g.row.V.Denot g.row.V-Origin.Denot in
    let log = g.V.Dated.log c.args.self.current in
    All-weaker (λ (post : State). post.receipts ≡ receipts_in (number_of post) log) (λ (post : State). AreNumbered post.receipts)
    (λ post is. subst AreNumbered (sym is) (legal_numbered (g.V.Advance.judges (g.V.Dated.origin c.args.self.current)) (number_of post) log (returns-clause-legal g c)))
    c.args.posts.items (returns-clause-receipts g c)
