use Rattle.std.proofs.Common.{◌≡◌, Some, subst, sym}
use Rattle.board.specs.Lists.{IsPrefix}
use Rattle.desk.specs.Ends.{PostState, number_of}
use Rattle.desk.specs.Legal.{IsLegal}
use Rattle.desk.specs.Receipts.{AreNumbered, receipts_in}
use Rattle.room_console.proofs.Closed.{all_moved}
use Rattle.room_console.proofs.closing.close_room.Goals as goal

pub returns-clause-legal : goal.returns-clause-legal
returns-clause-legal g c =
    let judges = g.V.Advance.judges in
    let origin = g.V.Dated.origin in
    let log = g.V.Dated.log in
    subst (λ v. IsLegal (judges (origin v)) (log v)) (sym c.close-last.ensures.last) c.close-last.ensures.legal

pub returns-clause-seen : goal.returns-clause-seen
returns-clause-seen g c =
    let State : Type 0 = PostState g.row.V.Denot g.row.V-Origin.Denot in
    let log = g.V.Dated.log in
    all_moved (λ v (post : State). IsPrefix post.reader.seen (log v)) c.close-last.result.last c.desk.inside.desk.current c.gather-posts.result.items c.args.consoles.items
    c.close-last.ensures.last c.gather-posts.ensures c.close-last.ensures.seen

pub returns-clause-began : goal.returns-clause-began
returns-clause-began g c =
    let State : Type 0 = PostState g.row.V.Denot g.row.V-Origin.Denot in
    let origin = g.V.Dated.origin in
    all_moved (λ v (post : State). post.reader.origin ≡ Some (origin v)) c.close-last.result.last c.desk.inside.desk.current c.gather-posts.result.items c.args.consoles.items
    c.close-last.ensures.last c.gather-posts.ensures c.close-last.ensures.began

pub returns-clause-receipts : goal.returns-clause-receipts
returns-clause-receipts g c =
    let State : Type 0 = PostState g.row.V.Denot g.row.V-Origin.Denot in
    let log = g.V.Dated.log in
    all_moved (λ v (post : State). post.receipts ≡ receipts_in (number_of post) (log v)) c.close-last.result.last c.desk.inside.desk.current c.gather-posts.result.items c.args.consoles.items
    c.close-last.ensures.last c.gather-posts.ensures c.close-last.ensures.receipts

pub returns-clause-serials : goal.returns-clause-serials
returns-clause-serials g c =
    let State : Type 0 = PostState g.row.V.Denot g.row.V-Origin.Denot in
    all_moved (λ v (post : State). AreNumbered post.receipts) c.close-last.result.last c.desk.inside.desk.current c.gather-posts.result.items c.args.consoles.items
    c.close-last.ensures.last c.gather-posts.ensures c.close-last.ensures.serials
