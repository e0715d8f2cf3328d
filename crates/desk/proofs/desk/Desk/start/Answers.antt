use Rattle.std.proofs.Common.{rules, arith, ℕ, ◌≡◌, ◌<◌, [], IfSome, slice_get, subst}
use Rattle.board.specs.Ends.{newly_seated}
use Rattle.room_words.specs.declared.event.Entry.{Entry}
use Rattle.desk.specs.Ends.{SeedState, AreAllPosts}
use Rattle.desk.proofs.Holdings.{desk_begins, posts_in_order, posts_fresh}
use Rattle.desk.proofs.desk.Desk.start.Goals as goal

pub invariant_of-desk : goal.invariant_of-desk
invariant_of-desk g c =
    let i = c.seed.inside in
    let ready = c.hand_out-posts.ensures in
    let consoles : i.consoles ≡ g.N.RoomName.posts = search rules in
    let count = c.seed.invariant.count in (
      desk_begins g.V.Advance.judges g.V.Dated.origin g.V.Dated.log g.N.RoomName.board g.N.RoomName.posts i.writer c.open-book.result.0.total
          i.readers.items i.consoles i.blank.parts c.seed.invariant (search rules) consoles (search rules),
      consoles,
      ready.rest.0,
      ready.rest.1,
      ready.readers.0,
      omega (arith, ready.readers.1, count, consoles),
    )

pub returns-clause-posts : goal.returns-clause-posts
returns-clause-posts g c =
    let i = c.seed.inside in
    let posts = c.hand_out-posts.result.0.items in
    subst (λ (seed : SeedState g.row.V.Denot). AreAllPosts seed.consoles posts) c.seed.view_is
    (posts_in_order g.V.Dated.origin g.V.Dated.log i.writer i.readers.items i.consoles i.blank.parts c.seed.invariant posts c.hand_out-posts.ensures.posts)

pub returns-clause-fresh : goal.returns-clause-fresh
returns-clause-fresh g c =
    let i = c.seed.inside in
    let posts = c.hand_out-posts.result.0.items in
    let origin = g.V.Dated.origin in
    subst (λ board. (index : ℕ) → index < c.args.seed.consoles → IfSome (slice_get posts index) (λ post. (post.reader ≡ newly_seated {I = Entry} board index [] (origin c.args.seed.first) c.args.seed.first) × (post.receipts ≡ []))) c.requires.board.0
    (subst (λ (seed : SeedState g.row.V.Denot). (index : ℕ) → index < seed.consoles → IfSome (slice_get posts index) (λ post. (post.reader ≡ newly_seated {I = Entry} seed.board index [] (origin seed.first) seed.first) × (post.receipts ≡ []))) c.seed.view_is
    (posts_fresh origin g.V.Dated.log i.writer i.readers.items i.consoles i.blank.parts c.seed.invariant posts c.hand_out-posts.ensures.posts))
