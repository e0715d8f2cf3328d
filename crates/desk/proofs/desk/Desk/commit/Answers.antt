use Rattle.std.proofs.Common.{rules, ◌≡◌, ◌++◌, ◌∷◌, [], List, ap, ◌∙◌, arith, length, ◌+◌, ◌<◌, ◌^◌}
use Rattle.board.specs.Lists.{IsPrefix, longer}
use Rattle.room_words.specs.declared.event.Entry.{Entry}
use Rattle.room_words.specs.declared.receipt.Receipt.{Receipt}
use Rattle.desk.proofs.Holdings.{post_gains, desk_goes_on, receipt_is, told_is_longer}
use Rattle.desk.proofs.desk.Desk.commit.Goals as goal

pub invariant_of-self : goal.invariant_of-self
invariant_of-self g c =
    let inside = c.self.inside in (
      desk_goes_on g.V.Advance.judges g.V.Dated.origin g.V.Dated.log g.N.RoomName.board g.N.RoomName.posts inside.writer inside.book.total c.self.invariant.0
          c.args.prepared (search rules) c.note.new.self (search rules) c.add.new.self.total (search rules),
      c.self.invariant.1,
      c.self.invariant.2,
      c.self.invariant.3,
      c.self.invariant.4,
      c.self.invariant.5,
    )

pub invariant_of-post : goal.invariant_of-post
invariant_of-post g c =
    let inside = c.post.inside in
    let entry = c.args.prepared.entry in
    let before = g.V.Dated.log c.self.inside.writer.last in
    let after = g.V.Dated.log c.args.prepared.version in
    let grown : after ≡ before ++ entry ∷ [] = search rules in
    let begins : IsPrefix inside.reader.seen before = search rules in
    let learnt : c.learn.new.self.seen ≡ longer inside.reader.seen after = search rules in
    let seen : c.learn.new.self.seen ≡ before ++ entry ∷ [] = learnt ∙ ap (λ (log : List Entry). longer inside.reader.seen log) grown ∙ told_is_longer inside.reader.seen before (entry ∷ []) begins in
    let receipt = receipt_is before after entry c.prepared.inside.console c.prepared.inside.serial c.prepared.inside.number grown (search rules) (search rules) (search rules) in
    let narrow : c.prepared.inside.number < 2 ^ 32 = search rules in
    let count : c.prepared.inside.number ≡ length before + 1 = ap (λ (r : Receipt). r.number) receipt in
    post_gains g.N.RoomName.board inside.reader inside.receipts.items inside.console inside.share.parts inside.share.amount c.post.invariant
    before entry begins (omega (arith, narrow, count)) (search rules) c.learn.new.self (search rules) (search rules) seen
    c.push_reserved.new.self.items (c.push_reserved.ensures.items ∙ ap (λ one. inside.receipts.items ++ one ∷ []) receipt) c.add.new.share.parts c.add.new.share.amount (search rules) (search rules)
