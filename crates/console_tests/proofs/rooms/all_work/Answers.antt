use Rattle.std.proofs.Common.{length, drop, ap, sym, subst, ◌∙◌}
use denote.Param.Send.{sendable}
use Rattle.desk.specs.Ends.{AreAllPosts}
use Rattle.console_tests.proofs.Posts.{written_back}
use Rattle.console_tests.proofs.rooms.all_work.Goals as goal

pub for_each_mut-requires-clause-accepts : goal.for_each_mut-requires-clause-accepts
for_each_mut-requires-clause-accepts g c κs within = λ index console inside is. (search sendable, search sendable, search sendable, search sendable, search sendable)

pub returns : goal.returns
returns g c =
    let posts = g.N.RoomName.posts in let before = c.as_mut_slice.result.now in let after = c.for_each_mut.new.s in
    written_back posts before after (drop (length after) c.args.consoles.now.items) c.args.consoles.now.len (sym c.as_mut_slice.ensures.len) c.for_each_mut.auto.s
    (λ index console inside.
    let turn = (c.for_each_mut.ensures index console inside).1 in
    ap (λ post. post.reader.console) (sym turn.left) ∙ turn.call ∙ ap (λ post. post.reader.console) turn.argument_is)
    (subst (AreAllPosts posts) (sym c.as_mut_slice.ensures.value) c.requires.all)
