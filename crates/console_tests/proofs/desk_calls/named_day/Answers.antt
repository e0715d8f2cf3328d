use Rattle.std.proofs.Common.{◌≡◌, [], ◌∷◌, ◌++◌, ap, sym, subst, ◌∙◌}
use Rattle.desk.specs.Ends.{AreAllPosts}
use Rattle.console_tests.proofs.Posts.{put_back}
use Rattle.console_tests.proofs.desk_calls.named_day.Goals as goal

pub close-last-requires-clause-all : goal.close-last-requires-clause-all
close-last-requires-clause-all g c κs within =
    let posts = c.in-Ok.posts.items in let some = c.pop.new.self.items in let rest = c.pop-2.new.self.items in
    let one = c.view_of.new.post in let two = c.view_of-2.new.post in let taken = c.in-Some-Some in
    let all = subst (λ consoles. AreAllPosts consoles posts) c.requires.board.1 c.in-Ok.ensures.posts in
    let pushed : c.push-2.new.self.items ≡ (rest ++ one ∷ []) ++ two ∷ [] = c.in_ok-push-2.ensures.items ∙ ap (λ others. others ++ two ∷ []) c.in_ok-push.ensures.items in
    subst (AreAllPosts g.N.RoomName.posts) (sym pushed)
    (put_back g.N.RoomName.posts posts some rest taken.first taken.second one two taken.ensures.items taken.ensures'.items
    (c.view_of.ensures ∙ c.order-one.ensures) (c.view_of-2.ensures ∙ c.order-two.ensures) all)
