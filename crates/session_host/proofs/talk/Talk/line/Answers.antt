use Rattle.std.proofs.Common.{◌≡◌, ◌∙◌, Option, None, Some, List, ℕ, sym, ap, subst}
use Rattle.room_words.specs.Differences.{Changes}
use Rattle.session_host.specs.Told.{Answered, TalkState, TalksBy, TalksOutside, TalksWithin}
use Rattle.session_host.proofs.Replying.{with_staged}
use Rattle.session_host.proofs.talk.Talk.line.Goals as goal

pub returns-in-None-clause-answers : goal.returns-in-None-clause-answers
returns-in-None-clause-answers g c =
    let none : c.args.self.now.draft ≡ None = ap (λ (t : TalkState). t.draft) (sym c.self.view_is) ∙ (sym c.take.ensures.value ∙ c.in-None.is) in
    subst (λ (d : Option (Option (Option (List ℕ)))). Answered c.outside.result c.args.out.now.items c.outside.new.out.items (λ answer.
    TalksBy d c.args.self.now c.args.console.now c.args.line.now answer c.outside.new.self c.outside.new.console)) (sym none)
    (subst (λ (s : Option Changes). Answered c.outside.result c.args.out.now.items c.outside.new.out.items (λ answer.
    TalksOutside (with_staged s) c.args.console.now c.args.line.now answer c.outside.new.self c.outside.new.console))
    (ap (λ (t : TalkState). t.staged) c.self.view_is) c.outside.ensures.answers)

pub returns-in-Some-clause-answers : goal.returns-in-Some-clause-answers
returns-in-Some-clause-answers g c =
    let some : c.args.self.now.draft ≡ Some c.in-Some.draft = ap (λ (t : TalkState). t.draft) (sym c.self.view_is) ∙ (sym c.take.ensures.value ∙ c.in-Some.is) in
    subst (λ (d : Option (Option (Option (List ℕ)))). Answered c.within.result c.args.out.now.items c.within.new.out.items (λ answer.
    TalksBy d c.args.self.now c.args.console.now c.args.line.now answer c.within.new.self c.args.console.now)) (sym some)
    (subst (λ (s : Option Changes). Answered c.within.result c.args.out.now.items c.within.new.out.items (λ answer.
    TalksWithin c.in-Some.draft (with_staged s) c.args.console.now c.args.line.now answer c.within.new.self c.args.console.now))
    (ap (λ (t : TalkState). t.staged) c.self.view_is) c.within.ensures.answers)
