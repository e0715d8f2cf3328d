use Rattle.std.proofs.Common.{◌≡◌, ◌∙◌, [], sym, ap, subst, refl}
use Rattle.std.specs.Str.{bytes_eq}
use denote.Param.Send.{sendable}
use Rattle.desk.specs.Ends.{number_of}
use Rattle.session_host.proofs.Replying.{answered, when_false}
use Rattle.session_host.specs.Exchanges.{stage_line}
use Rattle.session_host.specs.Replies.{AnswersLine}
use Rattle.session_host.specs.Told.{Ever, TalkState, TalksOutside, state_of}
use Rattle.versions.proofs.BetweenThreads.{version_sends, version_syncs}
use Rattle.session_host.proofs.talk.Talk.outside.Goals as goal

pub console-requires-send-V : goal.console-requires-send-V
console-requires-send-V g c κs within = search (version_sends, sendable)

pub console-requires-sync-V : goal.console-requires-sync-V
console-requires-sync-V g c κs within = search (version_syncs, sendable)

pub returns-clause-answers : goal.returns-clause-answers
returns-clause-answers g c =
    let same : c.pass.new.self ≡ c.args.self.now = c.pass.ensures in
    answered c.ask.result c.args.out.now.items c.ask.new.out.items
    (λ told. Ever c.args.console.now c.ask.new.console (λ base history.
    AnswersLine base history (number_of c.args.console.now) c.args.line.now [] (state_of c.pass.new.self c.args.console.now) told (state_of c.ask.new.self c.ask.new.console)))
    (λ answer. TalksOutside c.args.self.now c.args.console.now c.args.line.now answer c.ask.new.self c.ask.new.console)
    (λ told p. when_false _ _ (bytes_eq c.args.line.now stage_line) (sym c.begins_document.ensures ∙ c.if-begins_document.false) (
      told,
      refl,
      c.ask.ensures.draft ∙ (ap (λ (t : TalkState). t.draft) same ∙ c.requires.no_draft),
      subst (λ (t : TalkState). Ever c.args.console.now c.ask.new.console (λ base history.
          AnswersLine base history (number_of c.args.console.now) c.args.line.now [] (state_of t c.args.console.now) told (state_of c.ask.new.self c.ask.new.console))) same p,
    ))
    c.ask.ensures.answers
