use Rattle.std.proofs.Common.{◌∙◌, [], Some, refl, sym, ap, subst, append-nil}
use denote.Param.Send.{sendable}
use Rattle.session_host.proofs.Replying.{answered, when_false, when_true, with_draft}
use Rattle.session_host.specs.Told.{StagesDraft, TalkState, TalksWithin}
use Rattle.session_host.specs.Views.{view_of}
use Rattle.staging.specs.Documents.{closes}
use Rattle.versions.proofs.BetweenThreads.{version_sends, version_syncs}
use Rattle.session_host.proofs.talk.Talk.within.Goals as goal

pub console-requires-send-V : goal.console-requires-send-V
console-requires-send-V g c κs within = search (version_sends, sendable)

pub console-requires-sync-V : goal.console-requires-sync-V
console-requires-sync-V g c κs within = search (version_syncs, sendable)

pub returns-then-not-ends_document : goal.returns-then-not-ends_document
returns-then-not-ends_document g c =
    record {
      answers = (
        [],
        sym (append-nil c.args.out.now.items),
        (
          c.add.new.self,
          c.add.ensures,
          refl,
          when_false _ _ (closes c.args.line.now) (sym c.ends_document.ensures ∙ c.if-not-ends_document.true)
              (refl, ap (λ (t : TalkState). with_draft t (Some c.add.new.self)) c.self.view_is),
        ),
      );
    }

pub returns : goal.returns
returns g c =
    record {
      answers = answered c.stage.result c.args.out.now.items c.stage.new.out.items
          (λ told. StagesDraft c.add.new.self (record { view = view_of c.args.console.now; staged = c.pass.new.self.staged }) told
          (record { view = view_of c.args.console.now; staged = c.stage.new.self.staged }))
          (λ answer. TalksWithin c.args.draft c.args.self.now c.args.console.now c.args.line.now answer c.stage.new.self c.args.console.now)
          (λ told p. (
            c.add.new.self,
            c.add.ensures,
            refl,
            when_true _ _ (closes c.args.line.now) (sym c.ends_document.ensures ∙ c.if-not-ends_document.false) (
              told,
              refl,
              c.stage.ensures.draft ∙ (ap (λ (t : TalkState). t.draft) c.pass.ensures ∙ c.requires),
              subst (λ (t : TalkState). StagesDraft c.add.new.self (record { view = view_of c.args.console.now; staged = t.staged }) told
                  (record { view = view_of c.args.console.now; staged = c.stage.new.self.staged })) c.pass.ensures p,
            ),
          ))
          (c.stage.ensures.staged (view_of c.args.console.now));
    }
