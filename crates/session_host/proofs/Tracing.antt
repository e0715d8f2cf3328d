-- What a trace on the version of a look is to a history that goes on from what is seen then.
use Rattle.std.proofs.Common.{◌≡◌, ℕ, ◌⊎◌, List, length, take, Option, Some, unwrap_or, inl, inr, ap, sym, subst, ◌∙◌}
use Rattle.board.specs.Lists.{IsPrefix}
use Rattle.cim_words.specs.declared.phases.PhaseSet.{PhaseSet}
use Rattle.cim_words.specs.declared.statement.Statement.{Statement}
use Rattle.room_words.specs.TraceText.{trace_text}
use Rattle.room_words.specs.declared.event.Entry.{Entry}
use Rattle.room_words.specs.declared.reply.Reply.{Reply}
use Rattle.room_words.specs.declared.reply.Reply.TheVariants as reply
use Rattle.session_host.specs.Looks.{OnlySees}
use Rattle.session_host.specs.Replies.{Traces}
use Rattle.session_host.specs.Told.{Post}
use Rattle.session_host.specs.Views.{view_of}
use Rattle.versions.specs.Past.{Past}
use Rattle.versions.specs.Traced.{HasNoSource, IsTraceOf}

-- a version of a base and a log
abbrev past : List Statement → List Entry → Past
past base log = record { base = base; log = log }

-- what is shown is one version
pub shown_is : (shown : Option Past) (version other : Past) → shown ≡ Some other → shown ≡ Some version → version ≡ other
shown_is shown version other one two = ap (λ (o : Option Past). unwrap_or o other) (sym two ∙ one)

module _ (before after : Post) (base : List Statement) (history : List Entry) (console start : ℕ) (phases : PhaseSet)
    (more : IsPrefix after.reader.seen history) (sees : OnlySees history (view_of before) (view_of after) (length after.reader.seen)) where
  traced : (version : Past) (text : List ℕ) → version ≡ record { base = base; log = after.reader.seen } → (t : IsTraceOf version start phases text) →
      IsTraceOf (record { base = base; log = take (length version.log) history }) start phases (trace_text (length version.log) t.rows)
  traced version text is t =
      let whole : version ≡ record { base = base; log = take (length version.log) history } =
      is ∙ ap (λ (l : List Entry). past base l) (sym more ∙ ap (λ (v : Past). take (length v.log) history) (sym is)) in
      subst (λ (v : Past). IsTraceOf v start phases (trace_text (length version.log) t.rows)) whole
      (subst (IsTraceOf version start phases) t.is_text t)

  pub traces : (version : Past) (text : List ℕ) → version ≡ record { base = base; log = after.reader.seen } → (t : IsTraceOf version start phases text) →
      Traces base history console start phases (view_of before) (reply.Trace (length version.log) t.rows) (view_of after)
  traces version text is t =
      (subst (λ (n : ℕ). OnlySees history (view_of before) (view_of after) n) (ap (λ (v : Past). length v.log) (sym is)) sees, traced version text is t)

  pub traces_none : (version : Past) → version ≡ record { base = base; log = after.reader.seen } → HasNoSource version start → (told : Reply) →
      (told ≡ reply.NoSuch (length version.log)) ⊎ (told ≡ reply.Memory) →
      Traces base history console start phases (view_of before) told (view_of after)
  traces_none version is none told (inl missing) =
      let whole : version ≡ record { base = base; log = take (length version.log) history } =
      is ∙ ap (λ (l : List Entry). past base l) (sym more ∙ ap (λ (v : Past). take (length v.log) history) (sym is)) in
      subst (λ (r : Reply). Traces base history console start phases (view_of before) r (view_of after)) (sym missing) (
        subst (λ (n : ℕ). OnlySees history (view_of before) (view_of after) n) (ap (λ (v : Past). length v.log) (sym is)) sees,
        subst (λ (v : Past). HasNoSource v start) whole none,
      )
  traces_none version is none told (inr memory) =
      subst (λ (r : Reply). Traces base history console start phases (view_of before) r (view_of after)) (sym memory)
      (inr (length after.reader.seen, sees))
