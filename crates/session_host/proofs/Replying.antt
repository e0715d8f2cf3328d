-- How replies are told.
use Rattle.std.proofs.Common.{◌≡◌, ℕ, List, [], Option, None, Some, Result, Ok, Err, inl, inr, refl, subst, sym, Bool, true, false}
use Rattle.std.specs.declared.alloc.AllocError.{AllocError}
use Rattle.cim_words.specs.declared.statement.Statement.{Statement}
use Rattle.difference.specs.declared.fault.DiffFault.{DiffFault}
use Rattle.difference.specs.declared.fault.DiffFault.TheVariants as diff
use Rattle.line_serve.specs.AnsweredLines.{Answer}
use Rattle.line_serve.specs.declared.answerer.Next.{Next}
use Rattle.room_words.specs.Differences.{Changes}
use Rattle.room_words.specs.declared.event.Entry.{Entry}
use Rattle.room_words.specs.declared.reply.Reply.{Reply}
use Rattle.room_words.specs.declared.reply.Reply.TheVariants as reply
use Rattle.room_words.specs.declared.stage_fault.StageFault.{StageFault}
use Rattle.session_host.specs.Exchanges.{When, answer_of}
use Rattle.session_host.specs.Replies.{AnswersRequest, CutsOver}
use Rattle.session_host.specs.Told.{Answered, IsTold, Replied, StagesDraft, TalkState, TellsFault, next_of}
use Rattle.session_host.specs.Views.{SessionState, View}
use Rattle.staging.specs.Documents.{HasFault}
use Rattle.wire.specs.Replies.{reply_text}
use Rattle.wire.specs.declared.request.Request.{Request}
use Rattle.wire.specs.declared.request.Request.TheVariants as request

-- a reply that is no want of memory is its text, and says whether the session goes on
pub told_by_text : (told : Reply) → (told ≡ reply.Memory → ⊥) → answer_of told ≡ Some (next_of told, reply_text told)
told_by_text (reply.Ok number) never = refl
told_by_text (reply.No refused) never = refl
told_by_text (reply.NoSuch at) never = refl
told_by_text (reply.Seen at) never = refl
told_by_text (reply.Trace at rows) never = refl
told_by_text (reply.Staged pre rev fwd) never = refl
told_by_text (reply.Fault bad) never = refl
told_by_text reply.Memory never = absurd (never refl)
told_by_text reply.Bye never = refl

-- a reply that was told is one that holds
pub replied : (told : Reply) (result : Result Next AllocError) (old new : List ℕ) (Holds : Reply → Type 0) →
    IsTold told result old new → Holds told → Replied result old new Holds
replied told (Ok next) old new Holds is holds = (told, is.0, is.1, holds)
replied told (Err failed) old new Holds is holds = (is.1, subst Holds is.0 holds)

pub replied_so : (result : Result Next AllocError) (old new : List ℕ) (P Q : Reply → Type 0) →
    ((told : Reply) → P told → Q told) → Replied result old new P → Replied result old new Q
replied_so (Ok next) old new P Q so is = (is.0, is.1, is.2, so is.0 is.3)
replied_so (Err failed) old new P Q so is = (is.0, so reply.Memory is.1)

-- a reply answers the line at which it stands
pub answered : (result : Result Next AllocError) (old new : List ℕ) (P : Reply → Type 0) (Q : Answer → Type 0) →
    ((told : Reply) → P told → Q (answer_of told)) → Replied result old new P → Answered result old new Q
answered (Ok next) old new P Q so is = (reply_text is.0, is.2, subst Q is.1 (so is.0 is.3))
answered (Err failed) old new P Q so is = (is.0, so reply.Memory is.1)

-- where nothing was done, want of memory answers every request
module _ (base : List Statement) (history : List Entry) (console : ℕ) (before : SessionState) where
  cut_over_for_memory : (staged : Option Changes) → before.staged ≡ staged → CutsOver base history console staged before reply.Memory before
  cut_over_for_memory None is = (inr refl, refl)
  cut_over_for_memory (Some d) is = (inl refl, refl)

  pub request_for_memory : (r : Request) → AnswersRequest base history console [] r before reply.Memory before
  request_for_memory (request.Act act) = (inl refl, refl)
  request_for_memory (request.Look at) = (inl refl, refl)
  request_for_memory (request.Trace start phases) = (inl refl, refl)
  request_for_memory request.Stage = refl
  request_for_memory request.Cutover = cut_over_for_memory before.staged refl
  request_for_memory request.Bye = (inr refl, refl)

-- what a request is answered, where that is known which one it is
pub request_so : (base : List Statement) (history : List Entry) (console : ℕ) (asked r : Request) (before : SessionState) (told : Reply) (after : SessionState) →
    asked ≡ r → AnswersRequest base history console [] r before told after → AnswersRequest base history console [] asked before told after
request_so base history console asked r before told after is = subst (λ (one : Request). AnswersRequest base history console [] one before told after) (sym is)

-- a test that holds, and one that does not
pub when_true : (Yes No : Type 0) (test : Bool) → test ≡ true → Yes → When test Yes No
when_true Yes No test is = subst (λ (b : Bool). When b Yes No) (sym is)

pub when_false : (Yes No : Type 0) (test : Bool) → test ≡ false → No → When test Yes No
when_false Yes No test is = subst (λ (b : Bool). When b Yes No) (sym is)

-- a session with another draft
abbrev pub with_draft : TalkState → Option (Option (Option (List ℕ))) → TalkState
with_draft talk draft = record { staged = talk.staged; draft = draft }

-- what a document is told that is not staged
pub faulted : (kept : Option (List ℕ)) (why : DiffFault) → ((bad : StageFault) → why ≡ diff.Stage bad → HasFault kept bad) →
    (state : SessionState) (told : Reply) → TellsFault why told → StagesDraft (Some kept) state told state
faulted kept (diff.Stage bad) faults state told is = subst (λ (r : Reply). StagesDraft (Some kept) state r state) (sym is) (faults bad refl, refl)
faulted kept diff.NoMemory faults state told is = subst (λ (r : Reply). StagesDraft (Some kept) state r state) (sym is) refl

abbrev pub staging : View → Changes → SessionState
staging view d = record { view = view; staged = Some d }

-- a session outside documents that has staged this
abbrev pub with_staged : Option Changes → TalkState
with_staged staged = record { staged = staged; draft = None }
