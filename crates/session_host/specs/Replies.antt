-- How the requests of a session are answered, in a history of a base. All of it is of this project.
use Rattle.std.specs.Prelude.{ℕ, ◌≡◌, ◌⊎◌, List, length, take, Option, Some, None, false}
use Rattle.cim_words.specs.declared.phases.PhaseSet.{PhaseSet}
use Rattle.cim_words.specs.declared.statement.Statement.{Statement}
use Rattle.difference.specs.Document.{IsDocument}
use Rattle.difference.specs.Faults.{IsFault}
use Rattle.room_words.specs.Differences.{Changes}
use Rattle.room_words.specs.declared.event.Entry.{Entry}
use Rattle.room_words.specs.declared.event.Event.{Event}
use Rattle.room_words.specs.declared.event.Event.TheVariants as event
use Rattle.room_words.specs.declared.fault.Fault.{Fault}
use Rattle.room_words.specs.declared.fault.Fault.TheVariants as fault
use Rattle.room_words.specs.declared.reply.Reply.{Reply}
use Rattle.room_words.specs.declared.reply.Reply.TheVariants as reply
use Rattle.session_host.specs.Looks.{Enters, MaySee, OnlySees}
use Rattle.session_host.specs.Views.{SessionState, View}
use Rattle.versions.specs.History.{Judges}
use Rattle.versions.specs.Traced.{HasNoSource, IsTraceOf}
use Rattle.wire.specs.Replies.{reply_text}
use Rattle.wire.specs.Requests.{IsRequest, IsRequestFault}
use Rattle.wire.specs.declared.request.Request.{Request}
use Rattle.wire.specs.declared.request.Request.TheVariants as request

-- A document is staged in place of what was staged before; or it has a fault, or memory did not suffice, and nothing changes.
abbrev pub Stages : List ℕ → SessionState → Reply → SessionState → Type 0
Stages document before (reply.Staged pre rev fwd) after =
    (d : Changes) × IsDocument document d × (pre ≡ length d.pre) × (rev ≡ length d.rev) × (fwd ≡ length d.fwd)
    × (after ≡ record { view = before.view; staged = Some d })
Stages document before (reply.Fault (fault.Stage bad)) after = IsFault document bad × (after ≡ before)
Stages document before reply.Memory after = after ≡ before
Stages document before _ after = ⊥

-- what is staged after a cutover: nothing once it was accepted
abbrev pub staged_after : Reply → Option Changes → Option Changes
staged_after (reply.Ok number) staged = None
staged_after _ staged = staged

-- a reply that changes nothing, or memory did not suffice for it
abbrev pub Tells : Reply → SessionState → Reply → SessionState → Type 0
Tells expected before told after = ((told ≡ expected) ⊎ (told ≡ reply.Memory)) × (after ≡ before)

module _ (base : List Statement) (history : List Entry) (console : ℕ) where
  -- An event is entered; or it is refused, as it is judged on the entries that are seen then; or memory did not suffice.
  abbrev pub Submits : Event → View → Reply → View → Type 0
  Submits one before (reply.Ok number) after = Enters history console one before after number
  Submits one before (reply.No refused) after =
      OnlySees history before after refused.at × Judges base (take refused.at history) one (Some refused.why)
  Submits one before reply.Memory after = MaySee history before after
  Submits one before _ after = ⊥

  -- A look is answered by how many entries are seen then.
  abbrev pub Looks : View → Reply → View → Type 0
  Looks before (reply.Seen count) after = OnlySees history before after count
  Looks before reply.Memory after = MaySee history before after
  Looks before _ after = ⊥

  -- A trace goes through the network that the entries seen then make of the base.
  abbrev pub Traces : ℕ → PhaseSet → View → Reply → View → Type 0
  Traces start phases before (reply.Trace count rows) after =
      OnlySees history before after count
      × IsTraceOf (record { base = base; log = take count history }) start phases (reply_text (reply.Trace count rows))
  Traces start phases before (reply.NoSuch count) after =
      OnlySees history before after count × HasNoSource (record { base = base; log = take count history }) start
  Traces start phases before reply.Memory after = MaySee history before after
  Traces start phases before _ after = ⊥

  -- What is staged is submitted. Where nothing is, that is a fault, and nothing changes.
  abbrev pub CutsOver : Option Changes → SessionState → Reply → SessionState → Type 0
  CutsOver None before told after = Tells (reply.Fault fault.Staged) before told after
  CutsOver (Some d) before told after =
      Submits (event.Cutover d) before.view told after.view × (after.staged ≡ staged_after told before.staged)

  -- How a request is answered, with the document that it stages.
  abbrev pub AnswersRequest : List ℕ → Request → SessionState → Reply → SessionState → Type 0
  AnswersRequest document (request.Act act) before told after =
      Submits (event.Act act) before.view told after.view × (after.staged ≡ before.staged)
  AnswersRequest document (request.Look at) before told after = Looks before.view told after.view × (after.staged ≡ before.staged)
  AnswersRequest document (request.Trace start phases) before told after =
      Traces start.number phases before.view told after.view × (after.staged ≡ before.staged)
  AnswersRequest document request.Stage before told after = Stages document before told after
  AnswersRequest document request.Cutover before told after = CutsOver before.staged before told after
  AnswersRequest document request.Bye before told after = Tells reply.Bye before told after

  -- A line is a request and is answered so, or it is none and is told what is wrong with it.
  abbrev pub AnswersLine : List ℕ → List ℕ → SessionState → Reply → SessionState → Type 0
  AnswersLine line document before told after =
      ((r : Request) × IsRequest false line r × AnswersRequest document r before told after)
      ⊎ ((bad : Fault) × IsRequestFault false line bad × Tells (reply.Fault bad) before told after)
