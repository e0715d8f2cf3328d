-- What the calls of a session say of their console, of the history, and of what they write. All of it is of this project.
use Rattle.std.specs.Prelude.{ℕ, ◌≡◌, ◌+◌, ◌≤◌, ◌⊎◌, List, [], ◌++◌, length, Option, Some, None, Result, Ok, Err}
use Rattle.std.specs.Str.{bytes_eq}
use Rattle.std.specs.declared.alloc.AllocError.{AllocError}
use Rattle.board.specs.Lists.{IsPrefix}
use Rattle.cim_words.specs.declared.statement.Statement.{Statement}
use Rattle.desk.specs.Ends.{PostState, number_of}
use Rattle.difference.specs.declared.fault.DiffFault.{DiffFault}
use Rattle.difference.specs.declared.fault.DiffFault.TheVariants as diff
use Rattle.line_serve.specs.AnsweredLines.{Answer}
use Rattle.line_serve.specs.declared.answerer.Next.{Next}
use Rattle.line_serve.specs.declared.answerer.Next.TheVariants as next
use Rattle.room_words.specs.Differences.{Changes}
use Rattle.room_words.specs.declared.event.Entry.{Entry}
use Rattle.room_words.specs.declared.fault.Fault.TheVariants as fault
use Rattle.room_words.specs.declared.reply.Reply.{Reply}
use Rattle.room_words.specs.declared.reply.Reply.TheVariants as reply
use Rattle.session_host.specs.Exchanges.{When, answer_of, silence, stage_line}
use Rattle.session_host.specs.Replies.{AnswersLine}
use Rattle.session_host.specs.Views.{SessionState, view_of}
use Rattle.staging.specs.Documents.{HasFault, Says, closes, more_kept}
use Rattle.versions.specs.Past.{Past}
use Rattle.wire.specs.Replies.{reply_text}

-- a console as contracts see it
abbrev pub Post : Type 0
Post = PostState Past (List Statement)

-- A console keeps its seat, has seen no less than before, and has looked at most once more.
pub record KeepsSeat (before after : Post) : Type 0 where
  pub console : after.reader.console ≡ before.reader.console
  pub board : after.reader.board ≡ before.reader.board
  pub origin : after.reader.origin ≡ before.reader.origin
  pub begins : IsPrefix before.reader.seen after.reader.seen
  pub looks : length after.reader.founds ≤ length before.reader.founds + 1

-- something holds of the base, and of every history that goes on from what is seen now
abbrev pub Ever : Post → Post → (List Statement → List Entry → Type 0) → Type 0
Ever before after Holds = (base : List Statement) → before.reader.origin ≡ Some base
    → (history : List Entry) → IsPrefix after.reader.seen history → Holds base history

-- A reply is written at the end, and the session goes on as the reply says; or memory did not suffice, and nothing is written.
abbrev pub Replied : Result Next AllocError → List ℕ → List ℕ → (Reply → Type 0) → Type 0
Replied (Ok next) old new Holds =
    (told : Reply) × (answer_of told ≡ Some (next, reply_text told)) × (new ≡ old ++ reply_text told) × Holds told
Replied (Err _) old new Holds = (new ≡ old) × Holds reply.Memory

-- the same, where nothing may be written besides
abbrev pub Answered : Result Next AllocError → List ℕ → List ℕ → (Answer → Type 0) → Type 0
Answered (Ok next) old new Holds = (text : List ℕ) × (new ≡ old ++ text) × Holds (Some (next, text))
Answered (Err _) old new Holds = (new ≡ old) × Holds None

-- how a reply is told where there is room for it: it is written, or it says that memory did not suffice, and nothing is written
abbrev pub next_of : Reply → Next
next_of reply.Bye = next.Bye
next_of _ = next.Go

abbrev pub IsTold : Reply → Result Next AllocError → List ℕ → List ℕ → Type 0
IsTold told (Ok next) old new = (answer_of told ≡ Some (next, reply_text told)) × (new ≡ old ++ reply_text told)
IsTold told (Err _) old new = (told ≡ reply.Memory) × (new ≡ old)

-- what a session keeps between its lines: what it has staged, and the document that has begun, as far as its lines have come;
-- that is none within once memory did not suffice for it
pub record TalkState : Type 0 where
  pub staged : Option Changes
  pub draft : Option (Option (Option (List ℕ)))

abbrev pub state_of : TalkState → Post → SessionState
state_of talk post = record { view = view_of post; staged = talk.staged }

-- a draft takes one more line, where memory suffices
abbrev pub with_line : Option (Option (List ℕ)) → List ℕ → Option (Option (List ℕ))
with_line None line = None
with_line (Some kept) line = Some (more_kept kept line)

abbrev pub TakesLine : Option (Option (List ℕ)) → List ℕ → Option (Option (List ℕ)) → Type 0
TakesLine before line after = (after ≡ with_line before line) ⊎ (after ≡ None)

-- What a draft says is staged, or it has a fault, or memory did not suffice; one that was dropped says nothing.
abbrev pub StagesDraft : Option (Option (List ℕ)) → SessionState → Reply → SessionState → Type 0
StagesDraft (Some kept) before (reply.Staged pre rev fwd) after =
    (d : Changes) × Says kept d × (pre ≡ length d.pre) × (rev ≡ length d.rev) × (fwd ≡ length d.fwd)
    × (after ≡ record { view = before.view; staged = Some d })
StagesDraft (Some kept) before (reply.Fault (fault.Stage bad)) after = HasFault kept bad × (after ≡ before)
StagesDraft draft before reply.Memory after = after ≡ before
StagesDraft draft before _ after = ⊥

-- A document is not staged: it has a fault, which is told, or memory did not suffice.
abbrev pub TellsFault : DiffFault → Reply → Type 0
TellsFault (diff.Stage bad) told = told ≡ reply.Fault (fault.Stage bad)
TellsFault diff.NoMemory told = told ≡ reply.Memory

-- A line outside a document begins one, or is a request.
abbrev pub TalksOutside : TalkState → Post → List ℕ → Answer → TalkState → Post → Type 0
TalksOutside before post line answer after post_after =
    When (bytes_eq line stage_line)
    ((answer ≡ silence) × (after ≡ record { staged = before.staged; draft = Some (Some (Some [])) }) × (post_after ≡ post))
    ((told : Reply) × (answer ≡ answer_of told) × (after.draft ≡ None)
    × Ever post post_after (λ base history. AnswersLine base history (number_of post) line [] (state_of before post) told (state_of after post_after)))

-- A line within a document is taken, and ends it or not.
abbrev pub TalksWithin : Option (Option (List ℕ)) → TalkState → Post → List ℕ → Answer → TalkState → Post → Type 0
TalksWithin draft before post line answer after post_after = (taken : Option (Option (List ℕ))) × TakesLine draft line taken
    × (post_after ≡ post)
    × When (closes line)
    ((told : Reply) × (answer ≡ answer_of told) × (after.draft ≡ None)
    × StagesDraft taken (state_of before post) told (state_of after post))
    ((answer ≡ silence) × (after ≡ record { staged = before.staged; draft = Some taken }))

abbrev pub TalksBy : Option (Option (Option (List ℕ))) → TalkState → Post → List ℕ → Answer → TalkState → Post → Type 0
TalksBy None before post line answer after post_after = TalksOutside before post line answer after post_after
TalksBy (Some draft) before post line answer after post_after = TalksWithin draft before post line answer after post_after

-- How a session answers a line.
abbrev pub Talks : TalkState → Post → List ℕ → Answer → TalkState → Post → Type 0
Talks before post line answer after post_after = TalksBy before.draft before post line answer after post_after
