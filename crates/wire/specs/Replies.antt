-- The texts of replies, of this project: lines of words, a trace having a line for each row.
use Rattle.std.specs.Prelude.{ℕ, List, [], ◌∷◌, codes}
use Rattle.std.specs.Fmt.{decimal}
use Rattle.cim_words.specs.IdText.{id_text}
use Rattle.room_words.specs.TraceText.{trace_text}
use Rattle.room_words.specs.declared.act_refusal.ActRefusal.{ActRefusal}
use Rattle.room_words.specs.declared.act_refusal.ActRefusal.TheVariants as act
use Rattle.room_words.specs.declared.diff_refusal.DiffRefusal.{DiffRefusal}
use Rattle.room_words.specs.declared.diff_refusal.DiffRefusal.TheVariants as diff
use Rattle.room_words.specs.declared.fault.Fault.{Fault}
use Rattle.room_words.specs.declared.fault.Fault.TheVariants as fault
use Rattle.room_words.specs.declared.refused.Why.{Why}
use Rattle.room_words.specs.declared.refused.Why.TheVariants as why
use Rattle.room_words.specs.declared.reply.Reply.{Reply}
use Rattle.room_words.specs.declared.reply.Reply.TheVariants as reply
use Rattle.room_words.specs.declared.stage_fault.StageWord.{StageWord}
use Rattle.room_words.specs.declared.stage_fault.StageWord.TheVariants as stage
use Rattle.wire.specs.Words.{words_line}

-- the words by which the refusal of an act is told: its name, and what it names
abbrev pub act_words : ActRefusal → List (List ℕ)
act_words (act.Unknown id) = codes "Unknown" ∷ id_text id.number ∷ []
act_words (act.Taken id) = codes "Taken" ∷ id_text id.number ∷ []
act_words (act.Kind id) = codes "Kind" ∷ id_text id.number ∷ []
act_words (act.Permanent id) = codes "Permanent" ∷ id_text id.number ∷ []
act_words act.Already = codes "Already" ∷ []
act_words act.NotHeld = codes "NotHeld" ∷ []
act_words act.Length = codes "Length" ∷ []
act_words (act.SamePlace id) = codes "SamePlace" ∷ id_text id.number ∷ []
act_words (act.NoAnchor place) = codes "NoAnchor" ∷ decimal place ∷ []
act_words act.SameAnchor = codes "SameAnchor" ∷ []
act_words act.Phases = codes "Phases" ∷ []
act_words (act.Crowded id) = codes "Crowded" ∷ id_text id.number ∷ []
act_words (act.InUse id) = codes "InUse" ∷ id_text id.number ∷ []
act_words act.Full = codes "Full" ∷ []

-- the words by which the refusal of a difference is told
abbrev pub diff_words : DiffRefusal → List (List ℕ)
diff_words (diff.Precondition place) = codes "Precondition" ∷ decimal place ∷ []
diff_words (diff.Reverse place) = codes "Reverse" ∷ decimal place ∷ []
diff_words (diff.TooMany count) = codes "TooMany" ∷ decimal count ∷ []
diff_words (diff.Profile rule subject) = codes "Profile" ∷ decimal rule ∷ id_text subject.number ∷ []
diff_words (diff.Place id) = codes "Place" ∷ id_text id.number ∷ []

-- the words by which the refusal of an event is told
abbrev pub why_words : Why → List (List ℕ)
why_words (why.Act refusal) = act_words refusal
why_words (why.Diff refusal) = diff_words refusal
why_words (why.Log full) = codes "LogFull" ∷ decimal full.entries ∷ decimal full.bytes ∷ []

-- the name of what is wrong with a staged document, and the words by which a fault is told
abbrev pub stage_word : StageWord → List ℕ
stage_word stage.TooLong = codes "TooLong"
stage_word stage.LineTooLong = codes "LineTooLong"
stage_word stage.Utf8 = codes "Utf8"
stage_word stage.Blank = codes "Blank"
stage_word stage.Syntax = codes "Syntax"
stage_word stage.Subject = codes "Subject"
stage_word stage.Wide = codes "Wide"
stage_word stage.Heading = codes "Heading"
stage_word stage.TooMany = codes "TooMany"
stage_word stage.NoEnd = codes "NoEnd"

abbrev pub fault_words : Fault → List (List ℕ)
fault_words fault.Word = codes "Word" ∷ []
fault_words fault.Count = codes "Count" ∷ []
fault_words (fault.Field place) = codes "Field" ∷ decimal place ∷ []
fault_words fault.Staged = codes "Staged" ∷ []
fault_words fault.Prefix = codes "Prefix" ∷ []
fault_words fault.Console = codes "Console" ∷ []
fault_words fault.Long = codes "Long" ∷ []
fault_words (fault.Stage bad) = codes "Stage" ∷ decimal bad.line ∷ stage_word bad.word ∷ []

-- The text of a reply. A number of entries says on which prefix of the history it stands.
abbrev pub reply_text : Reply → List ℕ
reply_text (reply.Ok number) = words_line (codes "ok") (decimal number ∷ [])
reply_text (reply.No refused) = words_line (codes "no") (decimal refused.at ∷ why_words refused.why)
reply_text (reply.NoSuch at) = words_line (codes "no") (decimal at ∷ codes "NoSuch" ∷ [])
reply_text (reply.Seen at) = words_line (codes "seen") (decimal at ∷ [])
reply_text (reply.Trace at rows) = trace_text at rows
reply_text (reply.Staged pre rev fwd) = words_line (codes "staged") (decimal pre ∷ decimal rev ∷ decimal fwd ∷ [])
reply_text (reply.Fault f) = words_line (codes "fault") (fault_words f)
reply_text reply.Memory = words_line (codes "memory") []
reply_text reply.Bye = words_line (codes "bye") []

-- a reply of one line: all but a trace
abbrev pub IsBrief : Reply → Type 0
IsBrief (reply.Trace at rows) = ⊥
IsBrief _ = Unit {0}

-- how many bytes of room suffice for a reply of one line
abbrev pub reply_room : ℕ
reply_room = 128
