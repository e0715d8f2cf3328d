-- The codes and lines of the statuses, of this project.
use Rattle.std.specs.Prelude.{ℕ, List, [], ◌∷◌, ◌++◌, codes, Bool, true, false}
use Rattle.std.specs.Fmt.{decimal}
use Rattle.cim_words.specs.IdText.{id_text}
use Rattle.cim_words.specs.Written.{line_feed}
use Rattle.nt_text.specs.Refusal.{refusal_word}
use Rattle.nt_text.specs.declared.refusal.LineRefusal.{LineRefusal}
use Rattle.room_base.specs.declared.refusal.BaseRefusal.{BaseRefusal}
use Rattle.room_base.specs.declared.refusal.BaseRefusal.TheVariants as base
use Rattle.room_base.specs.declared.refusal.Refusal.{Refusal}
use Rattle.room_base.specs.declared.refusal.Refusal.TheVariants as refusal
use Rattle.room_base.specs.declared.refusal.TaskRefusal.TheVariants as task
use Rattle.room_base.specs.declared.status.Status.{Status}
use Rattle.room_base.specs.declared.status.Status.TheVariants as status

-- the status with which the process exits
abbrev pub status_code : Status → ℕ
status_code status.Ok = 0
status_code status.Usage = 2
status_code status.BadDoors = 2
status_code status.ReadFault = 1
status_code status.Limit = 3
status_code (status.Document line why) = 3
status_code (status.Profile rule subject) = 3
status_code status.Asked = 4
status_code status.WriteFault = 5
status_code (status.DoorFault console) = 7
status_code status.NoMemory = 6

-- the line that tells of a bad line: its number, and the word of the refusal
abbrev pub document_line : ℕ → LineRefusal → List ℕ
document_line line why = codes "document " ++ decimal line ++ codes " " ++ refusal_word why ++ line_feed ∷ []

-- the line that tells of a broken rule: its number, and the subject
abbrev pub profile_line : ℕ → ℕ → List ℕ
profile_line rule subject = codes "profile " ++ decimal rule ++ codes " " ++ id_text subject ++ line_feed ∷ []

-- the line that tells why bytes are no base, and the line that tells of a refusal
abbrev pub base_line : BaseRefusal → List ℕ
base_line base.Limit = codes "limit" ++ line_feed ∷ []
base_line (base.Document line why) = document_line line why
base_line (base.Profile rule subject) = profile_line rule subject.number

abbrev pub line_of : Refusal → List ℕ
line_of refusal.Usage = codes "usage" ++ line_feed ∷ []
line_of refusal.Doors = codes "doors" ++ line_feed ∷ []
line_of refusal.ReadFault = codes "read fault" ++ line_feed ∷ []
line_of (refusal.Base why) = base_line why
line_of (refusal.Task task.Asked) = codes "asked" ++ line_feed ∷ []

-- the status with which a refused run ends
abbrev pub status_of_base : BaseRefusal → Status
status_of_base base.Limit = status.Limit
status_of_base (base.Document line why) = status.Document line why
status_of_base (base.Profile rule subject) = status.Profile rule subject

abbrev pub status_of : Refusal → Status
status_of refusal.Usage = status.Usage
status_of refusal.Doors = status.BadDoors
status_of refusal.ReadFault = status.ReadFault
status_of (refusal.Base why) = status_of_base why
status_of (refusal.Task task.Asked) = status.Asked

-- a read that failed is told as such, and nothing else is
abbrev pub is_read_fault : Status → Bool
is_read_fault status.ReadFault = true
is_read_fault _ = false
