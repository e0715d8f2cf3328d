-- What a set that is not made says of a difference, of this project.
use Rattle.cutover.specs.declared.denied.DiffDenied.{DiffDenied}
use Rattle.cutover.specs.declared.denied.DiffDenied.TheVariants as denied
use Rattle.room_words.specs.declared.diff_refusal.DiffRefusal.TheVariants as refusal
use Rattle.statement_set.specs.declared.refusal.SetRefusal.{SetRefusal}
use Rattle.statement_set.specs.declared.refusal.SetRefusal.TheVariants as set_refusal

-- a set that would be too large is a model with too many statements
abbrev pub denied_of_set : SetRefusal → DiffDenied
denied_of_set (set_refusal.TooMany count) = denied.Refusal (refusal.TooMany count)
denied_of_set set_refusal.NoMemory = denied.NoMemory
