-- Refusals, and what an error of the crates below means here.
use Rattle.std.specs.Prelude.{Result, Err, Bool, true, false}
use Rattle.grid_out.specs.declared.shelf.ShelfFault.{ShelfFault}
use Rattle.grid_out.specs.declared.shelf.ShelfFault.TheVariants as fault
use Rattle.nt_text.specs.declared.refusal.NtFault.{NtFault}
use Rattle.nt_text.specs.declared.refusal.NtFault.TheVariants as nt_fault
use Rattle.statement_set.specs.declared.refusal.SetRefusal.{SetRefusal}
use Rattle.statement_set.specs.declared.refusal.SetRefusal.TheVariants as set_refusal
use Rattle.room_base.specs.declared.refusal.BaseRefusal.{BaseRefusal}
use Rattle.room_base.specs.declared.refusal.BaseRefusal.TheVariants as base
use Rattle.room_base.specs.declared.refusal.Refusal.{Refusal}
use Rattle.room_base.specs.declared.refusal.Refusal.TheVariants as refusal
use Rattle.room_base.specs.declared.refusal.Failure.{Failure}
use Rattle.room_base.specs.declared.refusal.Failure.TheVariants as failure

-- what holds of a refusal; want of memory says nothing
abbrev pub IfRefusal : {R : Type 0} → Failure R → (R → Type 0) → Type 0
IfRefusal (failure.Refusal why) P = P why
IfRefusal failure.NoMemory P = Unit {0}

-- the same with the refusal as another one
abbrev pub mapped : {R S : Type 0} → (R → S) → Failure R → Failure S
mapped f (failure.Refusal why) = failure.Refusal (f why)
mapped f failure.NoMemory = failure.NoMemory

-- a read that failed, or found more bytes than a file may have
abbrev pub failure_of_read : ShelfFault → Failure Refusal
failure_of_read fault.Failed = failure.Refusal refusal.ReadFault
failure_of_read fault.Longer = failure.Refusal (refusal.Base base.Limit)
failure_of_read fault.NoMemory = failure.NoMemory

-- a bad line, and a set that has too many statements
abbrev pub failure_of_lines : NtFault → Failure BaseRefusal
failure_of_lines (nt_fault.Line line why) = failure.Refusal (base.Document line why)
failure_of_lines nt_fault.NoMemory = failure.NoMemory

abbrev pub failure_of_set : SetRefusal → Failure BaseRefusal
failure_of_set (set_refusal.TooMany count) = failure.Refusal base.Limit
failure_of_set set_refusal.NoMemory = failure.NoMemory

-- whether a read was refused as a fault of the outside
abbrev pub is_failed_read : {T : Type 0} → Result T (Failure Refusal) → Bool
is_failed_read (Err (failure.Refusal refusal.ReadFault)) = true
is_failed_read _ = false
