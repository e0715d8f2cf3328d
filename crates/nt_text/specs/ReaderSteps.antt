-- The steps by which a reader takes a piece.
use Rattle.std.specs.Prelude.{ℕ, ◌<◌, ◌≡◌, ◌⊎◌, List, [], ◌∷◌, ◌++◌, length, Bool, ◌&&◌, ◌==◌}
use Rattle.cim_words.specs.Written.{carriage_return, line_feed, line_limit}
use Rattle.cim_words.specs.declared.statement.Statement.{Statement}
use Rattle.nt_text.specs.Cut.{IsFreeOf}
use Rattle.nt_text.specs.Reader.{ReaderState, HasRead, HasFailed}
use Rattle.nt_text.specs.Reading.{IsReading, refused}
use Rattle.nt_text.specs.declared.refusal.LineRefusal.TheVariants as why
use Rattle.nt_text.specs.declared.refusal.NtFault.{NtFault}
use Rattle.nt_text.specs.declared.refusal.NtFault.TheVariants as fault

-- bytes without an end of a line
pub record IsPlain (bytes : List ℕ) : Type 0 where
  pub no_feed : IsFreeOf line_feed bytes
  pub no_return : IsFreeOf carriage_return bytes

-- a byte that ends lines
abbrev pub IsEnd : ℕ → Type 0
IsEnd byte = (byte ≡ line_feed) ⊎ (byte ≡ carriage_return)

-- the first end in the bytes, what stands before it and what follows it
pub record IsFrontLine (bytes line : List ℕ) (end : ℕ) (after : List ℕ) : Type 0 where
  pub parts : bytes ≡ line ++ end ∷ after
  pub plain : IsPlain line
  pub ends : IsEnd end

-- whether an end is the second half of CR LF, given whether a CR stands before the line
abbrev pub is_half : Bool → List ℕ → ℕ → Bool
is_half after_return line end = after_return && (length line == 0) && (end == line_feed)

-- the last line of a document: the bytes after the last end, if there are any
abbrev pub last_line : List ℕ → List (List ℕ)
last_line [] = []
last_line (byte ∷ line) = (byte ∷ line) ∷ []

-- the reader took these bytes and found these statements, whatever it took before
pub record Steps (old : ReaderState) (bytes : List ℕ) (new : ReaderState) (more : List Statement) : Type 0 where
  pub same_fault : new.fault ≡ old.fault
  pub reads : (before : List ℕ) (found : List Statement) → HasRead old before found → HasRead new (before ++ bytes) (found ++ more)

-- the reader met the fault in these bytes and found these statements before it
abbrev pub Fails : ReaderState → List ℕ → NtFault → List Statement → Type 0
Fails old bytes f more = (before : List ℕ) (found : List Statement) → HasRead old before found → HasFailed f (before ++ bytes) (found ++ more)

-- a fault is that of this line, which has this number
abbrev pub IsLineFault : NtFault → ℕ → List ℕ → Type 0
IsLineFault (fault.Line number reason) n line = (number ≡ n) × IsReading line (refused reason)
IsLineFault fault.NoMemory n line = Unit {0}

-- a line, which has this number, is too long already, or memory did not suffice
abbrev pub IsKeepFault : NtFault → ℕ → List ℕ → Type 0
IsKeepFault (fault.Line number reason) n line = (number ≡ n) × (reason ≡ why.LineTooLong) × (line_limit < length line)
IsKeepFault fault.NoMemory n line = Unit {0}
