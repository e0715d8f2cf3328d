-- Runs of bytes of one kind at the front.
use Rattle.std.specs.Prelude.{ℕ, List, [], ◌∷◌, Bool, if◌then◌else◌, true, ◌==◌}
use Rattle.nt_text.specs.Grammar.{is_blank, is_letter, is_letter_or_digit}
use Rattle.nt_text.specs.declared.run.ByteKind.{ByteKind}
use Rattle.nt_text.specs.declared.run.ByteKind.TheVariants as kind

-- whether a byte is of a kind
abbrev pub is_of_kind : ByteKind → ℕ → Bool
is_of_kind kind.Blank byte = is_blank byte
is_of_kind kind.Letter byte = is_letter byte
is_of_kind kind.LetterOrDigit byte = is_letter_or_digit byte

-- what stands after the longest front of bytes that pass a test
abbrev pub behind_run : (ℕ → Bool) → List ℕ → List ℕ
behind_run test [] = []
behind_run test (byte ∷ bytes) = if test byte then behind_run test bytes else byte ∷ bytes

-- nothing, or the mark of a comment
abbrev pub begins_no_term : List ℕ → Bool
begins_no_term [] = true
begins_no_term (byte ∷ bytes) = byte == 0x23
