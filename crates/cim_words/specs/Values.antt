-- The values of literals (IEC 61970-301 names the attributes; the forms are those of this project).
use Rattle.std.specs.Prelude.{ℕ, ◌+◌, ◌-◌, ◌*◌, List, [], ◌∷◌, length, Bool, true, false, if◌then◌else◌, ◌||◌, ◌&&◌, nat_le, nat_lt, Option, Some, None, codes, bytes_eq}
use Rattle.std.specs.List.{list_all}

-- a truth value: `true` or `1`, `false` or `0`
unfoldable pub truth_of : List ℕ → Option Bool
truth_of text =
    if bytes_eq text (codes "true") || bytes_eq text (codes "1") then Some true
    else if bytes_eq text (codes "false") || bytes_eq text (codes "0") then Some false
    else None

-- whether a byte is a decimal digit, and the number that digits spell, the first being the highest
abbrev pub is_digit : ℕ → Bool
is_digit byte = nat_le 48 byte && nat_le byte 57

abbrev pub number_from : ℕ → List ℕ → ℕ
number_from before [] = before
number_from before (digit ∷ digits) = number_from (before * 10 + (digit - 48)) digits

abbrev pub number_of : List ℕ → ℕ
number_of digits = number_from 0 digits

-- a sequence number: some digits, and not too many
abbrev pub most_number_digits : ℕ
most_number_digits = 9

unfoldable pub sequence_number : List ℕ → Option ℕ
sequence_number text = if list_all is_digit text && nat_lt 0 (length text) && nat_le (length text) most_number_digits then Some (number_of text) else None
