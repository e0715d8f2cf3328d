-- The texts of lengths, in metres, and the lengths that they are, in whole millimetres (the forms are those of this project).
use Rattle.std.specs.Prelude.{◌≡◌, ℕ, ◌+◌, ◌*◌, ◌^◌, ◌/◌, List, [], ◌∷◌, ◌++◌, length, drop, Bool, false, if◌then◌else◌, ◌||◌, ◌&&◌, ◌==◌, nat_le, nat_lt, Option, Some, None}
use Rattle.std.specs.List.{list_all, take_while}
use Rattle.cim_words.specs.PhaseParts.{begins_with}
use Rattle.cim_words.specs.Values.{is_digit, number_of}

abbrev pub plus : ℕ
plus = 0x2B

abbrev pub minus : ℕ
minus = 0x2D

abbrev pub point : ℕ
point = 0x2E

-- what follows an optional sign
abbrev pub without_sign : List ℕ → List ℕ
without_sign text = if begins_with plus text || begins_with minus text then drop 1 text else text

-- the digits at the front of a text, and what follows them
abbrev pub digits_at : List ℕ → List ℕ
digits_at text = take_while is_digit text

abbrev pub after_digits : List ℕ → List ℕ
after_digits text = drop (length (digits_at text)) text

-- the digits after a point at the front, and what follows both
abbrev pub fraction_at : List ℕ → List ℕ
fraction_at text = if begins_with point text then digits_at (drop 1 text) else []

abbrev pub after_fraction : List ℕ → List ℕ
after_fraction text = if begins_with point text then after_digits (drop 1 text) else text

-- a text is an optional sign, these digits, a point with these digits after it or neither, and what ends it
pub record IsNumberSplit (text whole fraction ending : List ℕ) : Type 0 where
  pub whole_digits : whole ≡ digits_at (without_sign text)
  pub fraction_digits : fraction ≡ fraction_at (after_digits (without_sign text))
  pub rest : ending ≡ after_fraction (after_digits (without_sign text))

-- how many digits a length has at most, and its power of ten, and how many metres it is at most
abbrev pub most_digits : ℕ
most_digits = 30

abbrev pub most_exponent_digits : ℕ
most_exponent_digits = 3

abbrev pub most_metres : ℕ
most_metres = 1000000000

-- the number that some digits spell, unless they are too many
abbrev pub number_in : List ℕ → Option ℕ
number_in digits = if nat_lt 0 (length digits) && nat_le (length digits) most_digits then Some (number_of digits) else None

-- a power of ten: whether it divides, and its exponent
pub record Scale : Type 0 where
  pub divides : Bool
  pub exponent : ℕ

-- whether a byte is `e` or `E`
abbrev pub is_exponent_mark : ℕ → Bool
is_exponent_mark byte = byte == 0x65 || byte == 0x45

-- whether these are the digits of a power of ten: some, and not too many
abbrev pub is_exponent : List ℕ → Bool
is_exponent digits = list_all is_digit digits && nat_lt 0 (length digits) && nat_le (length digits) most_exponent_digits

-- the power that the end of a text names: none, or `e` or `E`, an optional sign and 1 to 3 digits
abbrev pub scale_of : List ℕ → Option Scale
scale_of [] = Some (record { divides = false; exponent = 0 })
scale_of (mark ∷ rest) =
    if is_exponent_mark mark && is_exponent (without_sign rest)
    then Some (record { divides = begins_with minus rest; exponent = number_of (without_sign rest) })
    else None

-- The whole millimetres in `number * 10 ^ up / 10 ^ down` metres, which have an upper limit. A minus stands before zero alone.
unfoldable pub millimetres : Bool → ℕ → ℕ → ℕ → Option ℕ
millimetres negative number up down =
    if number == 0 then Some 0
    else if negative then None
    else if nat_le (number * 10 ^ up) (most_metres * 10 ^ down) then Some (number * 10 ^ (up + 3) / 10 ^ down)
    else None

-- the same, of these digits with so many of them after the point, and a power of ten
abbrev pub scaled : Bool → List ℕ → ℕ → Option Scale → Option ℕ
scaled negative digits behind None = None
scaled negative digits behind (Some scale) =
    if scale.divides then millimetres negative (number_of digits) 0 (behind + scale.exponent)
    else millimetres negative (number_of digits) scale.exponent behind

-- A length: an optional sign, 1 to 30 digits with at most one point among or beside them, and an optional power of ten.
unfoldable pub length_of : List ℕ → Option ℕ
length_of text =
    let unsigned = without_sign text in
    let rest = after_digits unsigned in
    let digits = digits_at unsigned ++ fraction_at rest in
    if nat_lt 0 (length digits) && nat_le (length digits) most_digits
    then scaled (begins_with minus text) digits (length (fraction_at rest)) (scale_of (after_fraction rest))
    else None
