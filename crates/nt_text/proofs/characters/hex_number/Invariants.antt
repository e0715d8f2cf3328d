use Rattle.std.proofs.Common.{◌≡◌, ◌<◌, ◌^◌, drop}
use Rattle.nt_text.specs.Parts as spec
use Rattle.nt_text.specs.Parts.{are_hex, hex_from}
use Rattle.nt_text.proofs.characters.hex_number.Given as goal

-- the number so far goes on to that of all digits
abbrev pub invariant-loop-digit : goal.invariant-loop-digit
invariant-loop-digit l =
    (l.number < 16 ^ l.digit-index)
    × (hex_from l.number (drop l.digit-index l.digits) ≡ spec.hex_number l.digits)
    × (are_hex (drop l.digit-index l.digits) ≡ are_hex l.digits)
