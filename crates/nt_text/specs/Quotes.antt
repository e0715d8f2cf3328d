-- The quote that ends a literal's characters.
use Rattle.std.specs.Prelude.{ℕ, suc, List, [], ◌∷◌, Bool, not, ◌&&◌, ◌==◌, if◌then◌else◌, Option, Some, None, option_map}
use Rattle.cim_words.specs.Written.{quote, backslash}

-- where the first quote stands that no backslash escapes; whether the first byte is escaped is known
abbrev pub closing_at : Bool → List ℕ → Option ℕ
closing_at escaped [] = None
closing_at escaped (byte ∷ bytes) =
    if not escaped && byte == quote then Some 0 else option_map (λ n. suc n) (closing_at (not escaped && byte == backslash) bytes)
