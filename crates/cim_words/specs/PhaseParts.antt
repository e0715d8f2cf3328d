-- What the functions that take a text of phases apart say of each part.
use Rattle.std.specs.Prelude.{◌≡◌, ℕ, slice_index, List, [], ◌∷◌, ◌++◌, Bool, false, ◌==◌, codes}
use Rattle.cim_words.specs.declared.phases.PhaseSet.{PhaseSet}
use Rattle.cim_words.specs.Phases.{has_no_phase, text_if, secondary_text}

-- The letter that begins the text of secondary phases, and the digit by which `s1` goes on to `s12`.
abbrev pub small_s : ℕ
small_s = slice_index (codes "s") 0

abbrev pub digit_two : ℕ
digit_two = slice_index (codes "2") 0

-- Whether a text begins with a letter.
abbrev pub begins_with : ℕ → List ℕ → Bool
begins_with letter [] = false
begins_with letter (first ∷ rest) = first == letter

-- A letter is taken from a text exactly where the text begins with it, and the rest follows.
pub record StripsLetter (letter : ℕ) (text : List ℕ) (held : Bool) (rest : List ℕ) : Type 0 where
  pub spelled : text ≡ text_if held (letter ∷ []) ++ rest
  pub greedy : held ≡ begins_with letter text

-- Secondary phases are taken from a text, and these are the only ones whose text does not go on in what follows.
pub record StripsSecondaries (text : List ℕ) (s1 s2 : Bool) (rest : List ℕ) : Type 0 where
  pub spelled : text ≡ secondary_text s1 s2 ++ rest
  pub only : (one two : Bool) (other : List ℕ) → begins_with small_s other ≡ false → begins_with digit_two other ≡ false
      → text ≡ secondary_text one two ++ other → (s1 ≡ one) × (s2 ≡ two) × (rest ≡ other)

-- Nothing is left of a text, and a dash stands in it exactly where the set holds no phase.
pub record IsWhole (set : PhaseSet) (dash : Bool) (rest : List ℕ) : Type 0 where
  pub dashed : dash ≡ has_no_phase set
  pub ended : rest ≡ []
