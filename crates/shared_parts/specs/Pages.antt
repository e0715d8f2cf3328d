-- How pages hold a list together: they follow each other, and only the last may have fewer items than fit.
use Rattle.std.specs.Prelude.{◌≡◌, ◌<◌, ◌≤◌, ℕ, List, [], ◌∷◌, length}

-- Each page has at most a full page's items, and just as many where another page comes behind it.
abbrev pub AreFilled : {P X : Type 0} → (P → List X) → ℕ → List P → Type 0
AreFilled items full [] = Unit {0}
AreFilled items full (page ∷ pages) =
    (length (items page) ≤ full) × (0 < length pages → length (items page) ≡ full) × AreFilled items full pages
