-- The judgement of a difference on a model under an overlay, of this project: five refusals in their order, and the answer is the first
-- that holds.
use Rattle.std.specs.Prelude.{ℕ, ◌≡◌, ◌<◌, ◌≤◌, List, length, Contains, Some, None}
use Rattle.cim_model.specs.Profile.{IsFaultless}
use Rattle.cim_profile.specs.FirstBreak.{IsFirstBreak}
use Rattle.cim_words.specs.declared.statement.Statement.{Statement}
use Rattle.difference.specs.Result.{IsInResult, IsMissing}
use Rattle.room_words.specs.Differences.{Changes}
use Rattle.room_words.specs.Firsts.{AllHave}
use Rattle.room_words.specs.declared.diff_refusal.DiffRefusal.{DiffRefusal}
use Rattle.room_words.specs.declared.diff_refusal.DiffRefusal.TheVariants as refusal
use Rattle.room_words.specs.declared.overlay.Overlay.{Overlay}
use Rattle.statement_set.specs.Set.{IsSetOf, most_statements}
use Rattle.temporary.specs.Lost.{IsFirstLost}

-- all preconditions and all reverse statements are in the model
abbrev pub IsMet : List Statement → Changes → Type 0
IsMet m d = AllHave (Contains m) d.pre × AllHave (Contains m) d.rev

-- the statements that a difference which is met leaves are this list
abbrev pub Leaves : List Statement → Changes → List Statement → Type 0
Leaves m d result = IsMet m d × IsSetOf (IsInResult m d) result

-- 1. Precondition: the first precondition that is not in the model. 2. Reverse: the first reverse statement that is not in the model.
-- 3. TooMany: the result has too many statements. 4. Profile: the least fault of the result. 5. Place: what of the overlay does not stand
-- on the result, the first item or else the first position.
abbrev pub IsRefused : List Statement → Overlay → Changes → DiffRefusal → Type 0
IsRefused m o d (refusal.Precondition number) = IsMissing m d.pre number
IsRefused m o d (refusal.Reverse number) = AllHave (Contains m) d.pre × IsMissing m d.rev number
IsRefused m o d (refusal.TooMany count) = (result : List Statement) × Leaves m d result × (length result ≡ count) × (most_statements < count)
IsRefused m o d (refusal.Profile rule subject) =
    (result : List Statement) × Leaves m d result × (length result ≤ most_statements) × IsFirstBreak result (Some (record { rule = rule; subject = subject }))
IsRefused m o d (refusal.Place id) =
    (result : List Statement) × Leaves m d result × (length result ≤ most_statements) × IsFaultless result × IsFirstLost result o (Some id)

-- no refusal holds, and this is the model that the difference leaves
abbrev pub IsAccepted : List Statement → Overlay → Changes → List Statement → Type 0
IsAccepted m o d result = Leaves m d result × (length result ≤ most_statements) × IsFaultless result × IsFirstLost result o None
