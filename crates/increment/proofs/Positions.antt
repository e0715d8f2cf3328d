-- A position is put in force or taken away: the positions of other switches are the same, and so are all items.
use Rattle.std.proofs.Common.{◌≡◌, ℕ, ◌<◌, ◌≤◌, ◌⊎◌, inl, inr, List, ◌∷◌, Bool, true, false, not, ◌==◌, nat_lt, cond, Option, Some, None, option_map, find, refl, ap, ap₂, ◌∙◌, arith}
use Rattle.std.specs.List.{filter}
use Rattle.std.specs.Option.{option_or}
use Rattle.std.proofs.lemmas.Bool.{cases_lt}
use Rattle.std.proofs.lemmas.Bool.Decides.{nat_tests}
use Rattle.std.proofs.lemmas.List.Folds.{find-append}
use Rattle.cim_words.specs.declared.identifier.Id.{Id}
use Rattle.cim_words.specs.declared.statement.Statement.{Statement}
use Rattle.cim_model.specs.Effects.{with_position, without_position}
use Rattle.room_words.specs.Overlay.{position_number}
use Rattle.room_words.specs.declared.anchor.Anchor.{Anchor}
use Rattle.room_words.specs.declared.overlay.Overlay.{Overlay}
use Rattle.room_words.specs.declared.overlay.Position.{Position}
use Rattle.increment.proofs.Kept.{find_gone, find_kept}
use Rattle.increment.proofs.Places.{AgreeAt}
use Rattle.increment.proofs.Stars.{AgreeOn}

abbrev pub in_force : Overlay → List Position → Overlay
in_force o positions = record { items = o.items; positions = positions }

-- the position of a switch, found in a list
abbrev is_for : ℕ → Position → Bool
is_for x one = position_number one == x

-- ---- one is taken away

another : (k x n : ℕ) → ¬ (x ≡ n) → (k == x) ≡ true → not (k == n) ≡ true
another k x n other is = grind (arith, nat_tests)

released_found : (n x : ℕ) (positions : List Position) → ¬ (x ≡ n) → find (is_for x) (without_position n positions) ≡ find (is_for x) positions
released_found n x positions other = find_kept (is_for x) (λ (one : Position). not (position_number one == n)) positions (λ one there is. another (position_number one) x n other is)

-- ---- one is put in force, after the lesser ones and before the greater ones

lesser_kept : (k x n : ℕ) → x < n → (k == x) ≡ true → nat_lt k n ≡ true
lesser_kept k x n less is = grind (arith, nat_tests)

lesser_gone : (k x n : ℕ) → n < x → (k == x) ≡ true → nat_lt k n ≡ false
lesser_gone k x n less is = grind (arith, nat_tests)

greater_kept : (k x n : ℕ) → n < x → (k == x) ≡ true → nat_lt n k ≡ true
greater_kept k x n less is = grind (arith, nat_tests)

greater_gone : (k x n : ℕ) → x < n → (k == x) ≡ true → nat_lt n k ≡ false
greater_gone k x n less is = grind (arith, nat_tests)

not_own : (x n : ℕ) → ¬ (x ≡ n) → (n == x) ≡ false
not_own x n other = grind (arith, nat_tests)

abbrev lesser : ℕ → Position → Bool
lesser n one = nat_lt (position_number one) n

abbrev greater : ℕ → Position → Bool
greater n one = nat_lt n (position_number one)

or_none : {X : Type 0} (found : Option X) → option_or found None ≡ found
or_none None = refl
or_none (Some x) = refl

put_around : (switch : Id) (is_open : Bool) (x : ℕ) (positions : List Position) → ¬ (x ≡ switch.number)
    → find (is_for x) (with_position switch is_open positions) ≡ option_or (find (is_for x) (filter (lesser switch.number) positions)) (find (is_for x) (filter (greater switch.number) positions))
put_around switch is_open x positions other =
    find-append (is_for x) (filter (lesser switch.number) positions) (record { switch = switch; is_open = is_open } ∷ filter (greater switch.number) positions)
    ∙ ap (λ (b : Bool). option_or (find (is_for x) (filter (lesser switch.number) positions)) (cond b (Some (record { switch = switch; is_open = is_open })) (find (is_for x) (filter (greater switch.number) positions))))
    (not_own x switch.number other)

-- what is below or above it is found as before
found_around : (n x : ℕ) (positions : List Position) → (x < n) ⊎ (n < x)
    → option_or (find (is_for x) (filter (lesser n) positions)) (find (is_for x) (filter (greater n) positions)) ≡ find (is_for x) positions
found_around n x positions (inl less) =
    ap₂ (λ (low high : Option Position). option_or low high) (find_kept (is_for x) (lesser n) positions (λ one there is. lesser_kept (position_number one) x n less is))
    (find_gone (is_for x) (greater n) positions (λ one is. greater_gone (position_number one) x n less is))
    ∙ or_none (find (is_for x) positions)
found_around n x positions (inr more) =
    ap₂ (λ (low high : Option Position). option_or low high) (find_gone (is_for x) (lesser n) positions (λ one is. lesser_gone (position_number one) x n more is))
    (find_kept (is_for x) (greater n) positions (λ one there is. greater_kept (position_number one) x n more is))

apart : (x n : ℕ) → ¬ (x ≡ n) → (x < n) ⊎ (n ≤ x) → (x < n) ⊎ (n < x)
apart x n other (inl less) = inl less
apart x n other (inr upto) = inr (omega arith)

put_found : (switch : Id) (is_open : Bool) (x : ℕ) (positions : List Position) → ¬ (x ≡ switch.number) → find (is_for x) (with_position switch is_open positions) ≡ find (is_for x) positions
put_found switch is_open x positions other =
    put_around switch is_open x positions other ∙ found_around switch.number x positions (apart x switch.number other (cases_lt x switch.number))

-- ---- so nothing changes but for the switch

agree_where : (m : List Statement) (o : Overlay) (positions : List Position) (x : ℕ) → find (is_for x) positions ≡ find (is_for x) o.positions → AgreeOn m o (in_force o positions) x
agree_where m o positions x same = record {
  item = refl;
  position = ap (option_map (λ (one : Position). one.is_open)) same;
  marks = refl;
  terms = λ mark there. refl;
}

pub released_agrees : (m : List Statement) (o : Overlay) (n x : ℕ) → ¬ (x ≡ n) → AgreeOn m o (in_force o (without_position n o.positions)) x
released_agrees m o n x other = agree_where m o (without_position n o.positions) x (released_found n x o.positions other)

pub put_agrees : (m : List Statement) (o : Overlay) (switch : Id) (is_open : Bool) (x : ℕ) → ¬ (x ≡ switch.number) → AgreeOn m o (in_force o (with_position switch is_open o.positions)) x
put_agrees m o switch is_open x other = agree_where m o (with_position switch is_open o.positions) x (put_found switch is_open x o.positions other)

pub positions_agree : (o : Overlay) (positions : List Position) (place : Anchor) → AgreeAt o (in_force o positions) place
positions_agree o positions place = record { made = refl; terms = refl }
