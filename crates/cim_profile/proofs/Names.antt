-- One object that names a class.
use Rattle.std.proofs.Common.{◌≡◌, List, [], ◌∷◌, length, Bool, true, false, refl, arith}
use Rattle.std.specs.List.{list_any}
use Rattle.cim_words.specs.declared.object.Object.{Object}
use Rattle.cim_words.specs.declared.object.Object.TheVariants as object
use Rattle.cim_model.specs.Profile.{is_one_name}

-- whether an object names a class
abbrev pub is_name : Object → Bool
is_name (object.Name text) = true
is_name (object.Id id) = false
is_name (object.Text text) = false

-- where there is one object, some object is a name as it is
pub one_name : (objects : List Object) → length objects ≡ 1 → list_any is_name objects ≡ is_one_name objects
one_name [] one = absurd (omega arith)
one_name (object.Name text ∷ []) one = refl
one_name (object.Id id ∷ []) one = refl
one_name (object.Text text ∷ []) one = refl
one_name (first ∷ second ∷ more) one = absurd (omega arith)
