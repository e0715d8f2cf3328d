-- The marks of a segment at a length: those of the model, and then those of the items that stand on it.
use Rattle.std.proofs.Common.{◌≡◌, ℕ, List, [], ◌∷◌, ◌++◌, Bool, true, false, cond, Option, Some, None, find, fold, refl, ap, ◌∙◌}
use Rattle.std.specs.List.{cons_option, filter, filter_map}
use Rattle.std.proofs.lemmas.List.Elements.{filter-append}
use Rattle.cim_words.specs.declared.statement.Statement.{Statement}
use Rattle.cim_model.specs.Marks.{is_item_on, item_mark, item_marks, marks_of}
use Rattle.cim_model.specs.Refusals.{marks_at}
use Rattle.room_words.specs.declared.items.TempItem.{TempItem}
use Rattle.room_words.specs.declared.overlay.Overlay.{Overlay}
use Rattle.segment_cuts.specs.declared.mark.Mark.{Mark}
use Rattle.switching.specs.Parts.{is_at}
use Rattle.temporary.specs.Parts.{mark_on}

one_standing : (x : ℕ) (one : TempItem) (items : List TempItem) (rest : List Mark) (b : Bool) → filter_map item_mark items ≡ rest
    → filter_map item_mark (cond b (one ∷ items) items) ≡ cons_option (cond b (item_mark one) None) rest
one_standing x one items rest true is = ap (λ (marks : List Mark). cons_option (item_mark one) marks) is
one_standing x one items rest false is = is

all_standing : (x : ℕ) (items : List TempItem) → filter_map item_mark (filter (is_item_on x) items) ≡ filter_map (mark_on x) items
all_standing x [] = refl
all_standing x (one ∷ items) = one_standing x one (filter (is_item_on x) items) (filter_map (mark_on x) items) (is_item_on x one) (all_standing x items)

pub both_at : (m : List Statement) (o : Overlay) (x at : ℕ) → marks_at m o x at ≡ filter (is_at at) (marks_of m x) ++ filter (is_at at) (filter_map (mark_on x) o.items)
both_at m o x at =
    filter-append (is_at at) (marks_of m x) (item_marks o x)
    ∙ ap (λ (marks : List Mark). filter (is_at at) (marks_of m x) ++ filter (is_at at) marks) (all_standing x o.items)

-- ---- found and taken one after another

pub folds_on : {X Y : Type 0} (f : Y → X → Y) (a : Y) (xs ys : List X) → fold f a (xs ++ ys) ≡ fold f (fold f a xs) ys
folds_on f a [] ys = refl
folds_on f a (x ∷ xs) ys = folds_on f (f a x) xs ys

found_if : {X : Type 0} (x y : X) (rest more : Option X) (b : Bool) → (rest ≡ Some y → more ≡ Some y) → cond b (Some x) rest ≡ Some y → cond b (Some x) more ≡ Some y
found_if x y rest more true then is = is
found_if x y rest more false then is = then is

pub found_first : {X : Type 0} (p : X → Bool) (xs ys : List X) (y : X) → find p xs ≡ Some y → find p (xs ++ ys) ≡ Some y
found_first p [] ys y is = absurd cc
found_first p (x ∷ xs) ys y is = found_if x y (find p xs) (find p (xs ++ ys)) (p x) (found_first p xs ys y) is

lost_if : {X : Type 0} (x : X) (rest more other : Option X) (b : Bool) → (rest ≡ None → more ≡ other) → cond b (Some x) rest ≡ None → cond b (Some x) more ≡ other
lost_if x rest more other true then is = absurd cc
lost_if x rest more other false then is = then is

pub found_second : {X : Type 0} (p : X → Bool) (xs ys : List X) → find p xs ≡ None → find p (xs ++ ys) ≡ find p ys
found_second p [] ys is = refl
found_second p (x ∷ xs) ys is = lost_if x (find p xs) (find p (xs ++ ys)) (find p ys) (p x) (found_second p xs ys) is
