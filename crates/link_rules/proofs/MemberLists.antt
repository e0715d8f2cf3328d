-- Lists of terminals at a node and of marks, gathered one by one.
use Rattle.std.proofs.Common.{◌≡◌, ℕ, List, [], ◌∷◌, ◌++◌, map, Option, Some, None, refl, ap, sym, ◌∙◌}
use Rattle.std.specs.List.{cons_option, filter, filter_map, flat_map}
use Rattle.plain_laws.proofs.Filters.{filter_map_filter, filter_map_map}
use Rattle.cim_model.specs.Marks.{is_item_on, item_mark}
use Rattle.cim_model.specs.Values.{as_id}
use Rattle.cim_words.specs.declared.identifier.Id.{Id}
use Rattle.link_rules.specs.Parts.{mark_on}
use Rattle.room_words.specs.Items.{as_list}
use Rattle.room_words.specs.declared.items.TempItem.{TempItem}
use Rattle.segment_cuts.specs.declared.mark.Mark.{Mark}

-- what is gathered of numbers is gathered of the identifiers with these numbers
pub of_ids : {Y : Type 0} (f : ℕ → Option Y) (xs : List ℕ) → filter_map (λ (id : Id). f id.number) (map as_id xs) ≡ filter_map f xs
of_ids f xs = filter_map_map (λ (id : Id). f id.number) as_id xs

-- what is gathered is what there is of each, one after another
listed_first : (found : Option Mark) (rest : List Mark) → cons_option found rest ≡ as_list found ++ rest
listed_first None rest = refl
listed_first (Some mark) rest = refl

pub each_listed : (x : ℕ) (items : List TempItem) → flat_map (λ (one : TempItem). as_list (mark_on x one)) items ≡ filter_map item_mark (filter (is_item_on x) items)
each_listed x [] = refl
each_listed x (one ∷ items) =
    ap (λ (rest : List Mark). as_list (mark_on x one) ++ rest) (each_listed x items ∙ filter_map_filter (is_item_on x) item_mark items) ∙ sym (listed_first (mark_on x one) (filter_map (mark_on x) items)) ∙ sym (filter_map_filter (is_item_on x) item_mark (one ∷ items))
