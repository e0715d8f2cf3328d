-- The cuts and clamps of a segment (IEC 61970-301: a Cut separates a line segment into two parts, and a Clamp is a galvanic connection
-- at one): those of the model, and then those of the overlay.
use Rattle.std.specs.Prelude.{ℕ, List, ◌++◌, map, Bool, true, false, Option, Some, None}
use Rattle.std.specs.List.{filter, filter_map}
use Rattle.cim_words.specs.Groups.{is_cut}
use Rattle.cim_words.specs.declared.statement.Statement.{Statement}
use Rattle.cim_model.specs.Live.{item_segment_number}
use Rattle.cim_model.specs.Model.{is_of, subjects}
use Rattle.cim_model.specs.Network.{is_some_number, mark_length, segment_of}
use Rattle.cim_model.specs.Values.{as_id, as_length}
use Rattle.room_words.specs.declared.items.TempItem.{TempItem}
use Rattle.room_words.specs.declared.items.TempItem.TheVariants as item
use Rattle.room_words.specs.declared.overlay.Overlay.{Overlay}
use Rattle.segment_cuts.specs.declared.mark.Mark.{Mark}

-- a cut or a clamp of the model as a mark of its segment; a cut divides it
abbrev pub mark : List Statement → ℕ → Mark
mark m y = record { id = as_id y; length = as_length (mark_length m y); divides = is_of m is_cut y }

-- the marks of a segment that the model states, in an ordered model ascending by identifier
abbrev pub is_on : List Statement → ℕ → ℕ → Bool
is_on m x y = is_some_number x (segment_of m y)

abbrev pub marks_of : List Statement → ℕ → List Mark
marks_of m x = map (mark m) (filter (is_on m x) (subjects m))

-- a temporary cut or clamp as a mark
abbrev pub item_mark : TempItem → Option Mark
item_mark (item.Cut id segment length is_open) = Some (record { id = id; length = length; divides = true })
item_mark (item.Clamp id segment length) = Some (record { id = id; length = length; divides = false })
item_mark (item.Jumper id first second phases is_open) = None
item_mark (item.Ground id at phases) = None

-- the marks on a segment: those of the model, and then those of the items that stand on it in order of placing
abbrev pub is_item_on : ℕ → TempItem → Bool
is_item_on x one = is_some_number x (item_segment_number one)

abbrev pub item_marks : Overlay → ℕ → List Mark
item_marks o x = filter_map item_mark (filter (is_item_on x) o.items)

abbrev pub marks_on : List Statement → Overlay → ℕ → List Mark
marks_on m o x = marks_of m x ++ item_marks o x
