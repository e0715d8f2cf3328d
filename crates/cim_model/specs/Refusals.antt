-- When a switching order is refused, of this project: fourteen refusals over a model, an overlay and the order, each with the sentence
-- that it stands for, and their order. The answer is the first that holds.
use Rattle.std.specs.Prelude.{ℕ, ◌+◌, List, [], ◌∷◌, length, Bool, true, false, not, ◌||◌, ◌&&◌, ◌==◌, nat_le, nat_lt, if◌then◌else◌, Option, Some, None, is_none, is_some, option_map, find}
use Rattle.std.specs.List.{filter, filter_map, list_all, list_any, position_from}
use Rattle.std.specs.Option.{option_map_or}
use Rattle.cim_words.specs.Groups.{is_segment, is_switch}
use Rattle.cim_words.specs.Limits.{most_at_place, most_items, most_length, most_marks}
use Rattle.cim_words.specs.PhaseNames.{and_then}
use Rattle.cim_words.specs.Phases.{has_no_phase}
use Rattle.cim_words.specs.declared.identifier.Id.{Id}
use Rattle.cim_words.specs.declared.phases.PhaseSet.{PhaseSet}
use Rattle.cim_words.specs.declared.statement.Statement.{Statement}
use Rattle.cim_model.specs.Live.{is_live, is_open, is_place, terms_at}
use Rattle.cim_model.specs.Marks.{marks_on}
use Rattle.cim_model.specs.Model.{is_of, is_subject}
use Rattle.cim_model.specs.Network.{first, is_equipment, length_in, or_else}
use Rattle.room_words.specs.Acts.{acted_on, placed}
use Rattle.room_words.specs.Items.{anchors, item_id, item_length, item_number, item_phases, item_segment}
use Rattle.room_words.specs.Overlay.{item_of, item_or, position_of}
use Rattle.room_words.specs.Terms.{same_anchor}
use Rattle.room_words.specs.declared.act.Act.{Act}
use Rattle.room_words.specs.declared.act.Act.TheVariants as act
use Rattle.room_words.specs.declared.act_refusal.ActRefusal.{ActRefusal}
use Rattle.room_words.specs.declared.act_refusal.ActRefusal.TheVariants as refusal
use Rattle.room_words.specs.declared.anchor.Anchor.{Anchor}
use Rattle.room_words.specs.declared.anchor.Anchor.TheVariants as anchor
use Rattle.room_words.specs.declared.items.TempItem.{TempItem}
use Rattle.room_words.specs.declared.items.TempItem.TheVariants as item
use Rattle.room_words.specs.declared.overlay.Overlay.{Overlay}
use Rattle.segment_cuts.specs.declared.mark.Mark.{Mark}

-- a refusal where a test holds
abbrev pub refused_if : Bool → ActRefusal → Option ActRefusal
refused_if holds why = if holds then Some why else None

-- 1. Unknown: what is acted on is no equipment of the model and no item.
abbrev pub unknown : List Statement → Overlay → Act → Option ActRefusal
unknown m o a = and_then (acted_on a) (λ (id : Id). refused_if (not (is_live m o id.number)) (refusal.Unknown id))

-- 2. Taken: the identifier of what is placed is a subject of the model or an item.
abbrev pub is_taken : List Statement → Overlay → ℕ → Bool
is_taken m o x = is_subject m x || is_some (item_of o x)

abbrev pub taken : List Statement → Overlay → Act → Option ActRefusal
taken m o a = and_then (placed a) (λ (one : TempItem). refused_if (is_taken m o (item_number one)) (refusal.Taken (item_id one)))

-- 3. Kind: what is opened or closed is no switch of the model, no temporary cut and no temporary jumper; what is released is no switch
-- of the model; what is cut or clamped is no line segment.
abbrev pub is_item_switched : TempItem → Bool
is_item_switched (item.Cut id segment length is_open) = true
is_item_switched (item.Clamp id segment length) = false
is_item_switched (item.Jumper id first second phases is_open) = true
is_item_switched (item.Ground id at phases) = false

abbrev pub is_switched : List Statement → Overlay → ℕ → Bool
is_switched m o x = is_of m is_switch x || item_or o x is_item_switched false

abbrev pub not_switched : List Statement → Overlay → Id → Option ActRefusal
not_switched m o id = refused_if (not (is_switched m o id.number)) (refusal.Kind id)

abbrev pub not_segment : List Statement → TempItem → Option ActRefusal
not_segment m one = and_then (item_segment one) (λ (id : Id). refused_if (not (is_of m is_segment id.number)) (refusal.Kind id))

abbrev pub kind : List Statement → Overlay → Act → Option ActRefusal
kind m o (act.OpenSwitch id) = not_switched m o id
kind m o (act.CloseSwitch id) = not_switched m o id
kind m o (act.Release id) = refused_if (not (is_of m is_switch id.number)) (refusal.Kind id)
kind m o a = and_then (placed a) (not_segment m)

-- 4. Permanent: what is to be taken away is equipment of the model.
abbrev pub permanent : List Statement → Act → Option ActRefusal
permanent m (act.Remove id) = refused_if (is_equipment m id.number) (refusal.Permanent id)
permanent m a = None

-- 5. Already: what is opened is open now, or what is closed is closed now.
abbrev pub already : List Statement → Overlay → Act → Option ActRefusal
already m o (act.OpenSwitch id) = refused_if (is_open m o id.number) refusal.Already
already m o (act.CloseSwitch id) = refused_if (not (is_open m o id.number)) refusal.Already
already m o a = None

-- 6. NotHeld: no position is in force for the switch that is released.
abbrev pub not_held : Overlay → Act → Option ActRefusal
not_held o (act.Release id) = refused_if (is_none (position_of o id.number)) refusal.NotHeld
not_held o a = None

-- 7. Length: a cut or a clamp would stand beyond the limit, or beyond the length that its segment states.
abbrev pub is_beyond : ℕ → Option ℕ → Bool
is_beyond at stated = nat_lt most_length at || option_map_or (λ (limit : ℕ). nat_lt limit at) stated false

abbrev pub beyond : List Statement → Act → Option ActRefusal
beyond m a = and_then (placed a) (λ (one : TempItem). and_then (item_segment one) (λ (x : Id).
    refused_if (is_beyond (item_length one) (length_in m x.number)) refusal.Length))

-- 8. SamePlace: a cut would stand where another mark does, of which the one with the least identifier is named; or a clamp where a cut
-- does.
abbrev pub marks_at : List Statement → Overlay → ℕ → ℕ → List Mark
marks_at m o x at = filter (λ (one : Mark). one.length.mm == at) (marks_on m o x)

abbrev pub least : List Mark → Option Mark
least marks = find (λ (one : Mark). list_all (λ (other : Mark). nat_le one.id.number other.id.number) marks) marks

abbrev pub in_the_way : TempItem → List Mark → Option Mark
in_the_way (item.Cut id segment length is_open) marks = least marks
in_the_way (item.Clamp id segment length) marks = find (λ (one : Mark). one.divides) marks
in_the_way one marks = None

abbrev pub same_place : List Statement → Overlay → Act → Option ActRefusal
same_place m o a = and_then (placed a) (λ (one : TempItem). and_then (item_segment one) (λ (x : Id).
    option_map (λ (other : Mark). refusal.SamePlace other.id) (in_the_way one (marks_at m o x.number (item_length one)))))

-- 9. NoAnchor: an anchor is no node of the model and no side of an item; the first such is named by its place, from 1.
abbrev pub needs : Act → List Anchor
needs a = option_map_or anchors (placed a) []

abbrev pub no_anchor : List Statement → Overlay → Act → Option ActRefusal
no_anchor m o a = option_map (λ (k : ℕ). refusal.NoAnchor (k + 1)) (position_from (λ (place : Anchor). not (is_place m o place)) 0 (needs a))

-- 10. SameAnchor: the two anchors of a jumper are one.
abbrev pub one_anchor : Act → Option ActRefusal
one_anchor (act.Jumper id first second phases) = refused_if (same_anchor first second) refusal.SameAnchor
one_anchor a = None

-- 11. Phases: a jumper or a ground has no phase.
abbrev pub no_phase : Act → Option ActRefusal
no_phase a = and_then (placed a) (λ (one : TempItem). and_then (item_phases one) (λ (phases : PhaseSet). refused_if (has_no_phase phases) refusal.Phases))

-- 12. Crowded: the segment has as many marks as it may, or the place of an anchor as many terminals; the first such anchor is named by
-- its node or item.
abbrev pub anchor_id : Anchor → Id
anchor_id (anchor.Node id) = id
anchor_id (anchor.Side id side) = id

abbrev pub crowded_segment : List Statement → Overlay → TempItem → Option ActRefusal
crowded_segment m o one = and_then (item_segment one) (λ (x : Id). refused_if (nat_le most_marks (length (marks_on m o x.number))) (refusal.Crowded x))

abbrev pub crowded_place : List Statement → Overlay → TempItem → Option ActRefusal
crowded_place m o one =
    option_map (λ (place : Anchor). refusal.Crowded (anchor_id place)) (find (λ (place : Anchor). nat_le most_at_place (length (terms_at m o place))) (anchors one))

abbrev pub crowded : List Statement → Overlay → Act → Option ActRefusal
crowded m o a = and_then (placed a) (λ (one : TempItem). or_else (crowded_segment m o one) (crowded_place m o one))

-- 13. InUse: an item is anchored at a side of what is to be taken away; the first in order of placing is named.
abbrev pub is_side_of : ℕ → Anchor → Bool
is_side_of x (anchor.Node id) = false
is_side_of x (anchor.Side id side) = id.number == x

abbrev pub is_anchored_at : ℕ → TempItem → Bool
is_anchored_at x one = list_any (is_side_of x) (anchors one)

abbrev pub in_use : Overlay → Act → Option ActRefusal
in_use o (act.Remove id) = option_map (λ (one : TempItem). refusal.InUse (item_id one)) (find (is_anchored_at id.number) o.items)
in_use o a = None

-- 14. Full: there are as many items as there may be, and one is to be placed.
abbrev pub full : Overlay → Act → Option ActRefusal
full o a = refused_if (is_some (placed a) && nat_le most_items (length o.items)) refusal.Full

-- the refusals in their order, and the first that holds
abbrev pub refusals : List Statement → Overlay → Act → List (Option ActRefusal)
refusals m o a =
    unknown m o a ∷ taken m o a ∷ kind m o a ∷ permanent m a ∷ already m o a ∷ not_held o a ∷ beyond m a ∷ same_place m o a
    ∷ no_anchor m o a ∷ one_anchor a ∷ no_phase a ∷ crowded m o a ∷ in_use o a ∷ full o a ∷ []

abbrev pub refusal_of : List Statement → Overlay → Act → Option ActRefusal
refusal_of m o a = first (filter_map (λ (r : Option ActRefusal). r) (refusals m o a))
