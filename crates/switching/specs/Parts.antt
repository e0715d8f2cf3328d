-- The refusals of an act in three groups, what stands on a segment at a length, and an overlay after an act of each kind.
use Rattle.std.specs.Prelude.{ℕ, List, ◌++◌, Bool, ◌==◌, nat_le, if◌then◌else◌, Option, Some, None, find}
use Rattle.cim_words.specs.declared.statement.Statement.{Statement}
use Rattle.cim_model.specs.Effects.{turned, without_item, without_position}
use Rattle.cim_model.specs.Network.{or_else}
use Rattle.cim_model.specs.Refusals.{already, beyond, crowded, full, in_use, kind, least, marks_at, no_anchor, no_phase, not_held, one_anchor, permanent, same_place, taken, unknown}
use Rattle.room_words.specs.Acts.{placed}
use Rattle.room_words.specs.Items.{as_list, item_number}
use Rattle.room_words.specs.declared.act.Act.{Act}
use Rattle.room_words.specs.declared.act.Act.TheVariants as act
use Rattle.room_words.specs.declared.act_refusal.ActRefusal.{ActRefusal}
use Rattle.room_words.specs.declared.items.TempItem.{TempItem}
use Rattle.room_words.specs.declared.overlay.Overlay.{Overlay}
use Rattle.segment_cuts.specs.declared.mark.Mark.{Mark}

-- the first refusal for the sake of what is acted on or placed
unfoldable pub of_target : List Statement → Overlay → Act → Option ActRefusal
of_target m o a = or_else (or_else (or_else (or_else (or_else (unknown m o a) (taken m o a)) (kind m o a)) (permanent m a)) (already m o a)) (not_held o a)

-- the first refusal for the sake of where something is to be placed
unfoldable pub of_place : List Statement → Overlay → Act → Option ActRefusal
of_place m o a = or_else (or_else (or_else (or_else (beyond m a) (same_place m o a)) (no_anchor m o a)) (one_anchor a)) (no_phase a)

-- the first refusal for the sake of how much there is
unfoldable pub of_limits : List Statement → Overlay → Act → Option ActRefusal
of_limits m o a = or_else (or_else (crowded m o a) (in_use o a)) (full o a)

-- the mark that is in the way of what an act places on a segment
abbrev pub in_the_way : List Statement → Overlay → Act → Option Mark
in_the_way m o (act.Cut id segment length) = least (marks_at m o segment.number length.mm)
in_the_way m o (act.Clamp id segment length) = find (λ (one : Mark). one.divides) (marks_at m o segment.number length.mm)
in_the_way m o a = None

-- the mark with the lesser identifier, the first where they have one
abbrev pub lesser : Option Mark → Mark → Option Mark
lesser None other = Some other
lesser (Some one) other = if nat_le one.id.number other.id.number then Some one else Some other

-- whether a mark stands at a length
abbrev pub is_at : ℕ → Mark → Bool
is_at at one = one.length.mm == at

-- the overlay after an act that releases, takes away or places
abbrev pub released : Overlay → ℕ → Overlay
released o x = record { items = o.items; positions = without_position x o.positions }

abbrev pub removed : Overlay → ℕ → Overlay
removed o x = record { items = without_item x o.items; positions = o.positions }

abbrev pub placing : Overlay → Act → Overlay
placing o a = record { items = o.items ++ as_list (placed a); positions = o.positions }

-- an item, turned where it has an identifier
abbrev pub turned_if : ℕ → Bool → TempItem → TempItem
turned_if x is_open one = if item_number one == x then turned is_open one else one
