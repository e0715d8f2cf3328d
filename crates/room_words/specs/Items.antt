-- What a temporary item says by itself, of this project (after Cut, Clamp, Jumper and Ground of IEC 61970-301).
use Rattle.std.specs.Prelude.{ℕ, List, [], ◌∷◌, map, Bool, true, Option, Some, None, option_map, find}
use Rattle.std.specs.List.{filter, list_any}
use Rattle.cim_words.specs.declared.class.Class.{Class}
use Rattle.cim_words.specs.declared.class.Class.TheVariants as class
use Rattle.cim_words.specs.declared.identifier.Id.{Id}
use Rattle.cim_words.specs.declared.phases.PhaseSet.{PhaseSet}
use Rattle.room_words.specs.Terms.{same_anchor, same_term}
use Rattle.room_words.specs.declared.anchor.Anchor.{Anchor}
use Rattle.room_words.specs.declared.anchor.Anchor.TheVariants as anchor
use Rattle.room_words.specs.declared.items.TempItem.{TempItem}
use Rattle.room_words.specs.declared.items.TempItem.TheVariants as item
use Rattle.room_words.specs.declared.term.Term.{Term}
use Rattle.room_words.specs.declared.term.TermKey.TheVariants as key

-- its identifier, and its class
abbrev pub item_id : TempItem → Id
item_id (item.Cut id segment length is_open) = id
item_id (item.Clamp id segment length) = id
item_id (item.Jumper id first second phases is_open) = id
item_id (item.Ground id at phases) = id

abbrev pub item_number : TempItem → ℕ
item_number one = (item_id one).number

abbrev pub item_class : TempItem → Class
item_class (item.Cut id segment length is_open) = class.Cut
item_class (item.Clamp id segment length) = class.Clamp
item_class (item.Jumper id first second phases is_open) = class.Jumper
item_class (item.Ground id at phases) = class.Ground

-- the segment that a cut or a clamp stands on, and how far it is from the segment's terminal 1, in millimetres
abbrev pub item_segment : TempItem → Option Id
item_segment (item.Cut id segment length is_open) = Some segment
item_segment (item.Clamp id segment length) = Some segment
item_segment (item.Jumper id first second phases is_open) = None
item_segment (item.Ground id at phases) = None

abbrev pub item_length : TempItem → ℕ
item_length (item.Cut id segment length is_open) = length.mm
item_length (item.Clamp id segment length) = length.mm
item_length (item.Jumper id first second phases is_open) = 0
item_length (item.Ground id at phases) = 0

-- the phases that a jumper or a ground states; a cut and a clamp have those of their segment
abbrev pub item_phases : TempItem → Option PhaseSet
item_phases (item.Cut id segment length is_open) = None
item_phases (item.Clamp id segment length) = None
item_phases (item.Jumper id first second phases is_open) = Some phases
item_phases (item.Ground id at phases) = Some phases

-- whether a cut or a jumper is open; a clamp and a ground are no switches, and nothing goes through them
abbrev pub item_open : TempItem → Bool
item_open (item.Cut id segment length is_open) = is_open
item_open (item.Clamp id segment length) = true
item_open (item.Jumper id first second phases is_open) = is_open
item_open (item.Ground id at phases) = true

-- Side 1 of an item, as a terminal and the place where it stands: side 1 of a cut or a clamp is a place of its own, side 1 of a jumper
-- stands at its first anchor, and that of a ground at its anchor.
abbrev pub side : Id → ℕ → Term
side id number = record { owner = id; key = key.Side number }

abbrev pub side_one : TempItem → Anchor × Term
side_one (item.Cut id segment length is_open) = (anchor.Side id 1, side id 1)
side_one (item.Clamp id segment length) = (anchor.Side id 1, side id 1)
side_one (item.Jumper id first second phases is_open) = (first, side id 1)
side_one (item.Ground id at phases) = (at, side id 1)

-- Side 2 of an item: a cut and a jumper have one.
abbrev pub side_two : TempItem → Option (Anchor × Term)
side_two (item.Cut id segment length is_open) = Some (anchor.Side id 2, side id 2)
side_two (item.Clamp id segment length) = None
side_two (item.Jumper id first second phases is_open) = Some (second, side id 2)
side_two (item.Ground id at phases) = None

-- the terminals of an item in order of its sides, each with its place
abbrev pub as_list : {X : Type 0} → Option X → List X
as_list None = []
as_list (Some x) = x ∷ []

abbrev pub standing : TempItem → List (Anchor × Term)
standing one = side_one one ∷ as_list (side_two one)

abbrev pub term_in : Anchor × Term → Term
term_in standing = standing.1

abbrev pub item_terms : TempItem → List Term
item_terms one = map term_in (standing one)

-- where a terminal of an item stands, and which of its terminals stand at a place
abbrev pub item_place : TempItem → Term → Option Anchor
item_place one t = option_map (λ (s : Anchor × Term). s.0) (find (λ (s : Anchor × Term). same_term s.1 t) (standing one))

abbrev pub item_terms_at : Anchor → TempItem → List Term
item_terms_at place one = map term_in (filter (λ (s : Anchor × Term). same_anchor s.0 place) (standing one))

-- the places that an item makes: the sides of a cut and of a clamp
abbrev pub own_places : TempItem → List Anchor
own_places (item.Cut id segment length is_open) = anchor.Side id 1 ∷ anchor.Side id 2 ∷ []
own_places (item.Clamp id segment length) = anchor.Side id 1 ∷ []
own_places (item.Jumper id first second phases is_open) = []
own_places (item.Ground id at phases) = []

-- whether an item makes a place
abbrev pub makes : Anchor → TempItem → Bool
makes place one = list_any (same_anchor place) (own_places one)

-- the places that an item needs: the anchors of a jumper and of a ground
abbrev pub anchors : TempItem → List Anchor
anchors (item.Cut id segment length is_open) = []
anchors (item.Clamp id segment length) = []
anchors (item.Jumper id first second phases is_open) = first ∷ second ∷ []
anchors (item.Ground id at phases) = at ∷ []
