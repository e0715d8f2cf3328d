-- The rules of the profile, of this project: when a subject of a model is at fault by each of them.
use Rattle.std.specs.Prelude.{ℕ, ◌+◌, IsTrue, List, [], ◌∷◌, length, Bool, true, false, not, ◌&&◌, ◌||◌, ◌==◌, nat_lt, is_some, nat_eq, slice_index_or}
use Rattle.std.specs.List.{list_any}
use Rattle.std.specs.Ordering.{is_eq}
use Rattle.cim_words.specs.Limits.{most_at_place, most_marks, most_terminals}
use Rattle.cim_words.specs.Groups.{is_terminal, is_node, is_segment, is_cut, is_clamp, is_single, has_two_ends, is_part, is_known_class, is_switch_phase}
use Rattle.cim_words.specs.Order.{object_order}
use Rattle.cim_words.specs.declared.known_prop.KnownProp.{KnownProp}
use Rattle.cim_words.specs.Properties as property
use Rattle.cim_words.specs.declared.known_prop.KnownProp.TheVariants.{K2, K3, K4, K5, K6, K7, K8, K10, K12, K14, K15, K16, K17, K18, K19, K20}
use Rattle.cim_words.specs.declared.object.Object.{Object}
use Rattle.cim_words.specs.declared.object.Object.TheVariants as object
use Rattle.cim_words.specs.declared.statement.Statement.{Statement}
use Rattle.cim_model.specs.Model.{is_empty, said, is_of, is_subject, counts}
use Rattle.cim_model.specs.Values.{number_said, length_said, truth_said, code_said, kind_said}
use Rattle.cim_model.specs.Stated.{terminals_of, terminals_at, cuts_of, clamps_of, numbers_of, stated_lengths, cut_lengths, clamp_lengths, ids_said}

-- the properties besides the type, those that name another subject, and those that state a value
abbrev pub attributes : List KnownProp
attributes = property.conducting_equipment ∷ property.connectivity_node ∷ property.phases ∷ property.sequence_number ∷ property.normal_open ∷ property.switch_open ∷ property.conductor_length ∷ property.clamp_segment ∷ property.clamp_length ∷ property.cut_segment ∷ property.cut_length ∷ property.segment_of_phase ∷ property.segment_phase ∷ property.consumer_of_phase ∷ property.consumer_phase ∷ property.switch_of_phase ∷ property.switch_phase_closed ∷ property.phase_side_1 ∷ property.phase_side_2 ∷ []

abbrev pub references : List KnownProp
references = property.conducting_equipment ∷ property.connectivity_node ∷ property.clamp_segment ∷ property.cut_segment ∷ property.segment_of_phase ∷ property.consumer_of_phase ∷ property.switch_of_phase ∷ []

abbrev pub values : List KnownProp
values = property.phases ∷ property.sequence_number ∷ property.normal_open ∷ property.switch_open ∷ property.conductor_length ∷ property.clamp_length ∷ property.cut_length ∷ property.segment_phase ∷ property.consumer_phase ∷ property.switch_phase_closed ∷ property.phase_side_1 ∷ property.phase_side_2 ∷ []

-- Rule 1. What has a class of the table, or is named by a terminal as its equipment, has one type statement, and that names a class.
abbrev pub is_one_name : List Object → Bool
is_one_name (object.Name text ∷ []) = true
is_one_name _ = false

abbrev pub breaks_type : List Statement → ℕ → Bool
breaks_type m x = not (is_one_name (said m x property.rdf_type)) && (is_of m is_known_class x || not (is_empty (terminals_of m x)))

-- Rule 2. A property that counts on a subject is stated at most once.
abbrev pub states_twice : List Statement → ℕ → KnownProp → Bool
states_twice m x k = nat_lt 1 (length (said m x k)) && counts m x k

abbrev pub breaks_once : List Statement → ℕ → Bool
breaks_once m x = list_any (states_twice m x) attributes

-- Rule 3. A terminal names its equipment, a clamp and a cut their segment.
abbrev pub breaks_owner : List Statement → ℕ → Bool
breaks_owner m x =
    is_of m is_terminal x && is_empty (said m x property.conducting_equipment) || is_of m is_clamp x && is_empty (said m x property.clamp_segment) || is_of m is_cut x && is_empty (said m x property.cut_segment)

-- Rule 4. What a reference names is of the right class: a terminal's or phase object's equipment has a type and is no terminal,
-- node or phase object, a terminal's node is a node, and what a cut, a clamp or a segment's phase stands on is a segment.
abbrev pub is_thing : List Statement → ℕ → Bool
is_thing m x = not (is_empty (said m x property.rdf_type)) && not (is_of m is_part x)

abbrev pub is_target : List Statement → KnownProp → ℕ → Bool
is_target m K2 x = is_thing m x
is_target m K15 x = is_thing m x
is_target m K17 x = is_thing m x
is_target m K3 x = is_of m is_node x
is_target m _ x = is_of m is_segment x

abbrev pub names_target : List Statement → KnownProp → Object → Bool
names_target m k (object.Id id) = is_target m k id.number
names_target m k (object.Name text) = false
names_target m k (object.Text text) = false

abbrev pub names_wrongly : List Statement → ℕ → KnownProp → Bool
names_wrongly m x k = list_any (λ o. not (names_target m k o)) (said m x k) && counts m x k

abbrev pub breaks_target : List Statement → ℕ → Bool
breaks_target m x = list_any (names_wrongly m x) references

-- Rule 5. A segment or switch has two terminals, what is single has one, and other equipment has at most 64.
abbrev pub breaks_terminals : List Statement → ℕ → Bool
breaks_terminals m x =
    is_of m has_two_ends x && not (length (terminals_of m x) == 2) || is_of m is_single x && not (length (terminals_of m x) == 1)
    || not (is_of m has_two_ends x || is_of m is_single x) && nat_lt most_terminals (length (terminals_of m x))

-- Rule 6. The two terminals of a segment or a cut are numbered 1 and 2. Those of a segment without cuts and clamps may both have no number.
abbrev pub is_one : ℕ → List ℕ → Bool
is_one n (first ∷ []) = first == n
is_one n _ = false

abbrev pub are_one_and_two : List ℕ → List ℕ → Bool
are_one_and_two a b = is_one 1 a && is_one 2 b || is_one 2 a && is_one 1 b

abbrev pub needs_no_numbers : List Statement → ℕ → List ℕ → List ℕ → Bool
needs_no_numbers m x a b = is_of m is_segment x && is_empty (cuts_of m x) && is_empty (clamps_of m x) && is_empty a && is_empty b

abbrev pub are_misnumbered : List Statement → ℕ → List ℕ → Bool
are_misnumbered m x (t ∷ u ∷ []) = not (are_one_and_two (numbers_of m t) (numbers_of m u)) && not (needs_no_numbers m x (numbers_of m t) (numbers_of m u))
are_misnumbered m x _ = false

abbrev pub breaks_numbers : List Statement → ℕ → Bool
breaks_numbers m x = (is_of m is_segment x || is_of m is_cut x) && are_misnumbered m x (terminals_of m x)

-- Rule 7. A value is of the form that its property asks for.
abbrev pub has_form : KnownProp → Object → Bool
has_form K4 o = is_some (code_said o)
has_form K5 o = is_some (number_said o)
has_form K6 o = is_some (truth_said o)
has_form K7 o = is_some (truth_said o)
has_form K8 o = is_some (length_said o)
has_form K10 o = is_some (length_said o)
has_form K12 o = is_some (length_said o)
has_form K14 o = is_some (kind_said o)
has_form K16 o = is_some (kind_said o)
has_form K18 o = is_some (truth_said o)
has_form K19 o = is_some (kind_said o)
has_form K20 o = is_some (kind_said o)
has_form _ o = true

abbrev pub states_wrongly : List Statement → ℕ → KnownProp → Bool
states_wrongly m x k = list_any (λ o. not (has_form k o)) (said m x k) && counts m x k

abbrev pub breaks_form : List Statement → ℕ → Bool
breaks_form m x = list_any (states_wrongly m x) values

-- Rule 8. A cut or a clamp lies within its segment's stated length, and a cut shares its length with no other cut or clamp of its segment.
abbrev pub is_beyond : List ℕ → List ℕ → Bool
is_beyond lengths stated = list_any (λ n. list_any (λ limit. nat_lt limit n) stated) lengths

abbrev pub share_one : List ℕ → List ℕ → Bool
share_one ns ms = list_any (λ n. list_any (nat_eq n) ms) ns

abbrev pub shares_with_cut : List Statement → ℕ → List ℕ → ℕ → Bool
shares_with_cut m x lengths s = list_any (λ y. not (y == x) && share_one lengths (cut_lengths m y)) (cuts_of m s)

abbrev pub shares_with_clamp : List Statement → ℕ → List ℕ → ℕ → Bool
shares_with_clamp m x lengths s = list_any (λ y. not (y == x) && share_one lengths (clamp_lengths m y)) (clamps_of m s)

abbrev pub shares_place : List Statement → ℕ → List ℕ → ℕ → Bool
shares_place m x lengths s = shares_with_cut m x lengths s || shares_with_clamp m x lengths s

abbrev pub is_clamp_misplaced : List Statement → ℕ → Bool
is_clamp_misplaced m x = list_any (λ s. is_beyond (clamp_lengths m x) (stated_lengths m s)) (ids_said m x property.clamp_segment)

abbrev pub is_cut_misplaced : List Statement → ℕ → Bool
is_cut_misplaced m x =
    list_any (λ s. is_beyond (cut_lengths m x) (stated_lengths m s) || shares_place m x (cut_lengths m x) s) (ids_said m x property.cut_segment)

abbrev pub breaks_place : List Statement → ℕ → Bool
breaks_place m x = is_of m is_clamp x && is_clamp_misplaced m x || is_of m is_cut x && is_cut_misplaced m x

-- Rule 9. A segment has at most 256 cuts and clamps, and a node at most 1,024 terminals.
abbrev pub has_many_marks : List Statement → ℕ → Bool
has_many_marks m x = is_of m is_segment x && nat_lt most_marks (length (cuts_of m x) + length (clamps_of m x))

abbrev pub has_many_terminals : List Statement → ℕ → Bool
has_many_terminals m x = is_of m is_node x && nat_lt most_at_place (length (terminals_at m x))

abbrev pub breaks_crowd : List Statement → ℕ → Bool
breaks_crowd m x = has_many_marks m x || has_many_terminals m x

-- Rule 10. The two sides of a switch's phase are one phase.
abbrev pub same_object : Object → Object → Bool
same_object a b = is_eq (object_order a b)

abbrev pub has_other_side : List Statement → ℕ → Object → Bool
has_other_side m x side = list_any (λ other. not (same_object side other)) (said m x property.phase_side_2)

abbrev pub breaks_sides : List Statement → ℕ → Bool
breaks_sides m x = is_of m is_switch_phase x && list_any (has_other_side m x) (said m x property.phase_side_1)

-- which rules a subject breaks, by number; there is no rule 0
abbrev pub verdicts : List Statement → ℕ → List Bool
verdicts m x =
    false ∷ breaks_type m x ∷ breaks_once m x ∷ breaks_owner m x ∷ breaks_target m x ∷ breaks_terminals m x ∷ breaks_numbers m x
    ∷ breaks_form m x ∷ breaks_place m x ∷ breaks_crowd m x ∷ breaks_sides m x ∷ []

abbrev pub breaks : List Statement → ℕ → ℕ → Bool
breaks m rule x = slice_index_or (verdicts m x) rule false

-- a fault of a model: a rule and a subject that breaks it
pub record IsFault (m : List Statement) (rule x : ℕ) : Type 0 where
  pub subject : IsTrue (is_subject m x)
  pub broken : IsTrue (breaks m rule x)

-- a model without fault breaks no rule
abbrev pub IsFaultless : List Statement → Type 0
IsFaultless m = (rule x : ℕ) → IsFault m rule x → ⊥
