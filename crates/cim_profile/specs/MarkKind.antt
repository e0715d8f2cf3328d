-- Cuts and clamps, the two kinds of marks of a segment.
use Rattle.std.specs.Prelude.{ℕ, List, Bool}
use Rattle.std.specs.List.{filter}
use Rattle.cim_words.specs.declared.known_prop.KnownProp.{KnownProp}
use Rattle.cim_words.specs.Properties as property
use Rattle.cim_words.specs.declared.statement.Statement.{Statement}
use Rattle.cim_model.specs.Model.{is_of, naming, said}
use Rattle.cim_model.specs.Stated.{or_zero}
use Rattle.cim_profile.specs.Facts.{kind_test}
use Rattle.cim_profile.specs.declared.kind.Kind.{Kind}
use Rattle.cim_profile.specs.declared.kind.Kind.TheVariants as kind
use Rattle.cim_profile.specs.declared.mark_kind.MarkKind.{MarkKind}
use Rattle.cim_profile.specs.declared.mark_kind.MarkKind.TheVariants.{Cut, Clamp}

-- the class of marks of a kind, and the properties by which such a mark names its segment and states its length
abbrev pub class_of : MarkKind → Kind
class_of Cut = kind.Cut
class_of Clamp = kind.Clamp

abbrev pub segment_of : MarkKind → KnownProp
segment_of Cut = property.cut_segment
segment_of Clamp = property.clamp_segment

abbrev pub length_of : MarkKind → KnownProp
length_of Cut = property.cut_length
length_of Clamp = property.clamp_length

-- whether a subject is a mark of a kind
abbrev pub is_mark : List Statement → MarkKind → ℕ → Bool
is_mark m k x = is_of m (kind_test (class_of k)) x

-- the marks of a kind of a segment, and the length of such a mark, which is 0 where none is stated
abbrev pub marks_of : List Statement → MarkKind → ℕ → List ℕ
marks_of m k s = filter (is_mark m k) (naming m (segment_of k) s)

abbrev pub mark_lengths : List Statement → MarkKind → ℕ → List ℕ
mark_lengths m k x = or_zero (said m x (length_of k))
