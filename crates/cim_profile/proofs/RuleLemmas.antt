-- Tests of what a subject's statements say.
use Rattle.std.proofs.Common.{◌≡◌, ℕ, List, Bool, true, false, cond, ◌&&◌, None, refl, ap, sym, ◌∙◌}
use Rattle.std.specs.List.{filter_map, list_any}
use Rattle.plain_laws.proofs.Tests.{any_map_filter, any_same}
use Rattle.plain_laws.proofs.Truth.{and_passed}
use Rattle.cim_words.specs.declared.known_prop.KnownProp.{KnownProp}
use Rattle.cim_words.specs.declared.object.Object.{Object}
use Rattle.cim_words.specs.declared.statement.Statement.{Statement}
use Rattle.cim_profile.specs.Facts.{is_present_and}
use Rattle.cim_profile.specs.MarkKind.{is_mark, mark_lengths, segment_of}
use Rattle.cim_profile.specs.Places.{is_misplaced, lies_wrongly}
use Rattle.cim_profile.specs.declared.mark_kind.MarkKind.{MarkKind}
use Rattle.cim_model.specs.Model.{about, is_by, said_in, id_said, named_by}
use Rattle.cim_profile.proofs.RowValues.{any_present, filter_map_present}

if_by : (p : ℕ → Bool) (o : Object) (b : Bool) → (b && is_present_and p (id_said o)) ≡ is_present_and p (cond b (id_said o) None)
if_by p o true = refl
if_by p o false = refl

-- a test of the identifiers that statements name
any_named : (p : ℕ → Bool) (k : KnownProp) (statements : List Statement) → list_any p (filter_map id_said (said_in statements k)) ≡ list_any (λ (s : Statement). is_present_and p (named_by k s)) statements
any_named p k statements =
    ap (list_any p) (filter_map_present id_said (said_in statements k))
    ∙ any_present p id_said (said_in statements k)
    ∙ any_map_filter (λ (o : Object). is_present_and p (id_said o)) (λ (s : Statement). s.object) (is_by k) statements
    ∙ any_same _ (λ (s : Statement). is_present_and p (named_by k s)) (λ s. if_by p s.object (is_by k s)) statements

-- whether a mark lies wrongly along a segment that one of its statements names, with its lengths in either form
pub misplaced_is : (m : List Statement) (k : MarkKind) (x : ℕ) (statements : List Statement) (lengths : List ℕ) → statements ≡ about m x → lengths ≡ mark_lengths m k x → is_mark m k x ≡ true
    → list_any (λ (s : Statement). is_present_and (lies_wrongly m k x lengths) (named_by (segment_of k) s)) statements ≡ is_misplaced m k x
misplaced_is m k x statements lengths own same is = rw (own, same) (sym (any_named (lies_wrongly m k x (mark_lengths m k x)) (segment_of k) (about m x)) ∙ and_passed (is_mark m k x) _ is)
