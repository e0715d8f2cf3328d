-- Bytes are one base, or are refused for one reason.
use Rattle.std.proofs.Common.{◌≡◌, ℕ, ◌<◌, ◌≤◌, ◌⊎◌, inl, inr, List, length, Some, refl, ap, subst, arith}
use Rattle.std.specs.Prelude.{Contains}
use Rattle.cim_profile.specs.FirstBreak.{IsAtMost, IsFirstBreak}
use Rattle.cim_words.specs.declared.identifier.Id.{Id}
use Rattle.cim_words.specs.declared.statement.Statement.{Statement}
use Rattle.cim_model.specs.Profile.{IsFault}
use Rattle.nt_text.specs.declared.refusal.LineRefusal.{LineRefusal}
use Rattle.statement_set.specs.Set.{IsSetOf, most_statements}
use Rattle.room_base.specs.Base.{IsBase, IsRead, IsUnsound, HasTooMany, HasBadLine, RefusesBase, base_limit}
use Rattle.room_base.specs.declared.refusal.BaseRefusal.{BaseRefusal}
use Rattle.room_base.specs.declared.refusal.BaseRefusal.TheVariants as refusal
use Rattle.room_base.proofs.LawsBelow.{KeepLaws}

-- bytes have one set of statements
pub one_set : KeepLaws → (bytes : List ℕ) (a b : List Statement) → IsRead bytes a → IsRead bytes b → a ≡ b
one_set laws bytes a b is is' =
    let same : is.statements ≡ is'.statements = laws.document bytes is.statements is'.statements is.document is'.document in
    let P : List Statement → Type 0 = λ statements. IsSetOf (Contains statements) a in
    let moved = subst P same is.collected in
    laws.set a b moved.ordered is'.collected.ordered
    (λ s. (λ in_a. (is'.collected.members s).1 ((moved.members s).0 in_a), λ in_b. (moved.members s).1 ((is'.collected.members s).0 in_b)))

too_many : KeepLaws → (bytes : List ℕ) (a b : List Statement) → IsRead bytes a → IsRead bytes b → length a ≤ most_statements → most_statements < length b → ⊥
too_many laws bytes a b is is' small large =
    let same : length a ≡ length b = ap length (one_set laws bytes a b is is') in
    omega arith

is_sound : KeepLaws → (bytes : List ℕ) (set : List Statement) (rule subject : ℕ) → IsBase bytes set → IsUnsound bytes rule subject → ⊥
is_sound laws bytes set rule subject base unsound =
    let same : unsound.set ≡ set = one_set laws bytes unsound.set set unsound.read base.read in
    let P : List Statement → Type 0 = λ statements. IsFault statements rule subject in
    base.sound rule subject (subst P same unsound.first.0)

-- a base is not refused
pub base_or_refused : KeepLaws → (bytes : List ℕ) (set : List Statement) (why : BaseRefusal) → IsBase bytes set → RefusesBase bytes why → ⊥
base_or_refused laws bytes set refusal.Limit base (inl long) = let fits = base.read.fits in omega arith
base_or_refused laws bytes set refusal.Limit base (inr many) = too_many laws bytes set many.0 base.read many.1 base.small many.2
base_or_refused laws bytes set (refusal.Document line why) base bad = laws.either bytes base.read.statements bad.1.0 line why base.read.document bad.1.1
base_or_refused laws bytes set (refusal.Profile rule subject) base unsound = is_sound laws bytes set rule subject.number base unsound

limit_or_bad : KeepLaws → (bytes : List ℕ) (line : ℕ) (why : LineRefusal) → (base_limit < length bytes) ⊎ HasTooMany bytes → HasBadLine bytes line why → ⊥
limit_or_bad laws bytes line why (inl long) bad = let fits = bad.0 in omega arith
limit_or_bad laws bytes line why (inr many) bad = laws.either bytes many.1.statements bad.1.0 line why many.1.document bad.1.1

limit_or_unsound : KeepLaws → (bytes : List ℕ) (rule subject : ℕ) → (base_limit < length bytes) ⊎ HasTooMany bytes → IsUnsound bytes rule subject → ⊥
limit_or_unsound laws bytes rule subject (inl long) unsound = let fits = unsound.read.fits in omega arith
limit_or_unsound laws bytes rule subject (inr many) unsound = too_many laws bytes unsound.set many.0 unsound.read many.1 unsound.small many.2

bad_or_unsound : KeepLaws → (bytes : List ℕ) (line : ℕ) (why : LineRefusal) (rule subject : ℕ) → HasBadLine bytes line why → IsUnsound bytes rule subject → ⊥
bad_or_unsound laws bytes line why rule subject bad unsound =
    laws.either bytes unsound.read.statements bad.1.0 line why unsound.read.document bad.1.1

same_place : (r x q y : ℕ) → IsAtMost r x q y → IsAtMost q y r x → (r ≡ q) × (x ≡ y)
same_place r x q y (inl below) (inl above) = absurd (omega arith)
same_place r x q y (inl below) (inr same) = let equal = same.0 in absurd (omega arith)
same_place r x q y (inr same) (inl above) = let equal = same.0 in absurd (omega arith)
same_place r x q y (inr same) (inr same') = let low = same.1 in let high = same'.1 in (same.0, omega arith)

one_fault : KeepLaws → (bytes : List ℕ) (r x q y : ℕ) → IsUnsound bytes r x → IsUnsound bytes q y → (r ≡ q) × (x ≡ y)
one_fault laws bytes r x q y a b =
    let same : a.set ≡ b.set = one_set laws bytes a.set b.set a.read b.read in
    let P : List Statement → Type 0 = λ statements. IsFirstBreak statements (Some (record { rule = r; subject = record { number = x } })) in
    let first = subst P same a.first in
    same_place r x q y (first.1 q y b.first.0) (b.first.1 r x first.0)

same_bad : (line line' : ℕ) (why why' : LineRefusal) → line ≡ line' → why ≡ why' → refusal.Document line why ≡ refusal.Document line' why'
same_bad line line' why why' lines whys = cc

same_fault : (r q : ℕ) (x y : Id) → r ≡ q → x.number ≡ y.number → refusal.Profile r x ≡ refusal.Profile q y
same_fault r q x y rules subjects =
    let ids : x ≡ y = ap (λ (n : ℕ). record { number = n }) subjects in
    cc

-- bytes are refused for one reason
pub one_refusal : KeepLaws → (bytes : List ℕ) (a b : BaseRefusal) → RefusesBase bytes a → RefusesBase bytes b → a ≡ b
one_refusal laws bytes refusal.Limit refusal.Limit a b = refl
one_refusal laws bytes refusal.Limit (refusal.Document line why) a b = absurd (limit_or_bad laws bytes line why a b)
one_refusal laws bytes refusal.Limit (refusal.Profile rule subject) a b = absurd (limit_or_unsound laws bytes rule subject.number a b)
one_refusal laws bytes (refusal.Document line why) refusal.Limit a b = absurd (limit_or_bad laws bytes line why b a)
one_refusal laws bytes (refusal.Document line why) (refusal.Document line' why') a b =
    let same = laws.bad_line bytes line line' why why' a.1.0 b.1.0 a.1.1 b.1.1 in
    same_bad line line' why why' same.0 same.1
one_refusal laws bytes (refusal.Document line why) (refusal.Profile rule subject) a b = absurd (bad_or_unsound laws bytes line why rule subject.number a b)
one_refusal laws bytes (refusal.Profile rule subject) refusal.Limit a b = absurd (limit_or_unsound laws bytes rule subject.number b a)
one_refusal laws bytes (refusal.Profile rule subject) (refusal.Document line why) a b = absurd (bad_or_unsound laws bytes line why rule subject.number b a)
one_refusal laws bytes (refusal.Profile rule subject) (refusal.Profile rule' subject') a b =
    let same = one_fault laws bytes rule subject.number rule' subject'.number a b in
    same_fault rule rule' subject subject' same.0 same.1
