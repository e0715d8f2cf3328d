-- A base: a document of statements, as a set that breaks no rule of the profile; and why bytes are none.
use Rattle.std.specs.Prelude.{ℕ, ◌≤◌, ◌<◌, ◌⊎◌, List, length, Contains, Some, None}
use Rattle.cim_profile.specs.FirstBreak.{IsFirstBreak}
use Rattle.cim_words.specs.declared.statement.Statement.{Statement}
use Rattle.nt_text.specs.declared.refusal.LineRefusal.{LineRefusal}
use Rattle.nt_text.specs.Document.{IsDocument, IsBadDocument}
use Rattle.room_base.specs.declared.refusal.BaseRefusal.{BaseRefusal}
use Rattle.room_base.specs.declared.refusal.BaseRefusal.TheVariants as refusal
use Rattle.statement_set.specs.Set.{IsSetOf, most_statements}

-- the most bytes that a base may have, and each further file that a command names
abbrev pub base_limit : ℕ
base_limit = 268435456

-- the bytes are a document, and this is the set of its statements
pub record IsRead (bytes : List ℕ) (set : List Statement) : Type 0 where
  pub fits : length bytes ≤ base_limit
  pub statements : List Statement
  pub document : IsDocument bytes statements
  pub collected : IsSetOf (Contains statements) set

-- the bytes are a base with this set of statements: these are not too many, and break no rule of the profile
pub record IsBase (bytes : List ℕ) (set : List Statement) : Type 0 where
  pub read : IsRead bytes set
  pub small : length set ≤ most_statements
  pub sound : IsFirstBreak set None

-- a set within the limit breaks the profile, and this is its least fault
pub record IsUnsound (bytes : List ℕ) (rule subject : ℕ) : Type 0 where
  pub set : List Statement
  pub read : IsRead bytes set
  pub small : length set ≤ most_statements
  pub first : IsFirstBreak set (Some (record { rule = rule; subject = record { number = subject } }))

-- a document has too many different statements
abbrev pub HasTooMany : List ℕ → Type 0
HasTooMany bytes = (set : List Statement) × IsRead bytes set × (most_statements < length set)

-- a document has a bad line, and this is the first
abbrev pub HasBadLine : List ℕ → ℕ → LineRefusal → Type 0
HasBadLine bytes line why = (length bytes ≤ base_limit) × ((found : List Statement) × IsBadDocument bytes line why found)

-- Why bytes are no base: they are too many; a line of them is bad; their statements are too many; or these break the profile.
abbrev pub RefusesBase : List ℕ → BaseRefusal → Type 0
RefusesBase bytes refusal.Limit = (base_limit < length bytes) ⊎ HasTooMany bytes
RefusesBase bytes (refusal.Document line why) = HasBadLine bytes line why
RefusesBase bytes (refusal.Profile rule subject) = IsUnsound bytes rule subject.number
