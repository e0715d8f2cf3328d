-- What the laws of the crates below give, under one name for each.
use Rattle.std.proofs.Common.{◌≡◌, ◌↔◌, ℕ, List, Contains}
use Rattle.cim_words.specs.declared.statement.Statement.{Statement}
use Rattle.nt_text.specs.Document.{IsBadDocument, IsDocument}
use Rattle.nt_text.specs.declared.refusal.LineRefusal.{LineRefusal}
use Rattle.statement_set.specs.Set.{IsOrdered}

-- a document has one list of statements or one first bad line, and its statements are one set
pub record KeepLaws : Type 0 where
  pub document : (bytes : List ℕ) (s t : List Statement) → IsDocument bytes s → IsDocument bytes t → s ≡ t
  pub bad_line : (bytes : List ℕ) (n m : ℕ) (why other : LineRefusal) (s t : List Statement) → IsBadDocument bytes n why s → IsBadDocument bytes m other t
      → (n ≡ m) × (why ≡ other) × (s ≡ t)
  pub either : (bytes : List ℕ) (s t : List Statement) (n : ℕ) (why : LineRefusal) → IsDocument bytes s → IsBadDocument bytes n why t → ⊥
  pub set : (these those : List Statement) → IsOrdered these → IsOrdered those → ((s : Statement) → Contains these s ↔ Contains those s) → these ≡ those
