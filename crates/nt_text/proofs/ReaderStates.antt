-- Where a reader stands after a piece and after a document.
use Rattle.std.proofs.Common.{◌≡◌, ℕ, ◌+◌, ◌<◌, List, [], ◌++◌, length, Option, Some, None, sym, ap, ◌∙◌, subst, append-nil, length-append}
use Rattle.cim_words.specs.declared.statement.Statement.{Statement}
use Rattle.nt_text.specs.Document.{AreRead, IsDocument}
use Rattle.nt_text.specs.Reader.{ReaderState, HasRead, HasFailed, Stands, IsAt, IsFaultOf, Gained}
use Rattle.nt_text.specs.ReaderSteps.{last_line, IsLineFault}
use Rattle.nt_text.specs.declared.refusal.NtFault.{NtFault}
use Rattle.nt_text.proofs.Faults.{fails_on, is_fault_of, last_fails, ends_document}

-- a reader without a fault has read, and one with a fault has failed
pub has_read : (state : ReaderState) (bytes : List ℕ) (found : List Statement) → state.fault ≡ None → IsAt state bytes found → HasRead state bytes found
has_read state bytes found none is = let P : Option NtFault → Type 0 = λ o. Stands o state bytes found in subst P none is.stands

pub has_failed : (state : ReaderState) (bytes : List ℕ) (found : List Statement) (f : NtFault) → state.fault ≡ Some f → IsAt state bytes found → HasFailed f bytes found
has_failed state bytes found f some is = let P : Option NtFault → Type 0 = λ o. Stands o state bytes found in subst P some is.stands

stands_failed : (state : ReaderState) (bytes : List ℕ) (found : List Statement) (f : NtFault) → state.fault ≡ Some f → HasFailed f bytes found
    → Stands state.fault state bytes found
stands_failed state bytes found f some is = let P : Option NtFault → Type 0 = λ o. Stands o state bytes found in subst P (sym some) is

fed_more : (n : ℕ) (bytes piece : List ℕ) → n ≡ length bytes → n + length piece ≡ length (bytes ++ piece)
fed_more n bytes piece taken = ap (λ m. m + length piece) taken ∙ sym (length-append bytes piece)

-- a reader that has failed takes nothing
pub at_again : (old : ReaderState) (f : NtFault) (bytes : List ℕ) (found : List Statement) (piece : List ℕ) → old.fault ≡ Some f → IsAt old bytes found
    → IsAt (record old { fed = old.fed + length piece }) (bytes ++ piece) (found ++ [])
at_again old f bytes found piece some is = record {
  taken = fed_more old.fed bytes piece is.taken;
  stands =
      stands_failed (record old { fed = old.fed + length piece }) (bytes ++ piece) (found ++ []) f some
      (rw (append-nil found) (fails_on f bytes found piece (has_failed old bytes found f some is)));
}

-- the end of a document, by a reader that has failed
pub finished_again : (old : ReaderState) (f : NtFault) (held : List Statement) → old.fault ≡ Some f
    → (bytes : List ℕ) (found : List Statement) → IsAt old bytes found → Gained held held (λ more. IsFaultOf f bytes (found ++ more))
finished_again old f held some bytes found is = ([], sym (append-nil held), is_fault_of f bytes found (has_failed old bytes found f some is))

-- the end of a document whose last line is bad
pub finished_bad : (old : ReaderState) (f : NtFault) (held into : List Statement) → old.fault ≡ None → into ≡ held
    → (0 < length old.rest) × IsLineFault f (old.ended + 1) old.rest
    → (bytes : List ℕ) (found : List Statement) → IsAt old bytes found → Gained held into (λ more. IsFaultOf f bytes (found ++ more))
finished_bad old f held into none kept bad bytes found is = (
  [],
  kept ∙ sym (append-nil held),
  rw (append-nil found) (last_fails f old bytes found (has_read old bytes found none is) bad.0 bad.1),
)

-- the end of a document whose last line is read
pub finished : (old : ReaderState) (held into : List Statement) → old.fault ≡ None → Gained held into (AreRead (last_line old.rest))
    → (bytes : List ℕ) (found : List Statement) → IsAt old bytes found → Gained held into (λ more. IsDocument bytes (found ++ more))
finished old held into none gained bytes found is =
    (gained.0, gained.1, ends_document old bytes found gained.0 (has_read old bytes found none is) gained.2)
