-- A text that is told in pieces: what was sent, and what is kept back of it.
use Rattle.std.proofs.Common.{◌≡◌, ℕ, List, [], ◌++◌, Result, Ok, Err, IfErr, sym, ap, subst, ◌∙◌, append_assoc}
use Rattle.std.specs.Result.{IsErrAnd}
use Rattle.history_writer.specs.Sending.{Breaks, OutputState, Sends, StopsAt}
use Rattle.history_writer.specs.declared.fault.OutFault.{OutFault}
use Rattle.history_writer.specs.declared.fault.OutFault.TheVariants as fault
use Rattle.history_writer.proofs.Sending.{breaks_after, sends_more, sends_none}

-- what was sent and what is held back make up the text
abbrev pub HoldsBack : OutputState → OutputState → List ℕ → List ℕ → Type 0
HoldsBack before now text held = (sent : List ℕ) × (sent ++ held ≡ text) × Sends before now sent

pub holds_all : (before : OutputState) (text held : List ℕ) → held ≡ text → HoldsBack before before text held
holds_all before text held all = ([], all, sends_none before)

-- a fault after a text that was sent is one after the whole
pub stops_after : (bad : OutFault) (before mid after : OutputState) (a b : List ℕ) → Sends before mid a → StopsAt bad mid after b → StopsAt bad before after (a ++ b)
stops_after fault.WriteFault before mid after a b first next = breaks_after before mid after a b first next
stops_after fault.NoMemory before mid after a b first next = sends_more before mid after a b first next

module _ {before now : OutputState} {text held : List ℕ} (holds : HoldsBack before now text held) where
  pub holds_more : (more new whole : List ℕ) → new ≡ held ++ more → whole ≡ text ++ more → HoldsBack before now whole new
  holds_more more new whole appended is =
      (holds.0, ap (λ (l : List ℕ). holds.0 ++ l) appended ∙ sym (append_assoc holds.0 held more) ∙ ap (λ (l : List ℕ). l ++ more) holds.1 ∙ sym is, holds.2)

  pub holds_same : (whole : List ℕ) → text ≡ whole → HoldsBack before now whole held
  holds_same whole is = (holds.0, holds.1 ∙ is, holds.2)

  pub holds_less : (after : OutputState) (left : List ℕ) → (sent : List ℕ) × (held ≡ sent ++ left) × Sends now after sent → HoldsBack before after text left
  holds_less after left (sent, is, sends) =
      (holds.0 ++ sent, append_assoc holds.0 sent left ∙ ap (λ (l : List ℕ). holds.0 ++ l) (sym is) ∙ holds.1, sends_more before now after holds.0 sent holds.2 sends)

  pub holds_none : (after : OutputState) → Sends now after held → Sends before after text
  holds_none after sends = subst (λ (l : List ℕ). Sends before after l) holds.1 (sends_more before now after holds.0 held holds.2 sends)

  pub holds_broken : (after : OutputState) → Breaks now after held → Breaks before after text
  holds_broken after breaks = subst (λ (l : List ℕ). Breaks before after l) holds.1 (breaks_after before now after holds.0 held holds.2 breaks)

  -- what was sent is a front of whatever the text is a front of
  pub holds_front : (whole : List ℕ) → (more : List ℕ) × (text ++ more ≡ whole) → (front more : List ℕ) × (front ++ more ≡ whole) × Sends before now front
  holds_front whole (more, is) = (holds.0, held ++ more, sym (append_assoc holds.0 held more) ∙ ap (λ (l : List ℕ). l ++ more) holds.1 ∙ is, holds.2)

-- a fault that is handed on, with what holds where it comes
pub stopped : {A : Type 0} (P : OutFault → Type 0) (r : Result A OutFault) (kind : OutFault) → IsErrAnd r (λ bad. bad ≡ kind) → P kind → IfErr r P
stopped P (Ok x) kind is p = absurd is
stopped P (Err bad) kind is p = subst P (sym is) p
