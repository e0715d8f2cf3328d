-- A step has one reply.
use Rattle.std.proofs.Common.{◌≡◌, ℕ, ◌+◌, List, length, Option, Some, None, refl, sym, ap, subst, ◌∙◌}
use Rattle.std.proofs.lemmas.Option.{same_Some}
use Rattle.desk.specs.Legal.{Judgement}
use Rattle.room_core.specs.Machine.{IsStep, MayLook, RoomState, wanted, with_seen}
use Rattle.room_core.specs.declared.event.CoreEvent.{CoreEvent}
use Rattle.room_core.specs.declared.event.CoreEvent.TheVariants as event
use Rattle.room_core.specs.declared.reply.CoreReply.{CoreReply}
use Rattle.room_core.specs.declared.reply.CoreReply.TheVariants as reply
use Rattle.room_words.specs.declared.event.Entry.{Entry}
use Rattle.room_words.specs.declared.event.Event.{Event}
use Rattle.room_words.specs.declared.receipt.Receipt.{Receipt}
use Rattle.room_words.specs.declared.refused.Refused.{Refused}
use Rattle.room_words.specs.declared.refused.Why.{Why}

-- an event is judged in one way
abbrev pub JudgesOnce : Judgement → Type 0
JudgesOnce judges = (entries : List Entry) (event : Event) (a b : Option Why) → judges entries event a → judges entries event b → a ≡ b

same_receipt : (a b : Receipt) → a.console ≡ b.console → a.serial ≡ b.serial → a.number ≡ b.number → reply.Made a ≡ reply.Made b
same_receipt a b consoles serials numbers =
    ap (λ (n : ℕ). reply.Made (record { console = n; serial = a.serial; number = a.number })) consoles
    ∙ ap (λ (n : ℕ). reply.Made (record { console = b.console; serial = n; number = a.number })) serials
    ∙ ap (λ (n : ℕ). reply.Made (record { console = b.console; serial = b.serial; number = n })) numbers

same_refusal : (a b : Refused) → a.at ≡ b.at → a.why ≡ b.why → reply.Refused a ≡ reply.Refused b
same_refusal a b prefixes reasons =
    ap (λ (n : ℕ). reply.Refused (record { at = n; why = a.why })) prefixes ∙ ap (λ (w : Why). reply.Refused (record { at = b.at; why = w })) reasons

module _ {O : Type 0} (judges : Judgement) (once : JudgesOnce judges) (before after other : RoomState O) where
  pub one_step : (event : CoreEvent) (r s : CoreReply) → IsStep judges before event r after → IsStep judges before event s other → (r ≡ s) × (after ≡ other)
  one_step (event.Submit by submitted) (reply.Made a) (reply.Made b) x y =
      (same_receipt a b (x.receipt_console ∙ sym y.receipt_console) (x.receipt_serial ∙ sym y.receipt_serial) (x.receipt_number ∙ sym y.receipt_number), x.leads ∙ sym y.leads)
  one_step (event.Submit by submitted) (reply.Made a) (reply.Refused b) x y = let same : None ≡ Some b.why = once before.log submitted None (Some b.why) x.accepted y.judged in absurd cc
  one_step (event.Submit by submitted) (reply.Refused a) (reply.Made b) x y = let same : None ≡ Some a.why = once before.log submitted None (Some a.why) y.accepted x.judged in absurd cc
  one_step (event.Submit by submitted) (reply.Refused a) (reply.Refused b) x y =
      (same_refusal a b (x.at_all ∙ sym y.at_all) (same_Some a.why b.why (once before.log submitted (Some a.why) (Some b.why) x.judged y.judged)), x.leads ∙ sym y.leads)
  one_step (event.Look by number) (reply.Looked a) (reply.Looked b) x y =
      let same : a ≡ b = x.0 ∙ sym y.0 in
      (ap (λ (found : ℕ). reply.Looked found) same, x.2 ∙ ap (λ (found : ℕ). with_seen before by found) same ∙ sym y.2)
  one_step (event.Look by number) (reply.Looked a) reply.NoPrefix x y = absurd (y.0 (subst (λ (found : ℕ). MayLook before by found) x.0 x.1))
  one_step (event.Look by number) reply.NoPrefix (reply.Looked b) x y = absurd (x.0 (subst (λ (found : ℕ). MayLook before by found) y.0 y.1))
  one_step (event.Look by number) reply.NoPrefix reply.NoPrefix x y = (refl, x.1 ∙ sym y.1)
  one_step (event.Ask by) (reply.Shown a) (reply.Shown b) x y = (ap (λ (seen : ℕ). reply.Shown seen) (x.0 ∙ sym y.0), x.1 ∙ sym y.1)
  one_step (event.Submit by submitted) (reply.Looked a) s x y = absurd x
  one_step (event.Submit by submitted) reply.NoPrefix s x y = absurd x
  one_step (event.Submit by submitted) (reply.Shown a) s x y = absurd x
  one_step (event.Submit by submitted) (reply.Made a) (reply.Looked b) x y = absurd y
  one_step (event.Submit by submitted) (reply.Made a) reply.NoPrefix x y = absurd y
  one_step (event.Submit by submitted) (reply.Made a) (reply.Shown b) x y = absurd y
  one_step (event.Submit by submitted) (reply.Refused a) (reply.Looked b) x y = absurd y
  one_step (event.Submit by submitted) (reply.Refused a) reply.NoPrefix x y = absurd y
  one_step (event.Submit by submitted) (reply.Refused a) (reply.Shown b) x y = absurd y
  one_step (event.Look by number) (reply.Made a) s x y = absurd x
  one_step (event.Look by number) (reply.Refused a) s x y = absurd x
  one_step (event.Look by number) (reply.Shown a) s x y = absurd x
  one_step (event.Look by number) (reply.Looked a) (reply.Made b) x y = absurd y
  one_step (event.Look by number) (reply.Looked a) (reply.Refused b) x y = absurd y
  one_step (event.Look by number) (reply.Looked a) (reply.Shown b) x y = absurd y
  one_step (event.Look by number) reply.NoPrefix (reply.Made b) x y = absurd y
  one_step (event.Look by number) reply.NoPrefix (reply.Refused b) x y = absurd y
  one_step (event.Look by number) reply.NoPrefix (reply.Shown b) x y = absurd y
  one_step (event.Ask by) (reply.Made a) s x y = absurd x
  one_step (event.Ask by) (reply.Refused a) s x y = absurd x
  one_step (event.Ask by) (reply.Looked a) s x y = absurd x
  one_step (event.Ask by) reply.NoPrefix s x y = absurd x
  one_step (event.Ask by) (reply.Shown a) (reply.Made b) x y = absurd y
  one_step (event.Ask by) (reply.Shown a) (reply.Refused b) x y = absurd y
  one_step (event.Ask by) (reply.Shown a) (reply.Looked b) x y = absurd y
  one_step (event.Ask by) (reply.Shown a) reply.NoPrefix x y = absurd y
