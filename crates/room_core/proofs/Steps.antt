-- What a console has seen never falls.
use Rattle.std.proofs.Common.{◌≡◌, ℕ, ◌+◌, ◌-◌, ◌≤◌, List, [], ◌∷◌, ◌++◌, length, refl, sym, ap, subst, arith, Result, Ok, Err, IfOk}
use Rattle.std.specs.Result.{OnErr}
use Rattle.desk.specs.Consoles.{IsConsole}
use Rattle.desk.specs.Legal.{Judgement}
use Rattle.room_core.proofs.Views.{set_rises}
use Rattle.room_core.specs.Machine.{RoomState, IsStep, Runs, seen_by}
use Rattle.room_core.specs.Views.{IsEvent}
use Rattle.room_core.specs.declared.event.CoreEvent.{CoreEvent}
use Rattle.room_core.specs.declared.event.CoreEvent.TheVariants as event
use Rattle.room_core.specs.declared.reply.CoreReply.{CoreReply}
use Rattle.room_core.specs.declared.reply.CoreReply.TheVariants as reply

module _ {O : Type 0} (judges : Judgement) (before after : RoomState O) (within : (console : ℕ) → IsConsole console → seen_by before console ≤ length before.log) where
  pub rises : (event : CoreEvent) (reply : CoreReply) → IsEvent event → IsStep judges before event reply after → (console : ℕ) → IsConsole console → seen_by before console ≤ seen_by after console
  rises (event.Submit by submitted) (reply.Made receipt) is step console here =
      let all : seen_by before by ≤ length before.log + 1 = let few = within by is in omega arith in
      subst (λ (r : RoomState O). seen_by before console ≤ seen_by r console) (sym step.leads) (set_rises before.seen (by - 1) (console - 1) (length before.log + 1) all)
  rises (event.Submit by submitted) (reply.Refused refused) is step console here =
      subst (λ (r : RoomState O). seen_by before console ≤ seen_by r console) (sym step.leads) (set_rises before.seen (by - 1) (console - 1) (length before.log) (within by is))
  rises (event.Look by number) (reply.Looked found) is step console here =
      subst (λ (r : RoomState O). seen_by before console ≤ seen_by r console) (sym step.2) (set_rises before.seen (by - 1) (console - 1) found step.1.0)
  rises (event.Look by number) reply.NoPrefix is step console here = subst (λ (r : RoomState O). seen_by before console ≤ seen_by r console) (sym step.1) (omega arith)
  rises (event.Ask by) (reply.Shown seen) is step console here = subst (λ (r : RoomState O). seen_by before console ≤ seen_by r console) (sym step.1) (omega arith)
  rises (event.Submit by submitted) (reply.Looked found) is step console here = absurd step
  rises (event.Submit by submitted) reply.NoPrefix is step console here = absurd step
  rises (event.Submit by submitted) (reply.Shown seen) is step console here = absurd step
  rises (event.Look by number) (reply.Made receipt) is step console here = absurd step
  rises (event.Look by number) (reply.Refused refused) is step console here = absurd step
  rises (event.Look by number) (reply.Shown seen) is step console here = absurd step
  rises (event.Ask by) (reply.Made receipt) is step console here = absurd step
  rises (event.Ask by) (reply.Refused refused) is step console here = absurd step
  rises (event.Ask by) (reply.Looked found) is step console here = absurd step
  rises (event.Ask by) reply.NoPrefix is step console here = absurd step

  pub rises_so : {E : Type 0} (event : CoreEvent) (result : Result CoreReply E) → IsEvent event → IfOk result (λ reply. IsStep judges before event reply after) → OnErr result (after ≡ before)
      → (console : ℕ) → IsConsole console → seen_by before console ≤ seen_by after console
  rises_so event (Ok reply) is ok err console here = rises event reply is ok console here
  rises_so event (Err e) is ok err console here = subst (λ (r : RoomState O). seen_by before console ≤ seen_by r console) (sym err) (omega arith)

-- a step leaves where the history began
pub origin_kept : {O : Type 0} (judges : Judgement) (before after : RoomState O) (event : CoreEvent) (reply : CoreReply) → IsStep judges before event reply after → after.origin ≡ before.origin
origin_kept judges before after (event.Submit by submitted) (reply.Made receipt) step = ap (λ (r : RoomState _). r.origin) step.leads
origin_kept judges before after (event.Submit by submitted) (reply.Refused refused) step = ap (λ (r : RoomState _). r.origin) step.leads
origin_kept judges before after (event.Look by number) (reply.Looked found) step = ap (λ (r : RoomState _). r.origin) step.2
origin_kept judges before after (event.Look by number) reply.NoPrefix step = ap (λ (r : RoomState _). r.origin) step.1
origin_kept judges before after (event.Ask by) (reply.Shown seen) step = ap (λ (r : RoomState _). r.origin) step.1
origin_kept judges before after (event.Submit by submitted) (reply.Looked found) step = absurd step
origin_kept judges before after (event.Submit by submitted) reply.NoPrefix step = absurd step
origin_kept judges before after (event.Submit by submitted) (reply.Shown seen) step = absurd step
origin_kept judges before after (event.Look by number) (reply.Made receipt) step = absurd step
origin_kept judges before after (event.Look by number) (reply.Refused refused) step = absurd step
origin_kept judges before after (event.Look by number) (reply.Shown seen) step = absurd step
origin_kept judges before after (event.Ask by) (reply.Made receipt) step = absurd step
origin_kept judges before after (event.Ask by) (reply.Refused refused) step = absurd step
origin_kept judges before after (event.Ask by) (reply.Looked found) step = absurd step
origin_kept judges before after (event.Ask by) reply.NoPrefix step = absurd step

-- a run goes on by one more step
pub one_more : {O : Type 0} (judges : Judgement) (r s t : RoomState O) (events : List CoreEvent) (replies : List CoreReply) (event : CoreEvent) (reply : CoreReply)
    → Runs judges r events replies s → IsStep judges s event reply t → Runs judges r (events ++ event ∷ []) (replies ++ reply ∷ []) t
one_more {O} judges r s t [] [] event reply run step = (t, subst (λ (from : RoomState O). IsStep judges from event reply t) run step, refl)
one_more judges r s t (e ∷ events) (a ∷ replies) event reply run step = (run.0, run.1, one_more judges run.0 s t events replies event reply run.2 step)
one_more judges r s t [] (a ∷ replies) event reply run step = absurd run
one_more judges r s t (e ∷ events) [] event reply run step = absurd run

-- what holds after an error holds anyway
pub on_err : {T E X : Type 0} (r : Result T E) → X → OnErr r X
on_err (Ok t) x = tt
on_err (Err e) x = x
