-- An event is judged in one way after a history of a base.
use Rattle.std.proofs.Common.{◌≡◌, List, Option, Some, None, refl, ap, sym, ◌∙◌, subst, length}
use Rattle.std.proofs.lemmas.Option.{same_Some}
use Rattle.cim_model.specs.Refusals.{refusal_of}
use Rattle.cim_words.specs.declared.statement.Statement.{Statement}
use Rattle.cutover.specs.Judgement.{IsAccepted, IsRefused}
use Rattle.room_words.specs.Differences.{Changes}
use Rattle.room_words.specs.declared.diff_refusal.DiffRefusal.{DiffRefusal}
use Rattle.room_words.specs.declared.event.Entry.{Entry}
use Rattle.room_words.specs.declared.event.Event.{Event}
use Rattle.room_words.specs.declared.event.Event.TheVariants as event
use Rattle.room_words.specs.declared.overlay.Overlay.{Overlay}
use Rattle.room_words.specs.declared.refused.Why.{Why}
use Rattle.room_words.specs.declared.refused.Why.TheVariants as why
use Rattle.versions.specs.History.{IsFull, IsNow, Judges, JudgesNow, Network, Refuses, Takes, log_bytes}

-- a difference is refused for one reason and not accepted then, and a history makes one network of a base
pub record JudgeLaws : Type 0 where
  pub refused : (m : List Statement) (o : Overlay) (d : Changes) (reason other : DiffRefusal) → IsRefused m o d reason → IsRefused m o d other → reason ≡ other
  pub either : (m : List Statement) (o : Overlay) (d : Changes) (a : List Statement) (reason : DiffRefusal) → IsAccepted m o d a → IsRefused m o d reason → ⊥
  pub network : (base : List Statement) (log : List Entry) (now other : Network) → IsNow base log now → IsNow base log other → now ≡ other

not_both : JudgeLaws → (now next : Network) (one : Event) (reason : Why) → Takes now one next → Refuses now one reason → ⊥
not_both laws now next (event.Act act) (why.Act r) takes refuses =
    let accepted : refusal_of now.model now.overlay act ≡ None = takes.0 in
    let refused : refusal_of now.model now.overlay act ≡ Some r = refuses in
    cc
not_both laws now next (event.Act act) (why.Diff r) takes refuses = refuses
not_both laws now next (event.Act act) (why.Log r) takes refuses = refuses
not_both laws now next (event.Cutover d) (why.Act r) takes refuses = refuses
not_both laws now next (event.Cutover d) (why.Diff r) takes refuses = laws.either now.model now.overlay d next.model r takes.0 refuses
not_both laws now next (event.Cutover d) (why.Log r) takes refuses = refuses

one_reason : JudgeLaws → (now : Network) (one : Event) (reason other : Why) → Refuses now one reason → Refuses now one other → reason ≡ other
one_reason laws now (event.Act act) (why.Act r) (why.Act q) a b = ap why.Act (same_Some r q (sym a ∙ b))
one_reason laws now (event.Act act) (why.Act r) (why.Diff q) a b = absurd b
one_reason laws now (event.Act act) (why.Act r) (why.Log q) a b = absurd b
one_reason laws now (event.Act act) (why.Diff r) other a b = absurd a
one_reason laws now (event.Act act) (why.Log r) other a b = absurd a
one_reason laws now (event.Cutover d) (why.Diff r) (why.Diff q) a b = ap why.Diff (laws.refused now.model now.overlay d r q a b)
one_reason laws now (event.Cutover d) (why.Diff r) (why.Act q) a b = absurd b
one_reason laws now (event.Cutover d) (why.Diff r) (why.Log q) a b = absurd b
one_reason laws now (event.Cutover d) (why.Act r) other a b = absurd a
one_reason laws now (event.Cutover d) (why.Log r) other a b = absurd a

one_now : JudgeLaws → (now : Network) (one : Event) (answer other : Option Why) → JudgesNow now one answer → JudgesNow now one other → answer ≡ other
one_now laws now one None None a b = refl
one_now laws now one None (Some reason) a b = absurd (not_both laws now a.0 one reason a.1 b)
one_now laws now one (Some reason) None a b = absurd (not_both laws now b.0 one reason b.1 a)
one_now laws now one (Some reason) (Some other) a b = ap Some (one_reason laws now one reason other a b)

-- a full history answers that it is full, and another one judges on the network now
module _ (base : List Statement) (log : List Entry) (one : Event) where
  full : (answer : Option Why) → IsFull log one → Judges base log one answer → answer ≡ Some (why.Log (record { entries = length log; bytes = log_bytes log }))
  full None filled is = absurd (is.0 filled)
  full (Some (why.Act r)) filled is = absurd (is.0 filled)
  full (Some (why.Diff r)) filled is = absurd (is.0 filled)
  full (Some (why.Log r)) filled is = ap (λ (f : _). Some (why.Log f)) is.1

  judged : (answer : Option Why) → (IsFull log one → ⊥) → Judges base log one answer → (now : Network) × IsNow base log now × JudgesNow now one answer
  judged None room is = is.1
  judged (Some (why.Act r)) room is = is.1
  judged (Some (why.Diff r)) room is = is.1
  judged (Some (why.Log r)) room is = absurd (room is.0)

  with_room : JudgeLaws → (answer other : Option Why) → (IsFull log one → ⊥) → Judges base log one answer → Judges base log one other → answer ≡ other
  with_room laws answer other room is is' =
      let a = judged answer room is in
      let b = judged other room is' in
      let same : a.0 ≡ b.0 = laws.network base log a.0 b.0 a.1 b.1 in
      one_now laws b.0 one answer other (subst (λ (now : Network). JudgesNow now one answer) same a.2) b.2

  pub one_judgement : JudgeLaws → (answer other : Option Why) → Judges base log one answer → Judges base log one other → answer ≡ other
  one_judgement laws None other is is' = with_room laws None other is.0 is is'
  one_judgement laws (Some (why.Act r)) other is is' = with_room laws (Some (why.Act r)) other is.0 is is'
  one_judgement laws (Some (why.Diff r)) other is is' = with_room laws (Some (why.Diff r)) other is.0 is is'
  one_judgement laws (Some (why.Log r)) other is is' = full (Some (why.Log r)) is.0 is ∙ sym (full other is.0 is')
