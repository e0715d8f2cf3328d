-- Entries lead from a network to one network.
use Rattle.std.proofs.Common.{◌≡◌, List, [], ◌∷◌, ap, sym, ◌∙◌, subst}
use Rattle.cim_words.specs.declared.statement.Statement.{Statement}
use Rattle.cutover.specs.Judgement.{IsAccepted}
use Rattle.room_words.specs.Differences.{Changes}
use Rattle.room_words.specs.declared.event.Entry.{Entry}
use Rattle.room_words.specs.declared.event.Event.{Event}
use Rattle.room_words.specs.declared.event.Event.TheVariants as event
use Rattle.room_words.specs.declared.overlay.Overlay.{Overlay}
use Rattle.versions.specs.History.{Network, Replays, Takes}

-- an accepted difference leaves one model
abbrev pub LeaveOneModel : Type 0
LeaveOneModel = (m : List Statement) (o : Overlay) (d : Changes) (a b : List Statement) → IsAccepted m o d a → IsAccepted m o d b → a ≡ b

same_network : (a b : Network) → a.model ≡ b.model → a.overlay ≡ b.overlay → a ≡ b
same_network a b models overlays =
    ap (λ (m : List Statement). record { model = m; overlay = a.overlay }) models ∙ ap (λ (o : Overlay). record { model = b.model; overlay = o }) overlays

takes_one : LeaveOneModel → (before a b : Network) (one : Event) → Takes before one a → Takes before one b → a ≡ b
takes_one law before a b (event.Act act) is is' = is.1 ∙ sym is'.1
takes_one law before a b (event.Cutover d) is is' =
    same_network a b (law before.model before.overlay d a.model b.model is.0 is'.0) (is.1 ∙ sym is'.1)

pub replays_one : LeaveOneModel → (log : List Entry) (before a b : Network) → Replays before log a → Replays before log b → a ≡ b
replays_one law [] before a b is is' = is ∙ sym is'
replays_one law (entry ∷ entries) before a b is is' =
    let next : is.0 ≡ is'.0 = takes_one law before is.0 is'.0 entry.event is.1 is'.1 in
    replays_one law entries is'.0 a b (subst (λ (network : Network). Replays network entries a) next is.2) is'.2
