-- Laws of walks along links, for any points, links and starts.
use Rattle.std.proofs.Common.{ℕ, List, [], ◌∷◌, ◌++◌, refl, sym, subst}
use Rattle.cim_model.specs.Reach.{IsPoint, IsPointReached, IsStart, Leads, Linked, Reaches, Wiring}
use Rattle.cim_words.specs.declared.phases.PhaseSet.{PhaseSet}
use Rattle.room_words.specs.declared.term.Point.{Point}

-- a list that leads to b leads one link further
leads_step : {V : Type 0} (link : V → V → Type 0) (a : V) (cs : List V) (b c : V) → Leads link a cs b → link b c → Leads link a (cs ++ c ∷ []) c
leads_step link a [] b c along next = (subst (λ x. link x c) (sym along) next, refl)
leads_step link a (d ∷ ds) b c along next = (along.0, leads_step link d ds b c along.1 next)

-- each start is reached, and what is linked from what is reached
pub reaches_start : {V : Type 0} (link : V → V → Type 0) (start : V → Type 0) (a : V) → start a → Reaches link start a
reaches_start link start a begins = (a, begins, [], refl)

pub reaches_step : {V : Type 0} (link : V → V → Type 0) (start : V → Type 0) (b c : V) → Reaches link start b → link b c → Reaches link start c
reaches_step link start b c r next = (r.0, r.1, r.2 ++ c ∷ [], leads_step link r.0 r.2 b c r.3 next)

-- what holds at each start, and is carried by each link, holds wherever a walk comes
leads_induction : {V : Type 0} (link : V → V → Type 0) (P : V → Type 0) → ((b c : V) → P b → link b c → P c) → (a : V) (cs : List V) (v : V) → P a → Leads link a cs v → P v
leads_induction link P carried a [] v at_a along = subst P along at_a
leads_induction link P carried a (c ∷ cs) v at_a along = leads_induction link P carried c cs v (carried a c at_a along.0) along.1

pub reaches_induction : {V : Type 0} (link : V → V → Type 0) (start : V → Type 0) (P : V → Type 0) → ((a : V) → start a → P a) → ((b c : V) → P b → link b c → P c) → (v : V)
    → Reaches link start v → P v
reaches_induction link start P begins carried v r = leads_induction link P carried r.0 r.2 v (begins r.0 r.1) r.3

-- where points picture points of another kind, so that starts picture starts and each link goes with a link, what is reached pictures what is reached
pub reaches_pictured : {V W : Type 0} (Pictures : V → W → Type 0) (link : V → V → Type 0) (start : V → Type 0) (link' : W → W → Type 0) (start' : W → Type 0)
    → ((a : V) → start a → (b : W) × Pictures a b × start' b) → ((a c : V) (b : W) → Pictures a b → link a c → (d : W) × Pictures c d × link' b d) → (v : V) → Reaches link start v
    → (w : W) × Pictures v w × Reaches link' start' w
reaches_pictured {W = W} Pictures link start link' start' starts links =
    reaches_induction link start (λ v. (w : W) × Pictures v w × Reaches link' start' w)
    (λ a begins.
    let to = starts a begins in
    (to.0, to.1, reaches_start link' start' to.0 to.2))
    (λ b c so_far next.
    let to = links b c so_far.0 so_far.1 next in
    (to.0, to.1, reaches_step link' start' so_far.0 to.0 so_far.2 to.2))

-- what is reached is a point
pub reached_is_point : (w : Wiring) (x : ℕ) (asked : PhaseSet) (a : Point) → IsPointReached w x asked a → IsPoint w a
reached_is_point w x asked = reaches_induction (Linked w) (IsStart w x asked) (IsPoint w) (λ a start. start.point) (λ b c point link. link.to)
