use Rattle.std.proofs.Common.{◌<◌, ℕ, Contains, length, rules}
use Rattle.std.specs.List.{AllWithin, HoldsAt}
use Rattle.std.proofs.lemmas.Iterator.{IsFirst-from_position, YieldsList-from_slice}
use Rattle.std.proofs.lemmas.Option.{MatchOption-at_some}
use Rattle.cim_words.specs.declared.statement.Statement.{Statement}
use Rattle.difference.proofs.Results.{missing_at}
use Rattle.difference.proofs.result.first_missing.Goals as goal

pub returns : goal.returns
returns c =
    let set = c.args.set.now in
    let listed = c.args.list.now in
    let found = IsFirst-from_position c.position.new.self _ c.position.result (λ (s : Statement). Contains set s → ⊥) (Contains set) c.position.ensures.ran (YieldsList-from_slice listed cc) (λ x q k. search rules) (λ x q k. search rules) in
    let at = MatchOption-at_some (AllWithin (Contains set) listed 0 (length listed)) (λ (i : ℕ). (i < length listed) × HoldsAt (λ (s : Statement). Contains set s → ⊥) listed i × AllWithin (Contains set) listed 0 i) c.in_ok-place.place (c.in_ok-place.was {u = tt}) found in
    missing_at set listed c.in_ok-place.place at.0 at.1 at.2
