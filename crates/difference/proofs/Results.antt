-- What a call gives that makes a set, for another sentence on what is in the set; and the first of a list that is not in a set.
use Rattle.std.proofs.Common.{◌≡◌, ◌↔◌, inl, inr, ◌+◌, ◌<◌, ℕ, List, [], ◌∷◌, ◌++◌, length, take, drop, get_or, Contains, Result, Ok, Err, ap, sym, subst, ◌∙◌, arith}
use Rattle.std.specs.List.{AllWithin, HoldsAt}
use Rattle.std.proofs.lemmas.List.{drop_more, get_or-take, length-take, take-append-drop}
use Rattle.cim_words.specs.declared.statement.Statement.{Statement}
use Rattle.room_words.specs.Differences.{Changes}
use Rattle.statement_set.specs.Gives.{Gives}
use Rattle.statement_set.specs.Set.{IsInEither, IsInFirstAlone, IsSetOf}
use Rattle.statement_set.specs.declared.refusal.SetRefusal.{SetRefusal}
use Rattle.statement_set.specs.declared.refusal.SetRefusal.TheVariants.{NoMemory, TooMany}
use Rattle.difference.specs.Result.{IsInResult, IsMissing}

set_as : (these those : Statement → Type 0) → ((s : Statement) → these s ↔ those s) → (set : List Statement) → IsSetOf these set → IsSetOf those set
set_as these those same set is = record {
  ordered = is.ordered;
  members = λ s. ((λ h. (same s).0 ((is.members s).0 h)), (λ h. (is.members s).1 ((same s).1 h)));
}

given_as : (these those : Statement → Type 0) → ((s : Statement) → these s ↔ those s) → (result : Result (List Statement) SetRefusal) → Gives these result → Gives those result
given_as these those same (Ok set) (is, small) = (set_as these those same set is, small)
given_as these those same (Err (TooMany count)) (set, is, long, above) = (set, set_as these those same set is, long, above)
given_as these those same (Err NoMemory) free = free

-- the set without the reverse statements, and with the forward statements
pub given_in_turn : (m : List Statement) (d : Changes) (kept : List Statement) → IsSetOf (IsInFirstAlone m d.rev) kept → (result : Result (List Statement) SetRefusal) → Gives (IsInEither kept d.fwd) result → Gives (IsInResult m d) result
given_in_turn m d kept is = given_as (IsInEither kept d.fwd) (IsInResult m d) (λ s. (there s, back s))
  where
    there : (s : Statement) → IsInEither kept d.fwd s → IsInResult m d s
    there s (inl stays) = inl ((is.members s).0 stays)
    there s (inr comes) = inr comes

    back : (s : Statement) → IsInResult m d s → IsInEither kept d.fwd s
    back s (inl stays) = inl ((is.members s).1 stays)
    back s (inr comes) = inr comes

-- the first statement that is not in a set, at its place in a list
pub missing_at : (set listed : List Statement) (place : ℕ) → place < length listed → HoldsAt (λ s. Contains set s → ⊥) listed place → AllWithin (Contains set) listed 0 place → IsMissing set listed (place + 1)
missing_at set [] place within out before = absurd (omega arith)
missing_at set (s ∷ rest) place within out before = record {
  statement = get_or (s ∷ rest) place s;
  first = record {
    before = take place (s ∷ rest);
    after = drop (place + 1) (s ∷ rest);
    listed = sym (take-append-drop place (s ∷ rest)) ∙ ap (λ (back : List Statement). take place (s ∷ rest) ++ back) (drop_more (s ∷ rest) place s within);
    have = λ t (k, below, is).
        let inside : k < place = omega (arith, length-take place (s ∷ rest)) in
        subst (Contains set) (sym (get_or-take place (s ∷ rest) k t inside) ∙ is) (before k t (omega arith) inside);
    without = out s;
  };
  counted = omega (arith, length-take place (s ∷ rest));
}

-- a refusal for want of memory, of whatever set
pub given_for_memory : (wanted : Statement → Type 0) (refusal : SetRefusal) → refusal ≡ NoMemory → Gives wanted (Err refusal)
given_for_memory wanted refusal is = subst (λ (why : SetRefusal). Gives wanted (Err why)) (sym is) tt
