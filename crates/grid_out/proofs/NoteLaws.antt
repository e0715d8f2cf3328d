-- How the texts that come by several calls go together.
use Rattle.std.proofs.Common.{ℕ, List, [], ◌++◌, Option, Some, None, refl, sym, ap, subst, ◌∙◌, append_assoc, append-nil}
use Rattle.grid_out.specs.Notes.{Grows}

-- where nothing is called, no text comes
pub grows_nothing : (told : Option (List (List ℕ))) → Grows told told []
grows_nothing None = tt
grows_nothing (Some all) = (all, refl, sym (append-nil all))

-- of two calls one after the other come the texts of the first and then those of the second
pub grows_both : (old between new : Option (List (List ℕ))) (first second : List (List ℕ)) →
    Grows old between first → Grows between new second → Grows old new (first ++ second)
grows_both old between None first second a b = tt
grows_both old between (Some all) first second a b =
    let (middle, told, then) = b in
    let (before, was, first_came) = subst (λ o. Grows old o first) told a in
    (before, was, then ∙ ap (λ l. l ++ second) first_came ∙ append_assoc before first second)
