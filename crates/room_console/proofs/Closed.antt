-- What holds of each post under the current version holds of each console under the last one.
use Rattle.std.proofs.Common.{◌≡◌, List, All, subst, sym}

pub all_moved : {V S : Type 0} (P : V → S → Type 0) (last current : V) (posts consoles : List S) → last ≡ current → posts ≡ consoles → All (P current) posts → All (P last) consoles
all_moved {V} P last current posts consoles same are each = subst (All (P last)) are (subst (λ (v : V). All (P v) posts) (sym same) each)
