-- The slots of the consoles lie apart.
use Rattle.std.proofs.Common.{◌≡◌, ◌≢◌, ℕ, ◌+◌, ◌*◌, ◌<◌, List, set, ◌∙◌, arith}
use lib.ListN.{get_elem?}
use Rattle.atomic_table.proofs.Lists.{set_else}

pub apart_slots : (c d k f : ℕ) → d ≢ c → k < 3 → f < 3 → 3 * d + k ≢ 3 * c + f
apart_slots c d k f ne k3 f3 e = ne (omega arith)

-- a change of two slots of a console leaves those of another
pub two_slots : {A : Type 0} (homes : List A) (c d k f m : ℕ) (a b : A) → d ≢ c → k < 3 → f < 3 → m < 3
    → get_elem? (set (set homes (3 * c + f) a) (3 * c + m) b) (3 * d + k) ≡ get_elem? homes (3 * d + k)
two_slots homes c d k f m a b ne k3 f3 m3 =
    set_else (set homes (3 * c + f) a) (3 * c + m) (3 * d + k) b (apart_slots c d k m ne k3 m3) ∙ set_else homes (3 * c + f) (3 * d + k) a (apart_slots c d k f ne k3 f3)

pub one_slot : {A : Type 0} (homes : List A) (c d k m : ℕ) (b : A) → d ≢ c → k < 3 → m < 3 → get_elem? (set homes (3 * c + m) b) (3 * d + k) ≡ get_elem? homes (3 * d + k)
one_slot homes c d k m b ne k3 m3 = set_else homes (3 * c + m) (3 * d + k) b (apart_slots c d k m ne k3 m3)
