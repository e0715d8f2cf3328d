-- An item is placed or taken away: one of the overlays before and after it has one item more than the other.
use Rattle.std.proofs.Common.{◌≡◌, ◌≢◌, ℕ, inl, inr, List, [], ◌∷◌, ◌++◌, map, Bool, true, false, not, ◌==◌, nat_eq, Some, None, Contains, refl, ap, ap₂, sym, ◌∙◌, append-nil}
use Rattle.std.specs.List.{All, IsDistinct, filter}
use Rattle.std.proofs.lemmas.Bool.{eqb-true}
use Rattle.std.proofs.lemmas.Bool.Decides.{Decides-eqb}
use Rattle.std.proofs.lemmas.List.Elements.{filter-append}
use Rattle.std.proofs.lemmas.Map.Made.{AllPairs-from_IsDistinct}
use Rattle.cim_words.specs.declared.statement.Statement.{Statement}
use Rattle.cim_model.specs.Effects.{without_item}
use Rattle.cim_model.specs.Model.{is_subject}
use Rattle.cim_model.specs.Stands.{Stands}
use Rattle.plain_laws.proofs.Each.{all_from_among}
use Rattle.plain_laws.proofs.Filters.{filter_all_passing}
use Rattle.plain_laws.proofs.Members.{Among, among_either, contains_among}
use Rattle.plain_laws.proofs.Numbers.{equal_itself}
use Rattle.plain_laws.proofs.Options.{find_among, find_none}
use Rattle.plain_laws.proofs.Pairs.{pairs_any, pairs_read}
use Rattle.plain_laws.proofs.Truth.{never_both}
use Rattle.room_words.specs.Items.{item_number}
use Rattle.room_words.specs.Overlay.{item_of}
use Rattle.room_words.specs.declared.items.TempItem.{TempItem}
use Rattle.room_words.specs.declared.overlay.Overlay.{Overlay}
use Rattle.increment.proofs.OneMore.{HasOneMore}

abbrev pub with_item : Overlay → TempItem → Overlay
with_item o one = record { items = o.items ++ one ∷ []; positions = o.positions }

abbrev pub but_item : Overlay → ℕ → Overlay
but_item o n = record { items = without_item n o.items; positions = o.positions }

-- ---- where no item has an identifier, none is taken away

abbrev others : ℕ → TempItem → Bool
others n one = not (item_number one == n)

all_others : (o : Overlay) (n : ℕ) → item_of o n ≡ None → All (λ (one : TempItem). others n one ≡ true) o.items
all_others o n none = all_from_among (λ (one : TempItem). others n one ≡ true) o.items (λ one there. ap not (find_none (λ (one : TempItem). item_number one == n) o.items one none there))

all_left : (o : Overlay) (n : ℕ) → item_of o n ≡ None → without_item n o.items ≡ o.items
all_left o n none = filter_all_passing (others n) o.items (all_others o n none)

pub nothing_removed : (o : Overlay) (n : ℕ) → item_of o n ≡ None → but_item o n ≡ o
nothing_removed o n none i = record { items = all_left o n none i; positions = o.positions }

-- ---- an item is placed whose identifier neither the model nor another item has

pub record IsFresh (m : List Statement) (o : Overlay) (one : TempItem) : Type 0 where
  pub unspoken : is_subject m (item_number one) ≡ false
  pub unheld : item_of o (item_number one) ≡ None

itself_out : (one : TempItem) → filter (others (item_number one)) (one ∷ []) ≡ []
itself_out one = rw (equal_itself (item_number one)) refl

-- taken away again it leaves what there was
placed_and_removed : (o : Overlay) (one : TempItem) → item_of o (item_number one) ≡ None → without_item (item_number one) (o.items ++ one ∷ []) ≡ o.items
placed_and_removed o one none =
    filter-append (others (item_number one)) o.items (one ∷ [])
    ∙ ap₂ (λ (first last : List TempItem). first ++ last) (all_left o (item_number one) none) (itself_out one) ∙ append-nil o.items

not_before : (o : Overlay) (one other : TempItem) → item_of o (item_number one) ≡ None → Among o.items other → item_number other ≡ item_number one → ⊥
not_before o one other none there same =
    never_both (item_number other == item_number one) (ap (λ (n : ℕ). n == item_number one) same ∙ equal_itself (item_number one))
    (find_none (λ (two : TempItem). item_number two == item_number one) o.items other none there)

alone_placed : (o : Overlay) (one other : TempItem) → item_of o (item_number one) ≡ None → Among (o.items ++ one ∷ []) other → item_number other ≡ item_number one → other ≡ one
alone_placed o one other none there same = elim (among_either o.items (one ∷ []) other there) [
  | inl before ↦ absurd (not_before o one other none before same)
  | inr (inl is) ↦ sym is
  | inr (inr nowhere) ↦ absurd nowhere
]

pub placed_more : (m : List Statement) (o : Overlay) (one : TempItem) → IsFresh m o one → HasOneMore m o (with_item o one) one
placed_more m o one fresh = record {
  items = sym (placed_and_removed o one fresh.unheld);
  positions = refl;
  alone = λ other there same. alone_placed o one other fresh.unheld there same;
  unspoken = fresh.unspoken;
}

-- ---- an item is taken away from an overlay that stands

-- of elements with different numbers two with the same number are one
one_of_number : {X : Type 0} (number : X → ℕ) (xs : List X) (x y : X) → IsDistinct nat_eq (map number xs) → Contains xs x → Contains xs y → number x ≡ number y → x ≡ y
one_of_number number xs x y distinct here there same =
    elim (pairs_any (λ a b. number a ≢ number b) xs (pairs_read (λ (a b : ℕ). a ≢ b) number xs (AllPairs-from_IsDistinct Decides-eqb (map number xs) distinct)) x y here there) [
      | inl before ↦ absurd (before same)
      | inr (inl is) ↦ is
      | inr (inr after) ↦ absurd (after (sym same))
    ]

pub removed_more : (m : List Statement) (o : Overlay) (n : ℕ) (one : TempItem) → Stands m o → item_of o n ≡ Some one → HasOneMore m (but_item o n) o one
removed_more m o n one stands is =
    let found = find_among (λ (other : TempItem). item_number other == n) o.items one is in
    let there = contains_among o.items one found.0 in
    let number : item_number one ≡ n = eqb-true (item_number one) n found.1 in
    record {
      items = ap (λ (k : ℕ). without_item k o.items) (sym number);
      positions = refl;
      alone = λ other has same. one_of_number item_number o.items other one stands.identifiers (contains_among o.items other has) there same;
      unspoken = (stands.items one there).identifier;
    }
