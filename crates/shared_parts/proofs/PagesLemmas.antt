-- Items by number in pages that are filled.
use Rattle.std.proofs.Common.{◌≡◌, ℕ, zero, suc, ◌+◌, ◌-◌, ◌*◌, ◌/◌, ◌%◌, ◌<◌, ◌≤◌, List, [], ◌∷◌, ◌++◌, length, get_or, set, refl, ap, sym, ◌∙◌, arith, length-append}
use Rattle.std.proofs.Math.Nat.{mul-suc, div-add-mod, mod-lt}
use Rattle.std.proofs.lemmas.Grind.{flat_map-append}
use Rattle.std.proofs.lemmas.List.{get_or_append_left, get_or-append_right, set-append_left, set-append_right, length-set}
use Rattle.std.specs.List.{flat_map}
use Rattle.shared_parts.specs.Pages.{AreFilled}

module _ {P X : Type 0} (items : P → List X) (full : ℕ) where
  -- An item's page is there.
  place_is_there : (pages : List P) (place index : ℕ) → AreFilled items full pages → full * place + index < length (flat_map items pages) → place < length pages
  place_is_there [] place index filled within = grind arith
  place_is_there (page ∷ pages) zero index filled within = grind arith
  place_is_there (page ∷ pages) (suc place) index filled within =
      let later = place_is_there pages place index filled.2 (grind (arith, length-append, mul-suc full place)) in
      grind arith

  -- The page has the item.
  item_is_there : (pages : List P) (place index : ℕ) (d : P) → AreFilled items full pages → index < full → full * place + index < length (flat_map items pages) → index < length (items (get_or pages place d))
  item_is_there [] place index d filled fits within = grind arith
  item_is_there (page ∷ []) zero index d filled fits within = grind (arith, length-append)
  item_is_there (page ∷ next ∷ pages) zero index d filled fits within = grind arith
  item_is_there (page ∷ pages) (suc place) index d filled fits within =
      item_is_there pages place index d filled.2 fits (grind (arith, length-append, mul-suc full place))

  -- It is the one that the number names in the whole list.
  item_is : (pages : List P) (place index : ℕ) (d : P) (x : X) → AreFilled items full pages → index < full → full * place + index < length (flat_map items pages) → get_or (items (get_or pages place d)) index x ≡ get_or (flat_map items pages) (full * place + index) x
  item_is [] place index d x filled fits within = grind arith
  item_is (page ∷ pages) zero index d x filled fits within =
      let e : index ≡ full * 0 + index = grind arith in
      sym (get_or_append_left (items page) (flat_map items pages) x index (item_is_there (page ∷ pages) 0 index d filled fits within))
      ∙ ap (λ k. get_or (items page ++ flat_map items pages) k x) e
  item_is (page ∷ pages) (suc place) index d x filled fits within =
      let inner : full * place + index < length (flat_map items pages) = grind (arith, length-append, mul-suc full place) in
      let there = place_is_there pages place index filled.2 inner in
      let e : full * suc place + index - full ≡ full * place + index = grind (arith, mul-suc full place) in
      item_is pages place index d x filled.2 fits inner
      ∙ sym (get_or-append_right (items page) (flat_map items pages) full (full * suc place + index) x (filled.1 (grind arith)) (grind (arith, mul-suc full place)) ∙ ap (λ k. get_or (flat_map items pages) k x) e)

  -- To set it in its page is to set it in the list.
  item_set : (pages : List P) (place index : ℕ) (d page' : P) (x : X) → AreFilled items full pages → index < full → full * place + index < length (flat_map items pages) → items page' ≡ set (items (get_or pages place d)) index x → flat_map items (set pages place page') ≡ set (flat_map items pages) (full * place + index) x
  item_set [] place index d page' x filled fits within is = grind arith
  item_set (page ∷ pages) zero index d page' x filled fits within is =
      let e : index ≡ full * 0 + index = grind arith in
      ap (λ xs. xs ++ flat_map items pages) is
      ∙ sym (set-append_left (items page) (flat_map items pages) index x (item_is_there (page ∷ pages) 0 index d filled fits within))
      ∙ ap (λ k. set (items page ++ flat_map items pages) k x) e
  item_set (page ∷ pages) (suc place) index d page' x filled fits within is =
      let inner : full * place + index < length (flat_map items pages) = grind (arith, length-append, mul-suc full place) in
      let there = place_is_there pages place index filled.2 inner in
      let e : full * suc place + index - full ≡ full * place + index = grind (arith, mul-suc full place) in
      ap (λ xs. items page ++ xs) (item_set pages place index d page' x filled.2 fits inner is)
      ∙ sym (set-append_right (items page) (flat_map items pages) full (full * suc place + index) x (filled.1 (grind arith)) (grind (arith, mul-suc full place)) ∙ ap (λ k. items page ++ set (flat_map items pages) k x) e)

  -- Pages stay filled where one gives way to another with as many items.
  stay_filled : (pages : List P) (place : ℕ) (d page' : P) → AreFilled items full pages → length (items page') ≡ length (items (get_or pages place d)) → AreFilled items full (set pages place page')
  stay_filled [] place d page' filled same = tt
  stay_filled (page ∷ pages) zero d page' filled same = (grind arith, λ h. same ∙ filled.1 h, filled.2)
  stay_filled (page ∷ pages) (suc place) d page' filled same =
      (filled.0, λ h. filled.1 (grind (arith, length-set pages place page')), stay_filled pages place d page' filled.2 same)

  -- Filled pages have at most so many items.
  pub filled_most : (pages : List P) → AreFilled items full pages → length (flat_map items pages) ≤ full * length pages
  filled_most [] filled = grind arith
  filled_most (page ∷ pages) filled =
      let later = filled_most pages filled.2 in
      let e = mul-suc full (length pages) in
      grind (arith, length-append)

  -- Where they have just as many, each is full, and one more may come.
  pub filled_more : (pages : List P) (page : P) → AreFilled items full pages → length (flat_map items pages) ≡ full * length pages → length (items page) ≤ full → AreFilled items full (pages ++ page ∷ [])
  filled_more [] page filled all most = (most, λ h. grind arith, tt)
  filled_more (first ∷ pages) page filled all most =
      let later = filled_most pages filled.2 in
      let e = mul-suc full (length pages) in
      let is_full : length (items first) ≡ full = grind (arith, length-append) in
      (filled.0, λ h. is_full, filled_more pages page filled.2 (grind (arith, length-append)) most)

  pub all_more : (pages : List P) (page : P) → length (flat_map items pages) ≡ full * length pages → length (items page) ≡ full → length (flat_map items (pages ++ page ∷ [])) ≡ full * length (pages ++ page ∷ [])
  all_more pages page all one =
      let count : length (pages ++ page ∷ []) ≡ suc (length pages) = grind (arith, length-append) in
      rw (flat_map-append items pages (page ∷ []), count, mul-suc full (length pages)) (grind (arith, length-append))

module _ {P X : Type 0} (items : P → List X) (full : ℕ) (pages : List P) (list : List X) (n i : ℕ) (held : flat_map items pages ≡ list) (named : n ≡ full) (some : 0 < full) (filled : AreFilled items full pages) (within : i < length list) where
  split : full * (i / n) + i % n ≡ i
  split = rw (← named) (div-add-mod i n)

  within_split : full * (i / n) + i % n < length (flat_map items pages)
  within_split = rw (split, held) within

  fits : i % n < full
  fits = rw (← named) (mod-lt i (rw named some))

  -- The page of item i of the list, and the item in it.
  pub place_holds : i / n < length pages
  place_holds = place_is_there items full pages (i / n) (i % n) filled within_split

  pub page_holds : (d : P) → i % n < length (items (get_or pages (i / n) d))
  page_holds d = item_is_there items full pages (i / n) (i % n) d filled fits within_split

  pub item_reads : (d : P) (x : X) → get_or (items (get_or pages (i / n) d)) (i % n) x ≡ get_or list i x
  item_reads d x = item_is items full pages (i / n) (i % n) d x filled fits within_split ∙ rw (split, held) refl

  pub item_sets : (d page' : P) (x : X) → items page' ≡ set (items (get_or pages (i / n) d)) (i % n) x → flat_map items (set pages (i / n) page') ≡ set list i x
  item_sets d page' x is = item_set items full pages (i / n) (i % n) d page' x filled fits within_split is ∙ rw (split, held) refl

  pub pages_stay : (d page' : P) (x : X) → items page' ≡ set (items (get_or pages (i / n) d)) (i % n) x → AreFilled items full (set pages (i / n) page')
  pages_stay d page' x is = stay_filled items full pages (i / n) d page' filled (ap length is ∙ length-set (items (get_or pages (i / n) d)) (i % n) x)
