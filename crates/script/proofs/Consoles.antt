-- A line names one console.
use Rattle.std.proofs.Common.{◌≡◌, ℕ, ◌+◌, ◌<◌, ◌≤◌, ◌/◌, ◌%◌, ◌⊎◌, inl, inr, List, [], ◌∷◌, ◌++◌, arith, refl, sym, ap, ◌∙◌, append_assoc}
use Rattle.std.proofs.lemmas.Fmt.{decimal_by_steps}
use Rattle.std.specs.Fmt.{decimal}
use Rattle.desk.specs.Consoles.{IsConsole}
use Rattle.script.specs.Lines.{behind_console}

-- the digits of a number below twenty
abbrev IsSmall : ℕ → List ℕ → Type 0
IsSmall n digits = n < 20 → ((n < 10) × (digits ≡ (48 + n) ∷ [])) ⊎ ((10 ≤ n) × (digits ≡ 49 ∷ (38 + n) ∷ []))

small_digits : (n : ℕ) → n < 20 → IsSmall n (decimal n)
small_digits n below = decimal_by_steps IsSmall one more n (omega (arith, below))
  where
    one : (n : ℕ) → n < 10 → IsSmall n ((48 + n) ∷ [])
    one n few below = inl (few, refl)

    more : (n : ℕ) (ds : List ℕ) → 10 ≤ n → IsSmall (n / 10) ds → IsSmall n (ds ++ ((48 + n % 10) ∷ []))
    more n ds many front below =
        let tens : n / 10 ≡ 1 = omega (arith, many, below) in
        let ones : 48 + n % 10 ≡ 38 + n = omega (arith, many, below) in
        elim (front (omega (arith, below))) [
          | inl x ↦ inr (many, rw (x.1, tens, ones) refl)
          | inr x ↦ absurd (let over = x.0 in omega arith)
        ]

-- how a console stands before a text
pub begins : (console : ℕ) (text : List ℕ) → IsConsole console
    → ((console < 10) × (behind_console console text ≡ 99 ∷ (48 + console) ∷ 32 ∷ text)) ⊎ ((10 ≤ console) × (behind_console console text ≡ 99 ∷ 49 ∷ (38 + console) ∷ 32 ∷ text))
begins console text is = elim (small_digits console (omega (arith, is.1)) (omega (arith, is.1))) [
  | inl x ↦ inl (x.0, ap (λ (digits : List ℕ). 99 ∷ digits ++ 32 ∷ text) x.1)
  | inr x ↦ inr (x.0, ap (λ (digits : List ℕ). 99 ∷ digits ++ 32 ∷ text) x.1)
]

-- a line names one console, and asks one thing of it
pub one_console : (line : List ℕ) (a b : ℕ) (p q : List ℕ) → IsConsole a → IsConsole b → line ≡ behind_console a p → line ≡ behind_console b q → (a ≡ b) × (p ≡ q)
one_console line a b p q is is' x y = elim (begins a p is) [
  | inl m ↦ elim (begins b q is') [
    | inl n ↦
        let same : 99 ∷ (48 + a) ∷ 32 ∷ p ≡ 99 ∷ (48 + b) ∷ 32 ∷ q = sym (x ∙ m.1) ∙ y ∙ n.1 in
        let digits : 48 + a ≡ 48 + b = cc in
        let rest : p ≡ q = cc in
        (omega (arith, digits), rest)
    | inr n ↦
        let same : 99 ∷ (48 + a) ∷ 32 ∷ p ≡ 99 ∷ 49 ∷ (38 + b) ∷ 32 ∷ q = sym (x ∙ m.1) ∙ y ∙ n.1 in
        let space : 32 ≡ 38 + b = cc in
        absurd (let over = n.0 in omega (arith, space))
  ]
  | inr m ↦ elim (begins b q is') [
    | inl n ↦
        let same : 99 ∷ 49 ∷ (38 + a) ∷ 32 ∷ p ≡ 99 ∷ (48 + b) ∷ 32 ∷ q = sym (x ∙ m.1) ∙ y ∙ n.1 in
        let space : 38 + a ≡ 32 = cc in
        absurd (let over = m.0 in omega (arith, space))
    | inr n ↦
        let same : 99 ∷ 49 ∷ (38 + a) ∷ 32 ∷ p ≡ 99 ∷ 49 ∷ (38 + b) ∷ 32 ∷ q = sym (x ∙ m.1) ∙ y ∙ n.1 in
        let digits : 38 + a ≡ 38 + b = cc in
        let rest : p ≡ q = cc in
        (omega (arith, digits), rest)
  ]
]

-- the mark of a console stands before a text
pub behind_mark : (console : ℕ) (text : List ℕ) → behind_console console [] ++ text ≡ behind_console console text
behind_mark console text = ap (λ (l : List ℕ). 99 ∷ l) (append_assoc (decimal console) (32 ∷ []) text)

-- the marks of consoles
pub one_digit : (console n : ℕ) → console ≡ n → 0 < n → n < 10 → 99 ∷ (48 + n) ∷ 32 ∷ [] ≡ behind_console console []
one_digit console n same some few = elim (begins console [] (omega (arith, same, some), omega (arith, same, few))) [
  | inl x ↦ ap (λ (m : ℕ). 99 ∷ (48 + m) ∷ 32 ∷ []) (sym same) ∙ sym x.1
  | inr x ↦ absurd (let over = x.0 in omega (arith, same, few))
]

pub two_digits : (console n : ℕ) → console ≡ n → 10 ≤ n → n ≤ 16 → 99 ∷ 49 ∷ (38 + n) ∷ 32 ∷ [] ≡ behind_console console []
two_digits console n same many few = elim (begins console [] (omega (arith, same, many), omega (arith, same, few))) [
  | inl x ↦ absurd (let under = x.0 in omega (arith, same, many))
  | inr x ↦ ap (λ (m : ℕ). 99 ∷ 49 ∷ (38 + m) ∷ 32 ∷ []) (sym same) ∙ sym x.1
]
