-- Terms after a gap: what begins there, and that there is one.
use Rattle.std.proofs.Common.{◌≡◌, ℕ, List, ◌∷◌, ◌++◌, false, length, Option, Some, None, IfSome, IfNone, IsSomeAnd, Bor, sym, ap, ◌∙◌, codes}
use Rattle.cim_words.specs.Written.{quote}
use Rattle.nt_text.specs.Grammar.{is_blank, HasIri, HasCharacters}
use Rattle.nt_text.specs.Parts.{Spells}
use Rattle.nt_text.specs.Quotes.{closing_at}
use Rattle.nt_text.specs.Run.{behind_run}
use Rattle.nt_text.specs.Spelling.{closing}
use Rattle.nt_text.specs.declared.spelling.Coding.TheVariants.{Iri, Literal}
use Rattle.nt_text.proofs.Runs.{behind_run-append, run_of}
use Rattle.nt_text.proofs.Insides.{one_split, one_place}

-- an IRI begins with its mark after the gap
pub iri_begins : (bytes text rest : List ℕ) (iri : HasIri bytes text rest) → behind_run is_blank bytes ≡ codes "<" ++ (iri.inside ++ closing ∷ rest)
iri_begins bytes text rest iri = ap (behind_run is_blank) iri.layout ∙ behind_run-append is_blank iri.gap (codes "<" ++ (iri.inside ++ closing ∷ rest)) iri.blank

pub iri_from : (bytes inside text rest : List ℕ) → behind_run is_blank bytes ≡ codes "<" ++ (inside ++ closing ∷ rest) → Spells Iri inside text → HasIri bytes text rest
iri_from bytes inside text rest begins spells =
    let gap = run_of is_blank bytes in
    record { gap = gap.run; inside = inside; blank = gap.passes; spells = spells; layout = gap.layout ∙ ap (λ (l : List ℕ). gap.run ++ l) begins }

-- a literal begins with a quote after the gap
pub literal_begins : (bytes text rest : List ℕ) (literal : HasCharacters bytes text rest) → behind_run is_blank bytes ≡ codes "\"" ++ (literal.inside ++ quote ∷ rest)
literal_begins bytes text rest literal =
    ap (behind_run is_blank) literal.layout ∙ behind_run-append is_blank literal.gap (codes "\"" ++ (literal.inside ++ quote ∷ rest)) literal.blank

pub literal_from : (bytes inside text rest : List ℕ) → behind_run is_blank bytes ≡ codes "\"" ++ (inside ++ quote ∷ rest) → Spells Literal inside text → HasCharacters bytes text rest
literal_from bytes inside text rest begins spells =
    let gap = run_of is_blank bytes in
    record { gap = gap.run; inside = inside; blank = gap.passes; spells = spells; layout = gap.layout ∙ ap (λ (l : List ℕ). gap.run ++ l) begins }

-- a literal's characters are cut off at one place
pub one_literal_cut : (bytes a b x y : List ℕ) → bytes ≡ a ++ quote ∷ x → bytes ≡ b ++ quote ∷ y → closing_at false bytes ≡ Some (length a)
    → closing_at false bytes ≡ Some (length b) → (a ≡ b) × (x ≡ y)
one_literal_cut bytes a b x y same same' at at' =
    let split = one_split a b (quote ∷ x) (quote ∷ y) (one_place bytes (length a) (length b) at at') (sym same ∙ same') in
    let tails = split.1 in
    (split.0, cc)

pub literal_cut : (o : Option (Bor (List ℕ) × Bor (List ℕ))) (bytes inside rest : List ℕ) → bytes ≡ inside ++ quote ∷ rest
    → closing_at false (inside ++ quote ∷ rest) ≡ Some (length inside) → IfSome o (λ x. bytes ≡ x.0.now ++ quote ∷ x.1.now)
    → IfSome o (λ x. closing_at false bytes ≡ Some (length x.0.now)) → IfNone o (closing_at false bytes ≡ None)
    → IsSomeAnd o (λ x. (x.0.now ≡ inside) × (x.1.now ≡ rest))
literal_cut None bytes inside rest same closes found first none = absurd (let no : None ≡ Some (length inside) = sym none ∙ ap (closing_at false) same ∙ closes in cc)
literal_cut (Some x) bytes inside rest same closes found first none =
    one_literal_cut bytes x.0.now inside x.1.now rest found same first (ap (closing_at false) same ∙ closes)
