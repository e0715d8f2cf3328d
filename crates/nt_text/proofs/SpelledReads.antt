-- A spelled text that is read piece by piece.
use Rattle.std.proofs.Common.{◌≡◌, ◌≢◌, ℕ, ◌<◌, ◌≤◌, List, [], ◌∷◌, ◌++◌, Bool, true, false, ◌==◌, length, refl, sym, ap, ◌∙◌, arith, append_assoc, subst, length-append}
use Rattle.std.proofs.lemmas.Bool.{eqb-true}
use Rattle.std.proofs.lemmas.Bool.Decides.{nat_tests}
use Rattle.std.proofs.lemmas.List.{append-nil}
use Rattle.std.proofs.lemmas.Str.{length-encode, len_utf8_bounds}
use Rattle.std.specs.Char.{encode_utf8}
use Rattle.std.specs.List.{flat_map, list_all}
use Rattle.std.specs.Str.{IsUtf8}
use Rattle.cim_words.specs.Written.{backslash}
use Rattle.nt_text.specs.Cut.{IsFreeOf}
use Rattle.nt_text.specs.Parts.{Part, raw, named, numbered, is_raw, IsPart, part_spelling, part_text, Spells}
use Rattle.nt_text.specs.declared.spelling.Coding.{Coding}
use Rattle.nt_text.proofs.SpelledTexts.{Spells-append, Spells-part, Spells-raw, StopsAt, raw_front, first_part}

-- where no cut is found there is no mark
not_cut_at : (mark byte : ℕ) (bytes : List ℕ) (is : Bool) → (byte == mark) ≡ is → ((front rest : List ℕ) → IsFreeOf mark front → byte ∷ bytes ≡ front ++ mark ∷ rest → ⊥)
    → (byte ≢ mark → IsFreeOf mark bytes) → IsFreeOf mark (byte ∷ bytes)
not_cut_at mark byte bytes true same none more =
    let is : byte ≡ mark = eqb-true byte mark same in absurd (none [] bytes tt (ap (λ (b : ℕ). b ∷ bytes) is))
not_cut_at mark byte bytes false differs none more =
    let other : byte ≢ mark = grind (arith, nat_tests) in (other, more other)

pub not_cut : (mark : ℕ) (bytes : List ℕ) → ((front rest : List ℕ) → IsFreeOf mark front → bytes ≡ front ++ mark ∷ rest → ⊥) → IsFreeOf mark bytes
not_cut mark [] none = tt
not_cut mark (byte ∷ bytes) none =
    not_cut_at mark byte bytes (byte == mark) refl none
    (λ other. not_cut mark bytes (λ front rest free same. none (byte ∷ front) rest (other, free) (ap (λ (l : List ℕ). byte ∷ l) same)))

-- nothing is spelled by no bytes alone
pub some_spelling : (coding : Coding) (part : Part) (behind : List ℕ) → [] ≡ part_spelling part ++ behind → ⊥
some_spelling coding (raw c) behind same =
    let long : 1 ≤ length (encode_utf8 c) = omega (arith, length-encode c, len_utf8_bounds c) in
    none (encode_utf8 c) behind long same
  where
    none : (a b : List ℕ) → 1 ≤ length a → [] ≡ a ++ b → ⊥
    none [] b some e = omega arith
    none (x ∷ a) b some e = absurd cc
some_spelling coding (named letter) behind same = absurd cc
some_spelling coding (numbered mark digits) behind same = absurd cc

nothing_at : (coding : Coding) (text : List ℕ) (parts : List Part) → [] ≡ flat_map part_spelling parts → text ≡ flat_map part_text parts → text ≡ []
nothing_at coding text [] same same' = same'
nothing_at coding text (part ∷ parts) same same' = absurd (some_spelling coding part (flat_map part_spelling parts) same)

pub nothing_spelled : (coding : Coding) (text : List ℕ) → Spells coding [] text → text ≡ []
nothing_spelled coding text spells = nothing_at coding text spells.parts spells.spelling spells.characters

-- a part of a spelled text is read, and the rest is not yet
pub record IsReadTo (coding : Coding) (spelled done rest : List ℕ) : Type 0 where
  pub found : (text : List ℕ) → Spells coding rest text → Spells coding spelled (done ++ text)
  pub only : (text : List ℕ) → Spells coding spelled text → (more : List ℕ) × (text ≡ done ++ more) × Spells coding rest more

pub stops_here : (mark : ℕ) (behind : List ℕ) → StopsAt mark (mark ∷ behind)
stops_here mark behind byte rest same = cc

pub stops_at_end : (mark : ℕ) → StopsAt mark []
stops_at_end mark byte rest same = absurd cc

-- the escape after a front is a part, and the only one
pub record IsEscapeAt (coding : Coding) (behind character after : List ℕ) : Type 0 where
  pub part : Part
  pub is_part : IsPart coding part
  pub texts : part_text part ≡ character
  pub layout : backslash ∷ behind ≡ part_spelling part ++ after

-- where a text is spelled its first piece is
pub record HasPiece (coding : Coding) (front behind text : List ℕ) : Type 0 where
  pub all_raw : list_all (is_raw coding) front ≡ true
  pub utf8 : IsUtf8 front
  pub part : Part
  pub rest : List ℕ
  pub more : List ℕ
  pub is_part : IsPart coding part
  pub layout : backslash ∷ behind ≡ part_spelling part ++ rest
  pub spells : Spells coding rest more
  pub texts : text ≡ front ++ (part_text part ++ more)

pub piece_of : (coding : Coding) (rest front behind text : List ℕ) → rest ≡ front ++ backslash ∷ behind → IsFreeOf backslash front → Spells coding rest text
    → HasPiece coding front behind text
piece_of coding rest front behind text cut free spells =
    let P : List ℕ → Type 0 = λ l. Spells coding l text in
    let fronts = raw_front coding front (backslash ∷ behind) text (subst P cut spells) free (stops_here backslash behind) in
    let first = first_part coding backslash behind fronts.more fronts.spells in
    record {
      all_raw = fronts.all_raw;
      utf8 = fronts.utf8;
      part = first.part;
      rest = first.behind;
      more = first.more;
      is_part = first.is_part;
      layout = first.layout;
      spells = first.spells;
      texts = fronts.texts ∙ ap (λ (l : List ℕ). front ++ l) first.texts;
    }

joined : (d f p c t : List ℕ) → p ≡ c → d ++ (f ++ (p ++ t)) ≡ ((d ++ f) ++ c) ++ t
joined d f p c t same = rw same (simp append_assoc)

pub reading_goes_on : (coding : Coding) (spelled done rest front behind character after : List ℕ) → IsReadTo coding spelled done rest
    → rest ≡ front ++ backslash ∷ behind → IsFreeOf backslash front → IsUtf8 front → list_all (is_raw coding) front ≡ true
    → IsEscapeAt coding behind character after
    → ((part : Part) (more : List ℕ) → IsPart coding part → backslash ∷ behind ≡ part_spelling part ++ more → (part_text part ≡ character) × (after ≡ more))
    → IsReadTo coding spelled ((done ++ front) ++ character) after
reading_goes_on coding spelled done rest front behind character after so_far cut free utf8 all_raw escape only = record { found = found; only = all }
  where
    found : (text : List ℕ) → Spells coding after text → Spells coding spelled (((done ++ front) ++ character) ++ text)
    found text spells =
        let parts = Spells-append coding (part_spelling escape.part) after (part_text escape.part) text (Spells-part coding escape.part escape.is_part) spells in
        let pieces = Spells-append coding front (part_spelling escape.part ++ after) front (part_text escape.part ++ text) (Spells-raw coding front utf8 all_raw) parts in
        let P : List ℕ → Type 0 = λ l. Spells coding l (front ++ (part_text escape.part ++ text)) in
        let whole = so_far.found (front ++ (part_text escape.part ++ text)) (subst P (sym (cut ∙ ap (λ (l : List ℕ). front ++ l) escape.layout)) pieces) in
        let Q : List ℕ → Type 0 = Spells coding spelled in
        subst Q (joined done front (part_text escape.part) character text escape.texts) whole

    all : (text : List ℕ) → Spells coding spelled text → (more : List ℕ) × (text ≡ ((done ++ front) ++ character) ++ more) × Spells coding after more
    all text spells =
        let left = so_far.only text spells in
        let piece = piece_of coding rest front behind left.0 cut free left.2 in
        let same = only piece.part piece.rest piece.is_part piece.layout in
        let P : List ℕ → Type 0 = λ l. Spells coding l piece.more in
        (piece.more, left.1 ∙ ap (λ (l : List ℕ). done ++ l) piece.texts ∙ joined done front (part_text piece.part) character piece.more same.0, subst P (sym same.1) piece.spells)

-- the last piece stands for itself
pub last_piece : (coding : Coding) (rest text : List ℕ) → IsFreeOf backslash rest → Spells coding rest text → (text ≡ rest) × (list_all (is_raw coding) rest ≡ true) × IsUtf8 rest
last_piece coding rest text free spells =
    let P : List ℕ → Type 0 = λ l. Spells coding l text in
    let front = raw_front coding rest [] text (subst P (sym (append-nil rest)) spells) free (stops_at_end backslash) in
    (front.texts ∙ ap (λ (l : List ℕ). rest ++ l) (nothing_spelled coding front.more front.spells) ∙ append-nil rest, front.all_raw, front.utf8)

-- what follows an escape is shorter
pub shorter_behind : (coding : Coding) (part : Part) (rest front behind after : List ℕ) → rest ≡ front ++ backslash ∷ behind → backslash ∷ behind ≡ part_spelling part ++ after
    → length after < length rest
shorter_behind coding part rest front behind after cut layout = below (part_spelling part) refl
  where
    below : (spelling : List ℕ) → part_spelling part ≡ spelling → length after < length rest
    below [] is = absurd (some_spelling coding part [] (sym is ∙ sym (append-nil (part_spelling part))))
    below (byte ∷ spelling) is =
        let escape : backslash ∷ behind ≡ byte ∷ (spelling ++ after) = layout ∙ ap (λ (l : List ℕ). l ++ after) is in
        let behinds : behind ≡ spelling ++ after = cc in
        omega (arith, ap length cut, length-append front (backslash ∷ behind), ap length behinds, length-append spelling after)
