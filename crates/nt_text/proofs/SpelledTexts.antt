-- Texts that are spelled part by part: characters that stand for themselves, and escapes.
use Rattle.std.proofs.Common.{◌≡◌, ◌≢◌, ℕ, suc, ◌<◌, ◌≤◌, List, [], ◌∷◌, ◌++◌, true, false, length, get_or, refl, sym, ap, ◌∙◌, arith, ⊎_elim, append_assoc, subst}
use Rattle.std.proofs.lemmas.Bool.{and_parts, cases_lt}
use Rattle.std.proofs.lemmas.Bool.Decides.{nat_tests}
use Rattle.std.proofs.lemmas.List.{append-nil}
use Rattle.std.proofs.lemmas.List.Concat.{flat_map-append}
use Rattle.std.proofs.lemmas.List.Folds.{list_all-append}
use Rattle.std.proofs.lemmas.Str.{encode_ascii, inside_one, IsUtf8-append, IsUtf8-encode, IsUtf8-nil}
use Rattle.std.specs.Char.{encode_utf8}
use Rattle.std.specs.List.{flat_map, list_all, AllByRecursion}
use Rattle.std.specs.Str.{IsUtf8, encode_utf8_all, all_scalars}
use Rattle.std.proofs.lemmas.List.Sums.{list_all-from_AllPass}
use Rattle.std.proofs.lemmas.List.Elements.{All-from_get_or}
use Rattle.cim_words.specs.Written.{is_iri_character, backslash}
use Rattle.nt_text.specs.Cut.{IsFreeOf}
use Rattle.nt_text.specs.Parts.{Part, raw, named, numbered, is_raw, IsPart, part_spelling, part_text, Spells}
use Rattle.nt_text.specs.declared.spelling.Coding.{Coding}
use Rattle.nt_text.specs.declared.spelling.Coding.TheVariants.{Iri, Literal}

-- a byte of a character beyond ASCII stands for itself
plain_byte : (coding : Coding) (byte : ℕ) → 128 ≤ byte → is_raw coding byte ≡ true
unfolding is_iri_character
plain_byte Iri byte high = grind (arith, nat_tests)
plain_byte Literal byte high = grind (arith, nat_tests)

pub backslash_marks : (coding : Coding) → is_raw coding backslash ≡ false
unfolding is_iri_character
backslash_marks Iri = refl
backslash_marks Literal = refl

-- a byte of a character is the character itself, or is beyond ASCII
byte_of : (c k : ℕ) → k < length (encode_utf8 c) → get_or (encode_utf8 c) k 0 < 128 → c ≡ get_or (encode_utf8 c) k 0
byte_of c k within low = inside_one c [] (encode_utf8 c) k (sym (append-nil (encode_utf8 c))) within low

-- the bytes of a character that stands for itself do so
raw_byte : (coding : Coding) (c k : ℕ) → is_raw coding c ≡ true → k < length (encode_utf8 c) → is_raw coding (get_or (encode_utf8 c) k 0) ≡ true
raw_byte coding c k is within =
    ⊎_elim (λ low. ap (is_raw coding) (sym (byte_of c k within low)) ∙ is) (λ high. plain_byte coding (get_or (encode_utf8 c) k 0) high)
    (cases_lt (get_or (encode_utf8 c) k 0) 128)

pub raw_bytes : (coding : Coding) (c : ℕ) → is_raw coding c ≡ true → list_all (is_raw coding) (encode_utf8 c) ≡ true
raw_bytes coding c is =
    list_all-from_AllPass (is_raw coding) (encode_utf8 c) (All-from_get_or (λ (b : ℕ). is_raw coding b ≡ true) (encode_utf8 c) 0 (λ k within. raw_byte coding c k is within))

-- and a character whose bytes do so stands for itself
raw_from : (coding : Coding) (c : ℕ) → list_all (is_raw coding) (encode_utf8 c) ≡ true → is_raw coding c ≡ true
raw_from coding c all =
    ⊎_elim (λ (low : c < 128). (and_parts (is_raw coding c) true (sym (ap (list_all (is_raw coding)) (encode_ascii c low)) ∙ all)).0) (λ high. plain_byte coding c high)
    (cases_lt c 128)

free_from : (mark : ℕ) (bytes : List ℕ) → ((k : ℕ) → k < length bytes → get_or bytes k 0 ≢ mark) → IsFreeOf mark bytes
free_from mark [] each = tt
free_from mark (byte ∷ bytes) each = (each 0 (omega arith), free_from mark bytes (λ k within. each (suc k) (omega arith)))

-- a mark of ASCII stands in the bytes of no other character
pub free_character : (mark c : ℕ) → mark < 128 → c ≢ mark → IsFreeOf mark (encode_utf8 c)
free_character mark c low other = free_from mark (encode_utf8 c)
    (λ k within is. let small : get_or (encode_utf8 c) k 0 < 128 = omega arith in other (byte_of c k within small ∙ is))

-- parts side by side spell texts side by side
each_append : (coding : Coding) (a b : List Part) → AllByRecursion (IsPart coding) a → AllByRecursion (IsPart coding) b → AllByRecursion (IsPart coding) (a ++ b)
each_append coding [] b all all' = all'
each_append coding (part ∷ a) b all all' = (all.0, each_append coding a b all.1 all')

pub Spells-append : (coding : Coding) (a b s t : List ℕ) → Spells coding a s → Spells coding b t → Spells coding (a ++ b) (s ++ t)
Spells-append coding a b s t spells spells' = record {
  parts = spells.parts ++ spells'.parts;
  each = each_append coding spells.parts spells'.parts spells.each spells'.each;
  spelling = let e = flat_map-append part_spelling spells.parts spells'.parts in let e' = spells.spelling in let e'' = spells'.spelling in cc;
  characters = let e = flat_map-append part_text spells.parts spells'.parts in let e' = spells.characters in let e'' = spells'.characters in cc;
}

pub Spells-part : (coding : Coding) (part : Part) → IsPart coding part → Spells coding (part_spelling part) (part_text part)
Spells-part coding part is = record {
  parts = part ∷ [];
  each = (is, tt);
  spelling = sym (append-nil (part_spelling part));
  characters = sym (append-nil (part_text part));
}

pub Spells-nil : (coding : Coding) → Spells coding [] []
Spells-nil coding = record { parts = []; each = tt; spelling = refl; characters = refl }

-- bytes that stand for themselves, and are text, spell that text
raw_characters : (coding : Coding) (cs : List ℕ) → all_scalars cs ≡ true → list_all (is_raw coding) (encode_utf8_all cs) ≡ true
    → Spells coding (encode_utf8_all cs) (encode_utf8_all cs)
raw_characters coding [] scalars all = Spells-nil coding
raw_characters coding (c ∷ cs) scalars all =
    let parts = and_parts _ _ (sym (list_all-append (is_raw coding) (encode_utf8 c) (encode_utf8_all cs)) ∙ all) in
    let are = and_parts _ _ scalars in
    Spells-append coding (encode_utf8 c) (encode_utf8_all cs) (encode_utf8 c) (encode_utf8_all cs)
    (Spells-part coding (raw c) (are.0, raw_from coding c parts.0)) (raw_characters coding cs are.1 parts.1)

pub Spells-raw : (coding : Coding) (bytes : List ℕ) → IsUtf8 bytes → list_all (is_raw coding) bytes ≡ true → Spells coding bytes bytes
Spells-raw coding bytes utf8 all =
    let P : List ℕ → Type 0 = λ l. Spells coding l l in
    subst P utf8.1.1 (raw_characters coding utf8.0 utf8.1.0 (ap (list_all (is_raw coding)) utf8.1.1 ∙ all))

-- a list that is empty or begins with a mark
abbrev pub StopsAt : ℕ → List ℕ → Type 0
StopsAt mark bytes = (byte : ℕ) (rest : List ℕ) → bytes ≡ byte ∷ rest → byte ≡ mark

-- a part without the mark lies within what stands before the mark
record IsWithin (a x b tail : List ℕ) : Type 0 where
  more : List ℕ
  front : b ≡ a ++ more
  rest : x ≡ more ++ tail

within_front : (mark : ℕ) (a x b tail : List ℕ) → IsFreeOf mark a → StopsAt mark tail → a ++ x ≡ b ++ tail → IsWithin a x b tail
within_front mark [] x b tail free stops same = record { more = b; front = refl; rest = same }
within_front mark (c ∷ a) x [] tail free stops same = absurd (free.0 (stops c (a ++ x) (sym same)))
within_front mark (c ∷ a) x (d ∷ b) tail free stops same =
    let heads : c ≡ d = cc in
    let tails : a ++ x ≡ b ++ tail = cc in
    let inner = within_front mark a x b tail free.1 stops tails in
    let fronts = inner.front in
    record { more = inner.more; front = cc; rest = inner.rest }

IsFreeOf-behind : (mark : ℕ) (a b : List ℕ) → IsFreeOf mark (a ++ b) → IsFreeOf mark b
IsFreeOf-behind mark [] b free = free
IsFreeOf-behind mark (c ∷ a) b free = IsFreeOf-behind mark a b free.1

-- what stands before a backslash, or the end, in a spelled text stands for itself, and the rest is spelled
pub record HasRawFront (coding : Coding) (front tail text : List ℕ) : Type 0 where
  pub more : List ℕ
  pub spells : Spells coding tail more
  pub texts : text ≡ front ++ more
  pub all_raw : list_all (is_raw coding) front ≡ true
  pub utf8 : IsUtf8 front

-- where an escape begins there is no front
escape_begins : (coding : Coding) (front tail : List ℕ) (part : Part) (parts : List Part) (behind : List ℕ) → part_spelling part ≡ backslash ∷ behind
    → AllByRecursion (IsPart coding) (part ∷ parts) → front ++ tail ≡ flat_map part_spelling (part ∷ parts) → IsFreeOf backslash front
    → HasRawFront coding front tail (flat_map part_text (part ∷ parts))
escape_begins coding [] tail part parts behind marks each same free = record {
  more = flat_map part_text (part ∷ parts);
  spells = record { parts = part ∷ parts; each = each; spelling = same; characters = refl };
  texts = refl;
  all_raw = refl;
  utf8 = IsUtf8-nil;
}
escape_begins coding (byte ∷ front) tail part parts behind marks each same free =
    let begins : byte ∷ (front ++ tail) ≡ backslash ∷ (behind ++ flat_map part_spelling parts) = same ∙ ap (λ (l : List ℕ). l ++ flat_map part_spelling parts) marks in
    let is : byte ≡ backslash = cc in absurd (free.0 is)

raw_joined : (coding : Coding) (front tail : List ℕ) (c : ℕ) (more text : List ℕ) → IsPart coding (raw c) → front ≡ encode_utf8 c ++ more
    → HasRawFront coding more tail text → HasRawFront coding front tail (encode_utf8 c ++ text)
raw_joined coding front tail c more text is cut inner = record {
  more = inner.more;
  spells = inner.spells;
  texts = texts;
  all_raw = all;
  utf8 = let P : List ℕ → Type 0 = IsUtf8 in subst P (sym cut) (IsUtf8-append (encode_utf8 c) more (IsUtf8-encode c is.0) inner.utf8);
}
  where
    texts : encode_utf8 c ++ text ≡ front ++ inner.more
    texts = let same = inner.texts in rw (same, cut, append_assoc) refl

    all : list_all (is_raw coding) front ≡ true
    all = ap (list_all (is_raw coding)) cut ∙ list_all-append (is_raw coding) (encode_utf8 c) more ∙ rw (raw_bytes coding c is.1, inner.all_raw) refl

parts_front : (coding : Coding) (front tail : List ℕ) (parts : List Part) → AllByRecursion (IsPart coding) parts → front ++ tail ≡ flat_map part_spelling parts
    → IsFreeOf backslash front → StopsAt backslash tail → HasRawFront coding front tail (flat_map part_text parts)
parts_front coding [] tail [] each same free stops = record {
  more = [];
  spells = record { parts = []; each = tt; spelling = same; characters = refl };
  texts = refl;
  all_raw = refl;
  utf8 = IsUtf8-nil;
}
parts_front coding (byte ∷ front) tail [] each same free stops = absurd cc
parts_front coding front tail (raw c ∷ parts) each same free stops =
    let other : c ≢ backslash = λ is. let marked : true ≡ false = sym each.0.1 ∙ ap (is_raw coding) is ∙ backslash_marks coding in absurd cc in
    let cut = within_front backslash (encode_utf8 c) (flat_map part_spelling parts) front tail (free_character backslash c (omega arith) other) stops (sym same) in
    let free' = IsFreeOf-behind backslash (encode_utf8 c) cut.more (let P : List ℕ → Type 0 = IsFreeOf backslash in subst P cut.front free) in
    let inner = parts_front coding cut.more tail parts each.1 (sym cut.rest) free' stops in
    raw_joined coding front tail c cut.more (flat_map part_text parts) each.0 cut.front inner
parts_front coding front tail (named letter ∷ parts) each same free stops = escape_begins coding front tail (named letter) parts (letter ∷ []) refl each same free
parts_front coding front tail (numbered mark digits ∷ parts) each same free stops = escape_begins coding front tail (numbered mark digits) parts (mark ∷ digits) refl each same free

pub raw_front : (coding : Coding) (front tail text : List ℕ) → Spells coding (front ++ tail) text → IsFreeOf backslash front → StopsAt backslash tail
    → HasRawFront coding front tail text
raw_front coding front tail text spells free stops =
    let P : List ℕ → Type 0 = HasRawFront coding front tail in
    subst P (sym spells.characters) (parts_front coding front tail spells.parts spells.each spells.spelling free stops)

-- a spelled text that has bytes begins with a part
pub record HasFirst (coding : Coding) (spelled text : List ℕ) : Type 0 where
  pub part : Part
  pub behind : List ℕ
  pub more : List ℕ
  pub is_part : IsPart coding part
  pub layout : spelled ≡ part_spelling part ++ behind
  pub spells : Spells coding behind more
  pub texts : text ≡ part_text part ++ more

first_at : (coding : Coding) (byte : ℕ) (bytes text : List ℕ) (parts : List Part) → AllByRecursion (IsPart coding) parts → byte ∷ bytes ≡ flat_map part_spelling parts
    → text ≡ flat_map part_text parts → HasFirst coding (byte ∷ bytes) text
first_at coding byte bytes text [] each same same' = absurd cc
first_at coding byte bytes text (part ∷ parts) each same same' = record {
  part = part;
  behind = flat_map part_spelling parts;
  more = flat_map part_text parts;
  is_part = each.0;
  layout = same;
  spells = record { parts = parts; each = each.1; spelling = refl; characters = refl };
  texts = same';
}

pub first_part : (coding : Coding) (byte : ℕ) (bytes text : List ℕ) → Spells coding (byte ∷ bytes) text → HasFirst coding (byte ∷ bytes) text
first_part coding byte bytes text spells = first_at coding byte bytes text spells.parts spells.each spells.spelling spells.characters
