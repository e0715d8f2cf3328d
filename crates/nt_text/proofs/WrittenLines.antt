-- The written line of a statement reads as that statement.
use Rattle.std.proofs.Common.{◌≡◌, ℕ, ◌≤◌, List, [], ◌∷◌, ◌++◌, inl, inr, IsTrue, length, refl, sym, ap, subst, append_assoc, codes, rules}
use Rattle.std.proofs.lemmas.Str.{IsUtf8-append, IsUtf8-from_ascii}
use Rattle.std.proofs.lemmas.Str.Ascii.{IsAscii-cons, IsAscii-nil}
use Rattle.std.specs.List.{flat_map}
use Rattle.std.specs.Str.{IsUtf8, IsAscii}
use Rattle.cim_words.specs.Held.{IsHeld, IsStatement}
use Rattle.cim_words.specs.IdText.{id_iri}
use Rattle.cim_words.specs.Object.{is_proper_object}
use Rattle.cim_words.specs.Prop.{prop_iri}
use Rattle.cim_words.specs.Written.{iri_spelling, line_limit, literal_spelling, quote, written_line, written_object}
use Rattle.cim_words.specs.declared.object.Object.{Object}
use Rattle.cim_words.specs.declared.object.Object.TheVariants as object
use Rattle.cim_words.specs.declared.statement.Statement.{Statement}
use Rattle.cim_words.proofs.IdTexts.{iri_number-id_iri}
use Rattle.cim_words.proofs.Spellings.{iri_spelling-id_iri, IsUtf8-id_iri}
use Rattle.cim_words.proofs.Statements.{prop_of-prop_iri, object_of-id_iri, object_of-name}
use Rattle.nt_text.specs.Ends.{IsSayingFault}
use Rattle.nt_text.specs.Grammar.{is_blank, IsGap, HasIri, HasObject, IsEnd, IsTriple}
use Rattle.nt_text.specs.Parts.{Spells}
use Rattle.nt_text.specs.Reading.{holds, IsReading, Says}
use Rattle.nt_text.specs.Spelling.{behind_iri, triple}
use Rattle.nt_text.specs.declared.refusal.LineFault.TheVariants as fault
use Rattle.nt_text.specs.declared.refusal.LineRefusal.{LineRefusal}
use Rattle.nt_text.specs.declared.spelling.Coding.TheVariants.{Iri, Literal}
use Rattle.nt_text.proofs.OneReading.{says_no_fault, says_one}
use Rattle.nt_text.proofs.Runs.{none_pass, cons_passes}
use Rattle.nt_text.proofs.WrittenParts.{Spells-written, Spells-utf8}

-- the line of a statement is a triple of spelled parts
line_is_triple : (s : Statement)
    → written_line s ≡ triple (flat_map iri_spelling (id_iri s.subject.number)) (flat_map iri_spelling (prop_iri s.prop)) (written_object s.object)
unfolding written_line
line_is_triple s =
    rw (iri_spelling-id_iri s.subject.number)
    (grouped (codes "<") (id_iri s.subject.number) (codes ">") (codes " ") (flat_map iri_spelling (prop_iri s.prop)) (written_object s.object) (codes " ."))
  where
    grouped : (l a g w p o d : List ℕ) → (l ++ a ++ g) ++ w ++ (l ++ p ++ g) ++ w ++ o ++ d ≡ l ++ (a ++ ((g ++ w) ++ (l ++ (p ++ ((g ++ w) ++ (o ++ d))))))
    grouped l a g w p o d = simp append_assoc

one_space : IsGap (codes " ")
one_space = cons_passes is_blank 0x20 [] refl (none_pass is_blank)

-- the end that is written
written_end : IsEnd (codes " .")
written_end = record {
  gap = codes " ";
  after = [];
  blank = one_space;
  nothing = record { gap = []; comment = []; blank = none_pass is_blank; ends = inl refl; layout = refl };
  layout = refl;
}

abbrev id_spelled : ℕ → List ℕ
id_spelled n = flat_map iri_spelling (id_iri n)

spells_id : (n : ℕ) → Spells Iri (id_spelled n) (id_iri n)
spells_id n = Spells-written Iri (id_iri n) (IsUtf8-id_iri n)

-- an object after a space
iri_behind : (inside text rest : List ℕ) → Spells Iri inside text → HasIri (codes " " ++ ((codes "<" ++ inside ++ codes ">") ++ rest)) text rest
iri_behind inside text rest spells = record {
  gap = codes " ";
  inside = inside;
  blank = one_space;
  spells = spells;
  layout = ap (λ (l : List ℕ). codes " " ++ l) (grouped (codes "<") inside (codes ">") rest);
}
  where
    grouped : (l a g r : List ℕ) → (l ++ a ++ g) ++ r ≡ l ++ (a ++ (g ++ r))
    grouped l a g r = simp append_assoc

has_object : (o : Object) → IsHeld o → IsTrue (is_proper_object o) → HasObject (codes " " ++ (written_object o ++ codes " .")) o (codes " .")
has_object (object.Id id) held proper = inl (record {
  text = id_iri id.number;
  iri = iri_behind (id_iri id.number) (id_iri id.number) (codes " .") (let P : List ℕ → Type 0 = λ l. Spells Iri l (id_iri id.number) in subst P (iri_spelling-id_iri id.number) (spells_id id.number));
  names = sym (object_of-id_iri id.number held);
})
has_object (object.Name text) held proper = inl (record {
  text = text;
  iri = iri_behind (flat_map iri_spelling text) text (codes " .") (Spells-written Iri text held);
  names = sym (object_of-name text proper);
})
has_object (object.Text text) held proper = inr (record {
  text = text;
  behind = codes " .";
  characters = record {
    gap = codes " ";
    inside = flat_map literal_spelling text;
    blank = one_space;
    spells = Spells-written Literal text held;
    layout = ap (λ (l : List ℕ). codes " " ++ (quote ∷ l)) (append_assoc (flat_map literal_spelling text) (quote ∷ []) (codes " ."));
  };
  kind = inl refl;
  names = refl;
})

-- the line is the triple
triple_is : (s : Statement) → IsStatement s → IsTriple (written_line s) (id_iri s.subject.number) (prop_iri s.prop) s.object
triple_is s held = record {
  after_subject = codes " " ++ behind_iri prop rest;
  after_property = codes " " ++ rest;
  after_object = codes " .";
  has_subject = record { gap = []; inside = id_spelled s.subject.number; blank = none_pass is_blank; spells = spells_id s.subject.number; layout = line_is_triple s };
  has_property = record { gap = codes " "; inside = prop; blank = one_space; spells = Spells-written Iri (prop_iri s.prop) held.prop; layout = refl };
  has_object = has_object s.object held.object s.proper_object;
  ends = written_end;
}
  where
    prop : List ℕ
    prop = flat_map iri_spelling (prop_iri s.prop)

    rest : List ℕ
    rest = written_object s.object ++ codes " ."

-- and it is UTF-8
ascii : (bytes : List ℕ) → IsAscii bytes → IsUtf8 bytes
ascii bytes is = IsUtf8-from_ascii bytes is

behind_utf8 : (inside rest : List ℕ) → IsUtf8 inside → IsUtf8 rest → IsUtf8 (behind_iri inside rest)
behind_utf8 inside rest utf8 utf8' =
    IsUtf8-append (codes "<") (inside ++ (codes "> " ++ rest)) (ascii (codes "<") (search (rules, IsAscii-cons, IsAscii-nil)))
    (IsUtf8-append inside (codes "> " ++ rest) utf8 (IsUtf8-append (codes "> ") rest (ascii (codes "> ") (search (rules, IsAscii-cons, IsAscii-nil))) utf8'))

iri_utf8 : (inside : List ℕ) → IsUtf8 inside → IsUtf8 (codes "<" ++ inside ++ codes ">")
iri_utf8 inside utf8 =
    IsUtf8-append (codes "<" ++ inside) (codes ">") (IsUtf8-append (codes "<") inside (ascii (codes "<") (search (rules, IsAscii-cons, IsAscii-nil))) utf8)
    (ascii (codes ">") (search (rules, IsAscii-cons, IsAscii-nil)))

object_utf8 : (o : Object) → IsHeld o → IsUtf8 (written_object o)
object_utf8 (object.Id id) held = iri_utf8 (id_iri id.number) (IsUtf8-id_iri id.number)
object_utf8 (object.Name text) held = iri_utf8 (flat_map iri_spelling text) (Spells-utf8 Iri (flat_map iri_spelling text) text (Spells-written Iri text held))
object_utf8 (object.Text text) held =
    IsUtf8-append (quote ∷ flat_map literal_spelling text) (quote ∷ [])
    (IsUtf8-append (quote ∷ []) (flat_map literal_spelling text) (ascii (quote ∷ []) (search (rules, IsAscii-cons, IsAscii-nil)))
    (Spells-utf8 Literal (flat_map literal_spelling text) text (Spells-written Literal text held)))
    (ascii (quote ∷ []) (search (rules, IsAscii-cons, IsAscii-nil)))

line_utf8 : (s : Statement) → IsStatement s → IsUtf8 (written_line s)
line_utf8 s held =
    let P : List ℕ → Type 0 = IsUtf8 in
    let prop = flat_map iri_spelling (prop_iri s.prop) in
    let rest = written_object s.object ++ codes " ." in
    subst P (sym (line_is_triple s))
    (behind_utf8 (id_spelled s.subject.number) (behind_iri prop rest) (Spells-utf8 Iri (id_spelled s.subject.number) (id_iri s.subject.number) (spells_id s.subject.number))
    (behind_utf8 prop rest (Spells-utf8 Iri prop (prop_iri s.prop) (Spells-written Iri (prop_iri s.prop) held.prop))
    (IsUtf8-append (written_object s.object) (codes " .") (object_utf8 s.object held.object) (ascii (codes " .") (search (rules, IsAscii-cons, IsAscii-nil))))))

-- the written line of a statement says it
pub written_says : (s : Statement) → IsStatement s → Says (written_line s) s
written_says s held = record {
  subject = id_iri s.subject.number;
  property = prop_iri s.prop;
  triple = triple_is s held;
  spells_subject = iri_number-id_iri s.subject.number held.subject;
  names_property = sym (prop_of-prop_iri s.prop s.proper_prop);
}

-- and reads as it
pub written_reads : (s : Statement) → IsStatement s → length (written_line s) ≤ line_limit → IsReading (written_line s) (holds s)
written_reads s held fits = (record { fits = fits; utf8 = line_utf8 s held }, written_says s held, fits)

-- what a line says that is the written line of a statement is that statement
says_written : (line : List ℕ) (s : Statement) → IsStatement s → line ≡ written_line s → Says line s
says_written line s held is = let P : List ℕ → Type 0 = λ l. Says l s in subst P (sym is) (written_says s held)

pub said_is : (line : List ℕ) (said s : Statement) → Says line said → IsStatement s → line ≡ written_line s → said ≡ s
said_is line said s says held is = says_one line said s says (says_written line s held is)

-- and such a line is not refused for saying none
pub no_fault : (line : List ℕ) (s : Statement) (w : LineRefusal) → IsStatement s → line ≡ written_line s → IsSayingFault line (fault.Refusal w) → ⊥
no_fault line s w held is = says_no_fault line s w (says_written line s held is)

-- a line is that of one statement
pub one_line : (s t : Statement) → IsStatement s → IsStatement t → written_line s ≡ written_line t → s ≡ t
one_line s t held held' same = said_is (written_line s) s t (written_says s held) held' same
