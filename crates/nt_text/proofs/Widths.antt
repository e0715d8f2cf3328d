-- How long the written line of a statement can be.
use Rattle.std.proofs.Common.{◌≡◌, ℕ, ◌+◌, ◌*◌, ◌≤◌, List, [], ◌∷◌, ◌++◌, Bool, true, false, ◌==◌, length, take, drop, refl, sym, ap, ◌∙◌, arith, codes, length-append}
use Rattle.std.specs.List.{flat_map}
use Rattle.std.proofs.lemmas.Grind.{flat_map-append}
use Rattle.std.proofs.lemmas.List.{take-append-drop}
use Rattle.cim_words.specs.IdText.{id_iri}
use Rattle.cim_words.specs.Prop.{prop_iri}
use Rattle.cim_words.specs.Written.{is_iri_character, iri_spelling, literal_spelling, written_line, written_id, written_iri, written_object, quote, backslash, line_feed, carriage_return}
use Rattle.cim_words.specs.declared.object.Object.{Object}
use Rattle.cim_words.specs.declared.object.Object.TheVariants as object
use Rattle.cim_words.specs.declared.statement.Statement.{Statement}
use Rattle.cim_words.proofs.IdTexts.{length-id_iri}
use Rattle.nt_text.specs.Ends.{text_length}

iri_six_at : (byte : ℕ) (b : Bool) → is_iri_character byte ≡ b → length (iri_spelling byte) ≤ 6
unfolding iri_spelling
iri_six_at byte true is = rw is (omega arith)
iri_six_at byte false is = rw is (omega arith)

iri_six : (byte : ℕ) → length (iri_spelling byte) ≤ 6
iri_six byte = iri_six_at byte (is_iri_character byte) refl

literal_six_at : (byte : ℕ) (q b l r : Bool) → (byte == quote) ≡ q → (byte == backslash) ≡ b → (byte == line_feed) ≡ l → (byte == carriage_return) ≡ r
    → length (literal_spelling byte) ≤ 6
unfolding literal_spelling
literal_six_at byte true b l r hq hb hl hr = rw hq (omega arith)
literal_six_at byte false true l r hq hb hl hr = rw (hq, hb) (omega arith)
literal_six_at byte false false true r hq hb hl hr = rw (hq, hb, hl) (omega arith)
literal_six_at byte false false false true hq hb hl hr = rw (hq, hb, hl, hr) (omega arith)
literal_six_at byte false false false false hq hb hl hr = rw (hq, hb, hl, hr) (omega arith)

literal_six : (byte : ℕ) → length (literal_spelling byte) ≤ 6
literal_six byte = literal_six_at byte (byte == quote) (byte == backslash) (byte == line_feed) (byte == carriage_return) refl refl refl refl

spelled_six : (spelling : ℕ → List ℕ) → ((byte : ℕ) → length (spelling byte) ≤ 6) → (text : List ℕ) → length (flat_map spelling text) ≤ 6 * length text
spelled_six spelling six [] = omega arith
spelled_six spelling six (byte ∷ text) = omega (arith, length-append (spelling byte) (flat_map spelling text), six byte, spelled_six spelling six text)

pub iri_length : (text : List ℕ) → length (written_iri text) ≤ 2 + 6 * length text
iri_length text =
    omega (arith, length-append (codes "<" ++ flat_map iri_spelling text) (codes ">"), length-append (codes "<") (flat_map iri_spelling text), spelled_six iri_spelling iri_six text)

pub id_length : (number : ℕ) → length (written_id number) ≡ 47
id_length number =
    omega (arith, length-append (codes "<" ++ id_iri number) (codes ">"), length-append (codes "<") (id_iri number), length-id_iri number)

object_length : (o : Object) → length (written_object o) ≤ 47 + 6 * text_length o
object_length (object.Id id) = omega (arith, id_length id.number)
object_length (object.Name text) = omega (arith, iri_length text)
object_length (object.Text text) =
    omega (arith, length-append (quote ∷ flat_map literal_spelling text) (quote ∷ []), spelled_six literal_spelling literal_six text)

-- each byte of a text is spelled by six at most, and the rest of a line takes at most 100
pub line_length : (s : Statement) → length (written_line s) ≤ 100 + 6 * (length (prop_iri s.prop) + text_length s.object)
unfolding written_line
line_length s =
    let subject = written_id s.subject.number in
    let prop = written_iri (prop_iri s.prop) in
    let thing = written_object s.object in
    omega (
      arith,
      length-append (subject ++ codes " " ++ prop ++ codes " " ++ thing) (codes " ."),
      length-append (subject ++ codes " " ++ prop ++ codes " ") thing,
      length-append (subject ++ codes " " ++ prop) (codes " "),
      length-append (subject ++ codes " ") prop,
      length-append subject (codes " "),
      id_length s.subject.number,
      iri_length (prop_iri s.prop),
      object_length s.object,
    )

-- the spelling of a front is no longer than that of the whole
pub front_shorter : (spelling : ℕ → List ℕ) (n : ℕ) (text : List ℕ) → length (flat_map spelling (take n text)) ≤ length (flat_map spelling text)
front_shorter spelling n text =
    let parts = sym (flat_map-append spelling (take n text) (drop n text)) ∙ ap (flat_map spelling) (take-append-drop n text) in
    omega (arith, ap length parts, length-append (flat_map spelling (take n text)) (flat_map spelling (drop n text)))

-- the parts of a written line
pub line_parts : (s : Statement) → length (written_line s) ≡ 53 + length (flat_map iri_spelling (prop_iri s.prop)) + length (written_object s.object)
unfolding written_line
line_parts s =
    let subject = written_id s.subject.number in
    let text = flat_map iri_spelling (prop_iri s.prop) in
    let prop = written_iri (prop_iri s.prop) in
    let thing = written_object s.object in
    omega (
      arith,
      length-append (subject ++ codes " " ++ prop ++ codes " " ++ thing) (codes " ."),
      length-append (subject ++ codes " " ++ prop ++ codes " ") thing,
      length-append (subject ++ codes " " ++ prop) (codes " "),
      length-append (subject ++ codes " ") prop,
      length-append subject (codes " "),
      id_length s.subject.number,
      length-append (codes "<" ++ text) (codes ">"),
      length-append (codes "<") text,
    )

-- how long a written object is
abbrev object_size : Object → ℕ
object_size (object.Id id) = 47
object_size (object.Name text) = length (flat_map iri_spelling text) + 2
object_size (object.Text text) = length (flat_map literal_spelling text) + 2

pub object_parts : (o : Object) → length (written_object o) ≡ object_size o
object_parts (object.Id id) = id_length id.number
object_parts (object.Name text) = let inside = flat_map iri_spelling text in omega (arith, length-append (codes "<" ++ inside) (codes ">"), length-append (codes "<") inside)
object_parts (object.Text text) = omega (arith, length-append (quote ∷ flat_map literal_spelling text) (quote ∷ []))
