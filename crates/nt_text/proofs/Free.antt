-- What no spelling holds: the mark that ends an IRI, and the two bytes that end lines.
use Rattle.std.proofs.Common.{◌≡◌, ◌≢◌, ℕ, zero, suc, ◌/◌, ◌%◌, List, [], ◌∷◌, ◌++◌, Bool, true, false, not, ◌==◌, get_or, refl, sym, subst, ◌∙◌, ap, arith, codes}
use Rattle.std.proofs.lemmas.Bool.Decides.{nat_tests}
use Rattle.std.specs.List.{flat_map, list_all}
use Rattle.cim_words.specs.IdText.{id_iri}
use Rattle.cim_words.specs.Prop.{prop_iri}
use Rattle.cim_words.specs.Written.{is_iri_character, iri_spelling, literal_spelling, hex_digit, backslash, quote, line_feed, carriage_return, written_line, written_iri, written_id, written_object}
use Rattle.cim_words.specs.declared.object.Object.{Object}
use Rattle.cim_words.specs.declared.object.Object.TheVariants as object
use Rattle.cim_words.specs.declared.statement.Statement.{Statement}
use Rattle.cim_words.proofs.Spellings.{iri_spelling-id_iri}
use Rattle.nt_text.specs.Cut.{IsFreeOf}
use Rattle.nt_text.proofs.Cuts.{IsFreeOf-append}

-- a test that computes
free_by_test : (mark : ℕ) (bytes : List ℕ) → list_all (λ b. not (b == mark)) bytes ≡ true → IsFreeOf mark bytes
free_by_test mark [] all = tt
free_by_test mark (b ∷ bytes) all =
    let heads : not (b == mark) ≡ true = grind (arith, nat_tests) in
    let tails : list_all (λ b. not (b == mark)) bytes ≡ true = grind (arith, nat_tests) in
    ((grind (arith, nat_tests)), free_by_test mark bytes tails)

-- a digit of a table that has no such mark is none
free_digit : (mark d : ℕ) (table : List ℕ) → IsFreeOf mark table → 0 ≢ mark → get_or table d 0 ≢ mark
free_digit mark d [] free none = none
free_digit mark zero (b ∷ table) free none = free.0
free_digit mark (suc d) (b ∷ table) free none = free_digit mark d table free.1 none

-- a mark that may not stand in an IRI, nor in an escape
pub record IsKeptOut (mark : ℕ) : Type 0 where
  pub in_iri : is_iri_character mark ≡ false
  pub in_escape : IsFreeOf mark (backslash ∷ codes "u00")
  pub in_digits : IsFreeOf mark (codes "0123456789ABCDEF")
  pub no_nul : 0 ≢ mark

-- the two bytes that end lines
pub data LineEnd : Type 0 where
  feed : LineEnd
  return : LineEnd

abbrev pub mark_of : LineEnd → ℕ
mark_of feed = line_feed
mark_of return = carriage_return

-- a text that has neither, by tests that compute
free_text : (end : LineEnd) (bytes : List ℕ) → list_all (λ b. not (b == line_feed)) bytes ≡ true → list_all (λ b. not (b == carriage_return)) bytes ≡ true
    → IsFreeOf (mark_of end) bytes
free_text feed bytes no_feed no_return = free_by_test line_feed bytes no_feed
free_text return bytes no_feed no_return = free_by_test carriage_return bytes no_return

end_kept_out : (end : LineEnd) → IsKeptOut (mark_of end)
unfolding is_iri_character
end_kept_out feed = record {
  in_iri = refl;
  in_escape = free_by_test line_feed (backslash ∷ codes "u00") refl;
  in_digits = free_by_test line_feed (codes "0123456789ABCDEF") refl;
  no_nul = λ e. absurd (let z : 0 ≡ line_feed = e in omega arith);
}
end_kept_out return = record {
  in_iri = refl;
  in_escape = free_by_test carriage_return (backslash ∷ codes "u00") refl;
  in_digits = free_by_test carriage_return (codes "0123456789ABCDEF") refl;
  no_nul = λ e. absurd (let z : 0 ≡ carriage_return = e in omega arith);
}

free_iri_byte_at : (mark : ℕ) → IsKeptOut mark → (byte : ℕ) (b : Bool) → is_iri_character byte ≡ b → IsFreeOf mark (iri_spelling byte)
unfolding iri_spelling
free_iri_byte_at mark out byte true h =
    let other : byte ≢ mark = λ e. absurd (let z : true ≡ false = sym h ∙ ap is_iri_character e ∙ out.in_iri in cc) in
    rw h (other, tt)
free_iri_byte_at mark out byte false h =
    let hex = λ (d : ℕ). free_digit mark d (codes "0123456789ABCDEF") out.in_digits out.no_nul in
    rw h (IsFreeOf-append mark (backslash ∷ codes "u00") (hex_digit (byte / 16) ∷ hex_digit (byte % 16) ∷ []) out.in_escape (hex (byte / 16), (hex (byte % 16), tt)))

-- no IRI that is spelled holds a mark that is kept out
pub free_iri : (mark : ℕ) → IsKeptOut mark → (text : List ℕ) → IsFreeOf mark (flat_map iri_spelling text)
free_iri mark out [] = tt
free_iri mark out (byte ∷ text) =
    IsFreeOf-append mark (iri_spelling byte) (flat_map iri_spelling text) (free_iri_byte_at mark out byte (is_iri_character byte) refl) (free_iri mark out text)

-- nor does the IRI of an identifier
pub free_id : (mark : ℕ) → IsKeptOut mark → (n : ℕ) → IsFreeOf mark (id_iri n)
free_id mark out n = let P : List ℕ → Type 0 = IsFreeOf mark in subst P (iri_spelling-id_iri n) (free_iri mark out (id_iri n))

free_written_id : (end : LineEnd) (n : ℕ) → IsFreeOf (mark_of end) (written_id n)
free_written_id end n = IsFreeOf-append (mark_of end) (codes "<" ++ id_iri n) (codes ">")
    (IsFreeOf-append (mark_of end) (codes "<") (id_iri n) (free_text end (codes "<") refl refl) (free_id (mark_of end) (end_kept_out end) n))
    (free_text end (codes ">") refl refl)

free_written_iri : (end : LineEnd) (text : List ℕ) → IsFreeOf (mark_of end) (written_iri text)
free_written_iri end text = IsFreeOf-append (mark_of end) (codes "<" ++ flat_map iri_spelling text) (codes ">")
    (IsFreeOf-append (mark_of end) (codes "<") (flat_map iri_spelling text) (free_text end (codes "<") refl refl) (free_iri (mark_of end) (end_kept_out end) text))
    (free_text end (codes ">") refl refl)

-- a byte that ends no line
other_byte : (end : LineEnd) (byte : ℕ) → (byte == line_feed) ≡ false → (byte == carriage_return) ≡ false → byte ≢ mark_of end
other_byte feed byte hl hr = grind (arith, nat_tests)
other_byte return byte hl hr = grind (arith, nat_tests)

free_literal_byte_at : (end : LineEnd) (byte : ℕ) (q b l r : Bool) → (byte == quote) ≡ q → (byte == backslash) ≡ b → (byte == line_feed) ≡ l → (byte == carriage_return) ≡ r
    → IsFreeOf (mark_of end) (literal_spelling byte)
unfolding literal_spelling
free_literal_byte_at end byte true b l r hq hb hl hr = rw hq (free_text end (backslash ∷ quote ∷ []) refl refl)
free_literal_byte_at end byte false true l r hq hb hl hr = rw (hq, hb) (free_text end (backslash ∷ backslash ∷ []) refl refl)
free_literal_byte_at end byte false false true r hq hb hl hr = rw (hq, hb, hl) (free_text end (backslash ∷ codes "n") refl refl)
free_literal_byte_at end byte false false false true hq hb hl hr = rw (hq, hb, hl, hr) (free_text end (backslash ∷ codes "r") refl refl)
free_literal_byte_at end byte false false false false hq hb hl hr = rw (hq, hb, hl, hr) (other_byte end byte hl hr, tt)

-- no literal that is spelled holds a byte that ends a line
free_literal : (end : LineEnd) (text : List ℕ) → IsFreeOf (mark_of end) (flat_map literal_spelling text)
free_literal end [] = tt
free_literal end (byte ∷ text) =
    IsFreeOf-append (mark_of end) (literal_spelling byte) (flat_map literal_spelling text)
    (free_literal_byte_at end byte (byte == quote) (byte == backslash) (byte == line_feed) (byte == carriage_return) refl refl refl refl) (free_literal end text)

free_object : (end : LineEnd) (o : Object) → IsFreeOf (mark_of end) (written_object o)
free_object end (object.Id id) = free_written_id end id.number
free_object end (object.Name text) = free_written_iri end text
free_object end (object.Text text) = IsFreeOf-append (mark_of end) (quote ∷ flat_map literal_spelling text) (quote ∷ [])
    (IsFreeOf-append (mark_of end) (quote ∷ []) (flat_map literal_spelling text) (free_text end (quote ∷ []) refl refl) (free_literal end text)) (free_text end (quote ∷ []) refl refl)

-- the line of a statement is one line
pub free_line : (end : LineEnd) (s : Statement) → IsFreeOf (mark_of end) (written_line s)
unfolding written_line
free_line end s =
    let mark = mark_of end in
    let space = free_text end (codes " ") refl refl in
    let subject = written_id s.subject.number in
    let prop = written_iri (prop_iri s.prop) in
    let named = IsFreeOf-append mark subject (codes " ") (free_written_id end s.subject.number) space in
    let stated = IsFreeOf-append mark (subject ++ codes " ") prop named (free_written_iri end (prop_iri s.prop)) in
    let parted = IsFreeOf-append mark (subject ++ codes " " ++ prop) (codes " ") stated space in
    let whole = IsFreeOf-append mark (subject ++ codes " " ++ prop ++ codes " ") (written_object s.object) parted (free_object end s.object) in
    IsFreeOf-append mark (subject ++ codes " " ++ prop ++ codes " " ++ written_object s.object) (codes " .") whole (free_text end (codes " .") refl refl)
