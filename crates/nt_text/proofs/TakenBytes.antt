-- What a reader has read, as it takes more bytes.
use Rattle.std.proofs.Common.{◌≡◌, ℕ, suc, ◌+◌, ◌==◌, List, [], ◌∷◌, ◌++◌, Bool, true, false, length, refl, sym, ap, ◌∙◌, inl, inr, append_assoc, append-nil, length-append, arith}
use Rattle.std.proofs.lemmas.Bool.{eqb-true, ne_eqb}
use Rattle.std.proofs.lemmas.List.Concat.{flat_map-append}
use Rattle.std.specs.List.{flat_map, AllByRecursion}
use Rattle.cim_words.specs.Written.{line_feed, carriage_return}
use Rattle.cim_words.specs.declared.statement.Statement.{Statement}
use Rattle.nt_text.specs.Cut.{IsFreeOf}
use Rattle.nt_text.specs.Document.{feeds_after, AreRead}
use Rattle.nt_text.specs.Reader.{ReaderState, HasRead, ends_in_return}
use Rattle.nt_text.specs.ReaderSteps.{IsPlain, IsEnd, is_half}
use Rattle.nt_text.proofs.Cuts.{IsFreeOf-append}
use Rattle.nt_text.proofs.Documents.{feeds_after-append, ends_in_return-append, feeds_plain, ends_plain, return_kept, fed, AreRead-append}

-- how the bytes go on after what was read
pub go_on : (state : ReaderState) (before : List ℕ) (found : List Statement) (bytes : List ℕ) (is : HasRead state before found)
    → feeds_after false (before ++ bytes) ≡ (flat_map fed is.whole ++ state.rest) ++ feeds_after state.after_return bytes
go_on state before found bytes is =
    feeds_after-append false before bytes
    ∙ ap (λ t. t ++ feeds_after (ends_in_return false before) bytes) is.layout
    ∙ ap (λ r. (flat_map fed is.whole ++ state.rest) ++ feeds_after r bytes) (sym is.returns)

feed_ends : (r : Bool) (line after : List ℕ) → is_half r line line_feed ≡ false → feeds_after (return_kept r line) (line_feed ∷ after) ≡ line_feed ∷ feeds_after false after
feed_ends true [] after whole = absurd (let both : true ≡ false = whole in cc)
feed_ends false [] after whole = refl
feed_ends r (byte ∷ line) after whole = refl

end_feeds : (r : Bool) (line : List ℕ) (end : ℕ) (after : List ℕ) → IsEnd end → is_half r line end ≡ false
    → feeds_after (return_kept r line) (end ∷ after) ≡ line_feed ∷ feeds_after (end == carriage_return) after
end_feeds r line end after (inl is) whole = rw is (feed_ends r line after (rw is at whole))
end_feeds r line end after (inr is) whole = rw is refl

-- a line and its end
pub line_feeds : (r : Bool) (line : List ℕ) (end : ℕ) (after : List ℕ) → IsPlain line → IsEnd end → is_half r line end ≡ false
    → feeds_after r (line ++ end ∷ after) ≡ line ++ (line_feed ∷ feeds_after (end == carriage_return) after)
line_feeds r line end after plain ends whole =
    feeds_after-append r line (end ∷ after)
    ∙ ap (λ t. t ++ feeds_after (ends_in_return r line) (end ∷ after)) (feeds_plain r line plain.no_feed plain.no_return)
    ∙ ap (λ q. line ++ feeds_after q (end ∷ after)) (ends_plain r line plain.no_return)
    ∙ ap (λ t. line ++ t) (end_feeds r line end after ends whole)

All-append : (a b : List (List ℕ)) → AllByRecursion (IsFreeOf line_feed) a → AllByRecursion (IsFreeOf line_feed) b → AllByRecursion (IsFreeOf line_feed) (a ++ b)
All-append [] b all all' = all'
All-append (line ∷ a) b all all' = (all.0, All-append a b all.1 all')

last_returns : (before line : List ℕ) (end : ℕ) → (end == carriage_return) ≡ ends_in_return false (before ++ (line ++ end ∷ []))
last_returns before line end =
    sym (ends_in_return-append false before (line ++ end ∷ []) ∙ ends_in_return-append (ends_in_return false before) line (end ∷ []))

whole_more : (whole : List (List ℕ)) (rest line : List ℕ)
    → (flat_map fed whole ++ rest) ++ (line ++ line_feed ∷ []) ≡ flat_map fed (whole ++ (rest ++ line) ∷ [])
whole_more whole rest line =
    let regrouped : (flat_map fed whole ++ rest) ++ (line ++ line_feed ∷ []) ≡ flat_map fed whole ++ (fed (rest ++ line) ++ []) = simp (append_assoc, append-nil) in
    regrouped ∙ sym (flat_map-append fed whole ((rest ++ line) ∷ []))

-- a line that ends within the bytes
pub took_line : (old new : ReaderState) (before : List ℕ) (found : List Statement) (line : List ℕ) (end : ℕ) (more : List Statement) → HasRead old before found
    → IsPlain line → IsEnd end → is_half old.after_return line end ≡ false → AreRead ((old.rest ++ line) ∷ []) more
    → new.rest ≡ [] → new.ended ≡ old.ended + 1 → new.after_return ≡ (end == carriage_return)
    → HasRead new (before ++ (line ++ end ∷ [])) (found ++ more)
took_line old new before found line end more is plain ends whole reads rest ended returned = record {
  whole = is.whole ++ (old.rest ++ line) ∷ [];
  free = All-append is.whole ((old.rest ++ line) ∷ []) is.free (IsFreeOf-append line_feed old.rest line is.rest_free plain.no_feed, tt);
  rest_free = rw rest tt;
  layout =
      go_on old before found (line ++ end ∷ []) is
      ∙ ap (λ t. (flat_map fed is.whole ++ old.rest) ++ t) (line_feeds old.after_return line end [] plain ends whole)
      ∙ whole_more is.whole old.rest line
      ∙ sym (append-nil (flat_map fed (is.whole ++ (old.rest ++ line) ∷ [])))
      ∙ ap (λ t. flat_map fed (is.whole ++ (old.rest ++ line) ∷ []) ++ t) (sym rest);
  returns = returned ∙ last_returns before line end;
  counted = ended ∙ ap (λ n. n + 1) is.counted ∙ sym (length-append is.whole ((old.rest ++ line) ∷ []));
  read = AreRead-append is.whole ((old.rest ++ line) ∷ []) found more is.read reads;
}

half_is : (r : Bool) (line : List ℕ) (end : ℕ) → is_half r line end ≡ true → (r ≡ true) × (line ≡ []) × ((end == line_feed) ≡ true)
half_is true [] end half = (refl, refl, half)
half_is true (byte ∷ line) end half =
    let some : (suc (length line) == 0) ≡ false = ne_eqb (suc (length line)) 0 (λ e. absurd (omega arith)) in
    absurd (let z : false ≡ true = rw some at half in cc)
half_is false line end half = absurd (let z : false ≡ true = half in cc)

-- the second half of CR LF ends no line
pub passed_feed : (old new : ReaderState) (before : List ℕ) (found : List Statement) (line : List ℕ) (end : ℕ) → HasRead old before found
    → is_half old.after_return line end ≡ true → new.rest ≡ old.rest → new.ended ≡ old.ended → new.after_return ≡ (end == carriage_return)
    → HasRead new (before ++ (line ++ end ∷ [])) (found ++ [])
passed_feed old new before found line end is half rest ended returned =
    let parts = half_is old.after_return line end half in
    let feed : end ≡ line_feed = eqb-true end line_feed parts.2 in
    let none : feeds_after old.after_return (line ++ end ∷ []) ≡ [] = rw (parts.0, parts.1, feed) refl in record {
      whole = is.whole;
      free = is.free;
      rest_free = rw rest is.rest_free;
      layout =
          go_on old before found (line ++ end ∷ []) is
          ∙ ap (λ t. (flat_map fed is.whole ++ old.rest) ++ t) none
          ∙ append-nil (flat_map fed is.whole ++ old.rest)
          ∙ ap (λ t. flat_map fed is.whole ++ t) (sym rest);
      returns = returned ∙ last_returns before line end;
      counted = ended ∙ is.counted;
      read = rw (append-nil found) is.read;
    }

-- bytes of a line that does not end
pub kept_rest : (old new : ReaderState) (before : List ℕ) (found : List Statement) (bytes : List ℕ) → HasRead old before found
    → IsPlain bytes → new.rest ≡ old.rest ++ bytes → new.ended ≡ old.ended → new.after_return ≡ return_kept old.after_return bytes
    → HasRead new (before ++ bytes) (found ++ [])
kept_rest old new before found bytes is plain rest ended returned = record {
  whole = is.whole;
  free = is.free;
  rest_free = rw rest (IsFreeOf-append line_feed old.rest bytes is.rest_free plain.no_feed);
  layout =
      go_on old before found bytes is
      ∙ ap (λ t. (flat_map fed is.whole ++ old.rest) ++ t) (feeds_plain old.after_return bytes plain.no_feed plain.no_return)
      ∙ append_assoc (flat_map fed is.whole) old.rest bytes
      ∙ ap (λ t. flat_map fed is.whole ++ t) (sym rest);
  returns =
      returned ∙ sym (ends_plain old.after_return bytes plain.no_return) ∙ ap (λ r. ends_in_return r bytes) is.returns
      ∙ sym (ends_in_return-append false before bytes);
  counted = ended ∙ is.counted;
  read = rw (append-nil found) is.read;
}
