-- Documents: the ends of lines, the lines between them, and what they hold, piece by piece.
use Rattle.std.proofs.Common.{◌≡◌, ◌≢◌, ℕ, ◌==◌, List, [], ◌∷◌, ◌++◌, Bool, true, false, refl, ap, ◌∙◌, inl, inr, append_assoc}
use Rattle.std.proofs.lemmas.Bool.{ne_eqb}
use Rattle.std.specs.List.{flat_map, AllByRecursion}
use Rattle.cim_words.specs.Written.{line_feed, carriage_return}
use Rattle.cim_words.specs.declared.statement.Statement.{Statement}
use Rattle.nt_text.specs.Cut.{IsFreeOf}
use Rattle.nt_text.specs.Document.{feeds_after, cut_at_feeds, AreRead}
use Rattle.nt_text.specs.Reader.{ends_in_return}
use Rattle.nt_text.specs.ReaderSteps.{last_line}
use Rattle.nt_text.specs.Reading.{IsReading, holds}

feeds_step : (r c l : Bool) (byte : ℕ) (xs ys : List ℕ) → (byte == carriage_return) ≡ c → (byte == line_feed) ≡ l
    → ((q : Bool) → feeds_after q (xs ++ ys) ≡ feeds_after q xs ++ feeds_after (ends_in_return q xs) ys)
    → feeds_after r ((byte ∷ xs) ++ ys) ≡ feeds_after r (byte ∷ xs) ++ feeds_after (ends_in_return r (byte ∷ xs)) ys
feeds_step r true l byte xs ys hc hl rest = rw hc (ap (λ t. line_feed ∷ t) (rest true))
feeds_step true false true byte xs ys hc hl rest = rw (hc, hl) (rest false)
feeds_step false false true byte xs ys hc hl rest = rw (hc, hl) (ap (λ t. line_feed ∷ t) (rest false))
feeds_step r false false byte xs ys hc hl rest = rw (hc, hl) (ap (λ t. byte ∷ t) (rest false))

-- the ends of the lines of bytes and of bytes after them
pub feeds_after-append : (r : Bool) (xs ys : List ℕ) → feeds_after r (xs ++ ys) ≡ feeds_after r xs ++ feeds_after (ends_in_return r xs) ys
feeds_after-append r [] ys = refl
feeds_after-append r (byte ∷ xs) ys =
    feeds_step r (byte == carriage_return) (byte == line_feed) byte xs ys refl refl (λ q. feeds_after-append q xs ys)

pub ends_in_return-append : (r : Bool) (xs ys : List ℕ) → ends_in_return r (xs ++ ys) ≡ ends_in_return (ends_in_return r xs) ys
ends_in_return-append r [] ys = refl
ends_in_return-append r (byte ∷ xs) ys = ends_in_return-append (byte == carriage_return) xs ys

-- bytes with neither mark have no ends
pub feeds_plain : (r : Bool) (line : List ℕ) → IsFreeOf line_feed line → IsFreeOf carriage_return line → feeds_after r line ≡ line
feeds_plain r [] free free' = refl
feeds_plain r (byte ∷ line) free free' =
    let hc : (byte == carriage_return) ≡ false = ne_eqb byte carriage_return free'.0 in
    let hl : (byte == line_feed) ≡ false = ne_eqb byte line_feed free.0 in
    rw (hc, hl) (ap (λ t. byte ∷ t) (feeds_plain false line free.1 free'.1))

-- whether a CR comes last, after bytes without one
abbrev pub return_kept : Bool → List ℕ → Bool
return_kept r [] = r
return_kept r (byte ∷ line) = false

pub ends_plain : (r : Bool) (line : List ℕ) → IsFreeOf carriage_return line → ends_in_return r line ≡ return_kept r line
ends_plain r [] free = refl
ends_plain r (byte ∷ []) free = ne_eqb byte carriage_return free.0
ends_plain r (byte ∷ next ∷ line) free = ends_plain false (next ∷ line) free.1

-- a line ends at its first line feed
pub cut_line : (line rest : List ℕ) → IsFreeOf line_feed line → cut_at_feeds (line ++ line_feed ∷ rest) ≡ line ∷ cut_at_feeds rest
cut_line [] rest free = refl
cut_line (byte ∷ line) rest free =
    let hl : (byte == line_feed) ≡ false = ne_eqb byte line_feed free.0 in rw (hl, cut_line line rest free.1) refl

-- whole lines, each before its line feed
abbrev pub fed : List ℕ → List ℕ
fed line = line ++ line_feed ∷ []

pub cut_whole : (whole : List (List ℕ)) (rest : List ℕ) → AllByRecursion (IsFreeOf line_feed) whole
    → cut_at_feeds (flat_map fed whole ++ rest) ≡ whole ++ cut_at_feeds rest
cut_whole [] rest free = refl
cut_whole (line ∷ whole) rest free =
    let parts : (fed line ++ flat_map fed whole) ++ rest ≡ line ++ (line_feed ∷ (flat_map fed whole ++ rest)) = simp append_assoc in
    ap cut_at_feeds parts ∙ cut_line line (flat_map fed whole ++ rest) free.0 ∙ ap (λ t. line ∷ t) (cut_whole whole rest free.1)

-- a rest without a line feed is one line, if it has bytes
pub cut_last : (line : List ℕ) → IsFreeOf line_feed line → cut_at_feeds line ≡ last_line line
cut_last [] free = refl
cut_last (byte ∷ []) free = let hl : (byte == line_feed) ≡ false = ne_eqb byte line_feed free.0 in rw hl refl
cut_last (byte ∷ next ∷ line) free =
    let hl : (byte == line_feed) ≡ false = ne_eqb byte line_feed free.0 in rw (hl, cut_last (next ∷ line) free.1) refl

-- bytes without a line feed stand at the front of the first line
pub record Fronts (front bytes : List ℕ) : Type 0 where
  pub more : List ℕ
  pub others : List (List ℕ)
  pub lines : cut_at_feeds bytes ≡ (front ++ more) ∷ others

fronts_one : (byte : ℕ) (rest : List ℕ) (lines : List (List ℕ)) → byte ≢ line_feed → cut_at_feeds rest ≡ lines → Fronts (byte ∷ []) (byte ∷ rest)
fronts_one byte rest [] free cut =
    let hl : (byte == line_feed) ≡ false = ne_eqb byte line_feed free in record { more = []; others = []; lines = rw (hl, cut) refl }
fronts_one byte rest (line ∷ lines) free cut =
    let hl : (byte == line_feed) ≡ false = ne_eqb byte line_feed free in record { more = line; others = lines; lines = rw (hl, cut) refl }

pub fronts : (byte : ℕ) (front rest : List ℕ) → IsFreeOf line_feed (byte ∷ front) → Fronts (byte ∷ front) ((byte ∷ front) ++ rest)
fronts byte [] rest free = fronts_one byte rest (cut_at_feeds rest) free.0 refl
fronts byte (next ∷ front) rest free =
    let behind = fronts next front rest free.1 in
    let hl : (byte == line_feed) ≡ false = ne_eqb byte line_feed free.0 in
    record { more = behind.more; others = behind.others; lines = rw (hl, behind.lines) refl }

-- lines and then more lines hold statements and then more statements
pub AreRead-append : (a b : List (List ℕ)) (s t : List Statement) → AreRead a s → AreRead b t → AreRead (a ++ b) (s ++ t)
AreRead-append [] b s t is is' = rw is is'
AreRead-append (line ∷ a) b s t (inl is) is' = inl (is.0, AreRead-append a b s t is.1 is')
AreRead-append (line ∷ a) b s t (inr is) is' =
    inr (is.0, is.1 ++ t, is.2, ap (λ l. l ++ t) is.3, AreRead-append a b is.1 t is.4 is')

pub reads_one : (line : List ℕ) (s : Statement) → IsReading line (holds s) → AreRead (line ∷ []) (s ∷ [])
reads_one line s is = inr (s, [], is, refl, refl)
