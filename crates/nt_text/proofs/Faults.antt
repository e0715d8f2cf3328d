-- What a reader's faults say of the document, and what the end of a document says.
use Rattle.std.proofs.Common.{◌≡◌, ℕ, ◌+◌, ◌<◌, ◌==◌, List, [], ◌∷◌, ◌++◌, false, length, refl, sym, ap, ◌∙◌, subst, append_assoc, append-nil, length-append, arith}
use Rattle.std.specs.List.{flat_map}
use Rattle.cim_words.specs.Written.{carriage_return, line_feed, line_limit}
use Rattle.cim_words.specs.declared.statement.Statement.{Statement}
use Rattle.nt_text.specs.Cut.{IsFreeOf}
use Rattle.nt_text.specs.Document.{feeds_after, cut_at_feeds, lines_of, AreRead, IsDocument}
use Rattle.nt_text.specs.Reader.{ReaderState, HasRead, HasFailed, IsFaultOf, ends_in_return}
use Rattle.nt_text.specs.ReaderSteps.{IsPlain, IsEnd, is_half, last_line, IsLineFault}
use Rattle.nt_text.specs.declared.refusal.LineRefusal.TheVariants as why
use Rattle.nt_text.specs.declared.refusal.NtFault.{NtFault}
use Rattle.nt_text.specs.declared.refusal.NtFault.TheVariants as fault
use Rattle.nt_text.proofs.Cuts.{IsFreeOf-append}
use Rattle.nt_text.proofs.Documents.{feeds_plain, fed, cut_line, cut_whole, cut_last, Fronts, fronts, AreRead-append, feeds_after-append}
use Rattle.nt_text.proofs.TakenBytes.{go_on, line_feeds}

-- the lines of a document whose front was read
pub lines_on : (state : ReaderState) (before : List ℕ) (found : List Statement) (bytes : List ℕ) (is : HasRead state before found)
    → lines_of (before ++ bytes) ≡ is.whole ++ cut_at_feeds (state.rest ++ feeds_after state.after_return bytes)
unfolding lines_of
lines_on state before found bytes is =
    ap cut_at_feeds (go_on state before found bytes is ∙ append_assoc (flat_map fed is.whole) state.rest (feeds_after state.after_return bytes))
    ∙ cut_whole is.whole (state.rest ++ feeds_after state.after_return bytes) is.free

-- a fault stays that of the document
pub fails_on : (f : NtFault) (bytes : List ℕ) (found : List Statement) (more : List ℕ) → HasFailed f bytes found → HasFailed f (bytes ++ more) found
fails_on (fault.Line number why) bytes found more failed = λ later. rw append_assoc (failed (more ++ later))
fails_on fault.NoMemory bytes found more failed = λ later. rw append_assoc (failed (more ++ later))

pub is_fault_of : (f : NtFault) (bytes : List ℕ) (found : List Statement) → HasFailed f bytes found → IsFaultOf f bytes (found ++ [])
is_fault_of (fault.Line number why) bytes found failed = let at = failed [] in rw (append-nil found) (rw (append-nil bytes) at at)
is_fault_of fault.NoMemory bytes found failed = let at = failed [] in rw (append-nil found) (rw (append-nil bytes) at at)

-- reading may stop anywhere
pub stops : (state : ReaderState) (before : List ℕ) (found : List Statement) (bytes : List ℕ) → HasRead state before found → HasFailed fault.NoMemory (before ++ bytes) found
stops state before found bytes is = λ later. record {
  before = is.whole;
  after = cut_at_feeds (state.rest ++ feeds_after state.after_return (bytes ++ later));
  lines = ap lines_of (append_assoc before bytes later) ∙ lines_on state before found (bytes ++ later) is;
  read = is.read;
}

-- a line that ends is bad
pub line_fails : (f : NtFault) (state : ReaderState) (before : List ℕ) (found : List Statement) (line : List ℕ) (end : ℕ) → HasRead state before found
    → IsPlain line → IsEnd end → is_half state.after_return line end ≡ false → IsLineFault f (state.ended + 1) (state.rest ++ line)
    → HasFailed f (before ++ (line ++ end ∷ [])) found
line_fails fault.NoMemory state before found line end is plain ends whole bad = stops state before found (line ++ end ∷ []) is
line_fails (fault.Line number why) state before found line end is plain ends whole bad = λ later.
    let after = cut_at_feeds (feeds_after (end == carriage_return) later) in record {
      before = is.whole;
      bad = state.rest ++ line;
      after = after;
      lines =
          ap lines_of (append_assoc before (line ++ end ∷ []) later ∙ ap (λ t. before ++ t) (append_assoc line (end ∷ []) later))
          ∙ lines_on state before found (line ++ end ∷ later) is
          ∙ ap (λ t. is.whole ++ cut_at_feeds (state.rest ++ t)) (line_feeds state.after_return line end later plain ends whole)
          ∙ ap (λ t. is.whole ++ cut_at_feeds t) (sym (append_assoc state.rest line (line_feed ∷ feeds_after (end == carriage_return) later)))
          ∙ ap (λ t. is.whole ++ t) (cut_line (state.rest ++ line) (feeds_after (end == carriage_return) later)
          (IsFreeOf-append line_feed state.rest line is.rest_free plain.no_feed));
      counted = bad.0 ∙ ap (λ n. n + 1) is.counted;
      read = is.read;
      refuses = bad.1;
    }

long_fronts : (bytes rest : List ℕ) → IsFreeOf line_feed bytes → line_limit < length bytes → Fronts bytes (bytes ++ rest)
long_fronts [] rest free long = absurd (omega arith)
long_fronts (byte ∷ bytes) rest free long = fronts byte bytes rest free

long_more : (bytes more : List ℕ) → line_limit < length bytes → line_limit < length (bytes ++ more)
long_more bytes more long = omega (arith, length-append bytes more)

-- a line that does not end is too long
pub long_fails : (state : ReaderState) (before : List ℕ) (found : List Statement) (bytes : List ℕ) → HasRead state before found → IsPlain bytes
    → line_limit < length (state.rest ++ bytes) → HasFailed (fault.Line (state.ended + 1) why.LineTooLong) (before ++ bytes) found
long_fails state before found bytes is plain long = λ later.
    let free = IsFreeOf-append line_feed state.rest bytes is.rest_free plain.no_feed in
    let behind = feeds_after (ends_in_return state.after_return bytes) later in
    let front = long_fronts (state.rest ++ bytes) behind free long in record {
      before = is.whole;
      bad = (state.rest ++ bytes) ++ front.more;
      after = front.others;
      lines =
          ap lines_of (append_assoc before bytes later)
          ∙ lines_on state before found (bytes ++ later) is
          ∙ ap (λ t. is.whole ++ cut_at_feeds (state.rest ++ t))
          (feeds_after-append state.after_return bytes later ∙ ap (λ t. t ++ behind) (feeds_plain state.after_return bytes plain.no_feed plain.no_return))
          ∙ ap (λ t. is.whole ++ cut_at_feeds t) (sym (append_assoc state.rest bytes behind))
          ∙ ap (λ t. is.whole ++ t) front.lines;
      counted = ap (λ n. n + 1) is.counted;
      read = is.read;
      refuses = long_more (state.rest ++ bytes) front.more long;
    }

-- the lines of a document that was read to its end
lines_all : (state : ReaderState) (bytes : List ℕ) (found : List Statement) (is : HasRead state bytes found) → lines_of bytes ≡ is.whole ++ last_line state.rest
unfolding lines_of
lines_all state bytes found is =
    ap cut_at_feeds is.layout ∙ cut_whole is.whole state.rest is.free ∙ ap (λ t. is.whole ++ t) (cut_last state.rest is.rest_free)

-- the last line, if there is one, is read
pub ends_document : (state : ReaderState) (bytes : List ℕ) (found more : List Statement) → HasRead state bytes found → AreRead (last_line state.rest) more
    → IsDocument bytes (found ++ more)
ends_document state bytes found more is reads =
    let P : List (List ℕ) → Type 0 = λ lines. AreRead lines (found ++ more) in
    subst P (sym (lines_all state bytes found is)) (AreRead-append is.whole (last_line state.rest) found more is.read reads)

-- bytes after the last end
pub last_one : (rest : List ℕ) → 0 < length rest → last_line rest ≡ rest ∷ []
last_one [] some = absurd (omega arith)
last_one (byte ∷ rest) some = refl

-- the last line is bad
pub last_fails : (f : NtFault) (state : ReaderState) (bytes : List ℕ) (found : List Statement) → HasRead state bytes found → 0 < length state.rest
    → IsLineFault f (state.ended + 1) state.rest → IsFaultOf f bytes found
last_fails fault.NoMemory state bytes found is some bad = record {
  before = is.whole;
  after = last_line state.rest;
  lines = lines_all state bytes found is;
  read = is.read;
}
last_fails (fault.Line number why) state bytes found is some bad = record {
  before = is.whole;
  bad = state.rest;
  after = [];
  lines = lines_all state bytes found is ∙ ap (λ t. is.whole ++ t) (last_one state.rest some);
  counted = bad.0 ∙ ap (λ n. n + 1) is.counted;
  read = is.read;
  refuses = bad.1;
}
