-- The written form of a difference is a document that says it: its lines lead from heading to heading.
use Rattle.std.proofs.Common.{◌≡◌, ℕ, ◌+◌, ◌≤◌, ◌==◌, inl, inr, List, [], ◌∷◌, ◌++◌, length, Contains, true, not, Option, Some, None, refl, sym, ap, subst, ◌∙◌, append_assoc, length-append, arith, codes}
use Rattle.std.specs.List.{flat_map, list_all}
use Rattle.std.specs.Option.{option_map}
use Rattle.std.proofs.lemmas.Bool.Decides.{nat_tests}
use Rattle.std.proofs.lemmas.List.{append-nil}
use Rattle.std.proofs.lemmas.List.Sums.{AllPass-from_list_all}
use Rattle.plain_laws.proofs.Members.{contains_first, contains_rest}
use Rattle.cim_words.specs.Held.{IsStatement}
use Rattle.cim_words.specs.Written.{carriage_return, line_feed, line_limit, written, written_line}
use Rattle.cim_words.specs.declared.statement.Statement.{Statement}
use Rattle.nt_text.specs.Cut.{IsFreeOf}
use Rattle.nt_text.specs.Document.{lines_of}
use Rattle.nt_text.specs.Grammar.{is_blank}
use Rattle.nt_text.specs.Reading.{holds, IsReading}
use Rattle.room_words.specs.Differences.{Changes, IsDifference, IsListed, heading_text, most_listed, written_difference, written_under}
use Rattle.room_words.specs.declared.heading.Heading.{Heading}
use Rattle.room_words.specs.declared.heading.Heading.TheVariants as heading
use Rattle.difference.specs.Document.{IsDocument, Lead, MayCome, Standing, at_start, list_of, with_said}

-- ---- no heading has a byte that ends lines

free_by_test : (mark : ℕ) (bytes : List ℕ) → list_all (λ b. not (b == mark)) bytes ≡ true → IsFreeOf mark bytes
free_by_test mark [] all = tt
free_by_test mark (b ∷ bytes) all =
    let heads : not (b == mark) ≡ true = grind (arith, nat_tests) in
    let tails : list_all (λ b. not (b == mark)) bytes ≡ true = grind (arith, nat_tests) in
    ((grind (arith, nat_tests)), free_by_test mark bytes tails)

heading_feedless : (h : Heading) → IsFreeOf line_feed (heading_text h)
heading_feedless heading.Header = free_by_test line_feed (codes "%header") refl
heading_feedless heading.Preconditions = free_by_test line_feed (codes "%preconditions") refl
heading_feedless heading.Reverse = free_by_test line_feed (codes "%reverse") refl
heading_feedless heading.Forward = free_by_test line_feed (codes "%forward") refl
heading_feedless heading.End = free_by_test line_feed (codes "%end") refl

heading_returnless : (h : Heading) → IsFreeOf carriage_return (heading_text h)
heading_returnless heading.Header = free_by_test carriage_return (codes "%header") refl
heading_returnless heading.Preconditions = free_by_test carriage_return (codes "%preconditions") refl
heading_returnless heading.Reverse = free_by_test carriage_return (codes "%reverse") refl
heading_returnless heading.Forward = free_by_test carriage_return (codes "%forward") refl
heading_returnless heading.End = free_by_test carriage_return (codes "%end") refl

-- ---- a list of statements, said under a heading

abbrev with_listed : Heading → List Statement → Changes → Changes
with_listed heading.Header list d = record d { header = d.header ++ list }
with_listed heading.Preconditions list d = record d { pre = d.pre ++ list }
with_listed heading.Reverse list d = record d { rev = d.rev ++ list }
with_listed heading.Forward list d = record d { fwd = d.fwd ++ list }
with_listed heading.End list d = d

listed_none : (h : Heading) (d : Changes) → with_listed h [] d ≡ d
listed_none heading.Header d = ap (λ (list : List Statement). record d { header = list }) (append-nil d.header)
listed_none heading.Preconditions d = ap (λ (list : List Statement). record d { pre = list }) (append-nil d.pre)
listed_none heading.Reverse d = ap (λ (list : List Statement). record d { rev = list }) (append-nil d.rev)
listed_none heading.Forward d = ap (λ (list : List Statement). record d { fwd = list }) (append-nil d.fwd)
listed_none heading.End d = refl

listed_more : (h : Heading) (s : Statement) (list : List Statement) (d : Changes) → with_listed h list (with_said h s d) ≡ with_listed h (s ∷ list) d
listed_more heading.Header s list d = ap (λ (list : List Statement). record d { header = list }) (append_assoc d.header (s ∷ []) list)
listed_more heading.Preconditions s list d = ap (λ (list : List Statement). record d { pre = list }) (append_assoc d.pre (s ∷ []) list)
listed_more heading.Reverse s list d = ap (λ (list : List Statement). record d { rev = list }) (append_assoc d.rev (s ∷ []) list)
listed_more heading.Forward s list d = ap (λ (list : List Statement). record d { fwd = list }) (append_assoc d.fwd (s ∷ []) list)
listed_more heading.End s list d = refl

list_grows : (h : Heading) (s : Statement) (d : Changes) (listed : List Statement) → list_of (Some h) d ≡ Some listed → list_of (Some h) (with_said h s d) ≡ Some (listed ++ s ∷ [])
list_grows heading.Header s d listed is = ap (λ (o : Option (List Statement)). option_map (λ (list : List Statement). list ++ s ∷ []) o) is
list_grows heading.Preconditions s d listed is = ap (λ (o : Option (List Statement)). option_map (λ (list : List Statement). list ++ s ∷ []) o) is
list_grows heading.Reverse s d listed is = ap (λ (o : Option (List Statement)). option_map (λ (list : List Statement). list ++ s ∷ []) o) is
list_grows heading.Forward s d listed is = ap (λ (o : Option (List Statement)). option_map (λ (list : List Statement). list ++ s ∷ []) o) is
list_grows heading.End s d listed is = absurd (let none : None ≡ Some listed = is in cc)

-- ---- the lines of what is written

-- what is known of the lines of a document and of those of statements
pub record Lined : Type 0 where
  pub none : lines_of [] ≡ []
  pub first : (line rest : List ℕ) → IsFreeOf line_feed line → IsFreeOf carriage_return line → lines_of (line ++ line_feed ∷ rest) ≡ line ∷ lines_of rest
  pub no_feed : (s : Statement) → IsFreeOf line_feed (written_line s)
  pub no_return : (s : Statement) → IsFreeOf carriage_return (written_line s)
  pub reads : (s : Statement) → IsStatement s → length (written_line s) ≤ line_limit → IsReading (written_line s) (holds s)

module _ (lined : Lined) where
  heading_first : (h : Heading) (rest : List ℕ) → lines_of (heading_text h ++ line_feed ∷ rest) ≡ heading_text h ∷ lines_of rest
  heading_first h rest = lined.first (heading_text h) rest (heading_feedless h) (heading_returnless h)

  statement_first : (s : Statement) (list : List Statement) (rest : List ℕ) → lines_of (flat_map written (s ∷ list) ++ rest) ≡ written_line s ∷ lines_of (flat_map written list ++ rest)
  statement_first s list rest =
      let parts : flat_map written (s ∷ list) ++ rest ≡ written_line s ++ line_feed ∷ (flat_map written list ++ rest) = simp append_assoc in
      ap lines_of parts ∙ lined.first (written_line s) (flat_map written list ++ rest) (lined.no_feed s) (lined.no_return s)

  leads_under : (h : Heading) (list listed : List Statement) (d : Changes) (rest : List ℕ) (end : Standing)
      → list_of (Some h) d ≡ Some listed → length listed + length list ≤ most_listed
      → ((s : Statement) → Contains list s → IsStatement s) → ((s : Statement) → Contains list s → length (written_line s) ≤ line_limit)
      → Lead (lines_of rest) (record { under = Some h; said = with_listed h list d }) end
      → Lead (lines_of (flat_map written list ++ rest)) (record { under = Some h; said = d }) end
  leads_under h [] listed d rest end is few possible narrow leads =
      subst (λ (said : Changes). Lead (lines_of rest) (record { under = Some h; said = said }) end) (listed_none h d) leads
  leads_under h (s ∷ list) listed d rest end is few possible narrow leads =
      rw (statement_first s list rest) (
        record { under = Some h; said = with_said h s d },
        inr (inr (record {
          last = h;
          statement = s;
          listed = listed;
          under = refl;
          list = is;
          room = omega arith;
          reads = lined.reads s (possible s (contains_first s list)) (narrow s (contains_first s list));
          leads = refl;
        })),
        leads_under h list (listed ++ s ∷ []) (with_said h s d) rest end (list_grows h s d listed is) (omega (arith, length-append listed (s ∷ [])))
            (λ t there. possible t (contains_rest s list t there)) (λ t there. narrow t (contains_rest s list t there))
            (subst (λ (said : Changes). Lead (lines_of rest) (record { under = Some h; said = said }) end) (sym (listed_more h s list d)) leads),
      )

  -- a heading that may come
  leads_in : (h : Heading) (under : Option Heading) (d : Changes) (rest : List ℕ) (end : Standing) → MayCome under h
      → Lead (lines_of rest) (record { under = Some h; said = d }) end
      → Lead (lines_of (heading_text h ++ line_feed ∷ rest)) (record { under = under; said = d }) end
  leads_in h under d rest end may leads =
      rw (heading_first h rest) (
        record { under = Some h; said = d },
        inr (inl (record {
          named = h;
          is = record { gap = []; layout = sym (append-nil (heading_text h)); blank = AllPass-from_list_all is_blank [] refl };
          may = may;
          leads = refl;
        })),
        leads,
      )

  -- a heading that may come, and its statements, where its list is still empty
  leads_through : (h : Heading) (under : Option Heading) (list : List Statement) (d : Changes) (rest : List ℕ) (end : Standing) → MayCome under h
      → list_of (Some h) d ≡ Some [] → IsListed list
      → Lead (lines_of rest) (record { under = Some h; said = with_listed h list d }) end
      → Lead (lines_of (written_under h list ++ rest)) (record { under = under; said = d }) end
  leads_through h under list d rest end may empty is leads =
      let parts : written_under h list ++ rest ≡ heading_text h ++ line_feed ∷ (flat_map written list ++ rest) = append_assoc (heading_text h) (line_feed ∷ flat_map written list) rest in
      rw parts (leads_in h under d (flat_map written list ++ rest) end may (leads_under h list [] d rest end empty (omega (arith, is.few)) is.possible is.narrow leads))

  -- the last heading, and nothing after it
  leads_out : (under : Option Heading) (d : Changes) → MayCome under heading.End
      → Lead (lines_of (written_under heading.End [])) (record { under = under; said = d }) (record { under = Some heading.End; said = d })
  leads_out under d may =
      let end : Standing = record { under = Some heading.End; said = d } in
      leads_in heading.End under d [] end may (subst (λ (lines : List (List ℕ)). Lead lines end end) (sym lined.none) refl)

  pub written_is_document : (d : Changes) → IsDifference d → IsDocument (written_difference d) d
  unfolding written_difference
  written_is_document d is = record { short = is.short; lines = rw (parted header pre rev fwd last) in_order; written = is.short }
    where
      parted : (a b c d e : List ℕ) → a ++ b ++ c ++ d ++ e ≡ a ++ (b ++ (c ++ (d ++ e)))
      parted a b c d e = simp append_assoc

      header : List ℕ
      header = written_under heading.Header d.header

      pre : List ℕ
      pre = written_under heading.Preconditions d.pre

      rev : List ℕ
      rev = written_under heading.Reverse d.rev

      fwd : List ℕ
      fwd = written_under heading.Forward d.fwd

      last : List ℕ
      last = written_under heading.End []

      end : Standing
      end = record { under = Some heading.End; said = d }

      in_order : Lead (lines_of (header ++ (pre ++ (rev ++ (fwd ++ last))))) at_start end
      in_order =
          leads_through heading.Header None d.header (record { header = []; pre = []; rev = []; fwd = [] }) (pre ++ (rev ++ (fwd ++ last))) end tt refl is.header
          (leads_through heading.Preconditions (Some heading.Header) d.pre (record { header = d.header; pre = []; rev = []; fwd = [] }) (rev ++ (fwd ++ last)) end (omega arith) refl is.pre
          (leads_through heading.Reverse (Some heading.Preconditions) d.rev (record { header = d.header; pre = d.pre; rev = []; fwd = [] }) (fwd ++ last) end (omega arith) refl is.rev
          (leads_through heading.Forward (Some heading.Reverse) d.fwd (record { header = d.header; pre = d.pre; rev = d.rev; fwd = [] }) last end (omega arith) refl is.fwd
          (leads_out (Some heading.Forward) d (omega arith)))))
