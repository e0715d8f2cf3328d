-- Runs of bytes at the front, and the forms of a line that begin after a gap.
use Rattle.std.proofs.Common.{◌≡◌, ◌≢◌, ℕ, zero, suc, List, [], ◌∷◌, ◌++◌, Bool, true, false, if◌then◌else◌, IsTrue, refl, sym, ap, ◌∙◌, arith, codes, inl, inr, Option, Some, None, MatchOption, IfSome, IsSomeAnd, is_some, Bor}
use Rattle.std.proofs.lemmas.Bool.Decides.{nat_tests}
use Rattle.std.proofs.lemmas.List.{append_cancel_left}
use Rattle.std.specs.List.{AllPass}
use Rattle.nt_text.specs.Grammar.{is_blank, IsComment, IsEmptyLine, IsEnd, BeginsBlankNode}
use Rattle.nt_text.specs.Run.{behind_run, begins_no_term}

-- the first byte of bytes that pass, and the others
pub head_passes : (test : ℕ → Bool) (byte : ℕ) (bytes : List ℕ) → AllPass test (byte ∷ bytes) → test byte ≡ true
head_passes test byte bytes all = all 0 0 (omega arith)

pub tail_passes : (test : ℕ → Bool) (byte : ℕ) (bytes : List ℕ) → AllPass test (byte ∷ bytes) → AllPass test bytes
tail_passes test byte bytes all k d within = all (suc k) d (omega arith)

pub cons_passes : (test : ℕ → Bool) (byte : ℕ) (bytes : List ℕ) → test byte ≡ true → AllPass test bytes → AllPass test (byte ∷ bytes)
cons_passes test byte bytes here all zero d within = here
cons_passes test byte bytes here all (suc k) d within = all k d (omega arith)

pub none_pass : (test : ℕ → Bool) → AllPass test []
none_pass test k d within = absurd (omega arith)

-- a run at the front is passed over
pub behind_run-append : (test : ℕ → Bool) (front rest : List ℕ) → AllPass test front → behind_run test (front ++ rest) ≡ behind_run test rest
behind_run-append test [] rest all = refl
behind_run-append test (byte ∷ front) rest all = rw (head_passes test byte front all) (behind_run-append test front rest (tail_passes test byte front all))

-- bytes are a run and what stands after it
pub record HasRun (test : ℕ → Bool) (bytes rest : List ℕ) : Type 0 where
  pub run : List ℕ
  pub passes : AllPass test run
  pub layout : bytes ≡ run ++ rest

run_here : (test : ℕ → Bool) (byte : ℕ) (bytes : List ℕ) (here : Bool) → test byte ≡ here → HasRun test bytes (behind_run test bytes)
    → HasRun test (byte ∷ bytes) (if here then behind_run test bytes else byte ∷ bytes)
run_here test byte bytes true is more = record {
  run = byte ∷ more.run;
  passes = cons_passes test byte more.run is more.passes;
  layout = ap (λ (l : List ℕ). byte ∷ l) more.layout;
}
run_here test byte bytes false is more = record { run = []; passes = none_pass test; layout = refl }

pub run_of : (test : ℕ → Bool) (bytes : List ℕ) → HasRun test bytes (behind_run test bytes)
run_of test [] = record { run = []; passes = none_pass test; layout = refl }
run_of test (byte ∷ bytes) = run_here test byte bytes (test byte) refl (run_of test bytes)

-- a line that says nothing is one where no term begins after the gap
comment_is : (rest : List ℕ) → begins_no_term rest ≡ true → IsComment rest
comment_is [] none = inl refl
comment_is (byte ∷ rest) none = let same : byte ≡ 0x23 = grind (arith, nat_tests) in inr (rest, ap (λ (b : ℕ). b ∷ rest) same)

pub empty_line_from : (bytes : List ℕ) → begins_no_term (behind_run is_blank bytes) ≡ true → IsEmptyLine bytes
empty_line_from bytes none =
    let gap = run_of is_blank bytes in
    record { gap = gap.run; comment = behind_run is_blank bytes; blank = gap.passes; ends = comment_is (behind_run is_blank bytes) none; layout = gap.layout }

comment_begins : (comment : List ℕ) → IsComment comment → begins_no_term (behind_run is_blank comment) ≡ true
comment_begins comment ends = elim ends as (λ _. begins_no_term (behind_run is_blank comment) ≡ true) [
  | inl is ↦ rw is refl
  | inr text ↦ rw text.1 refl
]

pub empty_line_begins : (bytes : List ℕ) → IsEmptyLine bytes → begins_no_term (behind_run is_blank bytes) ≡ true
empty_line_begins bytes empty =
    ap (λ (l : List ℕ). begins_no_term (behind_run is_blank l)) empty.layout
    ∙ ap begins_no_term (behind_run-append is_blank empty.gap empty.comment empty.blank)
    ∙ comment_begins empty.comment empty.ends

-- the end of a triple begins with a point after the gap
pub end_from : (bytes after : List ℕ) → behind_run is_blank bytes ≡ codes "." ++ after → IsEmptyLine after → IsEnd bytes
end_from bytes after is empty =
    let gap = run_of is_blank bytes in
    record { gap = gap.run; after = after; blank = gap.passes; nothing = empty; layout = gap.layout ∙ ap (λ (l : List ℕ). gap.run ++ l) is }

pub end_begins : (bytes : List ℕ) (end : IsEnd bytes) → behind_run is_blank bytes ≡ codes "." ++ end.after
end_begins bytes end = ap (behind_run is_blank) end.layout ∙ behind_run-append is_blank end.gap (codes "." ++ end.after) end.blank

-- a blank node begins with its mark after the gap
pub blank_node_from : (bytes after : List ℕ) → behind_run is_blank bytes ≡ codes "_:" ++ after → BeginsBlankNode bytes
blank_node_from bytes after is =
    let gap = run_of is_blank bytes in
    record { gap = gap.run; after = after; blank = gap.passes; layout = gap.layout ∙ ap (λ (l : List ℕ). gap.run ++ l) is }

pub blank_node_begins : (bytes : List ℕ) (node : BeginsBlankNode bytes) → behind_run is_blank bytes ≡ codes "_:" ++ node.after
blank_node_begins bytes node = ap (behind_run is_blank) node.layout ∙ behind_run-append is_blank node.gap (codes "_:" ++ node.after) node.blank

-- what is stripped of a mark is what stands after it
pub stripped_found : (o : Option (Bor (List ℕ))) (front bytes mark : List ℕ) → bytes ≡ front
    → MatchOption o ((rest : List ℕ) → bytes ≢ mark ++ rest) (λ x. bytes ≡ mark ++ x.now) → IfSome o (λ x. front ≡ mark ++ x.now)
stripped_found None front bytes mark same is = tt
stripped_found (Some x) front bytes mark same is = sym same ∙ is

pub stripped_only : (o : Option (Bor (List ℕ))) (front bytes mark rest : List ℕ) → bytes ≡ front
    → MatchOption o ((rest : List ℕ) → bytes ≢ mark ++ rest) (λ x. bytes ≡ mark ++ x.now) → front ≡ mark ++ rest → IsSomeAnd o (λ x. x.now ≡ rest)
stripped_only None front bytes mark rest same is stands = is rest (same ∙ stands)
stripped_only (Some x) front bytes mark rest same is stands = append_cancel_left mark x.now rest (sym is ∙ same ∙ stands)

-- a mark stands there where something is found after it
pub blank_node_found : (o : Option (Bor (List ℕ))) (bytes : List ℕ) → IfSome o (λ x. behind_run is_blank bytes ≡ codes "_:" ++ x.now) → IsTrue (is_some o) → BeginsBlankNode bytes
blank_node_found None bytes found is = absurd (let e : false ≡ true = is in cc)
blank_node_found (Some x) bytes found is = blank_node_from bytes x.now found

pub blank_node_only : (o : Option (Bor (List ℕ))) (bytes : List ℕ) → ((rest : List ℕ) → behind_run is_blank bytes ≡ codes "_:" ++ rest → IsSomeAnd o (λ x. x.now ≡ rest))
    → BeginsBlankNode bytes → IsTrue (is_some o)
blank_node_only None bytes only node = absurd (only node.after (blank_node_begins bytes node))
blank_node_only (Some x) bytes only node = refl
