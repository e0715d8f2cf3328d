-- Reading the subjects of an ordered list, run by run.
use Rattle.std.proofs.Common.{◌≡◌, ℕ, ◌==◌, List, [], ◌∷◌, ◌++◌, map, Bool, true, false, ◌||◌, Option, Some, None, refl, ap, sym, subst, ◌∙◌}
use Rattle.std.specs.Prelude.{if◌then◌else◌}
use Rattle.std.proofs.lemmas.List.{map-append}
use Rattle.std.proofs.lemmas.List.Folds.{list_any-append}
use Rattle.std.proofs.lemmas.Bool.{eqb-true, false_from_ne_true, or_left, or_parts}
use Rattle.std.specs.List.{AllByRecursion}
use Rattle.std.proofs.lemmas.List.Elements.{filter_passes, recursion_from_All}
use Rattle.plain_laws.proofs.Numbers.{equal_itself}
use Rattle.plain_laws.proofs.Truth.{never_both}
use Rattle.cim_words.specs.declared.identifier.Id.{Id}
use Rattle.cim_words.specs.declared.statement.Statement.{Statement}
use Rattle.statement_set.specs.Runs.{TakesSubject}
use Rattle.statement_set.specs.Set.{IsOrdered}
use Rattle.cim_model.specs.Model.{about, is_about, is_subject, subjects}
use Rattle.cim_model.proofs.SubjectWalks.{IsNextRun, IsSplit, is_fresh, split_begins, split_ends, split_step}
use Rattle.cim_records.specs.Found.{found}
use Rattle.cim_records.specs.Subject.{record_in, records, subject_in}
use Rattle.cim_records.specs.declared.subject.Subject.{Subject}
use Rattle.cim_model.proofs.SubjectLists.{listed_as_subject}
use Rattle.cim_records.proofs.Known.{found_map}

-- ---- the subjects of a list and a run after it

abbrev AllAbout : ℕ → List Statement → Type 0
AllAbout x run = AllByRecursion (λ t. is_about x t ≡ true) run

one_more : (x y z : ℕ) (r : Bool) → (y == x) ≡ true → (z == x) ≡ true → (z == y || r) ≡ true
one_more x y z r is other = or_left (z == y) r (let a : y ≡ x = eqb-true y x is in let b : z ≡ x = eqb-true z x other in rw (a, b) (equal_itself x))

run_subjects : (x : ℕ) (t : Statement) (run : List Statement) → AllAbout x (t ∷ run) → subjects (t ∷ run) ≡ x ∷ []
run_subjects x t [] all = ap (λ (n : ℕ). n ∷ []) (eqb-true t.subject.number x all.0)
run_subjects x t (u ∷ run) all =
    rw (one_more x t.subject.number u.subject.number (is_subject run t.subject.number) all.0 all.1.0) (run_subjects x u run all.1)

some_subjects : (x : ℕ) (run : List Statement) → AllAbout x run → is_subject run x ≡ true → subjects run ≡ x ∷ []
some_subjects x [] all some = absurd cc
some_subjects x (t ∷ run) all some = run_subjects x t run all

abbrev HasOne : ℕ → List Statement → Type 0
HasOne x run = (y : ℕ) → is_subject run y ≡ true → y ≡ x

older_one : (y : ℕ) (rest added : List ℕ) (a b : Bool) → a ≡ b → (if a then rest ++ added else y ∷ (rest ++ added)) ≡ (if b then rest else y ∷ rest) ++ added
older_one y rest added a true is = rw is refl
older_one y rest added a false is = rw is refl

only_old : (a b : Bool) → (b ≡ true → ⊥) → (a || b) ≡ a
only_old true b absent = refl
only_old false b absent = false_from_ne_true b absent

subjects_run : (x : ℕ) (done run : List Statement) → subjects run ≡ x ∷ [] → HasOne x run → is_subject done x ≡ false → subjects (done ++ run) ≡ subjects done ++ x ∷ []
subjects_run x [] run is one none = is
subjects_run x (d ∷ rest) run is one none =
    ap (λ (those : List ℕ). if is_subject (rest ++ run) d.subject.number then those else d.subject.number ∷ those) (subjects_run x rest run is one (or_parts _ _ none).1)
    ∙ older_one d.subject.number (subjects rest) (x ∷ []) (is_subject (rest ++ run) d.subject.number) (is_subject rest d.subject.number)
    (list_any-append (is_about d.subject.number) rest run ∙ only_old _ _ (λ h. never_both (is_about x d) (rw (one d.subject.number h) (equal_itself x)) (or_parts (is_about x d) (is_subject rest x) none).0))

-- ---- the reading

-- part of a list has been read, and its subjects stand in the entries
pub record IsReading (m done rest : List Statement) (entries : List (Id × Subject)) : Type 0 where
  pub split : IsSplit m done rest
  pub so_far : entries ≡ map (record_in m) (subjects done)

pub reading_begins : (m left : List Statement) (entries : List (Id × Subject)) → left ≡ m → IsOrdered m → entries ≡ [] → IsReading m [] left entries
reading_begins m left entries same ordered none = record { split = split_begins m left same ordered; so_far = none }

-- no entry has the next subject
new_at : (m done : List Statement) (x : ℕ) (entries : List (Id × Subject)) → entries ≡ map (record_in m) (subjects done) → is_subject done x ≡ false → found entries x ≡ None
new_at m done x entries is none =
    ap (λ (those : List (Id × Subject)). found those x) is
    ∙ found_map (λ (k : ℕ). subject_in (about m k)) (subjects done) x
    ∙ ap (λ (b : Bool). if b then Some (subject_in (about m x)) else None) (listed_as_subject x done ∙ none)

pub entry_is_new : (m done left after them : List Statement) (id : Id) (o : Option (Id × List Statement)) (entries : List (Id × Subject)) → IsReading m done left entries
    → o ≡ Some (id, them) → TakesSubject left o after → found entries id.number ≡ None
entry_is_new m done left after them id o entries reading is taken =
    new_at m done id.number entries reading.so_far (is_fresh done id.number (split_step m done left after them id o reading.split is taken).below)

-- a run has its one subject
subjects_of_run : (m done them after : List Statement) (x : ℕ) → IsNextRun m done them after x → subjects (done ++ them) ≡ subjects done ++ x ∷ []
subjects_of_run m done them after x next =
    subjects_run x done them (some_subjects x them (subst (AllAbout x) (sym next.all) (recursion_from_All (λ t. is_about x t ≡ true) (about m x) (filter_passes (is_about x) m))) next.some) next.one (is_fresh done x next.below)

-- the next run, of which an entry is made
pub reading_steps : (m done left after them : List Statement) (id : Id) (o : Option (Id × List Statement)) (entries now : List (Id × Subject)) (read : Subject) → IsReading m done left entries
    → o ≡ Some (id, them) → TakesSubject left o after → read ≡ subject_in them → now ≡ entries ++ (id, read) ∷ [] → (more : List Statement) × IsReading m more after now
reading_steps m done left after them id o entries now read reading is taken said added =
    let next = split_step m done left after them id o reading.split is taken in (
      done ++ them,
      record {
        split = next.split;
        so_far = added
            ∙ ap (λ (r : Subject). entries ++ (id, r) ∷ []) (said ∙ ap subject_in next.all)
            ∙ ap (λ (those : List (Id × Subject)). those ++ record_in m id.number ∷ []) reading.so_far
            ∙ sym (map-append (record_in m) (subjects done) (id.number ∷ []))
            ∙ ap (map (record_in m)) (sym (subjects_of_run m done them after id.number next));
      },
    )

pub reading_ends : (m done left after : List Statement) (o : Option (Id × List Statement)) (entries : List (Id × Subject)) → IsReading m done left entries → o ≡ None → TakesSubject left o after → entries ≡ records m
reading_ends m done left after o entries reading is taken = reading.so_far ∙ ap (λ (list : List Statement). map (record_in m) (subjects list)) (split_ends m done left after o reading.split is taken)
