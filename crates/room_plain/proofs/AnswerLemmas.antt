-- From what is known of the files that were read to the answer.
use Rattle.std.proofs.Common.{◌≡◌, ◌≢◌, ◌⊎◌, ℕ, inl, inr, List, [], ◌∷◌, Option, Some, None, Result, Ok, Err, IfOk, IfSome, IfErr, IsErrAnd, IsTrue, ap, refl, sym, subst}
use Rattle.cim_words.specs.declared.statement.Statement.{Statement}
use Rattle.grid_out.specs.Shelf.{AsksFor}
use Rattle.grid_out.specs.Sink.{Gains, Hands}
use Rattle.grid_out.proofs.NoteLaws.{grows_nothing}
use Rattle.grid_out.proofs.SinkLaws.{gains_nothing}
use Rattle.history_writer.specs.Sending.{OutputState}
use Rattle.room_base.specs.Base.{IsBase, RefusesBase}
use Rattle.room_base.specs.Files.{AreContents, RefusesFiles}
use Rattle.room_base.specs.Refusal.{IfRefusal}
use Rattle.room_base.specs.Status.{line_of, status_of}
use Rattle.room_base.specs.declared.refusal.BaseRefusal.TheVariants as base
use Rattle.room_base.specs.declared.refusal.Failure.{Failure}
use Rattle.room_base.specs.declared.refusal.Failure.TheVariants as failure
use Rattle.room_base.specs.declared.refusal.Refusal.{Refusal}
use Rattle.room_base.specs.declared.refusal.Refusal.TheVariants as refusal
use Rattle.room_base.specs.declared.refusal.TaskRefusal.TheVariants as of_task
use Rattle.room_base.specs.declared.status.Status.{Status}
use Rattle.room_base.specs.declared.status.Status.TheVariants as status
use Rattle.room_base.proofs.FileLemmas.{read_short}
use Rattle.room_plain.specs.Ending.{IsSaid, IsDone, IsTold, IsUntold, ending}
use Rattle.room_base.specs.Refusing.{GainsAtMost, pieces_of}
use Rattle.room_plain.specs.Run.{AreNames, Asks, Explains, HandsTask, Reads, ends_early}
use Rattle.room_plain.specs.declared.task.Task.{Task}

-- a task over a set of a base is a task over its bytes
pub over_base : (bytes : List ℕ) (asked same : Task) (contents : List (List ℕ)) (set : List Statement) (s : Status) (before after : OutputState) → asked ≡ same → IsBase bytes set
    → IsDone same set contents s before after → IsTold bytes asked contents s before after
over_base bytes asked same contents set s before after is base tells =
    let P : Task → Type 0 = λ t. IsTold bytes t contents s before after in
    subst P (sym is) (set, base, tells)

-- ---- from bytes to words

-- what holds of the bytes that were read holds of what the shelf told
told_of : (P : List ℕ → Type 0) (told : Option (List ℕ)) (bytes : List ℕ) → IfSome told (λ b. bytes ≡ b) → P bytes → IfSome told P
told_of P None bytes is holds = tt
told_of P (Some b) bytes is holds = subst P is holds

-- the files of a command, as they were read
pub record WereRead (content : List ℕ → Option (List ℕ)) (words : List (List ℕ)) (asks : Asks words) (bytes : List ℕ) (contents : List (List ℕ)) : Type 0 where
  pub base : IfSome (content asks.name) (λ b. bytes ≡ b)
  pub further : AreContents content asks.more contents

abbrev reads_of : (content : List ℕ → Option (List ℕ)) (words : List (List ℕ)) (asks : Asks words) (bytes : List ℕ) (contents : List (List ℕ)) (set : List Statement)
    → WereRead content words asks bytes contents → IsBase bytes set → Reads content words
reads_of content words asks bytes contents set were is =
    record { asks = asks; contents = contents; further = were.further; set = set; of_base = told_of (λ b. IsBase b set) (content asks.name) bytes were.base is }

-- what a task tells of the bytes answers the command
says : (content : List ℕ → Option (List ℕ)) (words : List (List ℕ)) (asks : Asks words) (bytes : List ℕ) (contents : List (List ℕ)) (s : Status) (before after : OutputState)
    → WereRead content words asks bytes contents → IsTold bytes asks.asked contents s before after → IsSaid content words s before after
says content words asks bytes contents status.Ok before after were (set, is, (text, tells, writes, hands)) =
    (text, (reads_of content words asks bytes contents set were is, tells), writes, (asks, hands))
says content words asks bytes contents status.WriteFault before after were (set, is, (text, front, writes, hands)) =
    (text, (reads_of content words asks bytes contents set were is, front), writes, (asks, hands))
says content words asks bytes contents status.NoMemory before after were (set, is, (text, (play_is, front), writes, hands)) =
    let P : Task → Type 0 = λ asked. HandsTask asked before.handed after.handed text in
    (text, inr (reads_of content words asks bytes contents set were is, play_is, front), writes, inr (asks, play_is, subst P play_is hands))
says content words asks bytes contents status.Usage before after were tells = absurd tells.2.1
says content words asks bytes contents status.BadDoors before after were tells = absurd tells.2.1
says content words asks bytes contents status.ReadFault before after were tells = absurd tells.2.1
says content words asks bytes contents status.Limit before after were tells = absurd tells.2.1
says content words asks bytes contents (status.Document line why) before after were tells = absurd tells.2.1
says content words asks bytes contents (status.Profile rule subject) before after were tells = absurd tells.2.1
says content words asks bytes contents status.Asked before after were tells = absurd tells.2.1
says content words asks bytes contents (status.DoorFault console) before after were tells = absurd tells.2.1

pub said : (r : Result Status (Failure Refusal)) (content : List ℕ → Option (List ℕ)) (words : List (List ℕ)) (asks : Asks words) (bytes : List ℕ) (contents : List (List ℕ)) (before after : OutputState)
    → WereRead content words asks bytes contents → IfOk r (λ s. IsTold bytes asks.asked contents s before after) → IfOk r (λ s. IsSaid content words s before after)
said (Ok s) content words asks bytes contents before after were tells = says content words asks bytes contents s before after were tells
said (Err f) content words asks bytes contents before after were tells = tt

-- why it tells nothing of them explains why there is no answer
untold_by : (why : Refusal) (content : List ℕ → Option (List ℕ)) (words : List (List ℕ)) (asks : Asks words) (bytes : List ℕ) (contents : List (List ℕ))
    → WereRead content words asks bytes contents → IsUntold bytes asks.asked why → Explains content words why
untold_by (refusal.Base why) content words asks bytes contents were refuses =
    (asks, inl (read_short content asks.more contents were.further, told_of (λ b. RefusesBase b why) (content asks.name) bytes were.base refuses))
untold_by (refusal.Task why) content words asks bytes contents were refuses = (reads_of content words asks bytes contents refuses.0 were refuses.1, refuses.2)
untold_by refusal.Usage content words asks bytes contents were refuses = absurd refuses
untold_by refusal.Doors content words asks bytes contents were refuses = absurd refuses
untold_by refusal.ReadFault content words asks bytes contents were refuses = absurd refuses

pub untold : (r : Result Status (Failure Refusal)) (content : List ℕ → Option (List ℕ)) (words : List (List ℕ)) (asks : Asks words) (bytes : List ℕ) (contents : List (List ℕ))
    → WereRead content words asks bytes contents → IfErr r (λ f. IfRefusal f (IsUntold bytes asks.asked)) → IfErr r (λ f. IfRefusal f (Explains content words))
untold (Ok s) content words asks bytes contents were refuses = tt
untold (Err (failure.Refusal why)) content words asks bytes contents were refuses = untold_by why content words asks bytes contents were refuses
untold (Err failure.NoMemory) content words asks bytes contents were refuses = tt

-- files that were not read explain why there is no answer
unread_by : (why : Refusal) (content : List ℕ → Option (List ℕ)) (words : List (List ℕ)) (asks : Asks words) → RefusesFiles content (asks.name ∷ asks.more) why → Explains content words why
unread_by refusal.ReadFault content words asks refuses = asks
unread_by (refusal.Base base.Limit) content words asks refuses = (asks, inr (refl, refuses))
unread_by (refusal.Base (base.Document line why)) content words asks refuses = absurd refuses
unread_by (refusal.Base (base.Profile rule subject)) content words asks refuses = absurd refuses
unread_by (refusal.Task why) content words asks refuses = absurd refuses
unread_by refusal.Usage content words asks refuses = absurd refuses
unread_by refusal.Doors content words asks refuses = absurd refuses

pub unread : (f : Failure Refusal) (content : List ℕ → Option (List ℕ)) (words : List (List ℕ)) (asks : Asks words) → IfRefusal f (RefusesFiles content (asks.name ∷ asks.more))
    → IfRefusal f (Explains content words)
unread (failure.Refusal why) content words asks refuses = unread_by why content words asks refuses
unread failure.NoMemory content words asks refuses = tt

-- an error that is handed on
pub handed_on : (r : Result Status (Failure Refusal)) (f : Failure Refusal) → IsErrAnd r (λ e. e ≡ f) → r ≡ Err f
handed_on (Ok s) f is = absurd is
handed_on (Err e) f is = ap Err is

-- ---- names

-- where files were not read, no more of them need have been asked for
stopped : (f : Failure Refusal) (content : List ℕ → Option (List ℕ)) (names : List (List ℕ)) → IfRefusal f (RefusesFiles content names) → IsTrue (ends_early (ending (Err f)))
stopped (failure.Refusal refusal.ReadFault) content names refuses = refl
stopped (failure.Refusal (refusal.Base base.Limit)) content names refuses = refl
stopped (failure.Refusal (refusal.Base (base.Document line why))) content names refuses = absurd refuses
stopped (failure.Refusal (refusal.Base (base.Profile rule subject))) content names refuses = absurd refuses
stopped (failure.Refusal (refusal.Task why)) content names refuses = absurd refuses
stopped (failure.Refusal refusal.Usage) content names refuses = absurd refuses
stopped (failure.Refusal refusal.Doors) content names refuses = absurd refuses
stopped failure.NoMemory content names refuses = refl

pub names_stopped : (f : Failure Refusal) (content : List ℕ → Option (List ℕ)) (words : List (List ℕ)) (asks : Asks words) (old new : Option (List (List ℕ)))
    → IfRefusal f (RefusesFiles content (asks.name ∷ asks.more)) → AsksFor old new (asks.name ∷ asks.more) ⊎ AsksFor old new (asks.name ∷ [])
    → (names : List (List ℕ)) × AreNames words (ending (Err f)) names × AsksFor old new names
names_stopped f content words asks old new refuses (inl all) = (_, inr (asks, inl refl), all)
names_stopped f content words asks old new refuses (inr first) = (_, inr (asks, inr (stopped f content (asks.name ∷ asks.more) refuses, refl)), first)

-- ---- what is said in the end

-- how the line of a refusal was written
abbrev pub LineWrites : Refusal → Status → OutputState → OutputState → Type 0
LineWrites why s before after = ((s ≡ status_of why) × GainsAtMost before.written after.written before.faults after.faults (line_of why))
    ⊎ ((s ≡ status.NoMemory) × (why ≢ refusal.ReadFault) × Gains before.written after.written [] × (after.faults ≡ before.faults))

-- the line of a refusal answers the words with the refusal's status
line_said : (content : List ℕ → Option (List ℕ)) (words : List (List ℕ)) (before after : OutputState) (why : Refusal) → Explains content words why
    → GainsAtMost before.written after.written before.faults after.faults (line_of why) → Hands before.handed after.handed (pieces_of (status_of why) (line_of why))
    → IsSaid content words (status_of why) before after
line_said content words before after refusal.Usage explains gains hands = (_, record { why = refusal.Usage; explains = explains; status = refl; line = refl }, gains, hands)
line_said content words before after refusal.Doors explains gains hands = absurd explains
line_said content words before after refusal.ReadFault explains gains hands = (_, record { why = refusal.ReadFault; explains = explains; status = refl; line = refl }, gains, hands)
line_said content words before after (refusal.Base base.Limit) explains gains hands =
    (_, record { why = refusal.Base base.Limit; explains = explains; status = refl; line = refl }, gains, hands)
line_said content words before after (refusal.Base (base.Document line why)) explains gains hands =
    (_, record { why = refusal.Base (base.Document line why); explains = explains; status = refl; line = refl }, gains, hands)
line_said content words before after (refusal.Base (base.Profile rule subject)) explains gains hands =
    (_, record { why = refusal.Base (base.Profile rule subject); explains = explains; status = refl; line = refl }, gains, hands)
line_said content words before after (refusal.Task of_task.Asked) explains gains hands =
    (_, record { why = refusal.Task of_task.Asked; explains = explains; status = refl; line = refl }, gains, hands)

pub said_refusal : (content : List ℕ → Option (List ℕ)) (words : List (List ℕ)) (before after : OutputState) (why : Refusal) (s : Status) → Explains content words why
    → LineWrites why s before after → Hands before.handed after.handed (pieces_of s (line_of why)) → IsSaid content words s before after
said_refusal content words before after why s explains (inl (is, gains)) hands =
    let P : Status → Type 0 = λ t. Hands before.handed after.handed (pieces_of t (line_of why)) in
    let Q : Status → Type 0 = λ t. IsSaid content words t before after in
    subst Q (sym is) (line_said content words before after why explains gains (subst P is hands))
said_refusal content words before after why s explains (inr (is, readable, gains, kept)) hands =
    let P : Status → Type 0 = λ t. Hands before.handed after.handed (pieces_of t (line_of why)) in
    let Q : Status → Type 0 = λ t. IsSaid content words t before after in
    subst Q (sym is) ([], inl refl, (gains, kept), inl (refl, subst P is hands))

-- what is said goes on from an output that nothing was written to; and nothing is said where memory ended
pub said_from : (content : List ℕ → Option (List ℕ)) (words : List (List ℕ)) (s : Status) (before between after : OutputState) → between ≡ before → IsSaid content words s between after
    → IsSaid content words s before after
said_from content words s before between after is = subst (λ (o : OutputState). IsSaid content words s o after) is

pub said_nothing : (content : List ℕ → Option (List ℕ)) (words : List (List ℕ)) (before after : OutputState) → after ≡ before → IsSaid content words status.NoMemory before after
said_nothing content words before after is = subst (λ (o : OutputState). IsSaid content words status.NoMemory o after) is ([], inl refl, (gains_nothing _, refl), inl (refl, grows_nothing _))

-- the names are those of a refusal's status, also where memory ended as it was told
names_then : (words : List (List ℕ)) (t : Status) (names : List (List ℕ)) → AreNames words t names → AreNames words status.NoMemory names
names_then words t names (inl none) = inl none
names_then words t names (inr (asks, inl all)) = inr (asks, inl all)
names_then words t names (inr (asks, inr first)) = inr (asks, inr (refl, first.1))

pub names_told : (words : List (List ℕ)) (names : List (List ℕ)) (why : Refusal) (s : Status) (before after : OutputState) → LineWrites why s before after
    → AreNames words (status_of why) names → AreNames words s names
names_told words names why s before after (inl (is, gains)) are =
    let P : Status → Type 0 = λ t. AreNames words t names in
    subst P (sym is) are
names_told words names why s before after (inr (is, readable, gains, kept)) are =
    let P : Status → Type 0 = λ t. AreNames words t names in
    subst P (sym is) (names_then words (status_of why) names are)
