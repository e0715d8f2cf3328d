-- Lines that a session answers make up exchanges.
use Rattle.std.proofs.Common.{◌≡◌, ℕ, ◌+◌, ◌≤◌, List, [], ◌∷◌, ◌++◌, length, Bool, true, false, Option, None, Some, inl, inr, refl, ap, sym, subst, ◌∙◌, arith, length-append, ◌⊎◌}
use Rattle.std.proofs.Math.Seq.{take-length}
use Rattle.cim_words.specs.Written.{line_feed}
use Rattle.std.specs.Str.{bytes_eq}
use Rattle.board.specs.Lists.{IsPrefix}
use Rattle.cim_words.specs.declared.statement.Statement.{Statement}
use Rattle.desk.specs.Ends.{number_of}
use Rattle.difference.specs.Document.{IsDocument}
use Rattle.difference.specs.Faults.{IsFault}
use Rattle.line_serve.specs.AnsweredLines.{Answer, AnsweredLine, bytes_of, without_return}
use Rattle.line_serve.specs.AnsweredLines as lines
use Rattle.room_words.specs.Differences.{Changes}
use Rattle.room_words.specs.declared.event.Entry.{Entry}
use Rattle.room_words.specs.declared.fault.Fault.TheVariants as fault
use Rattle.room_words.specs.declared.reply.Reply.{Reply}
use Rattle.room_words.specs.declared.reply.Reply.TheVariants as reply
use Rattle.room_words.specs.declared.stage_fault.StageFault.{StageFault}
use Rattle.session_host.proofs.Seeing.{prefix_trans}
use Rattle.session_host.specs.Exchanges.{AreAnswered, Exchange, MakeUp, When, answer_of, silence, stage_line}
use Rattle.session_host.specs.Replies.{AnswersLine, Stages}
use Rattle.session_host.specs.Told.{Ever, KeepsSeat, Post, StagesDraft, TakesLine, TalkState, Talks, TalksBy, state_of, with_line}
use Rattle.session_host.specs.Views.{SessionState}
use Rattle.staging.specs.Documents.{HasFault, Says, closes, document_text, kept, more_kept}
use Rattle.wire.specs.Requests.{IsRequest}
use Rattle.wire.specs.declared.request.Request.TheVariants as request

-- a draft holds what is kept of these lines, or was dropped
abbrev pub Holds : Option (Option (List ℕ)) → List (List ℕ) → Type 0
Holds draft begun = (draft ≡ Some (kept (document_text begun))) ⊎ (draft ≡ None)

abbrev pub Begun : Option (Option (Option (List ℕ))) → Option (List (List ℕ)) → Type 0
Begun None None = Unit {0}
Begun (Some draft) (Some begun) = Holds draft begun
Begun None (Some begun) = ⊥
Begun (Some draft) None = ⊥

-- what the laws of staged documents and of requests say
pub record Laws : Type 0 where
  pub first : kept (document_text []) ≡ Some []
  pub more : (begun : List (List ℕ)) (line : List ℕ) → more_kept (kept (document_text begun)) line ≡ kept (document_text (begun ++ line ∷ []))
  pub says : (text : List ℕ) (d : Changes) → Says (kept text) d → IsDocument text d
  pub fault : (text : List ℕ) (bad : StageFault) → HasFault (kept text) bad → IsFault text bad
  pub stage : IsRequest false stage_line request.Stage

-- what a draft stages is what a document stages that is read as what is kept of it
pub staged_by : (text : Option (List ℕ)) (document : List ℕ) → ((d : Changes) → Says text d → IsDocument document d) →
    ((bad : StageFault) → HasFault text bad → IsFault document bad) → (before : SessionState) (told : Reply) (after : SessionState) →
    StagesDraft (Some text) before told after → Stages document before told after
staged_by text document says faults before (reply.Staged pre rev fwd) after is = (is.0, says is.0 is.1, is.2, is.3, is.4, is.5)
staged_by text document says faults before (reply.Fault (fault.Stage bad)) after is = (faults bad is.0, is.1)
staged_by text document says faults before reply.Memory after is = is
staged_by text document says faults before (reply.Ok number) after is = absurd is
staged_by text document says faults before (reply.No refused) after is = absurd is
staged_by text document says faults before (reply.NoSuch at) after is = absurd is
staged_by text document says faults before (reply.Seen at) after is = absurd is
staged_by text document says faults before (reply.Trace at rows) after is = absurd is
staged_by text document says faults before reply.Bye after is = absurd is
staged_by text document says faults before (reply.Fault fault.Word) after is = absurd is
staged_by text document says faults before (reply.Fault fault.Count) after is = absurd is
staged_by text document says faults before (reply.Fault (fault.Field k)) after is = absurd is
staged_by text document says faults before (reply.Fault fault.Staged) after is = absurd is
staged_by text document says faults before (reply.Fault fault.Prefix) after is = absurd is
staged_by text document says faults before (reply.Fault fault.Console) after is = absurd is
staged_by text document says faults before (reply.Fault fault.Long) after is = absurd is

-- a line is answered by something that talks for a post, and keeps its name
abbrev pub Answering : {A X : Type 0} → (A → TalkState) → (A → Post) → (A → X) → A → List ℕ → Answer → A → Type 0
Answering talk post name before line answer after =
    Talks (talk before) (post before) line answer (talk after) (post after) × KeepsSeat (post before) (post after) × (name after ≡ name before)

module _ (laws : Laws) where
  -- a line that is taken is taken of the document
  held : (draft taken : Option (Option (List ℕ))) (begun : List (List ℕ)) (line : List ℕ) → Holds draft begun → TakesLine draft line taken →
      Holds taken (begun ++ line ∷ [])
  held draft taken begun line holds (inr none) = inr none
  held draft taken begun line (inl is) (inl took) = inl (took ∙ (ap (λ d. with_line d line) is ∙ ap Some (laws.more begun line)))
  held draft taken begun line (inr is) (inl took) = inr (took ∙ ap (λ d. with_line d line) is)

  staged_kept : (begun : List (List ℕ)) (before : SessionState) (told : Reply) (after : SessionState) →
      StagesDraft (Some (kept (document_text begun))) before told after → Stages (document_text begun) before told after
  staged_kept begun = staged_by (kept (document_text begun)) (document_text begun) (laws.says (document_text begun)) (laws.fault (document_text begun))

  staged_none : (text : List ℕ) (before : SessionState) (told : Reply) (after : SessionState) →
      StagesDraft None before told after → Stages text before told after
  staged_none text before reply.Memory after is = is
  staged_none text before (reply.Ok number) after is = absurd is
  staged_none text before (reply.No refused) after is = absurd is
  staged_none text before (reply.NoSuch at) after is = absurd is
  staged_none text before (reply.Seen at) after is = absurd is
  staged_none text before (reply.Trace at rows) after is = absurd is
  staged_none text before (reply.Staged pre rev fwd) after is = absurd is
  staged_none text before (reply.Fault bad) after is = absurd is
  staged_none text before reply.Bye after is = absurd is

  staged : (draft : Option (Option (List ℕ))) (begun : List (List ℕ)) (before : SessionState) (told : Reply) (after : SessionState) →
      Holds draft begun → StagesDraft draft before told after → Stages (document_text begun) before told after
  staged draft begun before told after (inl is) stages = staged_kept begun before told after (subst (λ d. StagesDraft d before told after) is stages)
  staged draft begun before told after (inr is) stages = staged_none (document_text begun) before told after (subst (λ d. StagesDraft d before told after) is stages)

  module _ {A : Type 0} (talk : A → TalkState) (post : A → Post) (answers : A → List ℕ → Answer → A → Type 0)
      (means : (before : A) (line : List ℕ) (answer : Answer) (after : A) → answers before line answer after →
      Talks (talk before) (post before) line answer (talk after) (post after) × KeepsSeat (post before) (post after)) where
    -- through lines a console keeps its seat
    pub begins_through : (ls : List AnsweredLine) (before after : A) → lines.AreAnswered answers before ls after →
        IsPrefix (post before).reader.seen (post after).reader.seen
    begins_through [] before after is = subst (λ (a : A). IsPrefix (post before).reader.seen (post a).reader.seen) is (take-length (post before).reader.seen)
    begins_through (l ∷ ls) before after is =
        let seat = (means before (without_return l.came) l.answer is.2.0 is.2.1).1 in
        prefix_trans _ _ _ seat.begins (begins_through ls is.2.0 after is.2.2)

    pub console_through : (ls : List AnsweredLine) (before after : A) → lines.AreAnswered answers before ls after →
        number_of (post after) ≡ number_of (post before)
    console_through [] before after is = ap (λ (a : A). number_of (post a)) (sym is)
    console_through (l ∷ ls) before after is =
        let seat = (means before (without_return l.came) l.answer is.2.0 is.2.1).1 in
        console_through ls is.2.0 after is.2.2 ∙ ap (λ (n : ℕ). n + 1) seat.console

    pub board_through : (ls : List AnsweredLine) (before after : A) → lines.AreAnswered answers before ls after →
        (post after).reader.board ≡ (post before).reader.board
    board_through [] before after is = ap (λ (a : A). (post a).reader.board) (sym is)
    board_through (l ∷ ls) before after is =
        let seat = (means before (without_return l.came) l.answer is.2.0 is.2.1).1 in board_through ls is.2.0 after is.2.2 ∙ seat.board

    pub origin_through : (ls : List AnsweredLine) (before after : A) → lines.AreAnswered answers before ls after →
        (post after).reader.origin ≡ (post before).reader.origin
    origin_through [] before after is = ap (λ (a : A). (post a).reader.origin) (sym is)
    origin_through (l ∷ ls) before after is =
        let seat = (means before (without_return l.came) l.answer is.2.0 is.2.1).1 in origin_through ls is.2.0 after is.2.2 ∙ seat.origin

    -- each line is one byte of input at least, and looks once at most
    pub looks_through : (ls : List AnsweredLine) (before after : A) → lines.AreAnswered answers before ls after →
        length (post after).reader.founds ≤ length (post before).reader.founds + length (bytes_of ls)
    looks_through [] before after is =
        let same : length (post after).reader.founds ≡ length (post before).reader.founds = ap (λ (a : A). length (post a).reader.founds) (sym is) in
        omega (arith, same)
    looks_through (l ∷ ls) before after is =
        let seat = (means before (without_return l.came) l.answer is.2.0 is.2.1).1 in
        let rest = looks_through ls is.2.0 after is.2.2 in
        let once : length (post is.2.0).reader.founds ≤ length (post before).reader.founds + 1 = seat.looks in
        omega (arith, rest, once, length-append (l.came ++ line_feed ∷ []) (bytes_of ls), length-append l.came (line_feed ∷ []))

    -- what each line keeps is kept by all of them
    pub kept_through : {X : Type 0} (f : A → X) → ((before : A) (line : List ℕ) (answer : Answer) (after : A) → answers before line answer after → f after ≡ f before) →
        (ls : List AnsweredLine) (before after : A) → lines.AreAnswered answers before ls after → f after ≡ f before
    kept_through f keeps [] before after is = ap f (sym is)
    kept_through f keeps (l ∷ ls) before after is =
        kept_through f keeps ls is.2.0 after is.2.2 ∙ keeps before (without_return l.came) l.answer is.2.0 is.2.1

    module _ (base : List Statement) (history : List Entry) where
      -- lines that make up exchanges, which are answered from a state to a last one
      abbrev Made : ℕ → Option (List (List ℕ)) → List AnsweredLine → SessionState → SessionState → Type 0
      Made console begun ls before final =
          (exchanges : List Exchange) × MakeUp begun ls exchanges × AreAnswered base history console before exchanges final

      module _ (l : AnsweredLine) (ls : List AnsweredLine) (before between : A) (final : SessionState)
          (began : (post before).reader.origin ≡ Some base) (later : IsPrefix (post between).reader.seen history)
          (rest : (begun : Option (List (List ℕ))) → Begun (talk between).draft begun →
          Made (number_of (post before)) begun ls (state_of (talk between) (post between)) final) where
        abbrev line : List ℕ
        line = without_return l.came

        outside : (b : Bool) → (When b
            ((l.answer ≡ silence) × (talk between ≡ record { staged = (talk before).staged; draft = Some (Some (Some [])) }) × (post between ≡ post before))
            ((told : Reply) × (l.answer ≡ answer_of told) × ((talk between).draft ≡ None)
            × Ever (post before) (post between) (λ b h. AnswersLine b h (number_of (post before)) line [] (state_of (talk before) (post before)) told (state_of (talk between) (post between))))) →
            (exchanges : List Exchange) × (When b
            ((l.answer ≡ silence) × MakeUp (Some []) ls exchanges)
            ((told : Reply) × (others : List Exchange) × (exchanges ≡ record { asked = line; document = []; told = told } ∷ others)
            × (l.answer ≡ answer_of told) × MakeUp None ls others))
            × AreAnswered base history (number_of (post before)) (state_of (talk before) (post before)) exchanges final
        outside true is =
            let made = rest (Some []) (subst (λ (t : TalkState). Begun t.draft (Some [])) (sym is.1) (inl (ap Some (sym laws.first)))) in
            let same : state_of (talk between) (post between) ≡ state_of (talk before) (post before) =
            ap (λ (t : TalkState). state_of t (post between)) is.1 ∙ ap (λ (p : Post). state_of (talk before) p) is.2 in
            (made.0, (is.0, made.1), subst (λ (x : SessionState). AreAnswered base history (number_of (post before)) x made.0 final) same made.2)
        outside false is =
            let made = rest None (subst (λ (d : Option (Option (Option (List ℕ)))). Begun d None) (sym is.2) tt) in (
              record { asked = line; document = []; told = is.0 } ∷ made.0,
              (is.0, made.0, refl, is.1, made.1),
              (state_of (talk between) (post between), is.3 base began history later, made.2),
            )

        within : (draft taken : Option (Option (List ℕ))) (begun : List (List ℕ)) → Holds draft begun → TakesLine draft line taken → (post between ≡ post before) →
            (b : Bool) → (When b
            ((told : Reply) × (l.answer ≡ answer_of told) × ((talk between).draft ≡ None)
            × StagesDraft taken (state_of (talk before) (post before)) told (state_of (talk between) (post before)))
            ((l.answer ≡ silence) × (talk between ≡ record { staged = (talk before).staged; draft = Some taken }))) →
            (exchanges : List Exchange) × (When b
            ((told : Reply) × (others : List Exchange)
            × (exchanges ≡ record { asked = stage_line; document = begun ++ line ∷ []; told = told } ∷ others)
            × (l.answer ≡ answer_of told) × MakeUp None ls others)
            ((l.answer ≡ silence) × MakeUp (Some (begun ++ line ∷ [])) ls exchanges))
            × AreAnswered base history (number_of (post before)) (state_of (talk before) (post before)) exchanges final
        within draft taken begun holds takes same true is =
            let made = rest None (subst (λ (d : Option (Option (Option (List ℕ)))). Begun d None) (sym is.2) tt) in
            let stages = staged taken (begun ++ line ∷ []) (state_of (talk before) (post before)) is.0 (state_of (talk between) (post before))
            (held draft taken begun line holds takes) is.3 in
            let answers_it = subst (λ (p : Post). Stages (document_text (begun ++ line ∷ [])) (state_of (talk before) (post before)) is.0 (state_of (talk between) p)) (sym same) stages in (
              record { asked = stage_line; document = begun ++ line ∷ []; told = is.0 } ∷ made.0,
              (is.0, made.0, refl, is.1, made.1),
              (state_of (talk between) (post between), inl (request.Stage, laws.stage, answers_it), made.2),
            )
        within draft taken begun holds takes same false is =
            let made = rest (Some (begun ++ line ∷ [])) (subst (λ (t : TalkState). Begun t.draft (Some (begun ++ line ∷ []))) (sym is.1) (held draft taken begun line holds takes)) in
            let staying : state_of (talk between) (post between) ≡ state_of (talk before) (post before) =
            ap (λ (t : TalkState). state_of t (post between)) is.1 ∙ ap (λ (p : Post). state_of (talk before) p) same in
            (made.0, (is.0, made.1), subst (λ (x : SessionState). AreAnswered base history (number_of (post before)) x made.0 final) staying made.2)

        step : (draft : Option (Option (Option (List ℕ)))) (begun : Option (List (List ℕ))) → Begun draft begun →
            TalksBy draft (talk before) (post before) line l.answer (talk between) (post between) →
            Made (number_of (post before)) begun (l ∷ ls) (state_of (talk before) (post before)) final
        step None None opens is = outside (bytes_eq line stage_line) is
        step (Some draft) (Some begun) opens is = within draft is.0 begun opens is.1 is.2 (closes line) is.3
        step None (Some begun) opens is = absurd opens
        step (Some draft) None opens is = absurd opens

      nothing_more : (begun : Option (List (List ℕ))) → MakeUp begun [] []
      nothing_more None = refl
      nothing_more (Some begun) = refl

      pub make_up : (ls : List AnsweredLine) (begun : Option (List (List ℕ))) (before after : A) → Begun (talk before).draft begun →
          lines.AreAnswered answers before ls after → (post before).reader.origin ≡ Some base → IsPrefix (post after).reader.seen history →
          Made (number_of (post before)) begun ls (state_of (talk before) (post before)) (state_of (talk after) (post after))
      make_up [] begun before after opens is began more = ([], nothing_more begun, ap (λ (a : A). state_of (talk a) (post a)) (sym is))
      make_up (l ∷ ls) begun before after opens is began more =
          let said = means before (without_return l.came) l.answer is.2.0 is.2.1 in
          let later : IsPrefix (post is.2.0).reader.seen history = prefix_trans _ _ _ (begins_through ls is.2.0 after is.2.2) more in
          let console : number_of (post is.2.0) ≡ number_of (post before) = ap (λ (n : ℕ). n + 1) said.1.console in
          step l ls before is.2.0 (state_of (talk after) (post after)) began later
          (λ next opened. subst (λ (n : ℕ). Made n next ls (state_of (talk is.2.0) (post is.2.0)) (state_of (talk after) (post after))) console
          (make_up ls next is.2.0 after opened is.2.2 (said.1.origin ∙ began) more))
          (talk before).draft begun opens said.0
