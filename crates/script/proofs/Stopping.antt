-- Where the playing of a script stops before its end.
use Rattle.std.proofs.Common.{◌≡◌, ℕ, List, [], ◌++◌, Option, inl, inr, refl, sym, ap, subst, ◌∙◌, append_assoc, append-nil}
use Rattle.cim_words.specs.declared.statement.Statement.{Statement}
use Rattle.desk.specs.Legal.{IsLegal}
use Rattle.history_writer.specs.Sending.{Breaks, OutputState, Sends, StopsAt}
use Rattle.history_writer.specs.declared.fault.OutFault.{OutFault}
use Rattle.history_writer.specs.declared.fault.OutFault.TheVariants as fault
use Rattle.nt_text.specs.Document.{lines_of}
use Rattle.room_words.specs.declared.event.Entry.{Entry}
use Rattle.script.specs.Answers.{AreAnswered}
use Rattle.script.specs.Played.{IsFront, IsPlayed}
use Rattle.script.specs.Rehearsal.{RehearsalState, at_start}
use Rattle.script.specs.Staging.{Staged}
use Rattle.script.specs.Turns.{Turn, turns_from, turns_of}
use Rattle.versions.specs.History.{Judges}
use Rattle.wire.specs.Entries.{history_text}
use Rattle.history_writer.proofs.KeptBack.{HoldsBack, holds_broken, stops_after}
use Rattle.history_writer.proofs.Sending.{sends_more}
use Rattle.script.proofs.Standing.{Stands}

-- some turns were answered, and a front of their replies was handed on
abbrev pub Stops : RehearsalState → List ℕ → OutFault → OutputState → OutputState → Type 0
Stops start script bad before after = (done left : List Turn) × (turns_of script ≡ done ++ left)
    × ((front more : List ℕ) × (now : RehearsalState) × AreAnswered start done (front ++ more) now × StopsAt bad before after front)

module _ (script : List ℕ) {start now : RehearsalState} {rest : List (List ℕ)} {document : Option Staged} {text held : List ℕ} {before mid : OutputState}
    (s : Stands start (lines_of script) rest document now text) (holds : HoldsBack before mid text held) where
  pub stops_for_memory : Stops start script fault.NoMemory before mid
  stops_for_memory =
      (s.done, turns_from s.begun rest, s.turns, (holds.0, held, now, subst (λ (l : List ℕ). AreAnswered start s.done l now) (sym holds.1) s.answered, holds.2))

  pub stops_for_output : (after : OutputState) → Breaks mid after held → Stops start script fault.WriteFault before after
  stops_for_output after breaks =
      (s.done, turns_from s.begun rest, s.turns, (text, [], now, subst (λ (l : List ℕ). AreAnswered start s.done l now) (sym (append-nil text)) s.answered, holds_broken holds after breaks))

-- before the first turn
pub front_of_none : (base : List Statement) (script : List ℕ) → IsFront base script []
front_of_none base script = record {
  done = [];
  left = turns_of script;
  turns = refl;
  replies = [];
  after = at_start base;
  answered = (refl, refl);
  more = [];
  within = inl refl;
}

-- a front of what a script is answered, where playing stopped
abbrev pub StopsIn : List Statement → List ℕ → OutFault → OutputState → OutputState → Type 0
StopsIn base script bad before after = (front : List ℕ) × IsFront base script front × StopsAt bad before after front

-- among the turns
pub front_of_turns : (base : List Statement) (script : List ℕ) (bad : OutFault) (before after : OutputState) → Stops (at_start base) script bad before after → StopsIn base script bad before after
front_of_turns base script bad before after (done, left, turns, (front, more, now, answered, stops)) = (
  front,
  record {
    done = done;
    left = left;
    turns = turns;
    replies = front ++ more;
    after = now;
    answered = answered;
    more = more;
    within = inl refl;
  },
  stops,
)

module _ (base : List Statement) (script : List ℕ) (now : RehearsalState) (before mid after : OutputState) (sent kept : List ℕ) (answered : AreAnswered (at_start base) (turns_of script) (sent ++ kept) now)
    (sends : Sends before mid sent) (log : List Entry) (shown : log ≡ now.room.log) where
  -- the replies and the history behind them
  with_history : sent ++ (kept ++ history_text log) ≡ (sent ++ kept) ++ history_text now.room.log
  with_history = sym (append_assoc sent kept (history_text log)) ∙ ap (λ (entries : List Entry). (sent ++ kept) ++ history_text entries) shown

  -- after the last turn
  pub front_of_history : (bad : OutFault) → (front more : List ℕ) × (front ++ more ≡ kept ++ history_text log) × StopsAt bad mid after front → StopsIn base script bad before after
  front_of_history bad (front, more, is, stops) = (
    sent ++ front,
    record {
      done = turns_of script;
      left = [];
      turns = sym (append-nil (turns_of script));
      replies = sent ++ kept;
      after = now;
      answered = answered;
      more = more;
      within = inr (refl, append_assoc sent front more ∙ ap (λ (l : List ℕ). sent ++ l) is ∙ with_history);
    },
    stops_after bad before mid after sent front sends stops,
  )

  -- all of it
  pub played : IsLegal (Judges base) now.room.log → Sends mid after (kept ++ history_text log) → (text : List ℕ) × IsPlayed base script text × Sends before after text
  played legal last = (
    sent ++ (kept ++ history_text log),
    record {
      replies = sent ++ kept;
      after = now;
      answered = answered;
      legal = legal;
      is_text = with_history;
    },
    sends_more before mid after sent (kept ++ history_text log) sends last,
  )
