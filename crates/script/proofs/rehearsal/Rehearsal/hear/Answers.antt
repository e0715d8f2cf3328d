use Rattle.std.proofs.Common.{◌≡◌, ◌++◌, ℕ, List, [], refl, sym, ◌∙◌, true≢false}
use Rattle.std.proofs.lemmas.Slice.Eq.{bytes_eq-Decides}
use Rattle.script.specs.Answers.{AnswersConsole}
use Rattle.script.specs.Lines.{behind_console, stage_word}
use Rattle.script.specs.Rehearsal.{RehearsalState}
use Rattle.script.proofs.rehearsal.Rehearsal.hear.Goals as goal

-- the reply comes behind the console
told_behind : (before after : RehearsalState) (console : ℕ) (asked old mid new told : List ℕ) → (asked ≡ stage_word → ⊥) → ((text : List ℕ) → mid ++ text ≡ old ++ behind_console console text)
    → new ≡ mid ++ told → AnswersConsole before console [] asked told after
    → (x : List ℕ) × (new ≡ old ++ x) × ((asked ≡ stage_word → ⊥) × ((y : List ℕ) × (x ≡ behind_console console y) × AnswersConsole before console [] asked y after))
told_behind before after console asked old mid new told other marked appended answered =
    (behind_console console told, appended ∙ marked told, (other, (told, refl, answered)))

pub returns : goal.returns
returns g c =
    let told = c.in_ok-reply.ensures in
    told_behind c.args.self.now c.reply.new.self c.args.console c.args.request.now c.args.into.now.items c.write_console.new.into.items c.reply.new.into.items told.0
    (λ says. true≢false (sym ((bytes_eq-Decides c.args.request.now c.as_slice.result.now).1 (says ∙ sym c.as_slice.ensures)) ∙ sym c.eq.ensures ∙ c.if-eq.false)) c.in_ok-write_console.ensures told.1 told.2
