use Rattle.std.proofs.Common.{rules, ◌≡◌, ap, sym, subst, ◌∙◌}
use Rattle.desk.specs.Consoles.{IsConsole}
use Rattle.desk.specs.Ends.{PostState, number_of}
use Rattle.room_console.proofs.Submitted.{Entered, Refuses, answered, counted, entered_after, refused_after, if_ok_with, looks_kept, looks_more}
use Rattle.room_console.specs.Submits.{LooksOnce}
use Rattle.room_words.specs.declared.event.Event.{Event}
use Rattle.room_console.proofs.console.Console.submit.Goals as goal

pub invariant_of-self-2 : goal.invariant_of-self-2
invariant_of-self-2 g c =
    let State : Type 0 = PostState g.row.V.Denot g.row.V-Origin.Denot in
    let mid : State = c.reserve.new.self in
    let after : State = c.enter-answer.new.post in
    let said = c.enter-answer.ensures in
    let sees = c.seen_after-self-inside.ensures in
    let console : number_of after ≡ number_of c.self.inside.post = search rules in
    let counts = counted g.V.Advance.judges mid after c.in_ok-share.field-0 c.enter-answer.result said.entered said.refused said.memory c.self.inside.seen c.seen_after-self-inside.result
    (search rules) (search rules) sees.entered sees.refused sees.memory in
    (subst IsConsole (sym console) c.self.invariant.0, counts.0, counts.1)

pub returns-clause-looks : goal.returns-clause-looks
returns-clause-looks g c =
    let State : Type 0 = PostState g.row.V.Denot g.row.V-Origin.Denot in
    let mid : State = c.reserve.new.self in
    let after : State = c.enter-answer.new.post in
    let said = c.enter-answer.ensures in
    let look : LooksOnce c.args.self.now mid = looks_kept c.args.self.now c.advance.new.self mid c.advance.ensures.looks (search rules) in
    looks_more c.args.self.now mid after look said.same.3
    (answered g.V.Advance.judges mid after c.in_ok-share.field-0 c.enter-answer.result said.entered said.refused said.memory)
    said.same.0 said.same.1 said.same.2

pub returns-clause-entered : goal.returns-clause-entered
returns-clause-entered g c =
    let State : Type 0 = PostState g.row.V.Denot g.row.V-Origin.Denot in
    let mid : State = c.reserve.new.self in
    let after : State = c.enter-answer.new.post in
    let look : LooksOnce c.args.self.now mid = looks_kept c.args.self.now c.advance.new.self mid c.advance.ensures.looks (search rules) in
    let shared : c.in_ok-share.field-0 ≡ c.args.event.now = search rules in
    let said = subst (λ (event : Event). Entered g.V.Advance.judges mid after event c.enter-answer.result) shared c.enter-answer.ensures.entered in
    if_ok_with c.enter-answer.result (entered_after g.V.Advance.judges c.args.self.now mid after c.args.event.now look (search rules)) said

pub returns-clause-refused : goal.returns-clause-refused
returns-clause-refused g c why is =
    let State : Type 0 = PostState g.row.V.Denot g.row.V-Origin.Denot in
    let mid : State = c.reserve.new.self in
    let after : State = c.enter-answer.new.post in
    let look : LooksOnce c.args.self.now mid = looks_kept c.args.self.now c.advance.new.self mid c.advance.ensures.looks (search rules) in
    let shared : c.in_ok-share.field-0 ≡ c.args.event.now = search rules in
    let said : Refuses g.V.Advance.judges mid after c.args.event.now c.enter-answer.result =
    subst (λ (event : Event). Refuses g.V.Advance.judges mid after event c.enter-answer.result) shared c.enter-answer.ensures.refused in
    refused_after g.V.Advance.judges c.args.self.now mid after c.args.event.now look (search rules) why (said why is)

pub returns-clause-memory : goal.returns-clause-memory
returns-clause-memory g c is =
    let State : Type 0 = PostState g.row.V.Denot g.row.V-Origin.Denot in
    let same : c.enter-answer.new.post ≡ c.reserve.new.self = c.enter-answer.ensures.memory is in
    ap (λ (post : State). post.receipts) same ∙ (search rules)
