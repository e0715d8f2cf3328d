use Rattle.std.proofs.Common.{rules, ℕ, ◌≡◌, ◌+◌, ap, subst, ◌∙◌}
use Rattle.room_console.proofs.Submitted.{entered, refused_there}
use Rattle.room_console.specs.Submits.{IsRefused, entry_of}
use Rattle.room_console.proofs.entering.enter.Goals as goal

pub returns-in-Ok-clause-entered : goal.returns-in-Ok-clause-entered
returns-in-Ok-clause-entered g c =
    let post = c.args.post.now in
    let event = c.args.entry.now.event in
    let receipt = c.commit.result in
    let entry = c.in-Ok.prepared.entry in
    let current = c.args.desk.now.current in
    let follows = c.in-Ok.ensures.follows in
    let named = c.commit.ensures.receipt in
    let serial : c.serial-entry.result ≡ receipt.serial = search rules in
    let made : entry ≡ record { console = c.args.entry.now.console; serial = c.serial-entry.result; event = event } = search rules in
    let is : entry ≡ entry_of post event receipt =
    made ∙ ap (λ (n : ℕ). record { console = n; serial = c.serial-entry.result; event = event }) c.requires.post
    ∙ ap (λ (n : ℕ). record { console = c.args.post.now.reader.console + 1; serial = n; event = event }) serial in
    entered g.V.Advance.judges post c.commit.new.post event receipt (g.V.Dated.origin current) (g.V.Dated.log current) entry
    c.commit.ensures.origin c.current-current.ensures.legal c.commit.ensures.before follows.next is (search rules) named (search rules)

pub returns-in-Err-Refused-clause-refused : goal.returns-in-Err-Refused-clause-refused
returns-in-Err-Refused-clause-refused g c why same =
    let post = c.args.post.now in
    let event = c.args.entry.now.event in
    let refused = c.in-Err-Refused.refused in
    let current = c.args.desk.now.current in
    let is : refused ≡ why = cc in
    let said = c.in-Err-Refused.ensures.refused refused (search rules) in
    subst (IsRefused g.V.Advance.judges post c.tell.new.post event) is
    (refused_there g.V.Advance.judges post c.tell.new.post event refused (g.V.Dated.origin current) (g.V.Dated.log current)
    c.tell.ensures.origin c.current-current.ensures.legal c.tell.ensures.before (search rules) said.0 said.1 (search rules))
