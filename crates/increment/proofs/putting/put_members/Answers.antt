use Rattle.std.proofs.Common.{Some, None, Result, Ok, Err, OnOk}
use Rattle.increment.proofs.Edits.{members_put}
use Rattle.increment.proofs.putting.put_members.Goals as goal

-- two facts of an answer make a third
both : {T E P Q R : Type 0} (r : Result T E) → (P → Q → R) → OnOk r P → OnOk r Q → OnOk r R
both (Ok x) follows p q = follows p q
both (Err e) follows p q = tt

pub returns-in-Some-clause-put : goal.returns-in-Some-clause-put
returns-in-Some-clause-put g c =
    let is = rw c.in-Some.is at c.in_ok-members.ensures in
    both c.put_members.result (λ puts stars. members_put c.args.index.now c.args.overlay.now c.args.place (Some c.in-Some.members) c.args.edit.now c.put_members.new.self c.places_are_compared.ensures.equal is puts stars)
    c.put_members.ensures.members c.put_members.ensures.stars

pub returns-in-None-clause-put : goal.returns-in-None-clause-put
returns-in-None-clause-put g c =
    let is = rw c.in-None.is at c.in_ok-members.ensures in
    both c.drop_members.result (λ drops stars. members_put c.args.index.now c.args.overlay.now c.args.place None c.args.edit.now c.drop_members.new.self c.places_are_compared.ensures.equal is drops stars)
    c.drop_members.ensures.members c.drop_members.ensures.stars
