use Rattle.std.proofs.Common.{◌≡◌, ℕ, length, Err, sym, ap, subst, ◌∙◌}
use Rattle.room_words.specs.declared.refused.Denied.TheVariants.{Refused}
use Rattle.versions.proofs.Agreeing.{judged_now, now_of}
use Rattle.versions.specs.Past.{Past}
use Rattle.versions.specs.Held.{now_in, past_of}
use Rattle.versions.specs.History.{HasNoRoom, log_bytes}
use Rattle.versions.specs.declared.held.Held.{Held}
use Rattle.versions.proofs.version.VersionAdvance.advance.Goals as goal

pub returns-in-Err-moved-clause-refused : goal.returns-in-Err-moved-clause-refused
returns-in-Err-moved-clause-refused g c why is =
    let held = c.deref-held.result.now in
    let past : past_of held ≡ c.args.self.now = ap past_of c.deref-held.ensures ∙ c.self.view_is in
    let denied : c.in-Err-moved.denied ≡ Refused why = cc in
    let told = c.in-Err-moved.ensures.refused why (ap Err denied) in
    let bytes : held.bytes ≡ log_bytes c.args.self.now.log = ap (λ (h : Held). h.bytes) c.deref-held.ensures ∙ (c.self.invariant.bytes ∙ ap (λ (p : Past). log_bytes p.log) c.self.view_is) in
    let entries : c.len.result ≡ length c.args.self.now.log = c.len.ensures ∙ ap (λ (p : Past). length p.log) past in (
      told.0 ∙ ap (λ (p : Past). length p.log) past,
      judged_now c.args.self.now.base c.args.self.now.log c.args.entry.now.event (now_in held) why.why
          (λ full. c.in_default.ensures.room (subst (λ (n : ℕ). HasNoRoom n held.bytes c.args.entry.now.event) (sym entries) (subst (λ (n : ℕ). HasNoRoom (length c.args.self.now.log) n c.args.entry.now.event) (sym bytes) full)))
          (now_of held _ c.args.self.now c.deref-held.ensures c.self.view_is c.self.invariant) told.1,
    )
