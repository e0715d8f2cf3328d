use Rattle.std.proofs.Common.{◌≡◌, length, get_or, ap, sym, subst, ◌∙◌}
use Rattle.std.proofs.lemmas.List.{get_or-replicate, length-replicate}
use Rattle.desk.specs.Consoles.{most_consoles}
use Rattle.room_core.proofs.Views.{seen_whole}
use Rattle.room_core.proofs.room.RoomCore.start.Goals as goal

pub invariant_of-result : goal.invariant_of-result
invariant_of-result g c =
    let copies = c.in-Ok.ensures in (
      ap length copies ∙ length-replicate most_consoles c.args.first,
      rw (c.requires) (c.legal_histories_go_on.ensures.empty (g.V.Dated.origin c.args.first)),
      λ k d below.
          let one : get_or c.in-Ok.shown.items k d ≡ c.args.first = ap (λ (items : _). get_or items k d) copies ∙ get_or-replicate most_consoles k c.args.first d (rw (sym (ap length copies ∙ length-replicate most_consoles c.args.first)) below) in
          rw one (seen_whole (g.V.Dated.origin c.args.first) (g.V.Dated.log c.args.first)),
    )
