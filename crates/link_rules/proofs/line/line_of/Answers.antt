use Rattle.std.proofs.Common.{◌≡◌, List, map, ap, ap₂, sym, ◌∙◌, subst}
use Rattle.std.specs.List.{filter_map}
use Rattle.cim_model.specs.Marks.{marks_on}
use Rattle.cim_model.specs.Sections.{term_at}
use Rattle.cim_words.specs.declared.phases.PhaseSet.{PhaseSet}
use Rattle.graph_pages.specs.declared.star.Pass.TheVariants as pass
use Rattle.link_rules.proofs.LineTerms.{marks_of_mark_terms}
use Rattle.link_rules.proofs.line.line_of.Goals as goal
use Rattle.room_words.specs.declared.term.Term.{Term}
use Rattle.segment_cuts.specs.Sections.{AreSections}
use Rattle.segment_cuts.specs.declared.mark.Mark.{Mark}

pub returns : goal.returns
returns c =
    let m = c.args.index.now in
    let o = c.args.overlay.now in
    let marks : c.deref.result.now ≡ marks_on m o c.args.segment.number = c.deref.ensures.value ∙ c.in_ok-marks.ensures in
    let are : AreSections (marks_on m o c.args.segment.number) c.in_ok-divided.divided.items = subst (λ (marks : List Mark). AreSections marks c.in_ok-divided.divided.items) marks c.in_ok-divided.ensures in (
      c.in_ok-divided.divided.items,
      subst (λ (marks : List Mark). AreSections marks c.in_ok-divided.divided.items) (sym (marks_of_mark_terms m o (marks_on m o c.args.segment.number))) are,
      ap₂ (λ (own : PhaseSet) (lists : List (List Term)). pass.Line own lists) c.segment_phases.ensures (c.in_ok-terms_of_all.ensures ∙ ap (map (filter_map (term_at m o c.args.segment.number))) c.deref-2.ensures.value ∙ sym (c.lines_list_terminals_at_spots.ensures m o c.args.segment.number c.in_ok-divided.divided.items are)),
    )
