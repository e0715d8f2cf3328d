use Rattle.std.proofs.Common.{◌∙◌, inl, ap, refl, false}
use Rattle.cim_words.specs.Written.{line_feed}
use Rattle.nt_text.specs.Document.{cut_at_feeds, feeds_after, lines_of}
use Rattle.nt_text.proofs.Documents.{cut_line}
use Rattle.nt_text.proofs.TakenBytes.{line_feeds}
use Rattle.nt_text.proofs.writing.lines_are_cut_apart.Goals as goal

pub returns-clause-none : goal.returns-clause-none
unfolding lines_of
returns-clause-none c = refl

pub returns-clause-first : goal.returns-clause-first
unfolding lines_of
returns-clause-first c line rest no_feed no_return =
    ap cut_at_feeds (line_feeds false line line_feed rest (record { no_feed = no_feed; no_return = no_return }) (inl refl) refl)
    ∙ cut_line line (feeds_after false rest) no_feed
