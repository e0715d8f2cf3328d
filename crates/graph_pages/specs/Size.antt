-- How much the entries of a graph list, of this project: the terminals that stars list, and the places and sections at which they meet.
use Rattle.std.specs.Prelude.{ℕ, ◌+◌, length, sum_by}
use Rattle.graph_pages.specs.Graph.{GraphView}
use Rattle.graph_pages.specs.declared.star.Pass.{Pass}
use Rattle.graph_pages.specs.declared.star.Pass.TheVariants as pass
use Rattle.graph_pages.specs.declared.star.Star.{Star}

-- the spokes of a star, and the sections of a line; what is no line has none
abbrev pub spokes_of : Star → ℕ
spokes_of star = length star.spokes

abbrev pub sections_in : Pass → ℕ
sections_in (pass.Line own sections) = length sections
sections_in _ = 0

abbrev pub sections_of : Star → ℕ
sections_of star = sections_in star.pass

-- the spokes of all stars; the places, and the sections of all lines
abbrev pub listed_spokes : GraphView → ℕ
listed_spokes g = sum_by spokes_of g.stars

abbrev pub listed_hubs : GraphView → ℕ
listed_hubs g = sum_by sections_of g.stars + length g.places
