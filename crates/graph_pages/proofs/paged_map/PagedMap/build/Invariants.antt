use Rattle.graph_pages.proofs.paged_map.PagedMap.build.Given as goal

abbrev pub ghosts-paged : goal.ghosts-paged
ghosts-paged g a = record { name = a.blank.name; parts = a.blank.parts }
