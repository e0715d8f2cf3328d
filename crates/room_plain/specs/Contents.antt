-- What was read of the files that words name.
use Rattle.std.specs.Prelude.{ℕ, List, option_map, option_to_list}
use Rattle.room_plain.specs.declared.files.Contents.{Contents}

-- what the further files contain, as it was read
abbrev pub further_contents : Contents → List (List ℕ)
further_contents contents = option_to_list (option_map (λ bytes. bytes.items) contents.script)
