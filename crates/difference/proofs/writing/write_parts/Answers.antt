use Rattle.std.proofs.Common.{◌≡◌, ℕ, List, [], ◌++◌, append_assoc}
use Rattle.room_words.specs.Differences.{written_difference, written_under}
use Rattle.room_words.specs.declared.heading.Heading.TheVariants.{End, Forward, Header, Preconditions, Reverse}
use Rattle.difference.proofs.writing.write_parts.Goals as goal

grouped : (old a b c d e : List ℕ) → old ++ a ++ b ++ c ++ d ++ e ≡ old ++ (a ++ b ++ c ++ d ++ e)
grouped old a b c d e = simp append_assoc

pub returns-clause-ok : goal.returns-clause-ok
unfolding written_difference
returns-clause-ok c =
    let d = c.args.difference.now in
    rw (
      c.in_ok-write_under-5.ensures.ok,
      c.in_ok-write_under-4.ensures.ok,
      c.in_ok-write_under-3.ensures.ok,
      c.in_ok-write_under-2.ensures.ok,
      c.in_ok-write_under.ensures.ok,
      c.as_slice-4.ensures,
      c.as_slice-3.ensures,
      c.as_slice-2.ensures,
      c.as_slice.ensures,
      c.fwd.ensures,
      c.rev.ensures,
      c.pre.ensures,
      c.header.ensures,
    ) (grouped c.args.into.now.items (written_under Header d.header) (written_under Preconditions d.pre) (written_under Reverse d.rev) (written_under Forward d.fwd) (written_under End []))
