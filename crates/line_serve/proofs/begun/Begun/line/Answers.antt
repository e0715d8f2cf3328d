use Rattle.std.proofs.Common.{◌≡◌, ◌≢◌, ◌-◌, length, get_or, ◌∙◌, arith}
use Rattle.std.proofs.lemmas.Grind.{common_steps}
use Rattle.line_serve.proofs.LineLaws.{drops_the_return, keeps_the_line, keeps_no_line}
use Rattle.line_serve.proofs.begun.Begun.line.Goals as goal
use Rattle.line_serve.proofs.begun.Begun.line.Goals.{else-count-gt0-via-then-count-gt0+else-index-eq13, else-count-gt0-via-else-count-gt0}

pub returns-then-index-eq13 : goal.returns-then-index-eq13
returns-then-index-eq13 c =
    let count : c.len-count.result ≡ length c.args.self.now = grind (arith, common_steps) in
    let last : get_or c.args.self.now (c.len-count.result - 1) c.index.result.now ≡ 13 = grind (arith, common_steps) in
    drops_the_return c.deref.result.now c.args.self.now c.len-count.result c.index.result.now (c.deref.ensures.value ∙ c.self.view_is) count (omega arith) last

pub returns : goal.returns
returns c =
    let count : c.len-count.result ≡ length c.args.self.now = grind (arith, common_steps) in
    elim c.else-count-gt0.branch [
      | else-count-gt0-via-then-count-gt0+else-index-eq13 w ↦
          let last : get_or c.args.self.now (c.len-count.result - 1) w.index.result.now ≢ 13 = grind (arith, common_steps) in
          keeps_the_line c.deref-2.result.now c.args.self.now c.len-count.result w.index.result.now (c.deref-2.ensures.value ∙ c.self.view_is) count (omega arith) last
      | else-count-gt0-via-else-count-gt0 w ↦
          keeps_no_line c.deref-2.result.now c.args.self.now c.len-count.result (c.deref-2.ensures.value ∙ c.self.view_is) count (omega arith)
    ]
