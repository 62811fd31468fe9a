use Rattle.std.proofs.Common.{◌≤◌, arith}
use Rattle.spec_model.specs.Diagrams.{Function}
use Rattle.spec_model.specs.DiagramReads.{bits_of}
use Rattle.bdd_ops.specs.Contents.{function_at}
use Rattle.bdd_ops.specs.Ways.{HasNoneBehind}
use Rattle.bdd_ops.proofs.WayLemmas.{none_behind_both, none_behind_false, option_mapped, branch_back}
use Rattle.bdd_ops.proofs.work.Work.next_branch.Goals.{then-level-fixed+in_default, else-level-fixed}
use Rattle.bdd_ops.proofs.work.Work.next_branch.Goals as goal

pub returns : goal.returns
returns c =
    let f : Function = function_at c.args.self.now c.args.root.0 in
    let none : HasNoneBehind c.args.fixed.now f c.args.level (bits_of c.args.out.now) = elim c.if-level-fixed.branch [
      | then-level-fixed+in_default w ↦ none_behind_both c.args.self.now c.args.fixed.now f c.args.level (bits_of c.args.out.now) c.args.e.0 c.requires.led w.in_default.ensures
      | else-level-fixed w ↦
          let within : c.args.level ≤ c.args.self.now.state.table.levels = c.requires.led.within in
          none_behind_false c.args.self.now c.args.fixed.now f c.args.level (bits_of c.args.out.now) c.args.e.0 c.requires.led (c.requires.ended (omega (arith, within, w.if-level-fixed.false, c.requires.each.0)))
    ] in
    option_mapped c.last_branch.result (λ gives. gives none) (λ b last. branch_back c.args.self.now c.args.fixed.now f c.args.out.now c.args.level b.level b.bit b.part c.requires.led.within c.requires.each.1 c.requires.way none last) c.last_branch.ensures
