use Rattle.std.proofs.Common.{◌≡◌, ◌+◌, ℕ, Option, true, sym, subst, refl, arith}
use Rattle.spec_model.specs.Diagrams.{Function}
use Rattle.spec_model.specs.DiagramReads.{bits_of}
use Rattle.bdd_ops.specs.declared.paths.Branch.{Branch}
use Rattle.bdd_ops.specs.Contents.{function_at}
use Rattle.bdd_ops.specs.Ways.{IsLast}
use Rattle.bdd_ops.proofs.WayLemmas.{LastAt, led_more, stays_last, last_new, none_behind_true, none_behind_low}
use Rattle.bdd_ops.proofs.work.Work.last_branch.Goals.{then-not-out-at+in-Some, then-not-out-at+in_default, else-not-out-at}
use Rattle.bdd_ops.proofs.work.Work.last_branch.Goals as goal

pub loop-at-preserved : goal.loop-at-preserved
loop-at-preserved c =
    let f : Function = function_at c.args.self.now c.args.root.0 in
    record {
      led = led_more c.args.self.now f c.loop-at.at (bits_of c.args.out.now) (bits_of c.args.out.now c.loop-at.at) c.loop-at.edge c.chosen-edge.result (omega (arith, c.loop-at-test.true, c.requires.within)) c.loop-at.invariant.led c.chosen-edge.ensures refl;
      last = elim c.if-not-out-at.branch [
        | then-not-out-at+in-Some w ↦
            let new : IsLast c.args.self.now c.args.fixed.now f c.args.out.now (c.loop-at.at + 1) c.loop-at.at true w.in-Some.part =
            last_new c.args.self.now c.args.fixed.now f c.args.out.now c.loop-at.at c.loop-at.edge w.in-Some.part (omega (arith, c.loop-at-test.true, c.requires.within)) c.requires.each.1 c.loop-at.invariant.led w.if-not-out-at.true w.in-Some.ensures.0 w.in-Some.ensures.1 in
            subst (λ (last : Option Branch). LastAt c.args.self.now c.args.fixed.now f c.args.out.now (c.loop-at.at + 1) last) (sym w.last-is) new
        | then-not-out-at+in_default w ↦
            subst (λ (last : Option Branch). LastAt c.args.self.now c.args.fixed.now f c.args.out.now (c.loop-at.at + 1) last) (sym w.last-is)
            (stays_last c.args.self.now c.args.fixed.now f c.args.out.now c.loop-at.at c.loop-at.last
            (none_behind_low c.args.self.now c.args.fixed.now f c.loop-at.at (bits_of c.args.out.now) c.loop-at.edge.0 c.loop-at.invariant.led (c.requires.way.agrees c.loop-at.at c.loop-at-test.true) w.if-not-out-at.true w.in_default.ensures) c.loop-at.invariant.last)
        | else-not-out-at w ↦
            subst (λ (last : Option Branch). LastAt c.args.self.now c.args.fixed.now f c.args.out.now (c.loop-at.at + 1) last) (sym w.last-is)
            (stays_last c.args.self.now c.args.fixed.now f c.args.out.now c.loop-at.at c.loop-at.last
            (none_behind_true c.args.fixed.now f c.args.level c.loop-at.at (bits_of c.args.out.now) c.requires.way c.loop-at-test.true w.if-not-out-at.false) c.loop-at.invariant.last)
      ];
    }

pub returns : goal.returns
returns c =
    let f : Function = function_at c.args.self.now c.args.root.0 in
    let end : c.loop-at.at ≡ c.args.level = omega (arith, c.loop-at-test.false, c.loop-at.auto.at-end) in
    subst (λ (n : ℕ). LastAt c.args.self.now c.args.fixed.now f c.args.out.now n c.loop-at.last) end c.loop-at.invariant.last
