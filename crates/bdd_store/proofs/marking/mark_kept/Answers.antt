use Rattle.std.proofs.Common.{◌≡◌, length, arith}
use Rattle.bdd_store.proofs.Reclaiming.{marks_skip, marks_more, marks_kept}
use Rattle.bdd_store.proofs.marking.mark_kept.Goals as goal
use Rattle.bdd_store.proofs.marking.mark_kept.Goals.{then-kept-n-gt0, else-kept-n-gt0}

pub loop-n-preserved : goal.loop-n-preserved
loop-n-preserved c =
    elim c.if-kept-n-gt0.branch [
      | then-kept-n-gt0 w ↦ record {
        marks = rw w.nodes-is (marks_more c.args.nodes.now c.loop-n.nodes w.mark.new.self c.args.kept.now c.loop-n.n c.loop-n.invariant.marks w.if-kept-n-gt0.true w.mark.ensures.marks);
        sound = rw w.nodes-is w.mark.ensures.sound;
      }
      | else-kept-n-gt0 w ↦ record {
        marks = rw w.nodes-is (marks_skip c.args.nodes.now c.loop-n.nodes c.args.kept.now c.loop-n.n c.loop-n.invariant.marks w.if-kept-n-gt0.false);
        sound = rw w.nodes-is c.loop-n.invariant.sound;
      }
    ]

pub returns-clause-marks : goal.returns-clause-marks
returns-clause-marks c = marks_kept c.args.nodes.now c.loop-n.nodes c.args.kept.now c.loop-n.n (omega arith) c.loop-n.invariant.marks
