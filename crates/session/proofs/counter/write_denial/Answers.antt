use Rattle.std.proofs.Common.{ℕ, List, subst}
use Rattle.std.specs.Result.{OnErr}
use Rattle.sp_outside.specs.Written.{AppendsFront}
use Rattle.session.proofs.Noting.{denial_whole, denial_part}
use Rattle.session.proofs.counter.write_denial.Goals as goal

pub returns-then-goal-eq0-clause-part : goal.returns-then-goal-eq0-clause-part
returns-then-goal-eq0-clause-part g c =
    let w = c.write_numbered in
    let line = c.from-line.ensures in
    subst (λ (l : List ℕ). OnErr w.result (AppendsFront (g.O.Sink.written c.args.output.now) (g.O.Sink.written w.new.output) l)) (denial_whole c.args.goal c.if-goal-eq0.true) (rw line at w.ensures.part)

pub returns-clause-part : goal.returns-clause-part
returns-clause-part g c =
    let w = c.write_twice_numbered in
    let line = c.from-line.ensures in
    let part = c.into.ensures in
    subst (λ (l : List ℕ). OnErr w.result (AppendsFront (g.O.Sink.written c.args.output.now) (g.O.Sink.written w.new.output) l)) (denial_part c.args.goal c.if-goal-eq0.false) (rw part at (rw line at w.ensures.part))
