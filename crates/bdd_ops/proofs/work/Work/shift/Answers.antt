use Rattle.bdd_ops.proofs.ListCallLemmas.{rising_listed, shift_start}
use Rattle.bdd_ops.proofs.work.Work.shift.Goals as goal

pub moved_root-requires-clause-rising : goal.moved_root-requires-clause-rising
moved_root-requires-clause-rising c = rising_listed c.args.self.now c.list.new.self c.in_ok-list.list c.args.a.now c.args.to.now c.list.ensures.table c.in_ok-list.ensures.given.1 c.requires.rising

pub returns-clause-given : goal.returns-clause-given
returns-clause-given c = shift_start c.args.self.now c.list.new.self c.moved_root.new.self c.moved_root.result c.in_ok-list.list c.args.a.now c.args.to.now c.list.ensures.table c.list.ensures.kept c.in_ok-list.ensures.given.1 c.moved_root.ensures.given
