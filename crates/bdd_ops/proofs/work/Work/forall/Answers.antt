use Rattle.bdd_ops.proofs.ListCallLemmas.{forall_start}
use Rattle.bdd_ops.proofs.work.Work.forall.Goals as goal

pub returns-clause-given : goal.returns-clause-given
returns-clause-given c = forall_start c.args.self.now c.list.new.self c.quantified_root.new.self c.quantified_root.result c.in_ok-list.list c.args.a.now c.args.levels.now c.list.ensures.table c.list.ensures.kept c.in_ok-list.ensures.given.1 c.quantified_root.ensures.given
