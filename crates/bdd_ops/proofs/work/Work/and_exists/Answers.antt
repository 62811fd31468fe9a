use Rattle.bdd_ops.proofs.ListCallLemmas.{and_exists_start}
use Rattle.bdd_ops.proofs.work.Work.and_exists.Goals as goal

pub returns-clause-given : goal.returns-clause-given
returns-clause-given c = and_exists_start c.args.self.now c.list.new.self c.related_root.new.self c.related_root.result c.in_ok-list.list c.args.a.now c.args.b.now c.args.levels.now c.list.ensures.table c.list.ensures.kept c.in_ok-list.ensures.given.1 c.related_root.ensures.given
