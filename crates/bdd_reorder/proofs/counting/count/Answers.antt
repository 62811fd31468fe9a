use Rattle.bdd_reorder.specs.Making.{diagrams_at}
use Rattle.bdd_reorder.proofs.CountLemmas.{counted_ok}
use Rattle.bdd_reorder.proofs.counting.count.Goals as goal

pub returns-in-Ok-clause-counted : goal.returns-in-Ok-clause-counted
returns-in-Ok-clause-counted c =
    counted_ok c.args.from.now.state.table (diagrams_at c.args.from.now c.args.roots.now) c.find-looked.new.found c.in-Ok.ensures.searched c.and_two.result c.and_two.ensures
