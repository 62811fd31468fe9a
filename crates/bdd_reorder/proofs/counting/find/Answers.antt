use Rattle.std.proofs.Common.{[], sym, subst}
use Rattle.node_table.specs.Table.{Table}
use Rattle.bdd_reorder.specs.Making.{diagrams_at}
use Rattle.bdd_reorder.specs.Searching.{IsSearched}
use Rattle.bdd_reorder.proofs.LookLemmas.{on_ok}
use Rattle.bdd_reorder.proofs.counting.find.Goals as goal

pub returns-clause-searched : goal.returns-clause-searched
returns-clause-searched c =
    let ds = diagrams_at c.args.from.now c.args.roots.now in
    let same = c.look_at.ensures.table in
    on_ok c.look_on.result
    (λ then. subst (λ (x : Table). IsSearched x ds c.look_on.new.found []) same (then ds (subst (λ (x : Table). IsSearched x ds c.look_at.new.found c.look_at.new.waiting.items) (sym same) c.in_ok-look_at.ensures.searched)))
    c.look_on.ensures.searched
