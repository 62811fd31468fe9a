use Rattle.bdd_store.proofs.Whole.{new_whole, is_new}
use Rattle.bdd_store.proofs.store.Store.make.Goals as goal

pub invariant_of-result : goal.invariant_of-result
invariant_of-result c = rw (c.new.ensures.items, c.new-2.ensures.items) (new_whole c.in_ok-nodes.nodes c.args.levels c.args.budget c.in_ok-answers.answers c.in_ok-nodes.ensures.new c.in_ok-nodes.ensures.sound c.in_ok-answers.ensures.empty)

pub returns : goal.returns
returns c = rw (c.new.ensures.items, c.new-2.ensures.items) (is_new c.in_ok-nodes.nodes c.args.levels c.args.budget c.in_ok-answers.answers c.in_ok-nodes.ensures.new c.in_ok-nodes.ensures.sound c.in_ok-answers.ensures.empty)
