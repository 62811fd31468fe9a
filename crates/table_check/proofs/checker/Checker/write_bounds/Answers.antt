use Rattle.table_check.specs.Nodes.{game_in, held_at}
use Rattle.table_check.proofs.Marking.{held_there}
use Rattle.table_check.proofs.checker.Checker.write_bounds.Goals as goal

pub raise_given-requires : goal.raise_given-requires
raise_given-requires c =
    let self = c.args.self.now in
    held_there (held_at (game_in self)) self.nodes.now self.held.now c.requires.held c.loop-k.k c.index-self-k.result _ c.loop-k-test.true
