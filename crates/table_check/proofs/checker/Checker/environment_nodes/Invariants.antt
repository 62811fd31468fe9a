use Rattle.std.proofs.Common.{◌≡◌, map, drop}
use Rattle.strategy_tables.specs.Rules.{environment_checks_from, first_flaw}
use Rattle.strategy_tables.specs.Views.{node_data}
use Rattle.table_check.specs.Ends.{end_of}
use Rattle.table_check.specs.Turns.{HasRoom}
use Rattle.table_check.specs.Nodes.{game_in, nodes_in, claimed}
use Rattle.table_check.proofs.checker.Checker.environment_nodes.Given as goal

abbrev pub invariant-loop-i : goal.invariant-loop-i
invariant-loop-i l =
    record {
      room : HasRoom (game_in l.self) l.room;
      same : end_of (first_flaw (environment_checks_from (game_in l.self) (claimed l.self l.claim) l.i (map node_data (drop l.i l.self.nodes.now))))
          ≡ end_of (first_flaw (environment_checks_from (game_in l.self) (claimed l.self l.claim) 0 (nodes_in l.self)));
    }
