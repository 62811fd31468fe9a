use Rattle.std.proofs.Common.{◌≡◌, map, drop}
use Rattle.strategy_tables.specs.Rules.{system_checks_from, first_flaw}
use Rattle.strategy_tables.specs.Views.{node_data}
use Rattle.table_check.specs.Ends.{end_of}
use Rattle.table_check.specs.Turns.{HasRoom}
use Rattle.table_check.specs.Nodes.{game_in, nodes_in}
use Rattle.table_check.proofs.checker.Checker.system_nodes.Given as goal

abbrev pub invariant-loop-i : goal.invariant-loop-i
invariant-loop-i l =
    record {
      room : HasRoom (game_in l.self) l.room;
      same : end_of (first_flaw (system_checks_from (game_in l.self) (nodes_in l.self) l.i (map node_data (drop l.i l.self.nodes.now))))
          ≡ end_of (first_flaw (system_checks_from (game_in l.self) (nodes_in l.self) 0 (nodes_in l.self)));
    }
