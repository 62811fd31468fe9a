-- What the program's tables stand for.
use Rattle.std.specs.Prelude.{map}
use Rattle.game_play.specs.Sights.{cell_in}
use Rattle.strategy_tables.specs.declared.tables.Node.{Node}
use Rattle.strategy_tables.specs.declared.tables.Table.{Table}
use Rattle.strategy_tables.specs.declared.tables.Table.TheVariants as table
use Rattle.strategy_tables.specs.Tables.{NodeData}
use Rattle.strategy_tables.specs.Games.{TableData, OfSystem, OfEnvironment}

-- a hidden value is the whole number that it is; what is none counts as 0
abbrev pub node_data : Node → NodeData
node_data v =
    record {
      state = record { hidden = map cell_in v.hidden.items; position = record { input = v.input.items; output = v.output.items } };
      asm = v.asm;
      goal = v.goal;
      rank = v.rank;
      layer = v.layer;
      reply = v.reply.items;
      next = v.next.items;
    }

-- a program's table is its numbers, its first nodes and all nodes
abbrev pub table_data : Table → TableData
table_data (table.System k first nodes) = OfSystem (record { k = k; first = first.items; nodes = map node_data nodes.items })
table_data (table.Environment n m reply first nodes) =
    OfEnvironment (record { n = n; m = m; reply = reply.items; first = first.items; nodes = map node_data nodes.items })
