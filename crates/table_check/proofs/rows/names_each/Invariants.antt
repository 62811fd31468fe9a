use Rattle.std.proofs.Common.{◌≡◌, ◌≤◌, length, map, filter, drop}
use Rattle.std.specs.List.{AllByRecursion}
use Rattle.strategy_tables.specs.Tables.{names}
use Rattle.table_check.specs.Turns.{IsMove, before_of, given_of, game_at, nodes_at, is_listed, fits}
use Rattle.table_check.proofs.rows.names_each.Given as goal

abbrev pub invariant-loop-m : goal.invariant-loop-m
invariant-loop-m l =
    record {
      within : l.place ≤ length l.row;
      moves : AllByRecursion (IsMove (game_at l.turn) (given_of l.given)) (map (λ m. m.items) (drop l.m-index l.moves));
      same : names (nodes_at l.turn) (fits (game_at l.turn) (before_of l.turn.before) (given_of l.given)) (filter (is_listed (game_at l.turn) (before_of l.turn.before) (given_of l.given)) (map (λ m. m.items) (drop l.m-index l.moves))) (drop l.place l.row)
          ≡ names (nodes_at l.turn) (fits (game_at l.turn) (before_of l.turn.before) (given_of l.given)) (filter (is_listed (game_at l.turn) (before_of l.turn.before) (given_of l.given)) (map (λ m. m.items) l.moves)) l.row;
    }
