use Rattle.std.proofs.Common.{◌+◌, ◌-◌, ◌*◌, ◌≤◌, length, not}
use Rattle.std.specs.Prelude.{count_by}
use Rattle.node_table.specs.Table.{Table}
use Rattle.node_table.specs.Index.{with_columns, IsMarkable, IsWalk}
use Rattle.node_table.proofs.walk.mark_from.Given as goal

abbrev pub invariant-loop-depth : goal.invariant-loop-depth
invariant-loop-depth l = record {
  within : l.depth ≤ length l.way;
  walk : (t : Table) → IsMarkable (with_columns t l.nodes l.fn.marked) l.n (length l.fn.way) → IsWalk (with_columns t l.nodes l.fn.marked) (with_columns t l.nodes l.marked) l.way l.n l.depth;
}

-- the unmarked nodes, each counted as often as ways can be long, less the length of this one
abbrev pub decreases-loop-depth : goal.decreases-loop-depth
decreases-loop-depth l = count_by not l.marked * (length l.fn.way + 1) - l.depth
