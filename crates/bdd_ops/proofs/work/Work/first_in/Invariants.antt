use Rattle.std.proofs.Common.{◌≡◌, ◌+◌, ◌-◌}
use Rattle.spec_model.specs.DiagramReads.{bits_of}
use Rattle.bdd_ops.specs.Searching.{row_at, top_of, cost_of, pending, IsSearch}
use Rattle.bdd_ops.proofs.work.Work.first_in.Given as goal

abbrev pub invariant-search : goal.invariant-search
invariant-search l = record {
  stands : IsSearch l.self l.fixed (row_at l.rows l.width) (bits_of l.out) l.depth l.next;
  first : row_at l.rows l.width 0 ≡ row_at l.initial.rows l.width 0;
}

abbrev pub decreases-search : goal.decreases-search
decreases-search l = cost_of l.next (l.self.state.table.levels - l.depth) + pending (λ i. bits_of l.out (top_of l.self (row_at l.rows l.width i))) l.self.state.table.levels l.depth
