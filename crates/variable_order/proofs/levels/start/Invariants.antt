use Rattle.std.proofs.Common.{◌≡◌, ◌+◌, drop}
use Rattle.variable_order.specs.Levels.{total, start_in}
use Rattle.variable_order.proofs.levels.start.Given as goal

-- the slots so far are others
abbrev pub invariant-loop-before : goal.invariant-loop-before
invariant-loop-before l =
    record {
      start : l.levels + start_in l.widths (drop l.before-index l.order) l.slot ≡ start_in l.widths l.order l.slot;
      total : l.levels + total l.widths (drop l.before-index l.order) ≡ total l.widths l.order;
    }
