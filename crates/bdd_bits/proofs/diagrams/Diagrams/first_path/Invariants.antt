use Rattle.std.proofs.Common.{◌≡◌}
use Rattle.spec_model.specs.DiagramReads.{bits_of}
use Rattle.bdd_bits.specs.Paths.{all_of}
use Rattle.bdd_bits.specs.Settling.{HasRoom, AreSettled}
use Rattle.bdd_bits.proofs.diagrams.Diagrams.first_path.Given as goal

-- the bits so far are settled
abbrev pub invariant-loop-bit : goal.invariant-loop-bit
invariant-loop-bit l =
    record {
      settled : AreSettled (all_of l.self l.fn.room.over_levels.roots) l.fixed l.bit l.room.settled.items (bits_of l.out);
      asked : l.room.over_levels ≡ l.fn.room.over_levels;
      room : HasRoom l.self.state.table.levels l.room;
    }
