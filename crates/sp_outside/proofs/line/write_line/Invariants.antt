use Rattle.std.proofs.Common.{◌-◌, ◌≤◌, length, take}
use Rattle.std.specs.Io.KnownBytes.{Appends}
use Rattle.sp_outside.proofs.line.write_line.Given as goal

-- the bytes up to `taken` were written, and the count of faults has not fallen
abbrev pub invariant-loop-taken : goal.invariant-loop-taken
invariant-loop-taken g l = record {
  within : l.taken ≤ length l.line;
  written : Appends (g.O.Sink.written l.initial.output) (g.O.Sink.written l.output) (take l.taken l.line);
  later : g.O.Sink.faults l.initial.output ≤ g.O.Sink.faults l.output;
}

abbrev pub decreases-loop-taken : goal.decreases-loop-taken
decreases-loop-taken g l = length l.line - l.taken
