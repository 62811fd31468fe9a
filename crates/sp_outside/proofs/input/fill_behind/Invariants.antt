use Rattle.std.proofs.Common.{◌≡◌, ◌-◌, ◌≤◌, length, take, drop}
use Rattle.std.specs.Io.KnownBytes.{Consumes}
use Rattle.sp_outside.specs.Parts.{ReadsUpTo}
use Rattle.sp_outside.proofs.input.fill_behind.Given as goal

-- what stands behind the first bytes was taken, each read took some of it, and the count of faults has not fallen
abbrev pub invariant-loop-at : goal.invariant-loop-at
invariant-loop-at g l = record {
  begun : l.start ≤ l.at;
  within : l.at ≤ length l.buf;
  front : take l.start l.buf ≡ take l.start l.initial.buf;
  taken : Consumes (g.I.Source.left l.initial.input) (g.I.Source.left l.input) (drop l.start (take l.at l.buf));
  reads : ReadsUpTo (l.at - l.start) 0 (g.I.Source.left l.initial.input) (g.I.Source.left l.input) (g.I.Source.reads l.initial.input) (g.I.Source.reads l.input);
  later : g.I.Source.faults l.initial.input ≤ g.I.Source.faults l.input;
}

abbrev pub decreases-loop-at : goal.decreases-loop-at
decreases-loop-at g l = length l.buf - l.at
