use Rattle.std.proofs.Common.{◌-◌, ◌≤◌, vec_len}
use Rattle.std.specs.Io.KnownBytes.{Consumes}
use Rattle.sp_outside.specs.Parts.{ReadsUpTo}
use Rattle.sp_outside.proofs.input.read_input.Given as goal

-- all of `bytes` was taken, each read took some of it, and the count of faults has not fallen
abbrev pub invariant-loop-bytes : goal.invariant-loop-bytes
invariant-loop-bytes g l = record {
  within : vec_len l.bytes ≤ l.limit;
  taken : Consumes (g.I.Source.left l.initial.input) (g.I.Source.left l.input) l.bytes.items;
  reads : ReadsUpTo (vec_len l.bytes) 0 (g.I.Source.left l.initial.input) (g.I.Source.left l.input) (g.I.Source.reads l.initial.input) (g.I.Source.reads l.input);
  later : g.I.Source.faults l.initial.input ≤ g.I.Source.faults l.input;
}

abbrev pub decreases-loop-bytes : goal.decreases-loop-bytes
decreases-loop-bytes g l = l.limit - vec_len l.bytes
