use Rattle.std.proofs.Common.{◌≡◌, ℕ, ◌<◌, length, List}
use Rattle.spec_model.specs.declared.value.Value.{Value}
use Rattle.spec_model.specs.DiagramReads.{bits_of}
use Rattle.bdd_search.specs.Parts.{value_in, AreOf, HaveValues}
use Rattle.bdd_search.proofs.reading.read.Given as goal

abbrev pub invariant-loop-k : goal.invariant-loop-k
invariant-loop-k l = record {
  long : length l.values ≡ length l.initial.values;
  so_far : (vs : List Value) → length vs ≡ length l.initial.values → AreOf l.codes l.from vs → HaveValues l.codes l.at l.from vs (bits_of l.bits) → (j : ℕ) → j < l.k → value_in l.values j ≡ value_in vs j;
}
