use Rattle.std.proofs.Common.{◌≡◌, ℕ, ◌+◌, ◌<◌, true}
use Rattle.std.specs.List.{list_any}
use Rattle.spec_model.specs.Values.{same_value, values_of}
use Rattle.bit_compile.specs.Codes.{domain_in}
use Rattle.bdd_search.specs.Parts.{value_in}
use Rattle.bdd_search.proofs.fitting.fit.Given as goal

abbrev pub invariant-loop-k : goal.invariant-loop-k
invariant-loop-k l = (j : ℕ) → j < l.k → list_any (same_value (value_in l.values j)) (values_of (domain_in l.codes (l.from + j))) ≡ true
