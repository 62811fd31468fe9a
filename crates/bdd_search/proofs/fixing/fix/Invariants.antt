use Rattle.std.proofs.Common.{◌≡◌, ℕ, ◌+◌, ◌<◌, length, true}
use Rattle.spec_model.specs.Diagrams.{Bits}
use Rattle.bdd_ops.specs.Paths.{Agrees}
use Rattle.bit_compile.specs.Domains.{level_count}
use Rattle.bdd_search.specs.Parts.{value_in, has_value_at}
use Rattle.bdd_search.proofs.FixLemmas.{FixesSome, KeepsOthers}
use Rattle.bdd_search.proofs.fixing.fix.Given as goal

abbrev pub invariant-loop-k : goal.invariant-loop-k
invariant-loop-k l = record {
  room : length l.fixed ≡ level_count l.codes;
  fixes : FixesSome l.codes l.at l.from l.values l.k l.fixed;
  allows : (s : Bits) → Agrees l.initial.fixed 0 s → ((j : ℕ) → j < l.k → has_value_at l.codes l.at (l.from + j) (value_in l.values j) s ≡ true) → Agrees l.fixed 0 s;
  others : KeepsOthers l.codes l.at l.initial.fixed l.fixed;
}
