use Rattle.std.proofs.Common.{◌≡◌, ◌≤◌, drop, take, length, vec_len, vec_capacity}
use Rattle.std.specs.List.{AllByRecursion}
use Rattle.bdd_bits.specs.Calls.{KeepsRoots}
use Rattle.bit_compile.specs.CaseRoots.{AddsCases, IsReady, cases_by}
use Rattle.bit_compile.proofs.cases.cases_from.Given as goal

-- the cases of the values so far
abbrev pub invariant-loop-value : goal.invariant-loop-value
invariant-loop-value l =
    let first = l.fn.diagrams in
    record {
      made : AddsCases first l.diagrams l.cases.items (cases_by first l.source (take l.value-index l.values));
      keeps : KeepsRoots first l.diagrams;
      ready : AllByRecursion (IsReady first l.source) (drop l.value-index l.values);
      counted : vec_len l.cases ≡ l.value-index;
      room : length l.values ≤ vec_capacity l.cases;
    }
