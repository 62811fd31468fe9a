use Rattle.std.proofs.Common.{◌≡◌, ◌≤◌, map, drop, vec_len}
use Rattle.spec_model.specs.declared.expr.Regex.{size-Regex}
use Rattle.spec_model.specs.Syntax.{regulars}
use Rattle.spec_model.specs.Views.{formula, regular}
use Rattle.spec_model.specs.Sizes.{atoms_of, atoms_of_all}
use Rattle.trigger_dfa.specs.Atoms.{with_atoms}
use Rattle.trigger_dfa.proofs.atoms.+collecting.Given as goal

-- what is left has the atoms of all
abbrev pub invariant-collect-repeats : goal.invariant-collect-repeats
invariant-collect-repeats l = record {
  same : atoms_of (regular l.part) ≡ atoms_of (regular l.r);
  unchanged : l.atoms ≡ l.initial.atoms;
  no_larger : size-Regex l.part ≤ size-Regex l.r;
}

abbrev pub invariant-collect_each-loop-r : goal.invariant-collect_each-loop-r
invariant-collect_each-loop-r l =
    (with_atoms (map formula l.atoms.items) (atoms_of_all (regulars (map regular (drop l.r-index l.rs)))) ≡ with_atoms (map formula l.initial.atoms.items) (atoms_of_all (regulars (map regular l.rs))))
    × (vec_len l.initial.atoms ≤ 8 → vec_len l.atoms ≤ 8)
