use Rattle.std.proofs.Common.{◌≡◌, ◌+◌, map, drop}
use Rattle.spec_model.specs.Views.{formula}
use Rattle.spec_model.specs.Sizes.{same_formula}
use Rattle.trigger_dfa.specs.Standings.{first_place}
use Rattle.trigger_dfa.proofs.side.atom_number.Given as goal

-- none of those that were looked at is the atom
abbrev pub invariant-loop-k : goal.invariant-loop-k
invariant-loop-k l =
    l.k + first_place (λ a. same_formula a (formula l.e)) (map formula (drop l.k l.atoms)) ≡ first_place (λ a. same_formula a (formula l.e)) (map formula l.atoms)
