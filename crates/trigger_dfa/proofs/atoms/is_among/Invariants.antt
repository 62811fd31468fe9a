use Rattle.std.proofs.Common.{◌≡◌, map, drop}
use Rattle.std.specs.List.{list_any}
use Rattle.spec_model.specs.Sizes.{same_formula}
use Rattle.spec_model.specs.Views.{formula}
use Rattle.trigger_dfa.proofs.atoms.is_among.Given as goal

-- those that are left decide
abbrev pub invariant-loop-atom : goal.invariant-loop-atom
invariant-loop-atom l =
    list_any (λ a. same_formula a (formula l.e)) (map formula (drop l.atom-index l.atoms)) ≡ list_any (λ a. same_formula a (formula l.e)) (map formula l.atoms)
