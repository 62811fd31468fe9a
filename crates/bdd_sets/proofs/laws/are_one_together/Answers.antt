use Rattle.std.proofs.Common.{sym, subst}
use Rattle.spec_model.specs.Sets.{StateSet}
use Rattle.bdd_sets.specs.StateBits.{Tells}
use Rattle.bdd_sets.proofs.SetLemmas.{one_function, same_set}
use Rattle.bdd_sets.proofs.laws.are_one_together.Goals as goal

pub returns : goal.returns
returns c = λ g at f h t u first second.
    record {
      function = λ same. one_function g at f h t first (subst (λ (s : StateSet). Tells g at h s) (sym same) second);
      set = same_set g at f h t u first second;
    }
