use Rattle.bdd_sets.proofs.SetLemmas.{tells_none, tells_both, tells_either, tells_rest}
use Rattle.bdd_sets.proofs.laws.operations_tell.Goals as goal

pub returns : goal.returns
returns c = λ g at f h t u.
    record {
      none = tells_none g at;
      common = tells_both g at f h t u;
      together = tells_either g at f h t u;
      others = tells_rest g at f h t;
    }
