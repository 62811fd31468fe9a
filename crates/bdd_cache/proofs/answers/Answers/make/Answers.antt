use Rattle.std.proofs.Common.{refl}
use Rattle.bdd_cache.proofs.KeptLemmas.{none_kept}
use Rattle.bdd_cache.proofs.answers.Answers.make.Goals as goal

pub returns : goal.returns
returns c = record { empty = none_kept _ _ refl c.empty.ensures.none }
