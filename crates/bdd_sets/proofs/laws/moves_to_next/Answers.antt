use Rattle.std.proofs.Common.{refl}
use Rattle.bit_compile.specs.Domains.{state_domains, level_count}
use Rattle.bdd_sets.proofs.ShiftLemmas.{rises_to_next, tells_next}
use Rattle.bdd_sets.proofs.laws.moves_to_next.Goals as goal

pub returns : goal.returns
returns c = λ g to f t.
    record {
      rises = λ o leads keeps tells. rises_to_next g f tells.states (level_count (state_domains g)) o to refl leads keeps;
      told = λ leads tells. tells_next g to leads f t tells;
    }
