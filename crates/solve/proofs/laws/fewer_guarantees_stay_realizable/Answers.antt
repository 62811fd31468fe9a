use Rattle.gr1_law.proofs.CoreTrials.{part_stays}
use Rattle.solve.specs.Places.{solvable}
use Rattle.solve.proofs.Wholly.{part_of_whole}
use Rattle.solve.proofs.laws.fewer_guarantees_stay_realizable.Goals as goal

pub returns : goal.returns
returns c s typed =
    record {
      whole = λ part won. part_of_whole s part (solvable s typed part) won;
      parts = λ kept part inside won. part_stays s kept part (solvable s typed part) inside won;
    }
