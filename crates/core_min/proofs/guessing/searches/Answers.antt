use Rattle.core_min.proofs.Guessed.{guesses_on}
use Rattle.core_min.proofs.guessing.searches.Goals as goal

-- one call after another
pub returns : goal.returns
returns g c =
    let j = g.J.Judge in
    record {
      guesses = guesses_on j.size j.IsWinning j.MayFail j.faults c.args.judge.now c.blocks-2.new.judge c.halves.new.judge c.args.losing.now c.blocks-2.new.losing c.halves.new.losing
          (guesses_on j.size j.IsWinning j.MayFail j.faults c.args.judge.now c.loses.new.judge c.blocks-2.new.judge c.args.losing.now c.loses.new.losing c.blocks-2.new.losing c.loses.ensures.guesses c.blocks-2.ensures.guesses)
          c.halves.ensures.guesses;
    }
