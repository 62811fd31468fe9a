use Rattle.gr1_law.proofs.Settling as settling
use Rattle.gr1_law.proofs.Solutions.{some_winning, z-one, ranks-one, layers-inside, last-one}
use Rattle.gr1_law.proofs.laws.winning_is_told.Goals as goal

pub returns : goal.returns
returns c g =
    record {
      some = some_winning g;
      some_ranks = λ z l w. settling.some_ranks g z l w.layers;
      same = z-one g;
      same_ranks = ranks-one g;
      layers_inside = layers-inside g;
      last_layers = last-one g;
    }
