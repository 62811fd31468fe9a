use Rattle.counterstrategy.proofs.Labelling.{label_there}
use Rattle.counterstrategy.proofs.noting.label_of.Goals as goal

pub returns : goal.returns
returns c = λ none. label_there c.args.goals.now c.args.j c.requires c.index-goals-j.result none
