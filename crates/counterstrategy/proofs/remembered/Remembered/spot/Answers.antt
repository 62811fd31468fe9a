use Rattle.counterstrategy.proofs.Spotting.{counted_from_1}
use Rattle.counterstrategy.proofs.remembered.Remembered.spot.Goals as goal

pub returns : goal.returns
returns c = counted_from_1 c.args.self.now.layer c.args.self.now.goal c.args.self.now.before c.args.rank
