use Rattle.controller.proofs.Spotting.{counted_from_1}
use Rattle.controller.proofs.remembered.Remembered.spot.Goals as goal

pub returns : goal.returns
returns c = counted_from_1 c.args.self.now.goal c.args.self.now.rank c.args.self.now.index
