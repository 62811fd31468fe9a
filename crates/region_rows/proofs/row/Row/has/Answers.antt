use Rattle.region_rows.proofs.WordLaws.{has_bit}
use Rattle.region_rows.proofs.row.Row.has.Goals as goal

pub returns : goal.returns
returns c = has_bit c.args.self.now c.args.k c.word.result c.word.ensures
