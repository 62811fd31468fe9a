use Rattle.std.proofs.Common.{◌*◌}
use Rattle.pattern_rows.proofs.Parts.{block_is}
use Rattle.pattern_rows.proofs.words.block_of.Goals as goal

pub returns : goal.returns
returns c = block_is (λ c. c.items) c.args.letters.now (64 * c.args.c) c.min-end.result c.min-end.ensures
