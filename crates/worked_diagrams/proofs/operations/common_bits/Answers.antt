use Rattle.std.proofs.Common.{rules}
use Rattle.worked_diagrams.proofs.RootLemmas.{both_kept}
use Rattle.worked_diagrams.proofs.operations.common_bits.Goals as goal

pub first_common_path-requires-clause-kept : goal.first_common_path-requires-clause-kept
first_common_path-requires-clause-kept g c = both_kept c.args.diagrams.now.state _ c.args.a.now c.args.b.now (search rules) c.requires.a_kept c.requires.b_kept
