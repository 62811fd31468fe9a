use Rattle.std.proofs.Common.{map}
use Rattle.spec_model.specs.Views.{formula}
use Rattle.trigger_dfa.proofs.LaidParts.{laid_bracket}
use Rattle.trigger_dfa.proofs.side.Side.lay_bracket.Goals as goal

pub returns : goal.returns
returns c =
    laid_bracket (map formula c.args.atoms.now) (formula c.args.e.now) c.args.end c.atom_number.result c.args.self.now c.mean.new.self c.single.result c.single-2.result
    c.requires.some c.single.ensures c.single-2.ensures c.atom_number.ensures c.mean.ensures
