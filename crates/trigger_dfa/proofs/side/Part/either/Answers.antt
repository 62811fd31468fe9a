use Rattle.trigger_dfa.proofs.Parts.{is_either}
use Rattle.trigger_dfa.proofs.side.Part.either.Goals as goal

pub returns : goal.returns
returns c x y n a b = is_either x y n c.args.self c.args.b a b
