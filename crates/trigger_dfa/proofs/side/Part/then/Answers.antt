use Rattle.trigger_dfa.proofs.Parts.{is_then}
use Rattle.trigger_dfa.proofs.side.Part.then.Goals as goal

pub returns-clause-part : goal.returns-clause-part
returns-clause-part c x y n a b = is_then x y n c.args.self c.args.b a b c.when.result c.when-2.result c.when.ensures c.when-2.ensures
