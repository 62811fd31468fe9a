use Rattle.std.proofs.Common.{◌∙◌}
use Rattle.gr1_sys.proofs.Holdings.{replaces, takes}
use Rattle.gr1_sys.proofs.joining.and_in.Goals as goal

pub returns-in-Ok-clause-made : goal.returns-in-Ok-clause-made
returns-in-Ok-clause-made g c = replaces _ _ _ c.args.a c.in-Ok.common _ (g.met.G.Regions.exact _) c.requires.a c.in-Ok.ensures.made c.spend.ensures.spends

pub returns-in-Err-clause-halted : goal.returns-in-Err-clause-halted
returns-in-Err-clause-halted g c = takes _ _ _ c.args.a (g.met.G.Regions.exact _) c.requires.a c.in-Err.ensures.halted.held c.spend-in-Err.ensures.spends

pub returns-in-Err-clause-told : goal.returns-in-Err-clause-told
returns-in-Err-clause-told g c = c.spend-in-Err.ensures.spends.jam ∙ c.in-Err.ensures.halted.jam
