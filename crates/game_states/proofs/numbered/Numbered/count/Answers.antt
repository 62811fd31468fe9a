use Rattle.std.proofs.Common.{arith}
use Rattle.spec_model.specs.GameViews.{game_data}
use Rattle.game_states.proofs.LineLaws.{length-seen}
use Rattle.game_states.proofs.numbered.Numbered.count.Goals as goal

pub returns : goal.returns
returns c = let self = c.args.self.now in omega (arith, c.len.ensures, length-seen (game_data self.game) self.seen.items self.states_seen)
