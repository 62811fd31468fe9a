use Rattle.std.proofs.Common.{◌∙◌}
use Rattle.spec_model.specs.Views.{formula, pattern_data}
use Rattle.pattern_rows.proofs.Lines.{goal_safe, goal_line_holds}
use Rattle.pattern_rows.proofs.numbering.goal_holds.Goals as goal

pub holds-requires : goal.holds-requires
holds-requires c = goal_safe (pattern_data c.args.pattern.now) c.args.letter.now c.args.own.now (formula c.args.goal.now) c.requires.goal c.requires.cell

pub returns : goal.returns
returns c = c.holds.ensures ∙ goal_line_holds (pattern_data c.args.pattern.now) c.args.letter.now c.args.own.now (formula c.args.goal.now) c.requires.goal
