use Rattle.std.proofs.Common.{◌++◌, map, sym, ap, ◌∙◌, subst}
use Rattle.std.specs.List.{list_all}
use Rattle.spec_model.specs.Views.{formula, pattern_data}
use Rattle.spec_model.specs.Meaning.{holds_at}
use Rattle.spec_model.specs.Patterns.{two_positions}
use Rattle.game_values.specs.Safety.{AreSafe, formulas_in}
use Rattle.pattern_rows.proofs.Lines.{step_lines_safe}
use Rattle.pattern_rows.proofs.numbering.follows.Goals as goal

pub each_holds-requires : goal.each_holds-requires
each_holds-requires c =
    subst (λ es. AreSafe (two_positions (c.args.letter.now ++ c.args.own.now) (c.args.letter.now ++ c.args.next.now)) (formulas_in es) 0) (sym c.deref.ensures.value)
    (step_lines_safe (pattern_data c.args.pattern.now) c.args.letter.now c.args.own.now c.args.next.now c.requires.shaped c.requires.cell c.requires.next)

pub returns : goal.returns
returns c =
    c.each_holds.ensures
    ∙ ap (λ es. list_all (λ e. holds_at (two_positions (c.args.letter.now ++ c.args.own.now) (c.args.letter.now ++ c.args.next.now)) e 0) (map formula es)) c.deref.ensures.value
