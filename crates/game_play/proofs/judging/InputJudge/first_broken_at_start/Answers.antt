use Rattle.std.proofs.Common.{◌∙◌, refl, ap, None, is_none, option_map}
use Rattle.std.proofs.lemmas.Bool.{and_parts}
use Rattle.spec_model.specs.GameViews.{game_data}
use Rattle.spec_model.specs.Meaning.{holds_at}
use Rattle.spec_model.specs.Steps.{are_hidden_values, reached}
use Rattle.spec_model.specs.WellMade.{scope_of}
use Rattle.spec_model.specs.FirstBroken.{line_label}
use Rattle.spec_model.proofs.Closed.{closed}
use Rattle.game_play.specs.declared.judging.Move.{Move}
use Rattle.game_play.specs.Sights.{IsSplit}
use Rattle.game_play.specs.Judged.{judged_in}
use Rattle.game_play.proofs.SeenMoves.{lines_safe, initial_steps, safety_steps, made_typed, some_output, first_state}
use Rattle.game_play.proofs.FirstBroken.{first_at_start, none_is_legal}
use Rattle.game_play.proofs.judging.InputJudge.first_broken_at_start.Goals as goal

pub made_position-made-requires-clause-state : goal.made_position-made-requires-clause-state
made_position-made-requires-clause-state c =
    let g = game_data c.args.game.now in
    let x = c.args.input.now in
    let y = c.deref-output.result.now in
    let output = some_output g c.args.self.now y c.deref-output.ensures.value c.requires.judge in
    first_state g c.requires.made c.args.numbers.now x y c.requires.input output c.requires.numbers

pub false_at_start-requires-clause-initial : goal.false_at_start-requires-clause-initial
false_at_start-requires-clause-initial c =
    let g = game_data c.args.game.now in
    let y = c.deref-output.result.now in
    let m : Move = record { made = c.made_position-made.result; before = None } in
    let here = first_state g c.requires.made c.args.numbers.now c.args.input.now y c.requires.input (some_output g c.args.self.now y c.deref-output.ensures.value c.requires.judge) c.requires.numbers in
    lines_safe (scope_of g) m (made_typed g here.0 here.1 m.made (c.made_position-made.ensures here.0 here.1 here.2)) tt c.args.game.now.initial_asm.items (initial_steps g c.requires.made)

pub false_at_start-requires-clause-safety : goal.false_at_start-requires-clause-safety
false_at_start-requires-clause-safety c =
    let g = game_data c.args.game.now in
    let y = c.deref-output.result.now in
    let m : Move = record { made = c.made_position-made.result; before = None } in
    let here = first_state g c.requires.made c.args.numbers.now c.args.input.now y c.requires.input (some_output g c.args.self.now y c.deref-output.ensures.value c.requires.judge) c.requires.numbers in
    lines_safe (scope_of g) m (made_typed g here.0 here.1 m.made (c.made_position-made.ensures here.0 here.1 here.2)) tt c.args.game.now.safe_asm.items (safety_steps g c.requires.made)

pub returns-clause-first : goal.returns-clause-first
returns-clause-first c =
    let g = game_data c.args.game.now in
    let x = c.args.input.now in
    let y = c.deref-output.result.now in
    let output = some_output g c.args.self.now y c.deref-output.ensures.value c.requires.judge in
    let s = reached g None x y in
    let inside = (closed g c.requires.made).first x y c.requires.input output in
    let split : IsSplit s c.args.numbers.now x y = record { hidden = c.requires.numbers; input = refl; output = refl } in
    let m : Move = record { made = c.made_position-made.result; before = None } in
    c.label_of.ensures
    ∙ ap (option_map line_label)
    (c.false_at_start.ensures
    ∙ first_at_start g c.requires.made None x y (and_parts (are_hidden_values g.hidden s.hidden) _ inside).0 (judged_in m)
    (λ e. ap (λ r. holds_at r e 0) (c.made_position-made.ensures s inside split))
    (λ e good. refl) refl c.deref.result.now (c.deref.ensures.value ∙ c.requires.judge.waits))

pub returns-clause-none : goal.returns-clause-none
returns-clause-none c =
    let g = game_data c.args.game.now in
    let x = c.args.input.now in
    let y = c.deref-output.result.now in
    let output = some_output g c.args.self.now y c.deref-output.ensures.value c.requires.judge in
    let inside = (closed g c.requires.made).first x y c.requires.input output in
    ap is_none (returns-clause-first c) ∙ none_is_legal g c.requires.made None x y (and_parts (are_hidden_values g.hidden (reached g None x y).hidden) _ inside).0
