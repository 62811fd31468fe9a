use Rattle.std.proofs.Common.{◌∙◌, length, refl, sym, ap, subst, Some, is_none, option_map}
use Rattle.spec_model.specs.GameViews.{game_data}
use Rattle.spec_model.specs.Rules.{Position}
use Rattle.spec_model.specs.Meaning.{holds_at}
use Rattle.spec_model.specs.Games.{Readout, listed}
use Rattle.spec_model.specs.Steps.{reached}
use Rattle.spec_model.specs.WellMade.{scope_of}
use Rattle.spec_model.specs.FirstBroken.{line_label}
use Rattle.spec_model.proofs.Closed.{closed}
use Rattle.game_values.proofs.Safe.{IsTyped}
use Rattle.game_play.specs.declared.judging.Move.{Move}
use Rattle.game_play.specs.Sights.{IsSplit, entries_at}
use Rattle.game_play.specs.Judged.{judged_in}
use Rattle.game_play.proofs.Sights.{seen_typed, input_fits, output_fits}
use Rattle.game_play.proofs.SeenMoves.{lines_safe, seen_step, made_typed, later_state}
use Rattle.game_play.proofs.FirstAnswer.{first_after, none_is_legal}
use Rattle.game_play.proofs.answering.OutputJudge.first_broken_after.Goals as goal

pub made_position-made-requires-clause-state : goal.made_position-made-requires-clause-state
made_position-made-requires-clause-state c =
    later_state (game_data c.args.game.now) c.requires.made c.args.numbers.now c.args.input.now c.args.output.now c.requires.input c.requires.output c.requires.state.0 c.requires.state.1 c.requires.state.2.next

pub last_position-last-requires : goal.last_position-last-requires
last_position-last-requires c = (c.requires.state.0, c.requires.state.1, c.requires.state.2.lists)

pub false_safety-requires : goal.false_safety-requires
false_safety-requires c =
    let g = game_data c.args.game.now in
    let s = c.requires.state.0 in
    let inside = c.requires.state.1 in
    let x = c.args.input.now in
    let y = c.args.output.now in
    let q : Position = record { input = x; output = y } in
    let m : Move = record { made = c.made_position-made.result; before = Some c.last_position-last.result } in
    let here = later_state g c.requires.made c.args.numbers.now x y c.requires.input c.requires.output s inside c.requires.state.2.next in
    lines_safe (scope_of g) m (made_typed g here.0 here.1 m.made (c.made_position-made.ensures here.0 here.1 here.2))
    (subst (IsTyped (scope_of g)) (sym (c.last_position-last.ensures s inside c.requires.state.2.lists))
    (seen_typed g.variables s.position q (entries_at g.hidden c.args.cells.now) (scope_of g).tables (input_fits g s inside (listed s) refl (length g.hidden) refl) (output_fits g s inside (listed s) refl (length g.hidden) refl) c.requires.input c.requires.output))
    c.args.game.now.safe_gar.items c.requires.made.safe_gar

pub returns-clause-first : goal.returns-clause-first
returns-clause-first c = λ s inside read.
    let g = game_data c.args.game.now in
    let x = c.args.input.now in
    let y = c.args.output.now in
    let s' = reached g (Some s) x y in
    let inside' = (closed g c.requires.made).later s x y inside c.requires.input c.requires.output in
    let q : Position = record { input = x; output = y } in
    let m : Move = record { made = c.made_position-made.result; before = Some c.last_position-last.result } in
    let split : IsSplit s' c.args.numbers.now x y = record { hidden = read.next; input = refl; output = refl } in
    c.label_of.ensures
    ∙ ap (option_map line_label)
    (c.false_safety.ensures
    ∙ first_after g c.requires.made (Some s) x y (judged_in m)
    (λ e. ap (λ r. holds_at r e 0) (c.made_position-made.ensures s' inside' split))
    (λ e good. ap (λ r. holds_at r e 0) (c.last_position-last.ensures s inside read.lists)
    ∙ seen_step g s (entries_at g.hidden c.args.cells.now) (ap (λ (r : Readout). r.entries) read.read) s' s.position q refl refl e good)
    refl c.deref.result.now (c.deref.ensures.value ∙ c.requires.judge.nexts))

pub returns-clause-none : goal.returns-clause-none
returns-clause-none c = λ s inside read. ap is_none (returns-clause-first c s inside read) ∙ none_is_legal (game_data c.args.game.now) c.requires.made (Some s) c.args.input.now c.args.output.now
