use Rattle.std.proofs.Common.{◌++◌, ◌+◌, List, length, refl, sym, ap, ◌∙◌}
use Rattle.spec_model.specs.GameViews.{game_data}
use Rattle.spec_model.specs.declared.value.Value.{Value}
use Rattle.spec_model.specs.Steps.{reached}
use Rattle.trace_planes.proofs.Placing.{inside, sized, listed_next, room_next}
use Rattle.trace_planes.proofs.run_state.RunState.go_on.Goals as goal

pub write_state-requires : goal.write_state-requires
write_state-requires c =
    let h = c.requires.here in
    let e = sized (game_data c.args.game.now) c.requires.made h.0 c.args.self.now h.1 c.args.input.now c.args.output.now c.requires.input c.requires.output in
    e ∙ ap (λ (vs : List Value). length vs + (length c.args.input.now + length c.args.output.now)) (sym c.deref.ensures.value)

pub write_next-requires-clause-state : goal.write_next-requires-clause-state
write_next-requires-clause-state c =
    let h = c.requires.here in
    let g = game_data c.args.game.now in
    let x = c.args.input.now in
    let y = c.args.output.now in (
      reached g h.0 x y,
      inside g c.requires.made h.0 c.args.self.now h.1 x y c.requires.input c.requires.output,
      listed_next g c.requires.made h.0 c.args.self.now h.1 x y c.requires.input c.requires.output
          ∙ (ap (λ (vs : List Value). vs ++ (x ++ y)) (sym c.deref.ensures.value) ∙ (sym c.write_state.ensures ∙ sym c.deref-2.ensures.value)),
    )

pub returns : goal.returns
returns c = λ b here.
    let g = game_data c.args.game.now in
    let x = c.args.input.now in
    let y = c.args.output.now in
    let p = c.args.self.now in
    let s = reached g b x y in
    let in_game = inside g c.requires.made b p here x y c.requires.input c.requires.output in
    let lists = listed_next g c.requires.made b p here x y c.requires.input c.requires.output ∙ (ap (λ (vs : List Value). vs ++ (x ++ y)) (sym c.deref.ensures.value) ∙ sym c.write_state.ensures) in
    record {
      read = (
        refl,
        in_game,
        record {
          lists = lists;
          read = c.write_next.ensures.cells s in_game (lists ∙ sym c.deref-2.ensures.value);
          next = c.write_next.ensures.value s in_game (lists ∙ sym c.deref-2.ensures.value);
        },
      );
      sized =
          record {
            state = ap (λ (vs : List Value). length vs) (sym lists) ∙ room_next g c.requires.made b p here x y c.requires.input c.requires.output;
            cells = c.write_next.ensures.tables;
            next = c.write_next.ensures.room;
          };
    }
