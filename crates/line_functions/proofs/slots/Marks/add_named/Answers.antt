use Rattle.std.proofs.Common.{◌≡◌, ◌∙◌, ◌++◌, ap, arith, length, map, filter, refl}
use Rattle.spec_model.specs.Views.{formula}
use Rattle.spec_model.specs.GameViews.{game_data}
use Rattle.spec_model.specs.Steps.{below}
use Rattle.bit_compile.specs.Domains.{state_domains}
use Rattle.line_functions.specs.Names.{is_named, slot_at}
use Rattle.line_functions.proofs.NamingLemmas.{kept_below-push, marks_long}
use Rattle.line_functions.proofs.slots.Marks.add_named.Goals as goal

pub add_slot-requires-clause-known : goal.add_slot-requires-clause-known
add_slot-requires-clause-known c =
    let long = marks_long (game_data c.args.game.now) c.args.self.now c.requires in
    omega (arith, long, c.loop-k-test.true, c.len-k-end.ensures)

pub loop-k-preserved : goal.loop-k-preserved
loop-k-preserved c =
    let time = c.args.time in
    let test = is_named (game_data c.args.game.now) (formula c.args.e.now) time in
    let k = c.loop-k.k in
    kept_below-push (slot_at time) test k c.args.named.now.items c.loop-k.named.items _ (test k) c.loop-k.invariant refl c.in_ok-add_slot.ensures

pub returns : goal.returns
returns c =
    let g = game_data c.args.game.now in
    let time = c.args.time in
    let long = marks_long g c.args.self.now c.requires in
    let all : c.loop-k.k ≡ length (state_domains g) = omega (arith, long, c.loop-k-test.false, c.loop-k.auto, c.len-k-end.ensures) in
    c.loop-k.invariant ∙ ap (λ n. c.args.named.now.items ++ map (slot_at time) (filter (is_named g (formula c.args.e.now) time) (below n))) all
