use Rattle.std.proofs.Common.{◌≡◌, ◌∙◌, List, length, sym, ap, subst, arith}
use Rattle.spec_model.specs.declared.value.Value.{Value}
use Rattle.counterstrategy.specs.Objects.{game_of}
use Rattle.counterstrategy.specs.Spots.{EndsAt}
use Rattle.counter_tables.proofs.Moves.{written_over}
use Rattle.counter_tables.proofs.moving.seen.Goals as goal

pub spot-requires-clause-room : goal.spot-requires-clause-room
spot-requires-clause-room g c = ap (λ (vs : List _). length vs) c.deref_mut.ensures.value ∙ c.requires.room

pub returns-clause-ends : goal.returns-clause-ends
returns-clause-ends g c = λ e h notes b k st.
    let from = ap (λ (vs : List _). length vs) c.deref_mut.ensures.value in
    let long : length c.spot.new.state ≡ length c.args.state.now.items = omega (arith, from) in
    let now = written_over c.args.state.now c.spot.new.state long in
    let ends = c.spot.ensures.ends e h notes b k st in
    (ends.0, ends.1, subst (λ (vs : List Value). EndsAt (game_of g.G.Regions.kept c.args.play.now) e h notes ends.0 k vs c.spot.result) (sym now) ends.2)

pub returns-clause-room : goal.returns-clause-room
returns-clause-room g c =
    let from = ap (λ (vs : List _). length vs) c.deref_mut.ensures.value in
    let long : length c.spot.new.state ≡ length c.args.state.now.items = omega (arith, from) in
    ap (λ (vs : List _). length vs) (written_over c.args.state.now c.spot.new.state long) ∙ long
