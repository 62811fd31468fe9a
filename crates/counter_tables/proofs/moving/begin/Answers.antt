use Rattle.std.proofs.Common.{◌≡◌, ◌∙◌, List, [], None, length, sym, ap, subst, arith}
use Rattle.spec_model.specs.Values.{Assignment}
use Rattle.regions.specs.Rules.{input_count}
use Rattle.gr1_law.specs.Counter.{first_counter}
use Rattle.counterstrategy.specs.Objects.{Gives}
use Rattle.counter_tables.proofs.Moves.{holds_then, written_over}
use Rattle.counter_tables.proofs.moving.begin.Goals as goal

pub first-requires-clause-stands : goal.first-requires-clause-stands
first-requires-clause-stands g c =
    let some = c.requires.stands in
    (some.0, [], [], None, first_counter, c.again.ensures.begins.stands some.0 some.1 some.2 some.3 some.4 some.5)

pub first-requires-clause-fresh : goal.first-requires-clause-fresh
first-requires-clause-fresh g c = c.again.ensures.begins.fresh

pub first-requires-clause-room : goal.first-requires-clause-room
first-requires-clause-room g c = ap (λ (vs : List _). length vs) c.deref_mut.ensures.value ∙ (c.requires.room ∙ ap input_count (sym c.again.ensures.keeps.game.game))

pub returns-clause-gives : goal.returns-clause-gives
returns-clause-gives g c = λ e h notes b k st.
    let from = ap (λ (vs : List _). length vs) c.deref_mut.ensures.value in
    let long : length c.first.new.input ≡ length c.args.input.now.items = omega (arith, from) in
    let now = written_over c.args.input.now c.first.new.input long in
    subst (λ (x : Assignment). Gives g.G.Regions.kept c.first.new.self e [] [] None first_counter x) (sym now) (c.first.ensures.given e [] [] None first_counter (c.again.ensures.begins.stands e h notes b k st))

pub returns-clause-room : goal.returns-clause-room
returns-clause-room g c =
    let from = ap (λ (vs : List _). length vs) c.deref_mut.ensures.value in
    let long : length c.first.new.input ≡ length c.args.input.now.items = omega (arith, from) in
    ap (λ (vs : List _). length vs) (written_over c.args.input.now c.first.new.input long) ∙ long

pub returns-clause-keeps : goal.returns-clause-keeps
returns-clause-keeps g c = holds_then g.G.Regions.kept c.args.play.now c.again.new.self c.first.new.self c.again.ensures.keeps c.first.ensures.keeps
