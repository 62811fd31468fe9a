use Rattle.std.proofs.Common.{◌≡◌, ◌∙◌, List, [], length, if◌then◌else◌, Bool, sym, ap, subst, arith}
use Rattle.spec_model.specs.declared.value.Value.{Value}
use Rattle.spec_model.specs.Steps.{Before}
use Rattle.regions.specs.Rules.{listed_before}
use Rattle.gr1_law.specs.Counter.{CounterMemory, IsGiven, AnsweredPlay}
use Rattle.gr1_env.specs.Solved.{counts_of}
use Rattle.counterstrategy.proofs.Completing.{past}
use Rattle.counterstrategy.proofs.Spotting.{goal_counted, asm_counted, same_spot}
use Rattle.counterstrategy.proofs.counterstrategy.Counterstrategy.spot.Goals as goal

pub copy_from_slice-requires : goal.copy_from_slice-requires
copy_from_slice-requires g c =
    let st = c.requires.stands.5 in
    let p = c.args.self.now.place.position in
    let items : p.state.items ≡ c.values.result.now = ap (λ (b : Bool). if b then p.state.items else []) (sym c.requires.completed) ∙ sym c.values.ensures in
    c.requires.room ∙ (sym st.place.position.room ∙ ap (λ (vs : List Value). length vs) items)

pub spot-requires-clause-goal : goal.spot-requires-clause-goal
spot-requires-clause-goal g c =
    let some = c.requires.stands in
    let st = some.5 in
    let self = c.args.self.now in
    let k = g.G.Regions.kept self.g in
    let there = past some.3 (sym st.place.position.started ∙ c.requires.completed) in
    let counted = goal_counted k.game some.0 (length self.layers.items) (counts_of self.layers.items) st.sound.lost some.1 some.2 there.0 some.4 (subst (λ (b : Before). AnsweredPlay k.game some.0 some.1 some.2 b some.4) there.1 st.play) c.requires.few in
    let is = ap (λ (n : CounterMemory). n.goal) st.place.memory in
    omega (arith, counted, is)

pub spot-requires-clause-asm : goal.spot-requires-clause-asm
spot-requires-clause-asm g c =
    let some = c.requires.stands in
    let st = some.5 in
    let self = c.args.self.now in
    let k = g.G.Regions.kept self.g in
    let there = past some.3 (sym st.place.position.started ∙ c.requires.completed) in
    let counted = asm_counted k.game some.0 (length self.layers.items) (counts_of self.layers.items) st.sound.lost some.1 some.2 there.0 some.4 (subst (λ (b : Before). AnsweredPlay k.game some.0 some.1 some.2 b some.4) there.1 st.play) c.requires.few in
    let is = ap (λ (n : CounterMemory). n.before) st.place.memory in
    omega (arith, counted, is)

pub returns : goal.returns
returns g c = record {
  ends = λ e h notes b m st.
      let self = c.args.self.now in
      let k = g.G.Regions.kept self.g in
      let there = past b (sym st.place.position.started ∙ c.requires.completed) in
      let given = st.given c.requires.given in (
        there.0,
        there.1,
        record {
          play = subst (λ (b : Before). AnsweredPlay k.game e h notes b m) there.1 st.play;
          rank = given.0;
          input = self.given.items;
          given = subst (λ (b : Before). IsGiven k.game e b m given.0 self.given.items) there.1 given.1;
          lists = ap listed_before (sym there.1) ∙ (st.place.position.listed ∙ (sym c.values.ensures ∙ sym c.copy_from_slice.ensures.after));
          remembered = sym (c.spot.ensures ∙ same_spot self.place m self.rank given.0 st.place.memory given.2);
        },
      );
}
