use Rattle.std.proofs.Common.{◌≡◌, ◌∙◌, List, [], length, if◌then◌else◌, Bool, sym, ap, subst, arith}
use Rattle.spec_model.specs.declared.value.Value.{Value}
use Rattle.spec_model.specs.Steps.{Before}
use Rattle.gr1_law.specs.Choice.{Memory, ChosenPlay}
use Rattle.controller.specs.Spots.{spot_at}
use Rattle.controller.proofs.Laters.{past}
use Rattle.controller.proofs.Spotting.{goal_counted, index_counted}
use Rattle.controller.proofs.controller.Controller.spot.Goals as goal

pub copy_from_slice-requires : goal.copy_from_slice-requires
copy_from_slice-requires g c =
    let st = c.requires.stands.5 in
    let p = c.args.self.now.place.position in
    let items : p.state.items ≡ c.values.result.now = ap (λ (b : Bool). if b then p.state.items else []) (sym c.requires.started) ∙ sym c.values.ensures in
    c.requires.room ∙ (sym st.place.position.room ∙ ap (λ (vs : List Value). length vs) items)

pub spot-requires-clause-goal : goal.spot-requires-clause-goal
spot-requires-clause-goal g c =
    let some = c.requires.stands in
    let st = some.5 in
    let self = c.args.self.now in
    let k = g.G.Regions.kept self.g in
    let there = past k.game some.3 c.values.result.now (sym st.place.position.started ∙ c.requires.started) st.whole (st.place.position.listed ∙ sym c.values.ensures) in
    let counted = goal_counted k self.layers.items self.first.items self.goals.items self.holds.items some.0 some.1 st.sound some.2 there.state some.4 (subst (λ (b : Before). ChosenPlay k.game some.1 some.2 b some.4) there.is st.play) c.requires.few in
    let is = ap (λ (n : Memory). n.goal) st.place.memory in
    omega (arith, counted, is)

pub spot-requires-clause-index : goal.spot-requires-clause-index
spot-requires-clause-index g c =
    let some = c.requires.stands in
    let st = some.5 in
    let self = c.args.self.now in
    let k = g.G.Regions.kept self.g in
    let there = past k.game some.3 c.values.result.now (sym st.place.position.started ∙ c.requires.started) st.whole (st.place.position.listed ∙ sym c.values.ensures) in
    let counted = index_counted k self.layers.items self.first.items self.goals.items self.holds.items some.0 some.1 st.sound some.2 there.state some.4 (subst (λ (b : Before). ChosenPlay k.game some.1 some.2 b some.4) there.is st.play) c.requires.few in
    let is = ap (λ (n : Memory). n.index) st.place.memory in
    omega (arith, counted, is)

pub returns : goal.returns
returns g c = record {
  ends = λ z l h b m st.
      let k = g.G.Regions.kept c.args.self.now.g in
      let there = past k.game b c.values.result.now (sym st.place.position.started ∙ c.requires.started) st.whole (st.place.position.listed ∙ sym c.values.ensures) in (
        there.state,
        there.is,
        record {
          play = subst (λ (b : Before). ChosenPlay k.game l h b m) there.is st.play;
          lists = there.lists ∙ sym c.copy_from_slice.ensures.after;
          remembered = sym (c.spot.ensures ∙ ap spot_at st.place.memory);
        },
      );
}
