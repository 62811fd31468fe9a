use Rattle.std.proofs.Common.{◌≡◌, Some, List, length, sym, ◌∙◌, ap, subst}
use Rattle.spec_model.specs.declared.value.Value.{Value}
use Rattle.spec_model.specs.Steps.{Before}
use Rattle.gr1_law.specs.Choice.{Memory}
use Rattle.controller.specs.Replies.{HasRoom, IsToldTurn, noted_data}
use Rattle.controller.proofs.Laters.{past}
use Rattle.controller.proofs.Remembering.{values_counted, input_counted}
use Rattle.controller.proofs.controller.Controller.step.Goals as goal

pub recall-requires : goal.recall-requires
recall-requires g c =
    let kept = g.G.Regions.kept in
    let self = c.args.self.now in
    let k = kept self.g in
    let layers = self.layers.items in
    let first = self.first.items in
    let goals = self.goals.items in
    let holds = self.holds.items in
    let x = c.args.input.now in
    let some = c.requires.stands in
    let z = some.0 in
    let l = some.1 in
    let h = some.2 in
    let b = some.3 in
    let m = some.4 in
    let st = some.5 in
    let states = ap (λ (vs : List Value). length vs) c.values.ensures ∙ values_counted k.game self.place b m st.place c.requires.started in
    let inputs = input_counted k.game x c.requires.input in
    record { room = rw (states, inputs, c.requires.room) st.room }

pub repeat-requires-clause-told : goal.repeat-requires-clause-told
repeat-requires-clause-told g c = λ z l h b m st.
    let kept = g.G.Regions.kept in
    let self = c.args.self.now in
    let k = kept self.g in
    let layers = self.layers.items in
    let first = self.first.items in
    let goals = self.goals.items in
    let holds = self.holds.items in
    let x = c.args.input.now in
    let began = sym st.place.position.started ∙ c.requires.started in
    let there = past k.game b c.values.result.now began st.whole (st.place.position.listed ∙ sym c.values.ensures) in
    let told = st.replies (noted_data c.noted-before.result) (noted_data c.in-Some.after) c.values.result.now x c.recall.new.output c.in-Some.ensures.kept there.state there.lists in
    let at_memory = subst (λ (n : Memory). IsToldTurn k.game l (Some there.state) n x c.recall.new.output (noted_data c.in-Some.after)) (c.noted-before.ensures ∙ st.place.memory) told in
    subst (λ (d : Before). IsToldTurn k.game l d m x c.recall.new.output (noted_data c.in-Some.after)) (sym there.is) at_memory
