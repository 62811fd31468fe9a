use Rattle.std.proofs.Common.{◌≡◌, Some, List, length, sym, ◌∙◌, ap, subst}
use Rattle.spec_model.specs.declared.value.Value.{Value}
use Rattle.spec_model.specs.Values.{Assignment}
use Rattle.spec_model.specs.Games.{GameData, listed}
use Rattle.spec_model.specs.Steps.{Before}
use Rattle.gr1_law.specs.Choice.{Memory, IsChosen}
use Rattle.gr1_sys.specs.Held.{ranks_of}
use Rattle.controller.specs.declared.replies.Replies.{Replies}
use Rattle.controller.specs.Replies.{HasRoom, HasRoomFor, Tells, AreRepliesOf, noted_data}
use Rattle.controller.proofs.Playing.{takes_turn}
use Rattle.controller.proofs.Laters.{past}
use Rattle.controller.proofs.Remembering.{chosen_once, chosen_tells, replies_moved, replies_added, values_counted, input_counted, output_counted, with_replies}
use Rattle.controller.proofs.controller.Controller.look_and_keep.Goals as goal

pub look_for-requires-clause-stands : goal.look_for-requires-clause-stands
look_for-requires-clause-stands g c =
    let kept = g.G.Regions.kept in
    let self = c.args.self.now in
    let k = kept self.g in
    let layers = self.layers.items in
    let x = c.args.input.now in
    let some = c.requires.stands in
    let z = some.0 in
    let l = some.1 in
    let h = some.2 in
    let b = some.3 in
    let m = some.4 in
    let st = some.5 in
    let noted : Replies = c.note.new.self in
    let same_places = ap (λ (r : Replies). r.replies) c.note.ensures.same in
    let states = ap (λ (vs : List Value). length vs) (c.note.ensures.noted ∙ c.values.ensures) ∙ values_counted k.game self.place b m st.place c.requires.started in
    let room : HasRoomFor k.game noted = record { places = rw same_places st.room.places; each = rw same_places st.room.each; last = states } in
    let st2 = with_replies kept self z l h b m noted st (replies_moved k.game l self.replies noted same_places st.replies) room in
    (z, l, h, b, m, st2)

pub look_for-requires-clause-legal : goal.look_for-requires-clause-legal
look_for-requires-clause-legal g c = λ z l h b m st.
    let kept = g.G.Regions.kept in
    let self = c.args.self.now in
    let k = kept self.g in
    let layers = self.layers.items in
    let x = c.args.input.now in
    let same_places = ap (λ (r : Replies). r.replies) c.note.ensures.same in
    let before : AreRepliesOf k.game l self.replies = replies_moved k.game l c.note.new.self self.replies (sym same_places) st.replies in
    c.requires.legal z l h b m (with_replies kept (record self { replies = c.note.new.self }) z l h b m self.replies st before c.requires.stands.5.room)

pub keep-requires : goal.keep-requires
keep-requires g c =
    let kept = g.G.Regions.kept in
    let self = c.args.self.now in
    let k = kept self.g in
    let layers = self.layers.items in
    let x = c.args.input.now in
    let some = c.requires.stands in
    let z = some.0 in
    let l = some.1 in
    let h = some.2 in
    let b = some.3 in
    let m = some.4 in
    let st = some.5 in
    let noted : Replies = c.note.new.self in
    let same_places = ap (λ (r : Replies). r.replies) c.note.ensures.same in
    let states = ap (λ (vs : List Value). length vs) (c.note.ensures.noted ∙ c.values.ensures) ∙ values_counted k.game self.place b m st.place c.requires.started in
    let room : HasRoomFor k.game noted = record { places = rw same_places st.room.places; each = rw same_places st.room.each; last = states } in
    let st2 = with_replies kept self z l h b m noted st (replies_moved k.game l self.replies noted same_places st.replies) room in
    let gone = c.look_for.ensures.chosen z l h b m st2 in
    let t = takes_turn k.game (g.met.G.Regions.closed _) st.sound.made z l (ranks_of layers) st.sound.won st.sound.ranks st.sound.starts h b m st.play st.whole x c.requires.input (c.requires.legal z l h b m st) in
    let out_is = (chosen_once k.game l b m x c.look_for.new.out t.output gone.0 t.next gone.1.chosen t.turn.chosen).0 in
    let outputs = ap (λ (vs : List Value). length vs) out_is ∙ output_counted k.game t.output t.turn.output in
    let inputs = input_counted k.game x c.requires.input in
    let lasts = ap (λ (r : Replies). length r.last.items) c.look_for.ensures.replies ∙ states in
    record { room = rw (lasts, inputs, outputs, c.look_for.ensures.replies) room }

pub returns-clause-chosen : goal.returns-clause-chosen
returns-clause-chosen g c = λ z l h b m st.
    let kept = g.G.Regions.kept in
    let self = c.args.self.now in
    let k = kept self.g in
    let layers = self.layers.items in
    let x = c.args.input.now in
    let noted : Replies = c.note.new.self in
    let same_places = ap (λ (r : Replies). r.replies) c.note.ensures.same in
    let states = ap (λ (vs : List Value). length vs) (c.note.ensures.noted ∙ c.values.ensures) ∙ values_counted k.game self.place b m st.place c.requires.started in
    let room : HasRoomFor k.game noted = record { places = rw same_places st.room.places; each = rw same_places st.room.each; last = states } in
    let st2 = with_replies kept self z l h b m noted st (replies_moved k.game l self.replies noted same_places st.replies) room in
    let gone = c.look_for.ensures.chosen z l h b m st2 in
    let next = gone.0 in
    let out = c.look_for.new.out in
    let after = c.look_for.new.self in
    let k2 = kept after.g in
    let game : k2.game ≡ k.game = c.look_for.ensures.keeps.game.game in
    let began = sym st.place.position.started ∙ c.requires.started in
    let there = past k.game b c.values.result.now began st.whole (st.place.position.listed ∙ sym c.values.ensures) in
    let chosen : IsChosen k.game l (Some there.state) m x out next = subst (λ (d : Before). IsChosen k.game l d m x out next) there.is gone.1.chosen in
    let tells : Tells k.game l m next (listed there.state) x out = chosen_tells k.game l there.state m next x out there.inside chosen in
    let was : m ≡ noted_data c.args.before = sym st.place.memory ∙ sym c.requires.before in
    let is : next ≡ noted_data c.noted.result = sym gone.1.stands.place.memory ∙ sym c.noted.ensures in
    let last : listed there.state ≡ after.replies.last.items = there.lists ∙ sym (ap (λ (r : Replies). r.last.items) c.look_for.ensures.replies ∙ c.note.ensures.noted) in
    let kept_tells : Tells k.game l (noted_data c.args.before) (noted_data c.noted.result) after.replies.last.items x out = rw (← was, ← is, ← last) tells in
    let are : AreRepliesOf k.game l c.keep.new.self = replies_added k.game l after.replies c.keep.new.self (noted_data c.args.before) (noted_data c.noted.result) after.replies.last.items x out c.keep.ensures.added
    (subst (λ (r : Replies). AreRepliesOf k.game l r) (sym c.look_for.ensures.replies) st2.replies) kept_tells in
    let t = takes_turn k.game (g.met.G.Regions.closed _) st.sound.made z l (ranks_of layers) st.sound.won st.sound.ranks st.sound.starts h b m st.play st.whole x c.requires.input (c.requires.legal z l h b m st) in
    let out_is = (chosen_once k.game l b m x out t.output next t.next gone.1.chosen t.turn.chosen).0 in
    let outputs = ap (λ (vs : List Value). length vs) out_is ∙ output_counted k.game t.output t.turn.output in
    let inputs = input_counted k.game x c.requires.input in
    let lasts = ap (λ (r : Replies). length r.last.items) c.look_for.ensures.replies ∙ states in
    let roomy : HasRoomFor k.game c.keep.new.self = rw (← lasts, ← inputs, ← outputs) c.keep.ensures.room in (
      next,
      record {
        chosen = gone.1.chosen;
        stands = with_replies kept after z l _ _ next c.keep.new.self gone.1.stands (subst (λ (d : GameData). AreRepliesOf d l c.keep.new.self) (sym game) are) (subst (λ (d : GameData). HasRoomFor d c.keep.new.self) (sym game) roomy);
      },
    )
