use Rattle.std.proofs.Common.{◌≡◌, Some, sym, ap, subst}
use Rattle.spec_model.specs.Steps.{reached}
use Rattle.gr1_law.specs.Choice.{Memory}
use Rattle.gr1_sys.specs.Held.{ranks_of}
use Rattle.strategy_parts.proofs.Holdings.{nothing_done, same_game}
use Rattle.controller.specs.Places.{IsAt}
use Rattle.controller.proofs.Playing.{takes_turn}
use Rattle.controller.proofs.Sounding.{remembered}
use Rattle.controller.proofs.Went.{at_there, closed_there, at_back, has_gone}
use Rattle.controller.proofs.controller.Controller.repeat.Goals as goal

pub go_on-requires-clause-here : goal.go_on-requires-clause-here
go_on-requires-clause-here g c =
    let kept = g.G.Regions.kept in
    let self = c.args.self.now in
    let k = kept self.g in
    let layers = self.layers.items in
    let first = self.first.items in
    let goals = self.goals.items in
    let holds = self.holds.items in
    let x = c.args.input.now in
    let some = c.requires.stands in
    let z = some.0 in
    let l = some.1 in
    let h = some.2 in
    let b = some.3 in
    let m = some.4 in
    let st = some.5 in
    let t = takes_turn k.game (g.met.G.Regions.closed _) st.sound.made z l (ranks_of layers) st.sound.won st.sound.ranks st.sound.starts h b m st.play st.whole x c.requires.input (c.requires.legal z l h b m st) in
    let told = c.requires.told z l h b m st t.output t.next t.turn in
    let e = c.game.ensures in
    (b, m, at_there k.game _ e l b m x t.output t.next t.turn c.args.out.now told.0 self.place st.place, closed_there k.game _ e l b m x t.output t.next t.turn c.args.out.now told.0)

pub returns-clause-chosen : goal.returns-clause-chosen
returns-clause-chosen g c = λ z l h b m st.
    let kept = g.G.Regions.kept in
    let self = c.args.self.now in
    let k = kept self.g in
    let layers = self.layers.items in
    let first = self.first.items in
    let goals = self.goals.items in
    let holds = self.holds.items in
    let x = c.args.input.now in
    let t = takes_turn k.game (g.met.G.Regions.closed _) st.sound.made z l (ranks_of layers) st.sound.won st.sound.ranks st.sound.starts h b m st.play st.whole x c.requires.input (c.requires.legal z l h b m st) in
    let told = c.requires.told z l h b m st t.output t.next t.turn in
    let e = c.game.ensures in
    let out = c.args.out.now in
    let at = at_there k.game _ e l b m x t.output t.next t.turn out told.0 self.place st.place in
    let inside = closed_there k.game _ e l b m x t.output t.next t.turn out told.0 in
    let here = at_back k.game _ e l b m x t.output t.next t.turn out told.0 c.go_on.new.self (c.go_on.ensures b m at inside) in
    let place = subst (λ p. IsAt k.game p (Some (reached k.game b x t.output)) t.next) (sym c.remember.ensures) (remembered k.game c.go_on.new.self (Some (reached k.game b x t.output)) m c.args.after.goal c.args.after.rank c.args.after.index t.next here
    (ap (λ (n : Memory). n.goal) told.1) (ap (λ (n : Memory). n.rank) told.1) (ap (λ (n : Memory). n.index) told.1)) in
    let gone = has_gone k k (nothing_done k) (same_game k) layers first goals holds z l st.sound h b m st.play x t.output t.next t.turn out told.0 c.remember.new.self place in
    (t.next, record { chosen = gone.chosen; stands = record { sound = gone.sound; play = gone.play; whole = gone.whole; place = gone.place; owned = st.owned; few = st.few; judge = st.judge; replies = st.replies; room = st.room } })
