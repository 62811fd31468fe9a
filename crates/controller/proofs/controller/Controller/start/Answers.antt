use Rattle.std.proofs.Common.{◌≡◌, ◌∙◌, ◌+◌, List, Some, false, sym, subst, arith}
use Rattle.spec_model.specs.Steps.{reached}
use Rattle.spec_model.specs.Games.{GameData}
use Rattle.game_play.specs.Judged.{IsJudgeOf}
use Rattle.gr1_sys.specs.Held.{ranks_of}
use Rattle.controller.specs.Replies.{AreRepliesOf, HasRoomFor}
use Rattle.controller.specs.Objects.{AreSound, items_of}
use Rattle.controller.specs.Settled.{Settles}
use Rattle.controller.specs.Places.{IsAt}
use Rattle.strategy_parts.proofs.Holdings.{stays_then, same_then}
use Rattle.strategy_parts.proofs.Owning.{all_stay}
use Rattle.controller.proofs.Playing.{takes_turn}
use Rattle.controller.proofs.Sounding.{settles, remembered}
use Rattle.controller.proofs.Turned.{first_turn, first_bound}
use Rattle.controller.proofs.Went.{at_there, closed_there, at_back, has_gone}
use Rattle.controller.proofs.controller.Controller.start.Goals as goal

pub go_on-requires-clause-here : goal.go_on-requires-clause-here
go_on-requires-clause-here g c =
    let k = g.G.Regions.kept c.args.self.now.g in
    let some = c.requires.stands in
    let st = some.5 in
    let sound = subst (λ (list : List _). AreSound k c.args.self.now.layers.items list c.args.self.now.goals.items c.args.self.now.holds.items some.0 some.1) (sym c.deref.ensures.value) st.sound in
    let t = takes_turn k.game (g.met.G.Regions.closed _) st.sound.made some.0 some.1 (ranks_of c.args.self.now.layers.items) st.sound.won st.sound.ranks st.sound.starts some.2 some.3 some.4 st.play st.whole c.args.input.now c.requires.input (c.requires.legal some.0 some.1 some.2 some.3 some.4 st) in
    let f = first_turn k c.args.self.now.layers.items c.deref.result.now c.args.self.now.goals.items c.args.self.now.holds.items some.0 some.1 sound some.3 some.4 c.args.input.now t.output t.next t.turn t.high (sym st.place.position.started ∙ c.requires.fresh) c.values.result.now (st.place.position.listed ∙ sym c.values.ensures) c.least_rank-rank.result c.least_rank-rank.new.out c.least_rank-rank.ensures.least in
    let e = c.game.ensures ∙ c.least_rank-rank.ensures.keeps.game in (
      some.3,
      some.4,
      at_there k.game _ e some.1 some.3 some.4 c.args.input.now t.output t.next t.turn c.least_rank-rank.new.out f.output c.args.self.now.place st.place,
      closed_there k.game _ e some.1 some.3 some.4 c.args.input.now t.output t.next t.turn c.least_rank-rank.new.out f.output,
    )

pub new_index-index-requires : goal.new_index-index-requires
new_index-index-requires g c =
    let kept = g.G.Regions.kept in
    let k = kept c.args.self.now.g in
    let k1 = kept c.least_rank-rank.new.g in
    let some = c.requires.stands in
    let st = some.5 in
    let x = c.args.input.now in
    let out = c.least_rank-rank.new.out in
    let sound = subst (λ (list : List _). AreSound k c.args.self.now.layers.items list c.args.self.now.goals.items c.args.self.now.holds.items some.0 some.1) (sym c.deref.ensures.value) st.sound in
    let t = takes_turn k.game (g.met.G.Regions.closed _) st.sound.made some.0 some.1 (ranks_of c.args.self.now.layers.items) st.sound.won st.sound.ranks st.sound.starts some.2 some.3 some.4 st.play st.whole x c.requires.input (c.requires.legal some.0 some.1 some.2 some.3 some.4 st) in
    let f = first_turn k c.args.self.now.layers.items c.deref.result.now c.args.self.now.goals.items c.args.self.now.holds.items some.0 some.1 sound some.3 some.4 x t.output t.next t.turn t.high (sym st.place.position.started ∙ c.requires.fresh) c.values.result.now (st.place.position.listed ∙ sym c.values.ensures) c.least_rank-rank.result out c.least_rank-rank.ensures.least in
    let e = c.game.ensures ∙ c.least_rank-rank.ensures.keeps.game in
    let there = at_there k.game _ e some.1 some.3 some.4 x t.output t.next t.turn out f.output c.args.self.now.place st.place in
    let inside = closed_there k.game _ e some.1 some.3 some.4 x t.output t.next t.turn out f.output in
    let here = at_back k.game _ e some.1 some.3 some.4 x t.output t.next t.turn out f.output c.go_on.new.self (c.go_on.ensures some.3 some.4 there inside) in (
      some.1,
      some.3,
      some.4,
      x,
      t.output,
      t.next,
      subst (λ (list : List _). Settles k1 list c.go_on.new.self 0 c.least_rank-rank.result false some.1 some.3 some.4 x t.output t.next) (sym c.deref-2.ensures.value)
          (settles k k1 c.least_rank-rank.ensures.held c.least_rank-rank.ensures.keeps c.args.self.now.layers.items c.args.self.now.first.items c.args.self.now.goals.items c.args.self.now.holds.items some.0 some.1 st.sound some.3 some.4 x t.output t.next t.turn t.high
          c.go_on.new.self 0 c.least_rank-rank.result false here f.goal f.rank f.waiting),
    )

pub overflow_add-rank : goal.overflow_add-rank
overflow_add-rank g c =
    let k = g.G.Regions.kept c.args.self.now.g in
    let some = c.requires.stands in
    let st = some.5 in
    let sound = subst (λ (list : List _). AreSound k c.args.self.now.layers.items list c.args.self.now.goals.items c.args.self.now.holds.items some.0 some.1) (sym c.deref.ensures.value) st.sound in
    let t = takes_turn k.game (g.met.G.Regions.closed _) st.sound.made some.0 some.1 (ranks_of c.args.self.now.layers.items) st.sound.won st.sound.ranks st.sound.starts some.2 some.3 some.4 st.play st.whole c.args.input.now c.requires.input (c.requires.legal some.0 some.1 some.2 some.3 some.4 st) in
    let f = first_turn k c.args.self.now.layers.items c.deref.result.now c.args.self.now.goals.items c.args.self.now.holds.items some.0 some.1 sound some.3 some.4 c.args.input.now t.output t.next t.turn t.high (sym st.place.position.started ∙ c.requires.fresh) c.values.result.now (st.place.position.listed ∙ sym c.values.ensures) c.least_rank-rank.result c.least_rank-rank.new.out c.least_rank-rank.ensures.least in
    let bound = first_bound k c.args.self.now.layers.items c.args.self.now.first.items c.args.self.now.goals.items c.args.self.now.holds.items some.0 some.1 st.sound t.next.goal (sym f.goal) in
    omega (arith, t.high, f.rank, bound)

pub returns-clause-chosen : goal.returns-clause-chosen
returns-clause-chosen g c = λ z l h b m st.
    let kept = g.G.Regions.kept in
    let k = kept c.args.self.now.g in
    let k1 = kept c.least_rank-rank.new.g in
    let k2 = kept c.new_index-index.new.g in
    let x = c.args.input.now in
    let out = c.least_rank-rank.new.out in
    let layers = c.args.self.now.layers.items in
    let first = c.args.self.now.first.items in
    let goals = c.args.self.now.goals.items in
    let holds = c.args.self.now.holds.items in
    let sound = subst (λ (list : List _). AreSound k layers list goals holds z l) (sym c.deref.ensures.value) st.sound in
    let t = takes_turn k.game (g.met.G.Regions.closed _) st.sound.made z l (ranks_of layers) st.sound.won st.sound.ranks st.sound.starts h b m st.play st.whole x c.requires.input (c.requires.legal z l h b m st) in
    let f = first_turn k layers c.deref.result.now goals holds z l sound b m x t.output t.next t.turn t.high (sym st.place.position.started ∙ c.requires.fresh) c.values.result.now (st.place.position.listed ∙ sym c.values.ensures) c.least_rank-rank.result out c.least_rank-rank.ensures.least in
    let e = c.game.ensures ∙ c.least_rank-rank.ensures.keeps.game in
    let there = at_there k.game _ e l b m x t.output t.next t.turn out f.output c.args.self.now.place st.place in
    let inside = closed_there k.game _ e l b m x t.output t.next t.turn out f.output in
    let here = at_back k.game _ e l b m x t.output t.next t.turn out f.output c.go_on.new.self (c.go_on.ensures b m there inside) in
    let settled =
    subst (λ (list : List _). Settles k1 list c.go_on.new.self 0 c.least_rank-rank.result false l b m x t.output t.next) (sym c.deref-2.ensures.value)
    (settles k k1 c.least_rank-rank.ensures.held c.least_rank-rank.ensures.keeps layers first goals holds z l st.sound b m x t.output t.next t.turn t.high
    c.go_on.new.self 0 c.least_rank-rank.result false here f.goal f.rank f.waiting) in
    let index = c.new_index-index.ensures.index l b m x t.output t.next settled in
    let rank : c.least_rank-rank.result + 1 ≡ t.next.rank = let r = f.rank in omega (arith, r) in
    let place = subst (λ p. IsAt k.game p (Some (reached k.game b x t.output)) t.next) (sym c.remember.ensures) (remembered k.game c.go_on.new.self (Some (reached k.game b x t.output)) m 0 (c.least_rank-rank.result + 1) c.new_index-index.result t.next here f.goal rank index) in
    let stays = stays_then k k1 k2 c.least_rank-rank.ensures.held c.new_index-index.ensures.held in
    let owned = all_stay k k2 (items_of c.args.self.now) (g.met.G.Regions.exact _) (λ w. omega (arith, stays.held w)) st.owned in
    let gone =
    has_gone k k2 stays (same_then k k1 k2 c.least_rank-rank.ensures.keeps c.new_index-index.ensures.keeps)
    layers first goals holds z l st.sound h b m st.play x t.output t.next t.turn out f.output c.remember.new.self place in
    (t.next, record { chosen = gone.chosen; stands = record { sound = gone.sound; play = gone.play; whole = gone.whole; place = gone.place; owned = owned; few = st.few; judge = subst (λ (h : GameData). IsJudgeOf h c.args.self.now.judge) (sym (same_then k k1 k2 c.least_rank-rank.ensures.keeps c.new_index-index.ensures.keeps).game) st.judge; replies = subst (λ (h : GameData). AreRepliesOf h l c.args.self.now.replies) (sym (same_then k k1 k2 c.least_rank-rank.ensures.keeps c.new_index-index.ensures.keeps).game) st.replies; room = subst (λ (h : GameData). HasRoomFor h c.args.self.now.replies) (sym (same_then k k1 k2 c.least_rank-rank.ensures.keeps c.new_index-index.ensures.keeps).game) st.room } })
