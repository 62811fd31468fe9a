use Rattle.std.proofs.Common.{◌≡◌, ◌∙◌, ◌+◌, List, Vec, Some, true, length, slice_get, option_map, sym, ap, subst, refl, arith}
use Rattle.std.specs.declared.alloc.Global.{Global}
use Rattle.spec_model.specs.Games.{GameData, State, listed}
use Rattle.spec_model.specs.Steps.{is_state, reached}
use Rattle.game_play.specs.Judged.{IsJudgeOf}
use Rattle.gr1_law.specs.Layers.{goal_set, goal_sets}
use Rattle.gr1_law.specs.Choice.{Memory, goal_aimed, goal_stays}
use Rattle.gr1_sys.specs.Held.{ranks_of}
use Rattle.strategy_parts.specs.Owned.{RegionsAre}
use Rattle.controller.specs.Settled.{Settles}
use Rattle.controller.specs.Replies.{AreRepliesOf, HasRoomFor}
use Rattle.controller.specs.Places.{IsAt}
use Rattle.strategy_parts.proofs.Holdings.{stays_then, same_then}
use Rattle.controller.specs.Objects.{items_of}
use Rattle.strategy_parts.proofs.Owning.{all_stay}
use Rattle.controller.proofs.Playing.{takes_turn}
use Rattle.controller.proofs.Sounding.{settles, remembered}
use Rattle.controller.proofs.Laters.{past, goal_below, goals_many, goal_is, later_at, waits_back, rank_bound}
use Rattle.controller.proofs.Went.{at_there, closed_there, at_back, has_gone}
use Rattle.controller.proofs.controller.Controller.look_for.Goals as goal

pub aimed-goal-requires-clause-goal : goal.aimed-goal-requires-clause-goal
aimed-goal-requires-clause-goal g c =
    let kept = g.G.Regions.kept in
    let self = c.args.self.now in
    let k = kept self.g in
    let layers = self.layers.items in
    let first = self.first.items in
    let goals = self.goals.items in
    let holds = self.holds.items in
    let x = c.args.input.now in
    let some = c.requires.stands in
    let z = some.0 in
    let l = some.1 in
    let h = some.2 in
    let b = some.3 in
    let m = some.4 in
    let st = some.5 in
    let below = goal_below k layers first goals holds z l st.sound h b m st.play (sym st.place.position.started ∙ c.requires.started) in
    let last_is = ap (λ (n : Memory). n.goal) st.place.memory in
    omega (arith, below, last_is, ap (λ (list : List _). length list) c.deref.ensures.value)

pub aims_of-requires : goal.aims_of-requires
aims_of-requires g c =
    let kept = g.G.Regions.kept in
    let self = c.args.self.now in
    let k = kept self.g in
    let layers = self.layers.items in
    let first = self.first.items in
    let goals = self.goals.items in
    let holds = self.holds.items in
    let x = c.args.input.now in
    let some = c.requires.stands in
    let z = some.0 in
    let l = some.1 in
    let h = some.2 in
    let b = some.3 in
    let m = some.4 in
    let st = some.5 in
    omega (arith, c.aimed-goal.ensures.within, goals_many k layers first goals holds z l st.sound, ap (λ (list : List _). length list) c.deref.ensures.value, ap (λ (list : List _). length list) c.deref-2.ensures.value)

pub lead-rank-requires-clause-turn : goal.lead-rank-requires-clause-turn
lead-rank-requires-clause-turn g c =
    let kept = g.G.Regions.kept in
    let self = c.args.self.now in
    let k = kept self.g in
    let layers = self.layers.items in
    let first = self.first.items in
    let goals = self.goals.items in
    let holds = self.holds.items in
    let x = c.args.input.now in
    let some = c.requires.stands in
    let z = some.0 in
    let l = some.1 in
    let h = some.2 in
    let b = some.3 in
    let m = some.4 in
    let st = some.5 in
    let t = takes_turn k.game (g.met.G.Regions.closed _) st.sound.made z l (ranks_of layers) st.sound.won st.sound.ranks st.sound.starts h b m st.play st.whole x c.requires.input (c.requires.legal z l h b m st) in
    let began = sym st.place.position.started ∙ c.requires.started in
    let there = past k.game b c.values.result.now began st.whole (st.place.position.listed ∙ sym c.values.ensures) in
    let last_is = ap (λ (n : Memory). n.goal) (sym st.place.memory) in
    let aim = subst (λ (list : List _). (s : State) (m : Memory) → RegionsAre k list (goal_set k.game) → length list ≡ length (goal_sets k.game) → is_state k.game s ≡ true → listed s ≡ c.values.result.now → m.goal ≡ self.place.goal → (c.aimed-goal.result.0 ≡ goal_aimed k.game (Some s) m) × (c.aimed-goal.result.1 ≡ goal_stays k.game (Some s) m)) c.deref.ensures.value c.aimed-goal.ensures.aim in
    let k1 = kept c.aimed-goal.new.g in
    let are = ap (λ (list : List _). option_map (λ (v : Vec _ Global). v.items) (slice_get list c.aimed-goal.result.0)) (sym c.deref-2.ensures.value) ∙ c.aims_of.ensures in
    let later = later_at k layers first goals holds z l st.sound b m x t.output t.next t.turn t.high c.values.result.now there self.place.goal c.aimed-goal.result.0 c.aimed-goal.result.1 last_is aim k1 c.aimed-goal.ensures.held c.aimed-goal.ensures.keeps c.values-2.result.now (c.values.ensures ∙ sym c.values-2.ensures) c.aims_of.result.now are self.place.rank self.place.index (ap (λ (n : Memory). n.rank) (sym st.place.memory)) (ap (λ (n : Memory). n.index) (sym st.place.memory)) in
    (l, there.state, m, t.output, t.next, later)

pub go_on-requires-clause-here : goal.go_on-requires-clause-here
go_on-requires-clause-here g c =
    let kept = g.G.Regions.kept in
    let self = c.args.self.now in
    let k = kept self.g in
    let layers = self.layers.items in
    let first = self.first.items in
    let goals = self.goals.items in
    let holds = self.holds.items in
    let x = c.args.input.now in
    let some = c.requires.stands in
    let z = some.0 in
    let l = some.1 in
    let h = some.2 in
    let b = some.3 in
    let m = some.4 in
    let st = some.5 in
    let t = takes_turn k.game (g.met.G.Regions.closed _) st.sound.made z l (ranks_of layers) st.sound.won st.sound.ranks st.sound.starts h b m st.play st.whole x c.requires.input (c.requires.legal z l h b m st) in
    let began = sym st.place.position.started ∙ c.requires.started in
    let there = past k.game b c.values.result.now began st.whole (st.place.position.listed ∙ sym c.values.ensures) in
    let last_is = ap (λ (n : Memory). n.goal) (sym st.place.memory) in
    let aim = subst (λ (list : List _). (s : State) (m : Memory) → RegionsAre k list (goal_set k.game) → length list ≡ length (goal_sets k.game) → is_state k.game s ≡ true → listed s ≡ c.values.result.now → m.goal ≡ self.place.goal → (c.aimed-goal.result.0 ≡ goal_aimed k.game (Some s) m) × (c.aimed-goal.result.1 ≡ goal_stays k.game (Some s) m)) c.deref.ensures.value c.aimed-goal.ensures.aim in
    let k1 = kept c.aimed-goal.new.g in
    let are = ap (λ (list : List _). option_map (λ (v : Vec _ Global). v.items) (slice_get list c.aimed-goal.result.0)) (sym c.deref-2.ensures.value) ∙ c.aims_of.ensures in
    let later = later_at k layers first goals holds z l st.sound b m x t.output t.next t.turn t.high c.values.result.now there self.place.goal c.aimed-goal.result.0 c.aimed-goal.result.1 last_is aim k1 c.aimed-goal.ensures.held c.aimed-goal.ensures.keeps c.values-2.result.now (c.values.ensures ∙ sym c.values-2.ensures) c.aims_of.result.now are self.place.rank self.place.index (ap (λ (n : Memory). n.rank) (sym st.place.memory)) (ap (λ (n : Memory). n.index) (sym st.place.memory)) in
    let k2 = kept c.lead-rank.new.g in
    let out = c.lead-rank.new.out in
    let led = c.lead-rank.ensures.chosen l there.state m t.output t.next later in
    let same = same_then k k1 k2 c.aimed-goal.ensures.keeps c.lead-rank.ensures.keeps in
    let stays = stays_then k k1 k2 c.aimed-goal.ensures.held c.lead-rank.ensures.held in
    let e = c.game.ensures ∙ same.game in
    let at = at_there k.game _ e l b m x t.output t.next t.turn out led.1 self.place st.place in
    let inside = closed_there k.game _ e l b m x t.output t.next t.turn out led.1 in
    (b, m, at, inside)

pub new_index-index-requires : goal.new_index-index-requires
new_index-index-requires g c =
    let kept = g.G.Regions.kept in
    let self = c.args.self.now in
    let k = kept self.g in
    let layers = self.layers.items in
    let first = self.first.items in
    let goals = self.goals.items in
    let holds = self.holds.items in
    let x = c.args.input.now in
    let some = c.requires.stands in
    let z = some.0 in
    let l = some.1 in
    let h = some.2 in
    let b = some.3 in
    let m = some.4 in
    let st = some.5 in
    let t = takes_turn k.game (g.met.G.Regions.closed _) st.sound.made z l (ranks_of layers) st.sound.won st.sound.ranks st.sound.starts h b m st.play st.whole x c.requires.input (c.requires.legal z l h b m st) in
    let began = sym st.place.position.started ∙ c.requires.started in
    let there = past k.game b c.values.result.now began st.whole (st.place.position.listed ∙ sym c.values.ensures) in
    let last_is = ap (λ (n : Memory). n.goal) (sym st.place.memory) in
    let aim = subst (λ (list : List _). (s : State) (m : Memory) → RegionsAre k list (goal_set k.game) → length list ≡ length (goal_sets k.game) → is_state k.game s ≡ true → listed s ≡ c.values.result.now → m.goal ≡ self.place.goal → (c.aimed-goal.result.0 ≡ goal_aimed k.game (Some s) m) × (c.aimed-goal.result.1 ≡ goal_stays k.game (Some s) m)) c.deref.ensures.value c.aimed-goal.ensures.aim in
    let k1 = kept c.aimed-goal.new.g in
    let are = ap (λ (list : List _). option_map (λ (v : Vec _ Global). v.items) (slice_get list c.aimed-goal.result.0)) (sym c.deref-2.ensures.value) ∙ c.aims_of.ensures in
    let later = later_at k layers first goals holds z l st.sound b m x t.output t.next t.turn t.high c.values.result.now there self.place.goal c.aimed-goal.result.0 c.aimed-goal.result.1 last_is aim k1 c.aimed-goal.ensures.held c.aimed-goal.ensures.keeps c.values-2.result.now (c.values.ensures ∙ sym c.values-2.ensures) c.aims_of.result.now are self.place.rank self.place.index (ap (λ (n : Memory). n.rank) (sym st.place.memory)) (ap (λ (n : Memory). n.index) (sym st.place.memory)) in
    let k2 = kept c.lead-rank.new.g in
    let out = c.lead-rank.new.out in
    let led = c.lead-rank.ensures.chosen l there.state m t.output t.next later in
    let same = same_then k k1 k2 c.aimed-goal.ensures.keeps c.lead-rank.ensures.keeps in
    let stays = stays_then k k1 k2 c.aimed-goal.ensures.held c.lead-rank.ensures.held in
    let e = c.game.ensures ∙ same.game in
    let at = at_there k.game _ e l b m x t.output t.next t.turn out led.1 self.place st.place in
    let inside = closed_there k.game _ e l b m x t.output t.next t.turn out led.1 in
    let here = at_back k.game _ e l b m x t.output t.next t.turn out led.1 c.go_on.new.self (c.go_on.ensures b m at inside) in
    let aim_is = goal_is k layers first goals holds z l st.sound b m x t.output t.next t.turn t.high c.values.result.now there self.place.goal c.aimed-goal.result.0 c.aimed-goal.result.1 last_is aim in
    let waited = waits_back k layers first goals holds z l st.sound b m x t.output t.next t.turn t.high c.values.result.now there self.place.goal c.aimed-goal.result.0 c.aimed-goal.result.1 last_is aim k1 c.aimed-goal.ensures.keeps c.lead-rank.result.1 led.2 in
    let settled =
    subst (λ (list : List _). Settles k2 list c.go_on.new.self c.aimed-goal.result.0 c.lead-rank.result.0 c.lead-rank.result.1 l b m x t.output t.next) (sym c.deref-3.ensures.value)
    (settles k k2 stays same layers first goals holds z l st.sound b m x t.output t.next t.turn t.high c.go_on.new.self c.aimed-goal.result.0 c.lead-rank.result.0 c.lead-rank.result.1 here aim_is led.0 waited) in
    (l, b, m, x, t.output, t.next, settled)

pub overflow_add-rank : goal.overflow_add-rank
overflow_add-rank g c =
    let kept = g.G.Regions.kept in
    let self = c.args.self.now in
    let k = kept self.g in
    let layers = self.layers.items in
    let first = self.first.items in
    let goals = self.goals.items in
    let holds = self.holds.items in
    let x = c.args.input.now in
    let some = c.requires.stands in
    let z = some.0 in
    let l = some.1 in
    let h = some.2 in
    let b = some.3 in
    let m = some.4 in
    let st = some.5 in
    let t = takes_turn k.game (g.met.G.Regions.closed _) st.sound.made z l (ranks_of layers) st.sound.won st.sound.ranks st.sound.starts h b m st.play st.whole x c.requires.input (c.requires.legal z l h b m st) in
    let began = sym st.place.position.started ∙ c.requires.started in
    let there = past k.game b c.values.result.now began st.whole (st.place.position.listed ∙ sym c.values.ensures) in
    let last_is = ap (λ (n : Memory). n.goal) (sym st.place.memory) in
    let aim = subst (λ (list : List _). (s : State) (m : Memory) → RegionsAre k list (goal_set k.game) → length list ≡ length (goal_sets k.game) → is_state k.game s ≡ true → listed s ≡ c.values.result.now → m.goal ≡ self.place.goal → (c.aimed-goal.result.0 ≡ goal_aimed k.game (Some s) m) × (c.aimed-goal.result.1 ≡ goal_stays k.game (Some s) m)) c.deref.ensures.value c.aimed-goal.ensures.aim in
    let k1 = kept c.aimed-goal.new.g in
    let are = ap (λ (list : List _). option_map (λ (v : Vec _ Global). v.items) (slice_get list c.aimed-goal.result.0)) (sym c.deref-2.ensures.value) ∙ c.aims_of.ensures in
    let later = later_at k layers first goals holds z l st.sound b m x t.output t.next t.turn t.high c.values.result.now there self.place.goal c.aimed-goal.result.0 c.aimed-goal.result.1 last_is aim k1 c.aimed-goal.ensures.held c.aimed-goal.ensures.keeps c.values-2.result.now (c.values.ensures ∙ sym c.values-2.ensures) c.aims_of.result.now are self.place.rank self.place.index (ap (λ (n : Memory). n.rank) (sym st.place.memory)) (ap (λ (n : Memory). n.index) (sym st.place.memory)) in
    let led = c.lead-rank.ensures.chosen l there.state m t.output t.next later in
    omega (arith, led.0, rank_bound k layers first goals holds z l st.sound b m x t.output t.next t.turn t.high c.values.result.now there self.place.goal c.aimed-goal.result.0 c.aimed-goal.result.1 last_is aim c.aims_of.result.now are)

pub returns-clause-chosen : goal.returns-clause-chosen
returns-clause-chosen g c = λ z l h b m st.
    let kept = g.G.Regions.kept in
    let self = c.args.self.now in
    let k = kept self.g in
    let layers = self.layers.items in
    let first = self.first.items in
    let goals = self.goals.items in
    let holds = self.holds.items in
    let x = c.args.input.now in
    let t = takes_turn k.game (g.met.G.Regions.closed _) st.sound.made z l (ranks_of layers) st.sound.won st.sound.ranks st.sound.starts h b m st.play st.whole x c.requires.input (c.requires.legal z l h b m st) in
    let began = sym st.place.position.started ∙ c.requires.started in
    let there = past k.game b c.values.result.now began st.whole (st.place.position.listed ∙ sym c.values.ensures) in
    let last_is = ap (λ (n : Memory). n.goal) (sym st.place.memory) in
    let aim = subst (λ (list : List _). (s : State) (m : Memory) → RegionsAre k list (goal_set k.game) → length list ≡ length (goal_sets k.game) → is_state k.game s ≡ true → listed s ≡ c.values.result.now → m.goal ≡ self.place.goal → (c.aimed-goal.result.0 ≡ goal_aimed k.game (Some s) m) × (c.aimed-goal.result.1 ≡ goal_stays k.game (Some s) m)) c.deref.ensures.value c.aimed-goal.ensures.aim in
    let k1 = kept c.aimed-goal.new.g in
    let are = ap (λ (list : List _). option_map (λ (v : Vec _ Global). v.items) (slice_get list c.aimed-goal.result.0)) (sym c.deref-2.ensures.value) ∙ c.aims_of.ensures in
    let later = later_at k layers first goals holds z l st.sound b m x t.output t.next t.turn t.high c.values.result.now there self.place.goal c.aimed-goal.result.0 c.aimed-goal.result.1 last_is aim k1 c.aimed-goal.ensures.held c.aimed-goal.ensures.keeps c.values-2.result.now (c.values.ensures ∙ sym c.values-2.ensures) c.aims_of.result.now are self.place.rank self.place.index (ap (λ (n : Memory). n.rank) (sym st.place.memory)) (ap (λ (n : Memory). n.index) (sym st.place.memory)) in
    let k2 = kept c.lead-rank.new.g in
    let out = c.lead-rank.new.out in
    let led = c.lead-rank.ensures.chosen l there.state m t.output t.next later in
    let same = same_then k k1 k2 c.aimed-goal.ensures.keeps c.lead-rank.ensures.keeps in
    let stays = stays_then k k1 k2 c.aimed-goal.ensures.held c.lead-rank.ensures.held in
    let e = c.game.ensures ∙ same.game in
    let at = at_there k.game _ e l b m x t.output t.next t.turn out led.1 self.place st.place in
    let inside = closed_there k.game _ e l b m x t.output t.next t.turn out led.1 in
    let here = at_back k.game _ e l b m x t.output t.next t.turn out led.1 c.go_on.new.self (c.go_on.ensures b m at inside) in
    let aim_is = goal_is k layers first goals holds z l st.sound b m x t.output t.next t.turn t.high c.values.result.now there self.place.goal c.aimed-goal.result.0 c.aimed-goal.result.1 last_is aim in
    let waited = waits_back k layers first goals holds z l st.sound b m x t.output t.next t.turn t.high c.values.result.now there self.place.goal c.aimed-goal.result.0 c.aimed-goal.result.1 last_is aim k1 c.aimed-goal.ensures.keeps c.lead-rank.result.1 led.2 in
    let settled =
    subst (λ (list : List _). Settles k2 list c.go_on.new.self c.aimed-goal.result.0 c.lead-rank.result.0 c.lead-rank.result.1 l b m x t.output t.next) (sym c.deref-3.ensures.value)
    (settles k k2 stays same layers first goals holds z l st.sound b m x t.output t.next t.turn t.high c.go_on.new.self c.aimed-goal.result.0 c.lead-rank.result.0 c.lead-rank.result.1 here aim_is led.0 waited) in
    let k3 = kept c.new_index-index.new.g in
    let index = c.new_index-index.ensures.index l b m x t.output t.next settled in
    let rank : c.lead-rank.result.0 + 1 ≡ t.next.rank = let r = led.0 in omega (arith, r) in
    let place = subst (λ p. IsAt k.game p (Some (reached k.game b x t.output)) t.next) (sym c.remember.ensures) (remembered k.game c.go_on.new.self (Some (reached k.game b x t.output)) m c.aimed-goal.result.0 (c.lead-rank.result.0 + 1) c.new_index-index.result t.next here aim_is rank index) in
    let all_stays = stays_then k k2 k3 stays c.new_index-index.ensures.held in
    let owned = all_stay k k3 (items_of self) (g.met.G.Regions.exact _) (λ w. omega (arith, all_stays.held w)) st.owned in
    let gone =
    has_gone k k3 all_stays (same_then k k2 k3 same c.new_index-index.ensures.keeps)
    layers first goals holds z l st.sound h b m st.play x t.output t.next t.turn out led.1 c.remember.new.self place in
    (t.next, record { chosen = gone.chosen; stands = record { sound = gone.sound; play = gone.play; whole = gone.whole; place = gone.place; owned = owned; few = st.few; judge = subst (λ (h : GameData). IsJudgeOf h self.judge) (sym (same_then k k2 k3 same c.new_index-index.ensures.keeps).game) st.judge; replies = subst (λ (h : GameData). AreRepliesOf h l self.replies) (sym (same_then k k2 k3 same c.new_index-index.ensures.keeps).game) st.replies; room = subst (λ (h : GameData). HasRoomFor h self.replies) (sym (same_then k k2 k3 same c.new_index-index.ensures.keeps).game) st.room } })

pub returns-clause-keeps : goal.returns-clause-keeps
returns-clause-keeps g c =
    let kept = g.G.Regions.kept in
    let k = kept c.args.self.now.g in
    let k1 = kept c.aimed-goal.new.g in
    let k2 = kept c.lead-rank.new.g in
    let k3 = kept c.new_index-index.new.g in
    record {
      held = stays_then k k1 k3 c.aimed-goal.ensures.held (stays_then k1 k2 k3 c.lead-rank.ensures.held c.new_index-index.ensures.held);
      game = same_then k k1 k3 c.aimed-goal.ensures.keeps (same_then k1 k2 k3 c.lead-rank.ensures.keeps c.new_index-index.ensures.keeps);
      z = refl;
      layers = refl;
      first = refl;
      goals = refl;
      holds = refl;
      judge = refl;
    }
