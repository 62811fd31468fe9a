use Rattle.std.proofs.Common.{◌∙◌, ◌++◌, ◌∷◌, [], length, Some, List, refl, sym, ap, subst, arith}
use Rattle.std.proofs.lemmas.Bool.{false≢true}
use Rattle.spec_model.specs.Rules.{after}
use Rattle.spec_model.specs.Games.{GameData}
use Rattle.spec_model.specs.Steps.{reached}
use Rattle.regions.specs.Rules.{input_count}
use Rattle.game_play.specs.Judged.{IsOutputJudgeOf}
use Rattle.gr1_law.specs.Layers.{goal_set}
use Rattle.gr1_law.specs.Counter.{CounterMemory, note_of, AnsweredPlay}
use Rattle.gr1_env.specs.Solved.{counts_of}
use Rattle.gr1_law.proofs.Denied.{goal_there}
use Rattle.strategy_parts.specs.Positions.{IsAfter, IsWholeBefore}
use Rattle.strategy_parts.proofs.Owning.{all_stay}
use Rattle.counterstrategy.specs.declared.remembered.Remembered.{Remembered}
use Rattle.counterstrategy.specs.Places.{memory_at}
use Rattle.counterstrategy.specs.Turns.{ServesReply}
use Rattle.counterstrategy.specs.Objects.{items_of}
use Rattle.counterstrategy.proofs.Turning.{moves_closed, reply_exists}
use Rattle.counterstrategy.proofs.Sounding.{sound_stays, serves_reply}
use Rattle.counterstrategy.proofs.Completing.{there, closed_there, back, was_false}
use Rattle.counterstrategy.proofs.counterstrategy.Counterstrategy.complete.Goals as goal

pub go_on-requires-clause-here : goal.go_on-requires-clause-here
go_on-requires-clause-here g c =
    let self = c.args.self.now in
    let k = g.G.Regions.kept self.g in
    let some = c.requires.stands in
    let st = some.5 in
    let e = some.0 in
    let b = some.3 in
    let m = some.4 in
    let ls = self.layers.items in
    let given = st.given c.requires.given in
    let x = self.given.items in
    let y = c.args.out.now in
    let legal = c.requires.legal e some.1 some.2 b m st in
    (b, there k.game _ c.game.ensures b x y c.deref.result.now c.deref.ensures.value self.place.position st.place.position, closed_there k.game _ c.game.ensures b x y c.deref.result.now c.deref.ensures.value (moves_closed k.game e (length ls) (counts_of ls) st.sound.lost some.1 some.2 b m st.play st.whole (g.met.G.Regions.closed _) given.0 x given.1 y c.requires.output legal))

pub note_position-requires : goal.note_position-requires
note_position-requires g c =
    let self = c.args.self.now in
    let k = g.G.Regions.kept self.g in
    let some = c.requires.stands in
    let st = some.5 in
    let e = some.0 in
    let b = some.3 in
    let m = some.4 in
    let ls = self.layers.items in
    let given = st.given c.requires.given in
    let x = self.given.items in
    let y = c.args.out.now in
    let legal = c.requires.legal e some.1 some.2 b m st in
    let closed = moves_closed k.game e (length ls) (counts_of ls) st.sound.lost some.1 some.2 b m st.play st.whole (g.met.G.Regions.closed _) given.0 x given.1 y c.requires.output legal in
    let reply = reply_exists k.game e (length ls) (counts_of ls) st.sound.lost some.1 some.2 b m st.play st.whole (g.met.G.Regions.closed _) given.0 x given.1 y c.requires.output legal in
    let p : Remembered = record { position = c.go_on.new.self; denying = self.place.denying; layer = self.place.layer; goal = self.place.goal; before = self.place.before; index = self.place.index } in
    let here = back k.game _ c.game.ensures b x y c.deref.result.now c.deref.ensures.value c.go_on.new.self
    (c.go_on.ensures b (there k.game _ c.game.ensures b x y c.deref.result.now c.deref.ensures.value self.place.position st.place.position) (closed_there k.game _ c.game.ensures b x y c.deref.result.now c.deref.ensures.value closed)) in (
      e,
      m,
      reached k.game b x y,
      reply.0,
      subst (λ (list : List _). ServesReply k list self.kit p e m (reached k.game b x y) reply.0) (sym c.deref-2.ensures.value)
          (serves_reply k ls self.kit e st.sound p m (reached k.game b x y) reply.0 reply.1 (record { position = here; memory = st.place.memory })),
    )

pub note-requires : goal.note-requires
note-requires g c = λ on.
    let self = c.args.self.now in
    let k = g.G.Regions.kept self.g in
    let some = c.requires.stands in
    let st = some.5 in
    let e = some.0 in
    let b = some.3 in
    let m = some.4 in
    let ls = self.layers.items in
    let given = st.given c.requires.given in
    let x = self.given.items in
    let y = c.args.out.now in
    let legal = c.requires.legal e some.1 some.2 b m st in
    let kept = g.G.Regions.kept in
    let k1 = kept c.note_position.new.g in
    let closed = moves_closed k.game e (length ls) (counts_of ls) st.sound.lost some.1 some.2 b m st.play st.whole (g.met.G.Regions.closed _) given.0 x given.1 y c.requires.output legal in
    let reply = reply_exists k.game e (length ls) (counts_of ls) st.sound.lost some.1 some.2 b m st.play st.whole (g.met.G.Regions.closed _) given.0 x given.1 y c.requires.output legal in
    let p : Remembered = record { position = c.go_on.new.self; denying = self.place.denying; layer = self.place.layer; goal = self.place.goal; before = self.place.before; index = self.place.index } in
    let here = back k.game _ c.game.ensures b x y c.deref.result.now c.deref.ensures.value c.go_on.new.self
    (c.go_on.ensures b (there k.game _ c.game.ensures b x y c.deref.result.now c.deref.ensures.value self.place.position st.place.position) (closed_there k.game _ c.game.ensures b x y c.deref.result.now c.deref.ensures.value closed)) in
    let serves = subst (λ (list : List _). ServesReply k list self.kit p e m (reached k.game b x y) reply.0) (sym c.deref-2.ensures.value)
    (serves_reply k ls self.kit e st.sound p m (reached k.game b x y) reply.0 reply.1 (record { position = here; memory = st.place.memory })) in
    let memory = c.note_position.ensures.noted e m (reached k.game b x y) reply.0 serves in
    let denied = was_false (goal_set k.game reply.0.goal (reached k.game b x y)) (sym reply.1.noted.denying ∙ (ap (λ (n : CounterMemory). n.denying) (sym memory) ∙ on)) in
    let inner = goal_there k.game reply.0.goal (reached k.game b x y) reply.1.goal_in reply.1.state denied in
    let is = ap (λ (n : CounterMemory). n.goal) memory in
    let same = ap (λ (d : GameData). length d.goals) c.note_position.ensures.keeps.game in
    omega (arith, inner, is, same)

pub returns-clause-completed : goal.returns-clause-completed
returns-clause-completed g c = λ e h notes b m st.
    let kept = g.G.Regions.kept in
    let self = c.args.self.now in
    let k = kept self.g in
    let k1 = kept c.note_position.new.g in
    let stays = c.note_position.ensures.held in
    let same = c.note_position.ensures.keeps in
    let ls = self.layers.items in
    let given = st.given c.requires.given in
    let x = self.given.items in
    let y = c.args.out.now in
    let legal = c.requires.legal e h notes b m st in
    let closed = moves_closed k.game e (length ls) (counts_of ls) st.sound.lost h notes b m st.play st.whole (g.met.G.Regions.closed _) given.0 x given.1 y c.requires.output legal in
    let reply = reply_exists k.game e (length ls) (counts_of ls) st.sound.lost h notes b m st.play st.whole (g.met.G.Regions.closed _) given.0 x given.1 y c.requires.output legal in
    let s = reached k.game b x y in
    let p : Remembered = record { position = c.go_on.new.self; denying = self.place.denying; layer = self.place.layer; goal = self.place.goal; before = self.place.before; index = self.place.index } in
    let here = back k.game _ c.game.ensures b x y c.deref.result.now c.deref.ensures.value c.go_on.new.self
    (c.go_on.ensures b (there k.game _ c.game.ensures b x y c.deref.result.now c.deref.ensures.value self.place.position st.place.position) (closed_there k.game _ c.game.ensures b x y c.deref.result.now c.deref.ensures.value closed)) in
    let serves = subst (λ (list : List _). ServesReply k list self.kit p e m s reply.0) (sym c.deref-2.ensures.value)
    (serves_reply k ls self.kit e st.sound p m s reply.0 reply.1 (record { position = here; memory = st.place.memory })) in
    let memory = c.note_position.ensures.noted e m s reply.0 serves in (
      reply.0,
      record {
        noted = reply.1.noted;
        note = c.note.ensures ∙ (ap (λ (d : GameData). note_of d (memory_at c.note_position.new.place)) same.game ∙ ap (note_of k.game) memory);
        stands = record {
          sound = sound_stays k k1 stays same ls self.kit e st.sound;
          play = subst (λ (d : GameData). AnsweredPlay d e (after h x y) (notes ++ note_of k.game reply.0 ∷ []) (Some s) reply.0) (sym same.game) (AnsweredPlay.more h notes b m given.0 x y reply.0 st.play given.1 c.requires.output legal reply.1.noted);
          whole = subst (λ (d : GameData). IsWholeBefore d (Some s)) (sym same.game) reply.1.state;
          place = record { position = subst (λ (d : GameData). IsAfter d c.note_position.new.place.position (Some s)) (sym same.game) (subst (λ p. IsAfter k.game p (Some s)) (sym c.note_position.ensures.position) here); memory = memory };
          given = λ yes. absurd (false≢true yes);
          room = st.room ∙ ap input_count (sym same.game);
          owned = all_stay k k1 (items_of self) (g.met.G.Regions.exact _) (λ w. omega (arith, stays.held w)) st.owned;
          few = st.few;
          judge = subst (λ (d : GameData). IsOutputJudgeOf d self.judge) (sym same.game) st.judge;
        };
        fresh = refl;
      },
    )
