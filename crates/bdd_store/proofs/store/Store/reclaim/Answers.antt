use Rattle.std.proofs.Common.{[], refl}
use Rattle.bdd_store.proofs.Held.{reclaimed_live}
use Rattle.bdd_store.proofs.store.Store.reclaim.Goals as goal

pub returns-clause-live : goal.returns-clause-live
returns-clause-live c = reclaimed_live c.args.self.now c.make_room.new.self [] c.requires refl c.make_room.ensures.room c.make_room.ensures.sound

pub returns-clause-answers : goal.returns-clause-answers
returns-clause-answers c a = (
  (λ kept. (c.make_room.ensures.room.answers a kept, c.make_room.ensures.sound.answers_live a kept)),
  (λ h. c.make_room.ensures.room.answers_stay a h.0 h.1),
)
