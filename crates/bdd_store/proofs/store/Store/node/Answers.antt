use Rattle.std.proofs.Common.{◌≡◌, ◌++◌, ◌∷◌, [], ℕ, Err, IfOk, OnErr, if◌then◌else◌, subst, sym, ap, ◌∙◌}
use Rattle.spec_model.specs.Diagrams.{Bits, value, IsLater}
use Rattle.bdd_store.specs.State.{IsFullOf, diagram_of}
use Rattle.bdd_store.specs.Kept.{MakesRoom}
use Rattle.bdd_store.proofs.Held.{low_held, high_held, room_keeps, full_before, full_after, still_held, keeps_behind, answers_behind, same_branch, had_branch}
use Rattle.bdd_store.proofs.store.Store.node.Goals as goal

pub find_or_add-requires-in-Err-Full-clause-low_live : goal.find_or_add-requires-in-Err-Full-clause-low_live
find_or_add-requires-in-Err-Full-clause-low_live c =
    let room = subst (λ s. MakesRoom s c.make_room.new.self (s.stack ++ c.args.low.0 ∷ c.args.high.0 ∷ [])) c.in-Err-Full.ensures.unchanged c.make_room.ensures.room in
    ((room_keeps c.args.self.now c.make_room.new.self (c.args.self.now.stack ++ c.args.low.0 ∷ c.args.high.0 ∷ []) room).held c.args.low.0 (low_held c.args.self.now c.args.self.now.stack c.args.low.0 c.args.high.0 c.requires.low_live)).0

pub find_or_add-requires-in-Err-Full-clause-high_live : goal.find_or_add-requires-in-Err-Full-clause-high_live
find_or_add-requires-in-Err-Full-clause-high_live c =
    let room = subst (λ s. MakesRoom s c.make_room.new.self (s.stack ++ c.args.low.0 ∷ c.args.high.0 ∷ [])) c.in-Err-Full.ensures.unchanged c.make_room.ensures.room in
    ((room_keeps c.args.self.now c.make_room.new.self (c.args.self.now.stack ++ c.args.low.0 ∷ c.args.high.0 ∷ []) room).held c.args.high.0 (high_held c.args.self.now c.args.self.now.stack c.args.low.0 c.args.high.0 c.requires.high_live)).0

pub find_or_add-requires-in-Err-Full-clause-low_later : goal.find_or_add-requires-in-Err-Full-clause-low_later
find_or_add-requires-in-Err-Full-clause-low_later c =
    let room = subst (λ s. MakesRoom s c.make_room.new.self (s.stack ++ c.args.low.0 ∷ c.args.high.0 ∷ [])) c.in-Err-Full.ensures.unchanged c.make_room.ensures.room in
    subst (IsLater c.args.level) (sym ((room_keeps c.args.self.now c.make_room.new.self (c.args.self.now.stack ++ c.args.low.0 ∷ c.args.high.0 ∷ []) room).held c.args.low.0 (low_held c.args.self.now c.args.self.now.stack c.args.low.0 c.args.high.0 c.requires.low_live)).1) c.requires.low_later

pub find_or_add-requires-in-Err-Full-clause-high_later : goal.find_or_add-requires-in-Err-Full-clause-high_later
find_or_add-requires-in-Err-Full-clause-high_later c =
    let room = subst (λ s. MakesRoom s c.make_room.new.self (s.stack ++ c.args.low.0 ∷ c.args.high.0 ∷ [])) c.in-Err-Full.ensures.unchanged c.make_room.ensures.room in
    subst (IsLater c.args.level) (sym ((room_keeps c.args.self.now c.make_room.new.self (c.args.self.now.stack ++ c.args.low.0 ∷ c.args.high.0 ∷ []) room).held c.args.high.0 (high_held c.args.self.now c.args.self.now.stack c.args.low.0 c.args.high.0 c.requires.high_live)).1) c.requires.high_later

pub returns-in-Err-Full-clause-branch : goal.returns-in-Err-Full-clause-branch
returns-in-Err-Full-clause-branch c unlike =
    let room = subst (λ s. MakesRoom s c.make_room.new.self (s.stack ++ c.args.low.0 ∷ c.args.high.0 ∷ [])) c.in-Err-Full.ensures.unchanged c.make_room.ensures.room in
    subst (λ d. IfOk c.find_or_add-in-Err-Full.result (λ e. diagram_of c.find_or_add-in-Err-Full.new.self e.0 ≡ d)) (same_branch c.args.self.now c.make_room.new.self (c.args.self.now.stack ++ c.args.low.0 ∷ c.args.high.0 ∷ []) room c.args.level c.args.low.0 c.args.high.0 (low_held c.args.self.now c.args.self.now.stack c.args.low.0 c.args.high.0 c.requires.low_live) (high_held c.args.self.now c.args.self.now.stack c.args.low.0 c.args.high.0 c.requires.high_live)) (c.find_or_add-in-Err-Full.ensures.branch unlike)

pub returns-in-Err-Full-clause-value : goal.returns-in-Err-Full-clause-value
returns-in-Err-Full-clause-value c =
    let room = subst (λ s. MakesRoom s c.make_room.new.self (s.stack ++ c.args.low.0 ∷ c.args.high.0 ∷ [])) c.in-Err-Full.ensures.unchanged c.make_room.ensures.room in
    subst (λ d. IfOk c.find_or_add-in-Err-Full.result (λ e. (s : Bits) → value (diagram_of c.find_or_add-in-Err-Full.new.self e.0) s ≡ (if s c.args.level then value (diagram_of c.args.self.now c.args.high.0) s else value d s))) ((room_keeps c.args.self.now c.make_room.new.self (c.args.self.now.stack ++ c.args.low.0 ∷ c.args.high.0 ∷ []) room).held c.args.low.0 (low_held c.args.self.now c.args.self.now.stack c.args.low.0 c.args.high.0 c.requires.low_live)).1
    (subst (λ d. IfOk c.find_or_add-in-Err-Full.result (λ e. (s : Bits) → value (diagram_of c.find_or_add-in-Err-Full.new.self e.0) s ≡ (if s c.args.level then value d s else value (diagram_of c.make_room.new.self c.args.low.0) s))) ((room_keeps c.args.self.now c.make_room.new.self (c.args.self.now.stack ++ c.args.low.0 ∷ c.args.high.0 ∷ []) room).held c.args.high.0 (high_held c.args.self.now c.args.self.now.stack c.args.low.0 c.args.high.0 c.requires.high_live)).1 c.find_or_add-in-Err-Full.ensures.value)

pub returns-in-Err-Full-clause-keeps : goal.returns-in-Err-Full-clause-keeps
returns-in-Err-Full-clause-keeps c =
    let room = subst (λ s. MakesRoom s c.make_room.new.self (s.stack ++ c.args.low.0 ∷ c.args.high.0 ∷ [])) c.in-Err-Full.ensures.unchanged c.make_room.ensures.room in
    keeps_behind c.args.self.now c.make_room.new.self (c.args.self.now.stack ++ c.args.low.0 ∷ c.args.high.0 ∷ []) room c.find_or_add-in-Err-Full.new.self c.find_or_add-in-Err-Full.ensures.keeps

pub returns-in-Err-Full-clause-answers : goal.returns-in-Err-Full-clause-answers
returns-in-Err-Full-clause-answers c =
    let room = subst (λ s. MakesRoom s c.make_room.new.self (s.stack ++ c.args.low.0 ∷ c.args.high.0 ∷ [])) c.in-Err-Full.ensures.unchanged c.make_room.ensures.room in
    answers_behind c.args.self.now c.make_room.new.self (c.args.self.now.stack ++ c.args.low.0 ∷ c.args.high.0 ∷ []) room c.find_or_add-in-Err-Full.new.self c.find_or_add-in-Err-Full.ensures.keeps c.find_or_add-in-Err-Full.ensures.answers

pub returns-in-Err-Full-clause-full : goal.returns-in-Err-Full-clause-full
returns-in-Err-Full-clause-full c =
    let room = subst (λ s. MakesRoom s c.make_room.new.self (s.stack ++ c.args.low.0 ∷ c.args.high.0 ∷ [])) c.in-Err-Full.ensures.unchanged c.make_room.ensures.room in
    let first = c.find_or_add.ensures.full.0 (c.in-Err-Full.is ∙ ap Err c.in-Err-Full.field-0-is) in (
      (λ is. (first.0, first.1, full_before c.args.self.now c.make_room.new.self (c.args.self.now.stack ++ c.args.low.0 ∷ c.args.high.0 ∷ []) room first.2 (c.find_or_add-in-Err-Full.ensures.full.0 is).2)),
      (λ h. c.find_or_add-in-Err-Full.ensures.full.1 (h.0, λ has. h.1 (had_branch c.args.self.now c.make_room.new.self (c.args.self.now.stack ++ c.args.low.0 ∷ c.args.high.0 ∷ []) room c.args.level c.args.low.0 c.args.high.0 (low_held c.args.self.now c.args.self.now.stack c.args.low.0 c.args.high.0 c.requires.low_live) (high_held c.args.self.now c.args.self.now.stack c.args.low.0 c.args.high.0 c.requires.high_live) has), full_after c.args.self.now c.make_room.new.self (c.args.self.now.stack ++ c.args.low.0 ∷ c.args.high.0 ∷ []) room c.make_room.ensures.sound.sound h.2)),
    )

pub returns-in-Err-Full-clause-filled : goal.returns-in-Err-Full-clause-filled
returns-in-Err-Full-clause-filled c is =
    let room = subst (λ s. MakesRoom s c.make_room.new.self (s.stack ++ c.args.low.0 ∷ c.args.high.0 ∷ [])) c.in-Err-Full.ensures.unchanged c.make_room.ensures.room in
    let same = subst (λ r. OnErr r (c.find_or_add-in-Err-Full.new.self ≡ c.make_room.new.self)) is c.find_or_add-in-Err-Full.ensures.unchanged in
    subst (λ xs. IsFullOf c.find_or_add-in-Err-Full.new.self (xs ++ c.args.low.0 ∷ c.args.high.0 ∷ [])) (sym (c.find_or_add-in-Err-Full.ensures.stack ∙ room.stack))
    (subst (λ s. IsFullOf s (c.args.self.now.stack ++ c.args.low.0 ∷ c.args.high.0 ∷ [])) (sym same) (still_held c.args.self.now c.make_room.new.self (c.args.self.now.stack ++ c.args.low.0 ∷ c.args.high.0 ∷ []) room (c.find_or_add-in-Err-Full.ensures.full.0 is).2))
