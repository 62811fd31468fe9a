use Rattle.std.proofs.Common.{◌≡◌, ℕ, Result, Ok, Err, IsOk, is_ok, if◌then◌else◌, List, [], ◌++◌, Some, length, refl, ◌∙◌, ap, subst, arith}
use Rattle.std.proofs.lemmas.Bool.{false≢true}
use Rattle.spec_model.specs.Cores.{with_guarantees, guarantees_of}
use Rattle.core_min.proofs.Few.{few}
use Rattle.solve.specs.Winners.{IsWonBySystem, IsWonByEnvironment}
use Rattle.solve.specs.Budgets.{MayHalt}
use Rattle.solve.specs.Verdicts.{AreNumbersOf}
use Rattle.solve.specs.Judged.{whole_of}
use Rattle.solve.specs.Places.{at_places, part_at}
use Rattle.solve.proofs.Wholly.{won_within, lost_within, not_both}
use Rattle.solve.proofs.parts.PartsJudge.wins.Goals as goal

pub pick-requires-clause-room : goal.pick-requires-clause-room
pick-requires-clause-room c =
    let short = few (length (guarantees_of (whole_of c.args.self.now))) c.args.kept.now c.requires.set in
    let same = ap length c.args.self.now.numbered in
    let room = c.args.self.now.part_room in
    omega (arith, short, same, room)

pub unwrap-requires : goal.unwrap-requires
unwrap-requires c =
    let short = few (length (guarantees_of (whole_of c.args.self.now))) c.args.kept.now c.requires.set in
    let same = ap length c.args.self.now.numbered in
    let room = c.args.self.now.asked_room in
    let kept = c.clear.ensures.capacity in
    let none = c.clear.ensures.len in
    c.extend_from_slice.ensures.succeeds (omega (arith, short, same, room, kept, none))

pub returns-in-Ok-Realizable-clause-answer : goal.returns-in-Ok-Realizable-clause-answer
returns-in-Ok-Realizable-clause-answer c =
    let s = whole_of c.args.self.now in
    let k = c.in-Ok-Realizable.field-0-0 in
    let part : c.deref.result.now ≡ at_places (guarantees_of s) c.args.kept.now =
    c.deref.ensures.value ∙ (c.pick.ensures.picked ∙ ap (λ ns. at_places ns c.args.kept.now) c.args.self.now.numbered) in
    let found = subst (AreNumbersOf (with_guarantees s c.deref.result.now)) c.in-Ok-Realizable.field-0-is c.in-Ok-Realizable.ensures.numbers in
    let won = won_within (part_at s c.args.kept.now) k (subst (λ ns. IsWonBySystem (with_guarantees s ns) k) part found) in
    (λ yes. won, λ wins. refl)

pub returns-in-Ok-Unrealizable-clause-answer : goal.returns-in-Ok-Unrealizable-clause-answer
returns-in-Ok-Unrealizable-clause-answer c =
    let s = whole_of c.args.self.now in
    let n = c.in-Ok-Unrealizable.field-0-0 in
    let m = c.in-Ok-Unrealizable.field-0-1 in
    let part : c.deref.result.now ≡ at_places (guarantees_of s) c.args.kept.now =
    c.deref.ensures.value ∙ (c.pick.ensures.picked ∙ ap (λ ns. at_places ns c.args.kept.now) c.args.self.now.numbered) in
    let found = subst (AreNumbersOf (with_guarantees s c.deref.result.now)) c.in-Ok-Unrealizable.field-0-is c.in-Ok-Unrealizable.ensures.numbers in
    let lost = lost_within (part_at s c.args.kept.now) n m (subst (λ ns. IsWonByEnvironment (with_guarantees s ns) n m) part found) in
    (λ yes. absurd (false≢true yes), λ wins. absurd (not_both (part_at s c.args.kept.now) lost wins))

-- what a cleared list has once the places were added
kept_now : {X Y : Type 0} (result : Result X Y) (new old kept : List ℕ) → IsOk result → new ≡ (if is_ok result then old ++ kept else old) → old ≡ [] → new ≡ kept
kept_now (Ok done) new old kept ok added none = added ∙ ap (λ xs. xs ++ kept) none
kept_now (Err e) new old kept ok added none = absurd (false≢true ok)

pub returns-in-Err-clause-cause : goal.returns-in-Err-clause-cause
returns-in-Err-clause-cause c =
    let s = whole_of c.args.self.now in
    let short = few (length (guarantees_of s)) c.args.kept.now c.requires.set in
    let same = ap length c.args.self.now.numbered in
    let room = c.args.self.now.asked_room in
    let capacity = c.clear.ensures.capacity in
    let none = c.clear.ensures.len in
    let part : c.deref.result.now ≡ at_places (guarantees_of s) c.args.kept.now = c.deref.ensures.value ∙ (c.pick.ensures.picked ∙ ap (λ ns. at_places ns c.args.kept.now) c.args.self.now.numbered) in
    record {
      rose = omega (arith, c.saturating_add-self.ensures);
      latest =
          ap (λ (items : List ℕ). Some (c.in-Err.halt, items))
          (kept_now c.extend_from_slice.result c.extend_from_slice.new.self.items c.clear.new.self.items c.args.kept.now
          (c.extend_from_slice.ensures.succeeds (omega (arith, short, same, room, capacity, none))) c.extend_from_slice.ensures.items c.clear.ensures.items);
      allowed = subst (λ (ns : List ℕ). MayHalt c.args.self.now.budget (with_guarantees s ns) c.in-Err.halt) part c.in-Err.ensures.cause;
    }
