use Rattle.std.proofs.Common.{◌<◌, ◌++◌, ◌∷◌, [], ◌∙◌, ℕ, List, map, take, length, slice_index, ap, sym, subst}
use Rattle.std.specs.List.{All, Contains}
use Rattle.std.proofs.lemmas.List.{map-append, take_more}
use Rattle.std.proofs.lemmas.List.Elements.{All-nil, All-push, All-get_or}
use Rattle.bdd_reorder.proofs.ElementLemmas.{take_all}
use Rattle.spec_order.specs.Scenes.{AreAt}
use Rattle.spec_order.proofs.slots.places_in.Goals as goal

pub loop-slot-init : goal.loop-slot-init
loop-slot-init c =
    let none = c.new-places.ensures.items in
    record { known = subst (λ (xs : List ℕ). All (λ k. k < length c.args.list.now) xs) (sym none) (All-nil (λ k. k < length c.args.list.now)); are = ap (map (slice_index c.args.list.now)) none }

pub place_in-requires-clause-there : goal.place_in-requires-clause-there
place_in-requires-clause-there c = All-get_or (Contains c.args.list.now) c.args.slots.now c.loop-slot.slot-index 0 c.loop-slot-test.true c.requires.there

pub loop-slot-preserved : goal.loop-slot-preserved
loop-slot-preserved c =
    let list = c.args.list.now in
    let slots = c.args.slots.now in
    let l = c.loop-slot in
    let k = c.place_in.result in
    let pushed = c.in_ok-push.ensures.items in
    record {
      known = subst (λ (xs : List ℕ). All (λ j. j < length list) xs) (sym pushed) (All-push (λ j. j < length list) l.places.items k l.invariant.known c.place_in.ensures.within);
      are = ap (map (slice_index list)) pushed
          ∙ (map-append (slice_index list) l.places.items (k ∷ [])
          ∙ (ap (λ (xs : List ℕ). xs ++ slice_index list k ∷ []) l.invariant.are
          ∙ (ap (λ (x : ℕ). take l.slot-index slots ++ x ∷ []) c.place_in.ensures.there ∙ sym (take_more slots l.slot-index 0 c.loop-slot-test.true))));
    }

pub returns : goal.returns
returns c =
    let l = c.loop-slot in
    subst (λ (xs : List ℕ). AreAt c.args.list.now l.places.items xs) (take_all c.args.slots.now l.slot-index c.loop-slot-test.false) l.invariant
