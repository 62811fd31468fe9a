-- Where a noted play of given inputs ends: the state is one of the game, and what is remembered there is told by the layer, the goal and
-- the assumption aimed at, which are in range.
use Rattle.std.proofs.Common.{◌≡◌, ℕ, suc, ◌+◌, ◌^◌, ◌<◌, not, if◌then◌else◌, List, true, Some, None, map, refl, sym, ap, subst, ◌∙◌, arith}
use Rattle.std.proofs.lemmas.Bool.{and_parts}
use Rattle.std.proofs.lemmas.List.{length-map}
use Rattle.spec_model.specs.Rules.{Run}
use Rattle.spec_model.specs.Unrealizable.{NoteData}
use Rattle.spec_model.specs.Games.{GameData, GoalData, State}
use Rattle.spec_model.specs.Steps.{Before, is_state, reached}
use Rattle.spec_model.specs.Sets.{StateSet, holding}
use Rattle.gr1_law.specs.Layers.{goal_set, assumption_set}
use Rattle.gr1_law.specs.EnvLayers.{EnvLayerSets}
use Rattle.gr1_law.specs.Counter.{CounterMemory, next_assumption, AnsweredPlay}
use Rattle.gr1_law.specs.CounterLaws.{IsLostWith}
use Rattle.gr1_law.proofs.CounterSteps.{CounterStands, given_leads, iterate_some, stands_next}
use Rattle.gr1_law.proofs.CounterTrails.{answered}
use Rattle.strategy_parts.specs.Counts.{HasFewGoals}
use Rattle.strategy_parts.proofs.Counting.{sets_few}
use Rattle.counterstrategy.specs.declared.spot.EnvSpot.{EnvSpot}
use Rattle.counterstrategy.specs.declared.remembered.Remembered.{Remembered}
use Rattle.counterstrategy.specs.Places.{memory_at}
use Rattle.counterstrategy.specs.Turns.{rank_kept}
use Rattle.counterstrategy.specs.Spots.{spot_at}
use Rattle.counterstrategy.specs.Settled.{settled_at}
use Rattle.counterstrategy.proofs.Replying.{remembered}

stands_at_end : (g : GameData) (e : EnvLayerSets) (n : ℕ) (counts : ℕ → ℕ → List ℕ) → IsLostWith g e n counts → (h : Run) (notes : List NoteData) (b : Before) (k : CounterMemory) → AnsweredPlay g e h notes b k → (s : State) → b ≡ Some s → CounterStands g e n s k
stands_at_end g e n counts lost h notes b k AnsweredPlay.nothing s is = absurd (let none : None ≡ Some s = is in cc)
stands_at_end g e n counts lost h notes b k (AnsweredPlay.more q ns c m r x y next play given output legal noted) s is =
    let same : reached g c x y ≡ s = let e' : Some (reached g c x y) ≡ Some s = is in cc in
    subst (λ (s : State). CounterStands g e n s next) same
    (stands_next g e lost.layers n c m r x given (reached g c x y) (given_leads g e lost.layers n c m r x given y output legal) (answered g e lost.layers n q ns c m lost.forced play).ready next noted)

module _ (g : GameData) (e : EnvLayerSets) (n : ℕ) (counts : ℕ → ℕ → List ℕ) (lost : IsLostWith g e n counts) (h : Run) (notes : List NoteData) (s : State) (k : CounterMemory) (play : AnsweredPlay g e h notes (Some s) k) where
  pub stands : CounterStands g e n s k
  stands = stands_at_end g e n counts lost h notes (Some s) k play s refl

  pub inside : is_state g s ≡ true
  inside = (and_parts _ _ (iterate_some g e lost.layers k.layer stands.low stands.layer k.goal k.before stands.rank s stands.ranked.here).2.stays).0

  pub settled : settled_at g s k.layer k.goal k.before ≡ k
  settled = remembered k (not (goal_set g k.goal s)) k.layer k.goal k.before (if assumption_set g k.before s then next_assumption g k.before else k.before) (sym stands.denying) refl refl refl (sym stands.index)

  module _ (few : HasFewGoals g) where
    pub goal_counted : k.goal + 1 < 2 ^ 32
    goal_counted =
        let sets : List StateSet = map (λ (goal : GoalData). holding g goal.holds) g.goals in
        let many = length-map g.goals (λ (goal : GoalData). holding g goal.holds) in
        let all = sets_few g sets (2 ^ 32) (omega (arith, many, few.goals)) (omega arith) in
        omega (arith, all, stands.goal_in)

    pub asm_counted : k.before + 1 < 2 ^ 32
    asm_counted =
        let sets : List StateSet = map (λ (goal : GoalData). holding g goal.holds) g.assume in
        let many = length-map g.assume (λ (goal : GoalData). holding g goal.holds) in
        let all = sets_few g sets (2 ^ 32) (omega (arith, many, few.asms)) (omega arith) in
        omega (arith, all, stands.before_in)

abbrev spot : (layer goal before rank : ℕ) → EnvSpot
spot layer goal before rank = record { layer = layer; goal = goal; asm = before; rank = rank }

-- the spot of what is remembered is told by its parts
pub same_spot : (p : Remembered) (k : CounterMemory) (rank r : ℕ) → memory_at p ≡ k → rank ≡ rank_kept k r → spot p.layer (suc p.goal) (suc p.before) rank ≡ spot_at k r
same_spot p k rank r memory kept = ap (λ (q : CounterMemory). spot q.layer (suc q.goal) (suc q.before) rank) memory ∙ ap (spot k.layer (suc k.goal) (suc k.before)) kept

pub counted_from_1 : (layer goal before rank : ℕ) → spot layer (goal + 1) (before + 1) rank ≡ spot layer (suc goal) (suc before) rank
counted_from_1 layer goal before rank = ap (λ n. spot layer n (before + 1) rank) (one_more goal) ∙ ap (λ n. spot layer (suc goal) n rank) (one_more before)
  where
    one_more : (n : ℕ) → n + 1 ≡ suc n
    one_more n = omega arith
