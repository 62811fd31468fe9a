-- What the functions of src/worked.rt hold at their steps.
use Rattle.std.proofs.Common.{◌≡◌, ◌∙◌, List, ap, arith}
use Rattle.regions.specs.declared.types.Halt.{Halt}
use Rattle.regions.specs.declared.types.Halt.TheVariants.{Budget}
use Rattle.spec_model.specs.Sets.{StateSet, either, pre_env}
use Rattle.regions.specs.Kept.{Kept, Region, Meaning, Call, Halts, MakesRegion, HasRegion, IsExact, IsSameGame, meanings, jam_after}
use Rattle.regions.specs.Worked.{TellsJam}
use Rattle.regions.proofs.Holding.{held_as, set_is}

module _ {R M : Type 0} where
  -- what the second call makes, said by the sets at entry
  pub second_made : (k k1 k2 : Kept R M) (x y b : R) (s : StateSet) → IsExact k1 → HasRegion k b → IsSameGame k k1 →
      MakesRegion k k1 x s → MakesRegion k1 k2 y (pre_env k1.game (k1.set b)) → MakesRegion k k1 x s × MakesRegion k1 k2 y (pre_env k.game (k.set b))
  second_made k k1 k2 x y b s exact here same x_made y_made =
      let b_is = set_is k1 b (k.set b) exact (λ w. omega (arith, x_made.held w, held_as k (Region b) here w)) in
      (x_made, rw (← same.game, ← b_is) y_made)

  -- and the third
  pub third_made : (k k1 k2 k3 : Kept R M) (x y r : R) (s t : StateSet) → IsExact k2 →
      MakesRegion k k1 x s → MakesRegion k1 k2 y t → MakesRegion k2 k3 r (either (k2.set x) (k2.set y)) → MakesRegion k2 k3 r (either s t)
  third_made k k1 k2 k3 x y r s t exact x_made y_made r_made =
      let x_is = set_is k2 x s exact (λ w. omega (arith, y_made.held w, x_made.held w)) in
      let y_is = set_is k2 y t exact (λ w. omega (arith, y_made.held w)) in
      rw (← x_is, ← y_is) r_made

  -- a call that answered Budget told its jam
  pub told : (old new : Kept R M) (asked : Call) (arguments : List Meaning) (halt : Halt) → Halts old new asked arguments halt → halt ≡ Budget → TellsJam new
  told old new asked arguments halt halts is_budget =
      (record { call = asked; arguments = arguments; held = meanings old }, halts.jam ∙ ap (jam_after old asked arguments) is_budget)
