-- The layers as they are held and shown, where the environment wins and where it doesn't.
use Rattle.std.proofs.Common.{◌≡◌, ℕ, ◌≤◌, true, false, List, length, Option, Some, None, MatchOption, ap, sym, ◌∙◌, subst, arith}
use Rattle.spec_model.specs.Sets.{StateSet, environment_forces}
use Rattle.regions.specs.Kept.{Kept, Item, Meaning, weight, IsExact}
use Rattle.gr1_sys.specs.Held.{weight_as, MakesRegions}
use Rattle.gr1_sys.proofs.Lists.{made_and_spent_all, makes_still}
use Rattle.gr1_env.specs.declared.layers.EnvLayer.{EnvLayer}
use Rattle.gr1_env.specs.Solution.{layer_on}
use Rattle.gr1_env.specs.Held.{all_regions, all_sets, HaveLayers}
use Rattle.gr1_env.specs.Solved.{IsForced, IsDropped, HasWon, HasLost}

module _ {G R M : Type 0} (k k1 k2 : Kept R M) (last : StateSet) (misses asms : List StateSet) (ls : List (EnvLayer G R M)) where
  pub lost : IsExact k1 → k.jam ≡ None → k1.game ≡ k.game → last ≡ layer_on k.game misses asms (length ls) → HaveLayers k.game k k1 misses asms ls → IsDropped k1 k2 last (all_regions ls) → HasLost k k2 misses asms
  lost exact free game is have dropped =
      record {
        stays = record { held = made_and_spent_all k k1 k1 k2 (all_regions ls) (all_sets k.game misses asms ls) exact have.made (λ w. omega arith) dropped.0; jam = dropped.0.jam ∙ (have.made.jam ∙ sym free) };
        count = length ls;
        last = have.count;
        escapes = ap (λ t. environment_forces k.game t None) (sym is) ∙ subst (λ h. environment_forces h last None ≡ false) game dropped.1;
      }

  pub won : (shown : List (EnvLayer G R M)) → shown ≡ ls → k1.game ≡ k.game → last ≡ layer_on k.game misses asms (length ls) → HaveLayers k.game k k1 misses asms ls → IsForced k1 k2 last → HasWon k k2 misses asms shown
  won shown same game is have forced =
      subst (λ (qs : List (EnvLayer G R M)). HasWon k k2 misses asms qs) (sym same) (
        record { made = makes_still k k1 k2 (all_regions ls) (all_sets k.game misses asms ls) have.made forced.0.held (forced.0.jam ∙ have.made.jam); whole = have.whole; count = have.count },
        ap (λ t. environment_forces k.game t None) (sym is) ∙ subst (λ h. environment_forces h last None ≡ true) game forced.1,
      )

-- what was made first is held whether there are layers or not
module _ {G R M X : Type 0} where
  pub still_held : (k k1 k2 : Kept R M) (given : List R) (sets misses asms : List StateSet) (o : Option X) (layers : X → List (EnvLayer G R M)) → MakesRegions k k1 given sets →
      MatchOption o (HasLost k1 k2 misses asms) (λ l. HasWon k1 k2 misses asms (layers l)) → (w : Item R M → Meaning → ℕ) → weight_as given sets w ≤ weight k2 w
  still_held k k1 k2 given sets misses asms None layers made lost w = omega (arith, made.held w, lost.stays.held w)
  still_held k k1 k2 given sets misses asms (Some l) layers made won w = omega (arith, made.held w, won.0.made.held w)
