-- Laws of functions that tell sets of states, each of which the function of its name in src/laws.rt proves.
use Rattle.std.specs.Prelude.{◌≡◌, ℕ, true, false, List}
use Rattle.spec_model.specs.Diagrams.{Function, ite, shifted}
use Rattle.spec_model.specs.Games.{GameData}
use Rattle.spec_model.specs.Sets.{StateSet, all_states, no_states, both, either, rest}
use Rattle.game_values.specs.declared.seen.At.{At}
use Rattle.game_values.specs.declared.seen.At.TheVariants.{Now, Next}
use Rattle.bdd_ops.specs.Functions.{joined, join_of}
use Rattle.bdd_bits.specs.Orders.{BitOrder}
use Rattle.bdd_bits.specs.Calls.{RisesOver}
use Rattle.bit_compile.specs.Domains.{state_domains, level_count}
use Rattle.bdd_sets.specs.StateBits.{Tells}
use Rattle.bdd_sets.specs.MoveBits.{LeadsToNext}
use Rattle.bdd_sets.specs.NextOrders.{KeepsNext}

-- what the operations make of functions that tell sets
pub record OperationsTell (g : GameData) (at : At) (f h : Function) (t u : StateSet) : Type 0 where
  pub none : Tells g at (λ b. false) no_states
  pub common : Tells g at f t → Tells g at h u → Tells g at (joined (join_of true) f h) (both t u)
  pub together : Tells g at f t → Tells g at h u → Tells g at (joined (join_of false) f h) (either t u)
  pub others : Tells g at f t → Tells g at h (all_states g) → Tells g at (ite f (λ b. false) h) (rest g t)

-- two sets are one exactly where the functions that tell them are
pub record AreOneTogether (g : GameData) (at : At) (f h : Function) (t u : StateSet) (first : Tells g at f t) (second : Tells g at h u) : Type 0 where
  pub function : t ≡ u → f ≡ h
  pub set : f ≡ h → t ≡ u

-- a function that tells a set at the present bits may be moved to the next ones, and tells it there
pub record MovesToNext (g : GameData) (to : List ℕ) (f : Function) (t : StateSet) : Type 0 where
  pub rises : (o : BitOrder) → LeadsToNext g to → KeepsNext g o to → Tells g Now f t → RisesOver (level_count (state_domains g)) o to f
  pub told : LeadsToNext g to → Tells g Now f t → Tells g Next (shifted to f) t
