-- What an order is sought in, and why the search for it may end. No public clause cites this page.
use Rattle.std.specs.Prelude.{◌≡◌, ◌^◌, ◌<◌, ◌≤◌, ℕ, List, length, map, slice_index}
use Rattle.std.specs.List.{All}
use Rattle.spec_model.specs.Values.{DomainData}
use Rattle.spec_model.specs.Games.{GameData}
use Rattle.spec_model.specs.WellMade.{WellMade}
use Rattle.bdd_store.specs.declared.fault.StoreFault.{StoreFault}
use Rattle.bdd_store.specs.declared.fault.StoreFault.TheVariants as store
use Rattle.bdd_ops.specs.Contents.{Contents}
use Rattle.regions.specs.declared.types.Halt.{Halt}
use Rattle.regions.specs.declared.types.Halt.TheVariants as halt
use Rattle.bit_compile.specs.Domains.{state_domains, level_count}
use Rattle.bdd_reorder.specs.Keeping.{AreRoots}
use Rattle.bdd_reorder.specs.Making.{functions_at}
use Rattle.variable_order.specs.Climbing.{IsClimb}
use Rattle.line_functions.specs.Functions.{functions_of}
use Rattle.spec_order.specs.declared.fault.OrderFault.{OrderFault}
use Rattle.spec_order.specs.declared.fault.OrderFault.TheVariants.{Limit, Budget, Memory}
use Rattle.spec_order.specs.Orders.{widths_of, declared, slots_for}
use Rattle.spec_order.specs.Crowded.{IsFullOrder}

-- a well-made game of few variables, with its bits
pub record IsScene (g : GameData) (codes : List DomainData) : Type 0 where
  pub made : WellMade g
  pub few : length g.variables ≤ 32
  pub bits : codes ≡ state_domains g
  pub small : level_count codes < 2 ^ 32

-- these roots of the store are the lines' functions, over the levels of the game
pub record HasLines (g : GameData) (c : Contents) (roots : List ℕ) : Type 0 where
  pub kept : AreRoots c.state roots
  pub functions : functions_at c roots ≡ functions_of g
  pub levels : c.state.table.levels ≡ level_count (state_domains g)

-- a climb from the declared order, with so many nodes, ends at these slots, with so many
abbrev pub IsClimbOf : GameData → ℕ → List ℕ → ℕ → Type 0
IsClimbOf g n last k = IsClimb (length g.hidden) (widths_of g) (functions_of g) (slots_for g (declared g)) n last k

-- these places of a list have those elements
pub record AreAt (list places elements : List ℕ) : Type 0 where
  pub known : All (λ k. k < length list) places
  pub are : map (slice_index list) places ≡ elements

-- ---- refusals

abbrev pub of_store : StoreFault → OrderFault
of_store store.Full = Budget
of_store store.Memory = Memory

abbrev pub of_halt : Halt → OrderFault
of_halt halt.Budget = Budget
of_halt halt.Memory = Memory

-- why a search ends: where there are few variables, no limit is passed
abbrev pub MayHalt : GameData → (budget : ℕ) → OrderFault → Type 0
MayHalt g budget Limit = ⊥
MayHalt g budget Budget = IsFullOrder g budget
MayHalt g budget Memory = Unit {0}
