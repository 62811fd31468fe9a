-- What becomes of a diagram that a call made, or was refused.
use Rattle.std.specs.Prelude.{◌≡◌, ℕ, List, Option, Some, None, Result, Ok, Err}
use Rattle.regions.specs.declared.types.Halt.{Halt}
use Rattle.regions.specs.declared.types.Halt.TheVariants as halt
use Rattle.region_bdd.specs.declared.slots.Content.TheVariants.{Region, Outputs}
use Rattle.region_bdd.specs.declared.slots.Slot.{Slot}
use Rattle.region_bdd.specs.declared.slots.Slot.TheVariants.{Taken}
use Rattle.region_bdd.specs.declared.slots.BddRegion.{BddRegion}
use Rattle.region_bdd.specs.declared.slots.BddMove.{BddMove}
use Rattle.regions.specs.declared.types.When.{When}
use Rattle.region_bdd.specs.declared.own.Refused.{Refused}
use Rattle.region_bdd.specs.Slots.{TakesSlot}

-- a diagram comes into a slot; want of memory changes nothing; want of budget is told
abbrev pub Settles : (old new : List Slot) → Option Refused → Result ℕ Halt → Result BddRegion Halt → Refused → Type 0
Settles old new refused (Ok root) (Ok r) why = TakesSlot old new r.slot (Taken (Region root)) × (refused ≡ None)
Settles old new refused (Err halt.Memory) (Err halt.Memory) why = (new ≡ old) × (refused ≡ None)
Settles old new refused (Err halt.Budget) (Err halt.Budget) why = (new ≡ old) × (refused ≡ Some why)
Settles old new refused made result why = ⊥

-- the same of moves that give outputs
abbrev pub SettlesOutputs : (old new : List Slot) → Option Refused → Result ℕ Halt → Result BddMove Halt → When → Refused → Type 0
SettlesOutputs old new refused (Ok root) (Ok m) when why = TakesSlot old new m.slot (Taken (Outputs when root)) × (refused ≡ None)
SettlesOutputs old new refused (Err halt.Memory) (Err halt.Memory) when why = (new ≡ old) × (refused ≡ None)
SettlesOutputs old new refused (Err halt.Budget) (Err halt.Budget) when why = (new ≡ old) × (refused ≡ Some why)
SettlesOutputs old new refused made result when why = ⊥
