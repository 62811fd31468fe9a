-- A set with the inputs that lead into it, each as its function.
use Rattle.std.specs.Prelude.{◌≡◌, ◌+◌, ℕ, List, Option, Some, None, Result, Ok, Err, IfOk, OnErr}
use Rattle.spec_model.specs.Diagrams.{Function, shifted}
use Rattle.regions.specs.declared.types.Halt.{Halt}
use Rattle.regions.specs.declared.types.Halt.TheVariants as halt
use Rattle.regions.specs.declared.types.When.{When}
use Rattle.regions.specs.declared.types.When.TheVariants.{First, Later}
use Rattle.bdd_store.specs.State.{roots_at, SameRoots, IsFull}
use Rattle.bdd_bits.specs.Contents.{Contents, function_at}
use Rattle.bdd_bits.specs.Calls.{KeepsRoots}
use Rattle.bdd_ops.specs.Unfinished.{negated}
use Rattle.bdd_sets.specs.declared.moves.Members.{Members}
use Rattle.bdd_sets.specs.declared.moves.NextLevels.{NextLevels}
use Rattle.bdd_sets.specs.MoveFunctions.{MoveFunctions, reply_of}
use Rattle.region_bdd.specs.declared.slots.Content.TheVariants.{Inputs}
use Rattle.region_bdd.specs.declared.slots.Slot.{Slot}
use Rattle.region_bdd.specs.declared.slots.Slot.TheVariants.{Taken}
use Rattle.region_bdd.specs.declared.slots.BddMove.{BddMove}
use Rattle.region_bdd.specs.declared.own.Own.{Own}
use Rattle.region_bdd.specs.declared.own.Refused.{Refused}
use Rattle.bdd_sets.specs.Lists.{one_at}
use Rattle.region_bdd.specs.Slots.{TakesSlot}

-- the lines of the first moves, or of later ones
abbrev pub members_at : Own → When → Members
members_at own First = own.first
members_at own Later = own.step.later

-- no legal output leads out of the set
abbrev pub leading_in : MoveFunctions → NextLevels → Function → Function
leading_in m levels f = negated (reply_of m levels.reply.items (negated (shifted levels.to.items f)))

-- two roots of these functions, or a refusal that leaves what is kept
pub record MakesTwo (old new : Contents) (result : Result (ℕ × ℕ) Halt) (f h : Function) : Type 0 where
  pub first : IfOk result (λ p. function_at new p.0 ≡ f)
  pub second : IfOk result (λ p. function_at new p.1 ≡ h)
  pub added : IfOk result (λ p. (n : ℕ) → roots_at new.state n ≡ roots_at old.state n + (one_at n p.0 + one_at n p.1))
  pub refused : OnErr result (SameRoots old.state new.state)
  pub keeps : KeepsRoots old new
  pub full : result ≡ Err halt.Budget → IsFull new.state

-- the two come into a slot; want of memory changes nothing; want of budget is told
abbrev pub SettlesInputs : (old new : List Slot) → Option Refused → Result (ℕ × ℕ) Halt → Result BddMove Halt → When → Refused → Type 0
SettlesInputs old new refused (Ok p) (Ok m) when why = TakesSlot old new m.slot (Taken (Inputs when p.0 p.1)) × (refused ≡ None)
SettlesInputs old new refused (Err halt.Memory) (Err halt.Memory) when why = (new ≡ old) × (refused ≡ None)
SettlesInputs old new refused (Err halt.Budget) (Err halt.Budget) when why = (new ≡ old) × (refused ≡ Some why)
SettlesInputs old new refused made result when why = ⊥
