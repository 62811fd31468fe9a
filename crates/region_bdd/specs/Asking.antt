-- What is answered of a diagram that is made to be asked for and given back.
use Rattle.std.specs.Prelude.{◌≡◌, ◌↔◌, Bool, Option, Some, None, Result, Ok, Err, IfOk, IsTrue}
use Rattle.regions.specs.declared.types.Halt.{Halt}
use Rattle.regions.specs.declared.types.Halt.TheVariants as halt
use Rattle.bdd_store.specs.State.{SameRoots, IsFull}
use Rattle.bdd_bits.specs.Contents.{Contents}
use Rattle.bdd_bits.specs.Calls.{KeepsRoots}
use Rattle.region_bdd.specs.declared.own.Refused.{Refused}

-- the answer is whether the fact holds; what is kept stays, and a refusal is the one that came before
pub record Answers (old new : Contents) (result : Result Bool Halt) (fact : Type 0) : Type 0 where
  pub answer : IfOk result (λ said. IsTrue said ↔ fact)
  pub roots : SameRoots old.state new.state
  pub keeps : KeepsRoots old new
  pub full : result ≡ Err halt.Budget → IsFull new.state

-- the answer is handed on, and want of budget is told
abbrev pub SettlesAnswer : Option Refused → Result Bool Halt → Result Bool Halt → Refused → Type 0
SettlesAnswer refused (Ok said) result why = (result ≡ Ok said) × (refused ≡ None)
SettlesAnswer refused (Err halt.Memory) result why = (result ≡ Err halt.Memory) × (refused ≡ None)
SettlesAnswer refused (Err halt.Budget) result why = (result ≡ Err halt.Budget) × (refused ≡ Some why)
