-- What making a diagram in several operations gives and leaves, and when a budget ends it.
use Rattle.std.specs.Prelude.{◌≡◌, ℕ, Bool, true, false, not, ◌&&◌, Result, Ok, Err, IfOk, OnErr}
use Rattle.spec_model.specs.Diagrams.{Diagram, Function}
use Rattle.bdd_store.specs.declared.fault.StoreFault.{StoreFault}
use Rattle.bdd_store.specs.declared.fault.StoreFault.TheVariants as fault
use Rattle.bdd_store.specs.State.{AddsRoot, SameRoots, IsFull}
use Rattle.bdd_bits.specs.Contents.{Contents, function_at}
use Rattle.bdd_ops.specs.Calls.{IsCrowded}
use Rattle.bdd_bits.specs.Calls.{KeepsRoots}
use Rattle.regions.specs.declared.types.Halt.{Halt}
use Rattle.regions.specs.declared.types.Halt.TheVariants as halt
pub use Rattle.bit_compile.specs.Codes.{digit}

-- a store's refusal as a halt
abbrev pub halted : Result ℕ StoreFault → Result ℕ Halt
halted (Ok r) = Ok r
halted (Err fault.Full) = Err halt.Budget
halted (Err fault.Memory) = Err halt.Memory

-- the result is a root of this function, or a refusal that leaves what is kept; `Budget` comes only where the store holds
-- exactly its budget of nodes
pub record Makes (old new : Contents) (result : Result ℕ Halt) (f : Function) : Type 0 where
  pub meaning : IfOk result (λ r. function_at new r ≡ f)
  pub added : IfOk result (λ r. AddsRoot old.state new.state r)
  pub refused : OnErr result (SameRoots old.state new.state)
  pub keeps : KeepsRoots old new
  pub full : result ≡ Err halt.Budget → IsFull new.state

-- one operation; `Budget` comes only where the store needs each of its nodes
pub record MakesOnce (old new : Contents) (result : Result ℕ Halt) (f : Function) (MayMake : Diagram → Type 0) : Type 0 where
  pub makes : Makes old new result f
  pub cause : result ≡ Err halt.Budget → IsCrowded new.state MayMake

-- the level's bit is this one, and the function is true
abbrev pub with_digit : ℕ → Bool → Function → Function
with_digit level true f s = s level && f s
with_digit level false f s = not (s level) && f s
