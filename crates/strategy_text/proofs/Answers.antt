-- Which answers are right.
use Rattle.std.proofs.Common.{◌≡◌, Option, Some, None, Ok, Err, ok_or, refl}
use Rattle.strategy_text.specs.declared.fault.ReadRefusal.{ReadRefusal}
use Rattle.strategy_text.specs.declared.fault.ReadRefusal.TheVariants.{Shape, Memory}
use Rattle.strategy_text.specs.Views.{IsRead}

-- all that there is
pub gives : {T X : Type 0} {seen : T → X} {all : Option X} {x : T} → all ≡ Some (seen x) → IsRead seen all (Ok x)
gives is = record { ok = is; shape = tt }

-- nothing, where there is nothing
pub refuses : {T X : Type 0} {seen : T → X} {all : Option X} → all ≡ None → IsRead seen all (Err Shape)
refuses none = record { ok = tt; shape = λ shape. none }

-- want of memory
pub wants : {T X : Type 0} {seen : T → X} {all : Option X} → IsRead seen all (Err Memory)
wants = record { ok = tt; shape = λ shape. absurd cc }

-- where a step has nothing to read, neither has the whole
pub fails : {T U X Y : Type 0} {seen : T → X} {what : Option X} {e : ReadRefusal} {seen' : U → Y} {all : Option Y} → IsRead seen what (Err e) → (what ≡ None → all ≡ None) → IsRead seen' all (Err e)
fails is then = record { ok = tt; shape = λ shape. then (is.shape shape) }

-- what is there or not
pub some_or_shape : {X : Type 0} (o : Option X) → IsRead (λ x. x) o (ok_or o Shape)
some_or_shape None = record { ok = tt; shape = λ shape. refl }
some_or_shape (Some x) = record { ok = refl; shape = tt }
