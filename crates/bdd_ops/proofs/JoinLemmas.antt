-- `and`, `or` and `not` as choices.
use Rattle.std.proofs.Common.{◌≡◌, ℕ, ◌∙◌, ap, subst, refl, Bool, true, false, not, ◌&&◌, ◌||◌, if◌then◌else◌, Result, Ok, Err, IfOk}
use Rattle.spec_model.specs.Diagrams.{Diagram, constant, Function, value, ite, IsPartOf}
use Rattle.bdd_store.specs.declared.edge.Edge.{Edge}
use Rattle.bdd_store.specs.declared.fault.StoreFault.{StoreFault}
use Rattle.bdd_ops.specs.Functions.{joined, join_of, split}
use Rattle.bdd_ops.specs.Contents.{Contents}
use Rattle.bdd_ops.specs.Steps.{IsChoice, IsChoiceOfParts, HasFunction, IsSplit}
use Rattle.bdd_ops.specs.Calls.{IsNegatedPart, negated}

if_and : (a b : Bool) → (if a then b else false) ≡ (a && b)
if_and true b = refl
if_and false b = refl

if_or : (a b : Bool) → (if a then true else b) ≡ (a || b)
if_or true b = refl
if_or false b = refl

pub ite-and : (f g h : Function) → h ≡ value (constant false) → ite f g h ≡ joined (join_of true) f g
ite-and f g h never = rw never (λ i s. if_and (f s) (g s) i)

pub ite-or : (f g h : Function) → g ≡ value (constant true) → ite f g h ≡ joined (join_of false) f h
ite-or f g h always = rw always (λ i s. if_or (f s) (h s) i)

if_not : (a : Bool) → (if a then false else true) ≡ not a
if_not true = refl
if_not false = refl

pub ite-not : (f g h : Function) → g ≡ value (constant false) → h ≡ value (constant true) → ite f g h ≡ negated f
ite-not f g h never always = rw (never, always) (λ i s. if_not (f s) i)

-- a choice between false and true is a negation
pub negated_parts : (a b c d : Diagram) → b ≡ constant false → c ≡ constant true → IsChoiceOfParts a b c d → IsNegatedPart a d
negated_parts a b c d never always made =
    let low : IsPartOf made.y (constant false) = subst (λ (x : Diagram). IsPartOf made.y x) never made.y_part in
    let high : IsPartOf made.z (constant true) = subst (λ (x : Diagram). IsPartOf made.z x) always made.z_part in
    record {
      x = made.x;
      x_part = made.x_part;
      is_negated = made.is_choice ∙ ite-not (value made.x) (value made.y) (value made.z) (ap value low) (ap value high);
    }

-- a choice has the function that it is equal to
pub has_function : (new : Contents) (f g h k : Function) (r : Result Edge StoreFault) → ite f g h ≡ k → IfOk r (λ e. IsChoice new f g h e.0) → IfOk r (λ e. HasFunction new k e.0)
has_function new f g h k (Ok e) same choice = record { live = choice.live; function = choice.function ∙ same }
has_function new f g h k (Err fault) same choice = tt

if_bit : (b : Bool) → (if b then true else false) ≡ b
if_bit true = refl
if_bit false = refl

-- false where the level's bit is false, and true where it is true: the bit itself
pub split-bit : (level : ℕ) (f g : Function) → f ≡ value (constant false) → g ≡ value (constant true) → split level f g ≡ (λ s. s level)
split-bit level f g never always = rw (never, always) (λ i s. if_bit (s level) i)

-- what is split so has the bit
pub bit_given : (new : Contents) (level : ℕ) (f g : Function) (r : Result Edge StoreFault) → f ≡ value (constant false) → g ≡ value (constant true) → IfOk r (λ e. IsSplit new level f g e.0) → IfOk r (λ e. HasFunction new (λ s. s level) e.0)
bit_given new level f g (Ok e) never always is = record { live = is.live; function = is.function ∙ split-bit level f g never always }
bit_given new level f g (Err fault) never always is = tt
