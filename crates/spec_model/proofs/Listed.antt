-- The listed assignments are assignments, and what holds of each listed move decides the tests over all of them.
use Rattle.std.proofs.Common.{◌≡◌, Bool, true, false, not, ◌&&◌, ◌||◌, List, [], ◌∷◌, ◌++◌, flat_map, map, refl, ◌∙◌, ap, arith, ℤ}
use Rattle.std.proofs.lemmas.Bool.{and_from}
use Rattle.std.proofs.lemmas.Bool.Decides.{Decides-int_eq}
use Rattle.std.specs.List.{list_any, list_all}
use Rattle.std.specs.Ordering.{int_eq}
use borrow.Author.Tests.{eq-eqb}
use Rattle.spec_model.specs.declared.value.Value.{Value}
use Rattle.spec_model.specs.declared.value.Value.TheVariants as value
use Rattle.spec_model.specs.Values.{DomainData, same_value, values_of, is_assignment, assignments_of}
use Rattle.spec_model.specs.Moves.{is_env, domains_of}
use Rattle.spec_model.specs.Games.{GameData, inputs_of, outputs_of}
use Rattle.spec_model.specs.Steps.{is_input, is_output}
use Rattle.spec_model.proofs.AllStates.{Every}

pub every_join : {X : Type 0} (P : X → Type 0) (xs ys : List X) → Every P xs → Every P ys → Every P (xs ++ ys)
every_join P [] ys all more = more
every_join P (x ∷ xs) ys all more = (all.0, every_join P xs ys all.1 more)

pub every_mapped : {X Y : Type 0} (P : Y → Type 0) (f : X → Y) (xs : List X) → Every (λ x. P (f x)) xs → Every P (map f xs)
every_mapped P f [] all = tt
every_mapped P f (x ∷ xs) all = (all.0, every_mapped P f xs all.1)

pub every_flat : {X Y : Type 0} (P : Y → Type 0) (f : X → List Y) (xs : List X) → Every (λ x. Every P (f x)) xs → Every P (flat_map f xs)
every_flat P f [] all = tt
every_flat P f (x ∷ xs) all = every_join P (f x) (flat_map f xs) all.0 (every_flat P f xs all.1)

pub every_weaker : {X : Type 0} (P Q : X → Type 0) → ((x : X) → P x → Q x) → (xs : List X) → Every P xs → Every Q xs
every_weaker P Q weaker [] all = tt
every_weaker P Q weaker (x ∷ xs) all = (weaker x all.0, every_weaker P Q weaker xs all.1)

pub same_value-refl : (v : Value) → same_value v v ≡ true
same_value-refl (value.Bool true) = refl
same_value-refl (value.Bool false) = refl
same_value-refl (value.Int a) = int_eq-refl a
  where
    int_eq-refl : (a : ℤ) → int_eq a a ≡ true
    int_eq-refl a = let d = Decides-int_eq a a in grind arith
same_value-refl (value.Name a) = eq-eqb a a refl

pub from_right : (a : Bool) {b : Bool} → b ≡ true → (a || b) ≡ true
from_right true e = refl
from_right false e = e

-- each element is among them
pub each_among : {X : Type 0} (same : X → X → Bool) → ((x : X) → same x x ≡ true) → (xs : List X) → Every (λ x. list_any (same x) xs ≡ true) xs
each_among same itself [] = tt
each_among same itself (x ∷ xs) =
    (ap (λ b. b || list_any (same x) xs) (itself x), every_weaker _ _ (λ y e. from_right (same y x) e) xs (each_among same itself xs))

pub assignments_fit : (ds : List DomainData) → Every (λ vs. is_assignment ds vs ≡ true) (assignments_of ds)
assignments_fit [] = (refl, tt)
assignments_fit (d ∷ ds) =
    every_flat _ (λ v. map (λ vs. v ∷ vs) (assignments_of ds)) (values_of d)
    (every_weaker _ _ (λ v e. every_mapped _ (λ vs. v ∷ vs) (assignments_of ds) (every_weaker _ _ (λ vs f. and_from _ _ e f) (assignments_of ds) (assignments_fit ds))) (values_of d)
    (each_among same_value same_value-refl (values_of d)))

pub inputs_fit : (g : GameData) → Every (λ x. is_input g x ≡ true) (inputs_of g)
inputs_fit g = assignments_fit (domains_of is_env g.variables)

pub outputs_fit : (g : GameData) → Every (λ y. is_output g y ≡ true) (outputs_of g)
outputs_fit g = assignments_fit (domains_of (λ o. not (is_env o)) g.variables)

-- tests that agree on each element agree on all of them, and on some
pub list_all-same : {X : Type 0} (p q : X → Bool) (xs : List X) → Every (λ x. p x ≡ q x) xs → list_all p xs ≡ list_all q xs
list_all-same p q [] all = refl
list_all-same p q (x ∷ xs) all = ap (λ b. b && list_all p xs) all.0 ∙ ap (λ b. q x && b) (list_all-same p q xs all.1)

pub list_any-same : {X : Type 0} (p q : X → Bool) (xs : List X) → Every (λ x. p x ≡ q x) xs → list_any p xs ≡ list_any q xs
list_any-same p q [] all = refl
list_any-same p q (x ∷ xs) all = ap (λ b. b || list_any p xs) all.0 ∙ ap (λ b. q x || b) (list_any-same p q xs all.1)
