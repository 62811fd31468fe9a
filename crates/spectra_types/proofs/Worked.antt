-- The worked example.
use Rattle.std.proofs.Common.{◌≡◌, ℕ, suc, Bool, true, false, ◌&&◌, List, [], ◌∷◌, refl, ap, ◌∙◌}
use Rattle.spec_model.specs.declared.value.Value.TheVariants as value
use Rattle.spec_model.specs.Values.{truth_of}
use Rattle.spectra_resolved.specs.declared.tree.Leaf.TheVariants as leaf
use Rattle.spectra_types.specs.Senses.{Sense, sense}
use Rattle.spectra_types.specs.Worked.{part, worked_define, worked_predicate}
use Rattle.spectra_types.specs.Laws.{UseIsWorked}

and_true : (a b : Bool) → (a && (b && true)) ≡ (a && b)
and_true a true = refl
and_true a false = refl

pub use_is_worked : UseIsWorked
use_is_worked o r s are =
    let arguments : List Sense = (λ p. sense s (part o (leaf.Define 0)) p) ∷ [] in
    let outer = λ (p : ℕ). are.definitions 1 (worked_predicate o) refl arguments p in
    let inner = λ (p : ℕ). are.definitions 0 (worked_define o) refl [] p in
    let now : (p : ℕ) → truth_of (s.variable 0 p) ≡ truth_of (r.variable 0 p) = λ p i. truth_of (are.variables i 0 p) in
    record {
      first = outer 0 ∙ (λ i. value.Bool (truth_of (inner 0 i) && (truth_of (inner 1 i) && true)));
      later = λ q.
          outer (suc q) ∙ ((λ i. value.Bool (truth_of (inner (suc q) i) && (truth_of (inner (suc (suc q)) i) && true)))
          ∙ (ap (λ b. value.Bool b) (and_true _ _) ∙ (λ i. value.Bool (now q i && now (suc q) i))));
    }
