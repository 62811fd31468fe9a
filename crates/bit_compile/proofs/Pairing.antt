-- Pairs of cases, of which some were made on the way and are given back.
use Rattle.std.proofs.Common.{◌≡◌, ℕ, ◌+◌, Bool, true, false, not, ◌&&◌, ◌||◌, Result, IfOk, List, [], ◌∷◌, map, refl, sym, ◌∙◌, ap, subst}
use Rattle.spec_model.specs.declared.value.Value.{Value}
use Rattle.std.specs.Bool.{beq}
use Rattle.spec_model.specs.Values.{same_value}
use Rattle.spec_model.specs.Diagrams.{Function}
use Rattle.bdd_store.specs.State.{IsRoot, roots_at}
use Rattle.bdd_bits.specs.Contents.{Contents}
use Rattle.bdd_bits.specs.Calls.{KeepsRoots, SameNodes}
use Rattle.regions.specs.declared.types.Halt.{Halt}
use Rattle.bit_compile.specs.declared.cases.CaseRoot.{CaseRoot}
use Rattle.bit_compile.specs.Making.{Makes}
use Rattle.bit_compile.specs.Compiled.{Case, both_truths, same_truth, some_pair}
use Rattle.bit_compile.specs.CaseRoots.{cases_at, roots_in, AreKept, HasTogether, AddsCases, Leaves}
use Rattle.bit_compile.proofs.Between.{between_cases, cases_kept, cases_through, leaves_between, root_before, still_kept, through_cases, together, together_after, together_left}

-- the values of cases, by their roots
pub values_at : (c : Contents) (xs : List CaseRoot) → map (λ (d : Case). d.value) (cases_at c xs) ≡ map (λ (x : CaseRoot). x.value) xs
values_at c [] = refl
values_at c (x ∷ xs) = ap (λ (vs : List Value). x.value ∷ vs) (values_at c xs)

-- the cases that were made are read as `seen`
module _ (old mid : Contents) (made seen : List CaseRoot) (cs : List Case) (adds : AddsCases old mid made cs) (keeps : KeepsRoots old mid) (same : seen ≡ made) where
  pub seen_kept : AreKept mid.state seen
  seen_kept = subst (λ (xs : List CaseRoot). AreKept mid.state xs) (sym same) (cases_kept old mid made cs adds)

  pub seen_are : cases_at mid seen ≡ cs
  seen_are = ap (cases_at mid) same ∙ adds.are

  pub seen_values : (bs : List Value) → map (λ (d : Case). d.value) cs ≡ bs → map (λ (x : CaseRoot). x.value) seen ≡ bs
  seen_values bs is = sym (values_at mid seen) ∙ (ap (map (λ (d : Case). d.value)) seen_are ∙ is)

  pub made_together : (whole : Contents) (r : Result ℕ Halt) (f : Function) → Makes mid whole r f → HasTogether whole.state made
  made_together whole r f makes = together_after mid whole made r f (together old mid made cs adds) makes

  pub made_left : {V : Type 0} (items : V → List CaseRoot) (whole : Contents) (r : Result V Halt) (ds : List Case) → IfOk r (λ v. AddsCases mid whole (items v) ds) → Leaves mid whole r → HasTogether whole.state made
  made_left items whole r ds more leaves = together_left items mid whole made r ds (together old mid made cs adds) more leaves

  pub others_kept : (xs : List CaseRoot) → AreKept old.state xs → AreKept mid.state xs
  others_kept xs kept = still_kept old.state mid.state xs (root_before old mid made cs adds) kept

  pub other_kept : (n : ℕ) → IsRoot old.state n → IsRoot mid.state n
  other_kept n root = root_before old mid made cs adds n root

  module _ (whole new : Contents) (back : (n : ℕ) → roots_at whole.state n ≡ roots_at new.state n + roots_in made n) (nodes : SameNodes whole new) where
    -- a function of what was made, once that is given back
    pub made_through : (r : Result ℕ Halt) (f g : Function) → Makes mid whole r g → g ≡ f → Makes old new r f
    made_through r f g makes is = through_cases old mid whole new made cs r f g adds keeps makes is back nodes

    pub made_leaves : {V : Type 0} (r : Result V Halt) → Leaves mid whole r → Leaves old new r
    made_leaves r leaves = leaves_between old mid whole new (roots_in made) (between_cases old mid made cs adds keeps) back nodes r leaves

    pub cases_with : {V : Type 0} (items : V → List CaseRoot) (r : Result V Halt) (ds es : List Case) → IfOk r (λ v. AddsCases mid whole (items v) ds) → ds ≡ es → IfOk r (λ v. AddsCases old new (items v) es)
    cases_with items r ds es more is = cases_through items old mid whole new (roots_in made) r es ds (between_cases old mid made cs adds keeps) more is back nodes

-- ---- truth values

-- the pairs of equal truth values are where the two functions agree
pub both_same : (f g : Function) → some_pair same_value (both_truths f) (both_truths g) ≡ same_truth f g
both_same f g = λ i s. at (f s) (g s) i
  where
    at : (a b : Bool) → ((not a && not b || (false || false)) || ((false || (a && b || false)) || false)) ≡ beq a b
    at true true = refl
    at true false = refl
    at false true = refl
    at false false = refl
