-- A compiled formula is the formula's value, wherever its variables and entries are had.
use Rattle.std.proofs.Common.{◌≡◌, ℕ, ℤ, pos, Bool, true, false, not, ◌&&◌, ◌||◌, if◌then◌else◌, map, Option, Some, None, is_some, option_map, slice_get, refl, sym, ◌∙◌, ap, subst}
use Rattle.std.specs.Int.{int_rem_euclid}
use Rattle.std.specs.List.{list_any, list_all}
use Rattle.std.specs.Bool.{beq}
use Rattle.std.proofs.lemmas.Bool.{and_parts, false≢true}
use Rattle.spec_model.specs.declared.value.Value.{Value}
use Rattle.spec_model.specs.declared.value.Value.TheVariants as value
use Rattle.spec_model.specs.declared.expr.Compare.{Compare}
use Rattle.spec_model.specs.Values.{DomainData, TruthValues, WholeNumbers, Enumeration, same_value, truth_of, number_of}
use Rattle.spec_model.specs.Syntax.{Formula, Constant, Variable, NextOf, Negation, Conjunction, Disjunction, Implication, Equivalence, Comparison, Sum, Difference, Product, Remainder, PastOf, Entry, Formulas}
use Rattle.spec_model.specs.Meaning.{Reading, value_at, truths_at, compare_values}
use Rattle.spec_model.specs.Typing.{Kind, Truth, Whole, NameOf, OneName, Scope, kind_of, kind_of_domain, are_truths, is_truth, truth_if, compared, summed, subtracted, multiplied, reduced}
use Rattle.spec_model.specs.Games.{GameData}
use Rattle.spec_model.specs.WellMade.{is_domain, is_stepwise, are_stepwise}
use Rattle.spec_model.specs.Diagrams.{Bits, Function}
use Rattle.game_values.specs.declared.seen.At.{At}
use Rattle.game_values.specs.declared.seen.At.TheVariants.{Now, Next}
use Rattle.game_values.specs.Times.{time_of}
use Rattle.game_values.proofs.Safe.{IsTyped, within}
use Rattle.bit_compile.specs.declared.operation.Operation.TheVariants.{Add, Sub, Mul, Mod}
use Rattle.bit_compile.specs.Domains.{state_domains}
use Rattle.bit_compile.specs.Compiled.{Entries, place_of, variable_domain, coded, only, both_truths, entry_of, truth_in, truths_in, cases_in, values_in, some_pair, combined, all_of, some_of}
use Rattle.bit_compile.proofs.Describing.{Describes, describes_truth, describes_only, describes_result, some_pair-is}
use Rattle.bit_compile.proofs.Intervals.{interval, domain_there, sum_among, difference_among, product_among, remainder_among, positive}

-- ---- from a formula's kind to those of its parts

pub truth_holds : (b : Bool) → is_some (truth_if b) ≡ true → b ≡ true
truth_holds true e = refl
truth_holds false e = e

pub some_truth : (p : Option Kind) → is_truth p ≡ true → is_some p ≡ true
some_truth (Some Truth) e = refl
some_truth (Some (Whole a b)) e = refl
some_truth (Some (NameOf ns)) e = refl
some_truth (Some (OneName n)) e = refl
some_truth None e = e

pub both_compared : (c : Compare) (p q : Option Kind) → is_some (compared c p q) ≡ true → (is_some p ≡ true) × (is_some q ≡ true)
both_compared c (Some a) (Some b) e = (refl, refl)
both_compared c (Some a) None e = absurd (false≢true e)
both_compared c None q e = absurd (false≢true e)

pub both_summed : (p q : Option Kind) → is_some (summed p q) ≡ true → (is_some p ≡ true) × (is_some q ≡ true)
both_summed (Some (Whole a b)) (Some (Whole c d)) e = (refl, refl)
both_summed _ _ e = absurd (false≢true e)

pub both_subtracted : (p q : Option Kind) → is_some (subtracted p q) ≡ true → (is_some p ≡ true) × (is_some q ≡ true)
both_subtracted (Some (Whole a b)) (Some (Whole c d)) e = (refl, refl)
both_subtracted _ _ e = absurd (false≢true e)

pub both_multiplied : (p q : Option Kind) → is_some (multiplied p q) ≡ true → (is_some p ≡ true) × (is_some q ≡ true)
both_multiplied (Some (Whole a b)) (Some (Whole c d)) e = (refl, refl)
both_multiplied _ _ e = absurd (false≢true e)

pub one_reduced : (p : Option Kind) (n : ℤ) → is_some (reduced p n) ≡ true → is_some p ≡ true
one_reduced (Some (Whole a b)) n e = refl
one_reduced _ n e = absurd (false≢true e)

-- ---- what a formula reads

abbrev pub under : At → Bool
under Now = false
under Next = true

-- the fact holds of each variable that the formula reads, of its present value or of its next one
module _ (V : At → ℕ → Type 0) where
  abbrev mutual
    pub Reads : At → Formula → Type 0
    Reads at (Constant v) = Unit {0}
    Reads at (Variable k) = V at k
    Reads at (NextOf e) = Reads Next e
    Reads at (Negation e) = Reads at e
    Reads at (Conjunction es) = ReadsEach at es
    Reads at (Disjunction es) = ReadsEach at es
    Reads at (Implication a b) = Reads at a × Reads at b
    Reads at (Equivalence a b) = Reads at a × Reads at b
    Reads at (Comparison c a b) = Reads at a × Reads at b
    Reads at (Sum a b) = Reads at a × Reads at b
    Reads at (Difference a b) = Reads at a × Reads at b
    Reads at (Product a b) = Reads at a × Reads at b
    Reads at (Remainder a n) = Reads at a
    Reads at (PastOf op es) = Unit {0}
    Reads at (Entry h n) = Unit {0}

    pub ReadsEach : At → Formulas → Type 0
    ReadsEach at Formulas.none = Unit {0}
    ReadsEach at (Formulas.one_more e es) = Reads at e × ReadsEach at es

-- ---- truth values

-- the second case of a truth value is had where the value is true
truth_of_case : (w : Value) → (same_value (value.Bool false) w || (same_value (value.Bool true) w || false)) ≡ true → same_value (value.Bool true) w ≡ truth_of w
truth_of_case (value.Bool true) among = refl
truth_of_case (value.Bool false) among = refl
truth_of_case (value.Int z) among = absurd (false≢true among)
truth_of_case (value.Name n) among = absurd (false≢true among)

pub same_truths : (f g : Function) (a b : Bool) (s : Bits) → f s ≡ a → g s ≡ b → some_pair same_value (both_truths f) (both_truths g) s ≡ beq a b
same_truths f g a b s ef eg = some_pair-is same_value (both_truths f) (both_truths g) (value.Bool a) (value.Bool b) s (describes_truth f a s ef) (describes_truth g b s eg)

module _ (g : GameData) (entries : Entries) (sc : Scope) (domains : sc.domains ≡ map (λ v. v.domain) g.variables) (made : list_all is_domain sc.domains ≡ true) (r : Reading) (typed : IsTyped sc r) (s : Bits) where
  -- the slot of the variable has the code of its value
  abbrev pub IsHad : At → ℕ → Type 0
  IsHad at k = Describes (coded (state_domains g) at (place_of g k) (variable_domain g k)) (r.variable k (time_of at)) s

  pub record Means (at : At) (e : Formula) : Type 0 where
    pub cases : Describes (cases_in g entries at e) (value_at r e (time_of at)) s
    pub truth : is_truth (kind_of sc e) ≡ true → truth_in g entries at e s ≡ truth_of (value_at r e (time_of at))

  means_variable : (at : At) (k : ℕ) → IsHad at k → Means at (Variable k)
  means_variable at k had = record { cases = had; truth = λ e. there (slice_get sc.domains k) refl e }
    where
      of_domain : (d : DomainData) → variable_domain g k ≡ d → is_truth (Some (kind_of_domain d)) ≡ true → truth_in g entries at (Variable k) s ≡ truth_of (r.variable k (time_of at))
      of_domain TruthValues is e =
          let two = subst (λ (d : DomainData). Describes (coded (state_domains g) at (place_of g k) d) (r.variable k (time_of at)) s) is had in
          two.exact.1.0 ∙ truth_of_case (r.variable k (time_of at)) two.among
      of_domain (WholeNumbers lo hi) is e = absurd (false≢true e)
      of_domain (Enumeration names) is e = absurd (false≢true e)

      there : (o : Option DomainData) → slice_get sc.domains k ≡ o → is_truth (option_map kind_of_domain o) ≡ true → truth_in g entries at (Variable k) s ≡ truth_of (r.variable k (time_of at))
      there None is e = absurd (false≢true e)
      there (Some d) is e = of_domain d (domain_there g sc domains made k d is) e

  means_remainder : (a : Formula) (n : ℤ) (at : At) → is_some (kind_of sc (Remainder a n)) ≡ true → Describes (cases_in g entries at a) (value_at r a (time_of at)) s → Means at (Remainder a n)
  means_remainder a n at k is_a =
      let x : ℤ = number_of (value_at r a (time_of at)) in
      let gives : combined Mod x n ≡ int_rem_euclid x n = ap (λ (t : Bool). if t then int_rem_euclid x n else pos 0) (positive (kind_of sc a) n k) in
      let among = remainder_among (kind_of sc a) n (values_in g (Remainder a n)) _ k (interval g sc domains made (Remainder a n)) (within sc r typed (Remainder a n) (time_of at)) in
      let among_given = subst (λ (z : ℤ). list_any (same_value (value.Int z)) (values_in g (Remainder a n)) ≡ true) (sym gives) among in
      let described = describes_result Mod (cases_in g entries at a) (only (value.Int n)) (value_at r a (time_of at)) (value.Int n) s is_a (describes_only (value.Int n) s) (values_in g (Remainder a n)) among_given in
      record { cases = subst (λ (z : ℤ). Describes (cases_in g entries at (Remainder a n)) (value.Int z) s) gives described; truth = λ e. refl }

  module _ (entry : (h n : ℕ) → entry_of entries h n s ≡ r.entry h n 0) where
    mutual
      pub means : (e : Formula) (at : At) → is_some (kind_of sc e) ≡ true → is_stepwise (under at) e ≡ true → Reads IsHad at e → Means at e
      means (Constant v) at k w reads = record { cases = describes_only v s; truth = λ e. refl }
      means (Variable n) at k w reads = means_variable at n reads
      means (NextOf e) Now k w reads = let rest = means e Next k w reads in record { cases = rest.cases; truth = rest.truth }
      means (NextOf e) Next k w reads = absurd (false≢true w)
      means (Negation e) at k w reads =
          let t = truth_holds _ k in
          let rest = (means e at (some_truth (kind_of sc e) t) w reads).truth t in
          let is = ap not rest in
          record { cases = describes_truth _ _ s is; truth = λ e. is }
      means (Conjunction es) at k w reads = let is = all_mean es at (truth_holds (are_truths sc es) k) w reads in record { cases = describes_truth _ _ s is; truth = λ e. is }
      means (Disjunction es) at k w reads = let is = some_mean es at (truth_holds (are_truths sc es) k) w reads in record { cases = describes_truth _ _ s is; truth = λ e. is }
      means (Implication a b) at k w reads =
          let ks = and_parts (is_truth (kind_of sc a)) (is_truth (kind_of sc b)) (truth_holds (is_truth (kind_of sc a) && is_truth (kind_of sc b)) k) in
          let ws = and_parts (is_stepwise (under at) a) (is_stepwise (under at) b) w in
          let left = (means a at (some_truth (kind_of sc a) ks.0) ws.0 reads.0).truth ks.0 in
          let right = (means b at (some_truth (kind_of sc b) ks.1) ws.1 reads.1).truth ks.1 in
          let is = ap (λ (x : Bool). not x || truth_in g entries at b s) left ∙ ap (λ (y : Bool). not (truth_of (value_at r a (time_of at))) || y) right in
          record { cases = describes_truth _ _ s is; truth = λ e. is }
      means (Equivalence a b) at k w reads =
          let ks = and_parts (is_truth (kind_of sc a)) (is_truth (kind_of sc b)) (truth_holds (is_truth (kind_of sc a) && is_truth (kind_of sc b)) k) in
          let ws = and_parts (is_stepwise (under at) a) (is_stepwise (under at) b) w in
          let left = (means a at (some_truth (kind_of sc a) ks.0) ws.0 reads.0).truth ks.0 in
          let right = (means b at (some_truth (kind_of sc b) ks.1) ws.1 reads.1).truth ks.1 in
          let is = ap (λ (x : Bool). beq x (truth_in g entries at b s)) left ∙ ap (λ (y : Bool). beq (truth_of (value_at r a (time_of at))) y) right in
          record { cases = describes_truth _ _ s is; truth = λ e. is }
      means (Comparison c a b) at k w reads =
          let ks = both_compared c (kind_of sc a) (kind_of sc b) k in
          let ws = and_parts (is_stepwise (under at) a) (is_stepwise (under at) b) w in
          let is = some_pair-is (compare_values c) _ _ _ _ s (means a at ks.0 ws.0 reads.0).cases (means b at ks.1 ws.1 reads.1).cases in
          record { cases = describes_truth _ _ s is; truth = λ e. is }
      means (Sum a b) at k w reads =
          let ks = both_summed (kind_of sc a) (kind_of sc b) k in
          let ws = and_parts (is_stepwise (under at) a) (is_stepwise (under at) b) w in
          let among = sum_among (kind_of sc a) (kind_of sc b) (values_in g (Sum a b)) _ k (interval g sc domains made (Sum a b)) (within sc r typed (Sum a b) (time_of at)) in
          record { cases = describes_result Add _ _ _ _ s (means a at ks.0 ws.0 reads.0).cases (means b at ks.1 ws.1 reads.1).cases (values_in g (Sum a b)) among; truth = λ e. refl }
      means (Difference a b) at k w reads =
          let ks = both_subtracted (kind_of sc a) (kind_of sc b) k in
          let ws = and_parts (is_stepwise (under at) a) (is_stepwise (under at) b) w in
          let among = difference_among (kind_of sc a) (kind_of sc b) (values_in g (Difference a b)) _ k (interval g sc domains made (Difference a b)) (within sc r typed (Difference a b) (time_of at)) in
          record { cases = describes_result Sub _ _ _ _ s (means a at ks.0 ws.0 reads.0).cases (means b at ks.1 ws.1 reads.1).cases (values_in g (Difference a b)) among; truth = λ e. refl }
      means (Product a b) at k w reads =
          let ks = both_multiplied (kind_of sc a) (kind_of sc b) k in
          let ws = and_parts (is_stepwise (under at) a) (is_stepwise (under at) b) w in
          let among = product_among (kind_of sc a) (kind_of sc b) (values_in g (Product a b)) _ k (interval g sc domains made (Product a b)) (within sc r typed (Product a b) (time_of at)) in
          record { cases = describes_result Mul _ _ _ _ s (means a at ks.0 ws.0 reads.0).cases (means b at ks.1 ws.1 reads.1).cases (values_in g (Product a b)) among; truth = λ e. refl }
      means (Remainder a n) at k w reads = means_remainder a n at k (means a at (one_reduced (kind_of sc a) n k) w reads).cases
      means (PastOf op es) at k w reads = absurd (false≢true w)
      means (Entry h n) Now k w reads = let is = entry h n in record { cases = describes_truth _ _ s is; truth = λ e. is }
      means (Entry h n) Next k w reads = absurd (false≢true w)

      all_mean : (es : Formulas) (at : At) → are_truths sc es ≡ true → are_stepwise (under at) es ≡ true → ReadsEach IsHad at es → all_of (truths_in g entries at es) s ≡ list_all (λ a. a (time_of at)) (truths_at r es)
      all_mean Formulas.none at k w reads = refl
      all_mean (Formulas.one_more e es) at k w reads =
          let ks = and_parts (is_truth (kind_of sc e)) (are_truths sc es) k in
          let ws = and_parts (is_stepwise (under at) e) (are_stepwise (under at) es) w in
          let first = (means e at (some_truth (kind_of sc e) ks.0) ws.0 reads.0).truth ks.0 in
          let rest = all_mean es at ks.1 ws.1 reads.1 in
          ap (λ (x : Bool). x && all_of (truths_in g entries at es) s) first ∙ ap (λ (y : Bool). truth_of (value_at r e (time_of at)) && y) rest

      some_mean : (es : Formulas) (at : At) → are_truths sc es ≡ true → are_stepwise (under at) es ≡ true → ReadsEach IsHad at es → some_of (truths_in g entries at es) s ≡ list_any (λ a. a (time_of at)) (truths_at r es)
      some_mean Formulas.none at k w reads = refl
      some_mean (Formulas.one_more e es) at k w reads =
          let ks = and_parts (is_truth (kind_of sc e)) (are_truths sc es) k in
          let ws = and_parts (is_stepwise (under at) e) (are_stepwise (under at) es) w in
          let first = (means e at (some_truth (kind_of sc e) ks.0) ws.0 reads.0).truth ks.0 in
          let rest = some_mean es at ks.1 ws.1 reads.1 in
          ap (λ (x : Bool). x || some_of (truths_in g entries at es) s) first ∙ ap (λ (y : Bool). truth_of (value_at r e (time_of at)) || y) rest
