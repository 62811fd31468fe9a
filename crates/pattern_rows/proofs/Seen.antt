-- A formula that reads no next value has one value in two readings that agree at present, where it reads what they agree on.
use Rattle.std.proofs.Common.{◌≡◌, ℕ, Bool, true, false, not, ◌&&◌, ◌||◌, refl, sym, ap}
use Rattle.std.specs.Prelude.{◌+ℤ◌, ◌-ℤ◌, ◌*ℤ◌}
use Rattle.std.specs.List.{list_any, list_all}
use Rattle.std.specs.Int.{int_rem_euclid}
use Rattle.std.specs.Bool.{beq}
use Rattle.std.proofs.lemmas.Bool.{and_parts, false≢true}
use Rattle.spec_model.specs.declared.value.Value.TheVariants as value
use Rattle.spec_model.specs.Values.{truth_of, number_of}
use Rattle.spec_model.specs.Syntax.{Formula, Constant, Variable, NextOf, Negation, Conjunction, Disjunction, Implication, Equivalence, Comparison, Sum, Difference, Product, Remainder, PastOf, Entry, Formulas}
use Rattle.spec_model.specs.Meaning.{Reading, compare_values, value_at, truths_at}
use Rattle.spec_model.specs.Moves.{has_next, some_has_next}
use Rattle.spec_model.specs.WellMade.{is_stepwise, are_stepwise}
use Rattle.spec_model.specs.WellTyped.{reads_some, some_reads}

two : {X Y Z : Type 0} (f : X → Y → Z) {a c : X} {b d : Y} → a ≡ c → b ≡ d → f a b ≡ f c d
two f p q = λ i. f (p i) (q i)

neither : (a b : Bool) → (a || b) ≡ false → (a ≡ false) × (b ≡ false)
neither true b e = absurd (false≢true (sym e))
neither false b e = (refl, e)

both_spared : (m a b : Bool) → (m && (a || b)) ≡ false → ((m && a) ≡ false) × ((m && b) ≡ false)
both_spared true a b e = neither a b e
both_spared false a b e = (refl, refl)

-- where m, nothing is read that the test tells
module _ (r s : Reading) (m : Bool) (test : ℕ → Bool) (variables : (k : ℕ) → (m && test k) ≡ false → r.variable k 0 ≡ s.variable k 0) (entries : (h n : ℕ) → r.entry h n 0 ≡ s.entry h n 0) where
  mutual
    pub agrees : (e : Formula) → is_stepwise false e ≡ true → has_next e ≡ false → (m && reads_some test e) ≡ false → value_at r e 0 ≡ value_at s e 0
    agrees (Constant v) step now spared = refl
    agrees (Variable k) step now spared = variables k spared
    agrees (NextOf e) step now spared = absurd (false≢true (sym now))
    agrees (Negation e) step now spared = ap (λ v. value.Bool (not (truth_of v))) (agrees e step now spared)
    agrees (Conjunction es) step now spared = ap value.Bool (all_agree es step now spared)
    agrees (Disjunction es) step now spared = ap value.Bool (some_agree es step now spared)
    agrees (Implication a b) step now spared =
        let steps = and_parts (is_stepwise false a) (is_stepwise false b) step in
        let nows = neither (has_next a) (has_next b) now in
        let spares = both_spared m (reads_some test a) (reads_some test b) spared in
        two (λ v w. value.Bool (not (truth_of v) || truth_of w)) (agrees a steps.0 nows.0 spares.0) (agrees b steps.1 nows.1 spares.1)
    agrees (Equivalence a b) step now spared =
        let steps = and_parts (is_stepwise false a) (is_stepwise false b) step in
        let nows = neither (has_next a) (has_next b) now in
        let spares = both_spared m (reads_some test a) (reads_some test b) spared in
        two (λ v w. value.Bool (beq (truth_of v) (truth_of w))) (agrees a steps.0 nows.0 spares.0) (agrees b steps.1 nows.1 spares.1)
    agrees (Comparison c a b) step now spared =
        let steps = and_parts (is_stepwise false a) (is_stepwise false b) step in
        let nows = neither (has_next a) (has_next b) now in
        let spares = both_spared m (reads_some test a) (reads_some test b) spared in
        two (λ v w. value.Bool (compare_values c v w)) (agrees a steps.0 nows.0 spares.0) (agrees b steps.1 nows.1 spares.1)
    agrees (Sum a b) step now spared =
        let steps = and_parts (is_stepwise false a) (is_stepwise false b) step in
        let nows = neither (has_next a) (has_next b) now in
        let spares = both_spared m (reads_some test a) (reads_some test b) spared in
        two (λ v w. value.Int (number_of v +ℤ number_of w)) (agrees a steps.0 nows.0 spares.0) (agrees b steps.1 nows.1 spares.1)
    agrees (Difference a b) step now spared =
        let steps = and_parts (is_stepwise false a) (is_stepwise false b) step in
        let nows = neither (has_next a) (has_next b) now in
        let spares = both_spared m (reads_some test a) (reads_some test b) spared in
        two (λ v w. value.Int (number_of v -ℤ number_of w)) (agrees a steps.0 nows.0 spares.0) (agrees b steps.1 nows.1 spares.1)
    agrees (Product a b) step now spared =
        let steps = and_parts (is_stepwise false a) (is_stepwise false b) step in
        let nows = neither (has_next a) (has_next b) now in
        let spares = both_spared m (reads_some test a) (reads_some test b) spared in
        two (λ v w. value.Int (number_of v *ℤ number_of w)) (agrees a steps.0 nows.0 spares.0) (agrees b steps.1 nows.1 spares.1)
    agrees (Remainder a k) step now spared = ap (λ v. value.Int (int_rem_euclid (number_of v) k)) (agrees a step now spared)
    agrees (PastOf op es) step now spared = absurd (false≢true step)
    agrees (Entry h n) step now spared = ap value.Bool (entries h n)

    all_agree : (es : Formulas) → are_stepwise false es ≡ true → some_has_next es ≡ false → (m && some_reads test es) ≡ false →
        list_all (λ (a : ℕ → Bool). a 0) (truths_at r es) ≡ list_all (λ (a : ℕ → Bool). a 0) (truths_at s es)
    all_agree Formulas.none step now spared = refl
    all_agree (Formulas.one_more e es) step now spared =
        let steps = and_parts (is_stepwise false e) (are_stepwise false es) step in
        let nows = neither (has_next e) (some_has_next es) now in
        let spares = both_spared m (reads_some test e) (some_reads test es) spared in
        two (λ a b. a && b) (ap truth_of (agrees e steps.0 nows.0 spares.0)) (all_agree es steps.1 nows.1 spares.1)

    some_agree : (es : Formulas) → are_stepwise false es ≡ true → some_has_next es ≡ false → (m && some_reads test es) ≡ false →
        list_any (λ (a : ℕ → Bool). a 0) (truths_at r es) ≡ list_any (λ (a : ℕ → Bool). a 0) (truths_at s es)
    some_agree Formulas.none step now spared = refl
    some_agree (Formulas.one_more e es) step now spared =
        let steps = and_parts (is_stepwise false e) (are_stepwise false es) step in
        let nows = neither (has_next e) (some_has_next es) now in
        let spares = both_spared m (reads_some test e) (some_reads test es) spared in
        two (λ a b. a || b) (ap truth_of (agrees e steps.0 nows.0 spares.0)) (some_agree es steps.1 nows.1 spares.1)
