-- A formula with entries for its operators has the value of the formula, where the entries have those of the operators.
use Rattle.std.proofs.Common.{◌≡◌, ℕ, suc, Bool, true, not, ◌&&◌, ◌||◌, List, [], ◌∷◌, ◌++◌, map, refl, sym, ap, ◌∙◌}
use Rattle.std.specs.Prelude.{◌+ℤ◌, ◌-ℤ◌, ◌*ℤ◌}
use Rattle.std.specs.List.{list_any, list_all}
use Rattle.std.specs.Int.{int_rem_euclid}
use Rattle.std.specs.Bool.{beq}
use Rattle.std.proofs.lemmas.Bool.{and_parts, false≢true}
use Rattle.std.proofs.lemmas.List.Folds.{list_all-append}
use Rattle.spec_model.specs.declared.value.Value.TheVariants as value
use Rattle.spec_model.specs.declared.expr.Past.{Past}
use Rattle.spec_model.specs.Values.{truth_of, number_of}
use Rattle.spec_model.specs.Syntax.{Formula, Constant, Variable, NextOf, Negation, Conjunction, Disjunction, Implication, Equivalence, Comparison, Sum, Difference, Product, Remainder, PastOf, Entry, Formulas, listed}
use Rattle.spec_model.specs.Meaning.{Reading, compare_values, past_of, value_at, holds_at, truths_at}
use Rattle.spec_model.specs.Sizes.{same_formula, past_trees, past_trees_of_all}
use Rattle.past_bits.specs.Entries.{place_of, with_entries, each_with_entries}
use Rattle.past_bits.proofs.Plain.{is_plain, are_plain}
use Rattle.past_bits.proofs.Ordered.{covers}

pub both_covered : (known xs ys : List Formula) → covers known (xs ++ ys) ≡ true → (covers known xs ≡ true) × (covers known ys ≡ true)
both_covered known xs ys is = and_parts (covers known xs) (covers known ys) (sym (list_all-append (λ f. list_any (same_formula f) known) xs ys) ∙ is)

two : {X Y Z : Type 0} (f : X → Y → Z) {a c : X} {b d : Y} → a ≡ c → b ≡ d → f a b ≡ f c d
two f p q = λ i. f (p i) (q i)

-- One reading at a time and another at another, where the times go together: the variables agree, and the entries of the
-- operators that are known. Where `next` is read, the times after them go together.
module _ (ops known : List Formula) (R r : Reading) (n : Bool) (Together : (u t : ℕ) → Type 0)
    (variables : (k u t : ℕ) → Together u t → R.variable k u ≡ r.variable k t)
    (entries : (op : Past) (es : Formulas) (u t : ℕ) → Together u t → list_any (same_formula (PastOf op es)) known ≡ true → R.entry (place_of ops (PastOf op es)) 0 u ≡ past_of op (truths_at r es) t)
    (later : n ≡ true → (u t : ℕ) → Together u t → Together (suc u) (suc t)) where
  mutual
    pub agrees : (e : Formula) (u t : ℕ) → Together u t → is_plain n e ≡ true → covers known (past_trees e) ≡ true → value_at R (with_entries ops e) u ≡ value_at r e t
    agrees (Constant v) u t both is has = refl
    agrees (Variable k) u t both is has = variables k u t both
    agrees (NextOf e) u t both is has = let parts = and_parts n (is_plain n e) is in agrees e (suc u) (suc t) (later parts.0 u t both) parts.1 has
    agrees (Negation e) u t both is has = ap (λ v. value.Bool (not (truth_of v))) (agrees e u t both is has)
    agrees (Conjunction es) u t both is has = ap value.Bool (all_agree es u t both is has)
    agrees (Disjunction es) u t both is has = ap value.Bool (some_agree es u t both is has)
    agrees (Implication a b) u t both is has =
        let plain = and_parts (is_plain n a) (is_plain n b) is in
        let there = both_covered known (past_trees a) (past_trees b) has in
        two (λ v w. value.Bool (not (truth_of v) || truth_of w)) (agrees a u t both plain.0 there.0) (agrees b u t both plain.1 there.1)
    agrees (Equivalence a b) u t both is has =
        let plain = and_parts (is_plain n a) (is_plain n b) is in
        let there = both_covered known (past_trees a) (past_trees b) has in
        two (λ v w. value.Bool (beq (truth_of v) (truth_of w))) (agrees a u t both plain.0 there.0) (agrees b u t both plain.1 there.1)
    agrees (Comparison c a b) u t both is has =
        let plain = and_parts (is_plain n a) (is_plain n b) is in
        let there = both_covered known (past_trees a) (past_trees b) has in
        two (λ v w. value.Bool (compare_values c v w)) (agrees a u t both plain.0 there.0) (agrees b u t both plain.1 there.1)
    agrees (Sum a b) u t both is has =
        let plain = and_parts (is_plain n a) (is_plain n b) is in
        let there = both_covered known (past_trees a) (past_trees b) has in
        two (λ v w. value.Int (number_of v +ℤ number_of w)) (agrees a u t both plain.0 there.0) (agrees b u t both plain.1 there.1)
    agrees (Difference a b) u t both is has =
        let plain = and_parts (is_plain n a) (is_plain n b) is in
        let there = both_covered known (past_trees a) (past_trees b) has in
        two (λ v w. value.Int (number_of v -ℤ number_of w)) (agrees a u t both plain.0 there.0) (agrees b u t both plain.1 there.1)
    agrees (Product a b) u t both is has =
        let plain = and_parts (is_plain n a) (is_plain n b) is in
        let there = both_covered known (past_trees a) (past_trees b) has in
        two (λ v w. value.Int (number_of v *ℤ number_of w)) (agrees a u t both plain.0 there.0) (agrees b u t both plain.1 there.1)
    agrees (Remainder a k) u t both is has = ap (λ v. value.Int (int_rem_euclid (number_of v) k)) (agrees a u t both is has)
    agrees (PastOf op es) u t both is has =
        ap value.Bool (entries op es u t both (and_parts (list_any (same_formula (PastOf op es)) known) true (both_covered known (past_trees_of_all es) (PastOf op es ∷ []) has).1).0)
    agrees (Entry h k) u t both is has = absurd (false≢true is)

    all_agree : (es : Formulas) (u t : ℕ) → Together u t → are_plain n es ≡ true → covers known (past_trees_of_all es) ≡ true →
        list_all (λ (a : ℕ → Bool). a u) (truths_at R (each_with_entries ops es)) ≡ list_all (λ (a : ℕ → Bool). a t) (truths_at r es)
    all_agree Formulas.none u t both is has = refl
    all_agree (Formulas.one_more e es) u t both is has =
        let plain = and_parts (is_plain n e) (are_plain n es) is in
        let there = both_covered known (past_trees e) (past_trees_of_all es) has in
        two (λ a b. a && b) (ap truth_of (agrees e u t both plain.0 there.0)) (all_agree es u t both plain.1 there.1)

    some_agree : (es : Formulas) (u t : ℕ) → Together u t → are_plain n es ≡ true → covers known (past_trees_of_all es) ≡ true →
        list_any (λ (a : ℕ → Bool). a u) (truths_at R (each_with_entries ops es)) ≡ list_any (λ (a : ℕ → Bool). a t) (truths_at r es)
    some_agree Formulas.none u t both is has = refl
    some_agree (Formulas.one_more e es) u t both is has =
        let plain = and_parts (is_plain n e) (are_plain n es) is in
        let there = both_covered known (past_trees e) (past_trees_of_all es) has in
        two (λ a b. a || b) (ap truth_of (agrees e u t both plain.0 there.0)) (some_agree es u t both plain.1 there.1)

  -- several formulas, as truth values
  pub each_agrees : (es : Formulas) (u t : ℕ) → Together u t → are_plain n es ≡ true → covers known (past_trees_of_all es) ≡ true →
      map (λ a. holds_at R a u) (listed (each_with_entries ops es)) ≡ map (λ (a : ℕ → Bool). a t) (truths_at r es)
  each_agrees Formulas.none u t both is has = refl
  each_agrees (Formulas.one_more e es) u t both is has =
      let plain = and_parts (is_plain n e) (are_plain n es) is in
      let there = both_covered known (past_trees e) (past_trees_of_all es) has in
      two (λ a b. a ∷ b) (ap truth_of (agrees e u t both plain.0 there.0)) (each_agrees es u t both plain.1 there.1)
