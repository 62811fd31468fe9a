-- An expression of a text without faults that is written out has the value of the one that is written.
use Rattle.std.proofs.Common.{◌≡◌, ℕ, suc, ◌+◌, ℤ, Bool, true, false, not, ◌&&◌, ◌||◌, List, [], ◌∷◌, ◌++◌, Option, Some, refl, sym, ap, ◌∙◌}
use Rattle.std.specs.Prelude.{nat_abs}
use Rattle.std.specs.List.{list_any, list_all}
use Rattle.std.specs.Int.{int_rem_euclid}
use Rattle.std.proofs.lemmas.Bool.{false≢true, true≢false, and_parts, or_parts, or_from, not-true}
use Rattle.std.proofs.lemmas.List.Folds.{list_any-append}
use Rattle.spec_model.specs.declared.value.Value.TheVariants as value
use Rattle.spec_model.specs.Values.{truth_of, number_of}
use Rattle.spectra_resolved.specs.declared.spot.Spot.{Spot}
use Rattle.spectra_resolved.specs.declared.spot.Mark.{Mark}
use Rattle.spectra_resolved.specs.Spots.{same_place}
use Rattle.spectra_resolved.specs.declared.tree.Extent.TheVariants as extents
use Rattle.spectra_resolved.specs.Resolved.{ResolvedTree, tree, Form, ResolvedTrees}
use Rattle.spectra_copies.specs.Numbers.{number_in}
use Rattle.spectra_copies.specs.declared.ranges.Bound.{Bound}
use Rattle.spectra_copies.specs.Ranges.{numbers_between}
use Rattle.spectra_copies.specs.Copies.{bound_with, written, form_out, each_out}
use Rattle.spectra_judge.specs.Findings.{fault_if}
use Rattle.spectra_judge.specs.Operators.{is_past, is_past_prefix}
use Rattle.spectra_judge.specs.declared.around.Around.{Around}
use Rattle.spectra_judge.specs.Around.{under_next, in_bound, within, next_faults}
use Rattle.spectra_judge.specs.Known.{Setting, wanted}
use Rattle.spectra_judge.specs.Judged.{kind_of, is_wrong, first_of, wrong, operator_faults, faults, form_faults}
use Rattle.spectra_judge.proofs.Empty.{not_empty, empty_parts, no_fault}
use Rattle.spectra_types.specs.Senses.{Sense, Numbers, numbered, Senses, prefix_sense, binary_sense, truths, quantified, sense, form_sense, senses}
use Rattle.spectra_types.proofs.Placed.{is_apart, form_apart, each_apart}
use Rattle.spectra_types.proofs.Copied.{with_numbers, over, over-push, over-beside, leaf_out, for_each, AreRight, operands_right, arguments_right, copies_right, each_copy_right, quantified_out}

-- what isn't among the places around has no number
abbrev Covers : List Spot → List Bound → Type 0
Covers around q = (v : Spot) → list_any (λ at. same_place at v) around ≡ false → list_any (λ (b : Bound). same_place b.at v) q ≡ false

covers_more : (around : List Spot) (q : List Bound) (variable : Spot) → Covers around q → Covers (variable ∷ around) q
covers_more around q variable covers v none = covers v (or_parts (same_place variable v) _ none).1

covers_copy : (around : List Spot) (q : List Bound) (variable : Spot) (z : ℤ) → Covers around q → Covers (variable ∷ around) (q ++ bound_with variable z ∷ [])
covers_copy around q variable z covers v none =
    let parts = or_parts (same_place variable v) _ none in
    list_any-append (λ (b : Bound). same_place b.at v) q (bound_with variable z ∷ []) ∙ or_from _ _ (covers v parts.1) (or_from (same_place variable v) false parts.0 refl)

module _ (c : List (Option ℤ)) (set : Setting) (s : Senses) (tells : (n : Numbers) (o : Around) (t : ResolvedTree) (z : ℤ) → faults set o t ≡ [] → number_in c t ≡ Some z → (p : ℕ) → sense (with_numbers s n) t p ≡ value.Int z) where
  mutual
    pub out_sense : (around : List Spot) (q : List Bound) → Covers around q → (o : Around) (t : ResolvedTree) → is_apart around t ≡ true → faults set o (written c q t) ≡ [] → (n : Numbers) (p : ℕ) →
        sense (with_numbers s n) (written c q t) p ≡ sense (with_numbers s (over n q)) t p
    out_sense around q covers o (tree first at form) apart none n p = out_form around q covers o first at form apart none n p

    out_form : (around : List Spot) (q : List Bound) → Covers around q → (o : Around) (first : Spot) (at : Mark) (form : Form) → form_apart around form ≡ true → form_faults set o at (form_out c q form) ≡ [] → (n : Numbers) (p : ℕ) →
        form_sense (with_numbers s n) (form_out c q form) p ≡ form_sense (with_numbers s (over n q)) form p
    out_form around q covers o first at (Form.LeafOf l) apart none n p = leaf_out s n q l p
    out_form around q covers o first at (Form.PredicateOf k ts) apart none n p =
        ap (λ as'. s.definition k as' p) (out_each around q covers o ts apart (arguments_right set o (wanted set.known (Some k)) (each_out c q ts) none) n)
    out_form around q covers o first at (Form.MisuseOf m ts) apart none n p = absurd (not_empty _ _ none)
    out_form around q covers o first at (Form.Next t) apart none n p = out_sense around q covers (under_next at o) t apart (empty_parts (next_faults set.bans o at) _ none).1 n (suc p)
    out_form around q covers o first at (Form.Prefix word t) apart none n p =
        let inner = within (is_past_prefix word) at o in
        let behind = empty_parts (operator_faults set (is_past_prefix word) o.next at) _ none in
        let left = empty_parts (faults set inner (written c q t)) _ behind.1 in λ i. prefix_sense word (λ r. out_sense around q covers inner t apart left.0 n r i) p
    out_form around q covers o first at (Form.Binary word a b) apart none n p =
        let inner = within (is_past word) at o in
        let tests = and_parts (is_apart around a) (is_apart around b) apart in
        let left = empty_parts (faults set inner (written c q a)) _ none in
        let behind = empty_parts (operator_faults set (is_past word) o.next at) _ left.1 in
        let right = empty_parts (faults set inner (written c q b)) _ behind.1 in
        λ i. binary_sense word (λ r. out_sense around q covers inner a tests.0 left.0 n r i) (λ r. out_sense around q covers inner b tests.1 right.0 n r i) p
    out_form around q covers o first at (Form.Mod t number_at m) apart none n p =
        let left = empty_parts (faults set o (written c q t)) _ none in λ i. value.Int (int_rem_euclid (number_of (out_sense around q covers o t apart left.0 n p i)) m)
    out_form around q covers o first at (Form.And ts operators) apart none n p =
        λ i. value.Bool (list_all (λ b. b) (truths (out_each around q covers o ts apart (operands_right set o at.spot (at.spot ∷ operators) (each_out c q ts) none) n i) p))
    out_form around q covers o first at (Form.Or ts operators) apart none n p =
        λ i. value.Bool (list_any (λ b. b) (truths (out_each around q covers o ts apart (operands_right set o at.spot (at.spot ∷ operators) (each_out c q ts) none) n i) p))
    out_form around q covers o first at (Form.Index array count t) apart none n p =
        let left = empty_parts (faults set o (written c q t)) _ none in λ i. s.variable (array + nat_abs (number_of (out_sense around q covers o t apart left.0 n p i))) p
    out_form around q covers o first at (Form.Quantified word variable extents.Wrong low high ts) apart none n p =
        absurd (true≢false (no_fault true 14 at.spot (empty_parts (fault_if true 14 at.spot) _ (empty_parts _ _ none).1).0))
    out_form around q covers o first at (Form.Quantified word variable extents.Right low high ts) apart none n p =
        let tests = and_parts (not (list_any (λ v. same_place v variable) around)) _ apart in
        let more = and_parts (is_apart around low) _ tests.1 in
        let last = and_parts (is_apart around high) (each_apart (variable ∷ around) ts) more.1 in
        let right = copies_right set o (each_out c q ts) (empty_parts (fault_if false 14 at.spot) _ (empty_parts _ _ none).1).1 in
        λ i. value.Bool (quantified word (truths (out_each (variable ∷ around) q (covers_more around q variable covers) o ts last.1 right n i) p))
    out_form around q covers o first at (Form.Quantified word variable extents.Open low high ts) apart none n p =
        let tests = and_parts (not (list_any (λ v. same_place v variable) around)) _ apart in
        let more = and_parts (is_apart around low) _ tests.1 in
        let last = and_parts (is_apart around high) (each_apart (variable ∷ around) ts) more.1 in
        let bounds = empty_parts (faults set (in_bound at o) (written c q low) ++ wrong _ (first_of (written c q low))) _ (empty_parts _ _ none).0 in
        let low_right = (empty_parts (faults set (in_bound at o) (written c q low)) _ bounds.0).0 in
        let high_right = (empty_parts (faults set (in_bound at o) (written c q high)) _ bounds.1).0 in
        quantified_out c set s n q o at word variable low high ts p
        (out_sense around q covers (in_bound at o) low more.0 low_right n p) (out_sense around q covers (in_bound at o) high last.0 high_right n p)
        (λ z is. tells n (in_bound at o) (written c q low) z low_right is p) (λ z is. tells n (in_bound at o) (written c q high) z high_right is p)
        (λ x y is right.
        for_each (λ z. AreRight set o (each_out c (q ++ bound_with variable z ∷ []) ts)) _
        (λ z right. out_each (variable ∷ around) (q ++ bound_with variable z ∷ []) (covers_copy around q variable z covers) o ts last.1 right n)
        (numbers_between x y) (each_copy_right set o (λ z. each_out c (q ++ bound_with variable z ∷ []) ts) (numbers_between x y) right))
        (λ is right. (covers variable (not-true _ tests.0), λ m. out_each (variable ∷ around) q (covers_more around q variable covers) o ts last.1 right m))
        none

    out_each : (around : List Spot) (q : List Bound) → Covers around q → (o : Around) (ts : ResolvedTrees) → each_apart around ts ≡ true → AreRight set o (each_out c q ts) → (n : Numbers) →
        senses (with_numbers s n) (each_out c q ts) ≡ senses (with_numbers s (over n q)) ts
    out_each around q covers o ResolvedTrees.none apart right n = refl
    out_each around q covers o (ResolvedTrees.one_more t ts) apart right n =
        let tests = and_parts (is_apart around t) (each_apart around ts) apart in
        λ i. (λ p. out_sense around q covers o t tests.0 right.0 n p i) ∷ out_each around q covers o ts tests.1 right.1 n i
