-- An expression without a fault in which everything is put in has the value of the one with bodies for names, and each of its
-- quantifiers is written out.
use Rattle.std.proofs.Common.{◌≡◌, ℕ, suc, ◌+◌, ℤ, Bool, true, false, ◌&&◌, if◌then◌else◌, List, [], ◌∷◌, ◌++◌, Option, Some, None, is_some, refl, sym, ap, ◌∙◌}
use Rattle.std.specs.Prelude.{nat_abs}
use Rattle.std.specs.List.{list_any, list_all}
use Rattle.std.specs.Int.{int_rem_euclid}
use Rattle.std.proofs.lemmas.Bool.{false≢true, true≢false, and_parts, and_from}
use Rattle.spec_model.specs.declared.value.Value.TheVariants as value
use Rattle.spec_model.specs.Values.{truth_of, number_of}
use Rattle.spectra_resolved.specs.declared.spot.Spot.{Spot}
use Rattle.spectra_resolved.specs.declared.spot.Mark.{Mark}
use Rattle.spectra_resolved.specs.declared.tree.QuantifierWord.{QuantifierWord}
use Rattle.spectra_resolved.specs.declared.tree.Extent.TheVariants as extents
use Rattle.spectra_resolved.specs.Resolved.{ResolvedTree, tree, Form, ResolvedTrees}
use Rattle.spectra_copies.specs.Numbers.{number_in}
use Rattle.spectra_copies.specs.declared.ranges.Bound.{Bound}
use Rattle.spectra_copies.specs.declared.ranges.Range.{Range}
use Rattle.spectra_copies.specs.Ranges.{is_short, range_of, numbers_between}
use Rattle.spectra_copies.specs.declared.ranges.Range.TheVariants as ranges
use Rattle.spectra_copies.specs.Copies.{bound_with, joined_trees, copies_for, extent_of, copies_of, written, form_out, each_out}
use Rattle.spectra_judge.specs.Findings.{fault_if}
use Rattle.spectra_judge.specs.Kinds.{is_whole}
use Rattle.spectra_judge.specs.Operators.{is_past, is_past_prefix}
use Rattle.spectra_judge.specs.declared.around.Around.{Around}
use Rattle.spectra_judge.specs.Around.{under_next, in_bound, within, next_faults}
use Rattle.spectra_judge.specs.Known.{Setting}
use Rattle.spectra_judge.specs.Judged.{kind_of, is_wrong, first_of, wrong, operator_faults, faults, form_faults, copy_faults}
use Rattle.spectra_judge.specs.PutIn.{Parts, seen_inside, is_put_in, form_put_in, each_put_in}
use Rattle.spectra_judge.proofs.Empty.{empty_parts, no_fault, right}
use Rattle.spectra_types.specs.Senses.{Sense, Numbers, Senses, prefix_sense, binary_sense, truths, quantified, sense, form_sense, senses}
use Rattle.spectra_types.proofs.Copied.{with_numbers, over, leaf_out, ForEach, for_each, AreRight, operands_right, copies_right, each_copy_right, quantified_out}

-- each quantifier is written out
abbrev mutual
  pub all_right : ResolvedTree → Bool
  all_right (tree first at form) = form_right form

  pub form_right : Form → Bool
  form_right (Form.LeafOf l) = true
  form_right (Form.PredicateOf k ts) = each_right ts
  form_right (Form.MisuseOf m ts) = each_right ts
  form_right (Form.Next t) = all_right t
  form_right (Form.Prefix word t) = all_right t
  form_right (Form.Binary word a b) = all_right a && all_right b
  form_right (Form.Mod t number_at n) = all_right t
  form_right (Form.And ts operators) = each_right ts
  form_right (Form.Or ts operators) = each_right ts
  form_right (Form.Index first n t) = all_right t
  form_right (Form.Quantified word variable extents.Open low high ts) = false
  form_right (Form.Quantified word variable extents.Wrong low high ts) = false
  form_right (Form.Quantified word variable extents.Right low high ts) = each_right ts

  pub each_right : ResolvedTrees → Bool
  each_right ResolvedTrees.none = true
  each_right (ResolvedTrees.one_more t ts) = all_right t && each_right ts

-- a test of several trees together, and of copies
module _ (test : ResolvedTree → Bool) (each : ResolvedTrees → Bool) (none : each ResolvedTrees.none ≡ true) (more : (t : ResolvedTree) (ts : ResolvedTrees) → each (ResolvedTrees.one_more t ts) ≡ (test t && each ts)) where
  joined_parts : (ts us : ResolvedTrees) → each (joined_trees ts us) ≡ true → (each ts ≡ true) × (each us ≡ true)
  joined_parts ResolvedTrees.none us all = (none, all)
  joined_parts (ResolvedTrees.one_more t ts) us all =
      let parts = and_parts (test t) _ (sym (more t (joined_trees ts us)) ∙ all) in
      let rest = joined_parts ts us parts.1 in (more t ts ∙ and_from _ _ parts.0 rest.0, rest.1)

  joined_from : (ts us : ResolvedTrees) → each ts ≡ true → each us ≡ true → each (joined_trees ts us) ≡ true
  joined_from ResolvedTrees.none us first second = second
  joined_from (ResolvedTrees.one_more t ts) us first second =
      let parts = and_parts (test t) (each ts) (sym (more t ts) ∙ first) in more t (joined_trees ts us) ∙ and_from _ _ parts.0 (joined_from ts us parts.1 second)

  copies_parts : (copy : ℤ → ResolvedTrees) (zs : List ℤ) → each (copies_for copy zs) ≡ true → ForEach (λ z. each (copy z) ≡ true) zs
  copies_parts copy [] all = tt
  copies_parts copy (z ∷ zs) all = let parts = joined_parts (copy z) (copies_for copy zs) all in (parts.0, copies_parts copy zs parts.1)

  copies_from : (copy : ℤ → ResolvedTrees) (zs : List ℤ) → ForEach (λ z. each (copy z) ≡ true) zs → each (copies_for copy zs) ≡ true
  copies_from copy [] all = none
  copies_from copy (z ∷ zs) all = joined_from (copy z) (copies_for copy zs) all.0 (copies_from copy zs all.1)

for_both : (P R : ℤ → Type 0) (zs : List ℤ) → ForEach P zs → ForEach R zs → ForEach (λ z. P z × R z) zs
for_both P R [] first second = tt
for_both P R (z ∷ zs) first second = ((first.0, second.0), for_both P R zs first.1 second.1)

never_open : (a b : Option ℤ) → is_some a ≡ true → is_some b ≡ true → range_of a b ≡ ranges.Open → ⊥
never_open (Some x) (Some y) first second is = by (is_short x y) is
  where
    by : (c : Bool) → (if c then ranges.Right x y else ranges.Wrong) ≡ ranges.Open → ⊥
    by true is = cc
    by false is = cc
never_open (Some x) None first second is = absurd (false≢true second)
never_open None b first second is = absurd (false≢true first)

module _ (good : Parts) (set : Setting) (s : Senses)
    (tells : (n : Numbers) (o : Around) (t : ResolvedTree) (z : ℤ) → faults set o t ≡ [] → number_in [] t ≡ Some z → (p : ℕ) → sense (with_numbers s n) t p ≡ value.Int z)
    (bounded : (o : Around) (t : ResolvedTree) → is_some o.bound ≡ true → is_put_in good t ≡ true → faults set o t ≡ [] → is_whole (kind_of set.known t) ≡ true → is_some (number_in [] t) ≡ true) where
  -- what an expression is, written out
  abbrev out : List Bound → ResolvedTree → ResolvedTree
  out q t = written [] q t

  abbrev outs : List Bound → ResolvedTrees → ResolvedTrees
  outs q ts = each_out [] q ts

  -- a bound without a fault
  record IsBound (o : Around) (at : Mark) (t : ResolvedTree) : Type 0 where
    none : faults set (in_bound at o) t ≡ []
    some : is_some (number_in [] t) ≡ true

  is_bound : (o : Around) (at : Mark) (t : ResolvedTree) → is_put_in good t ≡ true → (faults set (in_bound at o) t ++ wrong (is_whole (kind_of set.known t)) (first_of t)) ≡ [] → IsBound o at t
  is_bound o at t put none =
      let parts = empty_parts (faults set (in_bound at o) t) _ none in record { none = parts.0; some = bounded (in_bound at o) t refl put parts.0 (right _ (first_of t) parts.1) }

  -- the copies of a quantifier that has a range
  range_put : (q : List Bound) (variable : Spot) (ts : ResolvedTrees) (r : Range) (x y : ℤ) → r ≡ ranges.Right x y →
      each_put_in (seen_inside (extent_of extents.Open r) variable good) (copies_of extents.Open r (λ z. outs (q ++ bound_with variable z ∷ []) ts) (outs q ts)) ≡ true →
      ForEach (λ z. each_put_in good (outs (q ++ bound_with variable z ∷ []) ts) ≡ true) (numbers_between x y)
  range_put q variable ts r x y is put =
      copies_parts (is_put_in good) (each_put_in good) refl (λ t ts. refl) (λ z. outs (q ++ bound_with variable z ∷ []) ts) (numbers_between x y)
      (sym (λ i. each_put_in (seen_inside (extent_of extents.Open (is i)) variable good) (copies_of extents.Open (is i) (λ z. outs (q ++ bound_with variable z ∷ []) ts) (outs q ts))) ∙ put)

  mutual
    pub put_sense : (q : List Bound) (o : Around) (t : ResolvedTree) → is_put_in good (written [] q t) ≡ true → faults set o (written [] q t) ≡ [] → (n : Numbers) (p : ℕ) → sense (with_numbers s n) (written [] q t) p ≡ sense (with_numbers s (over n q)) t p
    put_sense q o (tree first at form) put none n p = put_form q o at form put none n p

    put_form : (q : List Bound) (o : Around) (at : Mark) (form : Form) → form_put_in good (form_out [] q form) ≡ true → form_faults set o at (form_out [] q form) ≡ [] → (n : Numbers) (p : ℕ) →
        form_sense (with_numbers s n) (form_out [] q form) p ≡ form_sense (with_numbers s (over n q)) form p
    put_form q o at (Form.LeafOf l) put none n p = leaf_out s n q l p
    put_form q o at (Form.PredicateOf k ts) put none n p = absurd (false≢true put)
    put_form q o at (Form.MisuseOf m ts) put none n p = absurd (false≢true put)
    put_form q o at (Form.Next t) put none n p = put_sense q (under_next at o) t put (empty_parts (next_faults set.bans o at) _ none).1 n (suc p)
    put_form q o at (Form.Prefix word t) put none n p =
        let inner = within (is_past_prefix word) at o in
        let behind = empty_parts (operator_faults set (is_past_prefix word) o.next at) _ none in
        let left = empty_parts (faults set inner (out q t)) _ behind.1 in λ i. prefix_sense word (λ r. put_sense q inner t put left.0 n r i) p
    put_form q o at (Form.Binary word a b) put none n p =
        let inner = within (is_past word) at o in
        let tests = and_parts (is_put_in good (out q a)) (is_put_in good (out q b)) put in
        let left = empty_parts (faults set inner (out q a)) _ none in
        let behind = empty_parts (operator_faults set (is_past word) o.next at) _ left.1 in
        let other = empty_parts (faults set inner (out q b)) _ behind.1 in
        λ i. binary_sense word (λ r. put_sense q inner a tests.0 left.0 n r i) (λ r. put_sense q inner b tests.1 other.0 n r i) p
    put_form q o at (Form.Mod t number_at m) put none n p =
        let left = empty_parts (faults set o (out q t)) _ none in λ i. value.Int (int_rem_euclid (number_of (put_sense q o t put left.0 n p i)) m)
    put_form q o at (Form.And ts operators) put none n p =
        λ i. value.Bool (list_all (λ b. b) (truths (put_each q o ts put (operands_right set o at.spot (at.spot ∷ operators) (outs q ts) none) n i) p))
    put_form q o at (Form.Or ts operators) put none n p =
        λ i. value.Bool (list_any (λ b. b) (truths (put_each q o ts put (operands_right set o at.spot (at.spot ∷ operators) (outs q ts) none) n i) p))
    put_form q o at (Form.Index array count t) put none n p =
        let tests = and_parts (good.array array count) (is_put_in good (out q t)) put in
        let left = empty_parts (faults set o (out q t)) _ none in λ i. s.variable (array + nat_abs (number_of (put_sense q o t tests.1 left.0 n p i))) p
    put_form q o at (Form.Quantified word variable extents.Wrong low high ts) put none n p =
        absurd (true≢false (no_fault true 14 at.spot (empty_parts (fault_if true 14 at.spot) _ (empty_parts _ _ none).1).0))
    put_form q o at (Form.Quantified word variable extents.Right low high ts) put none n p =
        let tests = and_parts (is_put_in good (out q low)) _ put in
        let more = and_parts (is_put_in good (out q high)) (each_put_in good (outs q ts)) tests.1 in
        let copies = copies_right set o (outs q ts) (empty_parts (fault_if false 14 at.spot) _ (empty_parts _ _ none).1).1 in λ i. value.Bool (quantified word (truths (put_each q o ts more.1 copies n i) p))
    put_form q o at (Form.Quantified word variable extents.Open low high ts) put none n p =
        let tests = and_parts (is_put_in good (out q low)) _ put in
        let more = and_parts (is_put_in good (out q high)) _ tests.1 in
        let bounds = empty_parts (faults set (in_bound at o) (out q low) ++ wrong _ (first_of (out q low))) _ (empty_parts _ _ none).0 in
        let least = is_bound o at (out q low) tests.0 bounds.0 in
        let most = is_bound o at (out q high) more.0 bounds.1 in
        quantified_out [] set s n q o at word variable low high ts p
        (put_sense q (in_bound at o) low tests.0 least.none n p) (put_sense q (in_bound at o) high more.0 most.none n p)
        (λ z is. tells n (in_bound at o) (out q low) z least.none is p) (λ z is. tells n (in_bound at o) (out q high) z most.none is p)
        (λ x y is right.
        for_each (λ z. (each_put_in good (outs (q ++ bound_with variable z ∷ []) ts) ≡ true) × AreRight set o (outs (q ++ bound_with variable z ∷ []) ts)) _
        (λ z both. put_each (q ++ bound_with variable z ∷ []) o ts both.0 both.1 n)
        (numbers_between x y)
        (for_both _ _ (numbers_between x y) (range_put q variable ts (range_of (number_in [] (out q low)) (number_in [] (out q high))) x y is more.1) (each_copy_right set o (λ z. outs (q ++ bound_with variable z ∷ []) ts) (numbers_between x y) right)))
        (λ is right. absurd (never_open (number_in [] (out q low)) (number_in [] (out q high)) least.some most.some is))
        none

    put_each : (q : List Bound) (o : Around) (ts : ResolvedTrees) → each_put_in good (outs q ts) ≡ true → AreRight set o (outs q ts) → (n : Numbers) → senses (with_numbers s n) (outs q ts) ≡ senses (with_numbers s (over n q)) ts
    put_each q o ResolvedTrees.none put copies n = refl
    put_each q o (ResolvedTrees.one_more t ts) put copies n =
        let tests = and_parts (is_put_in good (out q t)) (each_put_in good (outs q ts)) put in λ i. (λ p. put_sense q o t tests.0 copies.0 n p i) ∷ put_each q o ts tests.1 copies.1 n i

  -- a quantifier is written out, whose copies are
  quantified_right : (q : List Bound) (o : Around) (at : Mark) (word : QuantifierWord) (variable : Spot) (low high : ResolvedTree) (ts : ResolvedTrees) (r : Range) → range_of (number_in [] (out q low)) (number_in [] (out q high)) ≡ r →
      (range_of (number_in [] (out q low)) (number_in [] (out q high)) ≡ ranges.Open → ⊥) →
      ((z : ℤ) → each_put_in good (outs (q ++ bound_with variable z ∷ []) ts) ≡ true → AreRight set o (outs (q ++ bound_with variable z ∷ []) ts) → each_right (outs (q ++ bound_with variable z ∷ []) ts) ≡ true) →
      each_put_in (seen_inside (extent_of extents.Open r) variable good) (copies_of extents.Open r (λ z. outs (q ++ bound_with variable z ∷ []) ts) (outs q ts)) ≡ true →
      (fault_if (is_wrong (extent_of extents.Open r)) 14 at.spot ++ copy_faults set o (copies_of extents.Open r (λ z. outs (q ++ bound_with variable z ∷ []) ts) (outs q ts))) ≡ [] →
      form_right (Form.Quantified word variable (extent_of extents.Open r) (out q low) (out q high) (copies_of extents.Open r (λ z. outs (q ++ bound_with variable z ∷ []) ts) (outs q ts))) ≡ true
  quantified_right q o at word variable low high ts ranges.Open is never each put none = absurd (never is)
  quantified_right q o at word variable low high ts ranges.Wrong is never each put none = absurd (true≢false (no_fault true 14 at.spot (empty_parts (fault_if true 14 at.spot) _ none).0))
  quantified_right q o at word variable low high ts (ranges.Right x y) is never each put none =
      let copied = λ (z : ℤ). outs (q ++ bound_with variable z ∷ []) ts in
      let faultless = copies_right set o (copies_for copied (numbers_between x y)) (empty_parts (fault_if false 14 at.spot) _ none).1 in
      copies_from all_right each_right refl (λ t ts. refl) copied (numbers_between x y)
      (for_each (λ z. (each_put_in good (copied z) ≡ true) × AreRight set o (copied z)) (λ z. each_right (copied z) ≡ true)
      (λ z both. each z both.0 both.1)
      (numbers_between x y) (for_both _ _ (numbers_between x y) (range_put q variable ts (ranges.Right x y) x y refl put) (each_copy_right set o copied (numbers_between x y) faultless)))

  mutual
    pub put_right : (q : List Bound) (o : Around) (t : ResolvedTree) → is_put_in good (written [] q t) ≡ true → faults set o (written [] q t) ≡ [] → all_right (written [] q t) ≡ true
    put_right q o (tree first at form) put none = put_form_right q o at form put none

    put_form_right : (q : List Bound) (o : Around) (at : Mark) (form : Form) → form_put_in good (form_out [] q form) ≡ true → form_faults set o at (form_out [] q form) ≡ [] → form_right (form_out [] q form) ≡ true
    put_form_right q o at (Form.LeafOf l) put none = refl
    put_form_right q o at (Form.PredicateOf k ts) put none = absurd (false≢true put)
    put_form_right q o at (Form.MisuseOf m ts) put none = absurd (false≢true put)
    put_form_right q o at (Form.Next t) put none = put_right q (under_next at o) t put (empty_parts (next_faults set.bans o at) _ none).1
    put_form_right q o at (Form.Prefix word t) put none =
        let inner = within (is_past_prefix word) at o in
        let behind = empty_parts (operator_faults set (is_past_prefix word) o.next at) _ none in put_right q inner t put (empty_parts (faults set inner (out q t)) _ behind.1).0
    put_form_right q o at (Form.Binary word a b) put none =
        let inner = within (is_past word) at o in
        let tests = and_parts (is_put_in good (out q a)) (is_put_in good (out q b)) put in
        let left = empty_parts (faults set inner (out q a)) _ none in
        let behind = empty_parts (operator_faults set (is_past word) o.next at) _ left.1 in
        let other = empty_parts (faults set inner (out q b)) _ behind.1 in and_from _ _ (put_right q inner a tests.0 left.0) (put_right q inner b tests.1 other.0)
    put_form_right q o at (Form.Mod t number_at m) put none = put_right q o t put (empty_parts (faults set o (out q t)) _ none).0
    put_form_right q o at (Form.And ts operators) put none = put_each_right q o ts put (operands_right set o at.spot (at.spot ∷ operators) (outs q ts) none)
    put_form_right q o at (Form.Or ts operators) put none = put_each_right q o ts put (operands_right set o at.spot (at.spot ∷ operators) (outs q ts) none)
    put_form_right q o at (Form.Index array count t) put none =
        put_right q o t (and_parts (good.array array count) (is_put_in good (out q t)) put).1 (empty_parts (faults set o (out q t)) _ none).0
    put_form_right q o at (Form.Quantified word variable extents.Wrong low high ts) put none =
        absurd (true≢false (no_fault true 14 at.spot (empty_parts (fault_if true 14 at.spot) _ (empty_parts _ _ none).1).0))
    put_form_right q o at (Form.Quantified word variable extents.Right low high ts) put none =
        let tests = and_parts (is_put_in good (out q low)) _ put in
        let more = and_parts (is_put_in good (out q high)) (each_put_in good (outs q ts)) tests.1 in
        put_each_right q o ts more.1 (copies_right set o (outs q ts) (empty_parts (fault_if false 14 at.spot) _ (empty_parts _ _ none).1).1)
    put_form_right q o at (Form.Quantified word variable extents.Open low high ts) put none =
        let tests = and_parts (is_put_in good (out q low)) _ put in
        let more = and_parts (is_put_in good (out q high)) _ tests.1 in
        let bounds = empty_parts (faults set (in_bound at o) (out q low) ++ wrong _ (first_of (out q low))) _ (empty_parts _ _ none).0 in
        let least = is_bound o at (out q low) tests.0 bounds.0 in
        let most = is_bound o at (out q high) more.0 bounds.1 in
        quantified_right q o at word variable low high ts (range_of (number_in [] (out q low)) (number_in [] (out q high))) refl (never_open _ _ least.some most.some)
        (λ z put right. put_each_right (q ++ bound_with variable z ∷ []) o ts put right) more.1 (empty_parts _ _ none).1

    put_each_right : (q : List Bound) (o : Around) (ts : ResolvedTrees) → each_put_in good (outs q ts) ≡ true → AreRight set o (outs q ts) → each_right (outs q ts) ≡ true
    put_each_right q o ResolvedTrees.none put copies = refl
    put_each_right q o (ResolvedTrees.one_more t ts) put copies =
        let tests = and_parts (is_put_in good (out q t)) (each_put_in good (outs q ts)) put in and_from _ _ (put_right q o t tests.0 copies.0) (put_each_right q o ts tests.1 copies.1)
