-- Bounds without a fault in which everything is put in have numbers.
use Rattle.std.proofs.Common.{◌≡◌, ℕ, ℤ, pos, Bool, true, false, if◌then◌else◌, [], ◌++◌, Option, Some, None, is_some, refl, sym, ap, ◌∙◌, arith}
use Rattle.std.specs.Prelude.{int_le, int_lt, ◌+ℤ◌, ◌-ℤ◌, ◌*ℤ◌}
use Rattle.std.specs.Int.{int_rem_euclid}
use Rattle.std.proofs.lemmas.Int.{ints}
use Rattle.std.proofs.lemmas.Bool.{false≢true, and_parts}
use Rattle.spectra_trees.specs.declared.tree.BinaryWord.{BinaryWord}
use Rattle.spectra_trees.specs.declared.tree.BinaryWord.TheVariants as binary
use Rattle.spectra_resolved.specs.declared.spot.Mark.{Mark}
use Rattle.spectra_resolved.specs.declared.tree.Leaf.{Leaf}
use Rattle.spectra_resolved.specs.Resolved.{ResolvedTree, tree, Form}
use Rattle.spectra_copies.specs.Numbers.{both, joined_number, remainder_number, leaf_number, number_in, form_number}
use Rattle.spectra_judge.specs.Findings.{fault_if}
use Rattle.spectra_judge.specs.Kinds.{Kind, is_whole}
use Rattle.spectra_judge.specs.Operators.{is_past, takes, gives}
use Rattle.spectra_judge.specs.declared.around.Around.{Around}
use Rattle.spectra_judge.specs.Around.{in_bounds, in_next, in_past, shifted, within, next_faults, variable_faults}
use Rattle.spectra_judge.specs.Known.{Setting, is_system}
use Rattle.spectra_judge.specs.Judged.{leaf_kind, kind_of, form_kind, wrong, binary_faults, operator_faults, leaf_faults, faults, form_faults}
use Rattle.spectra_judge.specs.PutIn.{Parts, is_put_in, form_put_in}
use Rattle.spectra_judge.proofs.Empty.{not_empty, empty_parts, no_fault, right}

-- what is banned in the bounds of a quantifier is a fault there
pub banned_there : (number : ℕ) (o : Around) (at : Mark) → is_some o.bound ≡ true → in_bounds true number o at ≡ [] → ⊥
banned_there number o at is none = by o.bound refl is
  where
    by : (b : Option Mark) → o.bound ≡ b → is_some b ≡ true → ⊥
    by None e is = absurd (false≢true is)
    by (Some outer) e is = not_empty _ _ (sym (λ i. in_bounds true number (record o { bound = e i }) at) ∙ none)

pub no_variable : (set : Setting) (o : Around) (at : Mark) (system : Bool) → is_some o.bound ≡ true → variable_faults set.bans o at system ≡ [] → ⊥
no_variable set o at system is none =
    let one = empty_parts (fault_if set.bans.variable _ at.spot) _ none in
    let two = empty_parts (fault_if _ _ at.spot) _ one.1 in
    let three = empty_parts (shifted _ _ o.next at) _ two.1 in banned_there _ o at is three.1

no_next : (set : Setting) (o : Around) (at : Mark) → is_some o.bound ≡ true → next_faults set.bans o at ≡ [] → ⊥
no_next set o at is none =
    let one = empty_parts (fault_if set.bans.next _ at.spot) _ none in
    let two = empty_parts (in_next o.next at) _ one.1 in
    let three = empty_parts (in_past o at.spot) _ two.1 in banned_there _ o at is three.1

both_some : (join : ℤ → ℤ → ℤ) (a b : Option ℤ) → is_some a ≡ true → is_some b ≡ true → is_some (both join a b) ≡ true
both_some join (Some x) (Some y) first second = refl
both_some join (Some x) None first second = absurd (false≢true second)
both_some join None b first second = absurd (false≢true first)

joined_some : (word : BinaryWord) (j k : Kind) (a b : Option ℤ) → takes word j k ≡ true → is_whole (gives word j k) ≡ true → (is_whole j ≡ true → is_some a ≡ true) → (is_whole k ≡ true → is_some b ≡ true) → is_some (joined_number word a b) ≡ true
joined_some binary.Add j k a b taken whole first second = let parts = and_parts (is_whole j) (is_whole k) taken in both_some (λ x y. x +ℤ y) a b (first parts.0) (second parts.1)
joined_some binary.Sub j k a b taken whole first second = let parts = and_parts (is_whole j) (is_whole k) taken in both_some (λ x y. x -ℤ y) a b (first parts.0) (second parts.1)
joined_some binary.Mul j k a b taken whole first second = let parts = and_parts (is_whole j) (is_whole k) taken in both_some (λ x y. x *ℤ y) a b (first parts.0) (second parts.1)
joined_some binary.Implies j k a b taken whole first second = absurd (false≢true whole)
joined_some binary.Iff j k a b taken whole first second = absurd (false≢true whole)
joined_some binary.Since j k a b taken whole first second = absurd (false≢true whole)
joined_some binary.Triggered j k a b taken whole first second = absurd (false≢true whole)
joined_some binary.Eq j k a b taken whole first second = absurd (false≢true whole)
joined_some binary.Ne j k a b taken whole first second = absurd (false≢true whole)
joined_some binary.Lt j k a b taken whole first second = absurd (false≢true whole)
joined_some binary.Le j k a b taken whole first second = absurd (false≢true whole)
joined_some binary.Gt j k a b taken whole first second = absurd (false≢true whole)
joined_some binary.Ge j k a b taken whole first second = absurd (false≢true whole)

remainder_some : (n : ℤ) (a : Option ℤ) → int_le n (pos 0) ≡ false → is_some a ≡ true → is_some (remainder_number n a) ≡ true
remainder_some n None positive some = absurd (false≢true some)
remainder_some n (Some x) positive some = by (int_lt (pos 0) n) refl
  where
    by : (b : Bool) → int_lt (pos 0) n ≡ b → is_some (if b then Some (int_rem_euclid x n) else None) ≡ true
    by true e = refl
    by false e = absurd (omega (arith, ints))

same_bound : (past : Bool) (at : Mark) (o : Around) → (within past at o).bound ≡ o.bound
same_bound true at o = refl
same_bound false at o = refl

module _ (good : Parts) (set : Setting)
    (leaves : (o : Around) (at : Mark) (l : Leaf) → is_some o.bound ≡ true → good.leaf l ≡ true → leaf_faults set o at l ≡ [] → is_whole (leaf_kind set.known l) ≡ true → is_some (leaf_number [] l) ≡ true) where
  mutual
    pub bound_some : (o : Around) (t : ResolvedTree) → is_some o.bound ≡ true → is_put_in good t ≡ true → faults set o t ≡ [] → is_whole (kind_of set.known t) ≡ true → is_some (number_in [] t) ≡ true
    bound_some o (tree first at form) there put none whole = form_some o at form there put none whole

    form_some : (o : Around) (at : Mark) (form : Form) → is_some o.bound ≡ true → form_put_in good form ≡ true → form_faults set o at form ≡ [] → is_whole (form_kind set.known form) ≡ true → is_some (form_number [] form) ≡ true
    form_some o at (Form.LeafOf l) there put none whole = leaves o at l there put none whole
    form_some o at (Form.PredicateOf k ts) there put none whole = absurd (false≢true put)
    form_some o at (Form.MisuseOf m ts) there put none whole = absurd (false≢true put)
    form_some o at (Form.Next t) there put none whole = absurd (no_next set o at there (empty_parts (next_faults set.bans o at) _ none).0)
    form_some o at (Form.Prefix word t) there put none whole = absurd (false≢true whole)
    form_some o at (Form.Binary word a b) there put none whole =
        let inner = within (is_past word) at o in
        let tests = and_parts (is_put_in good a) (is_put_in good b) put in
        let left = empty_parts (faults set inner a) _ none in
        let behind = empty_parts (operator_faults set (is_past word) o.next at) _ left.1 in
        let right_side = empty_parts (faults set inner b) (binary_faults word (kind_of set.known a) (kind_of set.known b) at.spot) behind.1 in
        let last = empty_parts (wrong (takes word (kind_of set.known a) (kind_of set.known b)) at.spot) _ right_side.1 in
        let still : is_some inner.bound ≡ true = ap (λ (b : Option Mark). is_some b) (same_bound (is_past word) at o) ∙ there in
        joined_some word (kind_of set.known a) (kind_of set.known b) (number_in [] a) (number_in [] b) (right _ at.spot last.0) whole
        (λ whole. bound_some inner a still tests.0 left.0 whole) (λ whole. bound_some inner b still tests.1 right_side.0 whole)
    form_some o at (Form.Mod t number_at n) there put none whole =
        let left = empty_parts (faults set o t) _ none in
        let more = empty_parts (wrong (is_whole (kind_of set.known t)) at.spot) _ left.1 in
        let last = empty_parts (fault_if (int_le n (pos 0)) 14 number_at) _ more.1 in
        remainder_some n (number_in [] t) (no_fault (int_le n (pos 0)) 14 number_at last.0) (bound_some o t there put left.0 (right _ at.spot more.0))
    form_some o at (Form.And ts operators) there put none whole = absurd (false≢true whole)
    form_some o at (Form.Or ts operators) there put none whole = absurd (false≢true whole)
    form_some o at (Form.Index array count t) there put none whole =
        let left = empty_parts (faults set o t) _ none in absurd (no_variable set o at (is_system set.known array) there (empty_parts (variable_faults set.bans o at (is_system set.known array)) _ left.1).0)
    form_some o at (Form.Quantified word variable extent low high ts) there put none whole = absurd (false≢true whole)
