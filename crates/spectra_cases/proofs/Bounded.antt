-- The bounds of a quantifier without a fault have numbers, so that it is written out.
use Rattle.std.proofs.Common.{◌≡◌, ℤ, pos, ◌+ℤ◌, ◌-ℤ◌, ◌*ℤ◌, Bool, true, false, ◌&&◌, if◌then◌else◌, [], ◌++◌, Option, Some, None, is_some, refl, sym, ap, ◌∙◌, arith}
use Rattle.std.specs.Prelude.{int_le, int_lt}
use Rattle.std.proofs.lemmas.Bool.{false≢true, and_parts}
use Rattle.std.proofs.lemmas.Int.{ints}
use Rattle.std.specs.Int.{int_rem_euclid}
use Rattle.spectra_trees.specs.declared.tree.BinaryWord.{BinaryWord}
use Rattle.spectra_trees.specs.declared.tree.BinaryWord.TheVariants as binary
use Rattle.spectra_resolved.specs.declared.spot.Mark.{Mark}
use Rattle.spectra_resolved.specs.declared.tree.Extent.TheVariants as extents
use Rattle.spectra_resolved.specs.declared.tree.Leaf.{Leaf}
use Rattle.spectra_resolved.specs.Resolved.{ResolvedTree, tree, Form}
use Rattle.spectra_copies.specs.Numbers.{number_in, form_number, leaf_number, both, joined_number, remainder_number}
use Rattle.spectra_copies.specs.Ranges.{is_short, range_of}
use Rattle.spectra_copies.specs.declared.ranges.Range.TheVariants as ranges
use Rattle.spectra_copies.specs.Copies.{extent_of}
use Rattle.spectra_judge.specs.Findings.{fault_if}
use Rattle.spectra_judge.specs.Kinds.{Kind, is_whole, reduced}
use Rattle.spectra_judge.specs.Operators.{takes, gives, is_past}
use Rattle.spectra_judge.specs.declared.standing.Bans.{Bans}
use Rattle.spectra_judge.specs.declared.around.Around.{Around}
use Rattle.spectra_judge.specs.Around.{meeting, under_next, within, in_next, in_past, in_bounds, shifted, next_faults, variable_faults}
use Rattle.spectra_judge.specs.Known.{Setting, is_system}
use Rattle.spectra_judge.specs.Judged.{kind_of, form_kind, leaf_kind, first_of, wrong, wide, binary_faults, remainder_faults, operator_faults, leaf_faults, index_faults, faults, form_faults}
use Rattle.spectra_judge.specs.PutIn.{Parts, is_put_in, form_put_in}
use Rattle.spectra_judge.proofs.Empty.{empty_parts, no_fault, right}

-- ---- what may not stand in bounds

some_is : {X : Type 0} (x : Option X) → is_some x ≡ true → (y : X) × (x ≡ Some y)
some_is (Some y) e = (y, refl)
some_is None e = absurd (false≢true e)

pub free_bounds : (banned : Bool) (n : _) (o : Around) (at : Mark) → is_some o.bound ≡ true → in_bounds banned n o at ≡ [] → banned ≡ false
free_bounds banned n o at e none =
    let outer = some_is o.bound e in
    let same : in_bounds banned n o at ≡ fault_if banned n (meeting outer.0 at at) =
    (λ i. in_bounds banned n (record { next = o.next; past = o.past; brought = o.brought; bound = outer.1 i }) at) in
    no_fault banned n (meeting outer.0 at at) (sym same ∙ none)

pub no_next : {P : Type 0} (bans : Bans) (o : Around) (at : Mark) → is_some o.bound ≡ true → next_faults bans o at ≡ [] → P
no_next bans o at e none =
    let last = in_bounds true 10 o at in
    let parts = empty_parts (fault_if bans.next 10 at.spot) (in_next o.next at ++ (in_past o at.spot ++ last)) none in
    let more = empty_parts (in_next o.next at) (in_past o at.spot ++ last) parts.1 in
    absurd (false≢true (sym (free_bounds true 10 o at e (empty_parts (in_past o at.spot) last more.1).1)))

pub no_variable : {P : Type 0} (bans : Bans) (o : Around) (at : Mark) (system : Bool) → is_some o.bound ≡ true → variable_faults bans o at system ≡ [] → P
no_variable bans o at system e none =
    let last = in_bounds true 9 o at in
    let third = shifted (bans.shifted_system && system) 12 o.next at in
    let second = fault_if (bans.system && system) 13 at.spot in
    let parts = empty_parts (fault_if bans.variable 9 at.spot) (second ++ (third ++ last)) none in
    let more = empty_parts second (third ++ last) parts.1 in
    absurd (false≢true (sym (free_bounds true 9 o at e (empty_parts third last more.1).1)))

-- ---- numbers

both_numbers : (join : ℤ → ℤ → ℤ) (a b : Option ℤ) → is_some a ≡ true → is_some b ≡ true → is_some (both join a b) ≡ true
both_numbers join (Some x) (Some y) e h = refl
both_numbers join (Some x) None e h = absurd (false≢true h)
both_numbers join None b e h = absurd (false≢true e)

remainder_is : (n : ℤ) (a : Option ℤ) → int_lt (pos 0) n ≡ true → is_some a ≡ true → is_some (remainder_number n a) ≡ true
remainder_is n (Some x) e h = ap (λ b. is_some {T = ℤ} (if b then Some (int_rem_euclid x n) else None)) e
remainder_is n None e h = absurd (false≢true h)

module _ (s : Setting) (good : Parts)
    (leaf_numbered : (l : Leaf) (o : Around) (at : Mark) → good.leaf l ≡ true → is_some o.bound ≡ true → leaf_faults s o at l ≡ [] → is_whole (leaf_kind s.known l) ≡ true → is_some (leaf_number [] l) ≡ true) where
  abbrev kind : ResolvedTree → Kind
  kind = kind_of s.known

  -- in the bounds of a quantifier each part that is a whole number has a number
  abbrev pub IsNumbered : ResolvedTree → Type 0
  IsNumbered t = (o : Around) → is_some o.bound ≡ true → is_put_in good t ≡ true → faults s o t ≡ [] → is_whole (kind t) ≡ true → is_some (number_in [] t) ≡ true

  binary_numbered : (word : BinaryWord) (a b : ResolvedTree) (o : Around) (at : Mark) → IsNumbered a → IsNumbered b → is_some o.bound ≡ true → (is_put_in good a ≡ true) × (is_put_in good b ≡ true)
      → faults s (within (is_past word) at o) a ≡ [] → faults s (within (is_past word) at o) b ≡ [] → takes word (kind a) (kind b) ≡ true → is_whole (gives word (kind a) (kind b)) ≡ true
      → is_some (joined_number word (number_in [] a) (number_in [] b)) ≡ true
  binary_numbered binary.Add a b o at first second e put none none' is whole =
      let each = and_parts (is_whole (kind a)) (is_whole (kind b)) is in both_numbers (λ x y. x +ℤ y) (number_in [] a) (number_in [] b) (first o e put.0 none each.0) (second o e put.1 none' each.1)
  binary_numbered binary.Sub a b o at first second e put none none' is whole =
      let each = and_parts (is_whole (kind a)) (is_whole (kind b)) is in both_numbers (λ x y. x -ℤ y) (number_in [] a) (number_in [] b) (first o e put.0 none each.0) (second o e put.1 none' each.1)
  binary_numbered binary.Mul a b o at first second e put none none' is whole =
      let each = and_parts (is_whole (kind a)) (is_whole (kind b)) is in both_numbers (λ x y. x *ℤ y) (number_in [] a) (number_in [] b) (first o e put.0 none each.0) (second o e put.1 none' each.1)
  binary_numbered binary.Implies a b o at first second e put none none' is whole = absurd (false≢true whole)
  binary_numbered binary.Iff a b o at first second e put none none' is whole = absurd (false≢true whole)
  binary_numbered binary.Since a b o at first second e put none none' is whole = absurd (false≢true whole)
  binary_numbered binary.Triggered a b o at first second e put none none' is whole = absurd (false≢true whole)
  binary_numbered binary.Eq a b o at first second e put none none' is whole = absurd (false≢true whole)
  binary_numbered binary.Ne a b o at first second e put none none' is whole = absurd (false≢true whole)
  binary_numbered binary.Lt a b o at first second e put none none' is whole = absurd (false≢true whole)
  binary_numbered binary.Le a b o at first second e put none none' is whole = absurd (false≢true whole)
  binary_numbered binary.Gt a b o at first second e put none none' is whole = absurd (false≢true whole)
  binary_numbered binary.Ge a b o at first second e put none none' is whole = absurd (false≢true whole)

  mutual
    pub numbered : (t : ResolvedTree) → IsNumbered t
    numbered (tree first at form) o e put none whole = form_numbered form o at e put none whole

    form_numbered : (form : Form) (o : Around) (at : Mark) → is_some o.bound ≡ true → form_put_in good form ≡ true → form_faults s o at form ≡ [] → is_whole (form_kind s.known form) ≡ true
        → is_some (form_number [] form) ≡ true
    form_numbered (Form.LeafOf l) o at e put none whole = leaf_numbered l o at put e none whole
    form_numbered (Form.PredicateOf k ts) o at e put none whole = absurd (false≢true put)
    form_numbered (Form.MisuseOf m ts) o at e put none whole = absurd (false≢true put)
    form_numbered (Form.Next t) o at e put none whole = no_next s.bans o at e (empty_parts (next_faults s.bans o at) (faults s (under_next at o) t) none).0
    form_numbered (Form.Prefix word t) o at e put none whole = absurd (false≢true whole)
    form_numbered (Form.Binary word a b) o at e put none whole =
        let past = is_past word in
        let own = binary_faults word (kind a) (kind b) at.spot in
        let parts = empty_parts (faults s (within past at o) a) (operator_faults s past o.next at ++ (faults s (within past at o) b ++ own)) none in
        let more = empty_parts (operator_faults s past o.next at) (faults s (within past at o) b ++ own) parts.1 in
        let last = empty_parts (faults s (within past at o) b) own more.1 in
        let mine = empty_parts (wrong (takes word (kind a) (kind b)) at.spot) (wide (gives word (kind a) (kind b)) at.spot) last.1 in
        binary_numbered word a b o at (numbered a) (numbered b) e (and_parts (is_put_in good a) (is_put_in good b) put) parts.0 last.0 (right (takes word (kind a) (kind b)) at.spot mine.0) whole
    form_numbered (Form.Mod t number_at n) o at e put none whole =
        let parts = empty_parts (faults s o t) (remainder_faults (kind t) at.spot number_at n) none in
        let own = empty_parts (wrong (is_whole (kind t)) at.spot) (fault_if (int_le n (pos 0)) 14 number_at ++ wide (reduced n) at.spot) parts.1 in
        let some = no_fault (int_le n (pos 0)) 14 number_at (empty_parts (fault_if (int_le n (pos 0)) 14 number_at) (wide (reduced n) at.spot) own.1).0 in
        let above : int_lt (pos 0) n ≡ true = grind (arith, ints) in
        remainder_is n (number_in [] t) above (numbered t o e put parts.0 (right (is_whole (kind t)) at.spot own.0))
    form_numbered (Form.And ts operators) o at e put none whole = absurd (false≢true whole)
    form_numbered (Form.Or ts operators) o at e put none whole = absurd (false≢true whole)
    form_numbered (Form.Index first n t) o at e put none whole =
        let parts = empty_parts (faults s o t) (index_faults s o at first n (kind t) (first_of t)) none in
        no_variable s.bans o at (is_system s.known first) e (empty_parts (variable_faults s.bans o at (is_system s.known first)) _ parts.1).0
    form_numbered (Form.Quantified word variable extent low high ts) o at e put none whole = absurd (false≢true whole)

-- bounds with numbers have a range, right or wrong
pub not_open : (a b : Option ℤ) → is_some a ≡ true → is_some b ≡ true → extent_of extents.Open (range_of a b) ≡ extents.Open → ⊥
not_open (Some low) (Some high) e h open_still = by (is_short low high) open_still
  where
    by : (short : Bool) → extent_of extents.Open (if short then ranges.Right low high else ranges.Wrong) ≡ extents.Open → ⊥
    by true same = cc
    by false same = cc
not_open (Some low) None e h open_still = absurd (false≢true h)
not_open None b e h open_still = absurd (false≢true e)
