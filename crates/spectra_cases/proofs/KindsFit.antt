-- The kind of an expression and that of its formula fit: they are the same.
use Rattle.std.proofs.Common.{◌≡◌, ℕ, ◌≤◌, ◌==◌, min, nat_lt, ℤ, pos, Bool, true, false, ◌&&◌, ◌||◌, if◌then◌else◌, List, [], ◌∷◌, ◌++◌, Option, Some, None, refl, sym, ap, subst, ◌∙◌, arith}
use Rattle.std.specs.Prelude.{int_le, int_lt, ◌-ℤ◌}
use Rattle.std.specs.List.{list_all, list_any}
use Rattle.std.proofs.lemmas.Bool.{false≢true, and_parts}
use Rattle.std.proofs.lemmas.Bool.Decides.{nat_tests}
use Rattle.std.proofs.Math.Nat.{min-eq_left}
use Rattle.std.proofs.lemmas.Int.{ints}
use Rattle.spec_model.specs.declared.expr.Compare.{Compare}
use Rattle.spec_model.specs.declared.expr.Compare.TheVariants as compares
use Rattle.spec_model.specs.Typing as model
use Rattle.spec_model.specs.Typing.{truth_if, compared}
use Rattle.spec_model.specs.Syntax.{Formula}
use Rattle.spec_model.specs.Values.{DomainData, TruthValues, WholeNumbers, Enumeration}
use Rattle.spectra_trees.specs.declared.tree.PrefixWord.{PrefixWord}
use Rattle.spectra_trees.specs.declared.tree.PrefixWord.TheVariants as prefixes
use Rattle.spectra_trees.specs.declared.tree.BinaryWord.{BinaryWord}
use Rattle.spectra_trees.specs.declared.tree.BinaryWord.TheVariants as binary
use Rattle.spectra_resolved.specs.declared.spot.Spot.{Spot}
use Rattle.spectra_judge.specs.Findings.{fault_if}
use Rattle.spectra_judge.specs.Kinds.{Kind, Truth, Whole, SomeWhole, NameOf, OneName, Anything, is_truth, is_whole, can_equal, is_wide, added, subtracted, multiplied, reduced}
use Rattle.spectra_judge.specs.Operators.{gives, takes}
use Rattle.spectra_judge.specs.Judged.{wrong, wide, binary_faults}
use Rattle.spectra_judge.specs.PutIn.{domain_kind, has_room}
use Rattle.spectra_cases.specs.Formulas.{prefix_formula, binary_formula}
use Rattle.spectra_judge.proofs.Empty.{empty_parts, no_fault, right}
use Rattle.spectra_judge.proofs.Spans.{narrow, whole-narrow, sum_span, difference_span, product_span}

-- The formula's kind is this one, and the names of a list have numbers of 16 bits, to which that of one name is cut. What isn't
-- known, and what fits everything, is no formula's.
abbrev pub Fits : Kind → Option model.Kind → Type 0
Fits Truth o = o ≡ Some model.Truth
Fits (Whole low high) o = o ≡ Some (model.Whole low high)
Fits (NameOf names) o = (o ≡ Some (model.NameOf names)) × (list_all (λ n. nat_lt n 65_536) names ≡ true)
Fits (OneName name) o = o ≡ Some (model.OneName (min name 65_535))
Fits SomeWhole o = ⊥
Fits Anything o = ⊥

pub truth_fits : (k : Kind) (o : Option model.Kind) → is_truth k ≡ true → Fits k o → o ≡ Some model.Truth
truth_fits Truth o is fits = fits
truth_fits Anything o is fits = absurd fits
truth_fits (Whole low high) o is fits = absurd (false≢true is)
truth_fits SomeWhole o is fits = absurd fits
truth_fits (NameOf names) o is fits = absurd (false≢true is)
truth_fits (OneName name) o is fits = absurd (false≢true is)

-- an interval that fits
pub record IsSpan (k : Kind) (o : Option model.Kind) : Type 0 where
  pub low : ℤ
  pub high : ℤ
  pub kind : k ≡ Whole low high
  pub fits : o ≡ Some (model.Whole low high)

pub whole_fits : (k : Kind) (o : Option model.Kind) → is_whole k ≡ true → Fits k o → IsSpan k o
whole_fits (Whole low high) o is fits = record { low = low; high = high; kind = refl; fits = fits }
whole_fits Truth o is fits = absurd (false≢true is)
whole_fits Anything o is fits = absurd fits
whole_fits SomeWhole o is fits = absurd fits
whole_fits (NameOf names) o is fits = absurd (false≢true is)
whole_fits (OneName name) o is fits = absurd (false≢true is)

-- ---- comparisons

-- two kinds that `=` compares
pub record AreEqual (o p : Option model.Kind) : Type 0 where
  pub first : model.Kind
  pub second : model.Kind
  pub is_first : o ≡ Some first
  pub is_second : p ≡ Some second
  pub compare : model.can_equal first second ≡ true

-- a name of such a list isn't cut
name_kept : (n : ℕ) (names : List ℕ) → list_all (λ k. nat_lt k 65_536) names ≡ true → list_any (λ k. k == n) names ≡ true → Some (model.OneName (min n 65_535)) ≡ Some (model.OneName n)
name_kept n [] room is = absurd (false≢true is)
name_kept n (k ∷ names) room is =
    let parts = and_parts (nat_lt k 65_536) (list_all (λ k. nat_lt k 65_536) names) room in by (k == n) refl parts.0 (name_kept n names parts.1) is
  where
    by : (b : Bool) → (k == n) ≡ b → nat_lt k 65_536 ≡ true → (list_any (λ k. k == n) names ≡ true → Some (model.OneName (min n 65_535)) ≡ Some (model.OneName n)) →
        (b || list_any (λ k. k == n) names) ≡ true → Some (model.OneName (min n 65_535)) ≡ Some (model.OneName n)
    by true same short rest is = let small : n ≤ 65_535 = grind (arith, nat_tests) in ap (λ m. Some (model.OneName m)) (min-eq_left small)
    by false same short rest is = rest is

pub equal_fits : (j k : Kind) (o p : Option model.Kind) → can_equal j k ≡ true → Fits j o → Fits k p → AreEqual o p
equal_fits Truth Truth o p e a b = record { first = model.Truth; second = model.Truth; is_first = a; is_second = b; compare = refl }
equal_fits Truth (Whole c d) o p e a b = absurd (false≢true e)
equal_fits Truth SomeWhole o p e a b = absurd b
equal_fits Truth (NameOf ns) o p e a b = absurd (false≢true e)
equal_fits Truth (OneName n) o p e a b = absurd (false≢true e)
equal_fits Truth Anything o p e a b = absurd b
equal_fits (Whole l h) (Whole c d) o p e a b = record { first = model.Whole l h; second = model.Whole c d; is_first = a; is_second = b; compare = refl }
equal_fits (Whole l h) Truth o p e a b = absurd (false≢true e)
equal_fits (Whole l h) SomeWhole o p e a b = absurd b
equal_fits (Whole l h) (NameOf ns) o p e a b = absurd (false≢true e)
equal_fits (Whole l h) (OneName n) o p e a b = absurd (false≢true e)
equal_fits (Whole l h) Anything o p e a b = absurd b
equal_fits (NameOf ms) (NameOf ns) o p e a b =
    record { first = model.NameOf ms; second = model.NameOf ns; is_first = a.0; is_second = b.0; compare = e }
equal_fits (NameOf ms) (OneName n) o p e a b =
    record { first = model.NameOf ms; second = model.OneName n; is_first = a.0; is_second = b ∙ name_kept n ms a.1 e; compare = e }
equal_fits (NameOf ms) Truth o p e a b = absurd (false≢true e)
equal_fits (NameOf ms) (Whole c d) o p e a b = absurd (false≢true e)
equal_fits (NameOf ms) SomeWhole o p e a b = absurd b
equal_fits (NameOf ms) Anything o p e a b = absurd b
equal_fits (OneName m) (NameOf ns) o p e a b =
    record { first = model.OneName m; second = model.NameOf ns; is_first = a ∙ name_kept m ns b.1 e; is_second = b.0; compare = e }
equal_fits (OneName m) Truth o p e a b = absurd (false≢true e)
equal_fits (OneName m) (Whole c d) o p e a b = absurd (false≢true e)
equal_fits (OneName m) SomeWhole o p e a b = absurd b
equal_fits (OneName m) (OneName n) o p e a b = absurd (false≢true e)
equal_fits (OneName m) Anything o p e a b = absurd b
equal_fits SomeWhole k o p e a b = absurd a
equal_fits Anything k o p e a b = absurd a

compared_equal : (c : Compare) → ((j k : model.Kind) → model.can_compare c j k ≡ model.can_equal j k) → (o p : Option model.Kind) → AreEqual o p → compared c o p ≡ Some model.Truth
compared_equal c same o p are = (λ i. compared c (are.is_first i) (are.is_second i)) ∙ ap truth_if (same are.first are.second ∙ are.compare)

compared_less : (c : Compare) → ((a b d e : ℤ) → model.can_compare c (model.Whole a b) (model.Whole d e) ≡ true) → (j k : Kind) (o p : Option model.Kind) → IsSpan j o → IsSpan k p → compared c o p ≡ Some model.Truth
compared_less c whole j k o p first second = (λ i. compared c (first.fits i) (second.fits i)) ∙ ap truth_if (whole first.low first.high second.low second.high)

-- a variable's kind, and that of its domain
pub domain_fits : (d : DomainData) → has_room (domain_kind d) ≡ true → Fits (domain_kind d) (Some (model.kind_of_domain d))
domain_fits TruthValues room = refl
domain_fits (WholeNumbers low high) room = refl
domain_fits (Enumeration names) room = (refl, room)

-- ---- operators

module _ (sc : model.Scope) where
  pub prefix_fits : (word : PrefixWord) (f : Formula) → model.kind_of sc f ≡ Some model.Truth → model.kind_of sc (prefix_formula word f) ≡ Some model.Truth
  prefix_fits prefixes.Not f is = ap (λ o. truth_if (model.is_truth o)) is
  prefix_fits prefixes.Prev f is = ap (λ o. truth_if (model.is_truth o && true)) is
  prefix_fits prefixes.Once f is = ap (λ o. truth_if (model.is_truth o && true)) is
  prefix_fits prefixes.Historically f is = ap (λ o. truth_if (model.is_truth o && true)) is

  pub remainder_fits : (n : ℤ) (operator at : Spot) (k : Kind) (o : Option model.Kind) → IsSpan k o → fault_if (int_le n (pos 0)) 14 at ++ wide (reduced n) operator ≡ [] → Fits (reduced n) (model.reduced o n)
  remainder_fits n operator at k o span none =
      let parts = empty_parts (fault_if (int_le n (pos 0)) 14 at) (wide (reduced n) operator) none in
      let some = no_fault (int_le n (pos 0)) 14 at parts.0 in
      let above : int_lt (pos 0) n ≡ true = grind (arith, ints) in
      let is : reduced n ≡ Whole (pos 0) (n -ℤ pos 1) = ap (λ b. if b then Whole (pos 0) (n -ℤ pos 1) else SomeWhole) above in
      let ends = narrow (pos 0) (n -ℤ pos 1) (sym (ap is_wide is) ∙ no_fault (is_wide (reduced n)) 14 operator parts.1) in
      subst (λ x. Fits x (model.reduced o n)) (sym is)
      (ap (λ x. model.reduced x n) span.fits
      ∙ ap (λ b. if b then model.whole (pos 0) (n -ℤ pos 1) else None) above
      ∙ whole-narrow (pos 0) (n -ℤ pos 1) ends)

  pub binary_fits : (word : BinaryWord) (at : Spot) (j k : Kind) (f g : Formula) → binary_faults word j k at ≡ [] → Fits j (model.kind_of sc f) → Fits k (model.kind_of sc g)
      → Fits (gives word j k) (model.kind_of sc (binary_formula word f g))
  binary_fits word at j k f g none a b = by word (right (takes word j k) at parts.0) (no_fault (is_wide (gives word j k)) 14 at parts.1)
    where
      parts : (wrong (takes word j k) at ≡ []) × (wide (gives word j k) at ≡ [])
      parts = empty_parts (wrong (takes word j k) at) (wide (gives word j k) at) none

      o : Option model.Kind
      o = model.kind_of sc f

      truths : (is_truth j && is_truth k) ≡ true → (model.kind_of sc f ≡ Some model.Truth) × (model.kind_of sc g ≡ Some model.Truth)
      truths is = let each = and_parts (is_truth j) (is_truth k) is in (truth_fits j (model.kind_of sc f) each.0 a, truth_fits k (model.kind_of sc g) each.1 b)

      spans : (is_whole j && is_whole k) ≡ true → IsSpan j (model.kind_of sc f) × IsSpan k (model.kind_of sc g)
      spans is = let each = and_parts (is_whole j) (is_whole k) is in (whole_fits j (model.kind_of sc f) each.0 a, whole_fits k (model.kind_of sc g) each.1 b)

      by : (word : BinaryWord) → takes word j k ≡ true → is_wide (gives word j k) ≡ false → Fits (gives word j k) (model.kind_of sc (binary_formula word f g))
      by binary.Implies is few = let t = truths is in λ i. truth_if (model.is_truth (t.0 i) && model.is_truth (t.1 i))
      by binary.Iff is few = let t = truths is in λ i. truth_if (model.is_truth (t.0 i) && model.is_truth (t.1 i))
      by binary.Since is few = let t = truths is in λ i. truth_if (model.is_truth (t.0 i) && (model.is_truth (t.1 i) && true))
      by binary.Triggered is few = let t = truths is in λ i. truth_if (model.is_truth (t.0 i) && (model.is_truth (t.1 i) && true))
      by binary.Eq is few = compared_equal compares.Eq (λ j k. refl) (model.kind_of sc f) (model.kind_of sc g) (equal_fits j k (model.kind_of sc f) (model.kind_of sc g) is a b)
      by binary.Ne is few = compared_equal compares.Ne (λ j k. refl) (model.kind_of sc f) (model.kind_of sc g) (equal_fits j k (model.kind_of sc f) (model.kind_of sc g) is a b)
      by binary.Lt is few = let t = spans is in compared_less compares.Lt (λ a b d e. refl) j k (model.kind_of sc f) (model.kind_of sc g) t.0 t.1
      by binary.Le is few = let t = spans is in compared_less compares.Le (λ a b d e. refl) j k (model.kind_of sc f) (model.kind_of sc g) t.0 t.1
      by binary.Gt is few = let t = spans is in compared_less compares.Gt (λ a b d e. refl) j k (model.kind_of sc f) (model.kind_of sc g) t.0 t.1
      by binary.Ge is few = let t = spans is in compared_less compares.Ge (λ a b d e. refl) j k (model.kind_of sc f) (model.kind_of sc g) t.0 t.1
      by binary.Add is few =
          let t = spans is in
          let p = t.0 in
          let q = t.1 in
          subst (λ x. Fits x (model.summed (model.kind_of sc f) (model.kind_of sc g))) (sym (λ i. added (p.kind i) (q.kind i)))
          ((λ i. model.summed (p.fits i) (q.fits i)) ∙ sum_span p.low p.high q.low q.high (sym (λ i. is_wide (added (p.kind i) (q.kind i))) ∙ few))
      by binary.Sub is few =
          let t = spans is in
          let p = t.0 in
          let q = t.1 in
          subst (λ x. Fits x (model.subtracted (model.kind_of sc f) (model.kind_of sc g))) (sym (λ i. subtracted (p.kind i) (q.kind i)))
          ((λ i. model.subtracted (p.fits i) (q.fits i)) ∙ difference_span p.low p.high q.low q.high (sym (λ i. is_wide (subtracted (p.kind i) (q.kind i))) ∙ few))
      by binary.Mul is few =
          let t = spans is in
          let p = t.0 in
          let q = t.1 in
          subst (λ x. Fits x (model.multiplied (model.kind_of sc f) (model.kind_of sc g))) (sym (λ i. multiplied (p.kind i) (q.kind i)))
          ((λ i. model.multiplied (p.fits i) (q.fits i)) ∙ product_span p.low p.high q.low q.high (sym (λ i. is_wide (multiplied (p.kind i) (q.kind i))) ∙ few))
