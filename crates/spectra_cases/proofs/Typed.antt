-- An expression without faults, in which everything is put in and written out, has a formula that is typed.
use Rattle.std.proofs.Common.{◌≡◌, ℕ, zero, suc, ◌+◌, ◌<◌, ◌≤◌, ℤ, pos, Bool, true, false, ◌&&◌, ◌||◌, if◌then◌else◌, List, [], ◌∷◌, ◌++◌, drop, get_or, is_some, Some, refl, sym, ap, subst, ◌∙◌, arith}
use Rattle.std.specs.Prelude.{int_le}
use Rattle.std.proofs.lemmas.Bool.{false≢true, and_parts, and_from, not_from_false}
use Rattle.std.proofs.lemmas.Int.{ints}
use Rattle.spec_model.specs.declared.expr.Compare.TheVariants as compares
use Rattle.spec_model.specs.Syntax.{Formula, Variable, NextOf, Conjunction, Disjunction, Remainder, Formulas, formulas}
use Rattle.spec_model.specs.Typing as model
use Rattle.spec_model.specs.Typing.{truth_if, compared}
use Rattle.spec_model.specs.WellTyped.{is_nested_well, are_nested_well}
use Rattle.spectra_trees.specs.declared.tree.BinaryWord.{BinaryWord}
use Rattle.spectra_resolved.specs.declared.spot.Spot.{Spot}
use Rattle.spectra_resolved.specs.declared.spot.Mark.{Mark}
use Rattle.spectra_resolved.specs.declared.tree.Extent.{Extent}
use Rattle.spectra_resolved.specs.declared.tree.Extent.TheVariants as extents
use Rattle.spectra_resolved.specs.declared.tree.Leaf.{Leaf}
use Rattle.spectra_resolved.specs.declared.tree.QuantifierWord.{QuantifierWord}
use Rattle.spectra_resolved.specs.declared.tree.QuantifierWord.TheVariants as quantifiers
use Rattle.spectra_resolved.specs.Resolved.{ResolvedTree, tree, Form, ResolvedTrees}
use Rattle.spectra_copies.specs.Levels.{is_row_word}
use Rattle.spectra_copies.specs.Numbers.{number_in, leaf_number}
use Rattle.spectra_copies.specs.Ranges.{range_of}
use Rattle.spectra_copies.specs.Copies.{extent_of, written, form_out, each_out}
use Rattle.spectra_judge.specs.Findings.{fault_if}
use Rattle.spectra_judge.specs.Kinds.{Kind, Truth, Anything, is_truth, is_whole, is_outside, reduced}
use Rattle.spectra_judge.specs.Operators.{takes, gives, is_past, is_past_prefix}
use Rattle.spectra_judge.specs.declared.around.Around.{Around}
use Rattle.spectra_judge.specs.Around.{under_next, in_bound, within, next_faults, variable_faults}
use Rattle.spectra_judge.specs.Known.{Known, Setting, is_system}
use Rattle.spectra_judge.specs.Judged.{kind_of, form_kind, leaf_kind, first_of, wrong, wide, binary_faults, remainder_faults, operator_faults, leaf_faults, index_faults, faults, form_faults, operand_faults, copy_faults}
use Rattle.spectra_judge.specs.PutIn.{Parts, is_put_in, form_put_in, each_put_in}
use Rattle.spectra_judge.proofs.Empty.{empty_parts, no_fault, right}
use Rattle.spectra_judge.proofs.Spans.{whole-narrow}
use Rattle.spectra_cases.specs.Formulas.{Reading, One, Here, Outside, reading_of, is_comparing, leaf_formula, prefix_formula, binary_formula, cases_of, numbers_below, chosen, equals, index_side, quantified_formula, side, form_side, each_formula, formula_of}
use Rattle.spectra_cases.proofs.ReadElements.{IsRead, is_read}
use Rattle.spectra_cases.proofs.Bounded.{numbered, not_open}
use Rattle.spectra_cases.proofs.KindsFit.{Fits, truth_fits, whole_fits, prefix_fits, remainder_fits, binary_fits}
use Rattle.spectra_cases.proofs.Words.{row_not_past, comparing_not_past, not_row_gives, truths_taken, truth_made}
use Rattle.spectra_cases.proofs.Nesting.{StandsWell, next_free, prefix_stands, binary_stands}

-- ---- where parts stand

-- A part of a comparison, under a `next` or not: what is open around it, and what is open around the comparison.
pub record IsUnder (u : Bool) (outer o : Around) : Type 0 where
  pub past : o.past ≡ outer.past
  pub next : is_some o.next ≡ (u || is_some outer.next)
  pub free : u ≡ true → (is_some outer.next ≡ false) × (outer.past ≡ false)

pub stays : (o : Around) → IsUnder false o o
stays o = record { past = refl; next = refl; free = λ e. absurd (false≢true e) }

-- so it is in a `next`, in which none is open
deeper : (u : Bool) (outer o : Around) (at : Mark) → IsUnder u outer o → (is_some o.next ≡ false) × (o.past ≡ false) → IsUnder true outer (under_next at o)
deeper true outer o at under free = absurd (false≢true (sym free.0 ∙ under.next))
deeper false outer o at under free = record { past = under.past; next = refl; free = λ e. (sym under.next ∙ free.0, sym under.past ∙ free.1) }

-- a number of an element is a kind of its own
small_whole : (i : ℕ) → i ≤ 1024 → model.whole (pos i) (pos i) ≡ Some (model.Whole (pos i) (pos i))
small_whole i small =
    whole-narrow (pos i) (pos i) (record {
      low_near = (grind (arith, ints), grind (arith, ints));
      high_near = (grind (arith, ints), grind (arith, ints));
      close = grind (arith, ints);
    })

-- ---- formulas where they stand

module _ (sc : model.Scope) (names : ℕ) where
  -- a truth value, and a formula of a kind, that stand well
  pub record IsTruth (o : Around) (f : Formula) : Type 0 where
    pub kind : model.kind_of sc f ≡ Some model.Truth
    pub stands : StandsWell names o f

  pub record IsOfKind (o : Around) (k : Kind) (f : Formula) : Type 0 where
    pub fits : Fits k (model.kind_of sc f)
    pub stands : StandsWell names o f

  pub truth_of_kind : (o : Around) (k : Kind) (f : Formula) → k ≡ Truth → IsTruth o f → IsOfKind o k f
  truth_of_kind o k f e is = record { fits = subst (λ j. Fits j (model.kind_of sc f)) (sym e) is.kind; stands = is.stands }

  equation_truth : (u : Bool) (outer o : Around) → IsUnder u outer o → (k : Kind) (f : Formula) → is_whole k ≡ true → IsOfKind o k f → (i : ℕ) → i ≤ 1024 → IsTruth outer (equals u f i)
  equation_truth true outer o under k f whole is i small =
      let span = whole_fits k (model.kind_of sc f) whole is.fits in
      let free = under.free refl in
      let inner : is_nested_well names true outer.past f ≡ true = sym (λ j. is_nested_well names (under.next j) (under.past j) f) ∙ is.stands in
      record {
        kind = λ j. compared compares.Eq (span.fits j) (small_whole i small j);
        stands = and_from _ _ (and_from _ _ (not_from_false (is_some outer.next) free.0) (and_from _ _ (not_from_false outer.past free.1) inner)) refl;
      }
  equation_truth false outer o under k f whole is i small =
      let span = whole_fits k (model.kind_of sc f) whole is.fits in
      let inner : is_nested_well names (is_some outer.next) outer.past f ≡ true = sym (λ j. is_nested_well names (under.next j) (under.past j) f) ∙ is.stands in
      record {
        kind = λ j. compared compares.Eq (span.fits j) (small_whole i small j);
        stands = and_from _ _ inner refl;
      }

  -- several truth values
  pub record AreTruths (o : Around) (fs : Formulas) : Type 0 where
    pub kinds : model.are_truths sc fs ≡ true
    pub stand : are_nested_well names (is_some o.next) o.past fs ≡ true

  more_truths : (o : Around) (f : Formula) (fs : Formulas) → IsTruth o f → AreTruths o fs → AreTruths o (Formulas.one_more f fs)
  more_truths o f fs is are = record { kinds = and_from _ _ (ap model.is_truth is.kind) are.kinds; stand = and_from _ _ is.stands are.stand }

  conjunction_truth : (o : Around) (fs : Formulas) → AreTruths o fs → IsTruth o (Conjunction fs)
  conjunction_truth o fs are = record { kind = ap truth_if are.kinds; stands = are.stand }

  disjunction_truth : (o : Around) (fs : Formulas) → AreTruths o fs → IsTruth o (Disjunction fs)
  disjunction_truth o fs are = record { kind = ap truth_if are.kinds; stands = are.stand }

  quantified_truth : (o : Around) (word : QuantifierWord) (fs : Formulas) → AreTruths o fs → IsTruth o (quantified_formula word fs)
  quantified_truth o quantifiers.ForAll fs are = conjunction_truth o fs are
  quantified_truth o quantifiers.Exists fs are = disjunction_truth o fs are

  -- each case of an index
  module _ (o : Around) (is_number with_element : ℕ → Formula) (first n : ℕ) (equations : (i : ℕ) → i < n → IsTruth o (is_number i)) (elements : (i : ℕ) → i < n → IsTruth o (with_element (first + i))) where
    cases_truth : (from m : ℕ) → from + m ≤ n → AreTruths o (formulas (cases_of is_number with_element first (numbers_below from m)))
    cases_truth from zero few = record { kinds = refl; stand = refl }
    cases_truth from (suc m) few =
        let case = more_truths o (is_number from) (formulas (with_element (first + from) ∷ [])) (equations from (omega arith))
        (more_truths o (with_element (first + from)) Formulas.none (elements from (omega arith)) (record { kinds = refl; stand = refl })) in
        more_truths o _ (formulas (cases_of is_number with_element first (numbers_below (suc from) m))) (conjunction_truth o _ case) (cases_truth (suc from) m (omega arith))

    pub chosen_truth : IsTruth o (chosen is_number with_element first n)
    chosen_truth = disjunction_truth o _ (cases_truth 0 n (omega arith))

-- ---- expressions

-- what stands in an expression besides is sound: the formula of a part without parts has its kind, and so have an array's elements
module _ (s : Setting) (sc : model.Scope) (names p : ℕ) (good : Parts) where
  abbrev known : Known
  known = s.known

  pub record IsSoundArray (first n : ℕ) : Type 0 where
    pub some : 0 < n
    pub few : n ≤ 1024
    pub elements : (i : ℕ) → i < n → Fits (get_or known.variables first Anything) (model.kind_of sc (Variable (first + i)))

  pub record AreSound : Type 0 where
    pub leaf : (l : Leaf) (o : Around) (at : Mark) → good.leaf l ≡ true → leaf_faults s o at l ≡ [] → IsOfKind sc names o (leaf_kind known l) (leaf_formula p l)
    pub number : (l : Leaf) (o : Around) (at : Mark) → good.leaf l ≡ true → is_some o.bound ≡ true → leaf_faults s o at l ≡ [] → is_whole (leaf_kind known l) ≡ true → is_some (leaf_number [] l) ≡ true
    pub array : (first n : ℕ) → good.array first n ≡ true → IsSoundArray first n

  module _ (sound_parts : AreSound) where
    abbrev kind : ResolvedTree → Kind
    kind = kind_of known

    -- what is made of a part is typed, where it is of each formula of the part's kind
    abbrev pub IsSound : ResolvedTree → Type 0
    IsSound t = (u : Bool) (outer o : Around) → IsUnder u outer o → is_put_in good t ≡ true → written [] [] t ≡ t → faults s o t ≡ [] → (make : Formula → Formula)
        → ((f : Formula) → IsOfKind sc names o (kind t) f → IsTruth sc names outer (make f)) → IsTruth sc names outer (side known p t u make)

    pub formula_truth : (t : ResolvedTree) → IsSound t → (o : Around) → is_put_in good t ≡ true → written [] [] t ≡ t → faults s o t ≡ [] → is_truth (kind t) ≡ true → IsTruth sc names o (formula_of known p t)
    formula_truth t is o put out none truth =
        is false o o (stays o) put out none (λ f. f) (λ f made. record { kind = truth_fits (kind t) (model.kind_of sc f) truth made.fits; stands = made.stands })

    -- ---- operators between two operands

    module _ (word : BinaryWord) (a b : ResolvedTree) (first : IsSound a) (second : IsSound b) (u : Bool) (outer o : Around) (under : IsUnder u outer o) (at : Mark)
        (put : (is_put_in good a ≡ true) × (is_put_in good b ≡ true)) (out_a : written [] [] a ≡ a) (out_b : written [] [] b ≡ b)
        (none_a : faults s (within (is_past word) at o) a ≡ []) (none_b : faults s (within (is_past word) at o) b ≡ [])
        (none : operator_faults s (is_past word) o.next at ≡ []) (own : binary_faults word (kind a) (kind b) at.spot ≡ []) where
      -- an operator that isn't one of the past, between two formulas
      pair_of_kind : is_past word ≡ false → (f g : Formula) → IsOfKind sc names o (kind a) f → IsOfKind sc names o (kind b) g
          → IsOfKind sc names o (gives word (kind a) (kind b)) (binary_formula word f g)
      pair_of_kind now f g is_f is_g =
          let inside : o ≡ within (is_past word) at o = sym (ap (λ past. within past at o) now) in
          record {
            fits = binary_fits sc word at.spot (kind a) (kind b) f g own is_f.fits is_g.fits;
            stands = binary_stands s names o at word f g none (subst (λ x. StandsWell names x f) inside is_f.stands) (subst (λ x. StandsWell names x g) inside is_g.stands);
          }

      pair_truth : (w : Bool) (around : Around) → IsUnder w around o → is_past word ≡ false → (make : Formula → Formula → Formula)
          → ((f g : Formula) → IsOfKind sc names o (kind a) f → IsOfKind sc names o (kind b) g → IsTruth sc names around (make f g))
          → IsTruth sc names around (side known p a w (λ f. side known p b w (λ g. make f g)))
      pair_truth w around under_it now make makes =
          let inside : within (is_past word) at o ≡ o = ap (λ past. within past at o) now in
          first w around o under_it put.0 out_a (subst (λ x. faults s x a ≡ []) inside none_a) (λ f. side known p b w (λ g. make f g))
          (λ f is_f. second w around o under_it put.1 out_b (subst (λ x. faults s x b ≡ []) inside none_b) (make f) (λ g is_g. makes f g is_f is_g))

      pub binary_sound : (row comparing : Bool) → is_row_word word ≡ row → is_comparing word ≡ comparing → (make : Formula → Formula)
          → ((f : Formula) → IsOfKind sc names o (gives word (kind a) (kind b)) f → IsTruth sc names outer (make f))
          → IsTruth sc names outer (if row then side known p a u (λ f. side known p b u (λ g. make (binary_formula word f g)))
          else (if comparing then make (side known p a false (λ f. side known p b false (λ g. binary_formula word f g)))
          else make (binary_formula word (side known p a false (λ f. f)) (side known p b false (λ g. g)))))
      binary_sound true comparing is_row is_comparing make makes =
          let now = row_not_past word is_row in
          pair_truth u outer under now (λ f g. make (binary_formula word f g)) (λ f g is_f is_g. makes (binary_formula word f g) (pair_of_kind now f g is_f is_g))
      binary_sound false true is_row is_comparing make makes =
          let now = comparing_not_past word is_comparing in
          let truth = not_row_gives word (kind a) (kind b) is_row in
          let whole = pair_truth false o (stays o) now (binary_formula word)
          (λ f g is_f is_g. let made = pair_of_kind now f g is_f is_g in
          record { kind = subst (λ j. Fits j (model.kind_of sc (binary_formula word f g))) truth made.fits; stands = made.stands }) in
          makes _ (truth_of_kind sc names o (gives word (kind a) (kind b)) _ truth whole)
      binary_sound false false is_row is_comparing make makes =
          let taken = right (takes word (kind a) (kind b)) at.spot (empty_parts (wrong (takes word (kind a) (kind b)) at.spot) (wide (gives word (kind a) (kind b)) at.spot) own).0 in
          let truths = truths_taken word (kind a) (kind b) is_row is_comparing taken in
          let inner = within (is_past word) at o in
          let f = formula_truth a first inner put.0 out_a none_a truths.0 in
          let g = formula_truth b second inner put.1 out_b none_b truths.1 in
          makes _ (truth_of_kind sc names o (gives word (kind a) (kind b)) _ (not_row_gives word (kind a) (kind b) is_row) (record {
            kind = truth_made sc word (formula_of known p a) (formula_of known p b) is_row is_comparing f.kind g.kind;
            stands = binary_stands s names o at word (formula_of known p a) (formula_of known p b) none f.stands g.stands;
          }))

    -- ---- elements of arrays

    array_truths : (first n : ℕ) (o : Around) → IsSoundArray first n → get_or known.variables first Anything ≡ Truth → (i : ℕ) → i < n → IsTruth sc names o (Variable (first + i))
    array_truths first n o array truth i below = record { kind = subst (λ j. Fits j (model.kind_of sc (Variable (first + i)))) truth (array.elements i below); stands = refl }

    index_sound : (first n : ℕ) (t : ResolvedTree) → IsSound t → (u : Bool) (outer o : Around) → IsUnder u outer o → IsSoundArray first n → is_put_in good t ≡ true → written [] [] t ≡ t → faults s o t ≡ []
        → is_whole (kind t) ≡ true → (make : Formula → Formula) → ((f : Formula) → IsOfKind sc names o (get_or known.variables first Anything) f → IsTruth sc names outer (make f))
        → (r : Reading) → IsRead (get_or known.variables first Anything) first n r
        → IsTruth sc names outer (index_side r first n (λ i. side known p t false (λ f. equals false f i)) (λ i. side known p t u (λ f. equals u f i)) make)
    index_sound first n t is u outer o under array put out none whole make makes (One v) read =
        makes (Variable v) (record {
          fits = subst (λ j. Fits (get_or known.variables first Anything) (model.kind_of sc (Variable j))) (sym read.same) (array.elements read.number read.inside);
          stands = refl;
        })
    index_sound first n t is u outer o under array put out none whole make makes Here read =
        makes _ (truth_of_kind sc names o (get_or known.variables first Anything) _ read
        (chosen_truth sc names o (λ i. side known p t false (λ f. equals false f i)) Variable first n
        (λ i below. is false o o (stays o) put out none (λ f. equals false f i) (λ f made. equation_truth sc names false o o (stays o) (kind t) f whole made i (omega (arith, array.few))))
        (array_truths first n o array read)))
    index_sound first n t is u outer o under array put out none whole make makes Outside read =
        chosen_truth sc names outer (λ i. side known p t u (λ f. equals u f i)) (λ v. make (Variable v)) first n
        (λ i below. is u outer o under put out none (λ f. equals u f i) (λ f made. equation_truth sc names u outer o under (kind t) f whole made i (omega (arith, array.few))))
        (λ i below. makes (Variable (first + i)) (record { fits = array.elements i below; stands = refl }))

    -- ---- parts of what is written out

    tree_out : (first : Spot) (at : Mark) (form other : Form) → tree first at form ≡ tree first at other → form ≡ other
    tree_out first at form other same = cc

    next_out : (t t' : ResolvedTree) → Form.Next t ≡ Form.Next t' → t ≡ t'
    next_out t t' same = cc

    prefix_out : (word : _) (t t' : ResolvedTree) → Form.Prefix word t ≡ Form.Prefix word t' → t ≡ t'
    prefix_out word t t' same = cc

    binary_out : (word : BinaryWord) (a b a' b' : ResolvedTree) → Form.Binary word a b ≡ Form.Binary word a' b' → (a ≡ a') × (b ≡ b')
    binary_out word a b a' b' same = (cc, cc)

    mod_out : (at : Spot) (n : ℤ) (t t' : ResolvedTree) → Form.Mod t at n ≡ Form.Mod t' at n → t ≡ t'
    mod_out at n t t' same = cc

    and_out : (operators : List Spot) (ts ts' : ResolvedTrees) → Form.And ts operators ≡ Form.And ts' operators → ts ≡ ts'
    and_out operators ts ts' same = cc

    or_out : (operators : List Spot) (ts ts' : ResolvedTrees) → Form.Or ts operators ≡ Form.Or ts' operators → ts ≡ ts'
    or_out operators ts ts' same = cc

    index_out : (first n : ℕ) (t t' : ResolvedTree) → Form.Index first n t ≡ Form.Index first n t' → t ≡ t'
    index_out first n t t' same = cc

    more_out : (t t' : ResolvedTree) (ts ts' : ResolvedTrees) → ResolvedTrees.one_more t ts ≡ ResolvedTrees.one_more t' ts' → (t ≡ t') × (ts ≡ ts')
    more_out t t' ts ts' same = (cc, cc)

    record QuantifiedOut (e e' : Extent) (l l' h h' : ResolvedTree) (ts ts' : ResolvedTrees) : Type 0 where
      pub extent : e ≡ e'
      pub low : l ≡ l'
      pub high : h ≡ h'
      pub copies : ts ≡ ts'

    quantified_out : (word : QuantifierWord) (variable : Spot) (e e' : Extent) (low low' high high' : ResolvedTree) (ts ts' : ResolvedTrees)
        → Form.Quantified word variable e low high ts ≡ Form.Quantified word variable e' low' high' ts' → QuantifiedOut e e' low low' high high' ts ts'
    quantified_out word variable e e' low low' high high' ts ts' same = record { extent = cc; low = cc; high = cc; copies = cc }

    bound_number : (t : ResolvedTree) (at : Mark) (o : Around) → is_put_in good t ≡ true → faults s (in_bound at o) t ++ wrong (is_whole (kind t)) (first_of t) ≡ [] → is_some (number_in [] t) ≡ true
    bound_number t at o put none =
        let parts = empty_parts (faults s (in_bound at o) t) (wrong (is_whole (kind t)) (first_of t)) none in
        numbered s good sound_parts.number t (in_bound at o) refl put parts.0 (right (is_whole (kind t)) (first_of t) parts.1)

    mutual
      pub sound : (t : ResolvedTree) → IsSound t
      sound (tree first at form) u outer o under put out none make makes = form_sound form u outer o under at put (tree_out first at (form_out [] [] form) form out) none make makes

      form_sound : (form : Form) (u : Bool) (outer o : Around) → IsUnder u outer o → (at : Mark) → form_put_in good form ≡ true → form_out [] [] form ≡ form → form_faults s o at form ≡ [] → (make : Formula → Formula)
          → ((f : Formula) → IsOfKind sc names o (form_kind known form) f → IsTruth sc names outer (make f)) → IsTruth sc names outer (form_side known p form u make)
      form_sound (Form.LeafOf l) u outer o under at put out none make makes = makes (leaf_formula p l) (sound_parts.leaf l o at put none)
      form_sound (Form.PredicateOf k ts) u outer o under at put out none make makes = absurd (false≢true put)
      form_sound (Form.MisuseOf m ts) u outer o under at put out none make makes = absurd (false≢true put)
      form_sound (Form.Next t) u outer o under at put out none make makes =
          let parts = empty_parts (next_faults s.bans o at) (faults s (under_next at o) t) none in
          let free = next_free s.bans o at parts.0 in
          sound t true outer (under_next at o) (deeper u outer o at under free) put (next_out (written [] [] t) t out) parts.1 (λ f. make (NextOf f))
          (λ f made. makes (NextOf f) (record {
            fits = made.fits;
            stands = and_from _ _ (not_from_false (is_some o.next) free.0) (and_from _ _ (not_from_false o.past free.1) made.stands);
          }))
      form_sound (Form.Prefix word t) u outer o under at put out none make makes =
          let past = is_past_prefix word in
          let parts = empty_parts (operator_faults s past o.next at) (faults s (within past at o) t ++ wrong (is_truth (kind t)) at.spot) none in
          let more = empty_parts (faults s (within past at o) t) (wrong (is_truth (kind t)) at.spot) parts.1 in
          let is = formula_truth t (sound t) (within past at o) put (prefix_out word (written [] [] t) t out) more.0 (right (is_truth (kind t)) at.spot more.1) in
          makes (prefix_formula word (formula_of known p t)) (record {
            fits = prefix_fits sc word (formula_of known p t) is.kind;
            stands = prefix_stands s names o at word (formula_of known p t) parts.0 is.stands;
          })
      form_sound (Form.Binary word a b) u outer o under at put out none make makes =
          let past = is_past word in
          let own = binary_faults word (kind a) (kind b) at.spot in
          let parts = empty_parts (faults s (within past at o) a) (operator_faults s past o.next at ++ (faults s (within past at o) b ++ own)) none in
          let more = empty_parts (operator_faults s past o.next at) (faults s (within past at o) b ++ own) parts.1 in
          let last = empty_parts (faults s (within past at o) b) own more.1 in
          let outs = binary_out word (written [] [] a) (written [] [] b) a b out in
          binary_sound word a b (sound a) (sound b) u outer o under at (and_parts (is_put_in good a) (is_put_in good b) put) outs.0 outs.1 parts.0 last.0 more.0 last.1
          (is_row_word word) (is_comparing word) refl refl make makes
      form_sound (Form.Mod t number_at n) u outer o under at put out none make makes =
          let parts = empty_parts (faults s o t) (remainder_faults (kind t) at.spot number_at n) none in
          let own = empty_parts (wrong (is_whole (kind t)) at.spot) (fault_if (int_le n (pos 0)) 14 number_at ++ wide (reduced n) at.spot) parts.1 in
          sound t u outer o under put (mod_out number_at n (written [] [] t) t out) parts.0 (λ f. make (Remainder f n))
          (λ f made. makes (Remainder f n) (record {
            fits = remainder_fits sc n at.spot number_at (kind t) (model.kind_of sc f) (whole_fits (kind t) (model.kind_of sc f) (right (is_whole (kind t)) at.spot own.0) made.fits) own.1;
            stands = made.stands;
          }))
      form_sound (Form.And ts operators) u outer o under at put out none make makes =
          let is = conjunction_truth sc names o _ (each_sound ts o at.spot (at.spot ∷ operators) put (and_out operators (each_out [] [] ts) ts out) none) in
          makes _ (record { fits = is.kind; stands = is.stands })
      form_sound (Form.Or ts operators) u outer o under at put out none make makes =
          let is = disjunction_truth sc names o _ (each_sound ts o at.spot (at.spot ∷ operators) put (or_out operators (each_out [] [] ts) ts out) none) in
          makes _ (record { fits = is.kind; stands = is.stands })
      form_sound (Form.Index first n t) u outer o under at put out none make makes =
          let puts = and_parts (good.array first n) (is_put_in good t) put in
          let array = sound_parts.array first n puts.0 in
          let parts = empty_parts (faults s o t) (index_faults s o at first n (kind t) (first_of t)) none in
          let own = empty_parts (variable_faults s.bans o at (is_system known first)) (wrong (is_whole (kind t)) (first_of t) ++ fault_if (is_outside n (kind t)) 25 at.spot) parts.1 in
          let last = empty_parts (wrong (is_whole (kind t)) (first_of t)) (fault_if (is_outside n (kind t)) 25 at.spot) own.1 in
          index_sound first n t (sound t) u outer o under array puts.1 (index_out first n (written [] [] t) t out) parts.0 (right (is_whole (kind t)) (first_of t) last.0) make makes
          (reading_of (get_or known.variables first Anything) first n (kind t))
          (is_read (get_or known.variables first Anything) first n (kind t) array.some (no_fault (is_outside n (kind t)) 25 at.spot last.1))
      form_sound (Form.Quantified word variable extents.Right low high ts) u outer o under at put out none make makes =
          let outs = quantified_out word variable _ extents.Right (written [] [] low) low (written [] [] high) high (each_out [] [] ts) ts out in
          let bounds = (faults s (in_bound at o) low ++ wrong (is_whole (kind low)) (first_of low)) ++ (faults s (in_bound at o) high ++ wrong (is_whole (kind high)) (first_of high)) in
          let parts = empty_parts bounds (copy_faults s o ts) none in
          let puts = and_parts (is_put_in good high) (each_put_in good ts) (and_parts (is_put_in good low) (is_put_in good high && each_put_in good ts) put).1 in
          let is = quantified_truth sc names o word _ (copies_sound ts o puts.1 outs.copies parts.1) in
          makes _ (record { fits = is.kind; stands = is.stands })
      form_sound (Form.Quantified word variable extents.Wrong low high ts) u outer o under at put out none make makes =
          let bounds = (faults s (in_bound at o) low ++ wrong (is_whole (kind low)) (first_of low)) ++ (faults s (in_bound at o) high ++ wrong (is_whole (kind high)) (first_of high)) in
          let parts = empty_parts bounds (fault_if true 14 at.spot ++ copy_faults s o ts) none in
          let own = empty_parts (fault_if true 14 at.spot) (copy_faults s o ts) parts.1 in
          absurd (false≢true (sym (no_fault true 14 at.spot own.0)))
      form_sound (Form.Quantified word variable extents.Open low high ts) u outer o under at put out none make makes =
          let outs = quantified_out word variable (extent_of extents.Open (range_of (number_in [] (written [] [] low)) (number_in [] (written [] [] high)))) extents.Open
          (written [] [] low) low (written [] [] high) high _ ts out in
          let first = faults s (in_bound at o) low ++ wrong (is_whole (kind low)) (first_of low) in
          let second = faults s (in_bound at o) high ++ wrong (is_whole (kind high)) (first_of high) in
          let bounds = empty_parts first second (empty_parts (first ++ second) (copy_faults s o ts) none).0 in
          let puts = and_parts (is_put_in good low) _ put in
          let more = and_parts (is_put_in good high) _ puts.1 in
          absurd (not_open (number_in [] low) (number_in [] high) (bound_number low at o puts.0 bounds.0) (bound_number high at o more.0 bounds.1)
          (sym (λ i. extent_of extents.Open (range_of (number_in [] (outs.low i)) (number_in [] (outs.high i)))) ∙ outs.extent))

      each_sound : (ts : ResolvedTrees) (o : Around) (at : Spot) (operators : List Spot) → each_put_in good ts ≡ true → each_out [] [] ts ≡ ts → operand_faults s o at operators ts ≡ []
          → AreTruths sc names o (each_formula known p ts)
      each_sound ResolvedTrees.none o at operators put out none = record { kinds = refl; stand = refl }
      each_sound (ResolvedTrees.one_more t ts) o at operators put out none =
          let own = wrong (is_truth (kind t)) (get_or operators 0 at) in
          let parts = empty_parts (faults s o t) (own ++ operand_faults s o at (drop 1 operators) ts) none in
          let more = empty_parts own (operand_faults s o at (drop 1 operators) ts) parts.1 in
          let puts = and_parts (is_put_in good t) (each_put_in good ts) put in
          let outs = more_out (written [] [] t) t (each_out [] [] ts) ts out in
          more_truths sc names o (formula_of known p t) (each_formula known p ts) (formula_truth t (sound t) o puts.0 outs.0 parts.0 (right (is_truth (kind t)) (get_or operators 0 at) more.0))
          (each_sound ts o at (drop 1 operators) puts.1 outs.1 more.1)

      copies_sound : (ts : ResolvedTrees) (o : Around) → each_put_in good ts ≡ true → each_out [] [] ts ≡ ts → copy_faults s o ts ≡ [] → AreTruths sc names o (each_formula known p ts)
      copies_sound ResolvedTrees.none o put out none = record { kinds = refl; stand = refl }
      copies_sound (ResolvedTrees.one_more t ts) o put out none =
          let own = wrong (is_truth (kind t)) (first_of t) in
          let parts = empty_parts (faults s o t) (own ++ copy_faults s o ts) none in
          let more = empty_parts own (copy_faults s o ts) parts.1 in
          let puts = and_parts (is_put_in good t) (each_put_in good ts) put in
          let outs = more_out (written [] [] t) t (each_out [] [] ts) ts out in
          more_truths sc names o (formula_of known p t) (each_formula known p ts) (formula_truth t (sound t) o puts.0 outs.0 parts.0 (right (is_truth (kind t)) (first_of t) more.0))
          (copies_sound ts o puts.1 outs.1 more.1)
