-- The formula of a part is made of elements that are picked for its indexes, with their cases around it.
use Rattle.std.proofs.Common.{◌≡◌, ℕ, zero, suc, ◌+◌, ◌-◌, ◌≤◌, Bool, true, false, if◌then◌else◌, List, [], ◌∷◌, ◌++◌, length, drop, get_or, refl, sym, ap, ◌∙◌, arith, length-append}
use Rattle.spec_model.specs.Syntax.{Formula, NextOf, Remainder}
use Rattle.spectra_trees.specs.declared.tree.BinaryWord.{BinaryWord}
use Rattle.spectra_resolved.specs.Resolved.{ResolvedTree, tree, Form}
use Rattle.spectra_copies.specs.Levels.{is_row_word}
use Rattle.spectra_judge.specs.Kinds.{Anything}
use Rattle.spectra_judge.specs.Known.{Known}
use Rattle.spectra_judge.specs.Judged.{kind_of}
use Rattle.spectra_cases.specs.Formulas.{Reading, One, Here, Outside, reading_of, is_comparing, binary_formula, chosen, index_side, side, form_side, formula_of}
use Rattle.spectra_cases.specs.Choices.{ChoiceOf, choice_of, choices, form_choices, equation_of, index_built, operated, built, form_built, spread}

-- ---- the elements of a list that are left behind so many

pub dropped-append : (vs ws : List ℕ) (n : ℕ) → n ≤ length vs → drop n (vs ++ ws) ≡ drop n vs ++ ws
dropped-append vs ws zero less = refl
dropped-append [] ws (suc n) less = absurd (omega arith)
dropped-append (v ∷ vs) ws (suc n) less = dropped-append vs ws n (omega arith)

pub dropped_all : (vs ws : List ℕ) (n : ℕ) → n ≡ length vs → drop n (vs ++ ws) ≡ ws
dropped_all [] ws zero same = refl
dropped_all [] ws (suc n) same = absurd (omega arith)
dropped_all (v ∷ vs) ws zero same = absurd (omega arith)
dropped_all (v ∷ vs) ws (suc n) same = dropped_all vs ws n (omega arith)

dropped_long : (vs : List ℕ) (n m : ℕ) → n + m ≤ length vs → m ≤ length (drop n vs)
dropped_long vs zero m less = omega arith
dropped_long [] (suc n) m less = absurd (omega arith)
dropped_long (v ∷ vs) (suc n) m less = dropped_long vs n m (omega arith)

both_long : (row : Bool) (xs ys cs ds : List ChoiceOf) → length xs ≡ length cs → length ys ≡ length ds → length (if row then xs ++ ys else []) ≡ length (if row then cs ++ ds else [])
both_long true xs ys cs ds e h = let first = length-append xs ys in let second = length-append cs ds in omega arith
both_long false xs ys cs ds e h = refl

module _ (k : Known) where
  -- ---- there are as many indexes under a `next`

  choice_long : (r : Reading) (first n : ℕ) (t : ResolvedTree) (u w : Bool) → length (choice_of r u first n t) ≡ length (choice_of r w first n t)
  choice_long (One v) first n t u w = refl
  choice_long Here first n t u w = refl
  choice_long Outside first n t u w = refl

  mutual
    pub choices_long : (t : ResolvedTree) (u w : Bool) → length (choices k t u) ≡ length (choices k t w)
    choices_long (tree first at form) u w = form_long form u w

    pub form_long : (form : Form) (u w : Bool) → length (form_choices k form u) ≡ length (form_choices k form w)
    form_long (Form.LeafOf l) u w = refl
    form_long (Form.PredicateOf number ts) u w = refl
    form_long (Form.MisuseOf m ts) u w = refl
    form_long (Form.Next t) u w = refl
    form_long (Form.Prefix word t) u w = refl
    form_long (Form.Binary word a b) u w = both_long (is_row_word word) (choices k a u) (choices k b u) (choices k a w) (choices k b w) (choices_long a u w) (choices_long b u w)
    form_long (Form.Mod t number_at n) u w = choices_long t u w
    form_long (Form.And ts operators) u w = refl
    form_long (Form.Or ts operators) u w = refl
    form_long (Form.Index first n t) u w = choice_long (reading_of (get_or k.variables first Anything) first n (kind_of k t)) first n t u w
    form_long (Form.Quantified word variable extent low high ts) u w = refl

  module _ (p : ℕ) where
    -- ---- only so many picked elements are read

    index_enough : (r : Reading) (first n : ℕ) (t : ResolvedTree) (vs ws : List ℕ) → length (choice_of r false first n t) ≤ length vs → index_built k p r first n t (vs ++ ws) ≡ index_built k p r first n t vs
    index_enough (One v) first n t vs ws enough = refl
    index_enough Here first n t vs ws enough = refl
    index_enough Outside first n t [] ws enough = absurd (omega arith)
    index_enough Outside first n t (v ∷ vs) ws enough = refl

    pair_enough : (row : Bool) (word : BinaryWord) (a b : ResolvedTree) (vs ws : List ℕ)
        → ((xs ys : List ℕ) → length (choices k a false) ≤ length xs → built k p a (xs ++ ys) ≡ built k p a xs)
        → ((xs ys : List ℕ) → length (choices k b false) ≤ length xs → built k p b (xs ++ ys) ≡ built k p b xs)
        → length (if row then choices k a false ++ choices k b false else []) ≤ length vs
        → (if row then binary_formula word (built k p a (vs ++ ws)) (built k p b (drop (length (choices k a false)) (vs ++ ws))) else operated k p word a b)
        ≡ (if row then binary_formula word (built k p a vs) (built k p b (drop (length (choices k a false)) vs)) else operated k p word a b)
    pair_enough true word a b vs ws first_enough second_enough long =
        let n = length (choices k a false) in
        let m = length (choices k b false) in
        let both = length-append (choices k a false) (choices k b false) in
        let first = first_enough vs ws (omega (arith, both, long)) in
        let left : m ≤ length (drop n vs) = dropped_long vs n m (omega (arith, both, long)) in
        let second = ap (built k p b) (dropped-append vs ws n (omega (arith, both, long))) ∙ second_enough (drop n vs) ws left in
        λ i. binary_formula word (first i) (second i)
    pair_enough false word a b vs ws first_enough second_enough long = refl

    mutual
      pub built_enough : (t : ResolvedTree) (vs ws : List ℕ) → length (choices k t false) ≤ length vs → built k p t (vs ++ ws) ≡ built k p t vs
      built_enough (tree first at form) vs ws enough = form_enough form vs ws enough

      form_enough : (form : Form) (vs ws : List ℕ) → length (form_choices k form false) ≤ length vs → form_built k p form (vs ++ ws) ≡ form_built k p form vs
      form_enough (Form.LeafOf l) vs ws enough = refl
      form_enough (Form.PredicateOf number ts) vs ws enough = refl
      form_enough (Form.MisuseOf m ts) vs ws enough = refl
      form_enough (Form.Next t) vs ws enough = let long = choices_long t true false in ap NextOf (built_enough t vs ws (omega (arith, long, enough)))
      form_enough (Form.Prefix word t) vs ws enough = refl
      form_enough (Form.Binary word a b) vs ws enough = pair_enough (is_row_word word) word a b vs ws (built_enough a) (built_enough b) enough
      form_enough (Form.Mod t number_at n) vs ws enough = ap (λ f. Remainder f n) (built_enough t vs ws enough)
      form_enough (Form.And ts operators) vs ws enough = refl
      form_enough (Form.Or ts operators) vs ws enough = refl
      form_enough (Form.Index first n t) vs ws enough = index_enough (reading_of (get_or k.variables first Anything) first n (kind_of k t)) first n t vs ws enough
      form_enough (Form.Quantified word variable extent low high ts) vs ws enough = refl

    -- ---- cases around what is made

    -- what is made of as many elements as there are indexes counts alone
    pub spread_same : (cs : List ChoiceOf) (make other : List ℕ → Formula) → ((vs : List ℕ) → length vs ≡ length cs → make vs ≡ other vs) → spread k p cs make ≡ spread k p cs other
    spread_same [] make other same = same [] refl
    spread_same (c ∷ cs) make other same =
        λ i. chosen (equation_of k p c.under c.index) (λ v. spread_same cs (λ vs. make (v ∷ vs)) (λ vs. other (v ∷ vs)) (λ vs long. same (v ∷ vs) (omega arith)) i) c.first c.count

    pub spread_append : (cs ds : List ChoiceOf) (make : List ℕ → Formula) → spread k p (cs ++ ds) make ≡ spread k p cs (λ vs. spread k p ds (λ ws. make (vs ++ ws)))
    spread_append [] ds make = refl
    spread_append (c ∷ cs) ds make = λ i. chosen (equation_of k p c.under c.index) (λ v. spread_append cs ds (λ vs. make (v ∷ vs)) i) c.first c.count

    -- Of two parts those of the first one come first, and of the second one those behind.
    pub both_built : (a b : ResolvedTree) (u : Bool) (make : Formula → Formula → Formula)
        → spread k p (choices k a u) (λ vs. spread k p (choices k b u) (λ ws. make (built k p a vs) (built k p b ws)))
        ≡ spread k p (choices k a u ++ choices k b u) (λ vs. make (built k p a vs) (built k p b (drop (length (choices k a false)) vs)))
    both_built a b u make =
        spread_same (choices k a u) _ _ (λ vs long. spread_same (choices k b u) _ _ (λ ws more. parts vs ws long))
        ∙ sym (spread_append (choices k a u) (choices k b u) (λ vs. make (built k p a vs) (built k p b (drop (length (choices k a false)) vs))))
      where
        parts : (vs ws : List ℕ) → length vs ≡ length (choices k a u)
            → make (built k p a vs) (built k p b ws) ≡ make (built k p a (vs ++ ws)) (built k p b (drop (length (choices k a false)) (vs ++ ws)))
        parts vs ws long =
            let many = choices_long a u false in
            let first = sym (built_enough a vs ws (omega (arith, many, long))) in
            let second = ap (built k p b) (sym (dropped_all vs ws (length (choices k a false)) (omega (arith, many, long)))) in
            λ i. make (first i) (second i)

    -- ---- a part

    index_spread : (r : Reading) (first n : ℕ) (t : ResolvedTree) (u : Bool) (make : Formula → Formula)
        → index_side r first n (equation_of k p false t) (equation_of k p u t) make ≡ spread k p (choice_of r u first n t) (λ vs. make (index_built k p r first n t vs))
    index_spread (One v) first n t u make = refl
    index_spread Here first n t u make = refl
    index_spread Outside first n t u make = refl

    -- that a part has its cases around what is made of it
    abbrev pub Spreads : ResolvedTree → Bool → Type 0
    Spreads t u = (make : Formula → Formula) → side k p t u make ≡ spread k p (choices k t u) (λ vs. make (built k p t vs))

    -- two parts, one after the other
    pub pair_spread : (a b : ResolvedTree) (u : Bool) (make : Formula → Formula → Formula) → Spreads a u → Spreads b u
        → side k p a u (λ f. side k p b u (λ g. make f g))
        ≡ spread k p (choices k a u ++ choices k b u) (λ vs. make (built k p a vs) (built k p b (drop (length (choices k a false)) vs)))
    pair_spread a b u make first second =
        first (λ f. side k p b u (λ g. make f g))
        ∙ spread_same (choices k a u) (λ vs. side k p b u (λ g. make (built k p a vs) g)) (λ vs. spread k p (choices k b u) (λ ws. make (built k p a vs) (built k p b ws)))
        (λ vs long. second (λ g. make (built k p a vs) g))
        ∙ both_built a b u make

    binary_spread : (row comparing : Bool) (word : BinaryWord) (a b : ResolvedTree) (u : Bool) (make : Formula → Formula) → Spreads a u → Spreads b u
        → (if row then side k p a u (λ f. side k p b u (λ g. make (binary_formula word f g)))
        else (if comparing then make (side k p a false (λ f. side k p b false (λ g. binary_formula word f g)))
        else make (binary_formula word (side k p a false (λ f. f)) (side k p b false (λ g. g)))))
        ≡ spread k p (if row then choices k a u ++ choices k b u else [])
        (λ vs. make (if row then binary_formula word (built k p a vs) (built k p b (drop (length (choices k a false)) vs))
        else (if comparing then side k p a false (λ f. side k p b false (λ g. binary_formula word f g)) else binary_formula word (formula_of k p a) (formula_of k p b))))
    binary_spread true comparing word a b u make first second = pair_spread a b u (λ f g. make (binary_formula word f g)) first second
    binary_spread false true word a b u make first second = refl
    binary_spread false false word a b u make first second = refl

    mutual
      pub side_spread : (t : ResolvedTree) (u : Bool) (make : Formula → Formula) → side k p t u make ≡ spread k p (choices k t u) (λ vs. make (built k p t vs))
      side_spread (tree first at form) u make = form_spread form u make

      form_spread : (form : Form) (u : Bool) (make : Formula → Formula) → form_side k p form u make ≡ spread k p (form_choices k form u) (λ vs. make (form_built k p form vs))
      form_spread (Form.LeafOf l) u make = refl
      form_spread (Form.PredicateOf number ts) u make = refl
      form_spread (Form.MisuseOf m ts) u make = refl
      form_spread (Form.Next t) u make = side_spread t true (λ f. make (NextOf f))
      form_spread (Form.Prefix word t) u make = refl
      form_spread (Form.Binary word a b) u make = binary_spread (is_row_word word) (is_comparing word) word a b u make (side_spread a u) (side_spread b u)
      form_spread (Form.Mod t number_at n) u make = side_spread t u (λ f. make (Remainder f n))
      form_spread (Form.And ts operators) u make = refl
      form_spread (Form.Or ts operators) u make = refl
      form_spread (Form.Index first n t) u make = index_spread (reading_of (get_or k.variables first Anything) first n (kind_of k t)) first n t u make
      form_spread (Form.Quantified word variable extent low high ts) u make = refl
