-- How many nodes the indexes have whose cases stand around what is made, so that making a formula ends.
use Rattle.std.proofs.Common.{◌≡◌, ℕ, zero, suc, ◌+◌, ◌-◌, ◌<◌, ◌≤◌, Bool, true, false, if◌then◌else◌, List, [], ◌∷◌, ◌++◌, length, map, get_or, sym, subst, arith, length-append}
use Rattle.spectra_resolved.specs.Resolved.{ResolvedTree, tree, Form}
use Rattle.spectra_resolved.specs.Chained.{chained}
use Rattle.spectra_resolved.specs.Views.{resolved_data, link_data}
use Rattle.spectra_copies.specs.Levels.{is_row_word}
use Rattle.spectra_copies.specs.Nodes.{tree_nodes, form_nodes}
use Rattle.spectra_judge.specs.Kinds.{Anything}
use Rattle.spectra_judge.specs.Known.{Known}
use Rattle.spectra_judge.specs.Judged.{kind_of}
use Rattle.spectra_cases.specs.declared.choosing.Whole.{Whole}
use Rattle.spectra_cases.specs.declared.choosing.Whole.TheVariants as wholes
use Rattle.spectra_cases.specs.Formulas.{Reading, One, Here, Outside, reading_of}
use Rattle.spectra_cases.specs.Choices.{ChoiceOf, choice_of, choices, form_choices}
use Rattle.spectra_cases.specs.Wholes.{whole_choices}

-- each index of several has at most so many nodes
abbrev pub AreSmall : ℕ → List ChoiceOf → Type 0
AreSmall n [] = Unit {0}
AreSmall n (c ∷ cs) = (tree_nodes c.index ≤ n) × AreSmall n cs

small_more : (n m : ℕ) (cs : List ChoiceOf) → n ≤ m → AreSmall n cs → AreSmall m cs
small_more n m [] less are = tt
small_more n m (c ∷ cs) less are = let here = are.0 in (omega arith, small_more n m cs less are.1)

small_append : (n : ℕ) (cs ds : List ChoiceOf) → AreSmall n cs → AreSmall n ds → AreSmall n (cs ++ ds)
small_append n [] ds are more = more
small_append n (c ∷ cs) ds are more = (are.0, small_append n cs ds are.1 more)

pub small_at : (n : ℕ) (cs : List ChoiceOf) (i : ℕ) (c : ChoiceOf) → AreSmall n cs → i < length cs → c ≡ get_or cs i c → tree_nodes c.index ≤ n
small_at n [] i c are below same = absurd (omega arith)
small_at n (d ∷ cs) zero c are below same = subst (λ (x : ChoiceOf). tree_nodes x.index ≤ n) (sym same) are.0
small_at n (d ∷ cs) (suc i) c are below same = small_at n cs i c are.1 (omega arith) same

module _ (k : Known) where
  choice_few : (r : Reading) (first n : ℕ) (t : ResolvedTree) (under : Bool) → length (choice_of r under first n t) ≤ 1
  choice_few (One v) first n t under = omega arith
  choice_few Here first n t under = omega arith
  choice_few Outside first n t under = omega arith

  both_few : (row : Bool) (cs ds : List ChoiceOf) (n m : ℕ) → length cs ≤ n → length ds ≤ m → length (if row then cs ++ ds else []) ≤ 1 + (n + m)
  both_few true cs ds n m few less = let both = length-append cs ds in omega arith
  both_few false cs ds n m few less = omega arith

  mutual
    -- there are no more indexes than nodes
    pub choices_few : (t : ResolvedTree) (under : Bool) → length (choices k t under) ≤ tree_nodes t
    choices_few (tree first at form) under = form_few form under

    form_few : (form : Form) (under : Bool) → length (form_choices k form under) ≤ form_nodes form
    form_few (Form.LeafOf l) under = omega arith
    form_few (Form.PredicateOf number ts) under = omega arith
    form_few (Form.MisuseOf m ts) under = omega arith
    form_few (Form.Next t) under = let less = choices_few t true in omega arith
    form_few (Form.Prefix word t) under = omega arith
    form_few (Form.Binary word a b) under = both_few (is_row_word word) (choices k a under) (choices k b under) (tree_nodes a) (tree_nodes b) (choices_few a under) (choices_few b under)
    form_few (Form.Mod t number_at n) under = let less = choices_few t under in omega arith
    form_few (Form.And ts operators) under = omega arith
    form_few (Form.Or ts operators) under = omega arith
    form_few (Form.Index first n t) under = let less = choice_few (reading_of (get_or k.variables first Anything) first n (kind_of k t)) first n t under in omega arith
    form_few (Form.Quantified word variable extent low high ts) under = omega arith

  choice_small : (r : Reading) (first n : ℕ) (t : ResolvedTree) (under : Bool) → AreSmall (1 + tree_nodes t - length (choice_of r under first n t)) (choice_of r under first n t)
  choice_small (One v) first n t under = tt
  choice_small Here first n t under = tt
  choice_small Outside first n t under = (omega arith, tt)

  both_small : (row : Bool) (cs ds : List ChoiceOf) (n m : ℕ) → length cs ≤ n → length ds ≤ m → AreSmall (n - length cs) cs → AreSmall (m - length ds) ds
      → AreSmall (1 + (n + m) - length (if row then cs ++ ds else [])) (if row then cs ++ ds else [])
  both_small true cs ds n m few less are more =
      let both = length-append cs ds in
      small_append (1 + (n + m) - length (cs ++ ds)) cs ds (small_more (n - length cs) _ cs (omega (arith, both, few, less)) are) (small_more (m - length ds) _ ds (omega (arith, both, few, less)) more)
  both_small false cs ds n m few less are more = tt

  mutual
    -- and no index has more than the nodes beside all of them
    pub choices_small : (t : ResolvedTree) (under : Bool) → AreSmall (tree_nodes t - length (choices k t under)) (choices k t under)
    choices_small (tree first at form) under = form_small form under

    form_small : (form : Form) (under : Bool) → AreSmall (form_nodes form - length (form_choices k form under)) (form_choices k form under)
    form_small (Form.LeafOf l) under = tt
    form_small (Form.PredicateOf number ts) under = tt
    form_small (Form.MisuseOf m ts) under = tt
    form_small (Form.Next t) under = small_more (tree_nodes t - length (choices k t true)) _ (choices k t true) (omega arith) (choices_small t true)
    form_small (Form.Prefix word t) under = tt
    form_small (Form.Binary word a b) under =
        both_small (is_row_word word) (choices k a under) (choices k b under) (tree_nodes a) (tree_nodes b) (choices_few a under) (choices_few b under) (choices_small a under) (choices_small b under)
    form_small (Form.Mod t number_at n) under = small_more (tree_nodes t - length (choices k t under)) _ (choices k t under) (omega arith) (choices_small t under)
    form_small (Form.And ts operators) under = tt
    form_small (Form.Or ts operators) under = tt
    form_small (Form.Index first n t) under = choice_small (reading_of (get_or k.variables first Anything) first n (kind_of k t)) first n t under
    form_small (Form.Quantified word variable extent low high ts) under = tt

  -- ---- nodes beside the indexes

  abbrev pub rest : ResolvedTree → ℕ
  rest t = tree_nodes t - length (choices k t false)

  abbrev pub whole_nodes : Whole → ℕ
  whole_nodes (wholes.Row head links) = tree_nodes (chained (resolved_data head.now) (map link_data links.now))
  whole_nodes (wholes.Comparison word head links second) = tree_nodes (chained (resolved_data head.now) (map link_data links.now)) + tree_nodes (resolved_data second.now)
  whole_nodes (wholes.Equation under t i) = tree_nodes (resolved_data t.now)

  pub whole_few : (w : Whole) → length (whole_choices k w) ≤ whole_nodes w
  whole_few (wholes.Row head links) = choices_few (chained (resolved_data head.now) (map link_data links.now)) false
  whole_few (wholes.Comparison word head links second) =
      let t = chained (resolved_data head.now) (map link_data links.now) in
      let both = length-append (choices k t false) (choices k (resolved_data second.now) false) in
      let few = choices_few t false in
      let less = choices_few (resolved_data second.now) false in omega (arith, both, few, less)
  whole_few (wholes.Equation under t i) = choices_few (resolved_data t.now) under

  pub whole_small : (w : Whole) → AreSmall (whole_nodes w - length (whole_choices k w)) (whole_choices k w)
  whole_small (wholes.Row head links) = choices_small (chained (resolved_data head.now) (map link_data links.now)) false
  whole_small (wholes.Comparison word head links second) =
      let t = chained (resolved_data head.now) (map link_data links.now) in
      let u = resolved_data second.now in
      let both = length-append (choices k t false) (choices k u false) in
      let few = choices_few t false in
      let less = choices_few u false in
      small_append (tree_nodes t + tree_nodes u - length (choices k t false ++ choices k u false)) (choices k t false) (choices k u false)
      (small_more (tree_nodes t - length (choices k t false)) _ (choices k t false) (omega (arith, both, few, less)) (choices_small t false))
      (small_more (tree_nodes u - length (choices k u false)) _ (choices k u false) (omega (arith, both, few, less)) (choices_small u false))
  whole_small (wholes.Equation under t i) = choices_small (resolved_data t.now) under

-- a place more for what has no operators behind it
abbrev pub spare : {X : Type 0} → List X → ℕ
spare [] = 3
spare (x ∷ xs) = 0
