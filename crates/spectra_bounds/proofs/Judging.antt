-- The kind and the faults of an expression rest on the kinds of the defines that it uses alone.
use Rattle.std.proofs.Common.{◌≡◌, ℕ, zero, suc, List, [], ◌∷◌, ◌++◌, Some, drop, get_or, refl, ap}
use Rattle.spectra_trees.specs.Faults.{WideInt, number_of}
use Rattle.spectra_resolved.specs.declared.spot.Spot.{Spot}
use Rattle.spectra_resolved.specs.declared.spot.Mark.{Mark}
use Rattle.spectra_resolved.specs.declared.stand.Stand.{Stand}
use Rattle.spectra_resolved.specs.declared.tree.Leaf.{Leaf}
use Rattle.spectra_resolved.specs.declared.tree.Leaf.TheVariants as leaf
use Rattle.spectra_resolved.specs.declared.tree.Misuse.{Misuse}
use Rattle.spectra_resolved.specs.declared.tree.Misuse.TheVariants as misuse
use Rattle.spectra_resolved.specs.Findings.{fault}
use Rattle.spectra_resolved.specs.Resolving.{fault_of}
use Rattle.spectra_resolved.specs.Resolved.{ResolvedTree, tree, Form, ResolvedTrees}
use Rattle.spectra_judge.specs.Findings.{fault_if}
use Rattle.spectra_judge.specs.Kinds.{Kind, Anything, is_truth, is_whole, can_equal}
use Rattle.spectra_judge.specs.Operators.{gives, is_past, is_past_prefix}
use Rattle.spectra_judge.specs.declared.standing.Bans.{Bans}
use Rattle.spectra_judge.specs.declared.around.Around.{Around}
use Rattle.spectra_judge.specs.Standings.{bans_of, is_wanted}
use Rattle.spectra_judge.specs.Around.{nothing_open, under_next, in_bound, within, next_faults}
use Rattle.spectra_judge.specs.Known.{Known, Setting, wanted}
use Rattle.spectra_judge.specs.Judged.{kind_of, form_kind, leaf_kind, leaf_faults, called_faults, operator_faults, binary_faults, remainder_faults, index_faults, is_wrong, wrong, first_of, faults, form_faults, operand_faults, copy_faults, argument_faults, faults_of}
use Rattle.spectra_uses.specs.Uses.{leaf_uses, misuse_uses, uses_in, form_uses, each_uses}
use Rattle.spectra_bounds.proofs.Made.{AgreeOn}

module _ {V : Type 0} (nothing : V) (f g : List V) where
  pub agree_left : (us vs : List ℕ) → AgreeOn nothing f g (us ++ vs) → AgreeOn nothing f g us
  agree_left [] vs h i u e = absurd (cc)
  agree_left (w ∷ us) vs h zero u e = h zero u e
  agree_left (w ∷ us) vs h (suc i) u e = agree_left us vs (λ j v d. h (suc j) v d) i u e

  pub agree_right : (us vs : List ℕ) → AgreeOn nothing f g (us ++ vs) → AgreeOn nothing f g vs
  agree_right [] vs h = h
  agree_right (w ∷ us) vs h = agree_right us vs (λ j v d. h (suc j) v d)

module _ (known : Known) (kinds : List Kind) where
  -- what is known, with other kinds of defines
  abbrev other : Known
  other = record known { defines = kinds }

  abbrev Agree : List ℕ → Type 0
  Agree us = AgreeOn Anything known.defines kinds us

  left : (us vs : List ℕ) → Agree (us ++ vs) → Agree us
  left us vs h = agree_left Anything known.defines kinds us vs h

  right : (us vs : List ℕ) → Agree (us ++ vs) → Agree vs
  right us vs h = agree_right Anything known.defines kinds us vs h

  leaf_kind-same : (l : Leaf) → Agree (leaf_uses l) → leaf_kind known l ≡ leaf_kind other l
  leaf_kind-same (leaf.Truth b) h = refl
  leaf_kind-same (leaf.Number z) h = refl
  leaf_kind-same (leaf.EnumName n) h = refl
  leaf_kind-same (leaf.Variable k) h = refl
  leaf_kind-same (leaf.Parameter k) h = refl
  leaf_kind-same (leaf.Own k) h = refl
  leaf_kind-same (leaf.Define k) h = h zero k refl
  leaf_kind-same (leaf.Bound at) h = refl
  leaf_kind-same (leaf.Hole hole) h = refl

  mutual
    pub kind-same : (t : ResolvedTree) → Agree (uses_in t) → kind_of known t ≡ kind_of other t
    kind-same (tree first at form) h = form_kind-same form h

    form_kind-same : (form : Form) → Agree (form_uses form) → form_kind known form ≡ form_kind other form
    form_kind-same (Form.LeafOf l) h = leaf_kind-same l h
    form_kind-same (Form.PredicateOf k ts) h = refl
    form_kind-same (Form.MisuseOf m ts) h = refl
    form_kind-same (Form.Next t) h = kind-same t h
    form_kind-same (Form.Prefix word t) h = refl
    form_kind-same (Form.Binary word a b) h =
        let first = kind-same a (left (uses_in a) (uses_in b) h) in let second = kind-same b (right (uses_in a) (uses_in b) h) in λ i. gives word (first i) (second i)
    form_kind-same (Form.Mod t number_at n) h = refl
    form_kind-same (Form.And ts operators) h = refl
    form_kind-same (Form.Or ts operators) h = refl
    form_kind-same (Form.Index first n t) h = refl
    form_kind-same (Form.Quantified word variable extent low high ts) h = refl

  module _ (bans : Bans) where
    abbrev mine : Setting
    mine = record { known = known; bans = bans }

    abbrev theirs : Setting
    theirs = record { known = other; bans = bans }

    leaf_faults-same : (o : Around) (at : Mark) (l : Leaf) → leaf_faults mine o at l ≡ leaf_faults theirs o at l
    leaf_faults-same o at (leaf.Truth b) = refl
    leaf_faults-same o at (leaf.Number z) = refl
    leaf_faults-same o at (leaf.EnumName n) = refl
    leaf_faults-same o at (leaf.Variable k) = refl
    leaf_faults-same o at (leaf.Parameter k) = refl
    leaf_faults-same o at (leaf.Own k) = refl
    leaf_faults-same o at (leaf.Define k) = refl
    leaf_faults-same o at (leaf.Bound variable) = refl
    leaf_faults-same o at (leaf.Hole hole) = refl

    called_faults-same : (o : Around) (at : Mark) (m : Misuse) → called_faults mine o at m ≡ called_faults theirs o at m
    called_faults-same o at misuse.Unknown = refl
    called_faults-same o at (misuse.Bare k) = refl
    called_faults-same o at (misuse.Called l) = leaf_faults-same o at l
    called_faults-same o at (misuse.Arity k) = refl

    mutual
      faults-same : (o : Around) (t : ResolvedTree) → Agree (uses_in t) → faults mine o t ≡ faults theirs o t
      faults-same o (tree first at form) h = form_faults-same o at form h

      form_faults-same : (o : Around) (at : Mark) (form : Form) → Agree (form_uses form) → form_faults mine o at form ≡ form_faults theirs o at form
      form_faults-same o at (Form.LeafOf l) h = leaf_faults-same o at l
      form_faults-same o at (Form.PredicateOf k ts) h = argument_faults-same o (wanted known (Some k)) ts (right (k ∷ []) (each_uses ts) h)
      form_faults-same o at (Form.MisuseOf m ts) h =
          let own = called_faults-same o at m in let rest = argument_faults-same o [] ts (right (misuse_uses m) (each_uses ts) h) in λ i. (fault (fault_of m) at.spot ∷ own i) ++ rest i
      form_faults-same o at (Form.Next t) h = ap (λ fs. next_faults bans o at ++ fs) (faults-same (under_next at o) t h)
      form_faults-same o at (Form.Prefix word t) h =
          let inner = faults-same (within (is_past_prefix word) at o) t h in
          let kind = kind-same t h in
          λ i. operator_faults mine (is_past_prefix word) o.next at ++ (inner i ++ wrong (is_truth (kind i)) at.spot)
      form_faults-same o at (Form.Binary word a b) h =
          let in_a = left (uses_in a) (uses_in b) h in
          let in_b = right (uses_in a) (uses_in b) h in
          let first = faults-same (within (is_past word) at o) a in_a in
          let second = faults-same (within (is_past word) at o) b in_b in
          let kind_a = kind-same a in_a in
          let kind_b = kind-same b in_b in
          λ i. first i ++ (operator_faults mine (is_past word) o.next at ++ (second i ++ binary_faults word (kind_a i) (kind_b i) at.spot))
      form_faults-same o at (Form.Mod t number_at n) h =
          let inner = faults-same o t h in let kind = kind-same t h in λ i. inner i ++ remainder_faults (kind i) at.spot number_at n
      form_faults-same o at (Form.And ts operators) h = operand_faults-same o at.spot (at.spot ∷ operators) ts h
      form_faults-same o at (Form.Or ts operators) h = operand_faults-same o at.spot (at.spot ∷ operators) ts h
      form_faults-same o at (Form.Index array n t) h =
          let inner = faults-same o t h in let kind = kind-same t h in λ i. inner i ++ index_faults mine o at array n (kind i) (first_of t)
      form_faults-same o at (Form.Quantified word variable extent low high ts) h =
          let in_low = left (uses_in low) (uses_in high ++ each_uses ts) h in
          let behind_low = right (uses_in low) (uses_in high ++ each_uses ts) h in
          let in_high = left (uses_in high) (each_uses ts) behind_low in
          let first = faults-same (in_bound at o) low in_low in
          let second = faults-same (in_bound at o) high in_high in
          let kind_low = kind-same low in_low in
          let kind_high = kind-same high in_high in
          let rest = copy_faults-same o ts (right (uses_in high) (each_uses ts) behind_low) in
          λ i. ((first i ++ wrong (is_whole (kind_low i)) (first_of low)) ++ (second i ++ wrong (is_whole (kind_high i)) (first_of high))) ++ (fault_if (is_wrong extent) (number_of WideInt) at.spot ++ rest i)

      copy_faults-same : (o : Around) (ts : ResolvedTrees) → Agree (each_uses ts) → copy_faults mine o ts ≡ copy_faults theirs o ts
      copy_faults-same o ResolvedTrees.none h = refl
      copy_faults-same o (ResolvedTrees.one_more t ts) h =
          let here = left (uses_in t) (each_uses ts) h in
          let first = faults-same o t here in
          let kind = kind-same t here in
          let rest = copy_faults-same o ts (right (uses_in t) (each_uses ts) h) in
          λ i. first i ++ (wrong (is_truth (kind i)) (first_of t) ++ rest i)

      operand_faults-same : (o : Around) (at : Spot) (operators : List Spot) (ts : ResolvedTrees) → Agree (each_uses ts)
          → operand_faults mine o at operators ts ≡ operand_faults theirs o at operators ts
      operand_faults-same o at operators ResolvedTrees.none h = refl
      operand_faults-same o at operators (ResolvedTrees.one_more t ts) h =
          let here = left (uses_in t) (each_uses ts) h in
          let first = faults-same o t here in
          let kind = kind-same t here in
          let rest = operand_faults-same o at (drop 1 operators) ts (right (uses_in t) (each_uses ts) h) in
          λ i. first i ++ (wrong (is_truth (kind i)) (get_or operators 0 at) ++ rest i)

      argument_faults-same : (o : Around) (wants : List Kind) (ts : ResolvedTrees) → Agree (each_uses ts)
          → argument_faults mine o wants ts ≡ argument_faults theirs o wants ts
      argument_faults-same o wants ResolvedTrees.none h = refl
      argument_faults-same o wants (ResolvedTrees.one_more t ts) h =
          let here = left (uses_in t) (each_uses ts) h in
          let first = faults-same o t here in
          let kind = kind-same t here in
          let rest = argument_faults-same o (drop 1 wants) ts (right (uses_in t) (each_uses ts) h) in
          λ i. first i ++ (wrong (can_equal (get_or wants 0 Anything) (kind i)) (first_of t) ++ rest i)

  pub faults_of-same : (st : Stand) (t : ResolvedTree) → Agree (uses_in t) → faults_of known st t ≡ faults_of other st t
  faults_of-same st t h =
      let inner = faults-same (bans_of st) nothing_open t h in let kind = kind-same t h in λ i. inner i ++ wrong (is_wanted st (kind i)) (first_of t)
