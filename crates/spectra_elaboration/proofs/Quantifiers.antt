-- What is made of a quantifier, from what is made of its bounds and of its copies.
use Rattle.std.proofs.Common.{◌≡◌, ℕ, ◌+◌, ◌-◌, ◌≤◌, max, nat_le, Bool, true, false, ◌&&◌, List, Result, Ok, Err, IsErrAnd, IsErrOf, refl, ◌∙◌, arith}
use Rattle.spectra_resolved.specs.declared.spot.Spot.{Spot}
use Rattle.spectra_resolved.specs.declared.spot.Mark.{Mark}
use Rattle.spectra_resolved.specs.declared.tree.QuantifierWord.{QuantifierWord}
use Rattle.spectra_resolved.specs.declared.tree.Extent.{Extent}
use Rattle.spectra_resolved.specs.declared.tree.Resolved.{Resolved}
use Rattle.spectra_resolved.specs.Resolved.{ResolvedTree, tree, Form, ResolvedTrees}
use Rattle.spectra_resolved.specs.Views.{resolved_data}
use Rattle.spectra_copies.specs.declared.counted.Counted.{Counted}
use Rattle.spectra_copies.specs.declared.refusal.Refusal.{Refusal}
use Rattle.spectra_copies.specs.declared.refusal.Refusal.TheVariants.{Deep}
use Rattle.spectra_copies.specs.Levels.{tree_levels, each_levels}
use Rattle.spectra_copies.specs.Making.{Makes, MakesEach, IsFlat}
use Rattle.spectra_copies.proofs.Made.{same, tree_is, small, nodes_are, large, stop, large_each}
use Rattle.spectra_elaboration.proofs.Flats.{above_flat, above_deep, most_of}

module _ (first : Spot) (at : Mark) (word : QuantifierWord) (variable : Spot) (extent : Extent) (low high : ResolvedTree) (copies : ResolvedTrees) (r : Result Counted Refusal) where
  abbrev Whole : ResolvedTree
  Whole = tree first at (Form.Quantified word variable extent low high copies)

  -- ---- nodes

  module _ (room inside : ℕ) (is : inside + (1 + 0) ≡ room) where
    pub low_large : (halt : Refusal) → Makes inside low (Err halt) → IsErrAnd r (λ y. y ≡ halt) → Makes room Whole r
    low_large halt own err = stop room Whole halt r err (λ e. let few = large inside low halt own e in omega (arith, few, is))

    module _ (lower : Counted) (below : Makes inside low (Ok lower)) where
      pub high_large : (halt : Refusal) → Makes (inside - lower.nodes) high (Err halt) → IsErrAnd r (λ y. y ≡ halt) → Makes room Whole r
      high_large halt own err =
          stop room Whole halt r err
          (λ e. let few = large (inside - lower.nodes) high halt own e in let one = nodes_are inside low lower below in let fits = small inside low lower below in omega (arith, few, one, fits, is))

      module _ (upper : Counted) (above : Makes (inside - lower.nodes) high (Ok upper)) where
        pub copies_large : (old new : List Resolved) (halt : Refusal) → MakesEach ((inside - lower.nodes) - upper.nodes) copies old new (Err halt) → IsErrAnd r (λ y. y ≡ halt) → Makes room Whole r
        copies_large old new halt own err =
            stop room Whole halt r err
            (λ e.
            let few = large_each ((inside - lower.nodes) - upper.nodes) copies old new halt own e in
            let one = nodes_are inside low lower below in
            let two = nodes_are (inside - lower.nodes) high upper above in
            let fits = small inside low lower below in
            let more = small (inside - lower.nodes) high upper above in
            omega (arith, few, one, two, fits, more, is))

        pub all_fit : (nodes : ℕ) → nodes ≤ (inside - lower.nodes) - upper.nodes → lower.nodes + (upper.nodes + nodes) ≤ room
        all_fit nodes few = let fits = small inside low lower below in let more = small (inside - lower.nodes) high upper above in omega (arith, few, fits, more, is)

        pub all_made : (made : ResolvedTrees) → made ≡ copies → Makes room (tree first at (Form.Quantified word variable extent (resolved_data lower.tree.value) (resolved_data upper.tree.value) made)) r → Makes room Whole r
        all_made made own m =
            same room _ Whole r
            (λ i. tree first at (Form.Quantified word variable extent (tree_is inside low lower below i) (tree_is (inside - lower.nodes) high upper above i) (own i))) m

  -- ---- levels

  module _ (levels : ℕ) where
    abbrev most : ℕ
    most = max (tree_levels low) (max (tree_levels high) (each_levels copies))

    second_off : (p q : Bool) → (p && (false && q)) ≡ false
    second_off true q = refl
    second_off false q = refl

    third_off : (p q : Bool) → (p && (q && false)) ≡ false
    third_off true true = refl
    third_off true false = refl
    third_off false q = refl

    pub low_deep : (halt : Refusal) → IsErrAnd r (λ y. y ≡ halt) → (halt ≡ Deep → nat_le (tree_levels low) levels ≡ false) → IsFlat (levels + 1) Whole r
    low_deep halt err deep =
        above_deep levels Whole r most halt refl err
        (λ e. most_of (tree_levels low) (tree_levels high) (each_levels copies) levels false (nat_le (tree_levels high) levels) (nat_le (each_levels copies) levels) (deep e) refl refl)

    pub high_deep : (halt : Refusal) → IsErrAnd r (λ y. y ≡ halt) → (halt ≡ Deep → nat_le (tree_levels high) levels ≡ false) → IsFlat (levels + 1) Whole r
    high_deep halt err deep =
        above_deep levels Whole r most halt refl err
        (λ e.
        most_of (tree_levels low) (tree_levels high) (each_levels copies) levels (nat_le (tree_levels low) levels) false (nat_le (each_levels copies) levels) refl (deep e) refl
        ∙ second_off (nat_le (tree_levels low) levels) (nat_le (each_levels copies) levels))

    pub copies_deep : (halt : Refusal) → IsErrAnd r (λ y. y ≡ halt) → (halt ≡ Deep → nat_le (each_levels copies) levels ≡ false) → IsFlat (levels + 1) Whole r
    copies_deep halt err deep =
        above_deep levels Whole r most halt refl err
        (λ e.
        most_of (tree_levels low) (tree_levels high) (each_levels copies) levels (nat_le (tree_levels low) levels) (nat_le (tree_levels high) levels) false refl refl (deep e)
        ∙ third_off (nat_le (tree_levels low) levels) (nat_le (tree_levels high) levels))

    pub all_flat : nat_le (tree_levels low) levels ≡ true → nat_le (tree_levels high) levels ≡ true → nat_le (each_levels copies) levels ≡ true → (IsErrOf r Deep → ⊥) → IsFlat (levels + 1) Whole r
    all_flat p q s never = above_flat levels Whole r most refl (most_of (tree_levels low) (tree_levels high) (each_levels copies) levels true true true p q s) never
