-- The numbers of a range, and the copies for them.
use Rattle.std.proofs.Common.{◌≡◌, ◌+◌, ℤ, pos, ◌+ℤ◌, ◌-ℤ◌, int_le, nat_abs, Bool, true, false, if◌then◌else◌, List, [], ◌∷◌, ◌++◌, refl, sym, ap, ◌∙◌, append_assoc, add-one, arith}
use Rattle.std.proofs.lemmas.Int.{ints}
use Rattle.spectra_resolved.specs.Resolved.{ResolvedTree, ResolvedTrees, listed}
use Rattle.spectra_copies.specs.Nodes.{each_nodes}
use Rattle.spectra_copies.specs.Ranges.{numbers_from, numbers_between}
use Rattle.spectra_copies.specs.Copies.{joined_trees, copies_for}

pub listed-joined : (ts us : ResolvedTrees) → listed (joined_trees ts us) ≡ listed ts ++ listed us
listed-joined ResolvedTrees.none us = refl
listed-joined (ResolvedTrees.one_more t ts) us = ap (λ xs. t ∷ xs) (listed-joined ts us)

pub each_nodes-joined : (ts us : ResolvedTrees) → each_nodes (joined_trees ts us) ≡ each_nodes ts + each_nodes us
each_nodes-joined ResolvedTrees.none us = omega arith
each_nodes-joined (ResolvedTrees.one_more t ts) us = let rest = each_nodes-joined ts us in omega (arith, rest)

-- the numbers from one to another are the first one and those from the next one on
pub numbers_next : (low high : ℤ) → int_le low high ≡ true → numbers_between low high ≡ low ∷ numbers_between (low +ℤ pos 1) high
numbers_next low high here =
    ap (λ b. if b then numbers_from low (nat_abs (high -ℤ low) + 1) else []) here
    ∙ ap (numbers_from low) (add-one (nat_abs (high -ℤ low)))
    ∙ ap (λ ns. low ∷ ns) (rest (int_le (low +ℤ pos 1) high) refl)
  where
    rest : (b : Bool) → int_le (low +ℤ pos 1) high ≡ b → numbers_from (low +ℤ pos 1) (nat_abs (high -ℤ low)) ≡ (if b then numbers_from (low +ℤ pos 1) (nat_abs (high -ℤ (low +ℤ pos 1)) + 1) else [])
    rest true e =
        let fewer : nat_abs (high -ℤ low) ≡ nat_abs (high -ℤ (low +ℤ pos 1)) + 1 = grind (arith, ints) in ap (numbers_from (low +ℤ pos 1)) fewer
    rest false e =
        let last : nat_abs (high -ℤ low) ≡ 0 = grind (arith, ints) in ap (numbers_from (low +ℤ pos 1)) last

-- there are none from a number to a smaller one
pub numbers_none : (low high : ℤ) → int_le low high ≡ false → numbers_between low high ≡ []
numbers_none low high past = ap (λ b. if b then numbers_from low (nat_abs (high -ℤ low) + 1) else []) past

module _ (copy : ℤ → ResolvedTrees) (low high : ℤ) (here : int_le low high ≡ true) where
  abbrev From : ℤ → ResolvedTrees
  From z = copies_for copy (numbers_between z high)

  copies_next : From low ≡ joined_trees (copy low) (From (low +ℤ pos 1))
  copies_next = ap (copies_for copy) (numbers_next low high here)

  pub copy_nodes : each_nodes (From low) ≡ each_nodes (copy low) + each_nodes (From (low +ℤ pos 1))
  copy_nodes = ap each_nodes copies_next ∙ each_nodes-joined (copy low) (From (low +ℤ pos 1))

  pub copy_pushed : (done new all : List ResolvedTree) → new ≡ done ++ listed (copy low) → done ++ listed (From low) ≡ all → new ++ listed (From (low +ℤ pos 1)) ≡ all
  copy_pushed done new all added so_far =
      ap (λ ts. ts ++ listed (From (low +ℤ pos 1))) added
      ∙ append_assoc done (listed (copy low)) (listed (From (low +ℤ pos 1)))
      ∙ ap (λ ts. done ++ ts) (sym (ap listed copies_next ∙ listed-joined (copy low) (From (low +ℤ pos 1))))
      ∙ so_far

module _ (copy : ℤ → ResolvedTrees) (low high : ℤ) (past : int_le low high ≡ false) where
  pub no_copies : copies_for copy (numbers_between low high) ≡ ResolvedTrees.none
  no_copies = ap (copies_for copy) (numbers_none low high past)
