-- What is found in a loop over operands, arguments, copies or operators, and what is left to find.
use Rattle.std.proofs.Common.{◌≡◌, ℕ, ◌+◌, ◌<◌, List, ◌∷◌, ◌++◌, length, map, drop, get_or, Option, sym, ap, ◌∙◌}
use Rattle.spectra_resolved.specs.declared.spot.Spot.{Spot}
use Rattle.spectra_resolved.specs.declared.tree.Resolved.{Resolved}
use Rattle.spectra_resolved.specs.declared.tree.Link.{Link}
use Rattle.spectra_resolved.specs.Resolved.{ResolvedTree, ResolvedTrees}
use Rattle.spectra_resolved.specs.Chained.{trees}
use Rattle.spectra_resolved.specs.Views.{resolved_data, link_data}
use Rattle.spectra_resolved.specs.declared.findings.Finding.{Finding}
use Rattle.spectra_resolved.specs.Findings.{with_faults}
use Rattle.spectra_judge.specs.Kinds.{Kind, Anything, is_truth, can_equal}
use Rattle.spectra_judge.specs.Operators.{gives}
use Rattle.spectra_judge.specs.Around.{Around}
use Rattle.spectra_judge.specs.Known.{Known, Setting}
use Rattle.spectra_judge.specs.Judged.{kind_of, wrong, first_of, faults, operand_faults, argument_faults, copy_faults}
use Rattle.spectra_judge.specs.Chains.{opened, link_faults, chain_kind, chain_faults}
use Rattle.spectra_resolved.proofs.First.{with_faults_append}
use Rattle.spectra_judge.proofs.First.{three_parts}
use Rattle.spectra_judge.proofs.Lists.{first_left, drop_one, mapped_left}

-- the trees from one place on
abbrev pub from_place : List Resolved → ℕ → ResolvedTrees
from_place ts k = trees (map resolved_data (drop k ts))

module _ (s : Setting) (o : Around) (ts : List Resolved) (k : ℕ) (t : Resolved) (below : k < length ts) (is : t ≡ get_or ts k t) (found : Option Finding) where
  abbrev here : ResolvedTree
  here = resolved_data t

  left : from_place ts k ≡ ResolvedTrees.one_more here (from_place ts (k + 1))
  left = ap trees (mapped_left resolved_data ts k t below is)

  pub operand_left : (at : Spot) (operators : List Spot)
      → with_faults (with_faults found (faults s o here ++ wrong (is_truth (kind_of s.known here)) (get_or operators k at))) (operand_faults s o at (drop (k + 1) operators) (from_place ts (k + 1)))
      ≡ with_faults found (operand_faults s o at (drop k operators) (from_place ts k))
  operand_left at operators =
      sym (ap (λ us. with_faults found (operand_faults s o at (drop k operators) us)) left
      ∙ (λ i. with_faults found (faults s o here ++ (wrong (is_truth (kind_of s.known here)) (first_left operators k at i) ++ operand_faults s o at (drop_one operators k i) (from_place ts (k + 1)))))
      ∙ three_parts found (faults s o here) (wrong (is_truth (kind_of s.known here)) (get_or operators k at)) (operand_faults s o at (drop (k + 1) operators) (from_place ts (k + 1))))

  pub argument_left : (kinds : List Kind)
      → with_faults (with_faults found (faults s o here ++ wrong (can_equal (get_or kinds k Anything) (kind_of s.known here)) (first_of here))) (argument_faults s o (drop (k + 1) kinds) (from_place ts (k + 1)))
      ≡ with_faults found (argument_faults s o (drop k kinds) (from_place ts k))
  argument_left kinds =
      sym (ap (λ us. with_faults found (argument_faults s o (drop k kinds) us)) left
      ∙ (λ i. with_faults found (faults s o here ++ (wrong (can_equal (first_left kinds k Anything i) (kind_of s.known here)) (first_of here) ++ argument_faults s o (drop_one kinds k i) (from_place ts (k + 1)))))
      ∙ three_parts found (faults s o here) (wrong (can_equal (get_or kinds k Anything) (kind_of s.known here)) (first_of here)) (argument_faults s o (drop (k + 1) kinds) (from_place ts (k + 1))))

  pub copy_left : with_faults (with_faults found (faults s o here ++ wrong (is_truth (kind_of s.known here)) (first_of here))) (copy_faults s o (from_place ts (k + 1)))
      ≡ with_faults found (copy_faults s o (from_place ts k))
  copy_left =
      sym (ap (λ us. with_faults found (copy_faults s o us)) left
      ∙ three_parts found (faults s o here) (wrong (is_truth (kind_of s.known here)) (first_of here)) (copy_faults s o (from_place ts (k + 1))))

module _ (ls : List Link) (k : ℕ) (l : Link) (below : k < length ls) (is : l ≡ get_or ls k l) (kind : Kind) where
  abbrev given : Known → Kind
  given known = gives (link_data l).word kind (kind_of known (link_data l).second)

  pub kind_left : (known : Known) → chain_kind known (given known) (map link_data (drop (k + 1) ls)) ≡ chain_kind known kind (map link_data (drop k ls))
  kind_left known = sym (ap (chain_kind known kind) (mapped_left link_data ls k l below is))

  pub link_left : (s : Setting) (o : Around) (found : Option Finding) (inner : Around) → inner ≡ opened o (map link_data (drop k ls))
      → with_faults (with_faults found (link_faults s inner o.next kind (link_data l))) (chain_faults s o (given s.known) (map link_data (drop (k + 1) ls)))
      ≡ with_faults found (chain_faults s o kind (map link_data (drop k ls)))
  link_left s o found inner same =
      let later = map link_data (drop (k + 1) ls) in
      let all = mapped_left link_data ls k l below is in
      (λ i. with_faults (with_faults found (link_faults s ((same ∙ ap (opened o) all) i) o.next kind (link_data l))) (chain_faults s o (given s.known) later))
      ∙ sym (with_faults_append found (link_faults s (opened o (link_data l ∷ later)) o.next kind (link_data l)) (chain_faults s o (given s.known) later))
      ∙ sym (ap (λ ms. with_faults found (chain_faults s o kind ms)) all)
