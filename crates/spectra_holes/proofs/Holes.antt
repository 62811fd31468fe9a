-- Which arguments are faulty, and what is made of operators, operands and arguments one by one.
use Rattle.std.proofs.Common.{◌≡◌, ℕ, ◌+◌, ◌<◌, true, List, [], ◌∷◌, ◌++◌, length, map, drop, get_or, Some, None, is_some, refl, sym, ap, ◌∙◌, append_assoc}
use Rattle.spectra_resolved.specs.declared.tree.Resolved.{Resolved}
use Rattle.spectra_resolved.specs.declared.findings.Finding.{Finding}
use Rattle.spectra_resolved.specs.Findings.{with_faults}
use Rattle.spectra_resolved.specs.Resolved.{ResolvedTree, listed}
use Rattle.spectra_resolved.specs.Chained.{LinkData, trees, joined, chained}
use Rattle.spectra_resolved.specs.Views.{resolved_data}
use Rattle.spectra_judge.specs.Kinds.{Kind, Anything}
use Rattle.spectra_judge.specs.declared.around.Around.{Around}
use Rattle.spectra_judge.specs.Known.{Setting}
use Rattle.spectra_holes.specs.Holed.{is_some_fault, part_holed, arguments_holed}
use Rattle.spectra_holes.specs.HoleViews.{argument_holed, links_holed}
use Rattle.spectra_judge.specs.Chains.{opened}
use Rattle.spectra_judge.proofs.Lists.{first_left, drop_one, mapped_left}

-- a first one is found where there is one
pub some_found : (fs : List Finding) → is_some (with_faults None fs) ≡ is_some_fault fs
some_found [] = refl
some_found (f ∷ fs) = stays fs f
  where
    stays : (gs : List Finding) (g : Finding) → is_some (with_faults (Some g) gs) ≡ true
    stays [] g = refl
    stays (h ∷ gs) g = stays gs _

-- operators are taken one by one
pub chained_holed : (s : Setting) (o : Around) (t : ResolvedTree) (ls : List LinkData) → part_holed s o (chained t ls) ≡ chained (part_holed s (opened o ls) t) (links_holed s o ls)
chained_holed s o t [] = refl
chained_holed s o t (l ∷ ls) = chained_holed s o (joined t l) ls

-- what is made so far, with one more
pushed : {X : Type 0} (made : List X) (x : X) (left rest all : List X) → left ≡ x ∷ rest → made ++ left ≡ all → (made ++ x ∷ []) ++ rest ≡ all
pushed made x left rest all is so_far = append_assoc made (x ∷ []) rest ∙ ap (λ xs. made ++ xs) (sym is) ∙ so_far

module _ (s : Setting) (o : Around) (ts : List Resolved) (k : ℕ) (t : Resolved) (below : k < length ts) (is : t ≡ get_or ts k t) where
  pub argument_pushed : (kinds : List Kind) (made : List ResolvedTree)
      → made ++ listed (arguments_holed s o (drop k kinds) (trees (map resolved_data (drop k ts)))) ≡ listed (arguments_holed s o kinds (trees (map resolved_data ts)))
      → (made ++ argument_holed s o (get_or kinds k Anything) (resolved_data t) ∷ []) ++ listed (arguments_holed s o (drop (k + 1) kinds) (trees (map resolved_data (drop (k + 1) ts))))
      ≡ listed (arguments_holed s o kinds (trees (map resolved_data ts)))
  argument_pushed kinds made so_far =
      pushed made _ (listed (arguments_holed s o (drop k kinds) (trees (map resolved_data (drop k ts))))) _ _
      (ap (λ us. listed (arguments_holed s o (drop k kinds) (trees us))) (mapped_left resolved_data ts k t below is)
      ∙ (λ i. argument_holed s o (first_left kinds k Anything i) (resolved_data t) ∷ listed (arguments_holed s o (drop_one kinds k i) (trees (map resolved_data (drop (k + 1) ts))))))
      so_far
