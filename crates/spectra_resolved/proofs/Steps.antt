-- One step of a loop that resolves.
use Rattle.std.proofs.Common.{Box, Global, ◌≡◌, ◌<◌, ℕ, ◌+◌, List, [], ◌∷◌, ◌++◌, map, drop, reverse, Option, sym, ap, ◌∙◌, append_assoc, arith}
use Rattle.std.proofs.lemmas.List.{reverse-append}
use Rattle.spectra_trees.specs.declared.tree.BinaryWord.{BinaryWord}
use Rattle.spectra_trees.specs.declared.tree.ExprTree.{ExprTree, size-ExprTree}
use Rattle.spectra_trees.specs.declared.tree.ExprForm as code_form
use Rattle.spectra_trees.specs.declared.tree.ExprForm.{the_lemmas}
use Rattle.spectra_trees.specs.Data.{expression, expressions}
use Rattle.spectra_trees.specs.Views.{form_data, expr_data}
use Rattle.spectra_trees.proofs.Folded.{binary_folded}
use Rattle.spectra_resolved.specs.declared.tree.Link.{Link}
use Rattle.spectra_resolved.specs.declared.tree.Resolved.{Resolved}
use Rattle.spectra_resolved.specs.declared.resolving.Resolver.{Resolver}
use Rattle.spectra_resolved.specs.declared.findings.Finding.{Finding}
use Rattle.spectra_resolved.specs.Spots.{spot_at, in_text}
use Rattle.spectra_resolved.specs.Findings.{with_faults}
use Rattle.spectra_resolved.specs.Resolved.{ResolvedTree, tree, Form, listed}
use Rattle.spectra_resolved.specs.Chained.{LinkData, chained}
use Rattle.spectra_resolved.specs.Views.{resolved_data, link_data}
use Rattle.spectra_resolved.specs.Resolving.{misuses, misuses_of_each}
use Rattle.spectra_resolved.specs.ResolverViews.{resolved_by, resolved_each_by}
use Rattle.spectra_resolved.proofs.Mapped.{map_push}
use Rattle.spectra_resolved.proofs.First.{found_later, with_faults_append}

-- ---- an operator and its operands

module _ (r : Resolver) (head : ExprTree) (word : BinaryWord) (a b : Box ExprTree Global) (is : head.form ≡ code_form.Binary word a b) where
  binary-resolved : resolved_by r (expr_data head) ≡ tree (spot_at r.file head.first) (in_text (spot_at r.file head.at)) (Form.Binary word (resolved_by r (expr_data a.value)) (resolved_by r (expr_data b.value)))
  binary-resolved = ap (λ f. resolved_by r (expression head.first head.at f)) (ap form_data is ∙ binary_folded word a b)

  -- one more operator behind what is left
  pub chain_step : (links made : List Link) (l : Link) (all : ResolvedTree) → made ≡ links ++ l ∷ []
      → link_data l ≡ record { first = spot_at r.file head.first; at = in_text (spot_at r.file head.at); word = word; second = resolved_by r (expr_data b.value) }
      → chained (resolved_by r (expr_data head)) (map link_data (reverse links)) ≡ all
      → chained (resolved_by r (expr_data a.value)) (map link_data (reverse made)) ≡ all
  chain_step links made l all more there before =
      ap (λ ls. chained (resolved_by r (expr_data a.value)) (map link_data ls)) (ap reverse more ∙ reverse-append links (l ∷ []))
      ∙ ap (λ (d : LinkData). chained (tree d.first d.at (Form.Binary d.word (resolved_by r (expr_data a.value)) d.second)) (map link_data (reverse links))) there
      ∙ ap (λ t. chained t (map link_data (reverse links))) (sym binary-resolved)
      ∙ before

  -- what was found in the second operand comes behind what is found in the first
  pub chain_found : (found all : Option Finding) → with_faults found (misuses (resolved_by r (expr_data head))) ≡ all
      → with_faults (with_faults found (misuses (resolved_by r (expr_data b.value)))) (misuses (resolved_by r (expr_data a.value))) ≡ all
  chain_found found all before =
      sym (found_later found (misuses (resolved_by r (expr_data a.value))) (misuses (resolved_by r (expr_data b.value))))
      ∙ ap (λ t. with_faults found (misuses t)) (sym binary-resolved)
      ∙ before

pub first_smaller : (e : ExprTree) (word : BinaryWord) (a b : Box ExprTree Global) → e.form ≡ code_form.Binary word a b → size-ExprTree a.value < size-ExprTree e
first_smaller e word a b is = grind (arith, the_lemmas)

-- ---- one more of several expressions

module _ (r : Resolver) (es : List ExprTree) (i : ℕ) (e : ExprTree) (rest : drop i es ≡ e ∷ drop (i + 1) es) where
  pub each_step : (made more : List Resolved) (v : Resolved) (all : List ResolvedTree) → more ≡ made ++ v ∷ [] → resolved_data v ≡ resolved_by r (expr_data e)
      → map resolved_data made ++ listed (resolved_each_by r (expressions (map expr_data (drop i es)))) ≡ all
      → map resolved_data more ++ listed (resolved_each_by r (expressions (map expr_data (drop (i + 1) es)))) ≡ all
  each_step made more v all pushed is before =
      ap (λ xs. xs ++ listed (resolved_each_by r (expressions (map expr_data (drop (i + 1) es))))) (ap (map resolved_data) pushed ∙ map_push resolved_data made v)
      ∙ append_assoc (map resolved_data made) (resolved_data v ∷ []) (listed (resolved_each_by r (expressions (map expr_data (drop (i + 1) es)))))
      ∙ ap (λ t. map resolved_data made ++ t ∷ listed (resolved_each_by r (expressions (map expr_data (drop (i + 1) es))))) is
      ∙ ap (λ xs. map resolved_data made ++ listed (resolved_each_by r (expressions (map expr_data xs)))) (sym rest)
      ∙ before

  pub each_found : (found all : Option Finding) → with_faults found (misuses_of_each (resolved_each_by r (expressions (map expr_data (drop i es))))) ≡ all
      → with_faults (with_faults found (misuses (resolved_by r (expr_data e)))) (misuses_of_each (resolved_each_by r (expressions (map expr_data (drop (i + 1) es))))) ≡ all
  each_found found all before =
      sym (with_faults_append found (misuses (resolved_by r (expr_data e))) (misuses_of_each (resolved_each_by r (expressions (map expr_data (drop (i + 1) es))))))
      ∙ ap (λ xs. with_faults found (misuses_of_each (resolved_each_by r (expressions (map expr_data xs))))) (sym rest)
      ∙ before
