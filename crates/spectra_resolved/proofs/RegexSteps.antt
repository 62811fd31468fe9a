-- One step of a loop that resolves regular expressions.
use Rattle.std.proofs.Common.{◌≡◌, ℕ, ◌+◌, List, [], ◌∷◌, ◌++◌, map, drop, Option, refl, sym, ap, ◌∙◌, append_assoc}
use Rattle.spectra_trees.specs.declared.tree.RegexTree.{RegexTree}
use Rattle.spectra_trees.specs.Data as written
use Rattle.spectra_trees.specs.Views.{regex_data as tree_regex}
use Rattle.spectra_resolved.specs.declared.tree.Regex.{Regex}
use Rattle.spectra_resolved.specs.declared.resolving.Resolver.{Resolver}
use Rattle.spectra_resolved.specs.declared.findings.Finding.{Finding}
use Rattle.spectra_resolved.specs.Findings.{with_faults}
use Rattle.spectra_resolved.specs.Resolved.{ResolvedRegex, ResolvedRegexes}
use Rattle.spectra_resolved.specs.Chained.{regexes, regex_list}
use Rattle.spectra_resolved.specs.Views.{regex_data}
use Rattle.spectra_resolved.specs.Regexes.{regex_misuses, misuses_of_regexes}
use Rattle.spectra_resolved.specs.ResolverViews.{regex_by, regexes_by}
use Rattle.spectra_resolved.proofs.Mapped.{map_push}
use Rattle.spectra_resolved.proofs.First.{with_faults_append}

pub regexes-listed : (rs : ResolvedRegexes) → regexes (regex_list rs) ≡ rs
regexes-listed ResolvedRegexes.none = refl
regexes-listed (ResolvedRegexes.one_more r rs) = ap (ResolvedRegexes.one_more r) (regexes-listed rs)

-- those of several regular expressions, as a list
abbrev pub parts_by : Resolver → List RegexTree → List ResolvedRegex
parts_by by rs = regex_list (regexes_by by (written.regexes (map tree_regex rs)))

abbrev pub misuses_by : Resolver → List RegexTree → List Finding
misuses_by by rs = misuses_of_regexes (regexes_by by (written.regexes (map tree_regex rs)))

module _ (by : Resolver) (rs : List RegexTree) (i : ℕ) (r : RegexTree) (rest : drop i rs ≡ r ∷ drop (i + 1) rs) where
  pub regex_step : (made more : List Regex) (v : Regex) (all : List ResolvedRegex) → more ≡ made ++ v ∷ [] → regex_data v ≡ regex_by by (tree_regex r)
      → map regex_data made ++ parts_by by (drop i rs) ≡ all → map regex_data more ++ parts_by by (drop (i + 1) rs) ≡ all
  regex_step made more v all pushed is before =
      ap (λ xs. xs ++ parts_by by (drop (i + 1) rs)) (ap (map regex_data) pushed ∙ map_push regex_data made v)
      ∙ append_assoc (map regex_data made) (regex_data v ∷ []) (parts_by by (drop (i + 1) rs))
      ∙ ap (λ p. map regex_data made ++ p ∷ parts_by by (drop (i + 1) rs)) is
      ∙ ap (λ xs. map regex_data made ++ parts_by by xs) (sym rest)
      ∙ before

  pub regex_found : (found all : Option Finding) → with_faults found (misuses_by by (drop i rs)) ≡ all
      → with_faults (with_faults found (regex_misuses (regex_by by (tree_regex r)))) (misuses_by by (drop (i + 1) rs)) ≡ all
  regex_found found all before =
      sym (with_faults_append found (regex_misuses (regex_by by (tree_regex r))) (misuses_by by (drop (i + 1) rs)))
      ∙ ap (λ xs. with_faults found (misuses_by by xs)) (sym rest)
      ∙ before
