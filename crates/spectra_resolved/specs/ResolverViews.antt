-- What the program resolves expressions by.
use Rattle.spectra_trees.specs.Data.{NameData, Expression, Expressions, RegexData, Regexes}
use Rattle.spectra_resolved.specs.declared.resolving.Resolver.{Resolver}
use Rattle.spectra_resolved.specs.Spots.{spot_of}
use Rattle.spectra_resolved.specs.Looks.{bound_in}
use Rattle.spectra_resolved.specs.LookViews.{look_data}
use Rattle.spectra_resolved.specs.declared.tree.QuantifierWord.{QuantifierWord}
use Rattle.spectra_resolved.specs.declared.tree.Extent.TheVariants as extents
use Rattle.spectra_resolved.specs.Resolved.{ResolvedTree, Form, ResolvedTrees, ResolvedRegex, ResolvedRegexes}
use Rattle.spectra_resolved.specs.Resolving.{resolved, resolved_each}
use Rattle.spectra_resolved.specs.Regexes.{resolved_regex, resolved_regexes}

abbrev pub resolved_by : Resolver → Expression → ResolvedTree
resolved_by r e = resolved (look_data r.look) r.file e

-- in the body of a quantifier with this variable
abbrev pub resolved_inside : Resolver → NameData → Expression → ResolvedTree
resolved_inside r name e = resolved (bound_in (look_data r.look) name.text (spot_of r.file name)) r.file e

-- a quantifier that isn't written out
abbrev pub quantified_by : Resolver → QuantifierWord → NameData → (low high body : Expression) → Form
quantified_by r word name low high body =
    Form.Quantified word (spot_of r.file name) extents.Open (resolved_by r low) (resolved_by r high) (ResolvedTrees.one_more (resolved_inside r name body) ResolvedTrees.none)

abbrev pub resolved_each_by : Resolver → Expressions → ResolvedTrees
resolved_each_by r es = resolved_each (look_data r.look) r.file es

abbrev pub regex_by : Resolver → RegexData → ResolvedRegex
regex_by r e = resolved_regex (look_data r.look) r.file e

abbrev pub regexes_by : Resolver → Regexes → ResolvedRegexes
regexes_by r es = resolved_regexes (look_data r.look) r.file es
