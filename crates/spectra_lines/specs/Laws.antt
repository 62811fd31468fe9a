-- Laws over the definitions alone, each of which the function of its name in src/laws.rt proves.
use Rattle.std.specs.Prelude.{◌≡◌, ℕ, ◌+◌, ◌≤◌, Bool, true, List, [], ◌∷◌, map}
use Rattle.std.specs.List.{list_all}
use Rattle.spec_model.specs.Sizes.{all_hidden}
use Rattle.spectra_resolved.specs.Texts.{ResolvedLine}
use Rattle.spectra_resolved.specs.Resolved.{ResolvedTree}
use Rattle.spectra_patterns.specs.Patterns.{line_tree, lines_faults, pattern_faults, pattern_of}
use Rattle.spectra_lines.specs.Contents.{Facts, line_put, pattern_put}
use Rattle.spectra_lines.specs.Limits.{most_nodes, nodes_of, are_flat}
use Rattle.spectra_lines.specs.Lines.{as_written, own_faults, put_trees, as_put, whole_faults}
use Rattle.spectra_lines.specs.Parts.{TypedPattern, known_inside, put_lines}
use Rattle.spectra_patterns.specs.Hidden.{alone, most_hidden}
use Rattle.spectra_lines.specs.Said.{small_lines, lines_faults as text_lines_faults, lines_meant, triggers_meant, patterns_meant}

-- the nodes of the formulas of lines with everything put in, and of patterns' lines
abbrev pub nodes_of_lines : Facts → List ResolvedLine → ℕ
nodes_of_lines f [] = 0
nodes_of_lines f (l ∷ ls) = nodes_of f.known 0 (put_trees f l) + nodes_of_lines f ls

abbrev pub put_trees_of : Facts → TypedPattern → List ResolvedTree
put_trees_of f p = map line_tree (put_lines f p)

abbrev pub nodes_of_patterns : Facts → List TypedPattern → ℕ
nodes_of_patterns f [] = 0
nodes_of_patterns f (p ∷ ps) = nodes_of (known_inside p) p.pattern.params (put_trees_of f p) + nodes_of_patterns f ps

abbrev pub are_all_sound : List TypedPattern → Bool
are_all_sound ps = list_all (λ (p : TypedPattern). p.sound) ps

-- no fault of a line: as it is written, and with everything put in
pub record HasNoFault (f : Facts) (l : ResolvedLine) : Type 0 where
  pub written : as_written f l ≡ []
  pub own : own_faults l.body ≡ []
  pub put : as_put f l ≡ []
  pub whole : whole_faults f.known (line_put f l).body ≡ []

abbrev pub HaveNoFault : Facts → List ResolvedLine → Type 0
HaveNoFault f [] = Unit {0}
HaveNoFault f (l ∷ ls) = HasNoFault f l × HaveNoFault f ls

-- no fault of patterns, where they are sound: as they are written, and with everything put in
abbrev pub PatternsHaveNoFault : Facts → List TypedPattern → Type 0
PatternsHaveNoFault f [] = Unit {0}
PatternsHaveNoFault f (p ∷ ps) =
    (lines_faults p.own p.pattern ≡ []) × (p.sound ≡ true → pattern_faults true p.own (pattern_put f p.pattern) ≡ []) × PatternsHaveNoFault f ps

-- all lines and patterns mean something, and pass no limit
pub record AreMeant (f : Facts) (ps : List TypedPattern) (ls : List ResolvedLine) : Type 0 where
  pub lines : small_lines f ps ls ≡ map (line_put f) ls
  pub patterns : are_all_sound ps ≡ true → patterns_meant f ps ls ≡ map (λ (p : TypedPattern). pattern_of p.own (pattern_put f p.pattern)) ps
  pub nodes : nodes_of_lines f ls + nodes_of_patterns f ps ≤ most_nodes
  pub levels : list_all (λ l. are_flat f.known 0 (put_trees f l)) ls ≡ true
  pub pattern_levels : list_all (λ p. are_flat (known_inside p) p.pattern.params (put_trees_of f p)) ps ≡ true
  pub hidden : all_hidden (alone (triggers_meant f ps ls) (lines_meant f ps ls)) ≤ most_hidden
  pub lines_right : HaveNoFault f ls
  pub patterns_right : PatternsHaveNoFault f ps

-- where they have no fault
abbrev pub FaultlessAreMeant : Type 0
FaultlessAreMeant = (f : Facts) (ps : List TypedPattern) (ls : List ResolvedLine) → text_lines_faults f ps ls ≡ [] → AreMeant f ps ls
