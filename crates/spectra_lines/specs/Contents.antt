-- What a line says: its expressions, where they stand, and what they are with everything put in.
use Rattle.std.specs.Prelude.{Bool, true, false, List, [], ◌∷◌, ◌++◌, map}
use Rattle.spec_model.specs.Moves.{is_assumption}
use Rattle.spectra_resolved.specs.declared.stand.Stand.{Stand}
use Rattle.spectra_resolved.specs.declared.stand.Stand.TheVariants as stand
use Rattle.spectra_resolved.specs.Resolved.{ResolvedTree, ResolvedRegex, Atom, Sequence, Choice, Repetition, ResolvedRegexes}
use Rattle.spectra_resolved.specs.Texts.{ResolvedBody, Initial, Safety, Recurring, Trigger, Pattern, ResolvedLine, ResolvedPatternLine, ResolvedPattern}
use Rattle.spectra_judge.specs.Known.{Known}
use Rattle.spectra_holes.specs.Holed.{holed}
use Rattle.spectra_elaboration.specs.Putting.{Bodies, put_in}
use Rattle.spectra_patterns.specs.Patterns.{with_lines}

-- ---- expressions

abbrev mutual
  -- the brackets of a regular expression
  pub brackets_in : ResolvedRegex → List ResolvedTree
  brackets_in (Atom t) = t ∷ []
  brackets_in (Sequence rs) = brackets_of_each rs
  brackets_in (Choice rs) = brackets_of_each rs
  brackets_in (Repetition r times) = brackets_in r

  pub brackets_of_each : ResolvedRegexes → List ResolvedTree
  brackets_of_each ResolvedRegexes.none = []
  brackets_of_each (ResolvedRegexes.one_more r rs) = brackets_in r ++ brackets_of_each rs

-- the expressions of a line
abbrev pub trees_in : ResolvedBody → List ResolvedTree
trees_in (Initial t) = t ∷ []
trees_in (Safety t) = t ∷ []
trees_in (Recurring t) = t ∷ []
trees_in (Trigger at cause effect) = brackets_in cause ++ brackets_in effect
trees_in (Pattern at used arguments) = arguments

-- where they stand, in an assumption or in another line
abbrev pub initial_stand : (asm : Bool) → Stand
initial_stand true = stand.InitialAssumption
initial_stand false = stand.InitialGuarantee

abbrev pub safety_stand : (asm : Bool) → Stand
safety_stand true = stand.SafetyAssumption
safety_stand false = stand.SafetyGuarantee

abbrev pub stand_in : (asm : Bool) → ResolvedBody → Stand
stand_in asm (Initial t) = initial_stand asm
stand_in asm (Safety t) = safety_stand asm
stand_in asm (Recurring t) = stand.Recurring
stand_in asm (Trigger at cause effect) = stand.Atom
stand_in asm (Pattern at used arguments) = stand.Argument

abbrev pub is_asm : ResolvedLine → Bool
is_asm l = is_assumption l.role

-- ---- everything put in

-- What lines are judged by: what is known of the names in them, and the bodies that are put in for definitions.
pub record Facts : Type 0 where
  pub known : Known
  pub bodies : Bodies

-- an expression that stands there, with everything put in
abbrev pub tree_put : Facts → Stand → ResolvedTree → ResolvedTree
tree_put f at t = put_in f.bodies (holed f.known at t)

abbrev mutual
  pub regex_put : Facts → ResolvedRegex → ResolvedRegex
  regex_put f (Atom t) = Atom (tree_put f stand.Atom t)
  regex_put f (Sequence rs) = Sequence (each_regex_put f rs)
  regex_put f (Choice rs) = Choice (each_regex_put f rs)
  regex_put f (Repetition r times) = Repetition (regex_put f r) times

  pub each_regex_put : Facts → ResolvedRegexes → ResolvedRegexes
  each_regex_put f ResolvedRegexes.none = ResolvedRegexes.none
  each_regex_put f (ResolvedRegexes.one_more r rs) = ResolvedRegexes.one_more (regex_put f r) (each_regex_put f rs)

abbrev pub body_put : Facts → (asm : Bool) → ResolvedBody → ResolvedBody
body_put f asm (Initial t) = Initial (tree_put f (initial_stand asm) t)
body_put f asm (Safety t) = Safety (tree_put f (safety_stand asm) t)
body_put f asm (Recurring t) = Recurring (tree_put f stand.Recurring t)
body_put f asm (Trigger at cause effect) = Trigger at (regex_put f cause) (regex_put f effect)
body_put f asm (Pattern at used arguments) = Pattern at used (map (tree_put f stand.Argument) arguments)

-- the line with everything put in
abbrev pub line_put : Facts → ResolvedLine → ResolvedLine
line_put f l = record l { body = body_put f (is_asm l) l.body }

-- a pattern's line with everything put in
abbrev pub pattern_line_put : Facts → ResolvedPatternLine → ResolvedPatternLine
pattern_line_put f (ResolvedPatternLine.Initial at t) = ResolvedPatternLine.Initial at (put_in f.bodies t)
pattern_line_put f (ResolvedPatternLine.Safety at t) = ResolvedPatternLine.Safety at (put_in f.bodies t)
pattern_line_put f (ResolvedPatternLine.Recurring at t) = ResolvedPatternLine.Recurring at (put_in f.bodies t)

abbrev pub pattern_put : Facts → ResolvedPattern → ResolvedPattern
pattern_put f p = with_lines p (map (pattern_line_put f) p.lines)
