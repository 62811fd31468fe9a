-- The faults of a line.
use Rattle.spectra_trees.specs.Faults.{TooLarge, number_of}
use Rattle.std.specs.Prelude.{ℕ, ◌&&◌, if◌then◌else◌, List, [], ◌++◌, flat_map, Option}
use Rattle.spectra_resolved.specs.declared.stand.Stand.{Stand}
use Rattle.spectra_resolved.specs.declared.findings.Finding.{Finding}
use Rattle.spectra_resolved.specs.Resolved.{ResolvedTree}
use Rattle.spectra_resolved.specs.Texts.{ResolvedBody, Trigger, ResolvedLine}
use Rattle.spectra_judge.specs.Findings.{fault_if}
use Rattle.spectra_judge.specs.Known.{Known}
use Rattle.spectra_judge.specs.Judged.{faults_of}
use Rattle.spectra_patterns.specs.Patterns.{is_empty}
use Rattle.spectra_patterns.specs.Triggers.{repeat_faults, trigger_faults}
use Rattle.spectra_lines.specs.Contents.{trees_in, stand_in, is_asm, Facts, line_put}
use Rattle.spectra_lines.specs.Limits.{is_small, is_too_large}

-- the faults of expressions that stand there
abbrev pub trees_faults : Known → Stand → List ResolvedTree → List Finding
trees_faults known at ts = flat_map (faults_of known at) ts

abbrev pub line_stand : ResolvedLine → Stand
line_stand l = stand_in (is_asm l) l.body

-- ---- as it is written

abbrev pub as_written : Facts → ResolvedLine → List Finding
as_written f l = trees_faults f.known (line_stand l) (trees_in l.body)

-- a trigger's repeats are looked at as they are written
abbrev pub own_faults : ResolvedBody → List Finding
own_faults (Trigger at cause effect) = repeat_faults at cause effect
own_faults _ = []

-- ---- with everything put in

abbrev pub put_trees : Facts → ResolvedLine → List ResolvedTree
put_trees f l = trees_in (line_put f l).body

abbrev pub as_put : Facts → ResolvedLine → List Finding
as_put f l = trees_faults f.known (line_stand l) (put_trees f l)

-- a trigger as a whole
abbrev pub whole_faults : Known → ResolvedBody → List Finding
whole_faults known (Trigger at cause effect) = trigger_faults known at cause effect
whole_faults known _ = []

-- it is looked at where no expression has a fault in either text
abbrev pub put_faults : Facts → ResolvedLine → List Finding
put_faults f l = as_put f l ++ (if is_empty (as_written f l) && is_empty (as_put f l) then whole_faults f.known (line_put f l).body else [])

-- ---- all

-- The faults of a line, by the room that is left for its nodes. What is too large isn't judged with everything put in.
abbrev pub line_faults : Facts → Option ℕ → ResolvedLine → List Finding
line_faults f room l =
    as_written f l
    ++ (own_faults l.body
    ++ (fault_if (is_too_large f.known 0 room (put_trees f l)) (number_of TooLarge) l.at ++ (if is_small f.known 0 room (put_trees f l) then put_faults f l else [])))
