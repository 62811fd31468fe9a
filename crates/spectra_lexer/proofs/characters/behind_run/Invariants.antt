use Rattle.std.proofs.Common.{length}
use Rattle.std.specs.Str.{chars}
use denote.Text.{Utf8}
use denote.Shadow.{shadow}
use Rattle.spectra_lexer.specs.Progress.{IsInside}
use Rattle.spectra_lexer.proofs.Walks.{Walked}
use Rattle.spectra_lexer.proofs.characters.behind_run.Given as goal

-- the characters so far go on
abbrev pub invariant-loop-c : goal.invariant-loop-c
invariant-loop-c l = shadow (Utf8 l.rest) × Walked l.run l.fn.at (chars l.fn.text) l.at (chars l.rest) × IsInside l.at l.rest

abbrev pub decreases-loop-c : goal.decreases-loop-c
decreases-loop-c l = length l.rest
