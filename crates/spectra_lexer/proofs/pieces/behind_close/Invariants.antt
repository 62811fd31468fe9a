use Rattle.std.proofs.Common.{length}
use Rattle.std.specs.Str.{chars}
use denote.Text.{Utf8}
use denote.Shadow.{shadow}
use Rattle.spectra_lexer.specs.Progress.{IsInside}
use Rattle.spectra_lexer.proofs.Closing.{IsOpen}
use Rattle.spectra_lexer.proofs.pieces.behind_close.Given as goal

-- no comment closes within the characters so far
abbrev pub invariant-loop-c : goal.invariant-loop-c
invariant-loop-c l = shadow (Utf8 l.rest) × IsOpen l.fn.at (chars l.fn.text) l.at (chars l.rest) × IsInside l.at l.rest

abbrev pub decreases-loop-c : goal.decreases-loop-c
decreases-loop-c l = length l.rest
