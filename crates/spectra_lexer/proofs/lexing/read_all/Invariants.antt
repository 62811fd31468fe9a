use Rattle.std.proofs.Common.{[], length}
use Rattle.std.specs.Str.{chars}
use denote.Text.{Utf8}
use denote.Shadow.{shadow}
use Rattle.spectra_lexer.specs.Progress.{Leads, IsInside}
use Rattle.spectra_lexer.proofs.lexing.read_all.Given as goal

-- the tokens so far and those of what is left are the text's
abbrev pub invariant-loop-rest : goal.invariant-loop-rest
invariant-loop-rest l = shadow (Utf8 l.rest) × Leads l.fn.at (chars l.fn.text) [] l.here (chars l.rest) l.tokens.items × IsInside l.here l.rest

abbrev pub decreases-loop-rest : goal.decreases-loop-rest
decreases-loop-rest l = length (chars l.rest)
