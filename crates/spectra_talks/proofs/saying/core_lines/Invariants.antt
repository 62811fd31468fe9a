use Rattle.std.proofs.Common.{◌≡◌, ◌++◌, drop, string_bytes}
use Rattle.spectra_talks.specs.Endings.{line_of, with_core, numbers_text}
use Rattle.spectra_talks.proofs.saying.core_lines.Given as goal

-- the text so far, and the numbers of what is left, are all
abbrev pub invariant-loop-number : goal.invariant-loop-number
invariant-loop-number l = string_bytes l.text ++ numbers_text (drop l.number-index l.core) ≡ line_of (with_core l.n l.m l.core)
