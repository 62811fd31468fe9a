use Rattle.std.proofs.Common.{◌≡◌, drop, map}
use Rattle.std.specs.List.{list_any}
use Rattle.spectra_lexer.specs.Words.{same_text}
use Rattle.spectra_lexer.proofs.words.is_among.Given as goal

-- what is left decides
abbrev pub invariant-loop-w : goal.invariant-loop-w
invariant-loop-w l = list_any (λ w. same_text w l.word) (map (λ w. w.now) (drop l.w-index l.words)) ≡ list_any (λ w. same_text w l.word) (map (λ w. w.now) l.words)
