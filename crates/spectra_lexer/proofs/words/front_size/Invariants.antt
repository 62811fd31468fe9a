use Rattle.std.proofs.Common.{◌≡◌, drop, map, eqb}
use Rattle.std.specs.List.{find, starts_with}
use Rattle.spectra_lexer.proofs.words.front_size.Given as goal

-- what is left decides
abbrev pub invariant-loop-front : goal.invariant-loop-front
invariant-loop-front l = find (λ s. starts_with eqb l.text s) (map (λ s. s.now) (drop l.front-index l.fronts)) ≡ find (λ s. starts_with eqb l.text s) (map (λ s. s.now) l.fronts)
