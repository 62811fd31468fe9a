-- Patterns that are said to be sound.
use Rattle.std.specs.Prelude.{◌≡◌, true, List, [], ◌∷◌}
use Rattle.spectra_patterns.specs.Patterns.{lines_faults}
use Rattle.spectra_patterns.specs.SoundPatterns.{IsSound}
use Rattle.spectra_lines.specs.Contents.{Facts, pattern_put}
use Rattle.spectra_lines.specs.Parts.{TypedPattern, is_sound}

-- what is said to be sound is so with everything put in, where its lines have no fault then
abbrev pub IsSoundTyped : Facts → TypedPattern → Type 0
IsSoundTyped f p = is_sound p ≡ true → lines_faults p.own (pattern_put f p.pattern) ≡ [] → IsSound p.own (pattern_put f p.pattern)

abbrev pub AreSound : Facts → List TypedPattern → Type 0
AreSound f [] = Unit {0}
AreSound f (p ∷ ps) = IsSoundTyped f p × AreSound f ps
