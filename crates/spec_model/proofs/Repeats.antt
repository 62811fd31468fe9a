-- Repeats around one another, taken off from the outermost and put back from the innermost one.
use Rattle.std.proofs.Common.{◌≡◌, List, [], ◌∷◌, ◌++◌, refl, ap}
use Rattle.spec_model.specs.declared.copy_lines.Times.{Times}
use Rattle.spec_model.specs.Syntax.{Regular, Repetition}
use Rattle.spec_model.specs.Around.{around}

pub around-append : (ts : List Times) (t : Times) (piece : Regular) → around (ts ++ t ∷ []) piece ≡ around ts (Repetition piece t.low t.high)
around-append [] t piece = refl
around-append (s ∷ ts) t piece = ap (λ (r : Regular). Repetition r s.low s.high) (around-append ts t piece)
