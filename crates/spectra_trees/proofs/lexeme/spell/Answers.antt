use Rattle.std.proofs.Common.{rules, Result, Ok, Err}
use Rattle.std.specs.Prelude.{IsOk, MatchResult}
use Rattle.spectra_trees.proofs.lexeme.spell.Goals as goal

-- the error's case can't be
ok_only : {A E : Type 0} (r : Result A E) (P : A → Type 0) (U : Type 0) (V : E → Type 0) → MatchResult r P (λ e. (U → ⊥) × V e) → U → IsOk r
ok_only (Ok x) P U V h u = search rules
ok_only (Err e) P U V h u = absurd (h.0 u)

pub unwrap-text-requires : goal.unwrap-text-requires
unwrap-text-requires c = ok_only c.from_utf8.result _ _ _ c.from_utf8.ensures.cases c.requires.utf8
