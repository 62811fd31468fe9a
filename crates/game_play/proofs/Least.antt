-- The least of several numbers.
use Rattle.std.proofs.Common.{◌≡◌, ℕ, List, [], ◌∷◌, ◌++◌, min, Option, Some, None, refl, ap, ◌∙◌, arith}
use Rattle.spec_model.specs.FirstBroken.{lesser, least}

min-assoc : (a b c : ℕ) → min a (min b c) ≡ min (min a b) c
min-assoc a b c = grind arith

pub lesser-assoc : (a b c : Option ℕ) → lesser a (lesser b c) ≡ lesser (lesser a b) c
lesser-assoc None b c = refl
lesser-assoc (Some m) None c = refl
lesser-assoc (Some m) (Some n) None = refl
lesser-assoc (Some m) (Some n) (Some p) = ap Some (min-assoc m n p)

pub least-append : (ms ns : List ℕ) → least (ms ++ ns) ≡ lesser (least ms) (least ns)
least-append [] ns = refl
least-append (m ∷ ms) ns = ap (lesser (Some m)) (least-append ms ns) ∙ lesser-assoc (Some m) (least ms) (least ns)
