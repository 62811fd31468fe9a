-- Names are the same where their bytes are.
use Rattle.std.proofs.Common.{◌≡◌, ℕ, Bool, not, ◌&&◌, ◌||◌, ◌==◌, List, [], ◌∷◌, refl, ap, ◌∙◌}
use Rattle.std.specs.List.{list_any}
use Rattle.std.specs.Str.{bytes_eq}
use Rattle.spec_model.specs.Typing.{same_names}
use Rattle.spec_model.specs.WellMade.{all_differ}

pub same_names-bytes : (ms ns : List ℕ) → same_names ms ns ≡ bytes_eq ms ns
same_names-bytes [] [] = refl
same_names-bytes [] (n ∷ ns) = refl
same_names-bytes (m ∷ ms) [] = refl
same_names-bytes (m ∷ ms) (n ∷ ns) = ap (λ b. m == n && b) (same_names-bytes ms ns)

any-same : {X : Type 0} (p q : X → Bool) → ((x : X) → p x ≡ q x) → (xs : List X) → list_any p xs ≡ list_any q xs
any-same p q same [] = refl
any-same p q same (x ∷ xs) = ap (λ b. b || list_any p xs) (same x) ∙ ap (λ b. q x || b) (any-same p q same xs)

pub differ-bytes : (xs : List (List ℕ)) → all_differ same_names xs ≡ all_differ bytes_eq xs
differ-bytes [] = refl
differ-bytes (x ∷ xs) = ap (λ b. not b && all_differ same_names xs) (any-same (same_names x) (bytes_eq x) (same_names-bytes x) xs) ∙ ap (λ b. not (list_any (bytes_eq x) xs) && b) (differ-bytes xs)
