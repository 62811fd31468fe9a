-- Lists of tokens that are one, in two pairs of parts.
use Rattle.std.proofs.Common.{◌≡◌, List, [], ◌∷◌, ◌++◌, refl, sym, ap, subst}
use Rattle.spectra_trees.specs.Lexemes.{Lexeme}
use Rattle.spectra_exprs.proofs.Comparing.{Fresh}

-- one list is a front of the other
pub data Split (u v w x : List Lexeme) : Type 0 where
  short : (c : List Lexeme) → u ≡ w ++ c → x ≡ c ++ v → Split u v w x
  long : (t : Lexeme) (c : List Lexeme) → w ≡ u ++ t ∷ c → v ≡ (t ∷ c) ++ x → Split u v w x

split_more : (t : Lexeme) (u v w x : List Lexeme) → Split u v w x → Split (t ∷ u) v (t ∷ w) x
split_more t u v w x (Split.short c e g) = Split.short c (ap (λ (m : List Lexeme). t ∷ m) e) g
split_more t u v w x (Split.long s c e g) = Split.long s c (ap (λ (m : List Lexeme). t ∷ m) e) g

pub split : (u v w x : List Lexeme) → u ++ v ≡ w ++ x → Split u v w x
split u v [] x e = Split.short u refl (sym e)
split [] v (t ∷ w) x e = Split.long t w refl e
split (s ∷ u) v (t ∷ w) x e =
    let first : s ≡ t = cc in
    let rest : u ++ v ≡ w ++ x = cc in
    subst (λ (y : Lexeme). Split (s ∷ u) v (y ∷ w) x) first (split_more s u v w x (split u v w x rest))

pub fresh_at : (t : Lexeme) (u : List Lexeme) (x : Lexeme) (v : List Lexeme) → Fresh t (u ++ x ∷ v) → x.number ≡ t.number → ⊥
fresh_at t [] x v h = h.0
fresh_at t (y ∷ u) x v h = fresh_at t u x v h.1
