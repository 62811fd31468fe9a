-- Entries of tables in which there may be nothing.
use Rattle.std.proofs.Common.{◌≡◌, ℕ, zero, suc, List, [], ◌∷◌, ◌++◌, take, replicate, get_or, slice_set, Option, Some, None, ◌⊎◌, inl, inr, refl, ap}

-- an entry of a table in which one was set: one from before, or that one
pub entry : {X : Type 0} (gs : List (Option X)) (k : ℕ) (o : Option X) (j : ℕ) (g : X) → get_or (slice_set gs k o) j None ≡ Some g → (get_or gs j None ≡ Some g) ⊎ ((j ≡ k) × (o ≡ Some g))
entry [] k o j g is = inl is
entry (x ∷ gs) zero o zero g is = inr (refl, is)
entry (x ∷ gs) zero o (suc j) g is = inl is
entry (x ∷ gs) (suc k) o zero g is = inl is
entry (x ∷ gs) (suc k) o (suc j) g is = elim (entry gs k o j g is) [ inl before ↦ inl before | inr new ↦ inr (ap suc new.0, new.1) ]

-- a new table has none
pub none_at : {X : Type 0} (xs : List (Option X)) (n m k : ℕ) → xs ≡ [] → get_or (take n xs ++ replicate m None) k None ≡ None
none_at {X} [] n m k e = nones n m k
  where
    replicated : (m k : ℕ) → get_or (replicate {A = Option X} m None) k None ≡ None
    replicated zero k = refl
    replicated (suc m) zero = refl
    replicated (suc m) (suc k) = replicated m k

    nones : (n m k : ℕ) → get_or (take {A = Option X} n [] ++ replicate m None) k None ≡ None
    nones zero m k = replicated m k
    nones (suc n) m k = replicated m k
none_at (x ∷ xs) n m k e = absurd (cc)
