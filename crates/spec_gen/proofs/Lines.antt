-- One line more, or one client's lines more.
use Rattle.std.proofs.Common.{◌≡◌, ℕ, ◌+◌, ◌-◌, ◌<◌, suc, zero, List, [], ◌∷◌, ◌++◌, sym, ◌∙◌, ap, subst, refl, arith, add-one, add-zero}
use Rattle.std.specs.List.{flat_map, range_with_len}
use Rattle.std.proofs.lemmas.List.{flat_map_more}
use Rattle.spec_gen.specs.Arbiter.{clients, clients_after}

-- a range of one number more
range_more : (a n : ℕ) → range_with_len a (suc n) ≡ range_with_len a n ++ (a + n) ∷ []
range_more a zero = ap (λ (x : ℕ). x ∷ []) (omega arith)
range_more a (suc n) =
    let e : (a + 1) + n ≡ a + suc n = omega arith in
    ap (λ (xs : List ℕ). a ∷ xs) (range_more (a + 1) n) ∙ ap (λ (x : ℕ). a ∷ (range_with_len (a + 1) n ++ x ∷ [])) e

more : (f : ℕ → List ℕ) (before now after : List ℕ) (a n k : ℕ) → k ≡ a + n → now ≡ before ++ flat_map f (range_with_len a n) → after ≡ now ++ f k → after ≡ before ++ flat_map f (range_with_len a (suc n))
more f before now after a n k is has wrote =
    wrote
    ∙ (ap (λ (xs : List ℕ). xs ++ f k) has
    ∙ (flat_map_more f before (range_with_len a n) k
    ∙ (ap (λ (x : ℕ). before ++ flat_map f (range_with_len a n ++ x ∷ [])) is
    ∙ ap (λ (xs : List ℕ). before ++ flat_map f xs) (sym (range_more a n)))))

-- the lines of all clients up to one, and that one's
pub one_more : (f : ℕ → List ℕ) (before now after : List ℕ) (i : ℕ) → now ≡ before ++ flat_map f (clients i) → after ≡ now ++ f i → after ≡ before ++ flat_map f (clients (i + 1))
one_more f before now after i has wrote =
    let next : suc i ≡ i + 1 = omega arith in
    subst (λ (n : ℕ). after ≡ before ++ flat_map f (clients n)) next (more f before now after 0 i i (omega arith) has wrote)

-- the lines of the clients after one up to another, and that one's
pub one_more_after : (f : ℕ → List ℕ) (before now after : List ℕ) (i k : ℕ) → i < k → now ≡ before ++ flat_map f (clients_after i k) → after ≡ now ++ f k → after ≡ before ++ flat_map f (clients_after i (k + 1))
one_more_after f before now after i k later has wrote =
    let next : suc (k - (i + 1)) ≡ (k + 1) - (i + 1) = omega arith in
    subst (λ (n : ℕ). after ≡ before ++ flat_map f (range_with_len (i + 1) n)) next (more f before now after (i + 1) (k - (i + 1)) k (omega arith) has wrote)
