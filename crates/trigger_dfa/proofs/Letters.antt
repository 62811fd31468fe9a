-- The letters, in rising order, and lists that are made of blocks of one length.
use Rattle.std.proofs.Common.{◌≡◌, ℕ, zero, suc, ◌+◌, ◌*◌, ◌^◌, ◌<◌, Bool, true, false, List, [], ◌∷◌, ◌++◌, flat_map, length, get_or, refl, sym, ◌∙◌, ap, arith, length-append, suc-mul, zero-mul, mul_comm}
use Rattle.std.proofs.lemmas.Bool.{or_left, or_right}
use Rattle.std.proofs.lemmas.List.{get_or_append_left, get_or-append-add}
use Rattle.std.proofs.Math.Nat.{pow-succ'}
use Rattle.spec_model.specs.Games.{letter_of}
use Rattle.spec_model.specs.TriggerStates.{letters}
use Rattle.trigger_dfa.proofs.Different.{among, same, same-refl, flat_among}

-- ---- blocks

module _ {X A : Type 0} (g : X → List A) (m : ℕ) (each : (x : X) → length (g x) ≡ m) where
  pub length_blocks : (xs : List X) → length (flat_map g xs) ≡ length xs * m
  length_blocks [] = sym (zero-mul m)
  length_blocks (x ∷ xs) = length-append (g x) (flat_map g xs) ∙ ap (λ (k : ℕ). k + length (flat_map g xs)) (each x) ∙ ap (λ (k : ℕ). m + k) (length_blocks xs)
      ∙ (let e : m + length xs * m ≡ suc (length xs) * m = omega (arith, suc-mul (length xs) m) in e)

  pub block_at : (xs : List X) (i j : ℕ) (e : X) (d : A) → i < length xs → j < m → get_or (flat_map g xs) (i * m + j) d ≡ get_or (g (get_or xs i e)) j d
  block_at [] i j e d below inside = absurd (omega arith)
  block_at (x ∷ xs) zero j e d below inside =
      let here : zero * m + j ≡ j = omega (arith, zero-mul m) in
      let short : j < length (g x) = omega (arith, each x) in
      ap (λ (k : ℕ). get_or (g x ++ flat_map g xs) k d) here ∙ get_or_append_left (g x) (flat_map g xs) d j short
  block_at (x ∷ xs) (suc i) j e d below inside =
      let there : suc i * m + j ≡ length (g x) + (i * m + j) = omega (arith, suc-mul i m, each x) in
      ap (λ (k : ℕ). get_or (g x ++ flat_map g xs) k d) there ∙ get_or-append-add (g x) (flat_map g xs) (i * m + j) d ∙ block_at xs i j e d (omega arith) inside

-- ---- letters

abbrev both : List Bool → List (List Bool)
both bs = (false ∷ bs) ∷ (true ∷ bs) ∷ []

pub length-letters : (k : ℕ) → length (letters k) ≡ 2 ^ k
length-letters zero = refl
length-letters (suc k) =
    length_blocks both 2 (λ bs. refl) (letters k) ∙ ap (λ (n : ℕ). n * 2) (length-letters k) ∙ (let e : 2 ^ k * 2 ≡ 2 ^ suc k = mul_comm (2 ^ k) 2 ∙ sym (pow-succ' 2 k) in e)

pub letter_among : (bs : List Bool) → among bs (letters (length bs)) ≡ true
letter_among [] = refl
letter_among (false ∷ bs) =
    flat_among both bs (false ∷ bs) (letters (length bs)) (letter_among bs) (or_left (same (false ∷ bs) (false ∷ bs)) (among (false ∷ bs) ((true ∷ bs) ∷ [])) (same-refl (false ∷ bs)))
letter_among (true ∷ bs) =
    flat_among both bs (true ∷ bs) (letters (length bs)) (letter_among bs) (or_right (same (false ∷ bs) (true ∷ bs)) (among (true ∷ bs) ((true ∷ bs) ∷ [])) (or_left (same (true ∷ bs) (true ∷ bs)) false (same-refl (true ∷ bs))))

pub letter_below : (bs : List Bool) → letter_of bs < 2 ^ length bs
letter_below [] = omega arith
letter_below (true ∷ bs) = let less = letter_below bs in let e = pow-succ' 2 (length bs) in omega arith
letter_below (false ∷ bs) = let less = letter_below bs in let e = pow-succ' 2 (length bs) in omega arith

-- each letter stands at the place that its number tells
pub letter_at : (bs : List Bool) (d : List Bool) → get_or (letters (length bs)) (letter_of bs) d ≡ bs
letter_at [] d = refl
letter_at (false ∷ bs) d =
    let below : letter_of bs < length (letters (length bs)) = omega (arith, letter_below bs, length-letters (length bs)) in
    let place : 0 + 2 * letter_of bs ≡ letter_of bs * 2 + 0 = omega arith in
    ap (λ (n : ℕ). get_or (letters (suc (length bs))) n d) place
    ∙ block_at both 2 (λ xs. refl) (letters (length bs)) (letter_of bs) 0 [] d below (omega arith)
    ∙ ap (λ (xs : List Bool). get_or (both xs) 0 d) (letter_at bs [])
letter_at (true ∷ bs) d =
    let below : letter_of bs < length (letters (length bs)) = omega (arith, letter_below bs, length-letters (length bs)) in
    let place : 1 + 2 * letter_of bs ≡ letter_of bs * 2 + 1 = omega arith in
    ap (λ (n : ℕ). get_or (letters (suc (length bs))) n d) place
    ∙ block_at both 2 (λ xs. refl) (letters (length bs)) (letter_of bs) 1 [] d below (omega arith)
    ∙ ap (λ (xs : List Bool). get_or (both xs) 1 d) (letter_at bs [])
