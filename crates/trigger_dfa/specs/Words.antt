-- Sets of positions as words of 64 bits.
use Rattle.std.specs.Prelude.{ℕ, suc, Bool, false, ◌&&◌, ◌||◌, ◌==◌, if◌then◌else◌, bit_or, List, [], ◌∷◌, ◌++◌, flat_map}
use Rattle.std.specs.List.{list_any}
use Rattle.std.specs.Int.{bit_at}
use Rattle.spec_model.specs.Syntax.{Formula}

-- whether the word has the position
abbrev pub in_word : ℕ → ℕ → Bool
in_word word p = bit_at word p == 1

-- whether the formula of the position passes the test, where the first of all has this number
abbrev pub tells : (Formula → Bool) → ℕ → List Formula → ℕ → Bool
tells test n [] p = false
tells test n (e ∷ es) p = (n == p && test e) || tells test (suc n) es p

-- for each letter, the positions whose formula it makes true, where each word has the positions of one atom
abbrev pub masks_of : List ℕ → List ℕ
masks_of [] = 0 ∷ []
masks_of (w ∷ ws) = flat_map (λ m. m ∷ bit_or m w ∷ []) (masks_of ws)

-- whether the position is in one of the words whose places a set has, where the first word's place is this number
abbrev pub joined : ℕ → List ℕ → ℕ → ℕ → Bool
joined n [] set p = false
joined n (w ∷ ws) set p = (in_word set n && in_word w p) || joined (suc n) ws set p

-- and the word of those positions
abbrev pub joined_word : ℕ → List ℕ → ℕ → ℕ
joined_word n [] set = 0
joined_word n (w ∷ ws) set = bit_or (if in_word set n then w else 0) (joined_word (suc n) ws set)

-- the words, and then those of the others that don't stand before
abbrev pub with_new : List ℕ → List ℕ → List ℕ
with_new words [] = words
with_new words (x ∷ xs) = with_new (if list_any (λ y. y == x) words then words else words ++ x ∷ []) xs
