-- The next values of a side, as words tell them.
use Rattle.std.specs.Prelude.{ℕ, ◌+◌, ◌==◌, if◌then◌else◌, List, ◌++◌, map, flat_map, bit_and}
use Rattle.trigger_dfa.specs.declared.walk.Walk.{Walk}
use Rattle.trigger_dfa.specs.Words.{joined_word}
use Rattle.trigger_dfa.specs.Standings.{first_place}

abbrev pub place_in : List ℕ → ℕ → ℕ
place_in words word = first_place (λ x. x == word) words

-- the value after a set was read, where the side's start and the other side's have these numbers
abbrev pub number_in : (lasts : ℕ) → (sets : List ℕ) → (start other : ℕ) → (word : ℕ) → ℕ
number_in lasts sets start other word = if bit_and word lasts == 0 then start + 1 + place_in sets word else other

abbrev pub row_of : Walk → (sets : List ℕ) → (start other : ℕ) → (after : ℕ) → List ℕ
row_of walk sets start other after = map (λ mask. number_in walk.lasts sets start other (bit_and after mask)) walk.masks.items

abbrev pub rows_of : Walk → (sets : List ℕ) → (start other : ℕ) → List ℕ
rows_of walk sets start other =
    row_of walk sets start other walk.firsts ++ flat_map (λ set. row_of walk sets start other (joined_word 0 walk.follow.items set)) sets
