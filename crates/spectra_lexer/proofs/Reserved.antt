-- A reserved word stands in the row of its length.
use Rattle.std.proofs.Common.{◌≡◌, ℕ, zero, suc, Bool, true, List, [], ◌∷◌, length, map, get_or, refl}
use Rattle.std.specs.List.{list_all}
use Rattle.std.proofs.lemmas.Bool.{and_parts}
use Rattle.spectra_lexer.specs.declared.words.TheConstants.{RESERVED}
use Rattle.spectra_lexer.specs.Words.{reserved_words, is_reserved}
use Rattle.spectra_lexer.proofs.Signs.{is_among, each_of}
use Rattle.spectra_lexer.proofs.Texts.{agree}

-- the rows of the table, and the row of a length
abbrev rows : List (List (List ℕ))
rows = map (λ row. map (λ word. word.now) row.now) RESERVED

abbrev row : ℕ → List (List ℕ)
row n = get_or rows n []

each_row : (P : List (List ℕ) → Bool) (table : List (List (List ℕ))) (n : ℕ) → P [] ≡ true → list_all P table ≡ true → P (get_or table n []) ≡ true
each_row P [] n none all = none
each_row P (r ∷ rs) zero none all = (and_parts (P r) (list_all P rs) all).0
each_row P (r ∷ rs) (suc n) none all = each_row P rs n none (and_parts (P r) (list_all P rs) all).1

reserved_in_row : (word : List ℕ) → is_reserved word ≡ true → is_among (row (length word)) word ≡ true
unfolding is_reserved
reserved_in_row word is = each_of (λ w. is_among (row (length w)) w) reserved_words word refl is

row_is_reserved : (n : ℕ) (word : List ℕ) → is_among (row n) word ≡ true → is_reserved word ≡ true
unfolding is_reserved
row_is_reserved n word among = each_of is_reserved (row n) word (each_row (list_all is_reserved) rows n refl refl) among

pub is_reserved-row : (word : List ℕ) → is_reserved word ≡ is_among (row (length word)) word
is_reserved-row word = agree (is_reserved word) (is_among (row (length word)) word) (reserved_in_row word) (row_is_reserved (length word) word)
