-- Which texts are signs, and which words are reserved.
use Rattle.std.specs.Prelude.{ℕ, ◌≡◌, ◌≤◌, nat_eq, Bool, true, List, [], ◌∷◌, ◌++◌, length, codes}
use Rattle.std.specs.List.{list_any}
use Rattle.std.specs.Cmp.Lexicographic.{pointwise}
-- the words that are no names
pub use Rattle.spec_model.specs.Words.{reserved_words}
unfoldable pub use Rattle.spec_model.specs.Words.{is_reserved}

-- whether two texts are the same
abbrev pub same_text : List ℕ → List ℕ → Bool
same_text = pointwise nat_eq

-- the signs, none before a longer one that goes on from it
abbrev pub signs : List (List ℕ)
signs =
    codes ";" ∷ codes "(" ∷ codes ")" ∷ codes "=" ∷ codes "," ∷ codes "&" ∷ codes "->" ∷ codes ":=" ∷ codes ":" ∷ codes "!=" ∷
    codes "!" ∷ codes "|=>" ∷ codes "|" ∷ codes "{" ∷ codes "}" ∷ codes "[" ∷ codes "]" ∷ codes ".." ∷ codes "<->" ∷ codes "<=" ∷
    codes "<" ∷ codes ">=" ∷ codes ">" ∷ codes "+" ∷ codes "-" ∷ codes "*" ∷ codes "?" ∷ []

-- one of them
unfoldable pub is_sign : List ℕ → Bool
is_sign sign = list_any (λ s. same_text s sign) signs

-- a text that begins with a sign
pub record BeginsWithSign (text sign rest : List ℕ) : Type 0 where
  pub is : is_sign sign ≡ true
  pub parts : text ≡ sign ++ rest

-- a text that begins with a sign and with no longer one
pub record BeginsWithLongest (text sign rest : List ℕ) : Type 0 where
  pub begins : BeginsWithSign text sign rest
  pub longest : (other more : List ℕ) → BeginsWithSign text other more → length other ≤ length sign
