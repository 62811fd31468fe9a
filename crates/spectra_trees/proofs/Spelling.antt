-- Each token at its place in the list is a slice.
use Rattle.std.proofs.Common.{◌≡◌, ◌+◌, ◌++◌, refl, ap, take, ℕ, zero, suc, ◌<◌, List, [], ◌∷◌, length, get_or, arith}
use Rattle.spectra_trees.specs.Lexemes.{lexeme, lexemes_from}
use Rattle.spectra_lexer.specs.declared.token.Kind.TheVariants.{Word}
use Rattle.spectra_lexer.specs.declared.token.Token.{Token}
use Rattle.spectra_lexer.specs.Slices.{IsSlice, AreSlices}

-- what stands past the end of a list
abbrev pub no_token : Token
no_token = record { kind = Word; from = 0; to = 0; line = 0; column = 0 }

pub slice_at : (text : List ℕ) (behind : ℕ) (ts : List Token) (i : ℕ) → AreSlices text behind ts → i < length ts → (before : ℕ) × IsSlice text before (get_or ts i no_token)
slice_at text behind [] i h lt = absurd (omega arith)
slice_at text behind (t ∷ ts) zero h lt = (behind, h.0)
slice_at text behind (t ∷ ts) (suc i) h lt = slice_at text t.to ts i h.1 (omega arith)

-- one more token, numbered next
pub lexemes_from-take : (text : List ℕ) (n i : ℕ) (ts : List Token) → i < length ts
    → lexemes_from text n (take (i + 1) ts) ≡ lexemes_from text n (take i ts) ++ lexeme text (n + i) (get_or ts i no_token) ∷ []
lexemes_from-take text n i [] lt = absurd (omega arith)
lexemes_from-take text n zero (t ∷ ts) lt = let e : n + 0 ≡ n = omega arith in rw e refl
lexemes_from-take text n (suc i) (t ∷ ts) lt =
    let a : suc i + 1 ≡ suc (i + 1) = omega arith in
    let b : n + suc i ≡ n + 1 + i = omega arith in
    rw (a, b) (ap (λ r. lexeme text n t ∷ r) (lexemes_from-take text (n + 1) i ts (omega arith)))
