-- One level deeper in a regular expression.
use Rattle.std.proofs.Common.{◌≡◌, ℕ, zero, suc, ◌-◌, ◌<◌, Err, List, refl, ap, sym, arith}
use Rattle.spectra_exprs.specs.declared.fault.SyntaxFault.TheVariants as faults
use Rattle.spectra_trees.specs.Lexemes.{Lexeme}
use Rattle.spectra_exprs.specs.Expressions.{inside, whole_of}
use Rattle.spectra_exprs.proofs.Levels.{less}
use Rattle.spectra_regexes.specs.Regexes.{inside_regex, regex_of}

pub regex_deep : (left : ℕ) (t : Lexeme) (ts : List Lexeme) → left ≡ 0 → (inside_regex left).regex t ts ≡ Err (faults.TooDeep t.number)
unfolding inside_regex
regex_deep zero t ts e = refl
regex_deep (suc left) t ts e = absurd (omega arith)

pub regex_open : (left : ℕ) (t : Lexeme) (ts : List Lexeme) → 0 < left → (inside_regex left).regex t ts ≡ regex_of (inside_regex (left - 1)) ts
unfolding inside_regex
regex_open zero t ts some = absurd (omega arith)
regex_open (suc left) t ts some = ap (λ (n : ℕ). regex_of (inside_regex n) ts) (sym (less left))

pub atom_deep : (left : ℕ) (t : Lexeme) (ts : List Lexeme) → left ≡ 0 → (inside_regex left).atom t ts ≡ Err (faults.TooDeep t.number)
unfolding inside_regex
atom_deep zero t ts e = refl
atom_deep (suc left) t ts e = absurd (omega arith)

pub atom_open : (left : ℕ) (t : Lexeme) (ts : List Lexeme) → 0 < left → (inside_regex left).atom t ts ≡ whole_of (inside (left - 1)) ts
unfolding inside_regex
atom_open zero t ts some = absurd (omega arith)
atom_open (suc left) t ts some = ap (λ (n : ℕ). whole_of (inside n) ts) (sym (less left))
