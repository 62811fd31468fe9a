-- One level deeper.
use Rattle.std.proofs.Common.{◌≡◌, ℕ, zero, suc, ◌-◌, ◌<◌, Err, List, refl, ap, sym, arith}
use Rattle.spectra_exprs.specs.declared.fault.SyntaxFault.TheVariants as faults
use Rattle.spectra_trees.specs.Lexemes.{Lexeme}
use Rattle.spectra_exprs.specs.Expressions.{inside, whole_of, operand_of, arguments_of, subscript_of, scope_of}

pub whole_deep : (left : ℕ) (t : Lexeme) (ts : List Lexeme) → left ≡ 0 → (inside left).whole t ts ≡ Err (faults.TooDeep t.number)
unfolding inside
whole_deep zero t ts e = refl
whole_deep (suc left) t ts e = absurd (omega arith)

pub operand_deep : (left : ℕ) (t : Lexeme) (ts : List Lexeme) → left ≡ 0 → (inside left).operand t ts ≡ Err (faults.TooDeep t.number)
unfolding inside
operand_deep zero t ts e = refl
operand_deep (suc left) t ts e = absurd (omega arith)

pub arguments_deep : (left : ℕ) (t : Lexeme) (ts : List Lexeme) → left ≡ 0 → (inside left).arguments t ts ≡ Err (faults.TooDeep t.number)
unfolding inside
arguments_deep zero t ts e = refl
arguments_deep (suc left) t ts e = absurd (omega arith)

pub less : (left : ℕ) → suc left - 1 ≡ left
less left = omega arith

pub whole_open : (left : ℕ) (t : Lexeme) (ts : List Lexeme) → 0 < left → (inside left).whole t ts ≡ whole_of (inside (left - 1)) ts
unfolding inside
whole_open zero t ts some = absurd (omega arith)
whole_open (suc left) t ts some = ap (λ (n : ℕ). whole_of (inside n) ts) (sym (less left))

pub operand_open : (left : ℕ) (t : Lexeme) (ts : List Lexeme) → 0 < left → (inside left).operand t ts ≡ operand_of (inside (left - 1)) ts
unfolding inside
operand_open zero t ts some = absurd (omega arith)
operand_open (suc left) t ts some = ap (λ (n : ℕ). operand_of (inside n) ts) (sym (less left))

pub arguments_open : (left : ℕ) (t : Lexeme) (ts : List Lexeme) → 0 < left → (inside left).arguments t ts ≡ arguments_of (inside (left - 1)) ts
unfolding inside
arguments_open zero t ts some = absurd (omega arith)
arguments_open (suc left) t ts some = ap (λ (n : ℕ). arguments_of (inside n) ts) (sym (less left))

pub subscript_deep : (left : ℕ) (t : Lexeme) (ts : List Lexeme) → left ≡ 0 → (inside left).subscript t ts ≡ Err (faults.TooDeep t.number)
unfolding inside
subscript_deep zero t ts e = refl
subscript_deep (suc left) t ts e = absurd (omega arith)

pub scope_deep : (left : ℕ) (t : Lexeme) (ts : List Lexeme) → left ≡ 0 → (inside left).scope t ts ≡ Err (faults.TooDeep t.number)
unfolding inside
scope_deep zero t ts e = refl
scope_deep (suc left) t ts e = absurd (omega arith)

pub subscript_open : (left : ℕ) (t : Lexeme) (ts : List Lexeme) → 0 < left → (inside left).subscript t ts ≡ subscript_of (inside (left - 1)) ts
unfolding inside
subscript_open zero t ts some = absurd (omega arith)
subscript_open (suc left) t ts some = ap (λ (n : ℕ). subscript_of (inside n) ts) (sym (less left))

pub scope_open : (left : ℕ) (t : Lexeme) (ts : List Lexeme) → 0 < left → (inside left).scope t ts ≡ scope_of (inside (left - 1)) ts
unfolding inside
scope_open zero t ts some = absurd (omega arith)
scope_open (suc left) t ts some = ap (λ (n : ℕ). scope_of (inside n) ts) (sym (less left))
