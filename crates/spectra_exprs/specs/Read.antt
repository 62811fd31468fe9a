-- Reading from left to right, as the program does: what is read at the front of the tokens, and the tokens behind it,
-- or the fault at which reading stops.
use Rattle.std.specs.Prelude.{ℕ, ◌≡◌, zero, suc, Bool, false, List, [], ◌∷◌, length, Result, Ok, Err, if◌then◌else◌}
use Rattle.spectra_exprs.specs.declared.fault.SyntaxFault.{SyntaxFault}
use Rattle.spectra_exprs.specs.declared.fault.SyntaxFault.TheVariants as faults
use Rattle.spectra_trees.specs.declared.class.Class.{Class}
use Rattle.spectra_trees.specs.Classes.{same_class}
use Rattle.spectra_trees.specs.Lexemes.{Lexeme}

abbrev pub Read : Type 0 → Type 0
Read A = Result (A × List Lexeme) SyntaxFault

abbrev pub Reader : Type 0 → Type 0
Reader A = List Lexeme → Read A

infixl 10 ◌>>=◌
abbrev pub ◌>>=◌ : {A B : Type 0} → Read A → (A → Reader B) → Read B
Ok x >>= f = f x.0 x.1
Err e >>= f = Err e

unfoldable pub first_number : List Lexeme → ℕ
first_number [] = 0
first_number (t ∷ ts) = t.number

-- the fault at the first token
unfoldable pub unexpected : {A : Type 0} → List Lexeme → Read A
unexpected ts = Err (faults.Unexpected (first_number ts))

-- whether the first token is of a class
unfoldable pub starts : Class → List Lexeme → Bool
starts class [] = false
starts class (t ∷ ts) = same_class t.class class

-- one token of a class
unfoldable pub expect : Class → Reader Lexeme
expect class [] = Err (faults.Unexpected 0)
expect class (t ∷ ts) = if same_class t.class class then Ok (t, ts) else Err (faults.Unexpected t.number)

-- step after step while a test holds, at most so many
unfoldable pub grow : {A : Type 0} → (List Lexeme → Bool) → (A → Reader A) → ℕ → A → Reader A
grow test step zero a ts = Ok (a, ts)
grow test step (suc n) a ts = if test ts then (step a ts >>= λ b rest. grow test step n b rest) else Ok (a, ts)

-- no step is wanted past the last token
abbrev pub all_of : {A : Type 0} → (List Lexeme → Bool) → (A → Reader A) → A → Reader A
all_of test step a ts = grow test step (suc (length ts)) a ts

-- reading stopped at a fault; of want of memory nothing is said
abbrev pub Fails : {Y : Type 0} → SyntaxFault → Read Y → Type 0
Fails (faults.Unexpected at) read = read ≡ Err (faults.Unexpected at)
Fails (faults.TooDeep at) read = read ≡ Err (faults.TooDeep at)
Fails (faults.Parentheses at) read = read ≡ Err (faults.Parentheses at)
Fails faults.Memory read = Unit {0}

-- the answer, seen by view, is what is read, unless memory ran out
abbrev pub Gives : {X Y : Type 0} → (X → Y × List Lexeme) → Result X SyntaxFault → Read Y → Type 0
Gives view (Ok x) read = read ≡ Ok (view x)
Gives view (Err e) read = Fails e read
