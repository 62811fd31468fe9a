-- A turn of a loop, of which each step uses a token at least.
use Rattle.std.proofs.Common.{◌≡◌, ◌<◌, Bool, true, false, List, length, Ok, sym, arith}
use Rattle.spectra_trees.specs.declared.lexeme.Spelled.{Spelled}
use Rattle.spectra_trees.specs.Lexemes.{Lexeme}
use Rattle.spectra_trees.specs.Views.{lexemes_of}
use Rattle.spectra_exprs.specs.declared.fault.SyntaxFault.{SyntaxFault}
use Rattle.spectra_exprs.specs.Read.{Read, Reader, Fails}
use Rattle.spectra_exprs.proofs.Loops.{Grown, grown_next, grown_last, grown_fails, length-lexemes}
use Rattle.spectra_exprs.proofs.StoppingSteps.{Uses}

-- fewer tokens are left
pub fewer : {A : Type 0} {step : A → Reader A} → ((a : A) → Uses (step a)) → (a : A) (ts us : List Spelled) (b : A) → step a (lexemes_of ts) ≡ Ok (b, lexemes_of us) → length us < length ts
fewer uses a ts us b read = let less = (uses a).shorter (lexemes_of ts) b (lexemes_of us) read in omega (arith, less, length-lexemes ts, length-lexemes us)

-- what was read so far, with what is still read, is all
pub turned : {A : Type 0} {test : List Lexeme → Bool} {step : A → Reader A} → ((a : A) → Uses (step a)) → {a : A} {ts us : List Lexeme} {b : A} {all : Read A} → Grown test step a ts all → true ≡ test ts → step a ts ≡ Ok (b, us) → Grown test step b us all
turned {test = test} {step = step} uses {a = a} {ts = ts} {us = us} {b = b} {all = all} g on read = grown_next test step a ts all b us g (sym on) read ((uses a).shorter ts b us read)

-- a step that fails is where all fails
pub failed : {A : Type 0} {test : List Lexeme → Bool} {step : A → Reader A} {a : A} {ts : List Lexeme} {all : Read A} → Grown test step a ts all → true ≡ test ts → (f : SyntaxFault) → Fails f (step a ts) → Fails f all
failed {test = test} {step = step} {a = a} {ts = ts} {all = all} g on f fails = grown_fails test step a ts all g (sym on) f fails

-- the last turn gives all
pub ended : {A : Type 0} {test : List Lexeme → Bool} {step : A → Reader A} {a : A} {ts : List Lexeme} {all : Read A} → Grown test step a ts all → false ≡ test ts → all ≡ Ok (a, ts)
ended {test = test} {step = step} {a = a} {ts = ts} {all = all} g off = grown_last test step a ts all g (sym off)
