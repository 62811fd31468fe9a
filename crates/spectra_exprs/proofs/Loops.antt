-- What a loop has read so far, and what is still read, are all.
use Rattle.std.proofs.Common.{◌≡◌, ℕ, zero, suc, ◌<◌, Bool, true, false, List, length, Result, Ok, Err, refl, sym, ◌∙◌, arith}
use Rattle.std.proofs.lemmas.List.{length-map}
use Rattle.spectra_exprs.specs.declared.fault.SyntaxFault.{SyntaxFault}
use Rattle.spectra_exprs.specs.declared.fault.SyntaxFault.TheVariants as faults
use Rattle.spectra_trees.specs.declared.lexeme.Spelled.{Spelled}
use Rattle.spectra_trees.specs.Lexemes.{Lexeme}
use Rattle.spectra_trees.specs.Views.{lexeme_of, lexemes_of}
use Rattle.spectra_exprs.specs.Read.{Read, Reader, grow, all_of, Fails}

pub length-lexemes : (ts : List Spelled) → length (lexemes_of ts) ≡ length ts
length-lexemes ts = length-map ts lexeme_of

pub record Grown {A : Type 0} (test : List Lexeme → Bool) (step : A → List Lexeme → Result (A × List Lexeme) SyntaxFault) (a : A) (ts : List Lexeme) (all : Result (A × List Lexeme) SyntaxFault) : Type 0 where
  pub turns : ℕ
  pub room : length ts < turns
  pub same : grow test step turns a ts ≡ all

module _ {A : Type 0} (test : List Lexeme → Bool) (step : A → Reader A) where
  pub grown_first : (a : A) (ts : List Lexeme) → Grown test step a ts (all_of test step a ts)
  grown_first a ts = record { turns = suc (length ts); room = omega arith; same = refl }

  pub one_turn : (n : ℕ) (a : A) (ts : List Lexeme) (b : A) (rest : List Lexeme) → test ts ≡ true → step a ts ≡ Ok (b, rest) → grow test step (suc n) a ts ≡ grow test step n b rest
  unfolding grow
  one_turn n a ts b rest on read = rw (on, read) refl

  pub no_turn : (n : ℕ) (a : A) (ts : List Lexeme) → test ts ≡ false → grow test step n a ts ≡ Ok (a, ts)
  unfolding grow
  no_turn zero a ts off = refl
  no_turn (suc n) a ts off = rw off refl

  pub bad_turn : (n : ℕ) (a : A) (ts : List Lexeme) (f : SyntaxFault) → test ts ≡ true → step a ts ≡ Err f → grow test step (suc n) a ts ≡ Err f
  unfolding grow
  bad_turn n a ts f on read = rw (on, read) refl

  next_turns : (n : ℕ) (a : A) (ts : List Lexeme) (all : Read A) (b : A) (rest : List Lexeme) → length ts < n → grow test step n a ts ≡ all
      → test ts ≡ true → step a ts ≡ Ok (b, rest) → length rest < length ts → Grown test step b rest all
  next_turns zero a ts all b rest room same on read shorter = absurd (omega arith)
  next_turns (suc n) a ts all b rest room same on read shorter =
      record { turns = n; room = omega arith; same = sym (one_turn n a ts b rest on read) ∙ same }

  pub grown_next : (a : A) (ts : List Lexeme) (all : Read A) (b : A) (rest : List Lexeme) → Grown test step a ts all
      → test ts ≡ true → step a ts ≡ Ok (b, rest) → length rest < length ts → Grown test step b rest all
  grown_next a ts all b rest g on read shorter = next_turns g.turns a ts all b rest g.room g.same on read shorter

  pub grown_last : (a : A) (ts : List Lexeme) (all : Read A) → Grown test step a ts all → test ts ≡ false → all ≡ Ok (a, ts)
  grown_last a ts all g off = sym g.same ∙ no_turn g.turns a ts off

  stopped : (n : ℕ) (a : A) (ts : List Lexeme) (all : Read A) (f : SyntaxFault) → length ts < n → grow test step n a ts ≡ all → test ts ≡ true → step a ts ≡ Err f → all ≡ Err f
  stopped zero a ts all f room same on read = absurd (omega arith)
  stopped (suc n) a ts all f room same on read = sym same ∙ bad_turn n a ts f on read

  pub grown_fails : (a : A) (ts : List Lexeme) (all : Read A) → Grown test step a ts all → test ts ≡ true → (f : SyntaxFault) → Fails f (step a ts) → Fails f all
  grown_fails a ts all g on (faults.Unexpected at) h = stopped g.turns a ts all (faults.Unexpected at) g.room g.same on h
  grown_fails a ts all g on (faults.TooDeep at) h = stopped g.turns a ts all (faults.TooDeep at) g.room g.same on h
  grown_fails a ts all g on (faults.Parentheses at) h = stopped g.turns a ts all (faults.Parentheses at) g.room g.same on h
  grown_fails a ts all g on faults.Memory h = tt
