-- Sets of classes, by their places in the declaration.
use Rattle.std.proofs.Common.{◌≡◌, ℕ, zero, suc, ◌<◌, Bool, true, false, ◌&&◌, ◌||◌, not, nat_eq, List, [], ◌∷◌, refl, sym, subst, ◌∙◌, arith}
use Rattle.std.proofs.lemmas.Bool.Decides.{nat_tests}
use Rattle.spectra_trees.specs.declared.class.Class.{Class}
use Rattle.spectra_trees.specs.declared.class.Class.TheVariants as classes
use Rattle.spectra_trees.specs.Classes.{place_of, same_class}
use Rattle.spectra_trees.specs.Lexemes.{Lexeme}
use Rattle.spectra_exprs.specs.Read.{starts}

pub place_below : (c : Class) → place_of c < 64
unfolding place_of
place_below classes.Head = omega arith
place_below classes.Import = omega arith
place_below classes.Env = omega arith
place_below classes.Sys = omega arith
place_below classes.Aux = omega arith
place_below classes.Boolean = omega arith
place_below classes.Int = omega arith
place_below classes.TypeWord = omega arith
place_below classes.Define = omega arith
place_below classes.Predicate = omega arith
place_below classes.Pattern = omega arith
place_below classes.Var = omega arith
place_below classes.Monitor = omega arith
place_below classes.Asm = omega arith
place_below classes.Gar = omega arith
place_below classes.Ini = omega arith
place_below classes.Alw = omega arith
place_below classes.AlwEv = omega arith
place_below classes.Trig = omega arith
place_below classes.Next = omega arith
place_below classes.True = omega arith
place_below classes.False = omega arith
place_below classes.Not = omega arith
place_below classes.Prev = omega arith
place_below classes.Once = omega arith
place_below classes.Historically = omega arith
place_below classes.Implies = omega arith
place_below classes.Iff = omega arith
place_below classes.Since = omega arith
place_below classes.Triggered = omega arith
place_below classes.And = omega arith
place_below classes.Or = omega arith
place_below classes.Bar = omega arith
place_below classes.Equal = omega arith
place_below classes.Unequal = omega arith
place_below classes.Less = omega arith
place_below classes.AtMost = omega arith
place_below classes.Greater = omega arith
place_below classes.AtLeast = omega arith
place_below classes.Plus = omega arith
place_below classes.Minus = omega arith
place_below classes.Star = omega arith
place_below classes.Mod = omega arith
place_below classes.ForAll = omega arith
place_below classes.Exists = omega arith
place_below classes.In = omega arith
place_below classes.Then = omega arith
place_below classes.Becomes = omega arith
place_below classes.UpTo = omega arith
place_below classes.Question = omega arith
place_below classes.Colon = omega arith
place_below classes.Semicolon = omega arith
place_below classes.Comma = omega arith
place_below classes.Open = omega arith
place_below classes.Close = omega arith
place_below classes.OpenBracket = omega arith
place_below classes.CloseBracket = omega arith
place_below classes.OpenBrace = omega arith
place_below classes.CloseBrace = omega arith
place_below classes.Name = omega arith
place_below classes.Number = omega arith
place_below classes.Text = omega arith
place_below classes.Finish = omega arith
place_below classes.Unknown = omega arith

-- a test of all numbers below a bound
abbrev pub below : ℕ → (ℕ → Bool) → Bool
below zero p = true
below (suc n) p = p n && below n p

both_true : (a b : Bool) → a && b ≡ true → (a ≡ true) × (b ≡ true)
both_true true b e = (refl, e)
both_true false b e = absurd (cc)

last : (n : ℕ) (p : ℕ → Bool) (k : ℕ) (b : Bool) → nat_eq k n ≡ b → p n ≡ true → k < suc n → (k < n → p k ≡ true) → p k ≡ true
last n p k true e here lt further = let same : k ≡ n = grind (arith, nat_tests) in subst (λ (m : ℕ). p m ≡ true) (sym same) here
last n p k false e here lt further = let less : k < n = grind (arith, nat_tests) in further less

pub below_is : (n : ℕ) (p : ℕ → Bool) → below n p ≡ true → (k : ℕ) → k < n → p k ≡ true
below_is zero p h k lt = absurd (omega arith)
below_is (suc n) p h k lt = let both = both_true (p n) (below n p) h in last n p k (nat_eq k n) refl both.0 lt (λ less. below_is n p both.1 k less)

-- one of these classes, by its place
abbrev pub among : List Class → ℕ → Bool
among [] k = false
among (c ∷ cs) k = nat_eq k (place_of c) || among cs k

abbrev pub apart : List Class → List Class → ℕ → Bool
apart F C k = not (among F k && among C k)

-- whether a token of a set stands at the front
abbrev pub going : List Class → List Lexeme → Bool
going C [] = false
going C (t ∷ ts) = among C (place_of t.class)

off : (a b : Bool) → not (a && b) ≡ true → a ≡ true → b ≡ false
off true true h e = absurd (cc)
off true false h e = refl
off false b h e = absurd (cc)

-- two sets have no class in common
pub record Apart (F C : List Class) : Type 0 where
  pub checked : below 64 (apart F C) ≡ true

pub going_apart : (F C : List Class) → Apart F C → (ts : List Lexeme) → going F ts ≡ true → going C ts ≡ false
going_apart F C h [] on = refl
going_apart F C h (t ∷ ts) on = off (among F (place_of t.class)) (among C (place_of t.class)) (below_is 64 (apart F C) h.checked (place_of t.class) (place_below t.class)) on

abbrev pub inside_of : List Class → List Class → ℕ → Bool
inside_of C D k = not (among C k) || among D k

-- each class of one set is in the other
pub record Within (C D : List Class) : Type 0 where
  pub checked : below 64 (inside_of C D) ≡ true

out : (a b : Bool) → not a || b ≡ true → b ≡ false → a ≡ false
out true true h e = absurd (cc)
out true false h e = absurd (cc)
out false b h e = refl

pub going_within : (C D : List Class) → Within C D → (ts : List Lexeme) → going D ts ≡ false → going C ts ≡ false
going_within C D h [] e = refl
going_within C D h (t ∷ ts) e = out (among C (place_of t.class)) (among D (place_of t.class)) (below_is 64 (inside_of C D) h.checked (place_of t.class) (place_below t.class)) e

or_false : (a : Bool) → a || false ≡ a
or_false true = refl
or_false false = refl

pub starts_going : (class : Class) (ts : List Lexeme) → starts class ts ≡ going (class ∷ []) ts
unfolding starts same_class
starts_going class [] = refl
starts_going class (t ∷ ts) = sym (or_false (nat_eq (place_of t.class) (place_of class)))

pub same_going : (class : Class) (t : Lexeme) (ts : List Lexeme) → same_class t.class class ≡ true → going (class ∷ []) (t ∷ ts) ≡ true
unfolding same_class
same_going class t ts is = or_false (nat_eq (place_of t.class) (place_of class)) ∙ is
