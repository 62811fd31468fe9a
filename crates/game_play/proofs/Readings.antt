-- A formula over one position and the next has one value in two readings that have the same of what it reads.
use Rattle.std.proofs.Common.{◌≡◌, ℕ, suc, Bool, true, false, not, ◌&&◌, ◌||◌, List, [], ◌∷◌, get_or, refl, ap}
use Rattle.std.specs.List.{list_all, list_any}
use Rattle.std.proofs.lemmas.Bool.{and_parts}
use Rattle.spec_model.specs.declared.value.Value.TheVariants as value
use Rattle.spec_model.specs.Values.{truth_of}
use Rattle.spec_model.specs.Syntax.{Formula, Constant, Variable, NextOf, Negation, Conjunction, Disjunction, Implication, Equivalence, Comparison, Sum, Difference, Product, Remainder, PastOf, Entry, Formulas, VariableData}
use Rattle.spec_model.specs.Meaning.{Reading, value_at, truths_at}
use Rattle.spec_model.specs.Moves.{has_next, some_has_next}
use Rattle.spec_model.specs.Steps.{is_output_variable, reads_output, some_reads_output}
use Rattle.spec_model.specs.WellMade.{is_stepwise, are_stepwise, awaits_output, some_awaits_output}

-- what is allowed, or not read of either of two, is so of each
split : (w a b : Bool) → (w || not (a || b)) ≡ true → ((w || not a) ≡ true) × ((w || not b) ≡ true)
split true a b h = (refl, refl)
split false true b h = absurd (cc)
split false false b h = (refl, h)

is_later : (b : Bool) → (b || not true) ≡ true → b ≡ true
is_later true h = refl
is_later false h = absurd (cc)

-- each of several operands is at one place what it is at another
abbrev SameAt : ℕ → ℕ → List (ℕ → Bool) → List (ℕ → Bool) → Type 0
SameAt t t' [] [] = Unit {0}
SameAt t t' (f ∷ fs) (g ∷ gs) = (f t ≡ g t') × SameAt t t' fs gs
SameAt t t' _ _ = ⊥

all_same : (t t' : ℕ) (fs gs : List (ℕ → Bool)) → SameAt t t' fs gs → list_all (λ a. a t) fs ≡ list_all (λ a. a t') gs
all_same t t' [] [] h = refl
all_same t t' [] (g ∷ gs) h = absurd h
all_same t t' (f ∷ fs) [] h = absurd h
all_same t t' (f ∷ fs) (g ∷ gs) h = let e = h.0 in let rest = all_same t t' fs gs h.1 in cc

some_same : (t t' : ℕ) (fs gs : List (ℕ → Bool)) → SameAt t t' fs gs → list_any (λ a. a t) fs ≡ list_any (λ a. a t') gs
some_same t t' [] [] h = refl
some_same t t' [] (g ∷ gs) h = absurd h
some_same t t' (f ∷ fs) [] h = absurd h
some_same t t' (f ∷ fs) (g ∷ gs) h = let e = h.0 in let rest = some_same t t' fs gs h.1 in cc

-- What two readings share at two places: inputs, and the entries of tables that read no output; where `now` says so, all
-- outputs and entries. At the next places, if there are any: inputs, and outputs where `next` says so.
pub record Share (vs : List VariableData) (tables : List Bool) (now next later : Bool) (r r' : Reading) (t t' : ℕ) : Type 0 where
  pub variable : (k : ℕ) → (now || not (is_output_variable vs k)) ≡ true → r.variable k t ≡ r'.variable k t'
  pub entry : (h n : ℕ) → (now || not (get_or tables h false)) ≡ true → r.entry h n t ≡ r'.entry h n t'
  pub next_variable : later ≡ true → (k : ℕ) → (next || not (is_output_variable vs k)) ≡ true → r.variable k (suc t) ≡ r'.variable k (suc t')

module _ (vs : List VariableData) (tables : List Bool) (now next later : Bool) where
  -- The formula reads no past, and only what is shared: by whether it reads an output now, or next, and whether it reads on.
  abbrev Fits : (step reads awaits reads_on : Bool) → Type 0
  Fits step reads awaits reads_on = (step ≡ true) × ((now || not reads) ≡ true) × ((next || not awaits) ≡ true) × ((later || not reads_on) ≡ true)

  fits_both : (a a' b b' c c' d d' : Bool) → Fits (a && a') (b || b') (c || c') (d || d') → Fits a b c d × Fits a' b' c' d'
  fits_both a a' b b' c c' d d' h =
      let s = and_parts a a' h.0 in
      let p = split now b b' h.1 in
      let q = split next c c' h.2 in
      let u = split later d d' h.3 in
      ((s.0, p.0, q.0, u.0), (s.1, p.1, q.1, u.1))

  abbrev pub Suits : Formula → Type 0
  Suits e = Fits (is_stepwise false e) (reads_output vs tables e) (awaits_output vs false e) (has_next e)

  abbrev AllSuit : Formulas → Type 0
  AllSuit es = Fits (are_stepwise false es) (some_reads_output vs tables es) (some_awaits_output vs false es) (some_has_next es)

  suits_both : (a b : Formula) → Fits (is_stepwise false a && is_stepwise false b) (reads_output vs tables a || reads_output vs tables b) (awaits_output vs false a || awaits_output vs false b) (has_next a || has_next b) → Suits a × Suits b
  suits_both a b h = fits_both (is_stepwise false a) (is_stepwise false b) (reads_output vs tables a) (reads_output vs tables b) (awaits_output vs false a) (awaits_output vs false b) (has_next a) (has_next b) h

module _ (vs : List VariableData) (tables : List Bool) (now next later : Bool) (r r' : Reading) (t t' : ℕ) (share : Share vs tables now next later r r' t t') where
  -- under `next`
  module _ (there : later ≡ true) where
    mutual
      value_next : (e : Formula) → is_stepwise true e ≡ true → (next || not (awaits_output vs true e)) ≡ true → value_at r e (suc t) ≡ value_at r' e (suc t')
      value_next (Constant v) step fits = refl
      value_next (Variable k) step fits = share.next_variable there k fits
      value_next (NextOf e) step fits = absurd (cc)
      value_next (Negation e) step fits = let h = value_next e step fits in cc
      value_next (Conjunction es) step fits = ap (λ b. value.Bool b) (all_same (suc t) (suc t') _ _ (truths_next es step fits))
      value_next (Disjunction es) step fits = ap (λ b. value.Bool b) (some_same (suc t) (suc t') _ _ (truths_next es step fits))
      value_next (Implication a b) step fits = let s = and_parts _ _ step in let p = split next _ _ fits in let h = value_next a s.0 p.0 in let i = value_next b s.1 p.1 in cc
      value_next (Equivalence a b) step fits = let s = and_parts _ _ step in let p = split next _ _ fits in let h = value_next a s.0 p.0 in let i = value_next b s.1 p.1 in cc
      value_next (Comparison c a b) step fits = let s = and_parts _ _ step in let p = split next _ _ fits in let h = value_next a s.0 p.0 in let i = value_next b s.1 p.1 in cc
      value_next (Sum a b) step fits = let s = and_parts _ _ step in let p = split next _ _ fits in let h = value_next a s.0 p.0 in let i = value_next b s.1 p.1 in cc
      value_next (Difference a b) step fits = let s = and_parts _ _ step in let p = split next _ _ fits in let h = value_next a s.0 p.0 in let i = value_next b s.1 p.1 in cc
      value_next (Product a b) step fits = let s = and_parts _ _ step in let p = split next _ _ fits in let h = value_next a s.0 p.0 in let i = value_next b s.1 p.1 in cc
      value_next (Remainder a n) step fits = let h = value_next a step fits in cc
      value_next (PastOf op es) step fits = absurd (cc)
      value_next (Entry h n) step fits = absurd (cc)

      truths_next : (es : Formulas) → are_stepwise true es ≡ true → (next || not (some_awaits_output vs true es)) ≡ true → SameAt (suc t) (suc t') (truths_at r es) (truths_at r' es)
      truths_next Formulas.none step fits = tt
      truths_next (Formulas.one_more e es) step fits =
          let s = and_parts _ _ step in
          let p = split next _ _ fits in
          (ap truth_of (value_next e s.0 p.0), truths_next es s.1 p.1)

  mutual
    pub value_now : (e : Formula) → Suits vs tables now next later e → value_at r e t ≡ value_at r' e t'
    value_now (Constant v) h = refl
    value_now (Variable k) h = share.variable k h.1
    value_now (NextOf e) h = value_next (is_later later h.3) e h.0 h.2
    value_now (Negation e) h = let p = value_now e h in cc
    value_now (Conjunction es) h = ap (λ b. value.Bool b) (all_same t t' _ _ (truths_now es h))
    value_now (Disjunction es) h = ap (λ b. value.Bool b) (some_same t t' _ _ (truths_now es h))
    value_now (Implication a b) h = let s = suits_both vs tables now next later a b h in let p = value_now a s.0 in let q = value_now b s.1 in cc
    value_now (Equivalence a b) h = let s = suits_both vs tables now next later a b h in let p = value_now a s.0 in let q = value_now b s.1 in cc
    value_now (Comparison c a b) h = let s = suits_both vs tables now next later a b h in let p = value_now a s.0 in let q = value_now b s.1 in cc
    value_now (Sum a b) h = let s = suits_both vs tables now next later a b h in let p = value_now a s.0 in let q = value_now b s.1 in cc
    value_now (Difference a b) h = let s = suits_both vs tables now next later a b h in let p = value_now a s.0 in let q = value_now b s.1 in cc
    value_now (Product a b) h = let s = suits_both vs tables now next later a b h in let p = value_now a s.0 in let q = value_now b s.1 in cc
    value_now (Remainder a n) h = let p = value_now a h in cc
    value_now (PastOf op es) h = let never = h.0 in absurd (cc)
    value_now (Entry k n) h = ap (λ b. value.Bool b) (share.entry k n h.1)

    truths_now : (es : Formulas) → AllSuit vs tables now next later es → SameAt t t' (truths_at r es) (truths_at r' es)
    truths_now Formulas.none h = tt
    truths_now (Formulas.one_more e es) h =
        let s = fits_both vs tables now next later (is_stepwise false e) (are_stepwise false es) (reads_output vs tables e) (some_reads_output vs tables es) (awaits_output vs false e) (some_awaits_output vs false es) (has_next e) (some_has_next es) h in
        (ap truth_of (value_now e s.0), truths_now es s.1)
