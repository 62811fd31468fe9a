-- Blocks of pairs: all of one kind, or halved.
use Rattle.std.proofs.Common.{◌≡◌, ℕ, ◌+◌, ◌<◌, Bool, true, false, ◌&&◌, ◌||◌, ◌==◌, Result, Ok, Err, List, [], ◌∷◌, ◌++◌, map, length, refl, sym, ◌∙◌, ap, subst, arith, cond}
use Rattle.std.specs.List.{list_all, list_any, AllByRecursion}
use Rattle.std.specs.Bool.{beq}
use Rattle.std.proofs.lemmas.Bool.{and_parts, false≢true}
use Rattle.std.proofs.lemmas.List.{map-append}
use Rattle.std.proofs.lemmas.List.Folds.{list_any-append}
use Rattle.spec_model.specs.declared.value.Value.{Value}
use Rattle.spec_model.specs.Diagrams.{Bits, Function}
use Rattle.regions.specs.declared.types.Halt.{Halt}
use Rattle.bdd_store.specs.State.{State, IsRoot}
use Rattle.bdd_bits.specs.Contents.{Contents, function_at}
use Rattle.bit_compile.specs.declared.cases.CaseRoot.{CaseRoot}
use Rattle.bit_compile.specs.Making.{Makes}
use Rattle.bit_compile.specs.Compiled.{Case, some_of, some_pair}
use Rattle.bit_compile.specs.CaseRoots.{AreKept, case_at, cases_at}
use Rattle.bit_compile.proofs.MakingLemmas.{keeps_then}
use Rattle.bit_compile.proofs.Folding.{row_of}

abbrev pub some_case : List Case → Function
some_case cs s = list_any (λ c. c.holds s) cs

-- whether each pair of values passes, or each doesn't
abbrev pub each_passes : (Value → Value → Bool) → Bool → List CaseRoot → List CaseRoot → Bool
each_passes t passing xs ys = list_all (λ x. list_all (λ y. beq (t x.value y.value) passing) ys) xs

as_is : (a b : Bool) → beq a b ≡ true → a ≡ b
as_is true true e = refl
as_is false false e = refl
as_is true false e = absurd (false≢true e)
as_is false true e = absurd (false≢true e)

-- ---- blocks of one kind

-- where values are had
some_had : (c : Contents) (s : Bits) (xs : List CaseRoot) → some_of (map (λ (x : CaseRoot). function_at c x.root) xs) s ≡ some_case (cases_at c xs) s
some_had c s [] = refl
some_had c s (x ∷ xs) = ap (λ b. function_at c x.root s || b) (some_had c s xs)

module _ (t : Value → Value → Bool) (c : Contents) where
  row_none : (x : CaseRoot) (f : Function) (s : Bits) (ys : List CaseRoot) → list_all (λ y. beq (t x.value y.value) false) ys ≡ true → row_of t x.value f (cases_at c ys) s ≡ false
  row_none x f s [] e = refl
  row_none x f s (y ∷ ys) e =
      let parts = and_parts (beq (t x.value y.value) false) _ e in
      let first = as_is (t x.value y.value) false parts.0 in
      ap (λ b. (b && (f s && function_at c y.root s)) || row_of t x.value f (cases_at c ys) s) first ∙ row_none x f s ys parts.1

  none_at : (s : Bits) (xs ys : List CaseRoot) → each_passes t false xs ys ≡ true → some_pair t (cases_at c xs) (cases_at c ys) s ≡ false
  none_at s [] ys e = refl
  none_at s (x ∷ xs) ys e =
      let parts = and_parts (list_all (λ y. beq (t x.value y.value) false) ys) _ e in
      let first = row_none x (function_at c x.root) s ys parts.0 in
      ap (λ b. b || some_pair t (cases_at c xs) (cases_at c ys) s) first ∙ none_at s xs ys parts.1

  pub none_pass : (xs ys : List CaseRoot) → each_passes t false xs ys ≡ true → (λ (s : Bits). false) ≡ some_pair t (cases_at c xs) (cases_at c ys)
  none_pass xs ys e = λ i s. sym (none_at s xs ys e) i

  more_of_row : (f h r : Bool) → ((f && h) || (f && r)) ≡ (f && (h || r))
  more_of_row true h r = refl
  more_of_row false h r = refl

  row_all : (x : CaseRoot) (f : Function) (s : Bits) (ys : List CaseRoot) → list_all (λ y. beq (t x.value y.value) true) ys ≡ true → row_of t x.value f (cases_at c ys) s ≡ (f s && some_case (cases_at c ys) s)
  row_all x f s [] e = at (f s)
    where
      at : (b : Bool) → false ≡ (b && false)
      at true = refl
      at false = refl
  row_all x f s (y ∷ ys) e =
      let parts = and_parts (beq (t x.value y.value) true) _ e in
      let first = as_is (t x.value y.value) true parts.0 in
      let rest = row_all x f s ys parts.1 in
      let h = function_at c y.root s in
      ap (λ b. (b && (f s && h)) || row_of t x.value f (cases_at c ys) s) first
      ∙ (ap (λ r. (f s && h) || r) rest ∙ more_of_row (f s) h (some_case (cases_at c ys) s))

  more_rows : (h r y : Bool) → ((h && y) || (r && y)) ≡ ((h || r) && y)
  more_rows true r true = refl
  more_rows true true false = refl
  more_rows true false false = refl
  more_rows false r y = refl

  all_at : (s : Bits) (xs ys : List CaseRoot) → each_passes t true xs ys ≡ true → some_pair t (cases_at c xs) (cases_at c ys) s ≡ (some_case (cases_at c xs) s && some_case (cases_at c ys) s)
  all_at s [] ys e = refl
  all_at s (x ∷ xs) ys e =
      let parts = and_parts (list_all (λ y. beq (t x.value y.value) true) ys) _ e in
      let first = row_all x (function_at c x.root) s ys parts.0 in
      let rest = all_at s xs ys parts.1 in
      let h = function_at c x.root s in
      let y = some_case (cases_at c ys) s in
      ap (λ b. b || some_pair t (cases_at c xs) (cases_at c ys) s) first
      ∙ (ap (λ r. (h && y) || r) rest ∙ more_rows h (some_case (cases_at c xs) s) y)

  pub all_pass : (xs ys : List CaseRoot) → each_passes t true xs ys ≡ true → (λ s. some_of (map (λ (x : CaseRoot). function_at c x.root) xs) s && some_of (map (λ (y : CaseRoot). function_at c y.root) ys) s) ≡ some_pair t (cases_at c xs) (cases_at c ys)
  all_pass xs ys e = (λ i s. some_had c s xs i && some_had c s ys i) ∙ (λ i s. sym (all_at s xs ys e) i)

  -- ---- halves

  pub either_first : (xs low high ys : List CaseRoot) → xs ≡ low ++ high → (λ s. some_pair t (cases_at c low) (cases_at c ys) s || some_pair t (cases_at c high) (cases_at c ys) s) ≡ some_pair t (cases_at c xs) (cases_at c ys)
  either_first xs low high ys e =
      let parts = ap (cases_at c) e ∙ map-append (case_at c) low high in
      (λ i s. sym (list_any-append (λ a. row_of t a.value a.holds (cases_at c ys) s) (cases_at c low) (cases_at c high)) i) ∙ ap (λ (cs : List Case). some_pair t cs (cases_at c ys)) (sym parts)

  or_turned : (a b p q : Bool) → ((a || b) || (p || q)) ≡ ((a || p) || (b || q))
  or_turned true b p q = refl
  or_turned false true true q = refl
  or_turned false true false q = refl
  or_turned false false p q = refl

  second_parted : (s : Bits) (cs low high : List Case) → some_pair t cs (low ++ high) s ≡ (some_pair t cs low s || some_pair t cs high s)
  second_parted s [] low high = refl
  second_parted s (x ∷ cs) low high =
      let row = list_any-append (λ b. t x.value b.value && (x.holds s && b.holds s)) low high in
      let rest = second_parted s cs low high in
      let one = row_of t x.value x.holds low s in
      let other = row_of t x.value x.holds high s in
      ap (λ b. b || some_pair t cs (low ++ high) s) row
      ∙ (ap (λ r. (one || other) || r) rest ∙ or_turned one other (some_pair t cs low s) (some_pair t cs high s))

  pub either_second : (xs ys low high : List CaseRoot) → ys ≡ low ++ high → (λ s. some_pair t (cases_at c xs) (cases_at c low) s || some_pair t (cases_at c xs) (cases_at c high) s) ≡ some_pair t (cases_at c xs) (cases_at c ys)
  either_second xs ys low high e =
      let parts = ap (cases_at c) e ∙ map-append (case_at c) low high in
      (λ i s. sym (second_parted s (cases_at c xs) (cases_at c low) (cases_at c high)) i) ∙ ap (λ (cs : List Case). some_pair t (cases_at c xs) cs) (sym parts)

-- ---- a block that is halved has several pairs

none_in_row : (t : Value → Value → Bool) (xs : List CaseRoot) → each_passes t false xs [] ≡ true
none_in_row t [] = refl
none_in_row t (x ∷ xs) = none_in_row t xs

pub several_pairs : (t : Value → Value → Bool) (xs ys : List CaseRoot) → each_passes t false xs ys ≡ false → each_passes t true xs ys ≡ false → (0 < length xs) × (0 < length ys) × (2 < length xs + length ys)
several_pairs t [] ys some others = absurd (false≢true (sym some))
several_pairs t (x ∷ xs) [] some others = absurd (false≢true (sym some ∙ none_in_row t (x ∷ xs)))
several_pairs t (x ∷ []) (y ∷ []) some others = at (t x.value y.value) some others
  where
    at : (b : Bool) → ((beq b false && true) && true) ≡ false → ((beq b true && true) && true) ≡ false → (0 < 1) × (0 < 1) × (2 < 2)
    at true some others = absurd (false≢true (sym others))
    at false some others = absurd (false≢true (sym some))
several_pairs t (x ∷ x2 ∷ xs) (y ∷ ys) some others = (omega arith, omega arith, omega arith)
several_pairs t (x ∷ []) (y ∷ y2 ∷ ys) some others = (omega arith, omega arith, omega arith)

kept_parted : {V : Type 0} (P : V → Type 0) (xs ys : List V) → AllByRecursion P (xs ++ ys) → AllByRecursion P xs × AllByRecursion P ys
kept_parted P [] ys all = (tt, all)
kept_parted P (x ∷ xs) ys all = let rest = kept_parted P xs ys all.1 in ((all.0, rest.0), rest.1)

pub halves_kept : (s : State) (xs low high : List CaseRoot) → xs ≡ low ++ high → AreKept s xs → AreKept s low × AreKept s high
halves_kept s xs low high e kept = kept_parted (λ x. IsRoot s x.root) low high (subst (AreKept s) e kept)

-- ---- after a refusal

pub after_refusal : (old mid new : Contents) (h : Halt) (r : Result ℕ Halt) (f g : Function) → Makes old mid (Err h) f → Makes mid new r g → Makes old new r g
after_refusal old mid new h (Ok r) f g first makes =
    record {
      meaning = makes.meaning;
      added = λ n. makes.added n ∙ ap (λ k. k + cond (n == r) 1 0) (first.refused n);
      refused = tt;
      keeps = keeps_then old mid new first.keeps first.refused makes.keeps;
      full = makes.full;
    }
after_refusal old mid new h (Err e) f g first makes =
    record {
      meaning = tt;
      added = tt;
      refused = λ n. makes.refused n ∙ first.refused n;
      keeps = keeps_then old mid new first.keeps first.refused makes.keeps;
      full = makes.full;
    }
