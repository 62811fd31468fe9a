-- Cases that say which value is had: each is had exactly where it is the value.
use Rattle.std.proofs.Common.{◌≡◌, ℕ, inl, inr, Bool, true, false, not, ◌&&◌, List, [], ◌∷◌, map, refl, sym, ◌∙◌, ap, subst, arith}
use Rattle.std.proofs.lemmas.Bool.{and_parts, and_from, or_cases, or_left, or_right, false≢true}
use Rattle.std.specs.List.{list_any, AllByRecursion}
use Rattle.std.proofs.lemmas.Bool.Decides.{Decides-int_eq, nat_tests}
use Rattle.spec_model.specs.declared.value.Value.{Value}
use Rattle.spec_model.specs.declared.value.Value.TheVariants as value
use Rattle.spec_model.specs.Values.{DomainData, same_value, number_of, values_of, rank_of}
use Rattle.spec_model.specs.Diagrams.{Bits, Function}
use Rattle.spec_model.proofs.AllStates.{same_value-true}
use Rattle.game_values.specs.declared.seen.At.{At}
use Rattle.bit_compile.specs.declared.operation.Operation.{Operation}
use Rattle.bit_compile.specs.Codes.{level_at, width_at, domain_in}
use Rattle.bit_compile.specs.Compiled.{Case, is_code, coded, only, both_truths, some_pair, combined, gives, results}
use Rattle.bit_compile.proofs.NumberLemmas.{one_number, same_bools}
use Rattle.bit_compile.proofs.LawLemmas.{code_small, one_value}

pub same_value-refl : (v : Value) → same_value v v ≡ true
same_value-refl (value.Bool true) = refl
same_value-refl (value.Bool false) = refl
same_value-refl (value.Int z) = (Decides-int_eq z z).1 refl
same_value-refl (value.Name n) = grind (arith, nat_tests)

pub same_value-sym : (v w : Value) → same_value v w ≡ same_value w v
same_value-sym v w = same_bools _ _ (turn v w) (turn w v)
  where
    turn : (v w : Value) → same_value v w ≡ true → same_value w v ≡ true
    turn v w e = subst (λ (u : Value). same_value u v ≡ true) (same_value-true v w e) (same_value-refl v)

-- one case of them is the value, and each is had exactly where it is
pub record Describes (cs : List Case) (w : Value) (s : Bits) : Type 0 where
  pub among : list_any (λ (c : Case). same_value c.value w) cs ≡ true
  pub exact : AllByRecursion (λ (c : Case). c.holds s ≡ same_value c.value w) cs

module _ (s : Bits) (w : Value) (p : Value → Bool) where
  only_it : (cs : List Case) → AllByRecursion (λ (c : Case). c.holds s ≡ same_value c.value w) cs → list_any (λ (c : Case). p c.value && c.holds s) cs ≡ true → p w ≡ true
  only_it [] exact e = absurd (false≢true e)
  only_it (c ∷ cs) exact e = elim (or_cases (p c.value && c.holds s) _ e) [
    | inl here ↦ (let parts = and_parts (p c.value) (c.holds s) here in subst (λ v. p v ≡ true) (same_value-true c.value w (sym exact.0 ∙ parts.1)) parts.0)
    | inr later ↦ only_it cs exact.1 later
  ]

  it_too : (cs : List Case) → AllByRecursion (λ (c : Case). c.holds s ≡ same_value c.value w) cs → list_any (λ (c : Case). same_value c.value w) cs ≡ true → p w ≡ true → list_any (λ (c : Case). p c.value && c.holds s) cs ≡ true
  it_too [] exact among e = absurd (false≢true among)
  it_too (c ∷ cs) exact among e = elim (or_cases (same_value c.value w) _ among) [
    | inl here ↦ or_left _ _ (and_from (p c.value) (c.holds s) (subst (λ v. p v ≡ true) (sym (same_value-true c.value w here)) e) (exact.0 ∙ here))
    | inr later ↦ or_right (p c.value && c.holds s) _ (it_too cs exact.1 later e)
  ]

  -- some case that passes is had exactly where the value passes
  pub some_case : (cs : List Case) → Describes cs w s → list_any (λ (c : Case). p c.value && c.holds s) cs ≡ p w
  some_case cs is = same_bools _ _ (only_it cs is.exact) (it_too cs is.exact is.among)

and_regroup : (a b c : Bool) → (a && (b && c)) ≡ ((a && b) && c)
and_regroup true b c = refl
and_regroup false b c = refl

-- some pair that passes is had exactly where the two values pass
pub some_pair-is : (test : Value → Value → Bool) (xs ys : List Case) (x y : Value) (s : Bits) → Describes xs x s → Describes ys y s → some_pair test xs ys s ≡ test x y
some_pair-is test xs ys x y s is_x is_y =
    ap (λ (q : Case → Bool). list_any q xs) (λ i c. row c i) ∙ some_case s x (λ v. test v y) xs is_x
  where
    row : (c : Case) → list_any (λ (d : Case). test c.value d.value && (c.holds s && d.holds s)) ys ≡ (test c.value y && c.holds s)
    row c =
        ap (λ (q : Case → Bool). list_any q ys) (λ i d. and_regroup (test c.value d.value) (c.holds s) (d.holds s) i)
        ∙ some_case s y (λ v. test c.value v && c.holds s) ys is_y

-- ---- truth values

pub describes_truth : (f : Function) (b : Bool) (s : Bits) → f s ≡ b → Describes (both_truths f) (value.Bool b) s
describes_truth f true s e = record { among = refl; exact = (ap not e, (e, tt)) }
describes_truth f false s e = record { among = refl; exact = (ap not e, (e, tt)) }

pub describes_only : (v : Value) (s : Bits) → Describes (only v) v s
describes_only v s = record { among = or_left _ _ (same_value-refl v); exact = (sym (same_value-refl v), tt) }

-- ---- results

module _ (op : Operation) (xs ys : List Case) (x y : Value) (s : Bits) (is_x : Describes xs x s) (is_y : Describes ys y s) where
  abbrev given : Value
  given = value.Int (combined op (number_of x) (number_of y))

  each_result : (vs : List Value) → AllByRecursion (λ (c : Case). c.holds s ≡ same_value c.value given) (results op xs ys vs)
  each_result [] = tt
  each_result (v ∷ vs) = (some_pair-is (gives op v) xs ys x y s is_x is_y ∙ same_value-sym given v, each_result vs)

  result_among : (vs : List Value) → list_any (same_value given) vs ≡ true → list_any (λ (c : Case). same_value c.value given) (results op xs ys vs) ≡ true
  result_among [] e = e
  result_among (v ∷ vs) e = elim (or_cases (same_value given v) _ e) [
    | inl here ↦ or_left _ _ (same_value-sym v given ∙ here)
    | inr later ↦ or_right (same_value v given) _ (result_among vs later)
  ]

  pub describes_result : (vs : List Value) → list_any (same_value given) vs ≡ true → Describes (results op xs ys vs) given s
  describes_result vs e = record { among = result_among vs e; exact = each_result vs }

-- ---- codes

module _ (ds : List DomainData) (at : At) (k : ℕ) (w : Value) (s : Bits) (among : list_any (same_value w) (values_of (domain_in ds k)) ≡ true) (has : is_code ds at k (rank_of (domain_in ds k) w) s ≡ true) where
  -- the slot has a value's code exactly where the value is this one
  pub code_is : (v : Value) → list_any (same_value v) (values_of (domain_in ds k)) ≡ true → is_code ds at k (rank_of (domain_in ds k) v) s ≡ same_value v w
  code_is v among_v = same_bools _ _
      (λ e. subst (λ (u : Value). same_value v u ≡ true) (one_value (domain_in ds k) v w among_v among (one_number (level_at ds at k) (width_at ds k) (rank_of (domain_in ds k) v) (rank_of (domain_in ds k) w) s (code_small (domain_in ds k) v among_v) (code_small (domain_in ds k) w among) e has)) (same_value-refl v))
      (λ e. subst (λ (u : Value). is_code ds at k (rank_of (domain_in ds k) u) s ≡ true) (sym (same_value-true v w e)) has)

  each_coded : (vs : List Value) → AllByRecursion (λ v. list_any (same_value v) (values_of (domain_in ds k)) ≡ true) vs → AllByRecursion (λ (c : Case). c.holds s ≡ same_value c.value w) (map (λ v. record { value = v; holds = is_code ds at k (rank_of (domain_in ds k) v) }) vs)
  each_coded [] all = tt
  each_coded (v ∷ vs) all = (code_is v all.0, each_coded vs all.1)

-- each of a list is among it
pub all_among : (vs : List Value) → AllByRecursion (λ v. list_any (same_value v) vs ≡ true) vs
all_among vs = go vs (λ v e. e)
  where
    go : (ws : List Value) → ((v : Value) → list_any (same_value v) ws ≡ true → list_any (same_value v) vs ≡ true) → AllByRecursion (λ v. list_any (same_value v) vs ≡ true) ws
    go [] here = tt
    go (w ∷ ws) here = (here w (or_left _ _ (same_value-refl w)), go ws (λ v e. here v (or_right (same_value v w) _ e)))

pub describes_code : (ds : List DomainData) (at : At) (k : ℕ) (d : DomainData) (w : Value) (s : Bits) → domain_in ds k ≡ d → list_any (same_value w) (values_of d) ≡ true → is_code ds at k (rank_of d w) s ≡ true → Describes (coded ds at k d) w s
describes_code ds at k d w s is among has =
    subst (λ (e : DomainData). Describes (coded ds at k e) w s) is
    (described (subst (λ (e : DomainData). list_any (same_value w) (values_of e) ≡ true) (sym is) among) (subst (λ (e : DomainData). is_code ds at k (rank_of e w) s ≡ true) (sym is) has))
  where
    turned : (f : Value → Function) (vs : List Value) → list_any (same_value w) vs ≡ true → list_any (λ (c : Case). same_value c.value w) (map (λ v. record { value = v; holds = f v }) vs) ≡ true
    turned f [] e = e
    turned f (v ∷ vs) e = elim (or_cases (same_value w v) _ e) [
      | inl here ↦ or_left _ _ (same_value-sym v w ∙ here)
      | inr later ↦ or_right (same_value v w) _ (turned f vs later)
    ]

    described : list_any (same_value w) (values_of (domain_in ds k)) ≡ true → is_code ds at k (rank_of (domain_in ds k) w) s ≡ true → Describes (coded ds at k (domain_in ds k)) w s
    described a h =
        record {
          among = turned (λ v. is_code ds at k (rank_of (domain_in ds k) v)) (values_of (domain_in ds k)) a;
          exact = each_coded ds at k w s a h (values_of (domain_in ds k)) (all_among (values_of (domain_in ds k)));
        }
