-- Lists of sets in which none stands twice.
use Rattle.std.proofs.Common.{◌≡◌, suc, ◌<◌, ◌≤◌, ◌⊎◌, inl, inr, Bool, true, false, not, cond, ◌&&◌, ◌||◌, List, [], ◌∷◌, ◌++◌, filter, flat_map, length, refl, sym, ◌∙◌, ap, subst, arith, append_assoc, append-nil}
use Rattle.std.proofs.lemmas.Bool.{and_parts, or_cases, or_left, or_right, false≢true, false_from_ne_true, not_from_false, not_from_true}
use Rattle.std.specs.Bool.{beq}
use Rattle.std.specs.List.{list_any}
use Rattle.std.specs.Cmp.Lexicographic.{pointwise}
use Rattle.std.proofs.lemmas.List.Folds.{list_any-append}
use Rattle.spec_model.specs.TriggerStates.{Positions, different}

abbrev pub same : Positions → Positions → Bool
same a b = pointwise beq a b

abbrev pub among : Positions → List Positions → Bool
among x xs = list_any (λ b. pointwise beq b x) xs

bit_same : (a b : Bool) → beq a b ≡ true → a ≡ b
bit_same true true e = refl
bit_same true false e = absurd (false≢true e)
bit_same false true e = absurd (false≢true e)
bit_same false false e = refl

pub same-true : (a b : Positions) → same a b ≡ true → a ≡ b
same-true [] [] e = refl
same-true [] (y ∷ b) e = absurd (false≢true e)
same-true (x ∷ a) [] e = absurd (false≢true e)
same-true (x ∷ a) (y ∷ b) e = let p = and_parts (beq x y) (pointwise beq a b) e in let h = bit_same x y p.0 in let t = same-true a b p.1 in cc

pub same-refl : (a : Positions) → same a a ≡ true
same-refl [] = refl
same-refl (true ∷ a) = same-refl a
same-refl (false ∷ a) = same-refl a

pub among_cases : (x : Positions) (xs ys : List Positions) → among x (xs ++ ys) ≡ true → (among x xs ≡ true) ⊎ (among x ys ≡ true)
among_cases x xs ys e = or_cases (among x xs) (among x ys) (sym (list_any-append (λ b. pointwise beq b x) xs ys) ∙ e)

pub among_left : (x : Positions) (xs ys : List Positions) → among x xs ≡ true → among x (xs ++ ys) ≡ true
among_left x xs ys e = list_any-append (λ b. pointwise beq b x) xs ys ∙ or_left (among x xs) (among x ys) e

pub among_right : (x : Positions) (xs ys : List Positions) → among x ys ≡ true → among x (xs ++ ys) ≡ true
among_right x xs ys e = list_any-append (λ b. pointwise beq b x) xs ys ∙ or_right (among x xs) (among x ys) e

pub among_flat : (f : Positions → List Positions) (x : Positions) (xs : List Positions) → among x (flat_map f xs) ≡ true →
    (s : Positions) × (among s xs ≡ true) × (among x (f s) ≡ true)
among_flat f x [] e = absurd (false≢true e)
among_flat f x (a ∷ xs) e =
    elim (among_cases x (f a) (flat_map f xs) e) [
      | inl here ↦ (a, or_left (same a a) (among a xs) (same-refl a), here)
      | inr later ↦ let more = among_flat f x xs later in (more.0, or_right (same a more.0) (among more.0 xs) more.1, more.2)
    ]

pub flat_among : (f : Positions → List Positions) (s x : Positions) (xs : List Positions) → among s xs ≡ true → among x (f s) ≡ true → among x (flat_map f xs) ≡ true
flat_among f s x [] e h = absurd (false≢true e)
flat_among f s x (a ∷ xs) e h =
    elim (or_cases (same a s) (among s xs) e) [
      | inl here ↦ among_left x (f a) (flat_map f xs) (subst (λ (y : Positions). among x (f y) ≡ true) (sym (same-true a s here)) h)
      | inr later ↦ among_right x (f a) (flat_map f xs) (flat_among f s x xs later h)
    ]

-- ---- filters

module _ (p : Positions → Bool) where
  pub among_filter : (x : Positions) (xs : List Positions) → among x (filter p xs) ≡ true → (among x xs ≡ true) × (p x ≡ true)
  among_filter x [] e = absurd (false≢true e)
  among_filter x (a ∷ xs) e = at (p a) refl (among_filter x xs) e
    where
      at : (b : Bool) → p a ≡ b → (among x (filter p xs) ≡ true → (among x xs ≡ true) × (p x ≡ true)) → among x (cond b (a ∷ filter p xs) (filter p xs)) ≡ true →
          ((same a x || among x xs) ≡ true) × (p x ≡ true)
      at true is more e =
          elim (or_cases (same a x) (among x (filter p xs)) e) [
            | inl here ↦ (or_left (same a x) (among x xs) here, subst (λ (y : Positions). p y ≡ true) (same-true a x here) is)
            | inr later ↦ let m = more later in (or_right (same a x) (among x xs) m.0, m.1)
          ]
      at false is more e = let m = more e in (or_right (same a x) (among x xs) m.0, m.1)

  pub filter_among : (x : Positions) (xs : List Positions) → among x xs ≡ true → p x ≡ true → among x (filter p xs) ≡ true
  filter_among x [] e h = absurd (false≢true e)
  filter_among x (a ∷ xs) e h = at (p a) refl (λ l. filter_among x xs l h)
    where
      at : (b : Bool) → p a ≡ b → (among x xs ≡ true → among x (filter p xs) ≡ true) → among x (cond b (a ∷ filter p xs) (filter p xs)) ≡ true
      at true is more =
          elim (or_cases (same a x) (among x xs) e) [
            | inl here ↦ or_left (same a x) (among x (filter p xs)) here
            | inr later ↦ or_right (same a x) (among x (filter p xs)) (more later)
          ]
      at false is more =
          elim (or_cases (same a x) (among x xs) e) [
            | inl here ↦ absurd (false≢true (sym is ∙ (subst (λ (y : Positions). p y ≡ true) (sym (same-true a x here)) h)))
            | inr later ↦ more later
          ]

  filter_short : (xs : List Positions) → length (filter p xs) ≤ length xs
  filter_short [] = omega arith
  filter_short (a ∷ xs) = at (p a) (filter_short xs)
    where
      at : (b : Bool) → length (filter p xs) ≤ length xs → length (cond b (a ∷ filter p xs) (filter p xs)) ≤ suc (length xs)
      at true less = omega arith
      at false less = omega arith

  pub filter_every : (xs : List Positions) → ((x : Positions) → among x xs ≡ true → p x ≡ true) → filter p xs ≡ xs
  filter_every [] all = refl
  filter_every (a ∷ xs) all =
      let rest = filter_every xs (λ x e. all x (or_right (same a x) (among x xs) e)) in
      let here = all a (or_left (same a a) (among a xs) (same-refl a)) in
      subst (λ (b : Bool). cond b (a ∷ filter p xs) (filter p xs) ≡ a ∷ xs) (sym here) (ap (λ (l : List Positions). a ∷ l) rest)

  pub filter_none : (xs : List Positions) → ((x : Positions) → among x xs ≡ true → p x ≡ false) → filter p xs ≡ []
  filter_none [] all = refl
  filter_none (a ∷ xs) all =
      let rest = filter_none xs (λ x e. all x (or_right (same a x) (among x xs) e)) in
      let here = all a (or_left (same a a) (among a xs) (same-refl a)) in
      subst (λ (b : Bool). cond b (a ∷ filter p xs) (filter p xs) ≡ []) (sym here) rest

  pub filter-append : (xs ys : List Positions) → filter p (xs ++ ys) ≡ filter p xs ++ filter p ys
  filter-append [] ys = refl
  filter-append (a ∷ xs) ys = at (p a) (filter-append xs ys)
    where
      at : (b : Bool) → filter p (xs ++ ys) ≡ filter p xs ++ filter p ys → cond b (a ∷ filter p (xs ++ ys)) (filter p (xs ++ ys)) ≡ cond b (a ∷ filter p xs) (filter p xs) ++ filter p ys
      at true e = ap (λ (l : List Positions). a ∷ l) e
      at false e = e

filter_twice : (p q r : Positions → Bool) → ((x : Positions) → r x ≡ (p x && q x)) → (xs : List Positions) → filter p (filter q xs) ≡ filter r xs
filter_twice p q r each [] = refl
filter_twice p q r each (a ∷ xs) = at (p a) (q a) (r a) refl (each a) (filter_twice p q r each xs)
  where
    at : (x y z : Bool) → p a ≡ x → z ≡ (x && y) → filter p (filter q xs) ≡ filter r xs → filter p (cond y (a ∷ filter q xs) (filter q xs)) ≡ cond z (a ∷ filter r xs) (filter r xs)
    at true true z is e h = subst (λ (c : Bool). filter p (a ∷ filter q xs) ≡ cond c (a ∷ filter r xs) (filter r xs)) (sym e)
        (subst (λ (c : Bool). cond c (a ∷ filter p (filter q xs)) (filter p (filter q xs)) ≡ a ∷ filter r xs) (sym is) (ap (λ (l : List Positions). a ∷ l) h))
    at true false z is e h = subst (λ (c : Bool). filter p (filter q xs) ≡ cond c (a ∷ filter r xs) (filter r xs)) (sym e) h
    at false true z is e h = subst (λ (c : Bool). filter p (a ∷ filter q xs) ≡ cond c (a ∷ filter r xs) (filter r xs)) (sym e)
        (subst (λ (c : Bool). cond c (a ∷ filter p (filter q xs)) (filter p (filter q xs)) ≡ filter r xs) (sym is) h)
    at false false z is e h = subst (λ (c : Bool). filter p (filter q xs) ≡ cond c (a ∷ filter r xs) (filter r xs)) (sym e) h

-- ---- none twice

abbrev pub AllDiffer : List Positions → Type 0
AllDiffer [] = Unit {0}
AllDiffer (a ∷ xs) = (among a xs ≡ false) × AllDiffer xs

pub among_different : (x : Positions) (xs : List Positions) → among x (different xs) ≡ true → among x xs ≡ true
among_different x [] e = e
among_different x (a ∷ xs) e =
    elim (or_cases (same a x) (among x (filter (λ b. not (pointwise beq a b)) (different xs))) e) [
      | inl here ↦ or_left (same a x) (among x xs) here
      | inr later ↦ or_right (same a x) (among x xs) (among_different x xs (among_filter (λ b. not (pointwise beq a b)) x (different xs) later).0)
    ]

pub different_among : (x : Positions) (xs : List Positions) → among x xs ≡ true → among x (different xs) ≡ true
different_among x [] e = e
different_among x (a ∷ xs) e = at (same a x) refl (different_among x xs) e
  where
    at : (b : Bool) → same a x ≡ b → (among x xs ≡ true → among x (different xs) ≡ true) → (b || among x xs) ≡ true →
        (same a x || among x (filter (λ b. not (pointwise beq a b)) (different xs))) ≡ true
    at true is more e = or_left (same a x) (among x (filter (λ b. not (pointwise beq a b)) (different xs))) is
    at false is more e =
        or_right (same a x) (among x (filter (λ b. not (pointwise beq a b)) (different xs)))
        (filter_among (λ b. not (pointwise beq a b)) x (different xs) (more e) (not_from_false (same a x) is))

filter_differ : (p : Positions → Bool) (xs : List Positions) → AllDiffer xs → AllDiffer (filter p xs)
filter_differ p [] d = d
filter_differ p (a ∷ xs) d = at (p a) (filter_differ p xs d.1)
  where
    at : (b : Bool) → AllDiffer (filter p xs) → AllDiffer (cond b (a ∷ filter p xs) (filter p xs))
    at true rest = (false_from_ne_true (among a (filter p xs)) (λ e. false≢true (sym d.0 ∙ (among_filter p a xs e).0)), rest)
    at false rest = rest

pub different_differ : (xs : List Positions) → AllDiffer (different xs)
different_differ [] = tt
different_differ (a ∷ xs) = (
  false_from_ne_true (among a (filter (λ b. not (pointwise beq a b)) (different xs)))
      (λ e. false≢true (sym (not_from_true (same a a) (same-refl a)) ∙ (among_filter (λ b. not (pointwise beq a b)) a (different xs) e).1)),
  filter_differ (λ b. not (pointwise beq a b)) (different xs) (different_differ xs),
)

removed : (a : Positions) (ys : List Positions) → among a ys ≡ true → length (filter (λ b. not (pointwise beq a b)) ys) < length ys
removed a [] e = absurd (false≢true e)
removed a (b ∷ ys) e = at (same a b) refl (removed a ys)
  where
    at : (c : Bool) → same a b ≡ c → (among a ys ≡ true → length (filter (λ b. not (pointwise beq a b)) ys) < length ys) →
        length (cond (not c) (b ∷ filter (λ b. not (pointwise beq a b)) ys) (filter (λ b. not (pointwise beq a b)) ys)) < suc (length ys)
    at true is more = let short = filter_short (λ b. not (pointwise beq a b)) ys in omega arith
    at false is more =
        elim (or_cases (same b a) (among a ys) e) [
          | inl here ↦ absurd (false≢true (sym is ∙ subst (λ (y : Positions). same a y ≡ true) (sym (same-true b a here)) (same-refl a)))
          | inr later ↦ let less = more later in omega arith
        ]

-- a list in which none stands twice is no longer than one that has all of it
pub no_longer : (xs ys : List Positions) → AllDiffer xs → ((x : Positions) → among x xs ≡ true → among x ys ≡ true) → length xs ≤ length ys
no_longer [] ys d all = omega arith
no_longer (a ∷ xs) ys d all =
    let less = removed a ys (all a (or_left (same a a) (among a xs) (same-refl a))) in
    let rest = no_longer xs (filter (λ b. not (pointwise beq a b)) ys) d.1
    (λ x e. filter_among (λ b. not (pointwise beq a b)) x ys (all x (or_right (same a x) (among x xs) e))
    (not_from_false (same a x) (false_from_ne_true (same a x) (λ s. false≢true (sym d.0 ∙ subst (λ (y : Positions). among y xs ≡ true) (sym (same-true a x s)) e))))) in
    omega arith

-- ---- what is added at the end

same_truth : (a b : Bool) → (a ≡ true → b ≡ true) → (b ≡ true → a ≡ true) → a ≡ b
same_truth true true f g = refl
same_truth true false f g = sym (f refl)
same_truth false true f g = g refl
same_truth false false f g = refl

de_morgan : (a b : Bool) → not (a || b) ≡ (not a && not b)
de_morgan true b = refl
de_morgan false b = refl

pub different-append : (xs ys : List Positions) → different (xs ++ ys) ≡ different xs ++ filter (λ y. not (among y xs)) (different ys)
different-append [] ys = sym (filter_every (λ y. true) (different ys) (λ x e. refl))
different-append (a ∷ xs) ys =
    let p = λ (b : Positions). not (pointwise beq a b) in
    let q = λ (y : Positions). not (among y xs) in
    let rest = ap (filter p) (different-append xs ys) ∙ filter-append p (different xs) (filter q (different ys)) in
    let both = filter_twice p q (λ y. not (among y (a ∷ xs))) (λ y. de_morgan (same a y) (among y xs)) (different ys) in
    ap (λ (l : List Positions). a ∷ l) (rest ∙ ap (λ (l : List Positions). filter p (different xs) ++ l) both)

pub different_kept : (xs : List Positions) → AllDiffer xs → different xs ≡ xs
different_kept [] d = refl
different_kept (a ∷ xs) d =
    let rest = different_kept xs d.1 in
    ap (λ (l : List Positions). a ∷ l)
    (ap (filter (λ b. not (pointwise beq a b))) rest
    ∙ filter_every (λ b. not (pointwise beq a b)) xs
    (λ x e. not_from_false (same a x) (false_from_ne_true (same a x) (λ s. false≢true (sym d.0 ∙ subst (λ (y : Positions). among y xs ≡ true) (sym (same-true a x s)) e)))))

-- what is there already adds nothing
pub different_within : (xs ys : List Positions) → ((x : Positions) → among x ys ≡ true → among x xs ≡ true) → different (xs ++ ys) ≡ different xs
different_within xs ys all =
    different-append xs ys
    ∙ ap (λ (l : List Positions). different xs ++ l)
    (filter_none (λ y. not (among y xs)) (different ys) (λ x e. not_from_true (among x xs) (all x (among_different x ys e))))
    ∙ append-nil (different xs)

filter_alike : (p q : Positions → Bool) → ((x : Positions) → p x ≡ q x) → (xs : List Positions) → filter p xs ≡ filter q xs
filter_alike p q each [] = refl
filter_alike p q each (a ∷ xs) =
    let rest = filter_alike p q each xs in
    subst (λ (b : Bool). cond (p a) (a ∷ filter p xs) (filter p xs) ≡ cond b (a ∷ filter q xs) (filter q xs)) (each a) (ap (λ (l : List Positions). cond (p a) (a ∷ l) l) rest)

pub different_once : (xs ys : List Positions) → different (different xs ++ ys) ≡ different (xs ++ ys)
different_once xs ys =
    different-append (different xs) ys
    ∙ ap (λ (l : List Positions). l ++ filter (λ y. not (among y (different xs))) (different ys)) (different_kept (different xs) (different_differ xs))
    ∙ ap (λ (l : List Positions). different xs ++ l)
    (filter_alike (λ y. not (among y (different xs))) (λ y. not (among y xs))
    (λ x. ap not (same_truth (among x (different xs)) (among x xs) (among_different x xs) (different_among x xs))) (different ys))
    ∙ sym (different-append xs ys)

-- what stands before already may be left out of the middle
pub different_middle : (xs ys zs : List Positions) → ((x : Positions) → among x ys ≡ true → among x xs ≡ true) → different (xs ++ (ys ++ zs)) ≡ different (xs ++ zs)
different_middle xs ys zs all =
    ap different (sym (append_assoc xs ys zs))
    ∙ different-append (xs ++ ys) zs
    ∙ ap (λ (l : List Positions). l ++ filter (λ y. not (among y (xs ++ ys))) (different zs)) (different_within xs ys all)
    ∙ ap (λ (l : List Positions). different xs ++ l)
    (filter_alike (λ y. not (among y (xs ++ ys))) (λ y. not (among y xs))
    (λ x. ap not (same_truth (among x (xs ++ ys)) (among x xs)
    (λ e. elim (among_cases x xs ys e) [ inl l ↦ l | inr r ↦ all x r ]) (among_left x xs ys))) (different zs))
    ∙ sym (different-append xs zs)
