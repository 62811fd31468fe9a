-- The atoms that are collected are the different ones.
use Rattle.std.proofs.Common.{◌≡◌, ℕ, suc, ◌+◌, ◌<◌, ◌≤◌, Bool, true, false, not, cond, ◌&&◌, ◌||◌, List, [], ◌∷◌, ◌++◌, filter, map, length, drop, get_or, refl, sym, ◌∙◌, ap, subst, arith, append_assoc, append-nil, length-append}
use Rattle.std.proofs.lemmas.Bool.{not_from_true}
use Rattle.std.proofs.Math.Seq.{drop-cons}
use Rattle.std.proofs.lemmas.List.Folds.{list_any-append}
use Rattle.std.specs.List.{list_any}
use Rattle.spec_model.specs.declared.expr.Regex.{Regex}
use Rattle.spec_model.specs.Syntax.{Formula, regulars}
use Rattle.spec_model.specs.Sizes.{same_formula, distinct, atoms_of, atoms_of_all}
use Rattle.spec_model.specs.Views.{regular}
use Rattle.spec_model.proofs.Restricted.{same_formula-true}
use Rattle.trigger_dfa.specs.Atoms.{with_atoms}

filter_twice : (p q r : Formula → Bool) → ((x : Formula) → r x ≡ (p x && q x)) → (xs : List Formula) → filter p (filter q xs) ≡ filter r xs
filter_twice p q r each [] = refl
filter_twice p q r each (a ∷ xs) = at (p a) (q a) (r a) refl (each a) (filter_twice p q r each xs)
  where
    at : (x y z : Bool) → p a ≡ x → z ≡ (x && y) → filter p (filter q xs) ≡ filter r xs → filter p (cond y (a ∷ filter q xs) (filter q xs)) ≡ cond z (a ∷ filter r xs) (filter r xs)
    at true true z is e h = subst (λ (c : Bool). filter p (a ∷ filter q xs) ≡ cond c (a ∷ filter r xs) (filter r xs)) (sym e)
        (subst (λ (c : Bool). cond c (a ∷ filter p (filter q xs)) (filter p (filter q xs)) ≡ a ∷ filter r xs) (sym is) (ap (λ (l : List Formula). a ∷ l) h))
    at true false z is e h = subst (λ (c : Bool). filter p (filter q xs) ≡ cond c (a ∷ filter r xs) (filter r xs)) (sym e) h
    at false true z is e h = subst (λ (c : Bool). filter p (a ∷ filter q xs) ≡ cond c (a ∷ filter r xs) (filter r xs)) (sym e)
        (subst (λ (c : Bool). cond c (a ∷ filter p (filter q xs)) (filter p (filter q xs)) ≡ filter r xs) (sym is) h)
    at false false z is e h = subst (λ (c : Bool). filter p (filter q xs) ≡ cond c (a ∷ filter r xs) (filter r xs)) (sym e) h

filter_all : (xs : List Formula) → filter (λ x. true) xs ≡ xs
filter_all [] = refl
filter_all (a ∷ xs) = ap (λ (l : List Formula). a ∷ l) (filter_all xs)

abbrev new_to : List Formula → Formula → Bool
new_to atoms x = not (list_any (λ a. same_formula a x) atoms)

old_and_new : (a b : Bool) → not (a || (b || false)) ≡ (not a && not b)
old_and_new true b = refl
old_and_new false true = refl
old_and_new false false = refl

collected : (atoms es : List Formula) → with_atoms atoms es ≡ atoms ++ filter (new_to atoms) (distinct es)
collected atoms [] = sym (append-nil atoms)
collected atoms (e ∷ es) = at (list_any (λ a. same_formula a e) atoms) refl (collected atoms es) (collected (atoms ++ e ∷ []) es)
  where
    at : (b : Bool) → list_any (λ a. same_formula a e) atoms ≡ b →
        with_atoms atoms es ≡ atoms ++ filter (new_to atoms) (distinct es) →
        with_atoms (atoms ++ e ∷ []) es ≡ (atoms ++ e ∷ []) ++ filter (new_to (atoms ++ e ∷ [])) (distinct es) →
        with_atoms (cond b atoms (atoms ++ e ∷ [])) es ≡ atoms ++ cond (not b) (e ∷ filter (new_to atoms) (filter (λ f. not (same_formula e f)) (distinct es))) (filter (new_to atoms) (filter (λ f. not (same_formula e f)) (distinct es)))
    at true is kept more =
        kept ∙ ap (λ (l : List Formula). atoms ++ l) (sym (filter_twice (new_to atoms) (λ f. not (same_formula e f)) (new_to atoms) (λ x. met x (same_formula e x) refl) (distinct es)))
      where
        met : (x : Formula) (s : Bool) → same_formula e x ≡ s → not (list_any (λ a. same_formula a x) atoms) ≡ (not (list_any (λ a. same_formula a x) atoms) && not s)
        met x true s =
            let there : list_any (λ a. same_formula a x) atoms ≡ true = subst (λ (y : Formula). list_any (λ a. same_formula a y) atoms ≡ true) (same_formula-true e x s) is in
            not_from_true (list_any (λ a. same_formula a x) atoms) there ∙ sym (at_false (not (list_any (λ a. same_formula a x) atoms)))
          where
            at_false : (b : Bool) → (b && false) ≡ false
            at_false true = refl
            at_false false = refl
        met x false s = at_true (not (list_any (λ a. same_formula a x) atoms))
          where
            at_true : (b : Bool) → b ≡ (b && true)
            at_true true = refl
            at_true false = refl
    at false is kept more =
        more ∙ append_assoc atoms (e ∷ []) (filter (new_to (atoms ++ e ∷ [])) (distinct es))
        ∙ ap (λ (l : List Formula). atoms ++ (e ∷ l)) (sym (filter_twice (new_to atoms) (λ f. not (same_formula e f)) (new_to (atoms ++ e ∷ []))
        (λ x. ap not (list_any-append (λ a. same_formula a x) atoms (e ∷ [])) ∙ old_and_new (list_any (λ a. same_formula a x) atoms) (same_formula e x)) (distinct es)))

pub collected-all : (es : List Formula) → with_atoms [] es ≡ distinct es
collected-all es = collected [] es ∙ filter_all (distinct es)

pub with_atoms-append : (atoms xs ys : List Formula) → with_atoms atoms (xs ++ ys) ≡ with_atoms (with_atoms atoms xs) ys
with_atoms-append atoms [] ys = refl
with_atoms-append atoms (x ∷ xs) ys = with_atoms-append (cond (list_any (λ a. same_formula a x) atoms) atoms (atoms ++ x ∷ [])) xs ys

pub with_atoms_longer : (atoms es : List Formula) → length atoms ≤ length (with_atoms atoms es)
with_atoms_longer atoms [] = omega arith
with_atoms_longer atoms (x ∷ xs) = at (list_any (λ a. same_formula a x) atoms) (with_atoms_longer atoms xs) (with_atoms_longer (atoms ++ x ∷ []) xs)
  where
    at : (b : Bool) → length atoms ≤ length (with_atoms atoms xs) → length (atoms ++ x ∷ []) ≤ length (with_atoms (atoms ++ x ∷ []) xs) → length atoms ≤ length (with_atoms (cond b atoms (atoms ++ x ∷ [])) xs)
    at true same more = same
    at false same more = let l = length-append atoms (x ∷ []) in omega arith

module _ (rs : List Regex) (i : ℕ) (r : Regex) (below : i < length rs) (here : r ≡ get_or rs i r) where
  pub each_more : atoms_of_all (regulars (map regular (drop i rs))) ≡ atoms_of (regular r) ++ atoms_of_all (regulars (map regular (drop (i + 1) rs)))
  each_more =
      ap (λ (l : List Regex). atoms_of_all (regulars (map regular l))) (drop-cons rs i r below ∙ ap (λ (x : Regex). x ∷ drop (suc i) rs) (sym here))
      ∙ ap (λ (n : ℕ). atoms_of (regular r) ++ atoms_of_all (regulars (map regular (drop n rs)))) (let e : suc i ≡ i + 1 = omega arith in e)

  pub more_atoms : (atoms new : List Formula) → new ≡ with_atoms atoms (atoms_of (regular r)) →
      with_atoms new (atoms_of_all (regulars (map regular (drop (i + 1) rs)))) ≡ with_atoms atoms (atoms_of_all (regulars (map regular (drop i rs))))
  more_atoms atoms new is =
      ap (λ (l : List Formula). with_atoms l (atoms_of_all (regulars (map regular (drop (i + 1) rs))))) is
      ∙ sym (with_atoms-append atoms (atoms_of (regular r)) (atoms_of_all (regulars (map regular (drop (i + 1) rs)))))
      ∙ ap (with_atoms atoms) (sym each_more)

  pub wide_atoms : (atoms : List Formula) (limit : ℕ) → limit < length (with_atoms atoms (atoms_of (regular r))) → limit < length (with_atoms atoms (atoms_of_all (regulars (map regular (drop i rs)))))
  wide_atoms atoms limit more =
      let longer = with_atoms_longer (with_atoms atoms (atoms_of (regular r))) (atoms_of_all (regulars (map regular (drop (i + 1) rs)))) in
      omega (arith, more, longer, ap length (more_atoms atoms (with_atoms atoms (atoms_of (regular r))) refl))

pub both_sides : (xs ys : List Formula) → with_atoms (with_atoms [] xs) ys ≡ distinct (xs ++ ys)
both_sides xs ys = sym (with_atoms-append [] xs ys) ∙ collected-all (xs ++ ys)
