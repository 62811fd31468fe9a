-- The brackets of a trigger are among its atoms, and a letter tells each of them.
use Rattle.std.proofs.Common.{◌≡◌, ℕ, zero, suc, ◌-◌, ◌⊎◌, inl, inr, Bool, true, false, not, cond, ◌&&◌, ◌==◌, List, [], ◌∷◌, ◌++◌, Some, None, Option, filter, map, refl, sym, ◌∙◌, ap, subst, arith}
use Rattle.std.proofs.lemmas.Bool.{and_from, false≢true, eq-eqb, not_from_false}
use Rattle.std.proofs.lemmas.Bool.Decides.{Decides-int_eq}
use Rattle.std.specs.Prelude.{ℤ}
use Rattle.std.specs.Ordering.{int_eq}
use Rattle.spec_model.specs.declared.value.Value.{Value}
use Rattle.spec_model.specs.declared.value.Value.TheVariants as value
use Rattle.spec_model.specs.Values.{same_value}
use Rattle.spec_model.specs.Syntax.{Formula, Constant, Variable, NextOf, Negation, Conjunction, Disjunction, Implication, Equivalence, Comparison, Sum, Difference, Product, Remainder, PastOf, Entry, Formulas, Regular, Atom, Sequence, Choice, Repetition, Regulars, TriggerData}
use Rattle.spec_model.specs.Sizes.{compare_number, past_number, same_formula, same_formulas, atoms_of, atoms_of_all, distinct}
use Rattle.spec_model.specs.TriggerStates.{Written, Empty, Either, Star, Positions, copies, repeated, written, written_in_turn, written_besides, brackets, has, read_of, said_by, trigger_atoms}
use Rattle.spec_model.proofs.Restricted.{same_formula-true}
use Rattle.trigger_dfa.specs.Standings.{side_of}

-- ---- each tree is the same as itself

same_whole : (n : ℤ) → int_eq n n ≡ true
same_whole n = let d = Decides-int_eq n n in grind arith

same_value-refl : (v : Value) → same_value v v ≡ true
same_value-refl (value.Bool true) = refl
same_value-refl (value.Bool false) = refl
same_value-refl (value.Int n) = same_whole n
same_value-refl (value.Name k) = eq-eqb k k refl

mutual
  pub same_formula-refl : (f : Formula) → same_formula f f ≡ true
  same_formula-refl (Constant v) = same_value-refl v
  same_formula-refl (Variable k) = eq-eqb k k refl
  same_formula-refl (NextOf a) = same_formula-refl a
  same_formula-refl (Negation a) = same_formula-refl a
  same_formula-refl (Conjunction fs) = same_formulas-refl fs
  same_formula-refl (Disjunction fs) = same_formulas-refl fs
  same_formula-refl (Implication a b) = and_from (same_formula a a) (same_formula b b) (same_formula-refl a) (same_formula-refl b)
  same_formula-refl (Equivalence a b) = and_from (same_formula a a) (same_formula b b) (same_formula-refl a) (same_formula-refl b)
  same_formula-refl (Comparison o a b) =
      and_from (compare_number o == compare_number o && same_formula a a) (same_formula b b)
      (and_from (compare_number o == compare_number o) (same_formula a a) (eq-eqb (compare_number o) (compare_number o) refl) (same_formula-refl a)) (same_formula-refl b)
  same_formula-refl (Sum a b) = and_from (same_formula a a) (same_formula b b) (same_formula-refl a) (same_formula-refl b)
  same_formula-refl (Difference a b) = and_from (same_formula a a) (same_formula b b) (same_formula-refl a) (same_formula-refl b)
  same_formula-refl (Product a b) = and_from (same_formula a a) (same_formula b b) (same_formula-refl a) (same_formula-refl b)
  same_formula-refl (Remainder a n) = and_from (same_formula a a) (int_eq n n) (same_formula-refl a) (same_whole n)
  same_formula-refl (PastOf o fs) = and_from (past_number o == past_number o) (same_formulas fs fs) (eq-eqb (past_number o) (past_number o) refl) (same_formulas-refl fs)
  same_formula-refl (Entry h k) = and_from (h == h) (k == k) (eq-eqb h h refl) (eq-eqb k k refl)

  pub same_formulas-refl : (fs : Formulas) → same_formulas fs fs ≡ true
  same_formulas-refl Formulas.none = refl
  same_formulas-refl (Formulas.one_more a fs) = and_from (same_formula a a) (same_formulas fs fs) (same_formula-refl a) (same_formulas-refl fs)

-- ---- which formulas stand in a list

abbrev pub In : Formula → List Formula → Type 0
In e [] = ⊥
In e (a ∷ es) = (a ≡ e) ⊎ In e es

-- each formula of the list stands in the other one
abbrev pub EachIn : List Formula → List Formula → Type 0
EachIn [] es = Unit {0}
EachIn (a ∷ as') es = In a es × EachIn as' es

in_left : (e : Formula) (as' bs : List Formula) → In e as' → In e (as' ++ bs)
in_left e [] bs h = absurd h
in_left e (a ∷ as') bs h = elim h [ inl here ↦ inl here | inr later ↦ inr (in_left e as' bs later) ]

in_right : (e : Formula) (as' bs : List Formula) → In e bs → In e (as' ++ bs)
in_right e [] bs h = h
in_right e (a ∷ as') bs h = inr (in_right e as' bs h)

each_left : (cs as' bs : List Formula) → EachIn cs as' → EachIn cs (as' ++ bs)
each_left [] as' bs h = tt
each_left (c ∷ cs) as' bs h = (in_left c as' bs h.0, each_left cs as' bs h.1)

each_right : (cs as' bs : List Formula) → EachIn cs bs → EachIn cs (as' ++ bs)
each_right [] as' bs h = tt
each_right (c ∷ cs) as' bs h = (in_right c as' bs h.0, each_right cs as' bs h.1)

each_joined : (cs ds es : List Formula) → EachIn cs es → EachIn ds es → EachIn (cs ++ ds) es
each_joined [] ds es h k = k
each_joined (c ∷ cs) ds es h k = (h.0, each_joined cs ds es h.1 k)

filter_in : (p : Formula → Bool) (e : Formula) (es : List Formula) → In e es → p e ≡ true → In e (filter p es)
filter_in p e [] h t = absurd h
filter_in p e (a ∷ es) h t = at (p a) refl (λ l. filter_in p e es l t) h
  where
    at : (b : Bool) → p a ≡ b → (In e es → In e (filter p es)) → (a ≡ e) ⊎ In e es → In e (cond b (a ∷ filter p es) (filter p es))
    at true is more (inl here) = inl here
    at true is more (inr later) = inr (more later)
    at false is more (inl here) = absurd (false≢true (sym is ∙ subst (λ (x : Formula). p x ≡ true) (sym here) t))
    at false is more (inr later) = more later

distinct_in : (e : Formula) (es : List Formula) → In e es → In e (distinct es)
distinct_in e [] h = h
distinct_in e (a ∷ es) h = at (same_formula a e) refl (distinct_in e es) h
  where
    at : (b : Bool) → same_formula a e ≡ b → (In e es → In e (distinct es)) → (a ≡ e) ⊎ In e es → (a ≡ e) ⊎ In e (filter (λ f. not (same_formula a f)) (distinct es))
    at true is more h = inl (same_formula-true a e is)
    at false is more (inl here) = inl here
    at false is more (inr later) = inr (filter_in (λ f. not (same_formula a f)) e (distinct es) (more later) (not_from_false (same_formula a e) is))

each_distinct : (cs es : List Formula) → EachIn cs es → EachIn cs (distinct es)
each_distinct [] es h = tt
each_distinct (c ∷ cs) es h = (distinct_in c es h.0, each_distinct cs es h.1)

-- ---- the brackets of an expression whose repeats are written out

copies_in : (n : ℕ) (a rest : Written) (es : List Formula) → EachIn (brackets a) es → EachIn (brackets rest) es → EachIn (brackets (copies n a rest)) es
copies_in zero a rest es h k = k
copies_in (suc n) a rest es h k = each_joined (brackets a) (brackets (copies n a rest)) es h (copies_in n a rest es h k)

repeated_in : (a : Written) (low : ℕ) (high : Option ℕ) (es : List Formula) → EachIn (brackets a) es → EachIn (brackets (repeated a low high)) es
repeated_in a low None es h = copies_in low a (Star a) es h h
repeated_in a low (Some high) es h =
    copies_in low a (copies (high - low) (Either a Empty) Empty) es h (copies_in (high - low) (Either a Empty) Empty es (each_joined (brackets a) [] es h tt) tt)

mutual
  brackets_in : (a : Regular) → EachIn (brackets (written a)) (atoms_of a)
  brackets_in (Atom e) = (inl refl, tt)
  brackets_in (Sequence rs) = turn_in rs
  brackets_in (Choice rs) = besides_in rs
  brackets_in (Repetition a low high) = repeated_in (written a) low high (atoms_of a) (brackets_in a)

  turn_in : (rs : Regulars) → EachIn (brackets (written_in_turn rs)) (atoms_of_all rs)
  turn_in Regulars.none = tt
  turn_in (Regulars.one_more a rs) =
      each_joined (brackets (written a)) (brackets (written_in_turn rs)) (atoms_of a ++ atoms_of_all rs)
      (each_left (brackets (written a)) (atoms_of a) (atoms_of_all rs) (brackets_in a)) (each_right (brackets (written_in_turn rs)) (atoms_of a) (atoms_of_all rs) (turn_in rs))

  besides_in : (rs : Regulars) → EachIn (brackets (written_besides rs)) (atoms_of_all rs)
  besides_in Regulars.none = tt
  besides_in (Regulars.one_more a Regulars.none) = each_left (brackets (written a)) (atoms_of a) [] (brackets_in a)
  besides_in (Regulars.one_more a (Regulars.one_more b rs)) =
      each_joined (brackets (written a)) (brackets (written_besides (Regulars.one_more b rs))) (atoms_of a ++ atoms_of_all (Regulars.one_more b rs))
      (each_left (brackets (written a)) (atoms_of a) (atoms_of_all (Regulars.one_more b rs)) (brackets_in a))
      (each_right (brackets (written_besides (Regulars.one_more b rs))) (atoms_of a) (atoms_of_all (Regulars.one_more b rs)) (besides_in (Regulars.one_more b rs)))

pub side_in : (tr : TriggerData) (waits : Bool) → EachIn (brackets (side_of tr waits)) (trigger_atoms tr)
side_in tr true =
    each_distinct (brackets (written tr.effect)) (atoms_of tr.cause ++ atoms_of tr.effect)
    (each_right (brackets (written tr.effect)) (atoms_of tr.cause) (atoms_of tr.effect) (brackets_in tr.effect))
side_in tr false =
    each_distinct (brackets (written tr.cause)) (atoms_of tr.cause ++ atoms_of tr.effect)
    (each_left (brackets (written tr.cause)) (atoms_of tr.cause) (atoms_of tr.effect) (brackets_in tr.cause))

-- ---- a letter tells what holds

said_of : (atoms : List Formula) (f : Formula → Bool) (e : Formula) → In e atoms → said_by atoms (map f atoms) e ≡ f e
said_of [] f e h = absurd h
said_of (a ∷ more) f e h = at (same_formula a e) refl (said_of more f e) h
  where
    at : (b : Bool) → same_formula a e ≡ b → (In e more → said_by more (map f more) e ≡ f e) → (a ≡ e) ⊎ In e more → cond b (f a) (said_by more (map f more) e) ≡ f e
    at true is rest h = ap f (same_formula-true a e is)
    at false is rest (inl here) = absurd (false≢true (sym is ∙ subst (λ (x : Formula). same_formula a x ≡ true) here (same_formula-refl a)))
    at false is rest (inr later) = rest later

pub read_said : (atoms : List Formula) (f : Formula → Bool) (ps : List ℕ) (n : ℕ) (es : List Formula) → EachIn es atoms →
    read_of (said_by atoms (map f atoms)) ps n es ≡ read_of f ps n es
read_said atoms f ps n [] h = refl
read_said atoms f ps n (e ∷ es) h =
    let here = said_of atoms f e h.0 in
    let rest = read_said atoms f ps (suc n) es h.1 in
    ap (λ (b : Bool). (has ps n && b) ∷ read_of (said_by atoms (map f atoms)) ps (suc n) es) here ∙ ap (λ (l : Positions). (has ps n && f e) ∷ l) rest
