-- The word `true` behind the word of a quantifier: where a variable is read there, it is refused.
use Rattle.std.proofs.Common.{◌≡◌, ℕ, suc, ◌+◌, ◌<◌, ◌≤◌, Bool, true, false, ◌&&◌, List, [], ◌∷◌, ◌++◌, Ok, Err, ◌⊎◌, inl, inr, refl, sym, ap, subst, ◌∙◌, append_assoc, append-nil, arith}
use Rattle.std.proofs.lemmas.List.{append_cancel_right}
use Rattle.spectra_exprs.specs.declared.fault.SyntaxFault.{SyntaxFault}
use Rattle.spectra_exprs.specs.declared.fault.SyntaxFault.TheVariants as faults
use Rattle.spectra_trees.specs.declared.class.Class.TheVariants as classes
use Rattle.spectra_trees.specs.Classes.{place_of, same_class}
use Rattle.spectra_trees.specs.Lexemes.{Lexeme}
use Rattle.spectra_exprs.specs.Read.{Read, Reader}
use Rattle.spectra_exprs.specs.Operators.{is_operator}
use Rattle.spectra_exprs.proofs.ClassSets.{among, going_apart, same_going}
use Rattle.spectra_exprs.proofs.WholeExpressions.{c_expr, no_operator}
use Rattle.spectra_exprs.proofs.Stopping.{SameHead, NoEnd, Names, StopsAt, Stable, err_is, ok_no_err}
use Rattle.spectra_exprs.proofs.Opening.{IsNext, IsPlace, OpensAt, OpensBefore, Full}
use Rattle.spectra_exprs.proofs.Awaiting.{quantifiers}
use Rattle.spectra_exprs.proofs.Shapes.{tidy, Formed}
use Rattle.spectra_exprs.proofs.Comparing.{Fresh, Pair, said, off_class, word_off}
use Rattle.spectra_exprs.proofs.Splitting.{Split, split, fresh_at}

-- ---- a number that no token has

abbrev over : ℕ → List Lexeme → ℕ
over n [] = suc n
over n (t ∷ ts) = t.number + over n ts

more_than : (n : ℕ) (ts : List Lexeme) → n < over n ts
more_than n [] = omega arith
more_than n (t ∷ ts) = let less = more_than n ts in omega (arith, less)

fresh_over : (n : ℕ) (ts : List Lexeme) (t : Lexeme) → over n ts ≤ t.number → Fresh t ts
fresh_over n [] t most = tt
fresh_over n (u ∷ ts) t most = let less = more_than n ts in (λ same. absurd (omega (arith, most, less, same)), fresh_over n ts t (omega (arith, most)))

fresh_exactly : (n : ℕ) (ts : List Lexeme) (t : Lexeme) → t.number ≡ over n ts → Fresh t ts
fresh_exactly n ts t e = fresh_over n ts t (omega (arith, e))

same_first : (t : Lexeme) (ts : List Lexeme) (u : Lexeme) (us : List Lexeme) → t ∷ ts ≡ u ∷ us → t ≡ u
same_first t ts u us e = cc

-- ---- behind a quantifier's word

both : (n b : Bool) → n && b ≡ true → b ≡ true
both true b e = e
both false b e = absurd (cc)

never : (n b : Bool) → n ≡ false → n && b ≡ true → ⊥
never true b off e = cc
never false b off e = cc

-- where a quantifier's word stands, a name is behind it
tidy_word : (b : Bool) (u : List Lexeme) (q : Lexeme) (ts : List Lexeme) → among quantifiers (place_of q.class) ≡ true → tidy b (u ++ q ∷ ts) ≡ true → tidy true ts ≡ true
unfolding place_of
tidy_word true [] q ts is e = absurd (never (same_class q.class classes.Name) (tidy false ts) (off_class quantifiers classes.Name (record { checked = refl }) q is) e)
tidy_word false [] q ts is e = subst (λ (b : Bool). tidy b ts ≡ true) is e
tidy_word true (t ∷ u) q ts is e = tidy_word false u q ts is (both (same_class t.class classes.Name) (tidy false (u ++ q ∷ ts)) e)
tidy_word false (t ∷ u) q ts is e = tidy_word (among quantifiers (place_of t.class)) u q ts is e

no_end_last : (u : List Lexeme) (t : Lexeme) → NoEnd (u ++ t ∷ []) → same_class t.class classes.Finish ≡ false
no_end_last [] t h = h.0
no_end_last (x ∷ u) t h = no_end_last u t h.1

module _ {A : Type 0} (p : Pair) (P : List Lexeme → A → Type 0) (R : Reader A) (stable : Stable R) (full : Full P R) (formed : Formed P) (before : List Lexeme) (q : Lexeme) (is : among quantifiers (place_of q.class) ≡ true) (fresh : Fresh p.operator (before ++ q ∷ []))
    (stopped : R ((before ++ q ∷ []) ++ said p) ≡ Err (faults.Unexpected p.operator.number)) where
  abbrev front : List Lexeme
  front = before ++ q ∷ []

  -- the end of a text, with a number of its own
  abbrev end : Lexeme
  end = record { class = classes.Finish; text = []; at = record { line = 0; column = 0 }; number = over p.word.number front }

  abbrev tried : List Lexeme
  tried = p.word ∷ end ∷ []

  name_behind : (c : List Lexeme) (a : A) → P (front ++ c) a → tidy true c ≡ true
  name_behind c a d = tidy_word false before q c is (ap (tidy false) (sym (append_assoc before (q ∷ []) c)) ∙ formed.named (front ++ c) a d)

  no_word : (c : List Lexeme) → tidy true (p.word ∷ c) ≡ true → ⊥
  unfolding place_of
  no_word c e = never (same_class p.word.class classes.Name) (tidy false c) (word_off p classes.Name (record { checked = refl })) e

  -- what was used lies in the front
  record Within (used rest : List Lexeme) : Type 0 where
    left : List Lexeme
    parts : front ≡ used ++ left
    behind : rest ≡ left ++ tried

  within : (used rest more : List Lexeme) (a : A) → front ++ tried ≡ used ++ rest → P (used ++ more) a → Within used rest
  within used rest more a e d = by (split front tried used rest e)
    where
      by : Split front tried used rest → Within used rest
      by (Split.short c e g) = record { left = c; parts = e; behind = g }
      by (Split.long s c e g) =
          let first : p.word ≡ s = cc in
          let long : used ++ more ≡ front ++ (s ∷ (c ++ more)) = ap (λ (m : List Lexeme). m ++ more) e ∙ append_assoc front (s ∷ c) more in
          let named = name_behind (s ∷ (c ++ more)) a (subst (λ (m : List Lexeme). P m a) long d) in
          absurd (no_word (c ++ more) (subst (λ (x : Lexeme). tidy true (x ∷ (c ++ more)) ≡ true) (sym first) named))

  -- nothing is read there
  reads : (left used rest : List Lexeme) (a : A) → front ≡ used ++ left → rest ≡ left ++ tried → P used a → ((more : List Lexeme) → SameHead rest more → R (used ++ more) ≡ Ok (a, more)) → ⊥
  reads [] used rest a parts behind d again =
      let named : false ≡ true = name_behind [] a (subst (λ (m : List Lexeme). P m a) (sym (append-nil front ∙ parts ∙ append-nil used)) d) in
      absurd (cc)
  reads (t ∷ left) used rest a parts behind d again =
      let head : SameHead rest (t ∷ (left ++ said p)) = subst (λ (m : List Lexeme). SameHead m (t ∷ (left ++ said p))) (sym behind) (left ++ said p, refl) in
      let here : front ++ said p ≡ used ++ t ∷ (left ++ said p) = ap (λ (m : List Lexeme). m ++ said p) parts ∙ append_assoc used (t ∷ left) (said p) in
      ok_no_err (a, t ∷ (left ++ said p)) (faults.Unexpected p.operator.number) (sym (again (t ∷ (left ++ said p)) head) ∙ sym (ap R here) ∙ stopped)

  never_read : (x : A × List Lexeme) → R (front ++ tried) ≡ Ok x → ⊥
  never_read x e =
      let k = stable.goes (front ++ tried) x.0 x.1 e in
      let g = full.sound.got (front ++ tried) x.0 x.1 e in
      let same : g.used ≡ k.used = append_cancel_right g.used k.used x.1 (sym g.front ∙ k.front) in
      let derives : P k.used x.0 = subst (λ (u : List Lexeme). P u x.0) same g.derives in
      let w = within k.used x.1 [] x.0 k.front (subst (λ (u : List Lexeme). P u x.0) (sym (append-nil k.used)) derives) in
      reads w.left k.used x.1 x.0 w.parts w.behind derives k.again

  -- a number that no token in front has
  abbrev IsNew : ℕ → Type 0
  IsNew n = (n ≡ p.operator.number) ⊎ (n ≡ end.number)

  not_front : (n : ℕ) (u : List Lexeme) (t : Lexeme) (v : List Lexeme) → IsNew n → front ≡ u ++ t ∷ v → t.number ≡ n → ⊥
  not_front n u t v (inl new) parts same = fresh_at p.operator u t v (subst (λ (m : List Lexeme). Fresh p.operator m) parts fresh) (same ∙ new)
  not_front n u t v (inr new) parts same = fresh_at end u t v (subst (λ (m : List Lexeme). Fresh end m) parts (fresh_exactly p.word.number front end refl)) (same ∙ new)

  word_no_operator : is_operator p.word.class ≡ true → ⊥
  unfolding place_of
  word_no_operator on = let off : is_operator p.word.class ≡ false = no_operator p.word.class (going_apart (classes.True ∷ []) c_expr (record { checked = refl }) (p.word ∷ []) (same_going classes.True p.word [] p.says)) in absurd (cc)

  -- it stops at the word
  judged : (f : SyntaxFault) (n : ℕ) → IsNew n → Names f n → (left used rest : List Lexeme) → front ≡ used ++ left → rest ≡ left ++ tried → IsPlace f used rest → f ≡ faults.Unexpected p.word.number
  judged (faults.Unexpected at) n new names [] used rest parts behind place = ap (λ (k : ℕ). faults.Unexpected k) (sym (subst (λ (m : List Lexeme). IsNext at m) behind place))
  judged (faults.Unexpected at) n new names (t ∷ left) used rest parts behind place = absurd (not_front n used t left new parts (subst (λ (m : List Lexeme). IsNext at m) behind place ∙ names))
  judged (faults.TooDeep at) n new names left used rest parts behind place =
      let here : front ≡ place.front ++ place.token ∷ left = parts ∙ ap (λ (m : List Lexeme). m ++ left) place.parts ∙ append_assoc place.front (place.token ∷ []) left in
      absurd (not_front n place.front place.token left new here (place.number ∙ names))
  judged (faults.Parentheses at) n new names [] used rest parts behind place =
      let first : place.token ≡ p.word = same_first place.token place.more p.word (end ∷ []) (sym place.parts ∙ behind) in
      absurd (word_no_operator (subst (λ (t : Lexeme). is_operator t.class ≡ true) first place.operator))
  judged (faults.Parentheses at) n new names (t ∷ left) used rest parts behind place =
      let first : place.token ≡ t = same_first place.token place.more t (left ++ tried) (sym place.parts ∙ behind) in
      absurd (not_front n used t left new parts (ap (λ (x : Lexeme). x.number) (sym first) ∙ place.number ∙ names))
  judged faults.Memory n new names left used rest parts behind place = absurd names

  fault_is : (f : SyntaxFault) (n : ℕ) → IsNew n → Names f n → R (front ++ tried) ≡ Err f → f ≡ faults.Unexpected p.word.number
  fault_is f n new names e = by (full.opens (front ++ tried) f e)
    where
      by : OpensAt P (front ++ tried) f ⊎ ⊥ → f ≡ faults.Unexpected p.word.number
      by (inl o) = let w = within o.used o.rest o.begun.more o.begun.value o.front o.begun.derives in judged f n new names w.left o.used o.rest w.parts w.behind o.place
      by (inr o) = absurd o

  module _ (f : SyntaxFault) (e : R (front ++ tried) ≡ Err f) (more : List Lexeme) where
    abbrev Goal : Type 0
    Goal = R (front ++ p.word ∷ more) ≡ Err (faults.Unexpected p.word.number)

    at_stop : (used : List Lexeme) (token : Lexeme) (rest : List Lexeme) → Names f token.number → ((more : List Lexeme) → R (used ++ token ∷ more) ≡ Err f) → Split front tried used (token ∷ rest) → Goal
    at_stop used token rest names again (Split.short [] parts g) =
        let first : p.word ≡ token = cc in
        let same : f ≡ faults.Unexpected p.word.number = fault_is f token.number (inl (ap (λ (t : Lexeme). t.number) (sym first) ∙ p.named)) names e in
        let here : front ++ p.word ∷ more ≡ used ++ token ∷ more = ap (λ (m : List Lexeme). m ++ p.word ∷ more) (parts ∙ append-nil used) ∙ ap (λ (t : Lexeme). used ++ t ∷ more) first in
        ap R here ∙ again more ∙ ap (λ (h : SyntaxFault). Err h) same
    at_stop used token rest names again (Split.short (t ∷ c) parts g) =
        let first : token ≡ t = cc in
        let here : front ++ said p ≡ used ++ token ∷ (c ++ said p) = ap (λ (m : List Lexeme). m ++ said p) parts ∙ append_assoc used (t ∷ c) (said p) ∙ ap (λ (x : Lexeme). used ++ x ∷ (c ++ said p)) (sym first) in
        let same : f ≡ faults.Unexpected p.operator.number = err_is {A = A} f (faults.Unexpected p.operator.number) (sym (again (c ++ said p)) ∙ sym (ap R here) ∙ stopped) in
        let number : p.operator.number ≡ token.number = subst (λ (h : SyntaxFault). Names h token.number) same names in
        absurd (not_front p.operator.number used t c (inl refl) parts (ap (λ (x : Lexeme). x.number) (sym first) ∙ sym number))
    at_stop used token rest names again (Split.long s [] parts g) =
        let last : token ≡ end = cc in
        let same : f ≡ faults.Unexpected p.word.number = fault_is f token.number (inr (ap (λ (t : Lexeme). t.number) last)) names e in
        let number : p.word.number ≡ token.number = subst (λ (h : SyntaxFault). Names h token.number) same names in
        let whole : p.word.number ≡ over p.word.number front = number ∙ ap (λ (t : Lexeme). t.number) last in
        let less = more_than p.word.number front in
        absurd (omega (arith, whole, less))
    at_stop used token rest names again (Split.long s (x ∷ []) parts g) = absurd (cc)
    at_stop used token rest names again (Split.long s (x ∷ y ∷ c) parts g) = absurd (cc)

    by_stop : (StopsAt R (front ++ tried) f ⊎ NoEnd (front ++ tried)) ⊎ ⊥ → Goal
    unfolding same_class place_of
    by_stop (inl (inl s)) = at_stop s.used s.token s.rest s.names s.again (split front tried s.used (s.token ∷ s.rest) s.front)
    by_stop (inl (inr none)) =
        let off : true ≡ false = no_end_last (front ++ p.word ∷ []) end (subst NoEnd (sym (append_assoc front (p.word ∷ []) (end ∷ []))) none) in
        absurd (cc)
    by_stop (inr s) = absurd s

  -- the word is refused
  pub word_refused : (more : List Lexeme) → R (front ++ p.word ∷ more) ≡ Err (faults.Unexpected p.word.number)
  word_refused more = by (R (front ++ tried)) refl
    where
      by : (r : Read A) → R (front ++ tried) ≡ r → R (front ++ p.word ∷ more) ≡ Err (faults.Unexpected p.word.number)
      by (Ok x) e = absurd (never_read x e)
      by (Err f) e = by_stop f e more (stable.stops (front ++ tried) f e)
