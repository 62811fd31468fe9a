-- Where a token is refused as unexpected, it is no operator behind a whole phrase.
use Rattle.std.proofs.Common.{◌≡◌, ℕ, ◌+◌, ◌<◌, Bool, true, false, List, [], ◌∷◌, ◌++◌, length, Some, Err, inl, inr, refl, sym, ap, subst, ◌∙◌, append_assoc, append-nil, arith, length-append}
use Rattle.spectra_exprs.specs.declared.fault.SyntaxFault.TheVariants as faults
use Rattle.spectra_trees.specs.declared.class.Class.TheVariants as classes
use Rattle.spectra_trees.specs.Classes.{place_of, same_class}
use Rattle.spectra_trees.specs.Data.{Form, TreeData}
use Rattle.spectra_trees.specs.Lexemes.{Lexeme}
use Rattle.spectra_exprs.specs.Expressions.{leaf}
use Rattle.spectra_exprs.specs.Forms.{Gives, Token, ◌▸◌, Steps}
use Rattle.spectra_exprs.specs.Grammar.{Deeper, Prim, Prod, Sum, Cmp, Conj, Disj, Unquantified, Levels}
use Rattle.spectra_exprs.specs.Phrases.{Phrase, ArePhrase}
use Rattle.spectra_exprs.proofs.ClassSets.{among, going}
use Rattle.spectra_exprs.proofs.Completeness.{Reaches}
use Rattle.spectra_exprs.proofs.WholeExpressions.{b_expr}
use Rattle.spectra_exprs.proofs.Stopping.{err_is, err_no_ok}
use Rattle.spectra_exprs.proofs.Awaiting.{awaits}
use Rattle.spectra_exprs.proofs.Shapes.{depth}
use Rattle.spectra_exprs.proofs.ShapesOfExpressions.{formed_expr, formed_sum, formed_inside}
use Rattle.spectra_exprs.proofs.Examples.{a_True}
use Rattle.spectra_exprs.proofs.Comparing.{Fresh, fresh_behind, Pair, said, instead, Compared}
use Rattle.spectra_parser.specs.Items.{text_of}
use Rattle.spectra_parser.specs.Texts.{IsBehindPhrase}
use Rattle.spectra_parser.specs.Wholes.{IsWholeFrom}
use Rattle.spectra_parser.proofs.WholeText.{text_reaches}
use Rattle.spectra_parser.proofs.StoppingTexts.{to_first_end}
use Rattle.spectra_parser.proofs.Places.{Numbered, whole_numbered, number_at, stopped, to_end_reaches, refuted, not_deep}
use Rattle.spectra_parser.proofs.OpeningDeclarations.{phrase_starts}
use Rattle.spectra_parser.proofs.ComparingTexts.{tells_text}

-- ---- the word `true` is a phrase

behind_nothing : {A B : Type 0} {P : List Lexeme → A → Type 0} {Q : A → List Lexeme → B → Type 0} (used : List Lexeme) (a : A) (b : B) → P used a → Q a [] b → (P ▸ Q) used b
behind_nothing used a b p q = record { front = used; value = a; back = []; parts = sym (append-nil used); before = p; after = q }

module _ (d : Deeper) (word : Lexeme) (is : same_class word.class classes.True ≡ true) where
  true_prim : Prim d (word ∷ []) (leaf word Form.True)
  true_prim = inr (inr (inr (inl (behind_nothing {P = Token classes.True} {Q = λ t. Gives (leaf t Form.True)} (word ∷ []) word (leaf word Form.True) (record { alone = refl; is = is }) (record { nothing = refl; same = refl })))))

  true_prod : Prod d (word ∷ []) (leaf word Form.True, true)
  true_prod = record { front = word ∷ []; value = leaf word Form.True; back = []; parts = refl; before = true_prim; after = Steps.done (leaf word Form.True, true) }

  true_sum : Sum d (word ∷ []) (leaf word Form.True, true)
  true_sum = record { front = word ∷ []; value = (leaf word Form.True, true); back = []; parts = refl; before = true_prod; after = inr (Steps.done (leaf word Form.True, true)) }

  true_cmp : Cmp d (word ∷ []) (leaf word Form.True, true)
  true_cmp = inr (record { front = word ∷ []; value = (leaf word Form.True, true); back = []; parts = refl; before = true_sum; after = inr (record { nothing = refl; same = refl }) })

  true_conj : Conj d (word ∷ []) (leaf word Form.True, true)
  true_conj = record { front = word ∷ []; value = (leaf word Form.True, true); back = []; parts = refl; before = true_cmp; after = inr (record { nothing = refl; same = refl }) }

  true_disj : Disj d (word ∷ []) (leaf word Form.True, true)
  true_disj = record { front = word ∷ []; value = (leaf word Form.True, true); back = []; parts = refl; before = true_conj; after = inr (record { nothing = refl; same = refl }) }

  true_expr : Unquantified d (word ∷ []) (leaf word Form.True)
  true_expr = record { front = word ∷ []; value = (leaf word Form.True, true); back = []; parts = refl; before = true_disj; after = inr (inr (record { nothing = refl; same = refl })) }

true_phrase : (word : Lexeme) → same_class word.class classes.True ≡ true → (sort : Phrase) (left : ℕ) → ArePhrase sort left (word ∷ [])
true_phrase word is Phrase.Whole left = (leaf word Form.True, inr (inr (true_expr (Levels left) word is)))
true_phrase word is Phrase.Bound left = ((leaf word Form.True, true), true_sum (Levels left) word is)

-- ---- what is known of a phrase

phrase_flat : (sort : Phrase) (left : ℕ) (phrase : List Lexeme) → ArePhrase sort left phrase → depth 0 phrase ≡ Some 0
phrase_flat Phrase.Whole left phrase p = (formed_expr (Levels left) (formed_inside left)).level 0 phrase p.0 p.1
phrase_flat Phrase.Bound left phrase p = (formed_sum (Levels left) (formed_inside left)).level 0 phrase p.0 p.1

phrase_ends : (sort : Phrase) (left : ℕ) (phrase : List Lexeme) → ArePhrase sort left phrase → (b : Bool) → awaits b phrase ≡ false
phrase_ends Phrase.Whole left phrase p b = (formed_expr (Levels left) (formed_inside left)).ends b phrase p.0 p.1
phrase_ends Phrase.Bound left phrase p b = (formed_sum (Levels left) (formed_inside left)).ends b phrase p.0 p.1

-- the first token of a phrase
record First (phrase : List Lexeme) : Type 0 where
  head : Lexeme
  tail : List Lexeme
  parts : phrase ≡ head ∷ tail
  begins : among b_expr (place_of head.class) ≡ true

first_of_phrase : (phrase : List Lexeme) → going b_expr (phrase ++ []) ≡ true → First phrase
first_of_phrase [] on = absurd (cc)
first_of_phrase (t ∷ ts) on = record { head = t; tail = ts; parts = refl; begins = on }

-- ---- the numbers

less_fresh : (k : ℕ) (u : List Lexeme) (t : Lexeme) (rest : List Lexeme) → Numbered k (u ++ t ∷ rest) → Fresh t u
less_fresh k [] t rest h = tt
less_fresh k (x ∷ u) t rest h =
    let here = h.0 in
    let there = number_at (k + 1) u t rest h.1 in
    (λ same. absurd (omega (arith, here, there, same)), less_fresh (k + 1) u t rest h.1)

fresh_front : (t : Lexeme) (u v : List Lexeme) → Fresh t (u ++ v) → Fresh t u
fresh_front t [] v h = tt
fresh_front t (x ∷ u) v h = (h.0, fresh_front t u v h.1)

same_front : (u v w z : List Lexeme) (x y : Lexeme) → u ++ x ∷ v ≡ w ++ y ∷ z → length u ≡ length w → (u ≡ w) × (x ≡ y)
same_front [] v [] z x y e size = (refl, cc)
same_front [] v (b ∷ w) z x y e size = absurd (omega arith)
same_front (a ∷ u) v [] z x y e size = absurd (omega arith)
same_front (a ∷ u) v (b ∷ w) z x y e size =
    let first : a ≡ b = cc in
    let more : u ++ x ∷ v ≡ w ++ y ∷ z = cc in
    let p = same_front u v w z x y more (omega arith) in
    (ap (λ (c : Lexeme). c ∷ u) first ∙ ap (λ (m : List Lexeme). b ∷ m) p.0, p.1)

-- ---- the two readings

never_both : (p : Pair) (front : List Lexeme) (x : TreeData × List Lexeme) → to_first_end (front ++ said p) ≡ Err (faults.Unexpected p.operator.number) → Reaches (Unit {0}) (to_first_end (front ++ instead p)) x
    → Compared p [] front (to_first_end (front ++ said p)) (to_first_end (front ++ instead p)) → ⊥
never_both p front x stops reaches (Compared.both used left a parts e g) = err_no_ok (faults.Unexpected p.operator.number) (a, left ++ said p) (sym stops ∙ e)
never_both p front x stops reaches (Compared.refuses g) = refuted (front ++ instead p) (faults.Unexpected p.word.number) x (λ deep k. not_deep p.word.number k) g reaches
never_both p front x stops reaches (Compared.elsewhere f e other) = other (sym (err_is {A = TreeData} (faults.Unexpected p.operator.number) f (sym stops ∙ e)))
never_both p front x stops reaches (Compared.waits a g on) = absurd (cc)
never_both p front x stops reaches (Compared.behind a u w e on other) = absurd (cc)

-- where the token is unexpected, no whole phrase stands before it in a place of its own
pub no_phrase_behind : (ts : List Lexeme) (at : ℕ) → IsWholeFrom 0 ts → text_of ts ≡ Err (faults.Unexpected at) → IsBehindPhrase ts at → ⊥
no_phrase_behind ts at w read b =
    let q = stopped ts (faults.Unexpected at) w read in
    let parts : ts ≡ (b.front ++ b.phrase) ++ b.operator ∷ b.rest = b.parts ∙ sym (append_assoc b.front b.phrase (b.operator ∷ b.rest)) in
    let numbered : Numbered 0 ((b.front ++ b.phrase) ++ b.operator ∷ b.rest) = subst (λ (us : List Lexeme). Numbered 0 us) parts (whole_numbered 0 ts w) in
    let here : b.operator.number ≡ 0 + length (b.front ++ b.phrase) = number_at 0 (b.front ++ b.phrase) b.operator b.rest numbered in
    let there : q.token.number ≡ 0 + length q.used = number_at 0 q.used q.token q.rest (subst (λ (us : List Lexeme). Numbered 0 us) q.front (whole_numbered 0 ts w)) in
    let names : at ≡ q.token.number = q.names in
    let number = b.number in
    let size : length q.used ≡ length (b.front ++ b.phrase) = omega (arith, here, there, names, number) in
    let same = same_front q.used q.rest (b.front ++ b.phrase) b.rest q.token b.operator (sym q.front ∙ parts) size in
    let first = first_of_phrase b.phrase (phrase_starts b.sort b.left b.phrase [] b.whole) in
    let some : 0 < length b.phrase = subst (λ (us : List Lexeme). 0 < length us) (sym first.parts) (omega arith) in
    let fresh = less_fresh 0 (b.front ++ b.phrase) b.operator b.rest numbered in
    let word : Lexeme = record { class = a_True.token.class; text = a_True.token.text; at = a_True.token.at; number = b.operator.number } in
    let begun = b.any (word ∷ []) (true_phrase word a_True.is b.sort b.left) in
    let long = length-append b.front b.phrase in
    let p : Pair = record {
      phrase = b.phrase;
      operator = b.operator;
      word = word;
      more = begun.1.more;
      head = first.head;
      tail = first.tail;
      parts = first.parts;
      begins = first.begins;
      flat = phrase_flat b.sort b.left b.phrase b.whole;
      ends = phrase_ends b.sort b.left b.phrase b.whole;
      is = b.is;
      some = λ none. absurd (omega (arith, here, none, some, long));
      fresh = fresh_behind b.operator b.front b.phrase fresh;
      says = a_True.is;
      named = refl;
    } in
    let stops : to_first_end (b.front ++ said p) ≡ Err (faults.Unexpected p.operator.number) =
    ap to_first_end (sym (append_assoc b.front b.phrase (b.operator ∷ [])) ∙ ap (λ (us : List Lexeme). us ++ b.operator ∷ []) (sym same.0) ∙ ap (λ (t : Lexeme). q.used ++ t ∷ []) (sym same.1))
    ∙ q.again [] ∙ ap (λ (k : ℕ). Err (faults.Unexpected k)) (sym number) in
    let text = begun.1.grammar in
    let us : List Lexeme = (b.front ++ word ∷ []) ++ begun.1.more in
    let reaches : Reaches (Unit {0}) (to_first_end us) (begun.1.tree, text.end ∷ []) = to_end_reaches us (begun.1.tree, text.end ∷ []) (text_reaches begun.0 (λ less. tt) us begun.1.tree text) in
    let instead_reaches : Reaches (Unit {0}) (to_first_end (b.front ++ instead p)) (begun.1.tree, text.end ∷ []) =
    subst (λ (m : List Lexeme). Reaches (Unit {0}) (to_first_end m) (begun.1.tree, text.end ∷ [])) (append_assoc b.front (word ∷ []) begun.1.more) reaches in
    never_both p b.front (begun.1.tree, text.end ∷ []) stops instead_reaches ((tells_text p).tells b.front (fresh_front b.operator b.front b.phrase fresh))
