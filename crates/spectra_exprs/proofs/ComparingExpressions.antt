-- Reading an expression, or a bound, in a place of its own: a phrase that an operator follows, and `true` in its place.
use Rattle.std.proofs.Common.{◌≡◌, ℕ, suc, ◌<◌, Bool, true, false, not, nat_eq, List, [], ◌∷◌, ◌++◌, length, Some, Ok, Err, inl, inr, refl, sym, ap, subst, ◌∙◌, append_assoc, append-nil, arith}
use Rattle.std.proofs.lemmas.List.{append_cancel_right}
use Rattle.std.proofs.lemmas.Bool.Decides.{nat_tests}
use Rattle.spectra_exprs.specs.declared.fault.SyntaxFault.{SyntaxFault}
use Rattle.spectra_exprs.specs.declared.fault.SyntaxFault.TheVariants as faults
use Rattle.spectra_trees.specs.declared.class.Class.{Class}
use Rattle.spectra_trees.specs.declared.class.Class.TheVariants as classes
use Rattle.spectra_trees.specs.Classes.{place_of, same_class}
use Rattle.spectra_trees.specs.Data.{Expression}
use Rattle.spectra_trees.specs.Lexemes.{Lexeme}
use Rattle.spectra_exprs.specs.Read.{Read, Reader, starts, all_of}
use Rattle.spectra_exprs.specs.Operators.{is_operator}
use Rattle.spectra_exprs.specs.Expressions.{Term, whole_of, bound_of, argument_of, some_arguments_of, arguments_of, inside}
use Rattle.spectra_exprs.specs.Forms.{Gives, ◌▸◌}
use Rattle.spectra_exprs.specs.Grammar.{ExprOf, Sum, BoundOf, Levels}
use Rattle.spectra_exprs.proofs.Soundness.{Sound}
use Rattle.spectra_exprs.proofs.SoundExpressions.{sound_whole, sound_bound, sound_inside}
use Rattle.spectra_exprs.proofs.ClassSets.{among, going, going_apart, same_going}
use Rattle.spectra_exprs.proofs.Completeness.{Reaches, Whole}
use Rattle.spectra_exprs.proofs.WholeExpressions.{c_expr, b_expr, no_operator}
use Rattle.spectra_exprs.proofs.WholeLevels.{whole_inside, whole_whole, whole_bound}
use Rattle.spectra_exprs.proofs.Stopping.{SameHead, Stable, starts_of_head}
use Rattle.spectra_exprs.proofs.StoppingExpressions.{stable_whole, stable_bound, stable_inside, uses_argument}
use Rattle.spectra_exprs.proofs.Opening.{IsNext, Full}
use Rattle.spectra_exprs.proofs.OpeningExpressions.{full_whole, full_bound, full_inside}
use Rattle.spectra_exprs.proofs.Awaiting.{operand_ends, quantifiers, opens, awaits, awaits-append, Waits, OnOperator, quiet, anywhere, Awaits, Closes}
use Rattle.spectra_exprs.proofs.AwaitingExpressions.{awaits_whole, closes_whole, awaits_bound, closes_bound, awaits_inside}
use Rattle.spectra_exprs.proofs.Shapes.{inner_tokens, phrase_tokens, openings, within_one, depth, depth_between, goes_on_flat, Formed}
use Rattle.spectra_exprs.proofs.ShapesOfTokens.{same_depth, opened_depth}
use Rattle.spectra_exprs.proofs.ShapesOfExpressions.{formed_expr, formed_bound, formed_inside}
use Rattle.spectra_exprs.proofs.Comparing.{Fresh, Pair, said, instead, Compared, number_apart, Tells, Blocks, blocks_then, blocks_off, blocks_after, off_class, tells_gives, tells_open, tells_after, tells_until, tells_if, tells_map}
use Rattle.spectra_exprs.proofs.ComparingSteps.{tells_steps}
use Rattle.spectra_exprs.proofs.Splitting.{Split, split, fresh_at}
use Rattle.spectra_exprs.proofs.ComparingVariables.{word_refused}

-- ---- lists

-- the one token of that number
pub record Last (t : Lexeme) (us used rest : List Lexeme) : Type 0 where
  pub all : used ≡ us
  pub alone : rest ≡ t ∷ []

no_number : (at : ℕ) (rest : List Lexeme) → (at ≡ 0 → ⊥) → rest ≡ [] → IsNext at rest → ⊥
no_number at [] some e place = some place
no_number at (t ∷ rest) some e place = absurd (cc)

not_first : (t u : Lexeme) (us rest : List Lexeme) → (u.number ≡ t.number → ⊥) → u ∷ us ≡ rest → IsNext t.number rest → ⊥
not_first t u us [] other e place = absurd (cc)
not_first t u us (x ∷ rest) other e place = let same : u ≡ x = cc in other (ap (λ (y : Lexeme). y.number) same ∙ place)

pub last_number : (t : Lexeme) (us used rest : List Lexeme) → (t.number ≡ 0 → ⊥) → Fresh t us → us ++ t ∷ [] ≡ used ++ rest → IsNext t.number rest → Last t us used rest
last_number t [] [] rest some fresh e place = record { all = refl; alone = sym e }
last_number t [] (x ∷ []) rest some fresh e place = let none : rest ≡ [] = cc in absurd (no_number t.number rest some none place)
last_number t [] (x ∷ y ∷ used) rest some fresh e place = absurd (cc)
last_number t (u ∷ us) [] rest some fresh e place = absurd (not_first t u (us ++ t ∷ []) rest fresh.0 e place)
last_number t (u ∷ us) (x ∷ used) rest some fresh e place =
    let first : u ≡ x = cc in
    let more : us ++ t ∷ [] ≡ used ++ rest = cc in
    let l = last_number t us used rest some fresh.1 more place in
    record { all = ap (λ (y : Lexeme). y ∷ used) (sym first) ∙ ap (λ (m : List Lexeme). u ∷ m) l.all; alone = l.alone }

fresh_append : (t : Lexeme) (u v : List Lexeme) → Fresh t u → Fresh t v → Fresh t (u ++ v)
fresh_append t [] v a b = b
fresh_append t (x ∷ u) v a b = (a.0, fresh_append t u v a.1 b)

-- ---- an operator

on_or_off : (c : Class) (b : Bool) → among c_expr (place_of c) ≡ b → is_operator c ≡ true → among c_expr (place_of c) ≡ true
on_or_off c true e is = e
on_or_off c false e is = let off = no_operator c e in absurd (cc)

operator_opens : (t : Lexeme) → is_operator t.class ≡ true → opens t ≡ true
unfolding place_of
operator_opens t is = ap not (going_apart c_expr operand_ends (record { checked = refl }) (t ∷ []) (on_or_off t.class (among c_expr (place_of t.class)) refl is))

operator_loud : (t : Lexeme) (ts : List Lexeme) → is_operator t.class ≡ true → quiet (t ∷ ts) ≡ true → ⊥
operator_loud t ts is calm = let off : not true ≡ true = subst (λ (b : Bool). not b ≡ true) is calm in absurd (cc)

all_reached : {A : Type 0} (r : Read A) (x : A × List Lexeme) → Reaches ⊥ r x → r ≡ Ok x
all_reached r x (Reaches.read e) = e
all_reached r x (Reaches.opens deep at e) = absurd deep

-- ---- a place of its own

module _ {A : Type 0} (p : Pair) (P : List Lexeme → A → Type 0) (R : Reader A) (stable : Stable R) (awaiting : Awaits anywhere true R) (closing : Closes anywhere R) (sound : Sound P R) (whole : Whole ⊥ c_expr P R) (formed : Formed P) (Q : List Lexeme → A → Type 0) (full : Full Q R) (shaped : Formed Q) where
  -- a phrase doesn't end with a quantifier's variable
  not_last : (j : ℕ) (word variable : Lexeme) → among quantifiers (place_of word.class) ≡ true → same_class variable.class classes.Name ≡ true → depth j (word ∷ variable ∷ []) ≡ Some 0 → ⊥
  unfolding place_of
  not_last j word variable is named e =
      let opens : depth j (word ∷ variable ∷ []) ≡ depth (suc j) (variable ∷ []) = opened_depth j word (variable ∷ []) (within_one quantifiers openings (record { checked = refl }) word is) in
      let stays : depth (suc j) (variable ∷ []) ≡ Some (suc j) = same_depth (suc j) variable [] (within_one (classes.Name ∷ []) inner_tokens (record { checked = refl }) variable (same_going classes.Name variable [] named)) in
      let same : Some (suc j) ≡ Some 0 = sym (opens ∙ stays) ∙ e in
      absurd (cc)

  -- where the phrase is a quantifier's variable
  at_variable : (front u : List Lexeme) (word variable : Lexeme) → among quantifiers (place_of word.class) ≡ true → same_class variable.class classes.Name ≡ true → Fresh p.operator front → R (front ++ said p) ≡ Err (faults.Unexpected p.operator.number) → Split front p.phrase u (word ∷ variable ∷ [])
      → R (front ++ instead p) ≡ Err (faults.Unexpected p.word.number)
  at_variable front u word variable is named fresh e (Split.short [] parts g) = absurd (not_last 0 word variable is named (subst (λ (m : List Lexeme). depth 0 m ≡ Some 0) (sym g) p.flat))
  at_variable front u word variable is named fresh e (Split.short (x ∷ []) parts g) =
      let first : word ≡ x = cc in
      let here : front ≡ u ++ word ∷ [] = parts ∙ ap (λ (y : Lexeme). u ++ y ∷ []) (sym first) in
      let refused = word_refused p Q R stable full shaped u word is (subst (λ (m : List Lexeme). Fresh p.operator m) here fresh) (subst (λ (m : List Lexeme). R (m ++ said p) ≡ Err (faults.Unexpected p.operator.number)) here e) p.more in
      ap (λ (m : List Lexeme). R (m ++ instead p)) here ∙ refused
  at_variable front u word variable is named fresh e (Split.short (x ∷ y ∷ []) parts g) =
      let none : [] ≡ p.phrase = cc in
      absurd (no_phrase p.phrase none p.head p.tail p.parts)
    where
      no_phrase : (phrase : List Lexeme) → [] ≡ phrase → (t : Lexeme) (ts : List Lexeme) → phrase ≡ t ∷ ts → ⊥
      no_phrase phrase none t ts parts = cc
  at_variable front u word variable is named fresh e (Split.short (x ∷ y ∷ z ∷ c) parts g) = absurd (cc)
  at_variable front u word variable is named fresh e (Split.long t c parts g) =
      let b = depth_between 0 (t ∷ c) (word ∷ variable ∷ []) 0 (subst (λ (m : List Lexeme). depth 0 m ≡ Some 0) g p.flat) in
      absurd (not_last b.middle word variable is named b.after)

  waited : (front used : List Lexeme) → Fresh p.operator front → R (front ++ said p) ≡ Err (faults.Unexpected p.operator.number) → used ≡ front ++ p.phrase → Waits true used → R (front ++ instead p) ≡ Err (faults.Unexpected p.word.number)
  waited front used fresh e all (inl w) =
      let one : awaits true (front ++ p.phrase) ≡ true = subst (λ (u : List Lexeme). awaits true u ≡ true) all w in
      let two : awaits true (front ++ p.phrase) ≡ false = awaits-append true front p.phrase ∙ p.ends (awaits true front) in
      absurd (cc)
  waited front used fresh e all (inr v) = at_variable front v.front v.word v.variable v.is v.named fresh e (split front p.phrase v.front (v.word ∷ v.variable ∷ []) (sym all ∙ v.parts))

  -- it stops unexpectedly at the operator only where the phrase is a quantifier's variable, and then the word is refused
  refused : (front : List Lexeme) → Fresh p.operator front → R (front ++ said p) ≡ Err (faults.Unexpected p.operator.number) → R (front ++ instead p) ≡ Err (faults.Unexpected p.word.number)
  refused front fresh e =
      let q = awaiting.stops (front ++ said p) p.operator.number refl e in
      let parts : (front ++ p.phrase) ++ p.operator ∷ [] ≡ q.used ++ q.rest = append_assoc front p.phrase (p.operator ∷ []) ∙ q.front in
      let l = last_number p.operator (front ++ p.phrase) q.used q.rest p.some (fresh_append p.operator front p.phrase fresh p.fresh) parts q.place in
      let on : OnOperator q.rest = subst OnOperator (sym l.alone) p.is in
      waited front q.used fresh e l.all (q.operand on)

  shut : going c_expr (instead p) ≡ false
  unfolding place_of
  shut = going_apart (classes.True ∷ []) c_expr (record { checked = refl }) (instead p) (same_going classes.True p.word p.more p.says)

  -- what was read lies in the front
  in_front : (front used c : List Lexeme) (a : A) (rest : List Lexeme) → front ≡ used ++ c → rest ≡ c ++ said p → R (front ++ said p) ≡ Ok (a, rest) → P used a → ((more : List Lexeme) → SameHead rest more → R (used ++ more) ≡ Ok (a, more))
      → Compared p phrase_tokens front (R (front ++ said p)) (R (front ++ instead p))
  in_front front used [] a rest parts behind e derives again =
      let read : R (used ++ instead p) ≡ Ok (a, instead p) = all_reached (R (used ++ instead p)) (a, instead p) (whole.reads used a (instead p) derives shut) in
      let here : front ≡ used = parts ∙ append-nil used in
      Compared.both used [] a parts (e ∙ ap (λ (m : List Lexeme). Ok (a, m)) behind) (ap (λ (m : List Lexeme). R (m ++ instead p)) here ∙ read)
  in_front front used (t ∷ c) a rest parts behind e derives again =
      let head : SameHead rest (t ∷ (c ++ instead p)) = subst (λ (m : List Lexeme). SameHead m (t ∷ (c ++ instead p))) (sym behind) (c ++ instead p, refl) in
      let here : front ++ instead p ≡ used ++ t ∷ (c ++ instead p) = ap (λ (m : List Lexeme). m ++ instead p) parts ∙ append_assoc used (t ∷ c) (instead p) in
      Compared.both used (t ∷ c) a parts (e ∙ ap (λ (m : List Lexeme). Ok (a, m)) behind) (ap R here ∙ again (t ∷ (c ++ instead p)) head)

  -- what was read ends within the phrase
  in_phrase : (front used : List Lexeme) (x : Lexeme) (c d : List Lexeme) (a : A) (rest : List Lexeme) → used ≡ front ++ x ∷ c → p.phrase ≡ (x ∷ c) ++ d → rest ≡ d ++ p.operator ∷ [] → R (front ++ said p) ≡ Ok (a, rest) → P used a
      → Compared p phrase_tokens front (R (front ++ said p)) (R (front ++ instead p))
  in_phrase front used x c [] a rest parts within behind e derives =
      let calm : quiet rest ≡ true = closing.closes (front ++ said p) a rest refl e in
      absurd (operator_loud p.operator [] p.is (subst (λ (m : List Lexeme). quiet m ≡ true) behind calm))
  in_phrase front used x c (u ∷ d) a rest parts within behind e derives =
      let flat : depth 0 (front ++ x ∷ c) ≡ Some 0 = subst (λ (m : List Lexeme). depth 0 m ≡ Some 0) parts (formed.level 0 used a derives) in
      let on : among phrase_tokens (place_of u.class) ≡ true = goes_on_flat front (x ∷ c) u d flat (subst (λ (m : List Lexeme). depth 0 m ≡ Some 0) within p.flat) in
      let other : u.number ≡ p.operator.number → ⊥ = fresh_at p.operator (x ∷ c) u d (subst (λ (m : List Lexeme). Fresh p.operator m) within p.fresh) in
      Compared.behind a u (d ++ p.operator ∷ []) (e ∙ ap (λ (m : List Lexeme). Ok (a, m)) behind) on other

  -- it doesn't end with the operator
  no_operator_last : (front used : List Lexeme) (a : A) → used ≡ front ++ said p → P used a → ⊥
  no_operator_last front used a parts derives =
      let one : awaits true used ≡ false = formed.ends true used a derives in
      let last : awaits (awaits (awaits true front) p.phrase) (p.operator ∷ []) ≡ true = operator_opens p.operator p.is in
      let two : awaits true used ≡ true = ap (awaits true) parts ∙ awaits-append true front (said p) ∙ awaits-append (awaits true front) p.phrase (p.operator ∷ []) ∙ last in
      absurd (cc)

  one_left : (t s : Lexeme) (c x : List Lexeme) → t ∷ [] ≡ (s ∷ c) ++ x → (s ≡ t) × (c ≡ [])
  one_left t s [] x e = (cc, refl)
  one_left t s (y ∷ c) x e = absurd (cc)

  beyond : (front used : List Lexeme) (x : Lexeme) (c : List Lexeme) (a : A) (rest : List Lexeme) → used ≡ front ++ x ∷ c → Split p.phrase (p.operator ∷ []) (x ∷ c) rest → R (front ++ said p) ≡ Ok (a, rest) → P used a
      → Compared p phrase_tokens front (R (front ++ said p)) (R (front ++ instead p))
  beyond front used x c a rest parts (Split.short d e g) read derives = in_phrase front used x c d a rest parts e g read derives
  beyond front used x c a rest parts (Split.long s d e g) read derives =
      let l = one_left p.operator s d rest g in
      let whole_phrase : x ∷ c ≡ said p = e ∙ ap (λ (m : List Lexeme). p.phrase ++ m) (ap (λ (y : Lexeme). y ∷ d) l.0 ∙ ap (λ (m : List Lexeme). p.operator ∷ m) l.1) in
      absurd (no_operator_last front used a (parts ∙ ap (λ (m : List Lexeme). front ++ m) whole_phrase) derives)

  by_split : (front used : List Lexeme) (a : A) (rest : List Lexeme) → Split front (said p) used rest → R (front ++ said p) ≡ Ok (a, rest) → P used a → ((more : List Lexeme) → SameHead rest more → R (used ++ more) ≡ Ok (a, more))
      → Compared p phrase_tokens front (R (front ++ said p)) (R (front ++ instead p))
  by_split front used a rest (Split.short c e g) read derives again = in_front front used c a rest e g read derives again
  by_split front used a rest (Split.long x c e g) read derives again = beyond front used x c a rest e (split p.phrase (p.operator ∷ []) (x ∷ c) rest g) read derives

  by_number : (b : Bool) (k : ℕ) (front : List Lexeme) → Fresh p.operator front → nat_eq k p.operator.number ≡ b → R (front ++ said p) ≡ Err (faults.Unexpected k) → Compared p phrase_tokens front (R (front ++ said p)) (R (front ++ instead p))
  by_number true k front fresh is e = let same : k ≡ p.operator.number = grind (arith, nat_tests) in Compared.refuses (refused front fresh (e ∙ ap (λ (m : ℕ). Err (faults.Unexpected m)) same))
  by_number false k front fresh is e = Compared.elsewhere (faults.Unexpected k) e (number_apart k p.operator.number (λ same. absurd (grind (arith, nat_tests))))

  by_fault : (f : SyntaxFault) (front : List Lexeme) → Fresh p.operator front → R (front ++ said p) ≡ Err f → Compared p phrase_tokens front (R (front ++ said p)) (R (front ++ instead p))
  by_fault (faults.Unexpected k) front fresh e = by_number (nat_eq k p.operator.number) k front fresh refl e
  by_fault (faults.TooDeep k) front fresh e = Compared.elsewhere (faults.TooDeep k) e (λ same. cc)
  by_fault (faults.Parentheses k) front fresh e = Compared.elsewhere (faults.Parentheses k) e (λ same. cc)
  by_fault faults.Memory front fresh e = Compared.elsewhere faults.Memory e (λ same. cc)

  by_read : (r : Read A) (front : List Lexeme) → Fresh p.operator front → R (front ++ said p) ≡ r → Compared p phrase_tokens front (R (front ++ said p)) (R (front ++ instead p))
  by_read (Err f) front fresh e = by_fault f front fresh e
  by_read (Ok x) front fresh e =
      let k = stable.goes (front ++ said p) x.0 x.1 e in
      let g = sound.got (front ++ said p) x.0 x.1 e in
      let same : g.used ≡ k.used = append_cancel_right g.used k.used x.1 (sym g.front ∙ k.front) in
      by_split front k.used x.0 x.1 (split front (said p) k.used x.1 k.front) e (subst (λ (u : List Lexeme). P u x.0) same g.derives) k.again

  tells_place : Tells p phrase_tokens R
  tells_place = record { tells = λ front fresh. by_read (R (front ++ said p)) front fresh refl }

-- ---- expressions, bounds and arguments

no_more : (n : ℕ) → n < n → ⊥
no_more n less = absurd (omega arith)

module _ (p : Pair) (n : ℕ) where
  pub tells_whole : Tells p phrase_tokens (whole_of (inside n))
  tells_whole =
      tells_place p (ExprOf (Levels n)) (whole_of (inside n)) (stable_whole (inside n) (stable_inside n)) (awaits_whole (inside n) (awaits_inside n)) (closes_whole (inside n) (awaits_inside n)) (sound_whole (Levels n) (inside n) (sound_inside n))
      (whole_whole (Levels n) (inside n) (whole_inside n n (no_more n))) (formed_expr (Levels n) (formed_inside n)) (ExprOf (Levels (suc n))) (full_whole (suc n) (inside n) (full_inside (suc n) n (omega arith))) (formed_expr (Levels (suc n)) (formed_inside (suc n)))

  pub tells_bound : Tells p phrase_tokens (bound_of (inside n))
  tells_bound =
      tells_place p (Sum (Levels n) ▸ λ t. Gives t.0) (bound_of (inside n)) (stable_bound (inside n) (stable_inside n)) (awaits_bound (inside n) (awaits_inside n)) (closes_bound (inside n) (awaits_inside n)) (sound_bound (Levels n) (inside n) (sound_inside n))
      (whole_bound (Levels n) (inside n) (whole_inside n n (no_more n))) (formed_bound (Levels n) (formed_inside n)) (BoundOf (Levels (suc n))) (full_bound (suc n) (inside n) (full_inside (suc n) n (omega arith))) (formed_bound (Levels (suc n)) (formed_inside (suc n)))

  tells_argument : (all : List Expression) → Tells p phrase_tokens (argument_of (inside n) all)
  unfolding argument_of place_of
  tells_argument all = tells_after p classes.Comma (record { checked = refl }) (λ (t : Lexeme). tells_map p (λ (e : Expression). all ++ e ∷ []) (record { checked = refl }) tells_whole)

  no_comma : (t : Lexeme) (ts : List Lexeme) → among phrase_tokens (place_of t.class) ≡ true → starts classes.Comma (t ∷ ts) ≡ false
  unfolding starts place_of
  no_comma t ts on = off_class phrase_tokens classes.Comma (record { checked = refl }) t on

  begins_no_comma : (t : Lexeme) (ts : List Lexeme) → among b_expr (place_of t.class) ≡ true → starts classes.Comma (t ∷ ts) ≡ false
  unfolding starts place_of
  begins_no_comma t ts on = off_class b_expr classes.Comma (record { checked = refl }) t on

  blocks_loop : (e : Expression) → Blocks phrase_tokens phrase_tokens (λ ts. all_of (starts classes.Comma) (argument_of (inside n)) (e ∷ []) ts)
  unfolding place_of
  blocks_loop e = record { blocks = λ t ts on. (blocks_off {G = phrase_tokens} {F = phrase_tokens} (starts classes.Comma) (argument_of (inside n)) no_comma (record { checked = refl }) (suc (length (t ∷ ts))) (e ∷ [])).blocks t ts on }

  tells_some_arguments : {F : List Class} → Tells p F (some_arguments_of (inside n))
  unfolding some_arguments_of place_of
  tells_some_arguments =
      tells_open p phrase_tokens tells_whole
      (λ (e : Expression). blocks_then phrase_tokens (blocks_loop e) (λ (es : List Expression). blocks_after classes.Close (λ t rest. Ok (es, rest)) (record { checked = refl })))
      (λ (e : Expression). tells_until p phrase_tokens classes.Close (record { checked = refl }) (record { checked = refl })
      (tells_steps p phrase_tokens (starts classes.Comma) (starts_of_head classes.Comma) no_comma begins_no_comma (record { checked = refl }) (uses_argument (inside n) (stable_inside n)) tells_argument (e ∷ []))
      (λ (es : List Expression) (t : Lexeme). tells_gives p es))

  pub tells_arguments : {F : List Class} → Tells p F (arguments_of (inside n))
  unfolding arguments_of place_of
  tells_arguments = tells_if p classes.Close (record { checked = refl }) (tells_after p classes.Close (record { checked = refl }) (λ (t : Lexeme). tells_gives p [])) tells_some_arguments
