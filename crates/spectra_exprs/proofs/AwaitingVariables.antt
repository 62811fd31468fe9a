-- What is read behind a quantifier's word: its variable is no operand, though it is a name.
use Rattle.std.proofs.Common.{◌≡◌, ℕ, Bool, true, false, List, [], ◌∷◌, ◌++◌, Ok, Err, ◌⊎◌, inl, inr, refl, sym, ap, subst, ◌∙◌, append_assoc}
use Rattle.spectra_exprs.specs.declared.fault.SyntaxFault.{SyntaxFault}
use Rattle.spectra_exprs.specs.declared.fault.SyntaxFault.TheVariants as faults
use Rattle.spectra_trees.specs.declared.class.Class.{Class}
use Rattle.spectra_trees.specs.declared.class.Class.TheVariants as classes
use Rattle.spectra_trees.specs.Classes.{place_of, same_class}
use Rattle.spectra_trees.specs.Lexemes.{Lexeme}
use Rattle.spectra_exprs.specs.Read.{Read, Reader, ◌>>=◌, first_number, starts, expect}
use Rattle.spectra_exprs.proofs.Soundness.{sound_token, ok_value}
use Rattle.spectra_exprs.proofs.Stopping.{err_is, ok_no_err, err_no_ok}
use Rattle.spectra_exprs.proofs.Opening.{IsNext}
use Rattle.spectra_exprs.proofs.ClassSets.{among, Apart, Within, same_going}
use Rattle.spectra_exprs.proofs.Awaiting.{operand_ends, quantifiers, opens, Waits, waits_behind, waits_token, OnOperator, anywhere, Cut, Awaits, takes_token, unstarted, first_place, awaits_taken, awaits_token, expect_first}
use Rattle.spectra_exprs.proofs.Shapes.{within_one}

-- one name
pub record IsVariable (used : List Lexeme) : Type 0 where
  pub variable : Lexeme
  pub alone : used ≡ variable ∷ []
  pub named : same_class variable.class classes.Name ≡ true

-- where reading behind a quantifier's word stopped: at an operator, an operand is awaited, or the variable alone was used
pub record WaitsAt (ts : List Lexeme) (at : ℕ) : Type 0 where
  pub used : List Lexeme
  pub rest : List Lexeme
  pub front : ts ≡ used ++ rest
  pub place : IsNext at rest
  pub operand : OnOperator rest → Waits true used ⊎ IsVariable used

pub record AwaitsScope {A : Type 0} (R : List Lexeme → Read A) : Type 0 where
  pub goes : (ts : List Lexeme) (a : A) (rest : List Lexeme) → R ts ≡ Ok (a, rest) → Cut ts rest
  pub stops : (ts : List Lexeme) (at : ℕ) → R ts ≡ Err (faults.Unexpected at) → WaitsAt ts at

pub scope_deep : {A : Type 0} (k : ℕ) → AwaitsScope {A = A} (λ ts. Err (faults.TooDeep k))
scope_deep {A = A} k = record {
  goes = λ ts a rest e. absurd (err_no_ok (faults.TooDeep k) (a, rest) e);
  stops = λ ts at e. absurd (other at (err_is {A = A} (faults.TooDeep k) (faults.Unexpected at) e));
}
  where
    other : (at : ℕ) → ◌≡◌ {A = SyntaxFault} (faults.TooDeep k) (faults.Unexpected at) → ⊥
    other at e = cc

-- what a scope gives
pub scope_map : {A B : Type 0} {R : Reader A} (f : A → B) → AwaitsScope R → AwaitsScope (λ ts. R ts >>= λ a rest. Ok (f a, rest))
scope_map {A = A} {B = B} {R = R} f s = record { goes = λ ts b rest e. goes (R ts) ts b rest refl e; stops = λ ts at e. stops (R ts) ts at refl e }
  where
    goes : (r : Read A) (ts : List Lexeme) (b : B) (rest : List Lexeme) → R ts ≡ r → (r >>= λ a rest. Ok (f a, rest)) ≡ Ok (b, rest) → Cut ts rest
    goes (Ok x) ts b rest read e = rw (ok_value (f x.0) b x.1 rest e).1 (s.goes ts x.0 x.1 read)
    goes (Err g) ts b rest read e = absurd (err_no_ok g (b, rest) e)

    stops : (r : Read A) (ts : List Lexeme) (at : ℕ) → R ts ≡ r → (r >>= λ a rest. Ok (f a, rest)) ≡ Err (faults.Unexpected at) → WaitsAt ts at
    stops (Ok x) ts at read e = absurd (ok_no_err (f x.0, x.1) (faults.Unexpected at) e)
    stops (Err g) ts at read e = s.stops ts at (read ∙ ap (λ (h : SyntaxFault). Err h) (err_is {A = B} g (faults.Unexpected at) e))

-- a variable, and a token behind it
module _ {B : Type 0} (class : Class) (apart : Apart (class ∷ []) operand_ends) {S : Lexeme → Lexeme → Reader B} (second : (n t : Lexeme) → Awaits anywhere true (S n t)) where
  behind_variable : (n : Lexeme) → Awaits (starts class) false (λ ts. expect class ts >>= S n)
  behind_variable n = awaits_taken (takes_token class apart) (second n)

  by_token : (b : Bool) (n : Lexeme) → same_class n.class classes.Name ≡ true → (ts : List Lexeme) (at : ℕ) → starts class ts ≡ b → (expect class ts >>= S n) ≡ Err (faults.Unexpected at) → WaitsAt (n ∷ ts) at
  by_token true n is ts at on e =
      let q = (behind_variable n).stops ts at on e in
      record { used = n ∷ q.used; rest = q.rest; front = ap (λ (m : List Lexeme). n ∷ m) q.front; place = q.place; operand = λ o. inl (waits_behind true (n ∷ []) q.used (q.operand o)) }
  by_token false n is ts at on e = record { used = n ∷ []; rest = ts; front = refl; place = first_place {A = B} ts at (sym (unstarted class (S n) ts on) ∙ e); operand = λ o. inr (record { variable = n; alone = refl; named = is }) }

  scope_goes : (r : Read Lexeme) (ts : List Lexeme) (b : B) (rest : List Lexeme) → expect classes.Name ts ≡ r → (r >>= λ n more. expect class more >>= S n) ≡ Ok (b, rest) → Cut ts rest
  scope_goes (Ok x) ts b rest read e =
      let p = (awaits_token {test = anywhere} classes.Name).goes ts x.0 x.1 read in
      let q = (behind_variable x.0).goes x.1 b rest e in
      record { used = p.used ++ q.used; front = p.front ∙ ap (λ (m : List Lexeme). p.used ++ m) q.front ∙ sym (append_assoc p.used q.used rest) }
  scope_goes (Err f) ts b rest read e = absurd (err_no_ok f (b, rest) e)

  scope_stops : (r : Read Lexeme) (ts : List Lexeme) (at : ℕ) → expect classes.Name ts ≡ r → (r >>= λ n more. expect class more >>= S n) ≡ Err (faults.Unexpected at) → WaitsAt ts at
  scope_stops (Ok x) ts at read e =
      let g = (sound_token classes.Name).got ts x.0 x.1 read in
      let front : ts ≡ x.0 ∷ x.1 = g.front ∙ ap (λ (u : List Lexeme). u ++ x.1) g.derives.alone in
      subst (λ (us : List Lexeme). WaitsAt us at) (sym front) (by_token (starts class x.1) x.0 g.derives.is x.1 at refl e)
  scope_stops (Err f) ts at read e =
      let first = expect_first classes.Name ts f read in
      let here : ◌≡◌ {A = Read B} (Err (faults.Unexpected (first_number ts))) (Err (faults.Unexpected at)) = ap (λ (h : SyntaxFault). Err h) (sym first) ∙ e in
      record { used = []; rest = ts; front = refl; place = first_place {A = B} ts at here; operand = λ o. inl (inl refl) }

  pub scope_variable : AwaitsScope (λ ts. expect classes.Name ts >>= λ n rest. expect class rest >>= S n)
  scope_variable = record { goes = λ ts b rest e. scope_goes (expect classes.Name ts) ts b rest refl e; stops = λ ts at e. scope_stops (expect classes.Name ts) ts at refl e }

-- a quantifier's word, and its scope
module _ {B : Type 0} (word : Class) (apart : Apart (word ∷ []) operand_ends) (within : Within (word ∷ []) quantifiers) {S : Lexeme → Reader B} (second : (t : Lexeme) → AwaitsScope (S t)) where
  word_goes : (r : Read Lexeme) (ts : List Lexeme) (b : B) (rest : List Lexeme) → expect word ts ≡ r → (r >>= S) ≡ Ok (b, rest) → Cut ts rest
  word_goes (Ok x) ts b rest read e =
      let p = (awaits_token {test = anywhere} word).goes ts x.0 x.1 read in
      let q = (second x.0).goes x.1 b rest e in
      record { used = p.used ++ q.used; front = p.front ∙ ap (λ (m : List Lexeme). p.used ++ m) q.front ∙ sym (append_assoc p.used q.used rest) }
  word_goes (Err f) ts b rest read e = absurd (err_no_ok f (b, rest) e)

  -- the variable alone, behind the word
  waits_word : (b : Bool) (t : Lexeme) (used : List Lexeme) → opens t ≡ true → same_class t.class word ≡ true → Waits true used ⊎ IsVariable used → Waits b (t ∷ used)
  waits_word b t used waits is (inl w) = waits_token b t used waits w
  waits_word b t used waits is (inr v) = inr (record { front = []; word = t; variable = v.variable; parts = ap (λ (m : List Lexeme). t ∷ m) v.alone; is = within_one (word ∷ []) quantifiers within t (same_going word t [] is); named = v.named })

  pub awaits_quantifier : {b : Bool} → Awaits (starts word) b (λ ts. expect word ts >>= S)
  awaits_quantifier {b = b} = record {
    goes = λ ts y rest e. word_goes (expect word ts) ts y rest refl e;
    stops = λ ts at on e.
        let k = (takes_token word apart).takes ts on in
        let g = (sound_token word).got ts k.token k.rest k.read in
        let read : (expect word ts >>= S) ≡ S k.token k.rest = ap (λ (r : Read Lexeme). r >>= S) k.read in
        let q = (second k.token).stops k.rest at (sym read ∙ e) in
        record { used = k.token ∷ q.used; rest = q.rest; front = k.front ∙ ap (λ (m : List Lexeme). k.token ∷ m) q.front; place = q.place; operand = λ o. waits_word b k.token q.used k.waits g.derives.is (q.operand o) };
  }
