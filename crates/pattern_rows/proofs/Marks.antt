-- The next values at several letters, found by marks.
use Rattle.std.proofs.Common.{◌≡◌, ℕ, zero, suc, ◌+◌, ◌<◌, Bool, true, false, ◌&&◌, if◌then◌else◌, List, [], ◌∷◌, ◌++◌, length, map, drop, get_or, is_some, unwrap_or, Option, Some, None, Result, Ok, Err, refl, sym, ap, ◌∙◌, subst, arith}
use Rattle.std.specs.Prelude.{OnOk}
use Rattle.std.specs.List.{list_all, position_or_len}
use Rattle.std.proofs.lemmas.Bool.{and_parts, false≢true}
use Rattle.spec_model.specs.declared.expr.Expr.{Expr}
use Rattle.spec_model.specs.declared.spec.Pattern.{Pattern}
use Rattle.spec_model.specs.Values.{Assignment, truth_of}
use Rattle.spec_model.specs.Syntax.{Conjunction}
use Rattle.spec_model.specs.Views.{formula, pattern_data}
use Rattle.spec_model.specs.Meaning.{value_at}
use Rattle.spec_model.specs.Patterns.{two_positions}
use Rattle.game_values.specs.Safety.{formulas_in}
use Rattle.game_values.proofs.Lists.{map_drop}
use Rattle.pattern_rows.specs.Rows.{may_follow}
use Rattle.pattern_rows.specs.ToldRows.{is_told, only, scan}
use Rattle.pattern_rows.specs.Blocks.{letter_in, IsMarked}
use Rattle.pattern_rows.proofs.Several.{all_lines}
use Rattle.pattern_rows.proofs.Scans.{scan_is_only}

-- the lines together are whether a value may follow
pub word_tells : (p : Pattern) (letter own next other : Assignment) (es : List Expr) (b : Bool) → b ≡ truth_of (value_at (two_positions (letter ++ own) (letter ++ other)) (Conjunction (formulas_in es)) 0) → es ≡ p.step.items → other ≡ next →
    b ≡ may_follow (pattern_data p) letter own next
word_tells p letter own next other es b here lines same =
    here
    ∙ ((λ i. truth_of (value_at (two_positions (letter ++ own) (letter ++ same i)) (Conjunction (formulas_in (lines i))) 0))
    ∙ all_lines (two_positions (letter ++ own) (letter ++ next)) 0 (map formula p.step.items))

module _ {V : Type 0} (items : V → Assignment) (test : Assignment → Bool) (owns : List V) (k : ℕ) (own : V) (below : k < length owns) (is : own ≡ get_or owns k own) where
  abbrev rest : List Assignment
  rest = map items (drop (k + 1) owns)

  one_on : (b : Bool) (old new whole : Option ℕ) → test (items own) ≡ b → IsMarked b k old new → scan test old k (items own ∷ rest) ≡ whole → scan test new (suc k) rest ≡ whole
  one_on true None new whole tells marked so_far = subst (λ o. scan test o (suc k) rest ≡ whole) (sym marked.1) (sym (ap (λ b. if b then scan test (Some k) (suc k) rest else scan test None (suc k) rest) tells) ∙ so_far)
  one_on true (Some j) new whole tells marked so_far = absurd (false≢true (sym marked.0))
  one_on false None new whole tells marked so_far = subst (λ o. scan test o (suc k) rest ≡ whole) (sym marked) (sym (ap (λ b. if b then scan test (Some k) (suc k) rest else scan test None (suc k) rest) tells) ∙ so_far)
  one_on false (Some j) new whole tells marked so_far = subst (λ o. scan test o (suc k) rest ≡ whole) (sym marked) (sym (ap (λ b. if b then None else scan test (Some j) (suc k) rest) tells) ∙ so_far)

  pub marked_on : (b : Bool) (old new whole : Option ℕ) → b ≡ test (items own) → IsMarked b k old new → scan test old k (map items (drop k owns)) ≡ whole → scan test new (k + 1) rest ≡ whole
  marked_on b old new whole tells marked so_far =
      let up : suc k ≡ k + 1 = omega arith in
      subst (λ n. scan test new n rest ≡ whole) up (one_on b old new whole (sym tells) marked (ap (scan test old k) (sym (map_drop items owns k own below is)) ∙ so_far))

-- ---- all letters

module _ (test : Assignment → Assignment → Bool) (owns : List Assignment) where
  some_if : (b : Bool) (n : ℕ) → is_some (if b then Some n else None) ≡ b
  some_if true n = refl
  some_if false n = refl

  place_if : (b : Bool) (n : ℕ) → is_some (if b then Some n else None) ≡ true → unwrap_or (if b then Some n else None) 0 ≡ n
  place_if true n some = refl
  place_if false n some = absurd (false≢true some)

  abbrev AreFound : List Assignment → List (Option ℕ) → Type 0
  AreFound letters found = (l : ℕ) → l < length letters → get_or found l None ≡ scan (test (letter_in letters l)) None 0 owns

  pub each_told : (letters : List Assignment) (found : List (Option ℕ)) → length found ≡ length letters → AreFound letters found → list_all is_some found ≡ list_all (λ letter. is_told (test letter) owns) letters
  each_told [] [] same are = refl
  each_told [] (f ∷ found) same are = absurd (omega arith)
  each_told (x ∷ letters) [] same are = absurd (omega arith)
  each_told (x ∷ letters) (f ∷ found) same are =
      let here : is_some f ≡ is_told (test x) owns = ap is_some (are 0 (omega arith) ∙ scan_is_only (test x) owns) ∙ some_if (is_told (test x) owns) (position_or_len (test x) owns) in
      let more = each_told letters found (omega arith) (λ l below. are (suc l) (omega arith)) in
      λ i. here i && more i

  pub each_place : (letters : List Assignment) (found : List (Option ℕ)) → length found ≡ length letters → AreFound letters found → list_all is_some found ≡ true →
      map (λ f. unwrap_or f 0) found ≡ map (λ letter. position_or_len (test letter) owns) letters
  each_place [] [] same are all = refl
  each_place [] (f ∷ found) same are all = absurd (omega arith)
  each_place (x ∷ letters) [] same are all = absurd (omega arith)
  each_place (x ∷ letters) (f ∷ found) same are all =
      let parts = and_parts (is_some f) (list_all is_some found) all in
      let is : f ≡ only (test x) owns = are 0 (omega arith) ∙ scan_is_only (test x) owns in
      let here : unwrap_or f 0 ≡ position_or_len (test x) owns = ap (λ o. unwrap_or o 0) is ∙ place_if (is_told (test x) owns) (position_or_len (test x) owns) (sym (ap is_some is) ∙ parts.0) in
      let more = each_place letters found (omega arith) (λ l below. are (suc l) (omega arith)) parts.1 in
      λ i. here i ∷ more i

  and_false : (b : Bool) → (b && false) ≡ false
  and_false true = refl
  and_false false = refl

  pub one_open : (letters : List Assignment) (l : ℕ) → l < length letters → is_told (test (letter_in letters l)) owns ≡ false → list_all (λ letter. is_told (test letter) owns) letters ≡ false
  one_open [] l below open_here = absurd (omega arith)
  one_open (x ∷ letters) zero below open_here = ap (λ b. b && list_all (λ letter. is_told (test letter) owns) letters) open_here
  one_open (x ∷ letters) (suc l) below open_here = ap (λ b. is_told (test x) owns && b) (one_open letters l (omega arith) open_here) ∙ and_false (is_told (test x) owns)

pub on_ok : {T E : Type 0} {A B C : Type 0} (r : Result T E) → OnOk r A → OnOk r B → (A → B → C) → OnOk r C
on_ok (Ok x) a b f = f a b
on_ok (Err e) a b f = tt
