-- Which expressions match nothing at all.
use Rattle.std.proofs.Common.{◌≡◌, ℕ, suc, ◌+◌, ◌<◌, ◌==◌, Bool, true, false, ◌&&◌, ◌||◌, List, [], ◌∷◌, Option, ◌≤◌, length, map, drop, get_or, refl, sym, ◌∙◌, ap, arith}
use Rattle.std.proofs.Math.Seq.{drop-cons}
use Rattle.std.proofs.lemmas.List.{drop_all}
use Rattle.std.proofs.lemmas.Bool.{eq-eqb, ne_eqb}
use Rattle.spec_model.specs.declared.expr.Regex.{Regex}
use Rattle.spec_model.specs.Syntax.{Regular, regulars}
use Rattle.spec_model.specs.Views.{regular}
use Rattle.spec_model.specs.TriggerStates.{Written, repeated, written, written_in_turn, written_besides, is_skipped}
use Rattle.trigger_dfa.proofs.LaidParts.{skipped_repeated}
use Rattle.trigger_dfa.proofs.Parts.{or_false}
use Rattle.trigger_dfa.proofs.Wrapped.{or_true}

-- ---- repeats

pub skipped_by_none : (a : Written) (low : ℕ) (high : Option ℕ) → low ≡ 0 → is_skipped (repeated a low high) ≡ true
skipped_by_none a low high none = skipped_repeated a low high ∙ ap (λ (b : Bool). is_skipped a || b) (eq-eqb low 0 none) ∙ sym (or_true (is_skipped a))

pub skipped_by_piece : (a : Written) (low : ℕ) (high : Option ℕ) → (low ≡ 0 → ⊥) → is_skipped (repeated a low high) ≡ is_skipped a
skipped_by_piece a low high some = skipped_repeated a low high ∙ ap (λ (b : Bool). is_skipped a || b) (ne_eqb low 0 some) ∙ sym (or_false (is_skipped a))

-- ---- lists

-- whether one of the expressions matches nothing at all
abbrev pub one_skipped : List Regular → Bool
one_skipped [] = false
one_skipped (r ∷ rs) = is_skipped (written r) || one_skipped rs

besides_skipped : (r : Regular) (rs : List Regular) → is_skipped (written_besides (regulars (r ∷ rs))) ≡ one_skipped (r ∷ rs)
besides_skipped r [] = or_false (is_skipped (written r))
besides_skipped r (q ∷ rs) = ap (λ (b : Bool). is_skipped (written r) || b) (besides_skipped q rs)

pub skipped_besides : (rs : List Regular) → (length rs ≡ 0 → ⊥) → is_skipped (written_besides (regulars rs)) ≡ one_skipped rs
skipped_besides [] some = absurd (some refl)
skipped_besides (r ∷ rs) some = besides_skipped r rs

abbrev pub turn_from : List Regex → ℕ → Bool
turn_from rs i = is_skipped (written_in_turn (regulars (map regular (drop i rs))))

abbrev pub one_from : List Regex → ℕ → Bool
one_from rs i = one_skipped (map regular (drop i rs))

module _ (rs : List Regex) (i : ℕ) (r : Regex) (below : i < length rs) (here : r ≡ get_or rs i r) where
  from_here : drop i rs ≡ r ∷ drop (i + 1) rs
  from_here =
      drop-cons rs i r below ∙ ap (λ (x : Regex). x ∷ drop (suc i) rs) (sym here)
      ∙ ap (λ (n : ℕ). r ∷ drop n rs) (let e : suc i ≡ i + 1 = omega arith in e)

  pub turn_more : turn_from rs i ≡ (is_skipped (written (regular r)) && turn_from rs (i + 1))
  turn_more = ap (λ (xs : List Regex). is_skipped (written_in_turn (regulars (map regular xs)))) from_here

  pub one_more : one_from rs i ≡ (is_skipped (written (regular r)) || one_from rs (i + 1))
  one_more = ap (λ (xs : List Regex). one_skipped (map regular xs)) from_here

-- behind the last alternative
pub none_left : (rs : List Regex) (i : ℕ) (empty : Bool) → length rs ≤ i → one_from rs i ≡ one_from rs 0 → empty ≡ (length rs == 0) → empty ≡ is_skipped (written_besides (regulars (map regular rs)))
none_left [] i empty past same is = is
none_left (r ∷ rs) i empty past same is =
    is ∙ ne_eqb (length (r ∷ rs)) 0 (λ e. omega arith)
    ∙ sym (skipped_besides (map regular (r ∷ rs)) (λ e. omega arith) ∙ sym same ∙ ap (λ (xs : List Regex). one_skipped (map regular xs)) (drop_all i (r ∷ rs) past))
