-- A scan finds the one that passes a test, if it is one alone.
use Rattle.std.proofs.Common.{◌≡◌, ℕ, suc, ◌+◌, ◌≤◌, Bool, true, false, not, ◌==◌, if◌then◌else◌, cond, List, [], ◌∷◌, length, map, drop, count_by, get_or, is_some, Option, Some, None, ◌<◌, refl, sym, ap, ◌∙◌, subst, arith}
use Rattle.std.specs.Prelude.{MatchOption}
use Rattle.std.specs.List.{position_or_len}
use Rattle.std.proofs.Math.Dec.{eqb-suc-zero, eqb-suc-suc}
use Rattle.std.proofs.lemmas.Bool.{false≢true}
use Rattle.std.proofs.lemmas.List.{drop_all}
use Rattle.spec_model.specs.Values.{Assignment}
use Rattle.game_values.proofs.Lists.{map_drop}
use Rattle.game_values.proofs.Typed.{count-cons}
use Rattle.pattern_rows.specs.ToldRows.{is_told, only, scan}

suc_is_none : (n : ℕ) → (suc n == 0) ≡ false
suc_is_none n = eqb-suc-zero n

suc_is_one : (n : ℕ) → (suc n == 1) ≡ (n == 0)
suc_is_one n = eqb-suc-suc n 0

module _ (test : Assignment → Bool) where
  counted_yes : (x : Assignment) (xs : List Assignment) → test x ≡ true → count_by test (x ∷ xs) ≡ suc (count_by test xs)
  counted_yes x xs is = count-cons test x xs ∙ ap (λ b. if b then suc (count_by test xs) else count_by test xs) is

  counted_no : (x : Assignment) (xs : List Assignment) → test x ≡ false → count_by test (x ∷ xs) ≡ count_by test xs
  counted_no x xs is = count-cons test x xs ∙ ap (λ b. if b then suc (count_by test xs) else count_by test xs) is

  place_yes : (x : Assignment) (xs : List Assignment) → test x ≡ true → position_or_len test (x ∷ xs) ≡ 0
  place_yes x xs is = ap (λ b. cond (not b) (1 + position_or_len test xs) 0) is

  place_no : (x : Assignment) (xs : List Assignment) → test x ≡ false → position_or_len test (x ∷ xs) ≡ 1 + position_or_len test xs
  place_no x xs is = ap (λ b. cond (not b) (1 + position_or_len test xs) 0) is

  scan-some : (xs : List Assignment) (j k : ℕ) → scan test (Some j) k xs ≡ (if count_by test xs == 0 then Some j else None)
  scan-some [] j k = refl
  scan-some (x ∷ xs) j k = at (test x) refl (scan-some xs j (suc k))
    where
      at : (b : Bool) → test x ≡ b → scan test (Some j) (suc k) xs ≡ (if count_by test xs == 0 then Some j else None) → (if b then None else scan test (Some j) (suc k) xs) ≡ (if count_by test (x ∷ xs) == 0 then Some j else None)
      at true is rest = sym (ap (λ n. if n == 0 then Some j else None) (counted_yes x xs is) ∙ ap (λ b. if b then Some j else None) (suc_is_none (count_by test xs)))
      at false is rest = rest ∙ sym (ap (λ n. if n == 0 then Some j else None) (counted_no x xs is))

  scan-none : (xs : List Assignment) (k : ℕ) → scan test None k xs ≡ (if count_by test xs == 1 then Some (k + position_or_len test xs) else None)
  scan-none [] k = refl
  scan-none (x ∷ xs) k = at (test x) refl (scan-some xs k (suc k)) (scan-none xs (suc k))
    where
      at : (b : Bool) → test x ≡ b → scan test (Some k) (suc k) xs ≡ (if count_by test xs == 0 then Some k else None) →
          scan test None (suc k) xs ≡ (if count_by test xs == 1 then Some (suc k + position_or_len test xs) else None) →
          (if b then scan test (Some k) (suc k) xs else scan test None (suc k) xs) ≡ (if count_by test (x ∷ xs) == 1 then Some (k + position_or_len test (x ∷ xs)) else None)
      at true is found rest =
          let place = place_yes x xs is in
          let here : k + position_or_len test (x ∷ xs) ≡ k = omega (arith, place) in
          found
          ∙ sym (ap (λ n. if n == 1 then Some (k + position_or_len test (x ∷ xs)) else None) (counted_yes x xs is)
          ∙ (ap (λ b. if b then Some (k + position_or_len test (x ∷ xs)) else None) (suc_is_one (count_by test xs))
          ∙ ap (λ n. if count_by test xs == 0 then Some n else None) here))
      at false is found rest =
          let place = place_no x xs is in
          let here : k + position_or_len test (x ∷ xs) ≡ suc k + position_or_len test xs = omega (arith, place) in
          rest
          ∙ sym (ap (λ n. if n == 1 then Some (k + position_or_len test (x ∷ xs)) else None) (counted_no x xs is)
          ∙ ap (λ n. if count_by test xs == 1 then Some n else None) here)

  pub scan_is_only : (xs : List Assignment) → scan test None 0 xs ≡ only test xs
  scan_is_only xs = scan-none xs 0 ∙ ap (λ n. if count_by test xs == 1 then Some n else None) (omega arith)

  only_at : (b : Bool) (n : ℕ) (xs : List Assignment) → (count_by test xs == 1) ≡ b → n ≡ position_or_len test xs →
      MatchOption (if b then Some n else None) (is_told test xs ≡ false) (λ k. (is_told test xs ≡ true) × (k ≡ position_or_len test xs))
  only_at true n xs is place = (is, place)
  only_at false n xs is place = is

  -- what a scan found
  pub found_is : (found : Option ℕ) (xs : List Assignment) → found ≡ scan test None 0 xs → MatchOption found (is_told test xs ≡ false) (λ k. (is_told test xs ≡ true) × (k ≡ position_or_len test xs))
  found_is found xs is = subst (λ o. MatchOption o (is_told test xs ≡ false) (λ k. (is_told test xs ≡ true) × (k ≡ position_or_len test xs))) (sym (is ∙ scan_is_only xs)) (only_at (count_by test xs == 1) (position_or_len test xs) xs refl refl)

pub ruleset scan_parts = (found_is, scan_is_only)

-- ---- the scan of the program, over assignments as it has them

module _ {V : Type 0} (items : V → Assignment) (test : Assignment → Bool) where
  -- a second one passes
  pub stopped : (owns : List V) (k : ℕ) (own : V) (found : Option ℕ) → is_some found ≡ true → k < length owns → own ≡ get_or owns k own → test (items own) ≡ true →
      scan test found k (map items (drop k owns)) ≡ scan test None 0 (map items owns) → is_told test (map items owns) ≡ false
  stopped owns k own None some below is passes so_far = absurd (false≢true some)
  stopped owns k own (Some j) some below is passes so_far =
      found_is test None (map items owns)
      (sym (ap (λ b. if b then None else scan test (Some j) (suc k) (map items (drop (k + 1) owns))) passes)
      ∙ (ap (λ xs. scan test (Some j) k xs) (sym (map_drop items owns k own below is)) ∙ so_far))

  -- all were seen
  pub ended : (owns : List V) (k : ℕ) (found : Option ℕ) → length owns ≤ k → scan test found k (map items (drop k owns)) ≡ scan test None 0 (map items owns) →
      MatchOption found (is_told test (map items owns) ≡ false) (λ place. (is_told test (map items owns) ≡ true) × (place ≡ position_or_len test (map items owns)))
  ended owns k found past so_far = found_is test found (map items owns) (scan-nil found k ∙ (ap (λ xs. scan test found k (map items xs)) (sym (drop_all k owns past)) ∙ so_far))
    where
      scan-nil : (found : Option ℕ) (k : ℕ) → found ≡ scan test found k []
      scan-nil found k = refl
