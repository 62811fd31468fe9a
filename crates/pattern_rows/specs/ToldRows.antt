-- Where one assignment passes alone, and the values that follow then.
use Rattle.std.specs.Prelude.{ℕ, suc, Bool, ◌==◌, if◌then◌else◌, List, [], ◌∷◌, map, count_by, Option, Some, None}
use Rattle.std.specs.List.{position_or_len, list_all}
use Rattle.spec_model.specs.Values.{Assignment}
use Rattle.spec_model.specs.Syntax.{PatternData}
use Rattle.pattern_rows.specs.Rows.{may_follow}

-- ---- which one passes a test

-- one passes alone
abbrev pub is_told : (Assignment → Bool) → List Assignment → Bool
is_told test xs = count_by test xs == 1

-- the place of the one that passes, if it is one alone
abbrev pub only : (Assignment → Bool) → List Assignment → Option ℕ
only test xs = if is_told test xs then Some (position_or_len test xs) else None

-- the same, one after another from a place on, with the one that was found so far
abbrev pub scan : (Assignment → Bool) → (found : Option ℕ) → (k : ℕ) → List Assignment → Option ℕ
scan test found k [] = found
scan test None k (x ∷ xs) = if test x then scan test (Some k) (suc k) xs else scan test None (suc k) xs
scan test (Some j) k (x ∷ xs) = if test x then None else scan test (Some j) (suc k) xs

-- ---- whether each next assignment is told

abbrev pub are_told_after : PatternData → (owns letters : List Assignment) → (own : Assignment) → Bool
are_told_after p owns ls own = list_all (λ letter. is_told (may_follow p letter own) owns) ls

abbrev pub next_after : PatternData → (owns letters : List Assignment) → (own : Assignment) → List ℕ
next_after p owns ls own = map (λ letter. position_or_len (may_follow p letter own) owns) ls
