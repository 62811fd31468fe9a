-- Which assignment a line reads as.
use Rattle.std.specs.Prelude.{◌≡◌, ℕ, Bool, true, not, ◌||◌, ◌==◌, if◌then◌else◌, List, [], ◌∷◌, length, Option, Some, None, is_some, filter, filter_map}
use Rattle.std.specs.List.{list_any, list_all, slice_split}
use Rattle.spec_model.specs.declared.value.Value.{Value}
use Rattle.spec_model.specs.Values.{Assignment, DomainData, values_of, same_value}
use Rattle.spec_model.specs.Syntax.{VariableData}
use Rattle.session_lines.specs.Shown.{text_of}

-- space or tab
abbrev pub is_blank : ℕ → Bool
is_blank c = c == 32 || c == 9

-- what stands between the blanks of a line
abbrev pub words : List ℕ → List (List ℕ)
words line = filter (λ w. not (length w == 0)) (slice_split is_blank line)

-- what follows an equals sign
abbrev pub after_sign : List ℕ → Option (List ℕ)
after_sign [] = None
after_sign (c ∷ cs) = if c == 61 then Some cs else None

-- what follows the name and `=`, where the word begins with them
abbrev pub after_name : (name word : List ℕ) → Option (List ℕ)
after_name [] word = after_sign word
after_name (n ∷ ns) [] = None
after_name (n ∷ ns) (c ∷ cs) = if c == n then after_name ns cs else None

-- the texts that the words of a line give a variable
abbrev pub texts_given : VariableData → (words : List (List ℕ)) → List (List ℕ)
texts_given v ws = filter_map (after_name v.name) ws

-- the word is an item of one of the variables
abbrev pub names_one : List VariableData → List ℕ → Bool
names_one vs w = list_any (λ v. is_some (after_name v.name w)) vs

-- the value is one of the domain's, and is written so
pub record IsWritten (names : List (List ℕ)) (d : DomainData) (text : List ℕ) (x : Value) : Type 0 where
  pub text_is : text ≡ text_of names x
  pub within : list_any (same_value x) (values_of d) ≡ true

-- the words give the variable one text, which is that of the value
pub record IsGiven (names : List (List ℕ)) (ws : List (List ℕ)) (v : VariableData) (x : Value) : Type 0 where
  pub text : List ℕ
  pub once : texts_given v ws ≡ text ∷ []
  pub written : IsWritten names v.domain text x

-- a value is given for each variable
abbrev pub AreGiven : (names : List (List ℕ)) → (words : List (List ℕ)) → List VariableData → Assignment → Type 0
AreGiven names ws [] [] = Unit {0}
AreGiven names ws (v ∷ vs) (x ∷ xs) = IsGiven names ws v x × AreGiven names ws vs xs
AreGiven names ws _ _ = ⊥

-- The line reads as the assignment: its words are items of these variables alone, and each has exactly one.
pub record Reads (names : List (List ℕ)) (vs : List VariableData) (line : List ℕ) (xs : Assignment) : Type 0 where
  pub known : list_all (names_one vs) (words line) ≡ true
  pub given : AreGiven names (words line) vs xs
