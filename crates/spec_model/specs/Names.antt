-- Which texts are names, and which are names of elements: how they are spelled, and which words are reserved.
use Rattle.std.specs.Prelude.{ℕ, ◌≡◌, ◌<◌, ◌&&◌, ◌⊎◌, Bool, true, false, List, [], ◌∷◌, ◌++◌}
use Rattle.std.specs.Fmt.{decimal}
use Rattle.std.specs.List.{list_all}
use Rattle.std.specs.Str.{encode_utf8_all, all_scalars}
use Rattle.unicode_ident.specs.Ident.{is_xid_continue}
pub use Rattle.spec_model.specs.Words.{begins_name, reserved_words}
unfoldable pub use Rattle.spec_model.specs.Words.{is_reserved}

-- characters that are spelled as a name: the first begins one, and the others go on
abbrev pub is_spelled : List ℕ → Bool
is_spelled [] = false
is_spelled (c ∷ cs) = begins_name c && list_all is_xid_continue cs

-- the UTF-8 of characters that are spelled as a name and are no reserved word
pub record IsName (text : List ℕ) : Type 0 where
  pub characters : List ℕ
  pub scalars : all_scalars characters ≡ true
  pub bytes : text ≡ encode_utf8_all characters
  pub spelled : is_spelled characters ≡ true
  pub unreserved : is_reserved characters ≡ false

-- how the number of an element is written: its decimal digits, without leading zeros
abbrev pub index_text : ℕ → List ℕ
index_text n = decimal n

-- an array's name, and the number of one of its elements in brackets
pub record IsElementName (text : List ℕ) : Type 0 where
  pub array : List ℕ
  pub number : ℕ
  pub named : IsName array
  pub below : number < 256
  pub bytes : text ≡ array ++ (91 ∷ (index_text number ++ 93 ∷ []))

-- what a variable of a specification may be called
abbrev pub IsVariableName : List ℕ → Type 0
IsVariableName text = IsName text ⊎ IsElementName text
