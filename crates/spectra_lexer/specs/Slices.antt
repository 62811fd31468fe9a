-- What each token of a text is a slice of.
use Rattle.std.specs.Prelude.{ℕ, ◌≡◌, ◌-◌, ◌≤◌, true, false, List, [], ◌∷◌, ◌++◌, length, take, drop}
use Rattle.std.specs.List.{list_all}
use Rattle.std.specs.Str.{encode_utf8_all, all_scalars}
use Rattle.spectra_lexer.specs.declared.characters.Run.TheVariants as runs
use Rattle.spectra_lexer.specs.declared.token.Kind.{Kind}
use Rattle.spectra_lexer.specs.declared.token.Kind.TheVariants as kinds
use Rattle.spectra_lexer.specs.declared.token.Token.{Token}
use Rattle.spectra_lexer.specs.Characters.{goes_on, begins_name}
use Rattle.spectra_lexer.specs.Words.{is_sign, is_reserved}

-- a first character that begins a name, and characters that go on
pub record IsWord (word : List ℕ) : Type 0 where
  pub first : ℕ
  pub more : List ℕ
  pub word_is : word ≡ first ∷ more
  pub begins : begins_name first ≡ true
  pub goes : list_all (goes_on runs.Name) more ≡ true

-- one digit or more
pub record IsNumber (number : List ℕ) : Type 0 where
  pub first : ℕ
  pub more : List ℕ
  pub number_is : number ≡ first ∷ more
  pub digits : list_all (goes_on runs.Number) number ≡ true

-- characters between two quotation marks
pub record IsText (text : List ℕ) : Type 0 where
  pub inside : List ℕ
  pub text_is : text ≡ 34 ∷ (inside ++ 34 ∷ [])
  pub quoted : list_all (goes_on runs.Quoted) inside ≡ true

-- the characters of a token of a kind
abbrev pub Spells : Kind → List ℕ → Type 0
Spells kinds.Word cs = IsWord cs × (is_reserved cs ≡ true)
Spells kinds.Name cs = IsWord cs × (is_reserved cs ≡ false)
Spells kinds.Number cs = IsNumber cs
Spells kinds.Text cs = IsText cs
Spells kinds.Sign cs = is_sign cs ≡ true
Spells kinds.Finish cs = cs ≡ []

-- a slice of the text, behind so many bytes: the UTF-8 of the token's characters
pub record IsSlice (text : List ℕ) (behind : ℕ) (t : Token) : Type 0 where
  pub rises : behind ≤ t.from
  pub forward : t.from ≤ t.to
  pub within : t.to ≤ length text
  pub characters : List ℕ
  pub scalars : all_scalars characters ≡ true
  pub bytes : take (t.to - t.from) (drop t.from text) ≡ encode_utf8_all characters
  pub spells : Spells t.kind characters

-- each token is a slice behind the one before it
abbrev pub AreSlices : List ℕ → ℕ → List Token → Type 0
AreSlices text behind [] = Unit {0}
AreSlices text behind (t ∷ ts) = IsSlice text behind t × AreSlices text t.to ts
