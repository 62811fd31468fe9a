-- Up to 64 letters, and what lines have at each of them.
use Rattle.std.specs.Prelude.{◌≡◌, ◌==◌, ℕ, ◌<◌, ◌≤◌, ◌+◌, ◌*◌, Bool, true, false, ◌&&◌, List, [], ◌++◌, length, map, take, drop, get_or, Option, Some, is_some}
use Rattle.std.specs.List.{list_all}
use Rattle.spec_model.specs.declared.value.Value.{Value}
use Rattle.spec_model.specs.declared.value.Value.TheVariants as value
use Rattle.spec_model.specs.Values.{Assignment}
use Rattle.spec_model.specs.Syntax.{Formula}
use Rattle.spec_model.specs.Meaning.{Reading, value_at}
use Rattle.spec_model.specs.Patterns.{two_positions}
use Rattle.pattern_rows.specs.declared.wide.Wide.{Wide}
use Rattle.pattern_rows.specs.declared.block.Block.{Block}
use Rattle.pattern_rows.specs.Wides.{bit, value_in}

-- the values of the parameters at the letter with a number
abbrev pub letter_in : List Assignment → ℕ → Assignment
letter_in letters l = get_or letters l []

-- a value that is a truth value
abbrev pub is_truth_value : Value → Bool
is_truth_value (value.Bool b) = true
is_truth_value _ = false

-- so many truth values
abbrev pub is_letter : ℕ → Assignment → Bool
is_letter n letter = length letter == n && list_all is_truth_value letter

-- The words have the values of the parameters at up to 64 letters.
pub record AreWordsOf (letters : List Assignment) (words : List ℕ) : Type 0 where
  pub few : length letters ≤ 64
  pub long : (l : ℕ) → l < length letters → length (letter_in letters l) ≡ length words
  pub bits : (l k : ℕ) → l < length letters → k < length words → get_or (letter_in letters l) k (value.Bool false) ≡ value.Bool (bit (get_or words k 0) l)

-- words for each 64 letters that are begun
pub record AreBlocksOf (letters : List Assignment) (blocks : List (List ℕ)) : Type 0 where
  pub many : length letters ≤ 64 * length blocks
  pub begun : 64 * length blocks < length letters + 64
  pub words : (c : ℕ) → c < length blocks → AreWordsOf (take 64 (drop (64 * c) letters)) (get_or blocks c [])

abbrev pub letters_in : Block → List Assignment
letters_in b = map (λ c. c.items) b.letters.now

-- what is read at a letter
abbrev pub reading_at : Block → ℕ → Reading
reading_at b l = two_positions (letter_in (letters_in b) l ++ b.own.now) (letter_in (letters_in b) l ++ b.next.now)

abbrev pub IsBlock : Block → Type 0
IsBlock b = AreWordsOf (letters_in b) b.words.now

-- these are the values of a formula
abbrev pub AreValuesOf : Block → Formula → (t : ℕ) → Wide → Type 0
AreValuesOf b e t w = (l : ℕ) → l < length (letters_in b) → value_in w l ≡ value_at (reading_at b l) e t

-- a place of the next value, as it was and as it is once a next value with this number is allowed there or not
abbrev pub IsMarked : Bool → (k : ℕ) → (old new : Option ℕ) → Type 0
IsMarked true k old new = (is_some old ≡ false) × (new ≡ Some k)
IsMarked false k old new = new ≡ old
