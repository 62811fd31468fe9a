-- A side as words of sets.
use Rattle.std.specs.Prelude.{◌≡◌, ◌≤◌, ℕ, not, ◌==◌, if◌then◌else◌, List, length, map, flat_map, bit_and, vec_len}
use Rattle.spec_model.specs.Syntax.{Formula}
use Rattle.spec_model.specs.Games.{letter_of}
use Rattle.spec_model.specs.TriggerStates.{Written, Positions, brackets, firsts, followers, has, has_last, members, sets_from}
use Rattle.trigger_dfa.specs.declared.walk.Walk.{Walk}
use Rattle.trigger_dfa.specs.Words.{in_word, joined, joined_word, with_new}

-- the words tell what may be read first and last and after each position, and what each letter makes true
pub record Walks (atoms : List Formula) (w : Written) (walk : Walk) : Type 0 where
  pub firsts : (p : ℕ) → in_word walk.firsts p ≡ has (firsts 0 w) p
  pub lasts : (set : Positions) → has_last w set ≡ not (bit_and (letter_of set) walk.lasts == 0)
  pub follow : (set : Positions) → length set ≡ length (brackets w) → (p : ℕ) → joined 0 walk.follow.items (letter_of set) p ≡ has (flat_map (followers 0 w) (members 0 set)) p
  pub masks : (ps : List ℕ) (open_word : ℕ) → ((p : ℕ) → in_word open_word p ≡ has ps p) → map (bit_and open_word) walk.masks.items ≡ map letter_of (sets_from atoms w ps)
  pub few : vec_len walk.follow ≤ 64

-- the words with the sets that follow one of them, unless it has a last position
abbrev pub followed_by : Walk → (set : ℕ) → List ℕ → List ℕ
followed_by walk set words =
    if bit_and set walk.lasts == 0 then with_new words (map (bit_and (joined_word 0 walk.follow.items set)) walk.masks.items) else words
