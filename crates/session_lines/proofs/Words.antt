-- How a line is cut into words, and what a word is an item of.
use Rattle.std.proofs.Common.{◌≡◌, ℕ, suc, ◌+◌, ◌-◌, ◌<◌, Bool, true, false, not, ◌&&◌, ◌==◌, cond, List, [], ◌∷◌, ◌++◌, length, take, drop, filter, Option, Some, None, refl, sym, ap, ◌∙◌, arith, nat_lt}
use Rattle.std.proofs.lemmas.Bool.Decides.{nat_tests}
use Rattle.std.proofs.lemmas.List.{take_rest, drop_all}
use Rattle.std.proofs.lemmas.List.Splits.{slice_split_first}
use Rattle.std.specs.List.{cons_option, onto_first, position, position_or_len, slice_split, filter_map}
use lib.Pointwise.{pointwise}
use lib.Dec.{eqb}
use Rattle.session_lines.specs.Reading.{is_blank, words, after_sign, after_name}

-- ---- the first blank

some_at : (b : Bool) (n m i : ℕ) → nat_lt n m ≡ b → cond b (Some n) None ≡ Some i → (n ≡ i) × (n < m)
some_at true n m i test is = (cc, grind (arith, nat_tests))
some_at false n m i test is = cc

none_at : (b : Bool) (n m : ℕ) → nat_lt n m ≡ b → cond b (Some n) None ≡ None → n < m → ⊥
none_at true n m test is = cc
none_at false n m test is = λ below. grind (arith, nat_tests)

-- a list with no element that passes is one part
module _ {X : Type 0} (p : X → Bool) where
  whole_from : (x : X) (xs : List X) (b : Bool) → ((position_or_len p xs < length xs → ⊥) → slice_split p xs ≡ xs ∷ [])
      → (cond (not b) (1 + position_or_len p xs) 0 < suc (length xs) → ⊥) → cond b ([] ∷ slice_split p xs) (onto_first x (slice_split p xs)) ≡ (x ∷ xs) ∷ []
  whole_from x xs true rest none = absurd (none (omega arith))
  whole_from x xs false rest none = ap (onto_first x) (rest (λ below. none (omega arith)))

  whole : (xs : List X) → (position_or_len p xs < length xs → ⊥) → slice_split p xs ≡ xs ∷ []
  whole [] none = refl
  whole (x ∷ xs) none = whole_from x xs (p x) (whole xs) none

-- ---- cutting at a blank

abbrev is_word : List ℕ → Bool
is_word w = not (length w == 0)

onto_words : (b : Bool) (w : List ℕ) (ws : List (List ℕ)) → cond b (w ∷ ws) ws ≡ cond b (w ∷ []) [] ++ ws
onto_words true w ws = refl
onto_words false w ws = refl

pub cut_some : (line : List ℕ) (at : ℕ) → Some at ≡ position is_blank line
    → words line ≡ cond (is_word (take at line)) (take at line ∷ []) [] ++ words (take (length line - (at + 1)) (drop (at + 1) line))
cut_some line at found =
    let here = some_at (nat_lt (position_or_len is_blank line) (length line)) (position_or_len is_blank line) (length line) at refl (sym found) in
    ap (filter is_word) (slice_split_first is_blank line 0 here.1)
    ∙ onto_words (is_word (take (position_or_len is_blank line) line)) (take (position_or_len is_blank line) line) (words (drop (position_or_len is_blank line + 1) line))
    ∙ ap (λ (n : ℕ). cond (is_word (take n line)) (take n line ∷ []) [] ++ words (drop (n + 1) line)) here.0
    ∙ ap (λ (l : List ℕ). cond (is_word (take at line)) (take at line ∷ []) [] ++ words l) (sym (take_rest line (at + 1)))

pub cut_none : (line : List ℕ) → None ≡ position is_blank line
    → words line ≡ cond (is_word line) (line ∷ []) [] ++ words (take (length line - length line) (drop (length line) line))
cut_none line none =
    let all = whole is_blank line (none_at (nat_lt (position_or_len is_blank line) (length line)) (position_or_len is_blank line) (length line) refl (sym none)) in
    ap (filter is_word) all
    ∙ onto_words (is_word line) line []
    ∙ ap (λ (l : List ℕ). cond (is_word line) (line ∷ []) [] ++ words l) (sym (take_rest line (length line) ∙ drop_all (length line) line (omega arith)))

-- ---- items

named_from : (ns cs : List ℕ) (b : Bool) → (pointwise eqb (take (length ns) cs) ns ≡ true → after_name ns cs ≡ after_sign (drop (length ns) cs))
    → (b && pointwise eqb (take (length ns) cs) ns) ≡ true → cond b (after_name ns cs) None ≡ after_sign (drop (length ns) cs)
named_from ns cs true rest begins = rest begins
named_from ns cs false rest begins = cc

pub named : (name word : List ℕ) → pointwise eqb (take (length name) word) name ≡ true → after_name name word ≡ after_sign (drop (length name) word)
named [] word begins = refl
named (n ∷ ns) [] begins = cc
named (n ∷ ns) (c ∷ cs) begins = named_from ns cs (eqb c n) (named ns cs) begins

unnamed_from : (ns cs : List ℕ) (b : Bool) → (pointwise eqb (take (length ns) cs) ns ≡ false → after_name ns cs ≡ None)
    → (b && pointwise eqb (take (length ns) cs) ns) ≡ false → cond b (after_name ns cs) None ≡ None
unnamed_from ns cs true rest other = rest other
unnamed_from ns cs false rest other = refl

pub unnamed : (name word : List ℕ) → pointwise eqb (take (length name) word) name ≡ false → after_name name word ≡ None
unnamed [] word other = cc
unnamed (n ∷ ns) [] other = refl
unnamed (n ∷ ns) (c ∷ cs) other = unnamed_from ns cs (eqb c n) (unnamed ns cs) other

-- ---- what words give a variable

-- a word with an item is no empty word
pub given_some : (name w text : List ℕ) (ws : List (List ℕ)) → Some text ≡ after_name name w
    → filter_map (after_name name) (cond (is_word w) (w ∷ []) [] ++ ws) ≡ text ∷ filter_map (after_name name) ws
given_some [] [] text ws is = cc
given_some (n ∷ ns) [] text ws is = cc
given_some name (c ∷ cs) text ws is =
    let word : is_word (c ∷ cs) ≡ true = grind (arith, nat_tests) in
    ap (λ (b : Bool). filter_map (after_name name) (cond b ((c ∷ cs) ∷ []) [] ++ ws)) word
    ∙ ap (λ (o : Option (List ℕ)). cons_option o (filter_map (after_name name) ws)) (sym is)
