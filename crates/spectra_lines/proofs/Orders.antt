-- The parts of a text in text order.
use Rattle.std.proofs.Common.{◌≡◌, ℕ, zero, suc, ◌+◌, ◌-◌, ◌≤◌, arith, length-drop, List, [], ◌∷◌, ◌++◌, length, map, take, drop, refl, sym, ap, ◌∙◌, append_assoc}
use Rattle.std.proofs.lemmas.List.{drop-drop}
use Rattle.spectra_resolved.specs.Texts.{ResolvedLine}
use Rattle.spectra_lines.specs.Contents.{Facts}
use Rattle.spectra_lines.specs.Parts.{TypedPattern, TextPart, LinePart, PatternPart, leading, in_text_order}
use Rattle.spectra_lines.specs.SoundParts.{AreSound}
use Rattle.spectra_lines.specs.Steps.{ArePartsSound}

-- ---- sound patterns are sound parts

module _ (f : Facts) where
  sound_map : (ps : List TypedPattern) → AreSound f ps → ArePartsSound f (map PatternPart ps)
  sound_map [] s = tt
  sound_map (p ∷ ps) s = (s.0, sound_map ps s.1)

  sound_append : (xs ys : List TextPart) → ArePartsSound f xs → ArePartsSound f ys → ArePartsSound f (xs ++ ys)
  sound_append [] ys s r = r
  sound_append (x ∷ xs) ys s r = (s.0, sound_append xs ys s.1 r)

  sound_take : (n : ℕ) (ps : List TypedPattern) → AreSound f ps → AreSound f (take n ps)
  sound_take zero [] s = tt
  sound_take zero (p ∷ ps) s = tt
  sound_take (suc n) [] s = tt
  sound_take (suc n) (p ∷ ps) s = (s.0, sound_take n ps s.1)

  sound_drop : (n : ℕ) (ps : List TypedPattern) → AreSound f ps → AreSound f (drop n ps)
  sound_drop zero [] s = tt
  sound_drop zero (p ∷ ps) s = s
  sound_drop (suc n) [] s = tt
  sound_drop (suc n) (p ∷ ps) s = sound_drop n ps s.1

  pub parts_sound : (ps : List TypedPattern) (ls : List ResolvedLine) → AreSound f ps → ArePartsSound f (in_text_order ps ls)
  parts_sound ps [] s = sound_map ps s
  parts_sound ps (l ∷ ls) s =
      let n = leading l.at ps in
      sound_append (map PatternPart (take n ps)) (LinePart l ∷ in_text_order (drop n ps) ls) (sound_map (take n ps) (sound_take n ps s)) (tt, parts_sound (drop n ps) ls (sound_drop n ps s))

-- ---- one more line

pub line_more : (ps : List TypedPattern) (l : ResolvedLine) (left rest : List ResolvedLine) (old all : List TextPart) → left ≡ l ∷ rest → old ++ in_text_order ps left ≡ all
    → ((old ++ map PatternPart (take (leading l.at ps) ps)) ++ LinePart l ∷ []) ++ in_text_order (drop (leading l.at ps) ps) rest ≡ all
line_more ps l left rest old all is before =
    let n = leading l.at ps in
    append_assoc (old ++ map PatternPart (take n ps)) (LinePart l ∷ []) (in_text_order (drop n ps) rest)
    ∙ append_assoc old (map PatternPart (take n ps)) (LinePart l ∷ in_text_order (drop n ps) rest)
    ∙ ap (λ ls. old ++ in_text_order ps ls) (sym is)
    ∙ before

map_drop : {A B : Type 0} (f : A → B) (n : ℕ) (xs : List A) → map f (drop n xs) ≡ drop n (map f xs)
map_drop f zero [] = refl
map_drop f zero (x ∷ xs) = refl
map_drop f (suc n) [] = refl
map_drop f (suc n) (x ∷ xs) = map_drop f n xs

-- those that are left behind some more
pub left_behind : {A B : Type 0} (f : A → B) (xs : List A) (m n : ℕ) → map f (drop (m + n) xs) ≡ drop n (map f (drop m xs))
left_behind f xs m n = ap (map f) (sym (drop-drop n m xs)) ∙ map_drop f n (drop m xs)

take_rest : {A : Type 0} (n : ℕ) (xs : List A) → length xs ≤ n → take n xs ≡ xs
take_rest zero [] long = refl
take_rest zero (x ∷ xs) long = absurd (omega arith)
take_rest (suc n) [] long = refl
take_rest (suc n) (x ∷ xs) long = ap (λ ys. x ∷ ys) (take_rest n xs (omega arith))

-- all from a number on
pub from_on : {A : Type 0} (xs : List A) (n : ℕ) → take (length xs - n) (drop n xs) ≡ drop n xs
from_on xs n = take_rest (length xs - n) (drop n xs) (omega (arith, length-drop n xs))
