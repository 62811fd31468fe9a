-- What is at a cell.
use Rattle.std.proofs.Common.{◌≡◌, ℕ, zero, suc, ◌+◌, ◌*◌, ◌^◌, Bool, true, false, ◌==◌, cond, List, [], ◌∷◌, length, map, count_by, find, Some, option_map, unwrap_or, slice_get, get_or, refl, sym, ap, ◌∙◌, subst}
use Rattle.std.specs.List.{list_all, position_or_len}
use Rattle.std.proofs.lemmas.Bool.{and_parts, false≢true}
use Rattle.std.proofs.lemmas.List.{length-map}
use Rattle.std.proofs.lemmas.List.Folds.{find_at}
use Rattle.std.proofs.lemmas.Option.{slice_get-map, get_or_from_slice_get}
use Rattle.spec_model.specs.declared.value.Value.TheVariants as value
use Rattle.spec_model.specs.Values.{Assignment, assignments_of}
use Rattle.spec_model.specs.Syntax.{PatternData}
use Rattle.spec_model.specs.Games.{letter_of}
use Rattle.game_values.proofs.Typed.{count-cons}
use Rattle.game_states.proofs.ChoicePlaces.{get-grid}
use Rattle.pattern_rows.specs.Rows.{letters, by_cell}
use Rattle.pattern_rows.specs.ToldRows.{is_told}
use Rattle.pattern_rows.proofs.Letters.{length-letters, letter_at}

pub at_cell : {X : Type 0} (p : PatternData) (f : Assignment → Assignment → X) (k : ℕ) (bits : List Bool) (own : Assignment) (d : X) → length bits ≡ p.params → slice_get (assignments_of p.domains) k ≡ Some own →
    get_or (by_cell p f) (k * 2 ^ p.params + letter_of bits) d ≡ f (map (λ b. value.Bool b) bits) own
at_cell p f k bits own d long is =
    get_or_from_slice_get (by_cell p f) (k * 2 ^ p.params + letter_of bits) (f (map (λ b. value.Bool b) bits) own) d
    (get-grid (λ own. map (λ letter. f letter own) (letters p.params)) (2 ^ p.params) (λ own. length-map (letters p.params) (λ letter. f letter own) ∙ length-letters p.params)
    (assignments_of p.domains) k (letter_of bits) own (f (map (λ b. value.Bool b) bits) own) is
    (slice_get-map (λ letter. f letter own) (letters p.params) (letter_of bits) ∙ ap (λ o. option_map (λ letter. f letter own) o) (letter_at p.params bits long)))

-- the one that passes stands at its place
some_found : (test : Assignment → Bool) (xs : List Assignment) → is_told test xs ≡ true → (x : Assignment) × (find test xs ≡ Some x)
some_found test [] is = absurd (false≢true is)
some_found test (x ∷ xs) is = at (test x) refl (rw (count-cons test x xs) at is) (some_found test xs)
  where
    at : (b : Bool) → test x ≡ b → ((cond (test x) (suc (count_by test xs)) (count_by test xs)) == 1) ≡ true → (is_told test xs ≡ true → (y : Assignment) × (find test xs ≡ Some y)) → (y : Assignment) × (find test (x ∷ xs) ≡ Some y)
    at true pass is rest = (x, rw pass refl)
    at false pass is rest = let more = rest (rw pass at is) in (more.0, rw pass more.1)

pub told_at : (test : Assignment → Bool) (xs : List Assignment) → is_told test xs ≡ true → slice_get xs (position_or_len test xs) ≡ Some (unwrap_or (find test xs) [])
told_at test xs is = let found = some_found test xs is in sym (find_at test xs) ∙ (found.1 ∙ ap (λ o. Some (unwrap_or o [])) (sym found.1))

-- what holds of each holds of the one at a place
pub holds_at_place : {X : Type 0} (p : X → Bool) (xs : List X) (k : ℕ) (x : X) → list_all p xs ≡ true → slice_get xs k ≡ Some x → p x ≡ true
holds_at_place p [] k x all is = absurd (cc)
holds_at_place p (y ∷ xs) zero x all is = let same : y ≡ x = cc in subst (λ z. p z ≡ true) same (and_parts (p y) (list_all p xs) all).0
holds_at_place p (y ∷ xs) (suc k) x all is = holds_at_place p xs k x (and_parts (p y) (list_all p xs) all).1 is
