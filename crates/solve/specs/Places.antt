-- Parts of a specification's guarantees, by their places in text order, and that a part of what can be kept can be kept.
use Rattle.std.specs.Prelude.{◌≡◌, ◌==◌, ℕ, ◌<◌, ◌≤◌, true, List, map, length, slice_index}
use Rattle.std.specs.List.{Contains}
use Rattle.std.proofs.Common.{get_or, refl, sym, ◌∙◌, ap, subst}
use Rattle.std.proofs.lemmas.List.{get_or-map, length-map}
use Rattle.std.proofs.lemmas.List.Elements.{Contains-get_or}
use Rattle.std.proofs.lemmas.List.Folds.{Any-from_list_any, list_any-from_Any}
use Rattle.spec_model.specs.Syntax.{Specification}
use Rattle.spec_model.specs.WellTyped.{WellTyped}
use Rattle.spec_model.specs.Cores.{Realizable, with_guarantees, is_in, guarantees_of}
use Rattle.spec_model.proofs.Restricted.{restricted_is_well_typed}
use Rattle.hidden_game.specs.GameOf.{game_of}
use Rattle.hidden_game.proofs.MadeGames.{typed_games_made, lines_rise}
use Rattle.hidden_game.proofs.Agreed.{game_agrees}
use Rattle.gr1_law.specs.CoreLaws.{IsSolvable}
use Rattle.gr1_law.proofs.CoreTrials.{part_stays}
use Rattle.core_min.specs.Sets.{IsPartOf, PartsWin}

-- the numbers of a list that stand at these places
abbrev pub at_places : List ℕ → List ℕ → List ℕ
at_places numbers places = map (λ place. slice_index numbers place) places

-- the specification with those of its guarantees alone that stand at these places
abbrev pub part_at : Specification → List ℕ → Specification
part_at s places = with_guarantees s (at_places (guarantees_of s) places)

-- ---- the law

-- each part of a well-typed specification is well typed, and has a game
pub solvable : (s : Specification) → WellTyped s → (kept : List ℕ) → IsSolvable (with_guarantees s kept)
solvable s typed kept =
    let part : Specification = with_guarantees s kept in
    let part_typed = restricted_is_well_typed s typed kept in
    record { rises = lines_rise part part_typed; game = game_of part; agrees = game_agrees part part_typed; made = typed_games_made part part_typed }

-- the numbers at places of a part are among those at the places of the whole
among : (numbers places part : List ℕ) → IsPartOf part places → (n : ℕ) → is_in (at_places numbers part) n ≡ true → is_in (at_places numbers places) n ≡ true
among numbers places part inside n there =
    let number : ℕ → ℕ = λ place. slice_index numbers place in
    let found = Any-from_list_any (λ m. m == n) (at_places numbers part) there in
    let k = found.0 in
    let short : k < length part = subst (λ l. k < l) (length-map part number) found.2 in
    let place : ℕ = get_or part k 0 in
    let is : found.1 ≡ number place = sym found.3 ∙ get_or-map number part k 0 found.1 short in
    let whole = inside place (Contains-get_or part k 0 short) in
    list_any-from_Any (λ m. m == n) (at_places numbers places) (
      whole.0,
      number place,
      subst (λ l. whole.0 < l) (sym (length-map places number)) whole.1,
      get_or-map number places whole.0 place (number place) whole.1 ∙ ap number whole.2,
      subst (λ m. (m == n) ≡ true) is found.4,
    )

-- a part of what can be kept can be kept
pub parts_win : (s : Specification) → WellTyped s → PartsWin (λ places. Realizable (part_at s places))
parts_win s typed places part inside won =
    part_stays s (at_places (guarantees_of s) places) (at_places (guarantees_of s) part) (solvable s typed (at_places (guarantees_of s) part))
    (among (guarantees_of s) places part inside) won
