-- The table's value along a run is that of the standing, and its entry tells that no effect is pending.
use Rattle.std.proofs.Common.{◌≡◌, ℕ, zero, suc, ◌+◌, ◌*◌, ◌^◌, ◌<◌, Bool, true, false, not, cond, ◌&&◌, ◌||◌, List, [], ◌∷◌, ◌++◌, Some, None, Option, flat_map, map, length, get_or, inl, inr, refl, sym, ◌∙◌, ap, subst, arith}
use Rattle.std.proofs.lemmas.Bool.{and_parts, and_from, or_cases, or_left, or_right, false≢true, not-true, not_from_false}
use Rattle.std.proofs.lemmas.List.{length-map, get_or-map}
use Rattle.std.proofs.lemmas.List.Folds.{list_any-append}
use Rattle.std.specs.Bool.{beq}
use Rattle.std.specs.List.{list_any}
use Rattle.std.specs.Cmp.Lexicographic.{pointwise}
use Rattle.spec_model.specs.Syntax.{TriggerData}
use Rattle.spec_model.specs.Meaning.{Reading, holds_at}
use Rattle.spec_model.specs.Games.{letter_of}
use Rattle.spec_model.specs.TriggerStates.{Positions, brackets, firsts, followers, members, read_of, letters, said_by, sets_from, has_last, sets_after, trigger_atoms}
use Rattle.trigger_dfa.specs.Standings.{Standing, at_start, at_set, side_of, next_positions, settled, standing_after, all_sets, value_sets, side_standings, standings, same_read, same_standing, first_place, value_of, by_standing, table_of}
use Rattle.trigger_dfa.specs.Along.{standing_along, value_along, entry_along}
use Rattle.trigger_dfa.specs.Laws.{GoalIsNotPending}
use Rattle.trigger_dfa.proofs.Different.{among, same, same-true, same-refl, among_filter, filter_among, among_left, different_among, flat_among}
use Rattle.trigger_dfa.proofs.Letters.{block_at, length-letters, letter_among, letter_below, letter_at}
use Rattle.trigger_dfa.proofs.Reached.{after, from_start, all_closed, all_from_start, map_among}
use Rattle.trigger_dfa.proofs.Formulas.{side_in, read_said}
use Rattle.trigger_dfa.proofs.Phases.{along_agrees}

-- ---- standings and their places

bit-refl : (b : Bool) → beq b b ≡ true
bit-refl true = refl
bit-refl false = refl

bit-true : (a b : Bool) → beq a b ≡ true → a ≡ b
bit-true true true e = refl
bit-true true false e = absurd (false≢true e)
bit-true false true e = absurd (false≢true e)
bit-true false false e = refl

same_read-true : (a b : Option Positions) → same_read a b ≡ true → a ≡ b
same_read-true None None e = refl
same_read-true None (Some b) e = absurd (false≢true e)
same_read-true (Some a) None e = absurd (false≢true e)
same_read-true (Some a) (Some b) e = ap (λ (x : Positions). Some x) (same-true a b e)

same_standing-true : (s s' : Standing) → same_standing s s' ≡ true → s ≡ s'
same_standing-true s s' e =
    let p = and_parts (beq s.waits s'.waits) (same_read s.read s'.read) e in
    ap (λ (b : Bool). record { waits = b; read = s.read }) (bit-true s.waits s'.waits p.0)
    ∙ ap (λ (o : Option Positions). record { waits = s'.waits; read = o }) (same_read-true s.read s'.read p.1)

first_found : (test : Standing → Bool) (xs : List Standing) (d : Standing) → list_any test xs ≡ true → (first_place test xs < length xs) × (test (get_or xs (first_place test xs) d) ≡ true)
first_found test [] d e = absurd (false≢true e)
first_found test (x ∷ xs) d e = at (test x) refl (first_found test xs d) e
  where
    at : (b : Bool) → test x ≡ b → (list_any test xs ≡ true → (first_place test xs < length xs) × (test (get_or xs (first_place test xs) d) ≡ true)) → (b || list_any test xs) ≡ true →
        (cond b 0 (suc (first_place test xs)) < suc (length xs)) × (test (get_or (x ∷ xs) (cond b 0 (suc (first_place test xs))) d) ≡ true)
    at true is more e = (omega arith, is)
    at false is more e = let m = more e in (omega (arith, m.0), m.1)

any_map : (waits : Bool) (set : Positions) (sets : List Positions) → among set sets ≡ true → list_any (same_standing (at_set waits set)) (map (at_set waits) sets) ≡ true
any_map waits set [] e = absurd (false≢true e)
any_map waits set (a ∷ sets) e =
    elim (or_cases (same a set) (among set sets) e) [
      | inl here ↦ or_left (beq waits waits && pointwise beq set a) (list_any (same_standing (at_set waits set)) (map (at_set waits) sets))
          (and_from (beq waits waits) (pointwise beq set a) (bit-refl waits) (subst (λ (x : Positions). same set x ≡ true) (sym (same-true a set here)) (same-refl set)))
      | inr later ↦ or_right (beq waits waits && pointwise beq set a) (list_any (same_standing (at_set waits set)) (map (at_set waits) sets)) (any_map waits set sets later)
    ]

module _ (tr : TriggerData) where
  sets_of : Bool → List Positions
  sets_of waits = value_sets (trigger_atoms tr) (side_of tr waits)

  of_side : (waits : Bool) (s : Standing) → list_any (same_standing s) (side_standings tr waits) ≡ true → list_any (same_standing s) (standings tr) ≡ true
  of_side false s e =
      list_any-append (same_standing s) (side_standings tr false) (side_standings tr true)
      ∙ or_left (list_any (same_standing s) (side_standings tr false)) (list_any (same_standing s) (side_standings tr true)) e
  of_side true s e =
      list_any-append (same_standing s) (side_standings tr false) (side_standings tr true)
      ∙ or_right (list_any (same_standing s) (side_standings tr false)) (list_any (same_standing s) (side_standings tr true)) e

  -- it has a value
  abbrev pub IsValue : Bool → Option Positions → Type 0
  IsValue waits None = Unit {0}
  IsValue waits (Some set) = among set (value_sets (trigger_atoms tr) (side_of tr waits)) ≡ true

  listed : (waits : Bool) (o : Option Positions) → IsValue waits o → list_any (same_standing (record { waits = waits; read = o })) (standings tr) ≡ true
  listed waits None v =
      of_side waits (at_start waits)
      (or_left (beq waits waits && true) (list_any (same_standing (at_start waits)) (map (at_set waits) (value_sets (trigger_atoms tr) (side_of tr waits))))
      (and_from (beq waits waits) true (bit-refl waits) refl))
  listed waits (Some set) v =
      of_side waits (at_set waits set)
      (or_right (beq waits waits && false) (list_any (same_standing (at_set waits set)) (map (at_set waits) (value_sets (trigger_atoms tr) (side_of tr waits))))
      (any_map waits set (value_sets (trigger_atoms tr) (side_of tr waits)) v))

  pub placed : (s : Standing) → IsValue s.waits s.read → (value_of tr s < length (standings tr)) × (get_or (standings tr) (value_of tr s) (at_start false) ≡ s)
  placed s v =
      let f = first_found (same_standing s) (standings tr) (at_start false) (listed s.waits s.read v) in
      (f.0, sym (same_standing-true s (get_or (standings tr) (value_of tr s) (at_start false)) f.1))

  -- ---- what follows a value is one

  module _ (waits : Bool) (letter : List Bool) (known : among letter (letters (length (trigger_atoms tr))) ≡ true) where
    abbrev pub next_set : List ℕ → Positions
    next_set ps = read_of (said_by (trigger_atoms tr) letter) ps 0 (brackets (side_of tr waits))

    set_from : (ps : List ℕ) → among (next_set ps) (sets_from (trigger_atoms tr) (side_of tr waits) ps) ≡ true
    set_from ps = map_among (λ letter. read_of (said_by (trigger_atoms tr) letter) ps 0 (brackets (side_of tr waits))) letter (letters (length (trigger_atoms tr))) known

    set_after : (set : Positions) → has_last (side_of tr waits) set ≡ false → among (next_set (flat_map (followers 0 (side_of tr waits)) (members 0 set))) (sets_after (trigger_atoms tr) (side_of tr waits) set) ≡ true
    set_after set open_still =
        subst (λ (b : Bool). among (next_set (flat_map (followers 0 (side_of tr waits)) (members 0 set))) (cond b [] (sets_from (trigger_atoms tr) (side_of tr waits) (flat_map (followers 0 (side_of tr waits)) (members 0 set)))) ≡ true)
        (sym open_still) (set_from (flat_map (followers 0 (side_of tr waits)) (members 0 set)))

    pub reached_next : (o : Option Positions) → IsValue waits o → among (next_set (next_positions (side_of tr waits) o)) (all_sets (trigger_atoms tr) (side_of tr waits)) ≡ true
    reached_next None v =
        let atoms = trigger_atoms tr in let w = side_of tr waits in
        subst (λ (sets : List Positions). among (next_set (firsts 0 w)) sets ≡ true) (sym (all_from_start atoms w))
        (different_among (next_set (firsts 0 w)) (from_start atoms w ++ after atoms w (all_sets atoms w))
        (among_left (next_set (firsts 0 w)) (from_start atoms w) (after atoms w (all_sets atoms w)) (set_from (firsts 0 w))))
    reached_next (Some set) v =
        let atoms = trigger_atoms tr in let w = side_of tr waits in
        let f = among_filter (λ set. not (has_last w set)) set (all_sets atoms w) v in
        all_closed atoms w (next_set (flat_map (followers 0 w) (members 0 set)))
        (flat_among (sets_after atoms w) set (next_set (flat_map (followers 0 w) (members 0 set))) (all_sets atoms w) f.0 (set_after set (not-true (has_last w set) f.1)))

  -- a standing with a value
  abbrev pub Valued : Standing → Type 0
  Valued s = IsValue s.waits s.read

  settled_valued : (waits : Bool) (set : Positions) → among set (all_sets (trigger_atoms tr) (side_of tr waits)) ≡ true → Valued (settled waits (side_of tr waits) set)
  settled_valued waits set e = at (has_last (side_of tr waits) set) refl
    where
      at : (b : Bool) → has_last (side_of tr waits) set ≡ b → Valued (cond b (at_start (not waits)) (at_set waits set))
      at true is = tt
      at false is = filter_among (λ set. not (has_last (side_of tr waits) set)) set (all_sets (trigger_atoms tr) (side_of tr waits)) e (not_from_false (has_last (side_of tr waits) set) is)

  pub after_valued : (s : Standing) (letter : List Bool) → among letter (letters (length (trigger_atoms tr))) ≡ true → Valued s → Valued (standing_after tr (said_by (trigger_atoms tr) letter) s)
  after_valued s letter known v =
      settled_valued s.waits (read_of (said_by (trigger_atoms tr) letter) (next_positions (side_of tr s.waits) s.read) 0 (brackets (side_of tr s.waits)))
      (reached_next s.waits letter known s.read v)

  -- ---- reading the table

  module _ {X : Type 0} (f : Standing → X) (d : X) where
    abbrev block : Standing → List X
    block s = map (λ letter. f (standing_after tr (said_by (trigger_atoms tr) letter) s)) (letters (length (trigger_atoms tr)))

    block_length : (s : Standing) → length (block s) ≡ 2 ^ length (trigger_atoms tr)
    block_length s = length-map (letters (length (trigger_atoms tr))) (λ letter. f (standing_after tr (said_by (trigger_atoms tr) letter) s)) ∙ length-letters (length (trigger_atoms tr))

    at_cell : (s : Standing) → Valued s → (letter : List Bool) → length letter ≡ length (trigger_atoms tr) →
        get_or (by_standing tr f) (value_of tr s * 2 ^ length (trigger_atoms tr) + letter_of letter) d ≡ f (standing_after tr (said_by (trigger_atoms tr) letter) s)
    at_cell s v letter sized =
        let k = length (trigger_atoms tr) in
        let p = placed s v in
        let below : letter_of letter < 2 ^ k = subst (λ (n : ℕ). letter_of letter < 2 ^ n) sized (letter_below letter) in
        let inside : letter_of letter < length (letters k) = omega (arith, below, length-letters k) in
        block_at block (2 ^ k) block_length (standings tr) (value_of tr s) (letter_of letter) (at_start false) d p.0 below
        ∙ ap (λ (x : Standing). get_or (block x) (letter_of letter) d) p.1
        ∙ get_or-map (λ l. f (standing_after tr (said_by (trigger_atoms tr) l) s)) (letters k) (letter_of letter) [] d inside
        ∙ ap (λ (l : List Bool). f (standing_after tr (said_by (trigger_atoms tr) l) s)) (subst (λ (n : ℕ). get_or (letters n) (letter_of letter) [] ≡ letter) sized (letter_at letter []))

  module _ (r : Reading) where
    letter_along : ℕ → List Bool
    letter_along t = map (λ e. holds_at r e t) (trigger_atoms tr)

    letter_sized : (t : ℕ) → length (letter_along t) ≡ length (trigger_atoms tr)
    unfolding letter_along
    letter_sized t = length-map (trigger_atoms tr) (λ e. holds_at r e t)

    letter_known : (t : ℕ) → among (letter_along t) (letters (length (trigger_atoms tr))) ≡ true
    letter_known t = subst (λ (n : ℕ). among (letter_along t) (letters n) ≡ true) (letter_sized t) (letter_among (letter_along t))

    -- the letter of a position tells what the position tells
    after_same : (s : Standing) (t : ℕ) → standing_after tr (said_by (trigger_atoms tr) (letter_along t)) s ≡ standing_after tr (λ e. holds_at r e t) s
    unfolding letter_along
    after_same s t =
        ap (settled s.waits (side_of tr s.waits))
        (read_said (trigger_atoms tr) (λ e. holds_at r e t) (next_positions (side_of tr s.waits) s.read) 0 (brackets (side_of tr s.waits)) (side_in tr s.waits))

    along_valued : (t : ℕ) → Valued (standing_along r tr t)
    along_valued zero = tt
    along_valued (suc t) =
        subst Valued (after_same (standing_along r tr t) t) (after_valued (standing_along r tr t) (letter_along t) (letter_known t) (along_valued t))

    value_along-is : (t : ℕ) → value_along (table_of tr) r t ≡ value_of tr (standing_along r tr t)
    unfolding letter_along
    value_along-is zero = refl
    value_along-is (suc t) =
        ap (λ (v : ℕ). get_or (by_standing tr (value_of tr)) (v * 2 ^ length (trigger_atoms tr) + letter_of (map (λ e. holds_at r e t) (trigger_atoms tr))) 0) (value_along-is t)
        ∙ at_cell (value_of tr) 0 (standing_along r tr t) (along_valued t) (letter_along t) (letter_sized t)
        ∙ ap (value_of tr) (after_same (standing_along r tr t) t)

    pub entry_along-is : (t : ℕ) → entry_along (table_of tr) r 0 t ≡ not (standing_along r tr (suc t)).waits
    unfolding letter_along
    entry_along-is t =
        ap (λ (v : ℕ). get_or (by_standing tr (λ s. not s.waits)) (v * 2 ^ length (trigger_atoms tr) + letter_of (map (λ e. holds_at r e t) (trigger_atoms tr))) false) (value_along-is t)
        ∙ at_cell (λ s. not s.waits) false (standing_along r tr t) (along_valued t) (letter_along t) (letter_sized t)
        ∙ ap (λ (s : Standing). not s.waits) (after_same (standing_along r tr t) t)

pub goal_is_not_pending : GoalIsNotPending
goal_is_not_pending r tr cause_ok effect_ok t = entry_along-is tr r t ∙ ap not (along_agrees r tr cause_ok effect_ok (suc t)).0
