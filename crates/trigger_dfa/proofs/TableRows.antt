-- The rows of words are those of the table.
use Rattle.std.proofs.Common.{◌≡◌, ℕ, suc, ◌+◌, ◌^◌, ◌<◌, ◌==◌, Bool, true, false, not, cond, ◌&&◌, ◌||◌, nat_lt, bit_and, List, [], ◌∷◌, ◌++◌, Some, None, Option, filter, flat_map, map, length, refl, sym, ◌∙◌, ap, ap₂, subst, arith, length-append}
use Rattle.std.proofs.lemmas.Bool.{or_left, or_right, false≢true, not_from_false, eqb-true, eq-eqb, lt-ltb, le-ltb}
use Rattle.std.proofs.lemmas.List.{length-map}
use Rattle.std.proofs.lemmas.List.Concat.{flat_map-append}
use Rattle.std.specs.Bool.{beq}
use Rattle.std.specs.List.{list_any}
use Rattle.std.specs.Cmp.Lexicographic.{pointwise}
use Rattle.spec_model.specs.Syntax.{Formula, TriggerData}
use Rattle.spec_model.specs.Games.{letter_of}
use Rattle.spec_model.specs.TriggerStates.{Written, Positions, brackets, read_of, letters, said_by, has, has_last, trigger_atoms}
use Rattle.trigger_dfa.specs.declared.walk.Walk.{Walk}
use Rattle.trigger_dfa.specs.Words.{in_word, joined_word}
use Rattle.trigger_dfa.specs.Walks.{Walks}
use Rattle.trigger_dfa.specs.Rows.{place_in, number_in, row_of, rows_of}
use Rattle.trigger_dfa.specs.Standings.{Standing, at_start, at_set, side_of, next_positions, settled, standing_after, all_sets, value_sets, side_standings, standings, same_read, same_standing, first_place, value_of, by_standing}
use Rattle.trigger_dfa.proofs.Different.{among, same, same-true, same-refl, among_filter, filter_among}
use Rattle.trigger_dfa.proofs.Reached.{sized}
use Rattle.trigger_dfa.proofs.MaskWords.{letter_same, joined_is}
use Rattle.trigger_dfa.proofs.LaidParts.{same_truth}
use Rattle.trigger_dfa.proofs.Tables.{IsValue, Valued, reached_next, after_valued}

-- ---- lists

map_alike : {X : Type 0} (f g : List Bool → X) (ls : List (List Bool)) → ((l : List Bool) → among l ls ≡ true → f l ≡ g l) → map f ls ≡ map g ls
map_alike f g [] each = refl
map_alike {X} f g (l ∷ ls) each =
    ap₂ (λ (x : X) (xs : List X). x ∷ xs) (each l (or_left (same l l) (among l ls) (same-refl l))) (map_alike f g ls (λ m e. each m (or_right (same l m) (among m ls) e)))

map_words : (h k : ℕ → ℕ) (ws : List ℕ) → map (λ w. h (k w)) ws ≡ map h (map k ws)
map_words h k [] = refl
map_words h k (w ∷ ws) = ap (λ (xs : List ℕ). h (k w) ∷ xs) (map_words h k ws)

map_sets : (h : ℕ → ℕ) (f : List Bool → Positions) (ls : List (List Bool)) → map h (map letter_of (map f ls)) ≡ map (λ l. h (letter_of (f l))) ls
map_sets h f [] = refl
map_sets h f (l ∷ ls) = ap (λ (xs : List ℕ). h (letter_of (f l)) ∷ xs) (map_sets h f ls)

skipped_place : {X : Type 0} (test : X → Bool) (xs ys : List X) → list_any test xs ≡ false → first_place test (xs ++ ys) ≡ length xs + first_place test ys
skipped_place test [] ys none = let e : first_place test ys ≡ 0 + first_place test ys = omega arith in e
skipped_place test (x ∷ xs) ys none = at (test x) none (skipped_place test xs ys)
  where
    at : (b : Bool) → (b || list_any test xs) ≡ false → (list_any test xs ≡ false → first_place test (xs ++ ys) ≡ length xs + first_place test ys) →
        cond b 0 (suc (first_place test (xs ++ ys))) ≡ suc (length xs) + first_place test ys
    at true none rest = absurd (false≢true (sym none))
    at false none rest = let r = rest none in omega arith

kept_place : {X : Type 0} (test : X → Bool) (xs ys : List X) → list_any test xs ≡ true → first_place test (xs ++ ys) ≡ first_place test xs
kept_place test [] ys some = absurd (false≢true some)
kept_place test (x ∷ xs) ys some = at (test x) some (kept_place test xs ys)
  where
    at : (b : Bool) → (b || list_any test xs) ≡ true → (list_any test xs ≡ true → first_place test (xs ++ ys) ≡ first_place test xs) →
        cond b 0 (suc (first_place test (xs ++ ys))) ≡ cond b 0 (suc (first_place test xs))
    at true some rest = refl
    at false some rest = ap suc (rest some)

place_below : {X : Type 0} (test : X → Bool) (xs : List X) → list_any test xs ≡ true → first_place test xs < length xs
place_below test [] some = absurd (false≢true some)
place_below test (x ∷ xs) some = at (test x) some (place_below test xs)
  where
    at : (b : Bool) → (b || list_any test xs) ≡ true → (list_any test xs ≡ true → first_place test xs < length xs) → cond b 0 (suc (first_place test xs)) < suc (length xs)
    at true some rest = omega arith
    at false some rest = let r = rest some in omega arith

-- ---- the places of standings

bit-refl : (b : Bool) → beq b b ≡ true
bit-refl true = refl
bit-refl false = refl

same_turned : (a b : Positions) → same a b ≡ same b a
same_turned a b =
    same_truth (same a b) (same b a)
    (λ e. subst (λ (x : Positions). same x a ≡ true) (same-true a b e) (same-refl a))
    (λ e. subst (λ (x : Positions). same x b ≡ true) (same-true b a e) (same-refl b))

module _ (waits : Bool) (set : Positions) where
  test_of : (s : Standing) → Bool
  test_of s = same_standing (at_set waits set) s

  sets_any : (sets : List Positions) → list_any (same_standing (at_set waits set)) (map (at_set waits) sets) ≡ among set sets
  sets_any [] = refl
  sets_any (a ∷ sets) = ap₂ (λ (x y : Bool). x || y) (ap (λ (b : Bool). b && pointwise beq set a) (bit-refl waits) ∙ same_turned set a) (sets_any sets)

  -- the place among the sets is that of the word among their words
  sets_place : (n : ℕ) (sets : List Positions) → length set ≡ n → ((s : Positions) → among s sets ≡ true → length s ≡ n) →
      first_place (same_standing (at_set waits set)) (map (at_set waits) sets) ≡ place_in (map letter_of sets) (letter_of set)
  sets_place n [] size each = refl
  sets_place n (a ∷ sets) size each =
      let same_test : (beq waits waits && pointwise beq set a) ≡ (letter_of a == letter_of set) =
      ap (λ (b : Bool). b && pointwise beq set a) (bit-refl waits) ∙ same_turned set a
      ∙ same_truth (same a set) (letter_of a == letter_of set)
      (λ e. eq-eqb (letter_of a) (letter_of set) (ap letter_of (same-true a set e)))
      (λ e. subst (λ (t : Positions). same a t ≡ true) (letter_same a set (each a (or_left (same a a) (among a sets) (same-refl a)) ∙ sym size) (eqb-true (letter_of a) (letter_of set) e)) (same-refl a)) in
      ap₂ (λ (b : Bool) (m : ℕ). cond b 0 (suc m)) same_test (sets_place n sets size (λ s e. each s (or_right (same a s) (among s sets) e)))

  no_start : (sets : List Positions) → list_any (same_standing (at_start (not waits))) (map (at_set waits) sets) ≡ false
  no_start [] = refl
  no_start (a ∷ sets) = ap₂ (λ (x y : Bool). x || y) (at waits) (no_start sets)
    where
      at : (b : Bool) → (beq (not waits) waits && false) ≡ false
      at b = and_none (beq (not waits) waits)
        where
          and_none : (c : Bool) → (c && false) ≡ false
          and_none true = refl
          and_none false = refl

module _ (tr : TriggerData) where
  abbrev sets_in : Bool → List Positions
  sets_in waits = value_sets (trigger_atoms tr) (side_of tr waits)

  value_sized : (waits : Bool) (s : Positions) → among s (sets_in waits) ≡ true → length s ≡ length (brackets (side_of tr waits))
  value_sized waits s e =
      sized (trigger_atoms tr) (side_of tr waits) (2 ^ length (brackets (side_of tr waits))) s
      (among_filter (λ set. not (has_last (side_of tr waits) set)) s (all_sets (trigger_atoms tr) (side_of tr waits)) e).0

  -- no standing of the cause waits
  apart : (s : Standing) → s.waits ≡ true → (sets : List Positions) → list_any (same_standing s) (map (at_set false) sets) ≡ false
  apart s is [] = refl
  apart s is (a ∷ sets) = ap₂ (λ (x y : Bool). x || y) (ap (λ (b : Bool). beq b false && same_read s.read (Some a)) is) (apart s is sets)

  apart_all : (s : Standing) → s.waits ≡ true → list_any (same_standing s) (side_standings tr false) ≡ false
  apart_all s is = ap₂ (λ (x y : Bool). x || y) (ap (λ (b : Bool). beq b false && same_read s.read None) is) (apart s is (sets_in false))

  abbrev pub cause_count : ℕ
  cause_count = length (sets_in false)

  side_length : (waits : Bool) → length (side_standings tr waits) ≡ suc (length (sets_in waits))
  side_length waits = ap suc (length-map (sets_in waits) (at_set waits))

  pub value_start : (waits : Bool) → value_of tr (at_start waits) ≡ cond waits (suc cause_count) 0
  value_start false = refl
  value_start true =
      skipped_place (same_standing (at_start true)) (side_standings tr false) (side_standings tr true) (apart_all (at_start true) refl)
      ∙ (let l = side_length false in let e : length (side_standings tr false) + 0 ≡ suc (length (sets_in false)) = omega arith in e)

  pub value_set : (waits : Bool) (set : Positions) → among set (sets_in waits) ≡ true →
      value_of tr (at_set waits set) ≡ cond waits (suc cause_count) 0 + 1 + place_in (map letter_of (sets_in waits)) (letter_of set)
  value_set false set here =
      let there : list_any (same_standing (at_set false set)) (side_standings tr false) ≡ true =
      or_right false (list_any (same_standing (at_set false set)) (map (at_set false) (sets_in false))) (sets_any false set (sets_in false) ∙ here) in
      kept_place (same_standing (at_set false set)) (side_standings tr false) (side_standings tr true) there
      ∙ ap suc (sets_place false set (length (brackets (side_of tr false))) (sets_in false) (value_sized false set here) (value_sized false))
      ∙ (let e : suc (place_in (map letter_of (sets_in false)) (letter_of set)) ≡ 0 + 1 + place_in (map letter_of (sets_in false)) (letter_of set) = omega arith in e)
  value_set true set here =
      let p = sets_place true set (length (brackets (side_of tr true))) (sets_in true) (value_sized true set here) (value_sized true) in
      skipped_place (same_standing (at_set true set)) (side_standings tr false) (side_standings tr true) (apart_all (at_set true set) refl)
      ∙ (let l = side_length false in
      let e : length (side_standings tr false) + suc (first_place (same_standing (at_set true set)) (map (at_set true) (sets_in true))) ≡ suc (length (sets_in false)) + 1 + place_in (map letter_of (sets_in true)) (letter_of set) = omega arith in e)

  -- a value is the cause's exactly where it is below the effect's start
  pub value_waits : (s : Standing) → Valued tr s → nat_lt (value_of tr s) (suc cause_count) ≡ not s.waits
  value_waits s v = at s.waits s.read v
    where
      at : (waits : Bool) (o : Option Positions) → IsValue tr waits o → nat_lt (value_of tr (record { waits = waits; read = o })) (suc (length (sets_in false))) ≡ not waits
      at false None v = lt-ltb 0 (suc (length (sets_in false))) (omega arith)
      at true None v = ap (λ (n : ℕ). nat_lt n (suc (length (sets_in false)))) (value_start true) ∙ le-ltb (suc (length (sets_in false))) (suc (length (sets_in false))) (omega arith)
      at false (Some set) v =
          let there : list_any (same_standing (at_set false set)) (map (at_set false) (sets_in false)) ≡ true = sets_any false set (sets_in false) ∙ v in
          let below = place_below (same_standing (at_set false set)) (map (at_set false) (sets_in false)) there in
          let long = length-map (sets_in false) (at_set false) in
          let first : value_of tr (at_set false set) ≡ suc (first_place (same_standing (at_set false set)) (map (at_set false) (sets_in false))) =
          kept_place (same_standing (at_set false set)) (side_standings tr false) (side_standings tr true) (or_right false (list_any (same_standing (at_set false set)) (map (at_set false) (sets_in false))) there) in
          lt-ltb (value_of tr (at_set false set)) (suc (length (sets_in false))) (omega arith)
      at true (Some set) v =
          let e = value_set true set v in
          le-ltb (value_of tr (at_set true set)) (suc (length (sets_in false))) (omega arith)

  -- ---- rows

  module _ (waits : Bool) (walk : Walk) (walks : Walks (trigger_atoms tr) (side_of tr waits) walk) (start other : ℕ)
      (is_start : start ≡ cond waits (suc cause_count) 0) (is_other : other ≡ value_of tr (at_start (not waits))) where
    abbrev words : List ℕ
    words = map letter_of (sets_in waits)

    number_is : (set : Positions) → among set (all_sets (trigger_atoms tr) (side_of tr waits)) ≡ true →
        number_in walk.lasts words start other (letter_of set) ≡ value_of tr (settled waits (side_of tr waits) set)
    number_is set e = at (bit_and (letter_of set) walk.lasts == 0) (walks.lasts set)
      where
        at : (b : Bool) → has_last (side_of tr waits) set ≡ not b →
            cond b (start + 1 + place_in words (letter_of set)) other ≡ value_of tr (settled waits (side_of tr waits) set)
        at true is =
            ap (λ (n : ℕ). n + 1 + place_in words (letter_of set)) is_start
            ∙ sym (value_set waits set (filter_among (λ s. not (has_last (side_of tr waits) s)) set (all_sets (trigger_atoms tr) (side_of tr waits)) e (not_from_false (has_last (side_of tr waits) set) is)))
            ∙ ap (λ (b : Bool). value_of tr (cond b (at_start (not waits)) (at_set waits set))) (sym is)
        at false is = is_other ∙ ap (λ (b : Bool). value_of tr (cond b (at_start (not waits)) (at_set waits set))) (sym is)

    abbrev block : Standing → List ℕ
    block s = map (λ letter. value_of tr (standing_after tr (said_by (trigger_atoms tr) letter) s)) (letters (length (trigger_atoms tr)))

    row_is : (o : Option Positions) → IsValue tr waits o → (after : ℕ) → ((p : ℕ) → in_word after p ≡ has (next_positions (side_of tr waits) o) p) →
        row_of walk words start other after ≡ block (record { waits = waits; read = o })
    row_is o v after bits =
        let ps = next_positions (side_of tr waits) o in
        let read = λ (letter : List Bool). read_of (said_by (trigger_atoms tr) letter) ps 0 (brackets (side_of tr waits)) in
        map_words (number_in walk.lasts words start other) (bit_and after) walk.masks.items
        ∙ ap (map (number_in walk.lasts words start other)) (walks.masks ps after bits)
        ∙ map_sets (number_in walk.lasts words start other) read (letters (length (trigger_atoms tr)))
        ∙ map_alike (λ l. number_in walk.lasts words start other (letter_of (read l))) (λ l. value_of tr (settled waits (side_of tr waits) (read l))) (letters (length (trigger_atoms tr)))
        (λ l known. number_is (read l) (reached_next tr waits l known o v))

    set_rows : (vs : List Positions) → ((s : Positions) → among s vs ≡ true → among s (sets_in waits) ≡ true) →
        flat_map (λ set. row_of walk words start other (joined_word 0 walk.follow.items set)) (map letter_of vs) ≡ flat_map block (map (at_set waits) vs)
    set_rows [] each = refl
    set_rows (s ∷ vs) each =
        let here = each s (or_left (same s s) (among s vs) (same-refl s)) in
        ap₂ (λ (x y : List ℕ). x ++ y)
        (row_is (Some s) here (joined_word 0 walk.follow.items (letter_of s))
        (λ p. joined_is 0 walk.follow.items (letter_of s) p ∙ walks.follow s (value_sized waits s here) p))
        (set_rows vs (λ t e. each t (or_right (same s t) (among t vs) e)))

    pub rows_are : rows_of walk words start other ≡ flat_map block (side_standings tr waits)
    rows_are = ap₂ (λ (x y : List ℕ). x ++ y) (row_is None tt walk.firsts walks.firsts) (set_rows (sets_in waits) (λ s e. e))

  -- ---- the whole table

  module _ {X Y : Type 0} (f : Standing → X) (g : X → Y) (h : Standing → Y) (each : (s : Standing) → Valued tr s → g (f s) ≡ h s) where
    map_block : (s : Standing) → Valued tr s → (ls : List (List Bool)) → ((l : List Bool) → among l ls ≡ true → among l (letters (length (trigger_atoms tr))) ≡ true) →
        map g (map (λ letter. f (standing_after tr (said_by (trigger_atoms tr) letter) s)) ls) ≡ map (λ letter. h (standing_after tr (said_by (trigger_atoms tr) letter) s)) ls
    map_block s v [] known = refl
    map_block s v (l ∷ ls) known =
        ap₂ (λ (y : Y) (ys : List Y). y ∷ ys)
        (each (standing_after tr (said_by (trigger_atoms tr) l) s) (after_valued tr s l (known l (or_left (same l l) (among l ls) (same-refl l))) v))
        (map_block s v ls (λ m e. known m (or_right (same l m) (among m ls) e)))

    map_joined : (xs ys : List X) → map g (xs ++ ys) ≡ map g xs ++ map g ys
    map_joined [] ys = refl
    map_joined (x ∷ xs) ys = ap (λ (l : List Y). g x ∷ l) (map_joined xs ys)

    map_sets_of : (waits : Bool) (vs : List Positions) → ((s : Positions) → among s vs ≡ true → among s (sets_in waits) ≡ true) →
        map g (flat_map (λ s. map (λ letter. f (standing_after tr (said_by (trigger_atoms tr) letter) s)) (letters (length (trigger_atoms tr)))) (map (at_set waits) vs))
        ≡ flat_map (λ s. map (λ letter. h (standing_after tr (said_by (trigger_atoms tr) letter) s)) (letters (length (trigger_atoms tr)))) (map (at_set waits) vs)
    map_sets_of waits [] inside = refl
    map_sets_of waits (s ∷ vs) inside =
        map_joined (map (λ letter. f (standing_after tr (said_by (trigger_atoms tr) letter) (at_set waits s))) (letters (length (trigger_atoms tr))))
        (flat_map (λ s. map (λ letter. f (standing_after tr (said_by (trigger_atoms tr) letter) s)) (letters (length (trigger_atoms tr)))) (map (at_set waits) vs))
        ∙ ap₂ (λ (x y : List Y). x ++ y) (map_block (at_set waits s) (inside s (or_left (same s s) (among s vs) (same-refl s))) (letters (length (trigger_atoms tr))) (λ l e. e))
        (map_sets_of waits vs (λ t e. inside t (or_right (same s t) (among t vs) e)))

    map_side : (waits : Bool) →
        map g (flat_map (λ s. map (λ letter. f (standing_after tr (said_by (trigger_atoms tr) letter) s)) (letters (length (trigger_atoms tr)))) (side_standings tr waits))
        ≡ flat_map (λ s. map (λ letter. h (standing_after tr (said_by (trigger_atoms tr) letter) s)) (letters (length (trigger_atoms tr)))) (side_standings tr waits)
    map_side waits =
        map_joined (map (λ letter. f (standing_after tr (said_by (trigger_atoms tr) letter) (at_start waits))) (letters (length (trigger_atoms tr))))
        (flat_map (λ s. map (λ letter. f (standing_after tr (said_by (trigger_atoms tr) letter) s)) (letters (length (trigger_atoms tr)))) (map (at_set waits) (sets_in waits)))
        ∙ ap₂ (λ (x y : List Y). x ++ y) (map_block (at_start waits) tt (letters (length (trigger_atoms tr))) (λ l e. e)) (map_sets_of waits (sets_in waits) (λ s e. e))

    pub map_by : map g (by_standing tr f) ≡ by_standing tr h
    map_by =
        let bf = λ (s : Standing). map (λ letter. f (standing_after tr (said_by (trigger_atoms tr) letter) s)) (letters (length (trigger_atoms tr))) in
        let bh = λ (s : Standing). map (λ letter. h (standing_after tr (said_by (trigger_atoms tr) letter) s)) (letters (length (trigger_atoms tr))) in
        ap (map g) (flat_map-append bf (side_standings tr false) (side_standings tr true))
        ∙ map_joined (flat_map bf (side_standings tr false)) (flat_map bf (side_standings tr true))
        ∙ ap₂ (λ (x y : List Y). x ++ y) (map_side false) (map_side true)
        ∙ sym (flat_map-append bh (side_standings tr false) (side_standings tr true))

  pub goals_are : map (λ v. nat_lt v (suc cause_count)) (by_standing tr (value_of tr)) ≡ by_standing tr (λ s. not s.waits)
  goals_are = map_by (value_of tr) (λ v. nat_lt v (suc cause_count)) (λ s. not s.waits) value_waits

  module _ (cause effect : Walk) (cause_walks : Walks (trigger_atoms tr) (side_of tr false) cause) (effect_walks : Walks (trigger_atoms tr) (side_of tr true) effect) where
    pub next_are : (n : ℕ) → n ≡ suc cause_count →
        rows_of cause (map letter_of (sets_in false)) 0 n ++ rows_of effect (map letter_of (sets_in true)) n 0 ≡ by_standing tr (value_of tr)
    next_are n is =
        ap₂ (λ (x y : List ℕ). x ++ y)
        (rows_are false cause cause_walks 0 n refl (is ∙ sym (value_start true)))
        (rows_are true effect effect_walks n 0 is refl)
        ∙ sym (flat_map-append (λ s. map (λ letter. value_of tr (standing_after tr (said_by (trigger_atoms tr) letter) s)) (letters (length (trigger_atoms tr)))) (side_standings tr false) (side_standings tr true))

  pub values_count : length (standings tr) ≡ suc cause_count + suc (length (sets_in true))
  values_count = let a = side_length false in let b = side_length true in let e = length-append (side_standings tr false) (side_standings tr true) in omega arith

-- the words of the values
pub value_words : (atoms : List Formula) (w : Written) (walk : Walk) → Walks atoms w walk → (sets : List Positions) →
    filter (λ word. bit_and word walk.lasts == 0) (map letter_of sets) ≡ map letter_of (filter (λ set. not (has_last w set)) sets)
value_words atoms w walk walks [] = refl
value_words atoms w walk walks (s ∷ sets) = at (bit_and (letter_of s) walk.lasts == 0) (walks.lasts s) (value_words atoms w walk walks sets)
  where
    at : (b : Bool) → has_last w s ≡ not b → filter (λ word. bit_and word walk.lasts == 0) (map letter_of sets) ≡ map letter_of (filter (λ set. not (has_last w set)) sets) →
        cond b (letter_of s ∷ filter (λ word. bit_and word walk.lasts == 0) (map letter_of sets)) (filter (λ word. bit_and word walk.lasts == 0) (map letter_of sets))
        ≡ map letter_of (cond (not (has_last w s)) (s ∷ filter (λ set. not (has_last w set)) sets) (filter (λ set. not (has_last w set)) sets))
    at true is rest = ap (λ (l : List ℕ). letter_of s ∷ l) rest ∙ ap (λ (b : Bool). map letter_of (cond (not b) (s ∷ filter (λ set. not (has_last w set)) sets) (filter (λ set. not (has_last w set)) sets))) (sym is)
    at false is rest = rest ∙ ap (λ (b : Bool). map letter_of (cond (not b) (s ∷ filter (λ set. not (has_last w set)) sets) (filter (λ set. not (has_last w set)) sets))) (sym is)
