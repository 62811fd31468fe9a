-- The sets that are met one after the other, as words.
use Rattle.std.proofs.Common.{◌≡◌, ℕ, zero, suc, ◌+◌, ◌^◌, ◌<◌, ◌≤◌, ◌==◌, inl, inr, Bool, true, false, not, cond, bit_and, List, [], ◌∷◌, ◌++◌, flat_map, map, length, get_or, take, drop, refl, sym, ◌∙◌, ap, subst, arith, append-nil, append_assoc, length-append}
use Rattle.std.proofs.lemmas.Bool.{or_left, or_right, false≢true}
use Rattle.std.proofs.lemmas.List.{take_more, length-map, get_or-map, get_or_append_left}
use Rattle.std.proofs.lemmas.List.Concat.{flat_map-append}
use Rattle.std.specs.List.{list_any}
use Rattle.std.proofs.Math.Seq.{drop-cons}
use Rattle.spec_model.specs.Syntax.{Formula}
use Rattle.spec_model.specs.Games.{letter_of}
use Rattle.spec_model.specs.TriggerStates.{Written, Positions, brackets, firsts, followers, members, sets_from, has_last, sets_after, different, reached_sets}
use Rattle.trigger_dfa.specs.declared.walk.Walk.{Walk}
use Rattle.trigger_dfa.specs.Words.{joined, joined_word, with_new}
use Rattle.trigger_dfa.specs.Standings.{all_sets}
use Rattle.trigger_dfa.specs.Walks.{Walks, followed_by}
use Rattle.trigger_dfa.proofs.Different.{among, same, same-refl, among_cases, among_left, among_right, among_flat, flat_among, AllDiffer, among_different, different_among, different_differ, no_longer, different_kept, different_once}
use Rattle.trigger_dfa.proofs.Reached.{after, from_start, sized, sized_from, reached_differ, met_by, met_first}
use Rattle.trigger_dfa.proofs.MaskWords.{with_new_sets, joined_is}

pub with_new_longer : (words xs : List ℕ) → length words ≤ length (with_new words xs)
with_new_longer words [] = omega arith
with_new_longer words (x ∷ xs) = at (list_any (λ y. y == x) words) (with_new_longer words xs) (with_new_longer (words ++ x ∷ []) xs)
  where
    at : (b : Bool) → length words ≤ length (with_new words xs) → length (words ++ x ∷ []) ≤ length (with_new (words ++ x ∷ []) xs) → length words ≤ length (with_new (cond b words (words ++ x ∷ [])) xs)
    at true same more = same
    at false same more = let l = length-append words (x ∷ []) in omega arith

pub followed_longer : (walk : Walk) (set : ℕ) (words : List ℕ) → length words ≤ length (followed_by walk set words)
followed_longer walk set words = at (bit_and set walk.lasts == 0)
  where
    at : (b : Bool) → length words ≤ length (cond b (with_new words (map (bit_and (joined_word 0 walk.follow.items set)) walk.masks.items)) words)
    at true = with_new_longer words (map (bit_and (joined_word 0 walk.follow.items set)) walk.masks.items)
    at false = omega arith

module _ (atoms : List Formula) (w : Written) where
  -- what was met is among all sets, at the same places
  short : (k : ℕ) → length (met_by atoms w k) ≤ length (all_sets atoms w)
  short k = let m = met_first atoms w k in omega (arith, ap length m.1, length-append (met_by atoms w k) m.0)

  met_differ : (k : ℕ) → AllDiffer (met_by atoms w k)
  met_differ k = different_differ (from_start atoms w ++ after atoms w (take k (all_sets atoms w)))

  met_inside : (k : ℕ) (x : Positions) → among x (met_by atoms w k) ≡ true → among x (all_sets atoms w) ≡ true
  met_inside k x e = let m = met_first atoms w k in subst (λ (sets : List Positions). among x sets ≡ true) (sym m.1) (among_left x (met_by atoms w k) m.0 e)

  met_sized : (k : ℕ) (x : Positions) → among x (met_by atoms w k) ≡ true → length x ≡ length (brackets w)
  met_sized k x e = sized atoms w (2 ^ length (brackets w)) x (met_inside k x e)

  -- the set whose turn it is
  pub turn : ℕ → Positions
  turn k = get_or (all_sets atoms w) k []

  turn_met : (k : ℕ) → k < length (met_by atoms w k) → get_or (met_by atoms w k) k [] ≡ turn k
  unfolding turn
  turn_met k below =
      let m = met_first atoms w k in
      sym (ap (λ (sets : List Positions). get_or sets k []) m.1 ∙ get_or_append_left (met_by atoms w k) m.0 [] k below)

  pub turn_word : (k : ℕ) → k < length (met_by atoms w k) → get_or (map letter_of (met_by atoms w k)) k 0 ≡ letter_of (turn k)
  turn_word k below = get_or-map letter_of (met_by atoms w k) k [] 0 below ∙ ap letter_of (turn_met k below)

  at_place : (xs : List Positions) (k : ℕ) → k < length xs → among (get_or xs k []) xs ≡ true
  at_place [] k below = absurd (omega arith)
  at_place (x ∷ xs) zero below = or_left (same x x) (among x xs) (same-refl x)
  at_place (x ∷ xs) (suc k) below = or_right (same x (get_or xs k [])) (among (get_or xs k []) xs) (at_place xs k (omega arith))

  turn_sized : (k : ℕ) → k < length (met_by atoms w k) → length (turn k) ≡ length (brackets w)
  turn_sized k below = met_sized k (turn k) (subst (λ (x : Positions). among x (met_by atoms w k) ≡ true) (turn_met k below) (at_place (met_by atoms w k) k below))

  met_more : (k : ℕ) → k < length (met_by atoms w k) → met_by atoms w (k + 1) ≡ different (met_by atoms w k ++ sets_after atoms w (turn k))
  unfolding turn
  met_more k below =
      let inside : k < length (all_sets atoms w) = omega (arith, short k) in
      let one : take (k + 1) (all_sets atoms w) ≡ take k (all_sets atoms w) ++ get_or (all_sets atoms w) k [] ∷ [] = take_more (all_sets atoms w) k [] inside in
      let parts : after atoms w (take (k + 1) (all_sets atoms w)) ≡ after atoms w (take k (all_sets atoms w)) ++ sets_after atoms w (get_or (all_sets atoms w) k []) =
      ap (after atoms w) one ∙ flat_map-append (sets_after atoms w) (take k (all_sets atoms w)) (get_or (all_sets atoms w) k [] ∷ [])
      ∙ ap (λ (l : List Positions). after atoms w (take k (all_sets atoms w)) ++ l) (append-nil (sets_after atoms w (get_or (all_sets atoms w) k []))) in
      ap (λ (l : List Positions). different (from_start atoms w ++ l)) parts
      ∙ ap different (sym (append_assoc (from_start atoms w) (after atoms w (take k (all_sets atoms w))) (sets_after atoms w (get_or (all_sets atoms w) k []))))
      ∙ sym (different_once (from_start atoms w ++ after atoms w (take k (all_sets atoms w))) (sets_after atoms w (get_or (all_sets atoms w) k [])))

  -- when each set that was met had its turn, all were met
  pub met_all : (k : ℕ) → length (met_by atoms w k) ≡ k → met_by atoms w k ≡ all_sets atoms w
  met_all k done =
      let m = met_first atoms w k in
      let fits = no_longer (all_sets atoms w) (met_by atoms w k) (reached_differ atoms w (2 ^ length (brackets w))) (every (2 ^ length (brackets w))) in
      let none : length m.0 ≡ 0 = omega (arith, ap length m.1, length-append (met_by atoms w k) m.0, fits) in
      sym (m.1 ∙ ap (λ (l : List Positions). met_by atoms w k ++ l) (no_element m.0 none) ∙ append-nil (met_by atoms w k))
    where
      no_element : (xs : List Positions) → length xs ≡ 0 → xs ≡ []
      no_element [] e = refl
      no_element (x ∷ xs) e = absurd (omega arith)

      take_front : (xs ys : List Positions) → take (length xs) (xs ++ ys) ≡ xs
      take_front [] ys = refl
      take_front (x ∷ xs) ys = ap (λ (l : List Positions). x ∷ l) (take_front xs ys)

      taken : take k (all_sets atoms w) ≡ met_by atoms w k
      taken =
          let m = met_first atoms w k in
          ap (take k) m.1 ∙ ap (λ (n : ℕ). take n (met_by atoms w k ++ m.0)) (sym done) ∙ take_front (met_by atoms w k) m.0

      every : (j : ℕ) (x : Positions) → among x (reached_sets atoms w j) ≡ true → among x (met_by atoms w k) ≡ true
      every zero x e =
          different_among x (from_start atoms w ++ after atoms w (take k (all_sets atoms w))) (among_left x (from_start atoms w) (after atoms w (take k (all_sets atoms w))) (among_different x (from_start atoms w) e))
      every (suc j) x e =
          elim (among_cases x (reached_sets atoms w j) (after atoms w (reached_sets atoms w j)) (among_different x (reached_sets atoms w j ++ after atoms w (reached_sets atoms w j)) e)) [
            | inl before ↦ every j x before
            | inr new ↦
                let s = among_flat (sets_after atoms w) x (reached_sets atoms w j) new in
                let there : among s.0 (take k (all_sets atoms w)) ≡ true = subst (λ (sets : List Positions). among s.0 sets ≡ true) (sym taken) (every j s.0 s.1) in
                different_among x (from_start atoms w ++ after atoms w (take k (all_sets atoms w)))
                (among_right x (from_start atoms w) (after atoms w (take k (all_sets atoms w))) (flat_among (sets_after atoms w) s.0 x (take k (all_sets atoms w)) there s.2))
          ]

  -- ---- as words

  module _ (walk : Walk) (walks : Walks atoms w walk) where
    pub met_start : with_new [] (map (bit_and walk.firsts) walk.masks.items) ≡ map letter_of (met_by atoms w 0)
    met_start =
        ap (with_new []) (walks.masks (firsts 0 w) walk.firsts walks.firsts)
        ∙ with_new_sets (length (brackets w)) [] (from_start atoms w) tt (λ s e. absurd (false≢true e)) (sized_from atoms w (firsts 0 w))
        ∙ ap (λ (l : List Positions). map letter_of (different l)) (sym (append-nil (from_start atoms w)))

    -- a set with a last position is not gone on from
    pub met_last : (k word : ℕ) → k < length (met_by atoms w k) → word ≡ letter_of (turn k) → (bit_and word walk.lasts == 0) ≡ false → met_by atoms w (k + 1) ≡ met_by atoms w k
    met_last k word below is some =
        let last : has_last w (turn k) ≡ true = walks.lasts (turn k) ∙ ap (λ (n : ℕ). not (bit_and n walk.lasts == 0)) (sym is) ∙ ap not some in
        met_more k below
        ∙ ap (λ (b : Bool). different (met_by atoms w k ++ cond b [] (sets_from atoms w (flat_map (followers 0 w) (members 0 (turn k)))))) last
        ∙ ap different (append-nil (met_by atoms w k))
        ∙ different_kept (met_by atoms w k) (met_differ k)

    pub met_next : (k word : ℕ) → k < length (met_by atoms w k) → word ≡ letter_of (turn k) → (bit_and word walk.lasts == 0) ≡ true →
        with_new (map letter_of (met_by atoms w k)) (map (bit_and (joined_word 0 walk.follow.items word)) walk.masks.items) ≡ map letter_of (met_by atoms w (k + 1))
    met_next k word below is none =
        let open_set : has_last w (turn k) ≡ false = walks.lasts (turn k) ∙ ap (λ (n : ℕ). not (bit_and n walk.lasts == 0)) (sym is) ∙ ap not none in
        let ps = flat_map (followers 0 w) (members 0 (turn k)) in
        let positions = λ (p : ℕ). joined_is 0 walk.follow.items word p ∙ ap (λ (n : ℕ). joined 0 walk.follow.items n p) is ∙ walks.follow (turn k) (turn_sized k below) p in
        ap (with_new (map letter_of (met_by atoms w k))) (walks.masks ps (joined_word 0 walk.follow.items word) positions)
        ∙ with_new_sets (length (brackets w)) (met_by atoms w k) (sets_from atoms w ps) (met_differ k) (met_sized k) (sized_from atoms w ps)
        ∙ ap (map letter_of) (ap (λ (b : Bool). different (met_by atoms w k ++ cond b [] (sets_from atoms w ps))) (sym open_set) ∙ sym (met_more k below))

    -- the words after the turn of a set
    pub met_turn : (k word : ℕ) (words : List ℕ) → words ≡ map letter_of (met_by atoms w k) → k < length words → word ≡ get_or words k 0 →
        followed_by walk word words ≡ map letter_of (met_by atoms w (k + 1))
    met_turn k word words are below is =
        let inside : k < length (met_by atoms w k) = omega (arith, below, ap length are, length-map (met_by atoms w k) letter_of) in
        let here : word ≡ letter_of (turn k) = is ∙ ap (λ (l : List ℕ). get_or l k 0) are ∙ turn_word k inside in
        at (bit_and word walk.lasts == 0) refl inside here
      where
        at : (b : Bool) → (bit_and word walk.lasts == 0) ≡ b → k < length (met_by atoms w k) → word ≡ letter_of (turn k) →
            cond b (with_new words (map (bit_and (joined_word 0 walk.follow.items word)) walk.masks.items)) words ≡ map letter_of (met_by atoms w (k + 1))
        at true none inside here = ap (λ (l : List ℕ). with_new l (map (bit_and (joined_word 0 walk.follow.items word)) walk.masks.items)) are ∙ met_next k word inside here none
        at false some inside here = are ∙ ap (map letter_of) (sym (met_last k word inside here some))

    pub words_all : (k : ℕ) (words : List ℕ) → words ≡ map letter_of (met_by atoms w k) → length words ≡ k → words ≡ map letter_of (all_sets atoms w)
    words_all k words are end =
        are ∙ ap (map letter_of) (met_all k (omega (arith, ap length are, length-map (met_by atoms w k) letter_of, end)))

    pub too_many : (k limit : ℕ) (words : List ℕ) → words ≡ map letter_of (met_by atoms w k) → limit < length words → limit < length (all_sets atoms w)
    too_many k limit words are more = omega (arith, ap length are, length-map (met_by atoms w k) letter_of, short k, more)

    pub word_count : (k : ℕ) → length (map letter_of (met_by atoms w k)) ≤ length (all_sets atoms w)
    word_count k = omega (arith, short k, length-map (met_by atoms w k) letter_of)

-- ---- one word more

module _ (words masks : List ℕ) (i after : ℕ) (below : i < length masks) where
  one_word : with_new words (map (bit_and after) (drop i masks)) ≡ with_new (with_new words (bit_and after (get_or masks i 0) ∷ [])) (map (bit_and after) (drop (i + 1) masks))
  one_word =
      ap (λ (l : List ℕ). with_new words (map (bit_and after) l)) (drop-cons masks i 0 below)
      ∙ ap (λ (n : ℕ). with_new (with_new words (bit_and after (get_or masks i 0) ∷ [])) (map (bit_and after) (drop n masks))) (let e : suc i ≡ i + 1 = omega arith in e)

  pub one_more_word : (new : List ℕ) → new ≡ with_new words (bit_and after (get_or masks i 0) ∷ []) →
      with_new new (map (bit_and after) (drop (i + 1) masks)) ≡ with_new words (map (bit_and after) (drop i masks))
  one_more_word new is = ap (λ (l : List ℕ). with_new l (map (bit_and after) (drop (i + 1) masks))) is ∙ sym one_word

  pub past_limit : (limit : ℕ) → limit < length (with_new words (bit_and after (get_or masks i 0) ∷ [])) → limit < length (with_new words (map (bit_and after) (drop i masks)))
  past_limit limit more =
      let longer = with_new_longer (with_new words (bit_and after (get_or masks i 0) ∷ [])) (map (bit_and after) (drop (i + 1) masks)) in
      omega (arith, more, longer, ap length one_word)
