-- The reached sets of a side: after as many letters as there are sets no other set is reached.
use Rattle.std.proofs.Common.{◌≡◌, ℕ, zero, suc, ◌^◌, ◌<◌, ◌≤◌, ◌⊎◌, inl, inr, Bool, true, false, not, cond, ◌||◌, List, [], ◌∷◌, ◌++◌, filter, flat_map, map, length, take, drop, refl, sym, ◌∙◌, ap, subst, arith, append_assoc, take-append-drop, pow_pos}
use Rattle.std.proofs.lemmas.Bool.{or_cases, or_left, or_right, false≢true}
use Rattle.std.proofs.lemmas.List.{length-map}
use Rattle.std.proofs.lemmas.List.Concat.{flat_map-append}
use Rattle.spec_model.specs.Syntax.{Formula}
use Rattle.spec_model.specs.TriggerStates.{Written, Positions, brackets, firsts, followers, members, read_of, letters, said_by, sets_from, has_last, sets_after, different, reached_sets}
use Rattle.trigger_dfa.specs.Standings.{all_sets}
use Rattle.trigger_dfa.proofs.Different.{among, same, same-true, same-refl, among_cases, among_left, among_right, among_flat, AllDiffer, among_different, different_among, different_differ, no_longer, different-append, different_kept, different_within, different_once, different_middle}
use Rattle.trigger_dfa.proofs.Letters.{length-letters, letter_among}

-- ---- the size of a set

length-read : (test : Formula → Bool) (ps : List ℕ) (n : ℕ) (es : List Formula) → length (read_of test ps n es) ≡ length es
length-read test ps n [] = refl
length-read test ps n (e ∷ es) = ap suc (length-read test ps (suc n) es)

among_map : (f : List Bool → Positions) (x : Positions) (ls : List (List Bool)) → among x (map f ls) ≡ true → (l : List Bool) × (among l ls ≡ true) × (x ≡ f l)
among_map f x [] e = absurd (false≢true e)
among_map f x (l ∷ ls) e =
    elim (or_cases (same (f l) x) (among x (map f ls)) e) [
      | inl here ↦ (l, or_left (same l l) (among l ls) (same-refl l), sym (same-true (f l) x here))
      | inr later ↦ let more = among_map f x ls later in (more.0, or_right (same l more.0) (among more.0 ls) more.1, more.2)
    ]

pub map_among : (f : List Bool → Positions) (l : List Bool) (ls : List (List Bool)) → among l ls ≡ true → among (f l) (map f ls) ≡ true
map_among f l [] e = absurd (false≢true e)
map_among f l (k ∷ ls) e =
    elim (or_cases (same k l) (among l ls) e) [
      | inl here ↦ or_left (same (f k) (f l)) (among (f l) (map f ls)) (subst (λ (x : List Bool). same (f k) (f x) ≡ true) (same-true k l here) (same-refl (f k)))
      | inr later ↦ or_right (same (f k) (f l)) (among (f l) (map f ls)) (map_among f l ls later)
    ]

-- all pass, or one does not
outsider : (p : Positions → Bool) (xs : List Positions) → ((x : Positions) → among x xs ≡ true → p x ≡ true) ⊎ ((x : Positions) × (among x xs ≡ true) × (p x ≡ false))
outsider p [] = inl (λ x e. absurd (false≢true e))
outsider p (a ∷ xs) = at (p a) refl (outsider p xs)
  where
    at : (b : Bool) → p a ≡ b → ((x : Positions) → among x xs ≡ true → p x ≡ true) ⊎ ((x : Positions) × (among x xs ≡ true) × (p x ≡ false)) →
        ((x : Positions) → (same a x || among x xs) ≡ true → p x ≡ true) ⊎ ((x : Positions) × ((same a x || among x xs) ≡ true) × (p x ≡ false))
    at true is (inl all) =
        inl (λ x e. elim (or_cases (same a x) (among x xs) e) [
          | inl here ↦ subst (λ (y : Positions). p y ≡ true) (same-true a x here) is
          | inr later ↦ all x later
        ])
    at b is (inr other) = inr (other.0, or_right (same a other.0) (among other.0 xs) other.1, other.2)
    at false is (inl all) = inr (a, or_left (same a a) (among a xs) (same-refl a), is)

some_different : (xs : List Positions) → 0 < length xs → 0 < length (different xs)
some_different [] some = some
some_different (a ∷ xs) some = omega arith

module _ (atoms : List Formula) (w : Written) where
  abbrev pub after : List Positions → List Positions
  after sets = flat_map (sets_after atoms w) sets

  abbrev pub from_start : List Positions
  from_start = sets_from atoms w (firsts 0 w)

  pub sized_from : (ps : List ℕ) (x : Positions) → among x (sets_from atoms w ps) ≡ true → length x ≡ length (brackets w)
  sized_from ps x e =
      let l = among_map (λ letter. read_of (said_by atoms letter) ps 0 (brackets w)) x (letters (length atoms)) e in
      ap length l.2 ∙ length-read (said_by atoms l.0) ps 0 (brackets w)

  sized_after : (s x : Positions) → among x (sets_after atoms w s) ≡ true → length x ≡ length (brackets w)
  sized_after s x e = at (has_last w s) e
    where
      at : (b : Bool) → among x (cond b [] (sets_from atoms w (flat_map (followers 0 w) (members 0 s)))) ≡ true → length x ≡ length (brackets w)
      at true e = absurd (false≢true e)
      at false e = sized_from (flat_map (followers 0 w) (members 0 s)) x e

  pub sized : (k : ℕ) (x : Positions) → among x (reached_sets atoms w k) ≡ true → length x ≡ length (brackets w)
  sized zero x e = sized_from (firsts 0 w) x (among_different x from_start e)
  sized (suc k) x e =
      elim (among_cases x (reached_sets atoms w k) (after (reached_sets atoms w k)) (among_different x (reached_sets atoms w k ++ after (reached_sets atoms w k)) e)) [
        | inl before ↦ sized k x before
        | inr new ↦ let s = among_flat (sets_after atoms w) x (reached_sets atoms w k) new in sized_after s.0 x s.2
      ]

  pub reached_differ : (k : ℕ) → AllDiffer (reached_sets atoms w k)
  reached_differ zero = different_differ from_start
  reached_differ (suc k) = different_differ (reached_sets atoms w k ++ after (reached_sets atoms w k))

  pub not_more : (k : ℕ) → length (reached_sets atoms w k) ≤ 2 ^ length (brackets w)
  not_more k =
      let fits = no_longer (reached_sets atoms w k) (letters (length (brackets w))) (reached_differ k)
      (λ x e. subst (λ (n : ℕ). among x (letters n) ≡ true) (sized k x e) (letter_among x)) in
      omega (arith, fits, length-letters (length (brackets w)))

  abbrev Closed : ℕ → Type 0
  Closed k = (x : Positions) → among x (after (reached_sets atoms w k)) ≡ true → among x (reached_sets atoms w k) ≡ true

  closed_stays : (k : ℕ) → Closed k → reached_sets atoms w (suc k) ≡ reached_sets atoms w k
  closed_stays k c = different_within (reached_sets atoms w k) (after (reached_sets atoms w k)) c ∙ different_kept (reached_sets atoms w k) (reached_differ k)

  closed_next : (k : ℕ) → Closed k → Closed (suc k)
  closed_next k c = subst (λ (sets : List Positions). (x : Positions) → among x (after sets) ≡ true → among x sets ≡ true) (sym (closed_stays k c)) c

  longer : (k : ℕ) (x : Positions) → among x (after (reached_sets atoms w k)) ≡ true → among x (reached_sets atoms w k) ≡ false →
      suc (length (reached_sets atoms w k)) ≤ length (reached_sets atoms w (suc k))
  longer k x new out =
      no_longer (x ∷ reached_sets atoms w k) (reached_sets atoms w (suc k)) (out, reached_differ k)
      (λ y e. different_among y (reached_sets atoms w k ++ after (reached_sets atoms w k)) (elim (or_cases (same x y) (among y (reached_sets atoms w k)) e) [
        | inl here ↦ among_right y (reached_sets atoms w k) (after (reached_sets atoms w k)) (subst (λ (z : Positions). among z (after (reached_sets atoms w k)) ≡ true) (same-true x y here) new)
        | inr later ↦ among_left y (reached_sets atoms w k) (after (reached_sets atoms w k)) later
      ]))

  closed_or_longer : (k : ℕ) → Closed k ⊎ (k < length (reached_sets atoms w k))
  closed_or_longer zero =
      let many = length-map (letters (length atoms)) (λ letter. read_of (said_by atoms letter) (firsts 0 w) 0 (brackets w)) in
      let some : 0 < 2 ^ length atoms = pow_pos (length atoms) in
      inr (some_different from_start (omega (arith, many, some, length-letters (length atoms))))
  closed_or_longer (suc k) =
      elim (closed_or_longer k) [
        | inl c ↦ inl (closed_next k c)
        | inr more ↦ elim (outsider (λ x. among x (reached_sets atoms w k)) (after (reached_sets atoms w k))) [
          | inl all ↦ inl (closed_next k all)
          | inr other ↦ let l = longer k other.0 other.1 other.2 in inr (omega arith)
        ]
      ]

  -- what follows one of all sets is one of them
  pub all_closed : (x : Positions) → among x (after (all_sets atoms w)) ≡ true → among x (all_sets atoms w) ≡ true
  all_closed =
      elim (closed_or_longer (2 ^ length (brackets w))) [
        | inl c ↦ c
        | inr more ↦ absurd (omega (arith, more, not_more (2 ^ length (brackets w))))
      ]

  -- ---- in the order in which they are met

  split_sets : (k : ℕ) → (more : List Positions) × (reached_sets atoms w (suc k) ≡ reached_sets atoms w k ++ more)
  split_sets k = (
    filter (λ y. not (among y (reached_sets atoms w k))) (different (after (reached_sets atoms w k))),
    different-append (reached_sets atoms w k) (after (reached_sets atoms w k))
        ∙ ap (λ (l : List Positions). l ++ filter (λ y. not (among y (reached_sets atoms w k))) (different (after (reached_sets atoms w k)))) (different_kept (reached_sets atoms w k) (reached_differ k)),
  )

  next_from_start : (k : ℕ) → reached_sets atoms w (suc k) ≡ different (from_start ++ after (reached_sets atoms w k))
  next_from_start zero = different_once from_start (after (reached_sets atoms w zero))
  next_from_start (suc k) =
      let rk = reached_sets atoms w k in
      let rn = reached_sets atoms w (suc k) in
      let s = split_sets k in
      let parts : after rn ≡ after rk ++ after s.0 = ap after s.1 ∙ flat_map-append (sets_after atoms w) rk s.0 in
      ap (λ (l : List Positions). different (l ++ after rn)) (next_from_start k)
      ∙ different_once (from_start ++ after rk) (after rn)
      ∙ ap (λ (l : List Positions). different ((from_start ++ after rk) ++ l)) parts
      ∙ different_middle (from_start ++ after rk) (after rk) (after s.0) (among_right' rk)
      ∙ ap different (append_assoc from_start (after rk) (after s.0))
      ∙ ap (λ (l : List Positions). different (from_start ++ l)) (sym parts)
    where
      among_right' : (rk : List Positions) (x : Positions) → among x (after rk) ≡ true → among x (from_start ++ after rk) ≡ true
      among_right' rk x e = among_right x from_start (after rk) e

  pub all_from_start : (all_sets atoms w) ≡ different (from_start ++ after (all_sets atoms w))
  all_from_start = sym (closed_stays (2 ^ length (brackets w)) all_closed) ∙ next_from_start (2 ^ length (brackets w))

  -- the sets that are met once the start and the first few sets were looked at
  abbrev pub met_by : ℕ → List Positions
  met_by i = different (from_start ++ after (take i (all_sets atoms w)))

  pub met_first : (i : ℕ) → (more : List Positions) × ((all_sets atoms w) ≡ met_by i ++ more)
  met_first i =
      let parts : after (all_sets atoms w) ≡ after (take i (all_sets atoms w)) ++ after (drop i (all_sets atoms w)) =
      ap after (sym (take-append-drop i (all_sets atoms w))) ∙ flat_map-append (sets_after atoms w) (take i (all_sets atoms w)) (drop i (all_sets atoms w)) in (
        filter (λ y. not (among y (from_start ++ after (take i (all_sets atoms w))))) (different (after (drop i (all_sets atoms w)))),
        all_from_start
            ∙ ap (λ (l : List Positions). different (from_start ++ l)) parts
            ∙ ap different (sym (append_assoc from_start (after (take i (all_sets atoms w))) (after (drop i (all_sets atoms w)))))
            ∙ different-append (from_start ++ after (take i (all_sets atoms w))) (after (drop i (all_sets atoms w))),
      )
