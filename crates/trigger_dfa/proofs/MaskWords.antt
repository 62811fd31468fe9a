-- The words of sets and letters.
use Rattle.std.proofs.Common.{◌≡◌, ℕ, zero, suc, ◌+◌, ◌*◌, ◌/◌, ◌%◌, ◌<◌, ◌≤◌, ◌==◌, ◌⊎◌, inl, inr, Bool, true, false, not, cond, ◌&&◌, ◌||◌, bit_and, bit_or, List, [], ◌∷◌, ◌++◌, flat_map, map, length, get_or, drop, refl, sym, ◌∙◌, ap, ap₂, subst, arith, append_assoc, append-nil}
use Rattle.std.proofs.lemmas.Bool.{or_cases, or_left, or_right, and_parts, false≢true, false_from_ne_true, eqb-true, eq-eqb, ne_eqb, cases_eq, cases_Bool}
use Rattle.std.proofs.lemmas.List.{map-append}
use Rattle.std.proofs.Math.Seq.{drop-cons}
use Rattle.std.proofs.lemmas.Nat.Bits.{bit_at_lowest, bit_at-suc}
use Rattle.std.specs.Int.{bit_at}
use Rattle.std.specs.List.{list_any}
use Rattle.spec_model.specs.Syntax.{Formula}
use Rattle.spec_model.specs.Sizes.{same_formula}
use Rattle.spec_model.specs.Games.{letter_of}
use Rattle.spec_model.specs.TriggerStates.{Written, Positions, brackets, lasts, has, members, read_of, letters, said_by, sets_from, has_last, different}
use Rattle.trigger_dfa.specs.Words.{in_word, tells, masks_of, joined, joined_word, with_new}
use Rattle.trigger_dfa.specs.Standings.{first_place}
use Rattle.trigger_dfa.specs.Sides.{is_atom}
use Rattle.trigger_dfa.proofs.Sets.{tells_range, last_of, of_last}
use Rattle.trigger_dfa.proofs.WordLemmas.{or_word, and_word, zero_word, when_word, same_words, has-append}
use Rattle.trigger_dfa.proofs.Parts.{or_both, and_both, or_false}
use Rattle.trigger_dfa.proofs.LaidParts.{same_truth, associated}
use Rattle.trigger_dfa.proofs.Different.{among, same, same-true, same-refl, among_cases, among_flat, AllDiffer, different_differ, different-append, different_kept, different_middle}

-- ---- the word of a list of truth values

word_first : (b : Bool) (n : ℕ) → in_word (cond b 1 0 + 2 * n) 0 ≡ b
word_first true n = let e : (1 + 2 * n) % 2 ≡ 1 = omega arith in ap (λ (x : ℕ). x == 1) (bit_at_lowest (1 + 2 * n) ∙ e)
word_first false n = let e : (0 + 2 * n) % 2 ≡ 0 = omega arith in ap (λ (x : ℕ). x == 1) (bit_at_lowest (0 + 2 * n) ∙ e)

word_later : (b : Bool) (n i : ℕ) → in_word (cond b 1 0 + 2 * n) (suc i) ≡ in_word n i
word_later true n i = let e : (1 + 2 * n) / 2 ≡ n = omega arith in ap (λ (x : ℕ). x == 1) (bit_at-suc (1 + 2 * n) i ∙ ap (λ (m : ℕ). bit_at m i) e)
word_later false n i = let e : (0 + 2 * n) / 2 ≡ n = omega arith in ap (λ (x : ℕ). x == 1) (bit_at-suc (0 + 2 * n) i ∙ ap (λ (m : ℕ). bit_at m i) e)

and_false : (a : Bool) → (a && false) ≡ false
and_false true = refl
and_false false = refl

other_number : (n k : ℕ) → (n == n + suc k) ≡ false
other_number n k = ne_eqb n (n + suc k) (λ e. omega arith)

-- the set that is read has a position exactly where it may be read, and its formula passes
pub read_word : (test : Formula → Bool) (ps : List ℕ) (n : ℕ) (es : List Formula) (i : ℕ) →
    in_word (letter_of (read_of test ps n es)) i ≡ (has ps (n + i) && tells test n es (n + i))
read_word test ps n [] i = zero_word i ∙ sym (and_false (has ps (n + i)))
read_word test ps n (e ∷ es) zero =
    let b = has ps n && test e in
    let past : tells test (suc n) es n ≡ false = false_from_ne_true (tells test (suc n) es n) (λ t. let r = tells_range test (suc n) es n t in omega (arith, r.0)) in
    let here : ((n == n && test e) || tells test (suc n) es n) ≡ test e = or_both (ap (λ (x : Bool). x && test e) (eq-eqb n n refl)) past ∙ sym (or_false (test e)) in
    word_first b (letter_of (read_of test ps (suc n) es))
    ∙ ap (λ (x : Bool). has ps n && x) (sym here)
    ∙ (let z : n ≡ n + 0 = omega arith in ap (λ (m : ℕ). has ps m && ((n == m && test e) || tells test (suc n) es m)) z)
read_word test ps n (e ∷ es) (suc i) =
    let b = has ps n && test e in
    let there : suc n + i ≡ n + suc i = omega arith in
    word_later b (letter_of (read_of test ps (suc n) es)) i
    ∙ read_word test ps (suc n) es i
    ∙ ap (λ (m : ℕ). has ps m && tells test (suc n) es m) there
    ∙ ap (λ (x : Bool). has ps (n + suc i) && ((x && test e) || tells test (suc n) es (n + suc i))) (sym (other_number n i))

members_below : (n : ℕ) (bs : Positions) → has (members (suc n) bs) n ≡ false
members_below n bs = false_from_ne_true (has (members (suc n) bs) n) (λ t. later (suc n) bs t (omega arith))
  where
    later : (k : ℕ) (bs : Positions) → has (members k bs) n ≡ true → n < k → ⊥
    later k [] t l = false≢true t
    later k (true ∷ bs) t l =
        elim (or_cases (k == n) (has (members (suc k) bs) n) t) [
          | inl e ↦ let s = eqb-true k n e in omega arith
          | inr m ↦ later (suc k) bs m (omega arith)
        ]
    later k (false ∷ bs) t l = later (suc k) bs t (omega arith)

pub member_word : (n : ℕ) (set : Positions) (i : ℕ) → in_word (letter_of set) i ≡ has (members n set) (n + i)
member_word n [] i = zero_word i
member_word n (true ∷ set) zero =
    word_first true (letter_of set) ∙ (let z : n ≡ n + 0 = omega arith in sym (or_left (n == n + 0) (has (members (suc n) set) (n + 0)) (eq-eqb n (n + 0) z)))
member_word n (false ∷ set) zero =
    word_first false (letter_of set) ∙ sym (members_below n set) ∙ (let z : n ≡ n + 0 = omega arith in ap (λ (m : ℕ). has (members (suc n) set) m) z)
member_word n (true ∷ set) (suc i) =
    let there : suc n + i ≡ n + suc i = omega arith in
    word_later true (letter_of set) i ∙ member_word (suc n) set i ∙ ap (λ (m : ℕ). has (members (suc n) set) m) there
    ∙ ap (λ (x : Bool). x || has (members (suc n) set) (n + suc i)) (sym (other_number n i))
member_word n (false ∷ set) (suc i) =
    let there : suc n + i ≡ n + suc i = omega arith in
    word_later false (letter_of set) i ∙ member_word (suc n) set i ∙ ap (λ (m : ℕ). has (members (suc n) set) m) there

pub letter_same : (a b : List Bool) → length a ≡ length b → letter_of a ≡ letter_of b → a ≡ b
letter_same [] [] l e = refl
letter_same [] (y ∷ b) l e = absurd (omega arith)
letter_same (x ∷ a) [] l e = absurd (omega arith)
letter_same (true ∷ a) (true ∷ b) l e = ap (λ (t : List Bool). true ∷ t) (letter_same a b (omega arith) (omega arith))
letter_same (false ∷ a) (false ∷ b) l e = ap (λ (t : List Bool). false ∷ t) (letter_same a b (omega arith) (omega arith))
letter_same (true ∷ a) (false ∷ b) l e = absurd (omega arith)
letter_same (false ∷ a) (true ∷ b) l e = absurd (omega arith)

-- ---- masks

-- the positions whose formula the letter makes true
abbrev pub choose : List ℕ → List Bool → ℕ
choose [] bs = 0
choose (w ∷ ws) [] = 0
choose (w ∷ ws) (b ∷ bs) = cond b (bit_or (choose ws bs) w) (choose ws bs)

masks_double : (w : ℕ) (ws : List ℕ) (ls : List (List Bool)) →
    flat_map (λ (m : ℕ). m ∷ bit_or m w ∷ []) (map (choose ws) ls) ≡ map (choose (w ∷ ws)) (flat_map (λ (bs : List Bool). (false ∷ bs) ∷ (true ∷ bs) ∷ []) ls)
masks_double w ws [] = refl
masks_double w ws (l ∷ ls) = ap (λ (t : List ℕ). choose ws l ∷ bit_or (choose ws l) w ∷ t) (masks_double w ws ls)

pub masks_are : (ws : List ℕ) → masks_of ws ≡ map (choose ws) (letters (length ws))
masks_are [] = refl
masks_are (w ∷ ws) = ap (flat_map (λ (m : ℕ). m ∷ bit_or m w ∷ [])) (masks_are ws) ∙ masks_double w ws (letters (length ws))

choose_none : (ws : List ℕ) (bs : List Bool) (p : ℕ) → ((k : ℕ) → k < length ws → in_word (get_or ws k 0) p ≡ false) → in_word (choose ws bs) p ≡ false
choose_none [] bs p each = zero_word p
choose_none (w ∷ ws) [] p each = zero_word p
choose_none (w ∷ ws) (true ∷ bs) p each =
    or_word (choose ws bs) w p ∙ or_both (choose_none ws bs p (λ k l. each (suc k) (omega arith))) (each 0 (omega arith))
choose_none (w ∷ ws) (false ∷ bs) p each = choose_none ws bs p (λ k l. each (suc k) (omega arith))

suc_eq : (x k : ℕ) → (suc x == suc k) ≡ (x == k)
suc_eq x k = elim (cases_eq x k) [ inl e ↦ eq-eqb (suc x) (suc k) (ap suc e) ∙ sym (eq-eqb x k e) | inr o ↦ ne_eqb (suc x) (suc k) (λ e. o (omega arith)) ∙ sym (ne_eqb x k o) ]

choose_said : (atoms : List Formula) (ws : List ℕ) (bs : List Bool) (e : Formula) (p : ℕ) → length ws ≡ length atoms → length bs ≡ length atoms →
    ((k : ℕ) → k < length atoms → in_word (get_or ws k 0) p ≡ (first_place (λ a. same_formula a e) atoms == k)) →
    in_word (choose ws bs) p ≡ said_by atoms bs e
choose_said [] [] bs e p lw lb each = zero_word p
choose_said [] (w ∷ ws) bs e p lw lb each = absurd (omega arith)
choose_said (a ∷ more) [] bs e p lw lb each = absurd (omega arith)
choose_said (a ∷ more) (w ∷ ws) [] e p lw lb each = absurd (omega arith)
choose_said (a ∷ more) (w ∷ ws) (b ∷ bs) e p lw lb each = at b (same_formula a e) (each 0 (omega arith)) (λ k l. each (suc k) (omega arith)) (choose_said more ws bs e p (omega arith) (omega arith))
  where
    at : (b s : Bool) → in_word w p ≡ (cond s 0 (suc (first_place (λ a. same_formula a e) more)) == 0) →
        ((k : ℕ) → k < length more → in_word (get_or ws k 0) p ≡ (cond s 0 (suc (first_place (λ a. same_formula a e) more)) == suc k)) →
        (((k : ℕ) → k < length more → in_word (get_or ws k 0) p ≡ (first_place (λ a. same_formula a e) more == k)) → in_word (choose ws bs) p ≡ said_by more bs e) →
        in_word (cond b (bit_or (choose ws bs) w) (choose ws bs)) p ≡ cond s b (said_by more bs e)
    at true true first others rest =
        or_word (choose ws bs) w p ∙ or_both {a = in_word (choose ws bs) p} (choose_none ws bs p (λ k l. others k (omega arith) ∙ ne_eqb 0 (suc k) (λ e. omega arith))) (first ∙ eq-eqb 0 0 refl)
    at false true first others rest = choose_none ws bs p (λ k l. others k (omega arith) ∙ ne_eqb 0 (suc k) (λ e. omega arith))
    at true false first others rest =
        or_word (choose ws bs) w p
        ∙ or_both (rest (λ k l. others k l ∙ suc_eq (first_place (λ a. same_formula a e) more) k)) (first ∙ ne_eqb (suc (first_place (λ a. same_formula a e) more)) 0 (λ e. omega arith))
        ∙ sym (or_false (said_by more bs e))
    at false false first others rest = rest (λ k l. others k l ∙ suc_eq (first_place (λ a. same_formula a e) more) k)

-- a position has no formula, or one
tells_one : (n : ℕ) (es : List Formula) (p : ℕ) → ((test : Formula → Bool) → tells test n es p ≡ false) ⊎ ((e : Formula) × ((test : Formula → Bool) → tells test n es p ≡ test e))
tells_one n [] p = inl (λ test. refl)
tells_one n (x ∷ es) p =
    elim (cases_eq n p) [
      | inl same ↦ inr (
        x,
        λ test.
            let past : tells test (suc n) es p ≡ false = false_from_ne_true (tells test (suc n) es p) (λ t. let r = tells_range test (suc n) es p t in omega (arith, r.0, same)) in
            or_both (ap (λ (b : Bool). b && test x) (eq-eqb n p same)) past ∙ sym (or_false (test x)),
      )
      | inr other ↦ elim (tells_one (suc n) es p) [
        | inl none ↦ inl (λ test. or_both (ap (λ (b : Bool). b && test x) (ne_eqb n p other)) (none test))
        | inr one ↦ inr (one.0, λ test. or_both (ap (λ (b : Bool). b && test x) (ne_eqb n p other)) (one.1 test))
      ]
    ]

pub mask_tells : (atoms es : List Formula) (ws : List ℕ) (bs : List Bool) (p : ℕ) → length ws ≡ length atoms → length bs ≡ length atoms →
    ((k : ℕ) → k < length atoms → in_word (get_or ws k 0) p ≡ tells (is_atom atoms k) 0 es p) →
    in_word (choose ws bs) p ≡ tells (said_by atoms bs) 0 es p
mask_tells atoms es ws bs p lw lb each =
    elim (tells_one 0 es p) [
      | inl none ↦ choose_none ws bs p (λ k l. each k (omega arith) ∙ none (is_atom atoms k)) ∙ sym (none (said_by atoms bs))
      | inr one ↦ choose_said atoms ws bs one.0 p lw lb (λ k l. each k l ∙ one.1 (is_atom atoms k)) ∙ sym (one.1 (said_by atoms bs))
    ]

-- ---- what a set's positions are followed by

joined_none : (n : ℕ) (ws : List ℕ) (word p : ℕ) → ((i : ℕ) → in_word word (n + i) ≡ false) → joined n ws word p ≡ false
joined_none n [] word p each = refl
joined_none n (w ∷ ws) word p each =
    or_both (ap (λ (b : Bool). b && in_word w p) (ap (in_word word) (let z : n ≡ n + 0 = omega arith in z) ∙ each 0))
    (joined_none (suc n) ws word p (λ i. ap (in_word word) (let s : suc n + i ≡ n + suc i = omega arith in s) ∙ each (suc i)))

pub joined_members : (f : ℕ → List ℕ) (n : ℕ) (ws : List ℕ) (set : Positions) (word p : ℕ) → ((i : ℕ) → in_word word (n + i) ≡ in_word (letter_of set) i) →
    ((i : ℕ) → i < length set → in_word (get_or ws i 0) p ≡ has (f (n + i)) p) → length set ≤ length ws →
    joined n ws word p ≡ has (flat_map f (members n set)) p
joined_members f n ws [] word p bits each room = joined_none n ws word p (λ i. bits i ∙ zero_word i)
joined_members f n [] (b ∷ set) word p bits each room = absurd (omega arith)
joined_members f n (w ∷ ws) (b ∷ set) word p bits each room =
    let z : n ≡ n + 0 = omega arith in
    let here : in_word word n ≡ b = ap (in_word word) z ∙ bits 0 ∙ word_first b (letter_of set) in
    let first : in_word w p ≡ has (f n) p = each 0 (omega arith) ∙ ap (λ (m : ℕ). has (f m) p) (sym z) in
    let rest = joined_members f (suc n) ws set word p
    (λ i. ap (in_word word) (let s : suc n + i ≡ n + suc i = omega arith in s) ∙ bits (suc i) ∙ word_later b (letter_of set) i)
    (λ i l. each (suc i) (omega arith) ∙ ap (λ (m : ℕ). has (f m) p) (let s : n + suc i ≡ suc n + i = omega arith in s)) (omega arith) in
    or_both (and_both here first) rest ∙ at b
  where
    at : (b : Bool) → ((b && has (f n) p) || has (flat_map f (members (suc n) set)) p) ≡ has (flat_map f (cond b (n ∷ members (suc n) set) (members (suc n) set))) p
    at true = sym (has-append (f n) (flat_map f (members (suc n) set)) p)
    at false = refl

pub join_step : (words : List ℕ) (k set all piece p : ℕ) → k < length words → piece ≡ cond (in_word set k) (get_or words k 0) 0 →
    (in_word (bit_or all piece) p || joined (k + 1) (drop (k + 1) words) set p) ≡ (in_word all p || joined k (drop k words) set p)
join_step words k set all piece p below is =
    let word = get_or words k 0 in
    let next : k + 1 ≡ suc k = omega arith in
    ap (λ (n : ℕ). in_word (bit_or all piece) p || joined n (drop n words) set p) next
    ∙ or_both {b = joined (suc k) (drop (suc k) words) set p} (or_word all piece p ∙ or_both {a = in_word all p} refl (ap (λ (n : ℕ). in_word n p) is ∙ when_word (in_word set k) word p)) refl
    ∙ associated (in_word all p) (in_word set k && in_word word p) (joined (suc k) (drop (suc k) words) set p)
    ∙ ap (λ (l : List ℕ). in_word all p || joined k l set p) (sym (drop-cons words k 0 below))

pub joined_is : (n : ℕ) (words : List ℕ) (set p : ℕ) → in_word (joined_word n words set) p ≡ joined n words set p
joined_is n [] set p = zero_word p
joined_is n (w ∷ words) set p =
    or_word (cond (in_word set n) w 0) (joined_word (suc n) words set) p ∙ or_both (when_word (in_word set n) w p) (joined_is (suc n) words set p)

pub join_end : (words : List ℕ) (k set all : ℕ) → k ≡ length words → ((p : ℕ) → (in_word all p || joined k (drop k words) set p) ≡ joined 0 words set p) → all ≡ joined_word 0 words set
join_end words k set all end each =
    let none : drop k words ≡ [] = ap (λ (n : ℕ). drop n words) end ∙ drop_all words in
    same_words all (joined_word 0 words set) (λ p.
    or_false (in_word all p) ∙ ap (λ (l : List ℕ). in_word all p || joined k l set p) (sym none) ∙ each p ∙ sym (joined_is 0 words set p))
  where
    drop_all : (xs : List ℕ) → drop (length xs) xs ≡ []
    drop_all [] = refl
    drop_all (x ∷ xs) = drop_all xs

-- ---- last positions

none_last : (w : Written) (set : Positions) (word : ℕ) → ((p : ℕ) → in_word word p ≡ has (lasts 0 w) p) → has_last w set ≡ not (bit_and (letter_of set) word == 0)
none_last w set word is =
    elim (cases_eq (bit_and (letter_of set) word) 0) [
      | inl zero' ↦
          false_from_ne_true (has_last w set) (λ t.
          let l = last_of w set t in
          let both : (in_word (letter_of set) l.0 && in_word word l.0) ≡ true = and_both (member_word 0 set l.0 ∙ ap (λ (m : ℕ). has (members 0 set) m) (let z : 0 + l.0 ≡ l.0 = omega arith in z) ∙ l.1) (is l.0 ∙ l.2) in
          false≢true (sym (zero_word l.0) ∙ ap (λ (m : ℕ). in_word m l.0) (sym zero') ∙ and_word (letter_of set) word l.0 ∙ both))
          ∙ ap not (sym (eq-eqb (bit_and (letter_of set) word) 0 zero'))
      | inr some ↦
          same_truth (has_last w set) true (λ t. refl) (λ t. elim (cases_Bool (has_last w set)) [
            | inl yes' ↦ yes'
            | inr none ↦ absurd (some (same_words (bit_and (letter_of set) word) 0 (λ p.
                and_word (letter_of set) word p
                ∙ false_from_ne_true (in_word (letter_of set) p && in_word word p) (λ t.
                let q = and_parts (in_word (letter_of set) p) (in_word word p) t in
                let m : has (members 0 set) p ≡ true = sym (member_word 0 set p ∙ ap (λ (m : ℕ). has (members 0 set) m) (let z : 0 + p ≡ p = omega arith in z)) ∙ q.0 in
                false≢true (sym none ∙ of_last w set p m (sym (is p) ∙ q.1)))
                ∙ sym (zero_word p))))
          ])
          ∙ ap not (sym (ne_eqb (bit_and (letter_of set) word) 0 some))
    ]

pub last_word : (w : Written) (set : Positions) (word : ℕ) → ((p : ℕ) → in_word word p ≡ has (lasts 0 w) p) → has_last w set ≡ not (bit_and (letter_of set) word == 0)
last_word = none_last

-- ---- the sets that are read, as words

letters_sized : (k : ℕ) (l : List Bool) → among l (letters k) ≡ true → length l ≡ k
letters_sized zero l e = elim (or_cases (same [] l) false e) [ inl s ↦ ap length (sym (same-true [] l s)) | inr f ↦ absurd (false≢true f) ]
letters_sized (suc k) l e =
    let s = among_flat (λ bs. (false ∷ bs) ∷ (true ∷ bs) ∷ []) l (letters k) e in
    let sized = letters_sized k s.0 s.1 in
    elim (or_cases (same (false ∷ s.0) l) (same (true ∷ s.0) l || false) s.2) [
      | inl x ↦ ap length (sym (same-true (false ∷ s.0) l x)) ∙ ap suc sized
      | inr y ↦ elim (or_cases (same (true ∷ s.0) l) false y) [
        | inl x ↦ ap length (sym (same-true (true ∷ s.0) l x)) ∙ ap suc sized
        | inr f ↦ absurd (false≢true f)
      ]
    ]

map_alike : (f g : List Bool → ℕ) (ls : List (List Bool)) → ((l : List Bool) → among l ls ≡ true → f l ≡ g l) → map f ls ≡ map g ls
map_alike f g [] each = refl
map_alike f g (l ∷ ls) each =
    ap₂ (λ (x : ℕ) (xs : List ℕ). x ∷ xs) (each l (or_left (same l l) (among l ls) (same-refl l))) (map_alike f g ls (λ m e. each m (or_right (same l m) (among m ls) e)))

map_twice : (f : List Bool → ℕ) (h : ℕ → ℕ) (ls : List (List Bool)) → map h (map f ls) ≡ map (λ l. h (f l)) ls
map_twice f h [] = refl
map_twice f h (l ∷ ls) = ap (λ (xs : List ℕ). h (f l) ∷ xs) (map_twice f h ls)

map_letters : (f : List Bool → Positions) (ls : List (List Bool)) → map letter_of (map f ls) ≡ map (λ l. letter_of (f l)) ls
map_letters f [] = refl
map_letters f (l ∷ ls) = ap (λ (xs : List ℕ). letter_of (f l) ∷ xs) (map_letters f ls)

module _ (atoms : List Formula) (w : Written) (meant : List ℕ) (sized : length meant ≡ length atoms)
    (means : (k p : ℕ) → k < length atoms → in_word (get_or meant k 0) p ≡ tells (is_atom atoms k) 0 (brackets w) p) where
  pub read_is : (ps : List ℕ) (word : ℕ) → ((p : ℕ) → in_word word p ≡ has ps p) → (l : List Bool) → length l ≡ length atoms →
      bit_and word (choose meant l) ≡ letter_of (read_of (said_by atoms l) ps 0 (brackets w))
  read_is ps word is l sized_l =
      same_words (bit_and word (choose meant l)) (letter_of (read_of (said_by atoms l) ps 0 (brackets w))) (λ p.
      and_word word (choose meant l) p
      ∙ and_both (is p) (mask_tells atoms (brackets w) meant l p sized sized_l (λ k below. means k p below))
      ∙ (let z : p ≡ 0 + p = omega arith in ap (λ (m : ℕ). has ps m && tells (said_by atoms l) 0 (brackets w) m) z)
      ∙ sym (read_word (said_by atoms l) ps 0 (brackets w) p))

  pub words_from : (ps : List ℕ) (word : ℕ) → ((p : ℕ) → in_word word p ≡ has ps p) → map (bit_and word) (masks_of meant) ≡ map letter_of (sets_from atoms w ps)
  words_from ps word is =
      ap (map (bit_and word)) (masks_are meant ∙ ap (λ (k : ℕ). map (choose meant) (letters k)) sized)
      ∙ map_twice (choose meant) (bit_and word) (letters (length atoms))
      ∙ map_alike (λ l. bit_and word (choose meant l)) (λ l. letter_of (read_of (said_by atoms l) ps 0 (brackets w))) (letters (length atoms))
      (λ l e. read_is ps word is l (letters_sized (length atoms) l e))
      ∙ sym (map_letters (λ l. read_of (said_by atoms l) ps 0 (brackets w)) (letters (length atoms)))

-- ---- new ones at the end

any_word : (m : ℕ) (x : Positions) → length x ≡ m → (sets : List Positions) → ((s : Positions) → among s sets ≡ true → length s ≡ m) →
    list_any (λ y. y == letter_of x) (map letter_of sets) ≡ among x sets
any_word m x sx [] each = refl
any_word m x sx (s ∷ sets) each =
    or_both
    (same_truth (letter_of s == letter_of x) (same s x)
    (λ e. subst (λ (t : Positions). same s t ≡ true) (letter_same s x (each s (or_left (same s s) (among s sets) (same-refl s)) ∙ sym sx) (eqb-true (letter_of s) (letter_of x) e)) (same-refl s))
    (λ e. eq-eqb (letter_of s) (letter_of x) (ap letter_of (same-true s x e))))
    (any_word m x sx sets (λ t e. each t (or_right (same s t) (among t sets) e)))

pub with_new_sets : (m : ℕ) (sets new : List Positions) → AllDiffer sets → ((s : Positions) → among s sets ≡ true → length s ≡ m) → ((s : Positions) → among s new ≡ true → length s ≡ m) →
    with_new (map letter_of sets) (map letter_of new) ≡ map letter_of (different (sets ++ new))
with_new_sets m sets [] d old fresh = ap (map letter_of) (sym (different_kept sets d) ∙ ap different (sym (append-nil sets)))
with_new_sets m sets (x ∷ new) d old fresh =
    let sx = fresh x (or_left (same x x) (among x new) (same-refl x)) in
    let fresh' = λ (s : Positions) (e : among s new ≡ true). fresh s (or_right (same x s) (among s new) e) in
    ap (λ (b : Bool). with_new (cond b (map letter_of sets) (map letter_of sets ++ letter_of x ∷ [])) (map letter_of new)) (any_word m x sx sets old)
    ∙ at (among x sets) refl sx fresh' (with_new_sets m sets new d old) (λ d' old'. with_new_sets m (sets ++ x ∷ []) new d' old')
  where
    at : (b : Bool) → among x sets ≡ b → length x ≡ m → ((s : Positions) → among s new ≡ true → length s ≡ m) →
        (((s : Positions) → among s new ≡ true → length s ≡ m) → with_new (map letter_of sets) (map letter_of new) ≡ map letter_of (different (sets ++ new))) →
        (AllDiffer (sets ++ x ∷ []) → ((s : Positions) → among s (sets ++ x ∷ []) ≡ true → length s ≡ m) → ((s : Positions) → among s new ≡ true → length s ≡ m) →
        with_new (map letter_of (sets ++ x ∷ [])) (map letter_of new) ≡ map letter_of (different ((sets ++ x ∷ []) ++ new))) →
        with_new (cond b (map letter_of sets) (map letter_of sets ++ letter_of x ∷ [])) (map letter_of new) ≡ map letter_of (different (sets ++ x ∷ new))
    at true is sx fresh' kept more =
        kept fresh'
        ∙ ap (map letter_of) (sym (different_middle sets (x ∷ []) new (λ y e. elim (or_cases (same x y) false e) [
          | inl s ↦ subst (λ (z : Positions). among z sets ≡ true) (same-true x y s) is
          | inr f ↦ absurd (false≢true f)
        ])))
    at false is sx fresh' kept more =
        let joined_sets : different (sets ++ x ∷ []) ≡ sets ++ x ∷ [] =
        different-append sets (x ∷ []) ∙ ap₂ (λ (a b : List Positions). a ++ b) (different_kept sets d) (ap (λ (b : Bool). cond (not b) (x ∷ []) []) is) in
        ap (λ (ws : List ℕ). with_new ws (map letter_of new)) (sym (map-append letter_of sets (x ∷ [])))
        ∙ more (subst AllDiffer joined_sets (different_differ (sets ++ x ∷ [])))
        (λ s e. elim (among_cases s sets (x ∷ []) e) [
          | inl l ↦ old s l
          | inr r ↦ elim (or_cases (same x s) false r) [ inl t ↦ ap length (sym (same-true x s t)) ∙ sx | inr f ↦ absurd (false≢true f) ]
        ])
        fresh'
        ∙ ap (λ (l : List Positions). map letter_of (different l)) (append_assoc sets (x ∷ []) new)
