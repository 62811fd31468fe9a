-- Operators behind a first operand: those of the row at their end, and those before it.
use Rattle.std.proofs.Common.{◌≡◌, ℕ, zero, suc, ◌+◌, ◌-◌, ◌<◌, ◌≤◌, Bool, true, false, if◌then◌else◌, List, [], ◌∷◌, ◌++◌, length, map, take, drop, get_or, slice_get, IfSome, refl, sym, ap, subst, ◌∙◌, arith, length-append, append_assoc, append-nil}
use Rattle.std.specs.List.{list_all}
use Rattle.std.proofs.lemmas.Bool.{and_parts}
use Rattle.spectra_trees.specs.declared.tree.BinaryWord.{BinaryWord}
use Rattle.spectra_resolved.specs.declared.tree.Link.{Link}
use Rattle.spectra_resolved.specs.Resolved.{ResolvedTree}
use Rattle.spectra_resolved.specs.Chained.{LinkData, joined, chained}
use Rattle.spectra_resolved.specs.Views.{link_data}
use Rattle.spectra_copies.specs.Levels.{is_row_word}
use Rattle.spectra_judge.specs.Known.{Known}
use Rattle.spectra_cases.specs.Formulas.{is_comparing, binary_formula, side, formula_of}
use Rattle.spectra_cases.specs.Choices.{ChoiceOf, choices, operated, built}
use Rattle.spectra_cases.specs.Wholes.{front_choices}

-- ---- operators one after another

pub chained-append : (t : ResolvedTree) (xs ys : List LinkData) → chained t (xs ++ ys) ≡ chained (chained t xs) ys
chained-append t [] ys = refl
chained-append t (l ∷ xs) ys = chained-append (joined t l) xs ys

-- the operators up to one, and this one
pub taken_more : (ls : List Link) (n : ℕ) (l : Link) → n < length ls → l ≡ get_or ls n l → map link_data (take (n + 1) ls) ≡ map link_data (take n ls) ++ link_data l ∷ []
taken_more [] n l below is = absurd (omega arith)
taken_more (m ∷ ls) zero l below is = λ i. link_data (sym is i) ∷ []
taken_more (m ∷ ls) (suc n) l below is =
    let more : suc n + 1 ≡ suc (n + 1) = omega arith in
    ap (λ j. map link_data (take j (m ∷ ls))) more ∙ ap (λ xs. link_data m ∷ xs) (taken_more ls n l (omega arith) is)

pub chained_more : (t : ResolvedTree) (ls : List Link) (n : ℕ) (l : Link) → n < length ls → l ≡ get_or ls n l → chained t (map link_data (take (n + 1) ls)) ≡ joined (chained t (map link_data (take n ls))) (link_data l)
chained_more t ls n l below is = ap (chained t) (taken_more ls n l below is) ∙ chained-append t (map link_data (take n ls)) (link_data l ∷ [])

-- the last of several operators, and those before it
pub chained_last : (t : ResolvedTree) (ls : List Link) (l : Link) → 0 < length ls → l ≡ get_or ls (length ls - 1) l → chained t (map link_data ls) ≡ joined (chained t (map link_data (take (length ls - 1) ls))) (link_data l)
chained_last t ls l some is =
    let n = length ls - 1 in
    let more : n + 1 ≡ length ls = omega arith in
    sym (ap (λ xs. chained t (map link_data xs)) (ap (λ m. take m ls) more ∙ take_whole ls))
    ∙ chained_more t ls n l (omega arith) is
  where
    take_whole : (xs : List Link) → take (length xs) xs ≡ xs
    take_whole [] = refl
    take_whole (x ∷ xs) = ap (λ ys. x ∷ ys) (take_whole xs)

-- ---- the indexes of the row at their end

abbrev pub row_choices : Known → List LinkData → Bool → List ChoiceOf
row_choices k [] under = []
row_choices k (l ∷ ls) under = choices k l.second under ++ row_choices k ls under

abbrev pub are_row : List LinkData → Bool
are_row ls = list_all (λ (l : LinkData). is_row_word l.word) ls

-- an operator at a place, of which something holds
pub record LinkAt (ls : List Link) (n : ℕ) (P : Link → Type 0) : Type 0 where
  pub link : Link
  pub same : link ≡ get_or ls n link
  pub holds : P link

link_at : (ls : List Link) (n : ℕ) (P : Link → Type 0) → n < length ls → IfSome (slice_get ls n) P → LinkAt ls n P
link_at [] n P below holds = absurd (omega arith)
link_at (l ∷ ls) zero P below holds = record { link = l; same = refl; holds = holds }
link_at (l ∷ ls) (suc n) P below holds = let there = link_at ls n P (omega arith) holds in record { link = there.link; same = there.same; holds = there.holds }

-- those before a place, and those from it on
map-parted : (ls : List Link) (n : ℕ) → map link_data ls ≡ map link_data (take n ls) ++ map link_data (drop n ls)
map-parted ls zero = refl
map-parted [] (suc n) = refl
map-parted (l ∷ ls) (suc n) = ap (λ xs. link_data l ∷ xs) (map-parted ls n)

pub parted : (t : ResolvedTree) (ls : List Link) (n : ℕ) → chained t (map link_data ls) ≡ chained (chained t (map link_data (take n ls))) (map link_data (drop n ls))
parted t ls n = ap (chained t) (map-parted ls n) ∙ chained-append t (map link_data (take n ls)) (map link_data (drop n ls))

module _ (k : Known) where
  pub joined_choices : (t : ResolvedTree) (l : LinkData) (under : Bool) → is_row_word l.word ≡ true → choices k (joined t l) under ≡ choices k t under ++ choices k l.second under
  joined_choices t l under row = ap (λ b. if b then choices k t under ++ choices k l.second under else []) row

  pub none_joined : (t : ResolvedTree) (l : LinkData) (under : Bool) → is_row_word l.word ≡ false → choices k (joined t l) under ≡ []
  none_joined t l under row = ap (λ b. if b then choices k t under ++ choices k l.second under else []) row

  pub chained_choices : (t : ResolvedTree) (ls : List LinkData) (under : Bool) → are_row ls ≡ true → choices k (chained t ls) under ≡ choices k t under ++ row_choices k ls under
  chained_choices t [] under row = sym (append-nil (choices k t under))
  chained_choices t (l ∷ ls) under row =
      let parts = and_parts (is_row_word l.word) (are_row ls) row in
      chained_choices (joined t l) ls under parts.1
      ∙ ap (λ cs. cs ++ row_choices k ls under) (joined_choices t l under parts.0)
      ∙ append_assoc (choices k t under) (choices k l.second under) (row_choices k ls under)

  -- of what stands before the row there are those of the first operand alone, where no operator does
  pub front_is : (t : ResolvedTree) (ls : List Link) (before : ℕ) (under : Bool) → before ≤ length ls → (0 < before → IfSome (slice_get ls (before - 1)) (λ l. is_row_word l.word ≡ false))
      → choices k (chained t (map link_data (take before ls))) under ≡ front_choices k before t under
  front_is t ls zero under few last = refl
  front_is t ls (suc n) under few last =
      let less : suc n - 1 ≡ n = omega arith in
      let more : n + 1 ≡ suc n = omega arith in
      let there = link_at ls n (λ l. is_row_word l.word ≡ false) (omega arith) (subst (λ m. IfSome (slice_get ls m) (λ l. is_row_word l.word ≡ false)) less (last (omega arith))) in
      ap (λ m. choices k (chained t (map link_data (take m ls))) under) (sym more)
      ∙ ap (λ x. choices k x under) (chained_more t ls n there.link (omega arith) there.same)
      ∙ none_joined (chained t (map link_data (take n ls))) (link_data there.link) under there.holds

  pub all_choices : (t : ResolvedTree) (ls : List Link) (before : ℕ) (under : Bool) → before ≤ length ls → are_row (map link_data (drop before ls)) ≡ true
      → (0 < before → IfSome (slice_get ls (before - 1)) (λ l. is_row_word l.word ≡ false))
      → choices k (chained t (map link_data ls)) under ≡ front_choices k before t under ++ row_choices k (map link_data (drop before ls)) under
  all_choices t ls before under few row last =
      ap (λ x. choices k x under) (parted t ls before)
      ∙ chained_choices (chained t (map link_data (take before ls))) (map link_data (drop before ls)) under row
      ∙ ap (λ cs. cs ++ row_choices k (map link_data (drop before ls)) under) (front_is t ls before under few last)

  -- ---- elements in a row

  module _ (p : ℕ) where
    pub built_joined : (t : ResolvedTree) (l : LinkData) (picks : List ℕ) → is_row_word l.word ≡ true
        → built k p (joined t l) picks ≡ binary_formula l.word (built k p t picks) (built k p l.second (drop (length (choices k t false)) picks))
    built_joined t l picks row =
        ap (λ b. if b then binary_formula l.word (built k p t picks) (built k p l.second (drop (length (choices k t false)) picks)) else operated k p l.word t l.second) row

    pub built_apart : (t : ResolvedTree) (l : LinkData) (picks : List ℕ) → is_row_word l.word ≡ false → built k p (joined t l) picks ≡ operated k p l.word t l.second
    built_apart t l picks row =
        ap (λ b. if b then binary_formula l.word (built k p t picks) (built k p l.second (drop (length (choices k t false)) picks)) else operated k p l.word t l.second) row

    pub compared : (word : BinaryWord) (a b : ResolvedTree) → is_comparing word ≡ true → operated k p word a b ≡ side k p a false (λ f. side k p b false (λ g. binary_formula word f g))
    compared word a b is = ap (λ c. if c then side k p a false (λ f. side k p b false (λ g. binary_formula word f g)) else binary_formula word (formula_of k p a) (formula_of k p b)) is

    pub not_compared : (word : BinaryWord) (a b : ResolvedTree) → is_comparing word ≡ false → operated k p word a b ≡ binary_formula word (formula_of k p a) (formula_of k p b)
    not_compared word a b is = ap (λ c. if c then side k p a false (λ f. side k p b false (λ g. binary_formula word f g)) else binary_formula word (formula_of k p a) (formula_of k p b)) is

  pub joined_long : (t : ResolvedTree) (l : LinkData) → is_row_word l.word ≡ true → length (choices k (joined t l) false) ≡ length (choices k t false) + length (choices k l.second false)
  joined_long t l row = ap length (joined_choices t l false row) ∙ length-append (choices k t false) (choices k l.second false)

  pub apart_long : (t : ResolvedTree) (l : LinkData) → is_row_word l.word ≡ false → length (choices k (joined t l) false) ≡ 0
  apart_long t l row = ap length (none_joined t l false row)
