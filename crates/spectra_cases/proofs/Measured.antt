-- What is measured of operators behind a first operand, and of several expressions, one after another.
use Rattle.std.proofs.Common.{◌≡◌, ℕ, zero, suc, ◌+◌, ◌-◌, ◌<◌, ◌≤◌, max, Bool, true, false, ◌&&◌, if◌then◌else◌, nat_le, List, [], ◌∷◌, ◌++◌, length, map, take, drop, get_or, slice_get, IfSome, inl, inr, refl, sym, ap, subst, ◌∙◌, arith}
use Rattle.std.proofs.lemmas.Bool.{and_parts, cases_lt}
use Rattle.std.proofs.lemmas.Bool.Decides.{nat_tests}
use Rattle.spectra_resolved.specs.declared.tree.Link.{Link}
use Rattle.spectra_resolved.specs.Resolved.{ResolvedTree}
use Rattle.spectra_resolved.specs.Chained.{chained, trees}
use Rattle.spectra_resolved.specs.Views.{resolved_data, link_data}
use Rattle.spectra_copies.specs.Levels.{is_row_word}
use Rattle.spectra_judge.specs.Known.{Known}
use Rattle.spectra_cases.specs.Sizes.{SizeOf, held, link_side, under_row, together, closed, measured, each_measured}
use Rattle.spectra_cases.proofs.Rows.{are_row, chained_more}

-- an operator from a place on, where all of these are of a row
pub row_at : (ls : List Link) (before n : ℕ) (l : Link) → are_row (map link_data (drop before ls)) ≡ true → before ≤ n → n < length ls → l ≡ get_or ls n l → is_row_word l.word ≡ true
row_at [] before n l row behind below is = absurd (omega arith)
row_at (m ∷ ls) zero zero l row behind below is = ap (λ (x : Link). is_row_word x.word) is ∙ (and_parts (is_row_word (link_data m).word) (are_row (map link_data ls)) row).0
row_at (m ∷ ls) zero (suc n) l row behind below is = row_at ls zero n l (and_parts (is_row_word (link_data m).word) (are_row (map link_data ls)) row).1 (omega arith) (omega arith) is
row_at (m ∷ ls) (suc before) zero l row behind below is = absurd (omega arith)
row_at (m ∷ ls) (suc before) (suc n) l row behind below is = row_at ls before n l row (omega arith) (omega arith) is

-- the operator before them, which is none of a row
pub not_row_at : (ls : List Link) (n : ℕ) (l : Link) → IfSome (slice_get ls n) (λ l. is_row_word l.word ≡ false) → n < length ls → l ≡ get_or ls n l → is_row_word l.word ≡ false
not_row_at [] n l none below is = absurd (omega arith)
not_row_at (m ∷ ls) zero l none below is = ap (λ (x : Link). is_row_word x.word) is ∙ none
not_row_at (m ∷ ls) (suc n) l none below is = not_row_at ls n l none (omega arith) is

none_under : (b : Bool) → (b && false) ≡ false
none_under true = refl
none_under false = refl

module _ (ls : List Link) (before : ℕ) (row : are_row (map link_data (drop before ls)) ≡ true) (last : 0 < before → IfSome (slice_get ls (before - 1)) (λ l. is_row_word l.word ≡ false)) (n : ℕ) (l : Link)
    (below : n < length ls) (is : l ≡ get_or ls n l) (under : Bool) where
  -- the operands of an operator of the row are under the `next`, and those before it aren't
  under_flag : under_row l.word (under && nat_le before (n + 1)) ≡ (under && nat_le before n)
  under_flag = elim (cases_lt n before) [
    | inl later ↦ elim (cases_lt (n + 1) before) [
      | inl much ↦
          let first : nat_le before (n + 1) ≡ false = grind (arith, nat_tests) in
          let second : nat_le before n ≡ false = grind (arith, nat_tests) in
          ap (λ b. under_row l.word (under && b)) first
          ∙ ap (under_row l.word) (none_under under)
          ∙ flat (is_row_word l.word)
          ∙ sym (ap (λ b. under && b) second ∙ none_under under)
      | inr here ↦
          let same : before - 1 ≡ n = omega arith in
          let second : nat_le before n ≡ false = grind (arith, nat_tests) in
          let apart = not_row_at ls n l (subst (λ m. IfSome (slice_get ls m) (λ l. is_row_word l.word ≡ false)) same (last (omega arith))) below is in
          ap (λ b. if b then under && nat_le before (n + 1) else false) apart
          ∙ sym (ap (λ b. under && b) second ∙ none_under under)
    ]
    | inr inside ↦
        let first : nat_le before (n + 1) ≡ true = grind (arith, nat_tests) in
        let second : nat_le before n ≡ true = grind (arith, nat_tests) in
        ap (λ b. if b then under && nat_le before (n + 1) else false) (row_at ls before n l row inside below is)
        ∙ ap (λ b. under && b) (first ∙ sym second)
  ]
    where
      flat : (b : Bool) → (if b then false else false) ≡ false
      flat true = refl
      flat false = refl

  pub measured_more : (k : Known) (t : ResolvedTree) → measured k (chained t (map link_data (take (n + 1) ls))) (under && nat_le before (n + 1))
      ≡ link_side l.word (measured k (chained t (map link_data (take n ls))) (under && nat_le before n)) (measured k (resolved_data l.second) (under && nat_le before n))
  measured_more k t =
      ap (λ x. measured k x (under && nat_le before (n + 1))) (chained_more t ls n l below is)
      ∙ ap (λ u. link_side l.word (measured k (chained t (map link_data (take n ls))) u) (measured k (resolved_data l.second) u)) under_flag

-- ---- several expressions

pub together_assoc : (a b c : SizeOf) → together (together a b) c ≡ together a (together b c)
together_assoc a b c =
    λ i. record { nodes = nodes a.nodes b.nodes c.nodes i; levels = levels a.levels b.levels c.levels i }
  where
    nodes : (x y z : ℕ) → held (held (x + y) + z) ≡ held (x + held (y + z))
    nodes x y z = omega arith

    levels : (x y z : ℕ) → max (max x y) z ≡ max x (max y z)
    levels x y z = omega arith

turned : (a : SizeOf) → together a (record { nodes = 0; levels = 0 }) ≡ together (record { nodes = 0; levels = 0 }) a
turned a = λ i. record { nodes = nodes a.nodes i; levels = levels a.levels i }
  where
    nodes : (x : ℕ) → held (x + 0) ≡ held (0 + x)
    nodes x = omega arith

    levels : (x : ℕ) → max x 0 ≡ max 0 x
    levels x = omega arith

-- one more behind several
pub measured_push : (k : Known) (ts : List ResolvedTree) (t : ResolvedTree) → each_measured k (trees (ts ++ t ∷ [])) ≡ together (each_measured k (trees ts)) (closed (measured k t false))
measured_push k [] t = turned (closed (measured k t false))
measured_push k (x ∷ ts) t =
    ap (together (closed (measured k x false))) (measured_push k ts t) ∙ sym (together_assoc (closed (measured k x false)) (each_measured k (trees ts)) (closed (measured k t false)))

-- what is seen of elements up to one
pub taken_push : {X Y : Type 0} (f : X → Y) (xs : List X) (n : ℕ) (x : X) → n < length xs → x ≡ get_or xs n x → map f (take (n + 1) xs) ≡ map f (take n xs) ++ f x ∷ []
taken_push f [] n x below is = absurd (omega arith)
taken_push f (y ∷ xs) zero x below is = λ i. f (sym is i) ∷ []
taken_push f (y ∷ xs) (suc n) x below is =
    let more : suc n + 1 ≡ suc (n + 1) = omega arith in ap (λ j. map f (take j (y ∷ xs))) more ∙ ap (λ zs. f y ∷ zs) (taken_push f xs n x (omega arith) is)

-- all operators are measured at the end
pub in_all : (ls : List Link) (n before : ℕ) (under : Bool) (k : Known) (t : ResolvedTree) → before ≤ length ls → length ls ≤ n
    → measured k (chained t (map link_data (take n ls))) (under && nat_le before n) ≡ measured k (chained t (map link_data ls)) under
in_all ls n before under k t few end =
    let inside : nat_le before n ≡ true = grind (arith, nat_tests) in
    (λ i. measured k (chained t (map link_data (whole ls n end i))) (under && inside i)) ∙ ap (measured k (chained t (map link_data ls))) (and_true under)
  where
    whole : (xs : List Link) (m : ℕ) → length xs ≤ m → take m xs ≡ xs
    whole [] zero e = refl
    whole [] (suc m) e = refl
    whole (x ∷ xs) zero e = absurd (omega arith)
    whole (x ∷ xs) (suc m) e = ap (λ ys. x ∷ ys) (whole xs m (omega arith))

    and_true : (b : Bool) → (b && true) ≡ b
    and_true true = refl
    and_true false = refl
