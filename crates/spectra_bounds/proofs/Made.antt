-- What is made of each definition from what is made of those that it uses: an order, in which each stands behind those, finds
-- it one by one.
use Rattle.std.proofs.Common.{◌≡◌, inl, inr, ℕ, zero, suc, ◌+◌, ◌<◌, ◌≤◌, Bool, true, false, if◌then◌else◌, List, [], Some, length, map, get_or, eqb, set, refl, sym, ap, subst, ◌∙◌, arith}
use Rattle.std.specs.Prelude.{slice_get, option_map, unwrap_or}
use Rattle.std.specs.List.{enumerate_from}
use Rattle.std.proofs.lemmas.Bool.{cases_lt, eqb-true, eqb-false, true≢false}
use Rattle.std.proofs.lemmas.Option.{same_Some, slice_get-map, slice_get-get_or, slice_get_within, slice_get_cases, get_or_from_slice_get}
use Rattle.std.proofs.lemmas.List.{length-map, get_or-map, get_or_past, get_or-set_same, get_or-set_other, ext_get_or}
use Rattle.std.proofs.lemmas.List.FromFn.{length-enumerate_from, get_or-enumerate_from}
use Rattle.std.proofs.Math.ListN.{length-set}
use Rattle.spectra_uses.specs.Cycles.{reaches, AreOnCycle}
use Rattle.spectra_uses.specs.Orders.{StandsBefore, IsUse, IsOrderOf}
use Rattle.spectra_bounds.specs.ByUses.{is_on_cycle, made_to_depth, made_by_uses}

-- two lists say the same of each of several numbers
abbrev pub AgreeOn : {V : Type 0} → (nothing : V) → (f g : List V) → List ℕ → Type 0
AgreeOn nothing f g us = (i u : ℕ) → slice_get us i ≡ Some u → get_or f u nothing ≡ get_or g u nothing

-- a table has what is wanted of all that stands in an order before a place
pub record HasMade {X : Type 0} (nothing : X) (wanted : List X) (order : List ℕ) (place : ℕ) (table : List X) : Type 0 where
  pub long : length table ≡ length wanted
  pub done : (j u : ℕ) → j < place → slice_get order j ≡ Some u → get_or table u nothing ≡ get_or wanted u nothing

-- ---- tables

-- what stands in an order at a place, as the code reads it
pub stands : (order : List ℕ) (place : ℕ) → place < length order → slice_get order place ≡ Some (get_or order place 0)
stands order place lt = slice_get-get_or order place 0 lt

module _ {X : Type 0} (nothing : X) (wanted : List X) (order : List ℕ) where
  pub none_made : (table : List X) → length table ≡ length wanted → HasMade nothing wanted order 0 table
  none_made table long = record { long = long; done = (λ j u before there. absurd (omega arith)) }

  pub one_more : (place k : ℕ) (table : List X) (x : X) → HasMade nothing wanted order place table → k < length wanted → slice_get order place ≡ Some k → x ≡ get_or wanted k nothing
      → HasMade nothing wanted order (place + 1) (set table k x)
  one_more place k table x has lt here value = record { long = length-set table k x ∙ has.long; done = (λ j u before there. by j u before there (eqb u k) refl) }
    where
      same : (j u : ℕ) → j < place + 1 → slice_get order j ≡ Some u → (u ≡ k → ⊥) → get_or table u nothing ≡ get_or wanted u nothing
      same j u before there other = elim (cases_lt j place) [
        | inl lt ↦ has.done j u lt there
        | inr ge ↦ let at : j ≡ place = omega arith in absurd (other (same_Some u k (sym there ∙ ap (slice_get order) at ∙ here)))
      ]

      within : k < length table
      within = let long = has.long in omega arith

      by : (j u : ℕ) → j < place + 1 → slice_get order j ≡ Some u → (b : Bool) → eqb u k ≡ b → get_or (set table k x) u nothing ≡ get_or wanted u nothing
      by j u before there true e =
          let is = eqb-true u k e in ap (λ v. get_or (set table k x) v nothing) is ∙ get_or-set_same table k x nothing within ∙ value ∙ ap (λ v. get_or wanted v nothing) (sym is)
      by j u before there false e = let other = eqb-false u k e in get_or-set_other table k u x nothing other ∙ same j u before there other

  -- a table with all that stands in the order is what is wanted
  pub all_made : ((k : ℕ) → k < length wanted → StandsBefore order (length order) k) → (table : List X) → HasMade nothing wanted order (length order) table → table ≡ wanted
  all_made whole table has = ext_get_or nothing table wanted has.long (λ k lt. let s = whole k (let long = has.long in omega arith) in has.done s.at k s.before s.there)

-- ---- what is made

module _ {D V : Type 0} (uses_of : D → List ℕ) (nothing : V) (make : List V → D → V) (local : (f g : List V) (d : D) → AgreeOn nothing f g (uses_of d) → make f d ≡ make g d) (ds : List D) (order : List ℕ) (ordered : IsOrderOf (map uses_of ds) (length ds) order) where
  abbrev uses : List (List ℕ)
  uses = map uses_of ds

  abbrev deep : ℕ → List V
  deep n = made_to_depth uses nothing make n ds

  -- all that is made
  abbrev pub made : List V
  made = made_by_uses uses nothing make ds

  -- what is made of one from a list
  abbrev pub value : List V → ℕ → D → V
  value f k d = if is_on_cycle uses k then nothing else make f d

  count : length uses ≡ length ds
  count = length-map ds uses_of

  within : (k : ℕ) (d : D) → slice_get ds k ≡ Some d → k < length ds
  within k d there = slice_get_within ds k d there

  deep-length : (n : ℕ) → length (deep (suc n)) ≡ length ds
  deep-length n = length-map (enumerate_from 0 ds) _ ∙ length-enumerate_from 0 ds

  deep-at : (n k : ℕ) (d : D) → slice_get ds k ≡ Some d → get_or (deep (suc n)) k nothing ≡ value (deep n) k d
  deep-at n k d there =
      let lt = within k d there in
      let numbered : (zero + k, get_or ds k d) ≡ (k, d) = (λ i. (omega-zero k i, get_or_from_slice_get ds k d d there i)) in
      get_or-map (λ (p : ℕ × D). value (deep n) p.0 p.1) (enumerate_from 0 ds) k (0, d) nothing (let long = length-enumerate_from 0 ds in omega arith)
      ∙ ap (λ (p : ℕ × D). value (deep n) p.0 p.1) (get_or-enumerate_from 0 ds k (0, d) lt ∙ numbered)
    where
      omega-zero : (k : ℕ) → zero + k ≡ k
      omega-zero k = omega arith

  deep-past : (n k : ℕ) → length ds ≤ k → get_or (deep n) k nothing ≡ nothing
  deep-past zero k h = refl
  deep-past (suc n) k h = let long = deep-length n in get_or_past (deep (suc n)) k nothing (omega arith)

  -- what a definition uses
  use_there : (k : ℕ) (d : D) → slice_get ds k ≡ Some d → (i u : ℕ) → slice_get (uses_of d) i ≡ Some u → IsUse uses k u
  use_there k d there i u found =
      record {
        at = i;
        there = (λ j. slice_get (unwrap_or ((slice_get-map uses_of ds k ∙ ap (option_map uses_of) there) j) []) i) ∙ found;
      }

  -- lists agree on what one uses that isn't used in its own body, where they agree on what stands before it, and past the end
  pub agree_at : {X : Type 0} (none : X) (f g : List X) (i k : ℕ) (d : D) → slice_get order i ≡ Some k → slice_get ds k ≡ Some d → is_on_cycle uses k ≡ false
      → ((j u : ℕ) → j < i → slice_get order j ≡ Some u → get_or f u none ≡ get_or g u none)
      → ((u : ℕ) → length ds ≤ u → get_or f u none ≡ get_or g u none)
      → AgreeOn none f g (uses_of d)
  agree_at none f g i k d here there free before after p u found = elim (cases_lt u (length ds)) [
    | inl lt ↦ elim (ordered.behind i k u here (use_there k d there p u found) lt) [
      | inl s ↦ before s.at u s.before s.there
      | inr both ↦ absurd (true≢false (sym both.user_is ∙ ap (λ n. reaches uses n k k) (sym count) ∙ free))
    ]
    | inr past ↦ after u past
  ]

  value-agreed : (f g : List V) (i k : ℕ) (d : D) → slice_get order i ≡ Some k → slice_get ds k ≡ Some d
      → ((j u : ℕ) → j < i → slice_get order j ≡ Some u → get_or f u nothing ≡ get_or g u nothing)
      → ((u : ℕ) → length ds ≤ u → get_or f u nothing ≡ get_or g u nothing)
      → value f k d ≡ value g k d
  value-agreed f g i k d here there before after = by (is_on_cycle uses k) refl
    where
      by : (b : Bool) → is_on_cycle uses k ≡ b → (if b then nothing else make f d) ≡ (if b then nothing else make g d)
      by true e = refl
      by false e = local f g d (agree_at nothing f g i k d here there e before after)

  -- behind its place in the order the depth no longer matters
  deep-settled : (most i k : ℕ) → i < most → slice_get order i ≡ Some k → (n m : ℕ) → i < n → i < m → get_or (deep n) k nothing ≡ get_or (deep m) k nothing
  deep-settled zero i k h here n m p q = absurd (omega arith)
  deep-settled (suc most) i k h here zero m p q = absurd (omega arith)
  deep-settled (suc most) i k h here (suc n) zero p q = absurd (omega arith)
  deep-settled (suc most) i k h here (suc n) (suc m) p q = elim ((slice_get_cases ds k).1) [
    | inl found ↦
        deep-at n k found.0 found.2
        ∙ value-agreed (deep n) (deep m) i k found.0 here found.2 (λ j u lt there. deep-settled most j u (omega arith) there n m (omega arith) (omega arith))
        (λ u past. deep-past n u past ∙ sym (deep-past m u past))
        ∙ sym (deep-at m k found.0 found.2)
    | inr past ↦ let lt = ordered.within i k here in let ge = past.0 in absurd (omega arith)
  ]

  pub made-length : length made ≡ length ds
  made-length = by (length ds) refl
    where
      by : (n : ℕ) → n ≡ length ds → length (made_to_depth uses nothing make n ds) ≡ length ds
      by zero e = e
      by (suc n) e = deep-length n

  pub made-past : (k : ℕ) → length ds ≤ k → get_or made k nothing ≡ nothing
  made-past k h = deep-past (length ds) k h

  -- so do a table with what stands before it and what is wanted
  pub agree_there : {X : Type 0} (none : X) (wanted table : List X) (i k : ℕ) (d : D) → length wanted ≡ length ds → HasMade none wanted order i table
      → slice_get order i ≡ Some k → slice_get ds k ≡ Some d → is_on_cycle uses k ≡ false → AgreeOn none table wanted (uses_of d)
  agree_there none wanted table i k d long has here there free =
      agree_at none table wanted i k d here there free has.done
      (λ u past. get_or_past table u none (let same = has.long in omega arith) ∙ sym (get_or_past wanted u none (omega arith)))

  -- each is made from all that is made
  pub made-at : (k : ℕ) (d : D) → slice_get ds k ≡ Some d → get_or made k nothing ≡ value made k d
  made-at k d there =
      let s = ordered.whole k (within k d there) in
      let before = s.before in
      let size = ordered.size in
      deep-settled (suc s.at) s.at k (omega arith) s.there (length ds) (suc (length ds)) (omega arith) (omega arith) ∙ deep-at (length ds) k d there

-- the order of a list's data is that of the list
pub ordered_data : {X D : Type 0} (see : X → D) (xs : List X) (uses : List (List ℕ)) (order : List ℕ) → IsOrderOf uses (length xs) order → IsOrderOf uses (length (map see xs)) order
ordered_data see xs uses order ordered = subst (λ n. IsOrderOf uses n order) (sym (length-map xs see)) ordered

-- a mark says whether the definition is used in its own body
pub marked_at : (uses : List (List ℕ)) (count : ℕ) (table : List Bool) (k : ℕ) (b : Bool) → count ≡ length uses → AreOnCycle uses count table → k < count → b ≡ get_or table k b → b ≡ is_on_cycle uses k
marked_at uses count table k b same are lt is =
    is ∙ get_or_from_slice_get table k (reaches uses count k k) b (are.each k lt) ∙ ap (λ n. reaches uses n k k) same

-- one of a list stands in its data
pub read_data : {X Y : Type 0} (see : X → Y) (xs : List X) (k : ℕ) (x : X) → k < length xs → x ≡ get_or xs k x → slice_get (map see xs) k ≡ Some (see x)
read_data see xs k x lt read = slice_get-map see xs k ∙ ap (option_map see) (slice_get-get_or xs k x lt) ∙ ap (λ y. Some (see y)) (sym read)
