-- What lists of regions weigh and stand for.
use Rattle.std.proofs.Common.{◌≡◌, ℕ, zero, suc, ◌+◌, ◌≤◌, ◌<◌, List, [], ◌∷◌, ◌++◌, map, length, get_or, take, sum, None, ap, sym, ◌∙◌, refl, subst, arith}
use Rattle.std.proofs.lemmas.List.{get_or-map, map-append}
use Rattle.std.proofs.lemmas.List.Sums.{sum-map, sum_by_more, sum_by_more_le}
use Rattle.spec_model.specs.Steps.{below}
use Rattle.spec_model.specs.Sets.{StateSet, no_states}
use Rattle.regions.specs.Kept.{Kept, Item, Region, Meaning, States, weight, HasRegion, HoldsBesides, MakesRegion, IsExact}
use Rattle.regions.proofs.Holding.{held_as, set_is}
use Rattle.gr1_sys.specs.Held.{weight_as, HasEach, HasTogether, MakesRegions, HoldsWithoutAll, SpendsAll, set_at, part_at, waiting}
use Rattle.gr1_sys.specs.Solution.{greatest_of}

pub length_map : {X Y : Type 0} (f : X → Y) (xs : List X) → length (map f xs) ≡ length xs
length_map f [] = refl
length_map f (x ∷ xs) = let rest = length_map f xs in omega arith

pub length_push : {X : Type 0} (xs : List X) (x : X) → length (xs ++ x ∷ []) ≡ length xs + 1
length_push [] x = refl
length_push (y ∷ ys) x = let rest = length_push ys x in omega arith

pub length_both : {X : Type 0} (xs ys : List X) → length (xs ++ ys) ≡ length xs + length ys
length_both [] ys = omega arith
length_both (x ∷ xs) ys = let rest = length_both xs ys in omega arith

-- the sum so far with the next is within the whole sum
pub next_within : {X : Type 0} (f : X → ℕ) (xs : List X) (i : ℕ) (d : X) → i < length xs → sum (map f (take i xs)) + f (get_or xs i d) ≤ sum (map f xs)
next_within f xs i d below = let bound = sum_by_more_le f xs i d below in omega (arith, sum-map f (take i xs), sum-map f xs)

pub next_sum : {X : Type 0} (f : X → ℕ) (xs : List X) (i : ℕ) (d : X) → i < length xs → sum (map f (take (i + 1) xs)) ≡ sum (map f (take i xs)) + f (get_or xs i d)
next_sum f xs i d below = let next = sum_by_more f xs i d below in omega (arith, sum-map f (take i xs), sum-map f (take (i + 1) xs))

pub length_below : (n : ℕ) → length (below n) ≡ n
length_below zero = refl
length_below (suc n) = let rest = length_below n in length_push (below n) n ∙ omega arith

module _ {R M : Type 0} where
  pub weight_as-append : (rs qs : List R) (ss ts : List StateSet) (w : Item R M → Meaning → ℕ) → length rs ≡ length ss → weight_as (rs ++ qs) (ss ++ ts) w ≡ weight_as rs ss w + weight_as qs ts w
  unfolding weight_as
  weight_as-append [] qs [] ts w e = omega arith
  weight_as-append [] qs (s ∷ ss) ts w e = absurd (omega arith)
  weight_as-append (r ∷ rs) qs [] ts w e = absurd (omega arith)
  weight_as-append (r ∷ rs) qs (s ∷ ss) ts w e = let rest = weight_as-append rs qs ss ts w (omega arith) in omega arith

  pub weight_as-one : (r : R) (s : StateSet) (w : Item R M → Meaning → ℕ) → weight_as (r ∷ []) (s ∷ []) w ≡ w (Region r) (States s)
  unfolding weight_as
  weight_as-one r s w = omega arith

  pub weight_as-more : (r : R) (rs : List R) (s : StateSet) (ss : List StateSet) (w : Item R M → Meaning → ℕ) → weight_as (r ∷ rs) (s ∷ ss) w ≡ w (Region r) (States s) + weight_as rs ss w
  unfolding weight_as
  weight_as-more r rs s ss w = refl

  pub weight_as-none : (w : Item R M → Meaning → ℕ) → weight_as [] [] w ≡ 0
  unfolding weight_as
  weight_as-none w = refl

  pub weight_as-push : (rs : List R) (ss : List StateSet) (r : R) (s : StateSet) (w : Item R M → Meaning → ℕ) → length rs ≡ length ss → weight_as (rs ++ r ∷ []) (ss ++ s ∷ []) w ≡ weight_as rs ss w + w (Region r) (States s)
  weight_as-push rs ss r s w e = weight_as-append rs (r ∷ []) ss (s ∷ []) w e ∙ ap (λ n. weight_as rs ss w + n) (weight_as-one r s w)

  -- likewise, as what they stand for
  pub weight_as_map-append : (f : R → StateSet) (rs qs : List R) (w : Item R M → Meaning → ℕ) → weight_as (rs ++ qs) (map f (rs ++ qs)) w ≡ weight_as rs (map f rs) w + weight_as qs (map f qs) w
  weight_as_map-append f rs qs w = ap (λ ss. weight_as (rs ++ qs) ss w) (map-append f rs qs) ∙ weight_as-append rs qs (map f rs) (map f qs) w (sym (length_map f rs))

  -- ---- what they stand for

  pub as_held : (k : Kept R M) (rs : List R) (ss : List StateSet) → IsExact k → length rs ≡ length ss → ((w : Item R M → Meaning → ℕ) → weight_as rs ss w ≤ weight k w) → map k.set rs ≡ ss
  unfolding weight_as
  as_held k [] [] exact e held = refl
  as_held k [] (s ∷ ss) exact e held = absurd (omega arith)
  as_held k (r ∷ rs) [] exact e held = absurd (omega arith)
  as_held k (r ∷ rs) (s ∷ ss) exact e held =
      let first = set_is k r s exact (λ w. omega (arith, held w)) in
      let rest = as_held k rs ss exact (omega arith) (λ w. omega (arith, held w)) in
      ap (λ t. t ∷ map k.set rs) first ∙ ap (λ ts. s ∷ ts) rest

  pub held_each : (k : Kept R M) (rs : List R) (ss : List StateSet) → length rs ≡ length ss → ((w : Item R M → Meaning → ℕ) → weight_as rs ss w ≤ weight k w) → HasEach k rs
  unfolding weight_as
  held_each k [] ss e held = tt
  held_each k (r ∷ rs) [] e held = absurd (omega arith)
  held_each k (r ∷ rs) (s ∷ ss) e held = (λ w. omega (arith, held (λ i m. w i)), held_each k rs ss (omega arith) (λ w. omega (arith, held w)))

  -- ---- one of several

  pub each_at : (k : Kept R M) (rs : List R) (i : ℕ) (d : R) → HasEach k rs → i < length rs → HasRegion k (get_or rs i d)
  each_at k [] i d each below = absurd (omega arith)
  each_at k (r ∷ rs) zero d each below = each.0
  each_at k (r ∷ rs) (suc i) d each below = each_at k rs i d each.1 (omega arith)

  pub one_of : (k : Kept R M) (rs : List R) (i : ℕ) (r : R) → HasEach k rs → i < length rs → r ≡ get_or rs i r → HasRegion k r
  one_of k rs i r each below is = subst (HasRegion k) (sym is) (each_at k rs i r each below)

  pub set_at_is : (k : Kept R M) (rs : List R) (i : ℕ) (r : R) → i < length rs → r ≡ get_or rs i r → set_at k rs i ≡ k.set r
  set_at_is k rs i r below is = get_or-map k.set rs i r no_states below ∙ ap k.set (sym is)

  -- ---- what stays while others come and go

  pub region_stays : (old new : Kept R M) (r : R) → ((w : Item R M → Meaning → ℕ) → weight old w ≤ weight new w) → HasRegion old r → HasRegion new r
  region_stays old new r more here w = omega (arith, here w, more (λ i m. w i))

  pub set_kept : (old new : Kept R M) (r : R) → IsExact new → ((w : Item R M → Meaning → ℕ) → weight old w ≤ weight new w) → HasRegion old r → new.set r ≡ old.set r
  set_kept old new r exact more here = set_is new r (old.set r) exact (λ w. omega (arith, held_as old (Region r) here w, more w))

  pub each_stays : (old new : Kept R M) (rs : List R) → ((w : Item R M → Meaning → ℕ) → weight old w ≤ weight new w) → HasEach old rs → HasEach new rs
  each_stays old new [] more each = tt
  each_stays old new (r ∷ rs) more each = (region_stays old new r more each.0, each_stays old new rs more each.1)

  pub sets_stay : (old new : Kept R M) (rs : List R) → IsExact new → ((w : Item R M → Meaning → ℕ) → weight old w ≤ weight new w) → HasEach old rs → map new.set rs ≡ map old.set rs
  sets_stay old new [] exact more each = refl
  sets_stay old new (r ∷ rs) exact more each = ap (λ t. t ∷ map new.set rs) (set_kept old new r exact more each.0) ∙ ap (λ ts. old.set r ∷ ts) (sets_stay old new rs exact more each.1)

  pub together_each : (k : Kept R M) (rs : List R) → HasTogether k rs → HasEach k rs
  together_each k rs held = held_each k rs (map k.set rs) (sym (length_map k.set rs)) held

  pub together_stays : (old new : Kept R M) (rs : List R) → IsExact new → ((w : Item R M → Meaning → ℕ) → weight old w ≤ weight new w) → HasTogether old rs → HasTogether new rs
  together_stays old new rs exact more held =
      subst (λ ss. (w : Item R M → Meaning → ℕ) → weight_as rs ss w ≤ weight new w) (sym (sets_stay old new rs exact more (together_each old rs held)))
      (λ w. omega (arith, held w, more w))

  -- ---- what is made and spent

  pub together_as : (k : Kept R M) (rs : List R) (ss : List StateSet) → IsExact k → length rs ≡ length ss → ((w : Item R M → Meaning → ℕ) → weight_as rs ss w ≤ weight k w) → HasTogether k rs
  together_as k rs ss exact counted held = subst (λ ts. (w : Item R M → Meaning → ℕ) → weight_as rs ts w ≤ weight k w) (sym (as_held k rs ss exact counted held)) held

  pub spent_as : (old new : Kept R M) (rs : List R) (ss : List StateSet) → IsExact old → length rs ≡ length ss → ((w : Item R M → Meaning → ℕ) → weight_as rs ss w ≤ weight old w) →
      SpendsAll old new rs → (w : Item R M → Meaning → ℕ) → weight new w + weight_as rs ss w ≡ weight old w
  spent_as old new rs ss exact counted held gone =
      subst (λ ts. (w : Item R M → Meaning → ℕ) → weight new w + weight_as rs ts w ≡ weight old w) (as_held old rs ss exact counted held) gone.held

  -- ---- several steps

  pub part_stays : (first k : Kept R M) (base lapse : R) (lapses : List R) (i : ℕ) → IsExact k → first.game ≡ k.game → ((w : Item R M → Meaning → ℕ) → weight first w ≤ weight k w) →
      HasRegion first base → HasEach first lapses → i < length lapses → lapse ≡ get_or lapses i lapse →
      greatest_of k.game (waiting k.game (k.set base) (k.set lapse)) ≡ part_at first base lapses i
  part_stays first k base lapse lapses i exact game more has_base has_lapses below is =
      let base_is = set_kept first k base exact more has_base in
      let lapse_is = set_kept first k lapse exact more (one_of first lapses i lapse has_lapses below is) ∙ sym (set_at_is first lapses i lapse below is) in
      ap (λ h. greatest_of h (waiting h (k.set base) (k.set lapse))) (sym game) ∙ (ap (λ t. greatest_of first.game (waiting first.game t (k.set lapse))) base_is ∙ ap (λ t. greatest_of first.game (waiting first.game (first.set base) t)) lapse_is)

  -- regions that were held as the call gave up, are spent
  pub takes_all : (k k1 k2 : Kept R M) (rs : List R) → IsExact k1 → HasTogether k rs → HoldsBesides k k1 [] → SpendsAll k1 k2 rs → HoldsWithoutAll k k2 rs
  takes_all k k1 k2 rs exact held halted gone =
      let left = spent_as k1 k2 rs (map k.set rs) exact (sym (length_map k.set rs)) (λ w. omega (arith, held w, halted w)) gone in
      λ w. omega (arith, left w, halted w)

  -- one more was made
  pub makes_more : (first k new : Kept R M) (rs : List R) (ss : List StateSet) (r : R) (s : StateSet) → MakesRegions first k rs ss → MakesRegion k new r s → MakesRegions first new (rs ++ r ∷ []) (ss ++ s ∷ [])
  makes_more first k new rs ss r s made more =
      record {
        held = λ w. omega (arith, made.held w, more.held w, weight_as-push rs ss r s w made.counted);
        counted = length_push rs r ∙ (ap (λ n. n + 1) made.counted ∙ sym (length_push ss s));
        jam = more.jam;
      }

  -- and all are spent
  pub made_and_spent_all : (first k k1 k2 : Kept R M) (rs : List R) (ss : List StateSet) → IsExact k1 → MakesRegions first k rs ss → HoldsBesides k k1 [] → SpendsAll k1 k2 rs → HoldsBesides first k2 []
  made_and_spent_all first k k1 k2 rs ss exact made halted gone =
      let left = spent_as k1 k2 rs ss exact made.counted (λ w. omega (arith, made.held w, halted w)) gone in
      λ w. omega (arith, left w, halted w, made.held w)

  -- regions that were made, and taken by a call
  pub made_and_taken_all : (first k new : Kept R M) (rs : List R) (ss : List StateSet) → IsExact k → MakesRegions first k rs ss → HoldsWithoutAll k new rs → HoldsBesides first new []
  made_and_taken_all first k new rs ss exact made left =
      let gone = subst (λ ts. (w : Item R M → Meaning → ℕ) → weight new w + weight_as rs ts w ≡ weight k w) (as_held k rs ss exact made.counted (λ w. omega (arith, made.held w))) left in
      λ w. omega (arith, gone w, made.held w)

  -- some and then others were made
  pub makes_both : (first k new : Kept R M) (rs qs : List R) (ss ts : List StateSet) → MakesRegions first k rs ss → MakesRegions k new qs ts → MakesRegions first new (rs ++ qs) (ss ++ ts)
  makes_both first k new rs qs ss ts made more =
      record {
        held = λ w. omega (arith, made.held w, more.held w, weight_as-append rs qs ss ts w made.counted);
        counted = length_both rs qs ∙ (ap (λ n. n + length qs) made.counted ∙ (ap (λ n. length ss + n) more.counted ∙ sym (length_both ss ts)));
        jam = more.jam;
      }

  -- and then nothing more
  pub makes_still : (first k new : Kept R M) (rs : List R) (ss : List StateSet) → MakesRegions first k rs ss → HoldsBesides k new [] → new.jam ≡ None → MakesRegions first new rs ss
  makes_still first k new rs ss made nothing jam = record { held = λ w. omega (arith, made.held w, nothing w); counted = made.counted; jam = jam }

  pub each_append : (k : Kept R M) (rs qs : List R) → HasEach k (rs ++ qs) → HasEach k rs × HasEach k qs
  each_append k [] qs each = (tt, each)
  each_append k (r ∷ rs) qs each = let rest = each_append k rs qs each.1 in ((each.0, rest.0), rest.1)
