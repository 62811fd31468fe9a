-- The places of trees among different ones.
use Rattle.std.proofs.Common.{◌≡◌, ℕ, zero, suc, ◌+◌, ◌<◌, ◌≤◌, ◌^◌, Bool, true, false, not, ◌||◌, List, [], ◌∷◌, ◌++◌, length, map, get_or, cond, is_some, nat_eq, eq-eqb, None, Some, refl, sym, ap, ◌∙◌, subst, arith}
use Rattle.std.specs.List.{list_any, list_all}
use Rattle.std.proofs.lemmas.Bool.{and_parts, and_from, false≢true}
use Rattle.std.proofs.lemmas.List.{length-map, map-append}
use Rattle.std.proofs.lemmas.List.Folds.{list_any-append, list_all-append}
use Rattle.std.proofs.lemmas.Grind.{flat_map-append}
use Rattle.std.proofs.lemmas.List.Sums.{fold-append}
use Rattle.std.proofs.lemmas.List.{length-append}
use Rattle.indexmap.specs.IndexMap.{IndexMap, get, Updates, IsUnchanged}
use Rattle.spec_model.specs.Syntax.{Formula}
use Rattle.spec_model.specs.Sizes.{same_formula}
use Rattle.spec_model.specs.WellMade.{all_differ}
use Rattle.spec_model.proofs.Restricted.{same_formula-true}
use Rattle.past_bits.specs.declared.operators.Operator.{Operator}
use Rattle.past_bits.specs.Entries.{place_of, with_operator, added}
use Rattle.past_bits.specs.Bits.{tree_of, AreNumbered}
use Rattle.past_bits.specs.Digests.{digest_of}

pub added-append : (ops xs ys : List Formula) → added ops (xs ++ ys) ≡ added (added ops xs) ys
added-append ops xs ys = fold-append with_operator ops xs ys

pub ruleset added_parts = (added-append, map-append, flat_map-append)

any_at : (p : Formula → Bool) (ops : List Formula) (k : ℕ) (d : Formula) → k < length ops → p (get_or ops k d) ≡ true → list_any p ops ≡ true
any_at p [] k d below is = absurd (omega arith)
any_at p (f ∷ ops) zero d below is = rw is refl
any_at p (f ∷ ops) (suc k) d below is = at (p f) (any_at p ops k d (omega arith) is)
  where
    at : (b : Bool) → list_any p ops ≡ true → (b || list_any p ops) ≡ true
    at true rest = refl
    at false rest = rest

-- a tree that is the same as the one at a place has that place
pub place_is : (ops : List Formula) (e : Formula) (k : ℕ) (d : Formula) → all_differ same_formula ops ≡ true → k < length ops → same_formula e (get_or ops k d) ≡ true → place_of ops e ≡ k
place_is [] e k d differ below is = absurd (omega arith)
place_is (f ∷ ops) e zero d differ below is = rw is refl
place_is (f ∷ ops) e (suc k) d differ below is = at (same_formula e f) refl (λ different. place_is ops e k d different (omega arith) is)
  where
    parts : (not (list_any (same_formula f) ops) ≡ true) × (all_differ same_formula ops ≡ true)
    parts = and_parts (not (list_any (same_formula f) ops)) (all_differ same_formula ops) differ

    at : (b : Bool) → same_formula e f ≡ b → (all_differ same_formula ops ≡ true → place_of ops e ≡ k) → place_of (f ∷ ops) e ≡ suc k
    at true same rest =
        let later = any_at (same_formula f) ops k d (omega arith) (subst (λ g. same_formula g (get_or ops k d) ≡ true) (same_formula-true e f same) is) in
        absurd (false≢true (ap not (sym later) ∙ parts.0))
    at false same rest = rw same (let later = rest parts.1 in omega (arith, later))

pub place_within : (ops : List Formula) (e : Formula) → place_of ops e ≤ length ops
place_within [] e = omega arith
place_within (f ∷ ops) e = at (same_formula e f) refl (place_within ops e)
  where
    at : (b : Bool) → same_formula e f ≡ b → place_of ops e ≤ length ops → place_of (f ∷ ops) e ≤ suc (length ops)
    at true same rest = rw same (omega arith)
    at false same rest = rw same (omega (arith, rest))

-- whether a tree is there is told by its place
pub there : (ops : List Formula) (e : Formula) → place_of ops e < length ops → list_any (same_formula e) ops ≡ true
there [] e below = absurd (omega arith)
there (f ∷ ops) e below = at (same_formula e f) refl below (there ops e)
  where
    at : (b : Bool) → same_formula e f ≡ b → place_of (f ∷ ops) e < suc (length ops) → (place_of ops e < length ops → list_any (same_formula e) ops ≡ true) → list_any (same_formula e) (f ∷ ops) ≡ true
    at true same h rest = rw same refl
    at false same h rest = rw same (rest (let k = (rw same at h) in omega (arith, k)))

pub absent : (ops : List Formula) (e : Formula) → length ops ≤ place_of ops e → list_any (same_formula e) ops ≡ false
absent [] e past = refl
absent (f ∷ ops) e past = at (same_formula e f) refl past (absent ops e)
  where
    at : (b : Bool) → same_formula e f ≡ b → suc (length ops) ≤ place_of (f ∷ ops) e → (length ops ≤ place_of ops e → list_any (same_formula e) ops ≡ false) → list_any (same_formula e) (f ∷ ops) ≡ false
    at true same h rest = absurd (let k = (rw same at h) in omega (arith, k))
    at false same h rest = rw same (rest (let k = (rw same at h) in omega (arith, k)))

-- ---- one more

pub swapped : (e f : Formula) → same_formula f e ≡ true → same_formula e f ≡ true
swapped e f is = let equal = same_formula-true f e is in subst (λ g. same_formula g f ≡ true) equal (subst (λ g. same_formula f g ≡ true) (sym equal) is)

other_way : (e f : Formula) → same_formula e f ≡ false → same_formula f e ≡ false
other_way e f is = at (same_formula f e) refl
  where
    at : (b : Bool) → same_formula f e ≡ b → b ≡ false
    at true same = absurd (false≢true (sym is ∙ swapped e f same))
    at false same = refl

none_of_more : (f e : Formula) (ops : List Formula) → list_any (same_formula f) ops ≡ false → same_formula f e ≡ false → list_any (same_formula f) (ops ++ e ∷ []) ≡ false
none_of_more f e ops none other = list_any-append (same_formula f) ops (e ∷ []) ∙ (ap (λ b. b || (same_formula f e || false)) none ∙ ap (λ b. b || false) other)

not_true : (b : Bool) → not b ≡ true → b ≡ false
not_true true is = absurd (false≢true is)
not_true false is = refl

or_false : (a b : Bool) → (a || b) ≡ false → (a ≡ false) × (b ≡ false)
or_false true b is = absurd (false≢true (sym is))
or_false false b is = (refl, is)

differ_more : (ops : List Formula) (e : Formula) → all_differ same_formula ops ≡ true → list_any (same_formula e) ops ≡ false → all_differ same_formula (ops ++ e ∷ []) ≡ true
differ_more [] e differ new = refl
differ_more (f ∷ ops) e differ new =
    let parts = and_parts (not (list_any (same_formula f) ops)) (all_differ same_formula ops) differ in
    let others = or_false (same_formula e f) (list_any (same_formula e) ops) new in
    and_from (not (list_any (same_formula f) (ops ++ e ∷ []))) (all_differ same_formula (ops ++ e ∷ []))
    (ap not (none_of_more f e ops (not_true _ parts.0) (other_way e f others.0)))
    (differ_more ops e parts.1 others.1)

-- ---- the operators of the program

at_map : (os : List Operator) (k : ℕ) (d : Operator) → get_or (map tree_of os) k (tree_of d) ≡ tree_of (get_or os k d)
at_map [] k d = refl
at_map (o ∷ os) zero d = refl
at_map (o ∷ os) (suc k) d = at_map os k d

-- the place that was guessed, where the same tree stands there
pub guessed : {S : Type 0} (os : List Operator) (places : IndexMap ℕ ℕ S) (e : Formula) (k : ℕ) (o : Operator) → AreNumbered os places → k < length os → o ≡ get_or os k o → same_formula e (tree_of o) ≡ true → k ≡ place_of (map tree_of os) e
guessed os places e k o numbered below is same =
    sym (place_is (map tree_of os) e k (tree_of o) numbered.different (rw (length-map os tree_of) below)
    (subst (λ f. same_formula e f ≡ true) (ap tree_of is ∙ sym (at_map os k o)) same))

pub kept : (os : List Operator) (e : Formula) → place_of (map tree_of os) e < length os → map tree_of os ≡ with_operator (map tree_of os) e
kept os e below = rw (there (map tree_of os) e (rw (length-map os tree_of) below)) refl

pub place_small : (os : List Operator) (e : Formula) → place_of (map tree_of os) e ≤ length os
place_small os e = subst (λ n. place_of (map tree_of os) e ≤ n) (length-map os tree_of) (place_within (map tree_of os) e)

pub new_one : (os : List Operator) (e : Formula) (o : Operator) → length os ≤ place_of (map tree_of os) e → e ≡ tree_of o → map tree_of (os ++ o ∷ []) ≡ with_operator (map tree_of os) e
new_one os e o past is = rw (absent (map tree_of os) e (rw (length-map os tree_of) past)) (map-append tree_of os (o ∷ []) ∙ ap (λ f. map tree_of os ++ f ∷ []) (sym is))

-- ---- places by digests

abbrev are_placed : {S : Type 0} → IndexMap ℕ ℕ S → List Operator → Bool
are_placed places os = list_all (λ o. is_some (get nat_eq places (digest_of (tree_of o)))) os

nat_eq-same : (n : ℕ) → nat_eq n n ≡ true
nat_eq-same n = eq-eqb n n refl

-- what has a place keeps one
place_stays : {S : Type 0} (old new : IndexMap ℕ ℕ S) (k v q : ℕ) → Updates nat_eq old new k (Some v) → is_some (get nat_eq old q) ≡ true → is_some (get nat_eq new q) ≡ true
place_stays old new k v q updates is = ap is_some (updates.0 q) ∙ at (nat_eq k q)
  where
    at : (b : Bool) → is_some (cond b (Some v) (get nat_eq old q)) ≡ true
    at true = refl
    at false = is

place_comes : {S : Type 0} (old new : IndexMap ℕ ℕ S) (k v : ℕ) → Updates nat_eq old new k (Some v) → is_some (get nat_eq new k) ≡ true
place_comes old new k v updates = ap is_some (updates.0 k) ∙ ap (λ b. is_some (cond b (Some v) (get nat_eq old k))) (nat_eq-same k)

placed_still : {S : Type 0} (os : List Operator) (old new : IndexMap ℕ ℕ S) (k v : ℕ) → Updates nat_eq old new k (Some v) → are_placed old os ≡ true → are_placed new os ≡ true
placed_still [] old new k v updates placed = refl
placed_still (o ∷ os) old new k v updates placed =
    let parts = and_parts (is_some (get nat_eq old (digest_of (tree_of o)))) (are_placed old os) placed in
    and_from (is_some (get nat_eq new (digest_of (tree_of o)))) (are_placed new os)
    (place_stays old new k v (digest_of (tree_of o)) updates parts.0)
    (placed_still os old new k v updates parts.1)

-- a tree whose digest has no place is none of those that were met
none_there : {S : Type 0} (os : List Operator) (places : IndexMap ℕ ℕ S) (e : Formula) → are_placed places os ≡ true → get nat_eq places (digest_of e) ≡ None → length os ≡ place_of (map tree_of os) e
none_there [] places e placed none = refl
none_there (o ∷ os) places e placed none = at (same_formula e (tree_of o)) refl (none_there os places e parts.1 none)
  where
    parts : (is_some (get nat_eq places (digest_of (tree_of o))) ≡ true) × (are_placed places os ≡ true)
    parts = and_parts (is_some (get nat_eq places (digest_of (tree_of o)))) (are_placed places os) placed

    at : (b : Bool) → same_formula e (tree_of o) ≡ b → length os ≡ place_of (map tree_of os) e → suc (length os) ≡ place_of (tree_of o ∷ map tree_of os) e
    at true same rest =
        let found = subst (λ f. is_some (get nat_eq places (digest_of f)) ≡ true) (sym (same_formula-true e (tree_of o) same)) parts.0 in
        absurd (false≢true (ap is_some (sym none) ∙ found))
    at false same rest = rw same (omega (arith, rest))

pub unknown : {S : Type 0} (os : List Operator) (places : IndexMap ℕ ℕ S) (e : Formula) → AreNumbered os places → get nat_eq places (digest_of e) ≡ None → length os ≡ place_of (map tree_of os) e
unknown os places e numbered none = none_there os places e numbered.placed none

pub numbered_still : {S : Type 0} (os : List Operator) (old new : IndexMap ℕ ℕ S) (k v : ℕ) → AreNumbered os old → Updates nat_eq old new k (Some v) → AreNumbered os new
numbered_still os old new k v numbered updates =
    record {
      different = numbered.different;
      few = numbered.few;
      placed = placed_still os old new k v updates numbered.placed;
    }

pub numbered_unchanged : {S : Type 0} (os : List Operator) (old new : IndexMap ℕ ℕ S) → AreNumbered os old → IsUnchanged old new → AreNumbered os new
numbered_unchanged os old new numbered same =
    record {
      different = numbered.different;
      few = numbered.few;
      placed = unchanged os numbered.placed;
    }
  where
    unchanged : (os : List Operator) → are_placed old os ≡ true → are_placed new os ≡ true
    unchanged os placed = rw same placed

pub numbered_more : {S : Type 0} (os : List Operator) (old new : IndexMap ℕ ℕ S) (e : Formula) (o : Operator) (k v : ℕ) → AreNumbered os old → length os ≤ place_of (map tree_of os) e → e ≡ tree_of o → length os + 1 < 2 ^ 32 → k ≡ digest_of e → Updates nat_eq old new k (Some v) → AreNumbered (os ++ o ∷ []) new
numbered_more os old new e o k v numbered past is few digest updates =
    record {
      different =
          ap (λ fs. all_differ same_formula fs) (map-append tree_of os (o ∷ []))
          ∙ differ_more (map tree_of os) (tree_of o) numbered.different (subst (λ f. list_any (same_formula f) (map tree_of os) ≡ false) is (absent (map tree_of os) e (rw (length-map os tree_of) past)));
      few = rw (length-append os (o ∷ [])) few;
      placed =
          list_all-append (λ p. is_some (get nat_eq new (digest_of (tree_of p)))) os (o ∷ [])
          ∙ and_from (are_placed new os) (are_placed new (o ∷ []))
          (placed_still os old new k v updates numbered.placed)
          (and_from (is_some (get nat_eq new (digest_of (tree_of o)))) true (subst (λ n. is_some (get nat_eq new n) ≡ true) (digest ∙ ap digest_of is) (place_comes old new k v updates)) refl);
    }

pub place_fits : {S : Type 0} (os : List Operator) (places : IndexMap ℕ ℕ S) (e : Formula) → AreNumbered os places → place_of (map tree_of os) e < 2 ^ 32
place_fits os places e numbered = let small = place_small os e in let few = numbered.few in omega (arith, small, few)
