-- The first of listed assignments.
use Rattle.std.proofs.Common.{◌≡◌, ◌+◌, ◌<◌, nat_lt, Bool, true, false, not, cond, ◌&&◌, ◌||◌, List, [], ◌∷◌, ◌++◌, map, flat_map, find, Some, None, refl, sym, ◌∙◌, ap, subst, arith}
use Rattle.std.proofs.lemmas.Bool.{and_parts, and_from, false≢true}
use Rattle.std.proofs.lemmas.Bool.Decides.{nat_tests}
use Rattle.std.proofs.lemmas.List.Folds.{find-append}
use Rattle.std.specs.List.{list_any, position_or_len}
use Rattle.std.specs.Option.{option_or}
use Rattle.spec_model.specs.declared.value.Value.{Value}
use Rattle.spec_model.specs.Values.{Assignment, DomainData, is_assignment, same_value, values_of, rank_of, comes_before, assignments_of}
use Rattle.spec_model.proofs.AllStates.{Every, same_value-true}
use Rattle.spec_model.proofs.Listed.{same_value-refl, every_weaker, assignments_fit, from_right}

find-every : {X : Type 0} (p : X → Bool) (xs : List X) → Every (λ x. p x ≡ false) xs → find p xs ≡ None
find-every p [] none = refl
find-every p (x ∷ xs) none = ap (λ b. cond b (Some x) (find p xs)) none.0 ∙ find-every p xs none.1

find-mapped : {X Y : Type 0} (p : Y → Bool) (f : X → Y) (xs : List X) (x : X) → find (λ x. p (f x)) xs ≡ Some x → find p (map f xs) ≡ Some (f x)
find-mapped p f [] x e = absurd (none_some e)
  where
    none_some : None ≡ Some x → ⊥
    none_some e = cc (e)
find-mapped p f (y ∷ ys) x e = at (p (f y)) e (find-mapped p f ys x)
  where
    at : (b : Bool) → cond b (Some y) (find (λ x. p (f x)) ys) ≡ Some x → (find (λ x. p (f x)) ys ≡ Some x → find p (map f ys) ≡ Some (f x)) → cond b (Some (f y)) (find p (map f ys)) ≡ Some (f x)
    at true e more = let one : y ≡ x = cc (e) in ap (λ z. Some (f z)) one
    at false e more = more e

every_made : {X Y : Type 0} (P : Y → Type 0) (f : X → Y) (xs : List X) → Every (λ x. P (f x)) xs → Every P (map f xs)
every_made P f [] all = tt
every_made P f (x ∷ xs) all = (all.0, every_made P f xs all.1)

module _ (p : Assignment → Bool) (rows : List Assignment) (v : Value) (vs : List Value) where
  -- the first value with such a row, where no earlier value has one
  found_among : (values : List Value) → list_any (same_value v) values ≡ true →
      ((w : Value) → list_any (same_value w) values ≡ true → position_or_len (same_value w) values < position_or_len (same_value v) values → Every (λ ws. p (w ∷ ws) ≡ false) rows) →
      find (λ ws. p (v ∷ ws)) rows ≡ Some vs → find p (flat_map (λ w. map (λ ws. w ∷ ws) rows) values) ≡ Some (v ∷ vs)
  found_among [] there earlier e = absurd (false≢true there)
  found_among (w ∷ values) there earlier e = at (same_value v w) refl (found_among values)
    where
      itself : same_value w w ≡ true
      itself = same_value-refl w

      at : (b : Bool) → same_value v w ≡ b →
          (list_any (same_value v) values ≡ true → ((w : Value) → list_any (same_value w) values ≡ true → position_or_len (same_value w) values < position_or_len (same_value v) values → Every (λ ws. p (w ∷ ws) ≡ false) rows) → find (λ ws. p (v ∷ ws)) rows ≡ Some vs → find p (flat_map (λ w. map (λ ws. w ∷ ws) rows) values) ≡ Some (v ∷ vs)) →
          find p (map (λ ws. w ∷ ws) rows ++ flat_map (λ w. map (λ ws. w ∷ ws) rows) values) ≡ Some (v ∷ vs)
      at true is more =
          let one = same_value-true v w is in
          let here : find (λ ws. p (w ∷ ws)) rows ≡ Some vs = subst (λ x. find (λ ws. p (x ∷ ws)) rows ≡ Some vs) one e in
          find-append p (map (λ ws. w ∷ ws) rows) (flat_map (λ w. map (λ ws. w ∷ ws) rows) values) ∙ (ap (λ o. option_or o (find p (flat_map (λ w. map (λ ws. w ∷ ws) rows) values))) (find-mapped p (λ ws. w ∷ ws) rows vs here) ∙ ap (λ x. Some (x ∷ vs)) (sym one))
      at false is more =
          let later : list_any (same_value v) values ≡ true = rw is at there in
          let place_v : position_or_len (same_value v) (w ∷ values) ≡ 1 + position_or_len (same_value v) values = ap (λ c. cond (not c) (1 + position_or_len (same_value v) values) 0) is in
          let place_w : position_or_len (same_value w) (w ∷ values) ≡ 0 = ap (λ c. cond (not c) (1 + position_or_len (same_value w) values) 0) itself in
          let first = earlier w (ap (λ c. c || list_any (same_value w) values) itself) (omega (arith, place_v, place_w)) in
          find-append p (map (λ ws. w ∷ ws) rows) (flat_map (λ w. map (λ ws. w ∷ ws) rows) values)
          ∙ (ap (λ o. option_or o (find p (flat_map (λ w. map (λ ws. w ∷ ws) rows) values))) (find-every p (map (λ ws. w ∷ ws) rows) (every_made (λ y. p y ≡ false) (λ ws. w ∷ ws) rows first))
          ∙ more later (λ x among before. earlier x (from_right (same_value x w) among) (nearer x (same_value x w) refl place_v before)) e)
        where
          nearer : (x : Value) (c : Bool) → same_value x w ≡ c → position_or_len (same_value v) (w ∷ values) ≡ 1 + position_or_len (same_value v) values → position_or_len (same_value x) values < position_or_len (same_value v) values → position_or_len (same_value x) (w ∷ values) < position_or_len (same_value v) (w ∷ values)
          nearer x true e place before = let here : position_or_len (same_value x) (w ∷ values) ≡ 0 = ap (λ c. cond (not c) (1 + position_or_len (same_value x) values) 0) e in omega (arith, here, place, before)
          nearer x false e place before = let here : position_or_len (same_value x) (w ∷ values) ≡ 1 + position_or_len (same_value x) values = ap (λ c. cond (not c) (1 + position_or_len (same_value x) values) 0) e in omega (arith, here, place, before)

-- the first assignment that passes is the one that passes and has none before it that does
pub find-first : (ds : List DomainData) (p : Assignment → Bool) (y : Assignment) → is_assignment ds y ≡ true → p y ≡ true → ((z : Assignment) → is_assignment ds z ≡ true → p z ≡ true → comes_before ds z y ≡ false) → find p (assignments_of ds) ≡ Some y
find-first [] p [] fits is first = ap (λ b. cond b (Some []) None) is
find-first [] p (v ∷ vs) fits is first = absurd (false≢true fits)
find-first (d ∷ ds) p [] fits is first = absurd (false≢true fits)
find-first (d ∷ ds) p (v ∷ vs) fits is first =
    let parts = and_parts (list_any (same_value v) (values_of d)) (is_assignment ds vs) fits in
    let itself = same_value-refl v in
    found_among p (assignments_of ds) v vs (values_of d) parts.0
    (λ w among before. every_weaker _ _ (λ ws fit. none w ws before (and_from _ _ among fit) (p (w ∷ ws)) refl) (assignments_of ds) (assignments_fit ds))
    (find-first ds (λ ws. p (v ∷ ws)) vs parts.1 is (λ ws fit passes. rest ws itself (first (v ∷ ws) (and_from _ _ parts.0 fit) passes)))
  where
    none : (w : Value) (ws : List Value) → rank_of d w < rank_of d v → is_assignment (d ∷ ds) (w ∷ ws) ≡ true → (c : Bool) → p (w ∷ ws) ≡ c → p (w ∷ ws) ≡ false
    none w ws before fit false e = e
    none w ws before fit true e =
        let off = first (w ∷ ws) fit e in
        let on : nat_lt (rank_of d w) (rank_of d v) ≡ true = grind (arith, nat_tests) in
        absurd (false≢true (sym off ∙ ap (λ c. c || same_value w v && comes_before ds ws vs) on))

    rest : (ws : List Value) → same_value v v ≡ true → comes_before (d ∷ ds) (v ∷ ws) (v ∷ vs) ≡ false → comes_before ds ws vs ≡ false
    rest ws itself e =
        let off : nat_lt (rank_of d v) (rank_of d v) ≡ false = grind (arith, nat_tests) in
        rw (off, itself) at e

-- where none passes none is found
pub find-nothing : (ds : List DomainData) (p : Assignment → Bool) → ((z : Assignment) → is_assignment ds z ≡ true → p z ≡ true → ⊥) → find p (assignments_of ds) ≡ None
find-nothing ds p none = find-every p (assignments_of ds) (every_weaker _ _ (λ z fit. at z fit (p z) refl) (assignments_of ds) (assignments_fit ds))
  where
    at : (z : Assignment) → is_assignment ds z ≡ true → (c : Bool) → p z ≡ c → p z ≡ false
    at z fit true e = absurd (none z fit e)
    at z fit false e = e
