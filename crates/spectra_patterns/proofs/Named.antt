-- Expressions whose names stand for parts without parts.
use Rattle.std.proofs.Common.{◌≡◌, ℕ, Bool, true, false, ◌&&◌, ◌||◌, if◌then◌else◌, List, [], ◌++◌, Option, Some, None, refl, ap, subst}
use Rattle.std.specs.Prelude.{bytes_eq}
use Rattle.std.proofs.lemmas.Bool.{and_from, or_left, or_right, eq-eqb}
use Rattle.spectra_trees.specs.Data as written
use Rattle.spectra_trees.specs.Data.{Expression, expression, Expressions}
use Rattle.spectra_resolved.specs.declared.spot.Spot.{Spot}
use Rattle.spectra_resolved.specs.declared.spot.Mark.{Mark}
use Rattle.spectra_resolved.specs.declared.tree.Extent.TheVariants as extents
use Rattle.spectra_resolved.specs.declared.tree.Leaf.{Leaf}
use Rattle.spectra_resolved.specs.declared.tree.Leaf.TheVariants as leaf
use Rattle.spectra_resolved.specs.declared.table.Named.{Named}
use Rattle.spectra_resolved.specs.declared.table.Named.TheVariants as names
use Rattle.spectra_resolved.specs.Spots.{same_place, spot_at, spot_of, in_text}
use Rattle.spectra_resolved.specs.Looks.{Looking, bound_at, bound_in}
use Rattle.spectra_resolved.specs.Resolved.{ResolvedTree, ResolvedTrees}
use Rattle.spectra_resolved.specs.Resolving.{read_form, call_form, index_form, resolved, resolved_form, resolved_each, misuses, form_misuses, misuses_of_each}
use Rattle.spectra_judge.specs.PutIn.{Parts, is_bound_at, seen_inside, is_put_in, form_put_in, each_put_in}
use Rattle.spectra_judge.proofs.Empty.{empty_parts, not_empty}
use Rattle.spectra_patterns.specs.Laws.{StandForLeaves, ResolvedIsPutIn}

-- ---- the variable of a quantifier

same_itself : (at : Spot) → same_place at at ≡ true
same_itself at = and_from _ _ (eq-eqb at.file at.file refl) (and_from _ _ (eq-eqb at.line at.line refl) (eq-eqb at.column at.column refl))

abbrev leaf_in : Option Named → Leaf
leaf_in (Some (names.Leaf l)) = l
leaf_in _ = leaf.Truth true

-- what a name stands for that the variable of a quantifier may hide
module _ (at : Spot) (n : Option Named) where
  good_inside : (good : Leaf → Bool) (hidden : Bool) (l : Leaf) → (n ≡ Some (names.Leaf l) → good l ≡ true) → (if hidden then bound_at at else n) ≡ Some (names.Leaf l)
      → (is_bound_at at l || good l) ≡ true
  good_inside good true l outside is =
      subst (λ m. (is_bound_at at m || good m) ≡ true) (ap leaf_in is) (or_left (same_place at at) (good (leaf.Bound at)) (same_itself at))
  good_inside good false l outside is = or_right (is_bound_at at l) (good l) (outside is)

  no_predicate : (hidden : Bool) (k arity : ℕ) → (n ≡ Some (names.Predicate k arity) → ⊥) → (if hidden then bound_at at else n) ≡ Some (names.Predicate k arity) → ⊥
  no_predicate true k arity outside is = cc
  no_predicate false k arity outside is = outside is

  no_array : (hidden : Bool) (k count : ℕ) → (n ≡ Some (names.Array k count) → ⊥) → (if hidden then bound_at at else n) ≡ Some (names.Array k count) → ⊥
  no_array true k count outside is = cc
  no_array false k count outside is = outside is

-- in the body of a quantifier its variable may stand too
stand_inside : (look : Looking) (good : Parts) → StandForLeaves look good → (name : List ℕ) (at : Spot) → StandForLeaves (bound_in look name at) (seen_inside extents.Open at good)
stand_inside look good stand name at =
    record {
      truth = λ b. stand.truth b;
      number = λ z. stand.number z;
      name = λ text l is. good_inside at (look text) good.leaf (bytes_eq text name) l (stand.name text l) is;
      predicate = λ text k arity is. no_predicate at (look text) (bytes_eq text name) k arity (stand.predicate text k arity) is;
      array = λ text k n is. no_array at (look text) (bytes_eq text name) k n (stand.array text k n) is;
    }

-- ---- names

module _ (look : Looking) (good : Parts) (stand : StandForLeaves look good) where
  read_put : (text : List ℕ) (at : Spot) (n : Option Named) → look text ≡ n → form_misuses at (read_form n) ≡ [] → form_put_in good (read_form n) ≡ true
  read_put text at (Some (names.Leaf l)) is none = stand.name text l is
  read_put text at (Some (names.Array k n)) is none = absurd (not_empty _ _ none)
  read_put text at (Some (names.Predicate k arity)) is none = absurd (stand.predicate text k arity is)
  read_put text at (Some (names.Pattern k arity)) is none = absurd (not_empty _ _ none)
  read_put text at (Some (names.Type k)) is none = absurd (not_empty _ _ none)
  read_put text at (Some names.Plain) is none = absurd (not_empty _ _ none)
  read_put text at None is none = absurd (not_empty _ _ none)

  call_put : (text : List ℕ) (at : Spot) (n : Option Named) (ts : ResolvedTrees) → look text ≡ n → form_misuses at (call_form n ts) ≡ [] → form_put_in good (call_form n ts) ≡ true
  call_put text at (Some (names.Leaf l)) ts is none = absurd (not_empty _ _ none)
  call_put text at (Some (names.Array k n)) ts is none = absurd (not_empty _ _ none)
  call_put text at (Some (names.Predicate k arity)) ts is none = absurd (stand.predicate text k arity is)
  call_put text at (Some (names.Pattern k arity)) ts is none = absurd (not_empty _ _ none)
  call_put text at (Some (names.Type k)) ts is none = absurd (not_empty _ _ none)
  call_put text at (Some names.Plain) ts is none = absurd (not_empty _ _ none)
  call_put text at None ts is none = absurd (not_empty _ _ none)

  index_put : (text : List ℕ) (at : Spot) (n : Option Named) (t : ResolvedTree) → look text ≡ n → form_misuses at (index_form n t) ≡ [] → form_put_in good (index_form n t) ≡ true
  index_put text at (Some (names.Leaf l)) t is none = absurd (not_empty _ _ none)
  index_put text at (Some (names.Array k n)) t is none = absurd (stand.array text k n is)
  index_put text at (Some (names.Predicate k arity)) t is none = absurd (not_empty _ _ none)
  index_put text at (Some (names.Pattern k arity)) t is none = absurd (not_empty _ _ none)
  index_put text at (Some (names.Type k)) t is none = absurd (not_empty _ _ none)
  index_put text at (Some names.Plain) t is none = absurd (not_empty _ _ none)
  index_put text at None t is none = absurd (not_empty _ _ none)

-- ---- expressions

-- both bounds of a quantifier and its body
all_put : {a b c : Bool} → a ≡ true → b ≡ true → c ≡ true → (a && (b && (c && true))) ≡ true
all_put low high body = and_from _ _ low (and_from _ _ high (and_from _ _ body refl))

module _ (file : ℕ) where
  mutual
    put : (look : Looking) (good : Parts) → StandForLeaves look good → (e : Expression) → misuses (resolved look file e) ≡ [] → is_put_in good (resolved look file e) ≡ true
    put look good stand (expression first at form) none = form_put look good stand (spot_at file first) (in_text (spot_at file at)) form none

    form_put : (look : Looking) (good : Parts) → StandForLeaves look good → (first : Spot) (at : Mark) (form : written.Form) → misuses (resolved_form look file first at form) ≡ []
        → is_put_in good (resolved_form look file first at form) ≡ true
    form_put look good stand first at written.Form.True none = stand.truth true
    form_put look good stand first at written.Form.False none = stand.truth false
    form_put look good stand first at (written.Form.Number negative digits) none = stand.number _
    form_put look good stand first at (written.Form.Read name) none = read_put look good stand name.text (spot_of file name) (look name.text) refl none
    form_put look good stand first at (written.Form.Call name es) none = call_put look good stand name.text (spot_of file name) (look name.text) (resolved_each look file es) refl none
    form_put look good stand first at (written.Form.Next e) none = put look good stand e none
    form_put look good stand first at (written.Form.Prefix word e) none = put look good stand e none
    form_put look good stand first at (written.Form.Binary word a b) none =
        let parts = empty_parts (misuses (resolved look file a)) (misuses (resolved look file b)) none in and_from _ _ (put look good stand a parts.0) (put look good stand b parts.1)
    form_put look good stand first at (written.Form.Mod e number digits) none = put look good stand e none
    form_put look good stand first at (written.Form.And es ops) none = each_put look good stand es none
    form_put look good stand first at (written.Form.Or es ops) none = each_put look good stand es none
    form_put look good stand first at (written.Form.Index name e) none = index_put look good stand name.text (spot_of file name) (look name.text) (resolved look file e) refl none
    form_put look good stand first at (written.Form.ForAll name low high e) none =
        let inner = bound_in look name.text (spot_of file name) in
        let parts = empty_parts (misuses (resolved look file low)) (misuses (resolved look file high) ++ (misuses (resolved inner file e) ++ [])) none in
        let more = empty_parts (misuses (resolved look file high)) (misuses (resolved inner file e) ++ []) parts.1 in
        let last = empty_parts (misuses (resolved inner file e)) [] more.1 in
        all_put (put look good stand low parts.0) (put look good stand high more.0)
        (put inner (seen_inside extents.Open (spot_of file name) good) (stand_inside look good stand name.text (spot_of file name)) e last.0)
    form_put look good stand first at (written.Form.Exists name low high e) none =
        let inner = bound_in look name.text (spot_of file name) in
        let parts = empty_parts (misuses (resolved look file low)) (misuses (resolved look file high) ++ (misuses (resolved inner file e) ++ [])) none in
        let more = empty_parts (misuses (resolved look file high)) (misuses (resolved inner file e) ++ []) parts.1 in
        let last = empty_parts (misuses (resolved inner file e)) [] more.1 in
        all_put (put look good stand low parts.0) (put look good stand high more.0)
        (put inner (seen_inside extents.Open (spot_of file name) good) (stand_inside look good stand name.text (spot_of file name)) e last.0)

    each_put : (look : Looking) (good : Parts) → StandForLeaves look good → (es : Expressions) → misuses_of_each (resolved_each look file es) ≡ [] → each_put_in good (resolved_each look file es) ≡ true
    each_put look good stand Expressions.none none = refl
    each_put look good stand (Expressions.one_more e es) none =
        let parts = empty_parts (misuses (resolved look file e)) (misuses_of_each (resolved_each look file es)) none in and_from _ _ (put look good stand e parts.0) (each_put look good stand es parts.1)

pub resolved_put : ResolvedIsPutIn
resolved_put look good stand file e none = put file look good stand e none
