-- A use of a definition that only uses another one comes to the use of the last one of their chain.
use Rattle.std.proofs.Common.{◌≡◌, ℕ, zero, suc, ◌+◌, ◌-◌, ◌<◌, ◌≤◌, ◌==◌, Bool, true, false, ◌&&◌, List, [], ◌∷◌, ◌++◌, length, map, take, drop, replicate, get_or, slice_set, Option, Some, None, inl, inr, refl, sym, ap, subst, ◌∙◌, append_assoc, arith}
use Rattle.std.proofs.lemmas.Bool.{and_parts, and_from, false≢true}
use Rattle.std.proofs.lemmas.Bool.Decides.{Decides-eqb}
use Rattle.std.proofs.lemmas.Option.{same_Some}
use Rattle.std.proofs.lemmas.List.{length-append}
use Rattle.std.proofs.Math.Seq.{get_or-append_seam}
use Rattle.spectra_resolved.specs.declared.spot.Spot.{Spot}
use Rattle.spectra_resolved.specs.Spots.{brought_at}
use Rattle.spectra_resolved.specs.declared.tree.Leaf.{Leaf}
use Rattle.spectra_resolved.specs.declared.tree.Leaf.TheVariants as leaf
use Rattle.spectra_resolved.specs.declared.tree.Hole.{Hole}
use Rattle.spectra_resolved.specs.declared.tree.Hole.TheVariants as hole
use Rattle.spectra_resolved.specs.declared.tree.Resolved.{Resolved}
use Rattle.spectra_resolved.specs.Resolved.{ResolvedTree, tree, Form, ResolvedTrees, listed}
use Rattle.spectra_resolved.specs.Chained.{trees}
use Rattle.spectra_resolved.specs.Views.{resolved_data}
use Rattle.spectra_elaboration.specs.declared.last.Last.{Last}
use Rattle.spectra_elaboration.specs.declared.following.Use.{Use}
use Rattle.spectra_copies.specs.Places.{placed, marked}
use Rattle.spectra_elaboration.specs.Putting.{Bodies, Put, filled, form_filled, each_filled, put_deep, body_put, body_of}
use Rattle.spectra_elaboration.specs.Handing.{is_parameter, are_parameters, how_many, only, leaf_next, form_next, tree_next, next_of, same_hole, one_is, leads, IsLast, AreLast}
use Rattle.spectra_elaboration.specs.Following.{put_use}
use Rattle.spectra_elaboration.proofs.Tables.{entry, none_at}

-- ---- parameters in order

module _ (put : Put) (brought : Option Spot) where
  parameter_filled : (before : List ResolvedTree) (x : ResolvedTree) (after : List ResolvedTree) (t : ResolvedTree) → is_parameter (length before) t ≡ true
      → filled put brought (before ++ x ∷ after) t ≡ x
  parameter_filled before x after (tree first at (Form.LeafOf (leaf.Parameter k))) is =
      let same : k ≡ length before = (Decides-eqb k (length before)).0 is in
      let d = tree (placed brought first) (marked brought at) (Form.LeafOf (leaf.Parameter k)) in
      ap (λ n. get_or (before ++ x ∷ after) n d) same ∙ get_or-append_seam before x after d
  parameter_filled before x after (tree first at form) is = absurd (false≢true is)

  -- they are filled by the arguments, in order
  parameters_filled : (before after : List ResolvedTree) (ts : ResolvedTrees) → are_parameters (length before) ts ≡ true → length after ≡ how_many ts
      → listed (each_filled put brought (before ++ after) ts) ≡ after
  parameters_filled before [] ResolvedTrees.none are size = refl
  parameters_filled before [] (ResolvedTrees.one_more t ts) are size = absurd (omega (arith, size))
  parameters_filled before (x ∷ after) ResolvedTrees.none are size = absurd (omega (arith, size))
  parameters_filled before (x ∷ after) (ResolvedTrees.one_more t ts) are size =
      let parts = and_parts (is_parameter (length before) t) (are_parameters (suc (length before)) ts) are in
      let count : suc (length before) ≡ length (before ++ x ∷ []) = (let n = length-append before (x ∷ []) in omega (arith, n)) in
      let rest = parameters_filled (before ++ x ∷ []) after ts (ap (λ n. are_parameters n ts) (sym count) ∙ parts.1) (omega (arith, size)) in
      ap (λ y. y ∷ listed (each_filled put brought (before ++ x ∷ after) ts)) (parameter_filled before x after t parts.0)
      ∙ ap (λ ys. x ∷ ys) (ap (λ xs. listed (each_filled put brought xs ts)) (sym (append_assoc before (x ∷ []) after)) ∙ rest)

-- one more of them, before the others
pub parameters_left : (ts : List Resolved) (i k : ℕ) (t : Resolved) → i < length ts → t ≡ get_or ts i t → is_parameter k (resolved_data t) ≡ true
    → are_parameters (suc k) (trees (map resolved_data (drop (suc i) ts))) ≡ true → are_parameters k (trees (map resolved_data (drop i ts))) ≡ true
parameters_left [] i k t within is here rest = absurd (omega arith)
parameters_left (x ∷ ts) zero k t within is here rest =
    and_from (is_parameter k (resolved_data x)) (are_parameters (suc k) (trees (map resolved_data ts))) (ap (λ y. is_parameter k (resolved_data y)) (sym is) ∙ here) rest
parameters_left (x ∷ ts) (suc i) k t within is here rest = parameters_left ts i k t (omega (arith, within)) is here rest

pub no_parameters_left : (ts : List Resolved) (i k : ℕ) → length ts ≤ i → are_parameters k (trees (map resolved_data (drop i ts))) ≡ true
no_parameters_left [] zero k past = refl
no_parameters_left [] (suc i) k past = refl
no_parameters_left (x ∷ ts) zero k past = absurd (omega (arith, past))
no_parameters_left (x ∷ ts) (suc i) k past = no_parameters_left ts i k (omega (arith, past))

many_trees : (ts : List ResolvedTree) → how_many (trees ts) ≡ length ts
many_trees [] = refl
many_trees (t ∷ ts) = ap suc (many_trees ts)

-- ---- the next one of a chain

only_parts : (is : Bool) (made next : Last) → only is made ≡ Some next → (is ≡ true) × (made ≡ next)
only_parts true made next same = (refl, same_Some made next same)
only_parts false made next same = absurd (let e : None ≡ Some next = same in cc)

pub predicate_next : (number : ℕ) (ts : List ResolvedTree) (next : Last) → are_parameters 0 (trees ts) ≡ true → next.number ≡ number → next.hole ≡ hole.Truth → next.count ≡ length ts → next.deep ≡ 1
    → form_next (Form.PredicateOf number (trees ts)) ≡ Some next
predicate_next number ts next are is fills count deep =
    ap (λ known. only known (record { number = number; hole = hole.Truth; count = how_many (trees ts); deep = suc zero })) are
    ∙ (λ j. Some (record { number = sym is j; hole = sym fills j; count = (many_trees ts ∙ sym count) j; deep = sym deep j }))

-- a leaf or a predicate: what is put in for it, and that it is one step
record Next (form : Form) (next : Last) : Type 0 where
  deep : next.deep ≡ 1
  same : (put : Put) (at : Spot) (args : List ResolvedTree) → length args ≡ next.count → form_filled put (Some at) args at (brought_at at) form ≡ put next.hole next.number at args

none_there : (args : List ResolvedTree) → length args ≡ 0 → [] ≡ args
none_there [] size = refl
none_there (x ∷ args) size = absurd (omega (arith, size))

leaf_is_next : (l : Leaf) (next : Last) → leaf_next l ≡ Some next → Next (Form.LeafOf l) next
leaf_is_next (leaf.Define k) next is =
    let made : Last = record { number = k; hole = hole.Anything; count = zero; deep = suc zero } in
    let e : made ≡ next = same_Some made next is in
    record {
      deep = sym (ap (λ (l : Last). l.deep) e);
      same = λ put at args size.
          let count = ap (λ (l : Last). l.count) e in
          ap (put hole.Anything k at) (none_there args (omega (arith, size, count))) ∙ ap (λ (l : Last). put l.hole l.number at args) e;
    }
leaf_is_next l next is = absurd (let e : None ≡ Some next = is in cc)

form_is_next : (form : Form) (next : Last) → form_next form ≡ Some next → Next form next
form_is_next (Form.LeafOf l) next is = leaf_is_next l next is
form_is_next (Form.PredicateOf k ts) next is =
    let made : Last = record { number = k; hole = hole.Truth; count = how_many ts; deep = suc zero } in
    let parts = only_parts (are_parameters zero ts) made next is in
    let e = parts.1 in
    record {
      deep = sym (ap (λ (l : Last). l.deep) e);
      same = λ put at args size.
          let count = ap (λ (l : Last). l.count) e in
          ap (put hole.Truth k at) (parameters_filled put (Some at) [] args ts parts.0 (omega (arith, size, count))) ∙ ap (λ (l : Last). put l.hole l.number at args) e;
    }
form_is_next form next is = absurd (let e : None ≡ Some next = is in cc)

next_put : (body : ResolvedTree) (next : Last) → tree_next body ≡ Some next → (put : Put) (at : Spot) (args : List ResolvedTree) → length args ≡ next.count
    → filled put (Some at) args body ≡ put next.hole next.number at args
next_put (tree first at form) next is put stands args size = (form_is_next form next is).same put stands args size

next_deep : (o : Option ResolvedTree) (next : Last) → next_of o ≡ Some next → next.deep ≡ 1
next_deep None next is = absurd (let e : None ≡ Some next = is in cc)
next_deep (Some (tree first at form)) next is = (form_is_next form next is).deep

holes_same : (g h : Hole) → same_hole g h ≡ true → g ≡ h
holes_same hole.Anything hole.Anything is = refl
holes_same hole.Truth hole.Truth is = refl
holes_same hole.Anything hole.Truth is = absurd (false≢true is)
holes_same hole.Truth hole.Anything is = absurd (false≢true is)

hole_itself : (h : Hole) → same_hole h h ≡ true
hole_itself hole.Anything = refl
hole_itself hole.Truth = refl

pub next_is_last : (b : Bodies) (k : ℕ) (next : Last) → next_of (body_of b k) ≡ Some next → IsLast b k next
next_is_last b k next is h =
    ap (λ n. leads b next.count next.number next.hole n h k) (next_deep (body_of b k) next is)
    ∙ ap (one_is (λ then. (then.count == next.count) && leads b next.count next.number next.hole zero then.hole then.number)) is
    ∙ and_from (next.count == next.count) (same_hole next.hole next.hole && (next.number == next.number)) ((Decides-eqb next.count next.count).1 refl)
    (and_from (same_hole next.hole next.hole) (next.number == next.number) (hole_itself next.hole) ((Decides-eqb next.number next.number).1 refl))

-- ---- the last one

one_is_more : (first second : Last → Bool) (o : Option Last) → ((next : Last) → first next ≡ true → second next ≡ true) → one_is first o ≡ true → one_is second o ≡ true
one_is_more first second None more is = is
one_is_more first second (Some next) more is = more next is

module _ (b : Bodies) (count number : ℕ) (fills : Hole) where
  -- a chain goes on
  leads_on : (middle_count middle : ℕ) (middle_fills : Hole) (more : ℕ) → leads b count number fills more middle_fills middle ≡ true → middle_count ≡ count
      → (deep all : ℕ) (h : Hole) (k : ℕ) → all ≡ deep + more → leads b middle_count middle middle_fills deep h k ≡ true → leads b count number fills all h k ≡ true
  leads_on middle_count middle middle_fills more second same zero all h k size first =
      let parts = and_parts (same_hole h middle_fills) (k == middle) first in
      let only_more : all ≡ more = omega (arith, size) in
      (λ j. leads b count number fills (only_more j) (holes_same h middle_fills parts.0 j) ((Decides-eqb k middle).0 parts.1 j)) ∙ second
  leads_on middle_count middle middle_fills more second same (suc deep) all h k size first =
      let less : all ≡ suc (deep + more) = omega (arith, size) in
      ap (λ n. leads b count number fills n h k) less
      ∙ one_is_more (λ next. (next.count == middle_count) && leads b middle_count middle middle_fills deep next.hole next.number)
      (λ next. (next.count == count) && leads b count number fills (deep + more) next.hole next.number) (next_of (body_of b k))
      (rest (λ g j. leads_on middle_count middle middle_fills more second same deep (deep + more) g j refl)) first
    where
      rest : ((g : Hole) (j : ℕ) → leads b middle_count middle middle_fills deep g j ≡ true → leads b count number fills (deep + more) g j ≡ true)
          → (next : Last) → ((next.count == middle_count) && leads b middle_count middle middle_fills deep next.hole next.number) ≡ true
          → ((next.count == count) && leads b count number fills (deep + more) next.hole next.number) ≡ true
      rest on next is =
          let parts = and_parts (next.count == middle_count) (leads b middle_count middle middle_fills deep next.hole next.number) is in
          and_from (next.count == count) (leads b count number fills (deep + more) next.hole next.number) (ap (λ n. next.count == n) (sym same) ∙ parts.0)
          (on next.hole next.number parts.1)

  -- and what is put in stays the same on its way
  leads_put : (deep all rest : ℕ) (h : Hole) (k : ℕ) (at : Spot) (args : List ResolvedTree) → all ≡ deep + rest → length args ≡ count → leads b count number fills deep h k ≡ true
      → put_deep all b h k at args ≡ put_deep rest b fills number at args
  leads_put zero all rest h k at args size given is =
      let parts = and_parts (same_hole h fills) (k == number) is in
      let left : all ≡ rest = omega (arith, size) in
      (λ j. put_deep (left j) b (holes_same h fills parts.0 j) ((Decides-eqb k number).0 parts.1 j) at args)
  leads_put (suc deep) all rest h k at args size given is =
      let less : all ≡ suc (deep + rest) = omega (arith, size) in
      ap (λ n. put_deep n b h k at args) less ∙ by (λ g j. leads_put deep (deep + rest) rest g j at args refl given) (body_of b k) is
    where
      then : ((g : Hole) (j : ℕ) → leads b count number fills deep g j ≡ true → put_deep (deep + rest) b g j at args ≡ put_deep rest b fills number at args)
          → (body : ResolvedTree) (o : Option Last) → tree_next body ≡ o → one_is (λ next. (next.count == count) && leads b count number fills deep next.hole next.number) o ≡ true
          → filled (put_deep (deep + rest) b) (Some at) args body ≡ put_deep rest b fills number at args
      then on body None there led = absurd (false≢true led)
      then on body (Some next) there led =
          let parts = and_parts (next.count == count) (leads b count number fills deep next.hole next.number) led in
          next_put body next there (put_deep (deep + rest) b) at args (given ∙ sym ((Decides-eqb next.count count).0 parts.0))
          ∙ on next.hole next.number parts.1

      by : ((g : Hole) (j : ℕ) → leads b count number fills deep g j ≡ true → put_deep (deep + rest) b g j at args ≡ put_deep rest b fills number at args)
          → (o : Option ResolvedTree) → one_is (λ next. (next.count == count) && leads b count number fills deep next.hole next.number) (next_of o) ≡ true
          → body_put (put_deep (deep + rest) b) h at args o ≡ put_deep rest b fills number at args
      by on None led = absurd (false≢true led)
      by on (Some body) led = then on body (tree_next body) refl led

pub joined_last : (b : Bodies) (k : ℕ) (next last made : Last) → IsLast b k next → IsLast b next.number last → next.count ≡ last.count → made.number ≡ last.number → made.hole ≡ last.hole
    → made.count ≡ last.count → made.deep ≡ next.deep + last.deep → IsLast b k made
joined_last b k next last made first second same number fills count all h =
    (λ j. leads b (count j) (number j) (fills j) made.deep h k)
    ∙ leads_on b last.count last.number last.hole next.count next.number next.hole last.deep (second next.hole) same next.deep made.deep h k all (first h)

pub one_more_last : (b : Bodies) (ls hs : List (Option Last)) (k : ℕ) (found : Last) → AreLast b ls → IsLast b k found → hs ≡ slice_set ls k (Some found) → AreLast b hs
one_more_last b ls hs k found right is set j last there = elim (entry ls k (Some found) j last (sym (ap (λ xs. get_or xs j None) set) ∙ there)) [
  | inl before ↦ right j last before
  | inr here ↦ subst (λ n. IsLast b n last) (sym here.0) (subst (λ (l : Last). IsLast b k l) (same_Some found last here.1) is)
]

-- nothing is known at first
pub nothing_last : (b : Bodies) (ls xs : List (Option Last)) (n m : ℕ) → ls ≡ take n xs ++ replicate m None → xs ≡ [] → AreLast b ls
nothing_last b ls xs n m is empty k last there = absurd (let e : None ≡ Some last = sym (ap (λ ys. get_or ys k None) is ∙ none_at xs n m k empty) ∙ there in cc)

-- the use of a definition is that of the last one
pub last_used : (b : Bodies) (ls : List (Option Last)) → AreLast b ls → (first made : Use) (last : Last) → get_or ls first.number None ≡ Some last → last.deep ≤ first.deep
    → made.deep ≡ first.deep - last.deep → made.hole ≡ last.hole → made.number ≡ last.number → (at : Spot) (ts : List ResolvedTree) → length ts ≡ last.count → put_use b first at ts ≡ put_use b made at ts
last_used b ls right first made last there low deep fills number at ts size =
    let less : first.deep ≡ last.deep + made.deep = omega (arith, low, deep) in
    ap (λ n. put_deep n b first.hole first.number at ts) less
    ∙ leads_put b last.count last.number last.hole last.deep (last.deep + made.deep) made.deep first.hole first.number at ts refl size (right first.number last there first.hole)
    ∙ (λ j. put_deep made.deep b (sym fills j) (sym number j) at ts)
