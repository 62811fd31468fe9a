-- A use of a definition that gives back a parameter comes to that argument.
use Rattle.std.proofs.Common.{◌≡◌, ℕ, zero, suc, ◌+◌, ◌-◌, ◌<◌, ◌≤◌, nat_le, nat_lt, true, ◌&&◌, List, [], ◌∷◌, ◌++◌, length, map, take, replicate, get_or, slice_get, slice_set, Option, Some, None, IfSome, inl, inr, refl, sym, ap, ◌∙◌, arith}
use Rattle.std.specs.Slice.{IsItemAt}
use Rattle.std.specs.Borrow.{Bor}
use Rattle.std.proofs.lemmas.Bool.{and_parts, and_from, false≢true, leb-true, le-leb, ltb-true, lt-ltb}
use Rattle.std.proofs.lemmas.Bool.Decides.{Decides-eqb}
use Rattle.std.proofs.lemmas.Option.{same_Some}
use Rattle.std.proofs.lemmas.List.{length-map, get_or-map, get_or_default}
use Rattle.spectra_resolved.specs.declared.spot.Spot.{Spot}
use Rattle.spectra_resolved.specs.declared.spot.Mark.{Mark}
use Rattle.spectra_resolved.specs.declared.tree.Leaf.{Leaf}
use Rattle.spectra_resolved.specs.declared.tree.Leaf.TheVariants as leaf
use Rattle.spectra_resolved.specs.declared.tree.Hole.{Hole}
use Rattle.spectra_resolved.specs.declared.tree.Hole.TheVariants as hole
use Rattle.spectra_resolved.specs.declared.tree.Resolved.{Resolved}
use Rattle.spectra_resolved.specs.Resolved.{ResolvedTree, tree, Form, ResolvedTrees, listed}
use Rattle.spectra_resolved.specs.Chained.{trees}
use Rattle.spectra_resolved.specs.Views.{resolved_data}
use Rattle.spectra_elaboration.specs.declared.given.Given.{Given}
use Rattle.spectra_elaboration.specs.declared.frames.Frame.{Frame}
use Rattle.spectra_copies.specs.Places.{placed, marked}
use Rattle.spectra_elaboration.specs.Putting.{Bodies, filled, form_filled, each_filled, put_deep, body_put, body_of}
use Rattle.spectra_elaboration.specs.Frames.{around_at, filled_at, used_at}
use Rattle.spectra_elaboration.specs.Giving.{is_within, place_of, leaf_gives, gives, form_gives, operand_gives, is_given, AreGiven}
use Rattle.spectra_elaboration.proofs.Framed.{deep_is}
use Rattle.spectra_elaboration.proofs.Tables.{entry, none_at}

-- ---- what is put in for a use

-- what is known of definitions holds where bodies stand in one another so deep
abbrev GivenAt : Bodies → List (Option Given) → ℕ → Type 0
GivenAt b gs deep = (k : ℕ) (g : Given) (h : Hole) (at : Spot) (args : List ResolvedTree) (d : ResolvedTree)
    → get_or gs k None ≡ Some g → g.deep ≤ deep → g.place < length args → put_deep deep b h k at args ≡ get_or args g.place d

module _ (b : Bodies) (gs : List (Option Given)) (deep : ℕ) (given : GivenAt b gs deep) (brought : Option Spot) (args : List ResolvedTree) (need place : ℕ) (low : need ≤ deep)
    (here : place < length args) (d : ResolvedTree) where
  leaf_given : (first : Spot) (at : Mark) (l : Leaf) → leaf_gives place l ≡ true → form_filled (put_deep deep b) brought args first at (Form.LeafOf l) ≡ get_or args place d
  leaf_given first at (leaf.Parameter k) is =
      let same : k ≡ place = (Decides-eqb k place).0 is in
      ap (λ n. get_or args n (tree first at (Form.LeafOf (leaf.Parameter k)))) same ∙ get_or_default args place (tree first at (Form.LeafOf (leaf.Parameter k))) d here
  leaf_given first at l is = absurd (false≢true is)

  use_given : (first : Spot) (at : Mark) (k : ℕ) (ts : ResolvedTrees) (o : Option Given) → get_or gs k None ≡ o → is_within need o ≡ true
      → (place_of o < length (listed (each_filled (put_deep deep b) brought args ts))) × (get_or (listed (each_filled (put_deep deep b) brought args ts)) (place_of o) d ≡ get_or args place d)
      → form_filled (put_deep deep b) brought args first at (Form.PredicateOf k ts) ≡ get_or args place d
  use_given first at k ts None there within found = absurd (false≢true within)
  use_given first at k ts (Some g) there within found =
      let less = leb-true g.deep need within in
      given k g hole.Truth at.spot (listed (each_filled (put_deep deep b) brought args ts)) d there (omega (arith, less, low)) found.0 ∙ found.1

  mutual
    tree_given : (t : ResolvedTree) → gives gs need place t ≡ true → filled (put_deep deep b) brought args t ≡ get_or args place d
    tree_given (tree first at form) is = form_given (placed brought first) (marked brought at) form is

    form_given : (first : Spot) (at : Mark) (form : Form) → form_gives gs need place form ≡ true → form_filled (put_deep deep b) brought args first at form ≡ get_or args place d
    form_given first at (Form.LeafOf l) is = leaf_given first at l is
    form_given first at (Form.PredicateOf k ts) is =
        let o = get_or gs k None in
        let parts = and_parts (is_within need o) (operand_gives gs need place (place_of o) ts) is in
        use_given first at k ts o refl parts.0 (operand_given (place_of o) ts parts.1)
    form_given first at (Form.MisuseOf m ts) is = absurd (false≢true is)
    form_given first at (Form.Next t) is = absurd (false≢true is)
    form_given first at (Form.Prefix word t) is = absurd (false≢true is)
    form_given first at (Form.Binary word x y) is = absurd (false≢true is)
    form_given first at (Form.Mod t number_at n) is = absurd (false≢true is)
    form_given first at (Form.And ts operators) is = absurd (false≢true is)
    form_given first at (Form.Or ts operators) is = absurd (false≢true is)
    form_given first at (Form.Index array n t) is = absurd (false≢true is)
    form_given first at (Form.Quantified word variable extent low high ts) is = absurd (false≢true is)

    operand_given : (i : ℕ) (ts : ResolvedTrees) → operand_gives gs need place i ts ≡ true
        → (i < length (listed (each_filled (put_deep deep b) brought args ts))) × (get_or (listed (each_filled (put_deep deep b) brought args ts)) i d ≡ get_or args place d)
    operand_given i ResolvedTrees.none is = absurd (false≢true is)
    operand_given zero (ResolvedTrees.one_more t ts) is = (omega arith, tree_given t is)
    operand_given (suc i) (ResolvedTrees.one_more t ts) is = let rest = operand_given i ts is in (let within = rest.0 in omega (arith, within), rest.1)

-- what is known of definitions is so
pub given_back : (b : Bodies) (gs : List (Option Given)) → AreGiven b gs → (deep : ℕ) → GivenAt b gs deep
given_back b gs right zero k g h at args d there low here = by (body_of b k) (right k g there)
  where
    by : (o : Option ResolvedTree) → is_given gs o g ≡ true → put_deep zero b h k at args ≡ get_or args g.place d
    by None is = absurd (false≢true is)
    by (Some body) is =
        let parts = and_parts (nat_lt 0 g.deep) (gives gs (g.deep - 1) g.place body) is in
        let some = ltb-true 0 g.deep parts.0 in
        absurd (omega (arith, some, low))
given_back b gs right (suc deep) k g h at args d there low here = by (given_back b gs right deep) (body_of b k) refl (right k g there)
  where
    by : GivenAt b gs deep → (o : Option ResolvedTree) → body_of b k ≡ o → is_given gs (body_of b k) g ≡ true → put_deep (suc deep) b h k at args ≡ get_or args g.place d
    by given None is so = absurd (false≢true (sym (ap (λ o. is_given gs o g) is) ∙ so))
    by given (Some body) is so =
        let parts = and_parts (nat_lt 0 g.deep) (gives gs (g.deep - 1) g.place body) (sym (ap (λ o. is_given gs o g) is) ∙ so) in
        ap (body_put (put_deep deep b) h at args) is ∙ tree_given b gs deep given (Some at) args (g.deep - 1) g.place (omega (arith, low)) here d body parts.1

-- ---- the use in a frame

pub used_given : (b : Bodies) (gs : List (Option Given)) → AreGiven b gs → (fs : List Frame) (i : ℕ) (f : Frame) (g : Given) (h : Hole) (k : ℕ) (at : Spot) (ts : List Resolved) (t : Resolved)
    → (around_at b fs i).deep ≡ f.deep → get_or gs k None ≡ Some g → g.deep ≤ f.deep → g.place < length ts → t ≡ get_or ts g.place t
    → used_at b fs i h k at (map resolved_data ts) ≡ filled_at b fs i (resolved_data t)
used_given b gs right fs i f g h k at ts t deep there low within is =
    given_back b gs right (around_at b fs i).deep k g h at (map (filled_at b fs i) (map resolved_data ts)) (filled_at b fs i (resolved_data t)) there (omega (arith, low, deep))
    (let m = length-map (map resolved_data ts) (filled_at b fs i) in let n = length-map ts resolved_data in omega (arith, m, n, within))
    ∙ get_or-map (filled_at b fs i) (map resolved_data ts) g.place (resolved_data t) (filled_at b fs i (resolved_data t)) (let n = length-map ts resolved_data in omega (arith, n, within))
    ∙ ap (filled_at b fs i) (get_or-map resolved_data ts g.place t (resolved_data t) within ∙ ap resolved_data (sym is))

-- so it is with the argument that is there, if one is
pub item_given : (b : Bodies) (gs : List (Option Given)) → AreGiven b gs → (fs : List Frame) (i : ℕ) (f : Frame) (g : Given) (k : ℕ) (ts : List Resolved) → slice_get fs i ≡ Some f
    → get_or gs k None ≡ Some g → g.deep ≤ f.deep → (r : Option (Bor Resolved)) → IsItemAt ts g.place r
    → IfSome r (λ t. (h : Hole) (at : Spot) → used_at b fs i h k at (map resolved_data ts) ≡ filled_at b fs i (resolved_data t.now))
item_given b gs right fs i f g k ts here there low None item = tt
item_given b gs right fs i f g k ts here there low (Some t) item = λ h at. used_given b gs right fs i f g h k at ts t.now (deep_is b fs i f here) there low item.3.0 item.1

-- ---- one more is known

-- all that one table says another one does
abbrev Extends : (gs hs : List (Option Given)) → Type 0
Extends gs hs = (k : ℕ) (g : Given) → get_or gs k None ≡ Some g → get_or hs k None ≡ Some g

module _ (gs hs : List (Option Given)) (more : Extends gs hs) (deep place : ℕ) where
  use_more : (k : ℕ) (ts : ResolvedTrees) (o : Option Given) → get_or gs k None ≡ o → is_within deep o ≡ true → operand_gives hs deep place (place_of o) ts ≡ true
      → form_gives hs deep place (Form.PredicateOf k ts) ≡ true
  use_more k ts None there within found = absurd (false≢true within)
  use_more k ts (Some g) there within found =
      ap (λ o. is_within deep o && operand_gives hs deep place (place_of o) ts) (more k g there) ∙ and_from (nat_le g.deep deep) (operand_gives hs deep place g.place ts) within found

  mutual
    tree_more : (t : ResolvedTree) → gives gs deep place t ≡ true → gives hs deep place t ≡ true
    tree_more (tree first at form) is = form_more form is

    form_more : (form : Form) → form_gives gs deep place form ≡ true → form_gives hs deep place form ≡ true
    form_more (Form.LeafOf l) is = is
    form_more (Form.PredicateOf k ts) is =
        let o = get_or gs k None in
        let parts = and_parts (is_within deep o) (operand_gives gs deep place (place_of o) ts) is in
        use_more k ts o refl parts.0 (operand_more (place_of o) ts parts.1)
    form_more (Form.MisuseOf m ts) is = absurd (false≢true is)
    form_more (Form.Next t) is = absurd (false≢true is)
    form_more (Form.Prefix word t) is = absurd (false≢true is)
    form_more (Form.Binary word x y) is = absurd (false≢true is)
    form_more (Form.Mod t number_at n) is = absurd (false≢true is)
    form_more (Form.And ts operators) is = absurd (false≢true is)
    form_more (Form.Or ts operators) is = absurd (false≢true is)
    form_more (Form.Index array n t) is = absurd (false≢true is)
    form_more (Form.Quantified word variable extent low high ts) is = absurd (false≢true is)

    operand_more : (i : ℕ) (ts : ResolvedTrees) → operand_gives gs deep place i ts ≡ true → operand_gives hs deep place i ts ≡ true
    operand_more i ResolvedTrees.none is = absurd (false≢true is)
    operand_more zero (ResolvedTrees.one_more t ts) is = tree_more t is
    operand_more (suc i) (ResolvedTrees.one_more t ts) is = operand_more i ts is

given_more : (gs hs : List (Option Given)) → Extends gs hs → (o : Option ResolvedTree) (g : Given) → is_given gs o g ≡ true → is_given hs o g ≡ true
given_more gs hs more None g is = is
given_more gs hs more (Some body) g is =
    let parts = and_parts (nat_lt 0 g.deep) (gives gs (g.deep - 1) g.place body) is in
    and_from (nat_lt 0 g.deep) (gives hs (g.deep - 1) g.place body) parts.0 (tree_more gs hs more (g.deep - 1) g.place body parts.1)

-- an entry where nothing was
entry_kept : (gs : List (Option Given)) (k : ℕ) (o : Option Given) → get_or gs k None ≡ None → Extends gs (slice_set gs k o)
entry_kept [] k o none j g is = is
entry_kept (x ∷ gs) zero o none zero g is = absurd (let e : None ≡ Some g = sym none ∙ is in cc)
entry_kept (x ∷ gs) zero o none (suc j) g is = is
entry_kept (x ∷ gs) (suc k) o none zero g is = is
entry_kept (x ∷ gs) (suc k) o none (suc j) g is = entry_kept gs k o none j g is

pub one_more_given : (b : Bodies) (gs hs : List (Option Given)) (k : ℕ) (found : Given) → AreGiven b gs → get_or gs k None ≡ None → is_given gs (body_of b k) found ≡ true
    → hs ≡ slice_set gs k (Some found) → AreGiven b hs
one_more_given b gs hs k found right none is set j g there = ap (λ xs. is_given xs (body_of b j) g) set ∙ given_more gs (slice_set gs k (Some found)) (entry_kept gs k (Some found) none) (body_of b j) g known
  where
    known : is_given gs (body_of b j) g ≡ true
    known = elim (entry gs k (Some found) j g (sym (ap (λ xs. get_or xs j None) set) ∙ there)) [
      | inl before ↦ right j g before
      | inr here ↦ (let e = same_Some found g here.1 in (λ i. is_given gs (body_of b (here.0 i)) (sym e i)) ∙ is)
    ]

-- nothing is known at first
pub nothing_given : (b : Bodies) (gs xs : List (Option Given)) (n m : ℕ) → gs ≡ take n xs ++ replicate m None → xs ≡ [] → AreGiven b gs
nothing_given b gs xs n m is empty k g there = absurd (let e : None ≡ Some g = sym (ap (λ ys. get_or ys k None) is ∙ none_at xs n m k empty) ∙ there in cc)

-- ---- a step on the way

operand_at : (gs : List (Option Given)) (deep place i : ℕ) (ts : List Resolved) (t : Resolved) → i < length ts → t ≡ get_or ts i t → gives gs deep place (resolved_data t) ≡ true
    → operand_gives gs deep place i (trees (map resolved_data ts)) ≡ true
operand_at gs deep place i [] t within is comes = absurd (omega arith)
operand_at gs deep place zero (x ∷ ts) t within is comes = ap (λ y. gives gs deep place (resolved_data y)) (sym is) ∙ comes
operand_at gs deep place (suc i) (x ∷ ts) t within is comes = operand_at gs deep place i ts t (omega (arith, within)) is comes

-- a use comes to what the argument comes to that it gives back
pub use_comes : (gs : List (Option Given)) (k : ℕ) (g : Given) (ts : List Resolved) (t : Resolved) (deep place : ℕ) → get_or gs k None ≡ Some g → g.deep ≤ deep → g.place < length ts
    → t ≡ get_or ts g.place t → gives gs deep place (resolved_data t) ≡ true → form_gives gs deep place (Form.PredicateOf k (trees (map resolved_data ts))) ≡ true
use_comes gs k g ts t deep place there low within is comes =
    ap (λ o. is_within deep o && operand_gives gs deep place (place_of o) (trees (map resolved_data ts))) there
    ∙ and_from (nat_le g.deep deep) (operand_gives gs deep place g.place (trees (map resolved_data ts))) (le-leb g.deep deep low) (operand_at gs deep place g.place ts t within is comes)

-- a body that comes to a parameter is given back by its definition
pub found_given : (gs : List (Option Given)) (body : ResolvedTree) (need : ℕ) (g : Given) → g.deep ≡ need + 1 → gives gs need g.place body ≡ true → is_given gs (Some body) g ≡ true
found_given gs body need g deep comes =
    let less : g.deep - 1 ≡ need = omega (arith, deep) in
    and_from (nat_lt 0 g.deep) (gives gs (g.deep - 1) g.place body) (lt-ltb 0 g.deep (omega (arith, deep))) (ap (λ n. gives gs n g.place body) less ∙ comes)
