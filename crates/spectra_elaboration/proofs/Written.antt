-- Where every definition has a meaning and none is used in its own body, everything is put in.
use Rattle.std.proofs.Common.{◌≡◌, ◌⊎◌, inl, inr, ℕ, zero, suc, ◌==◌, ◌<◌, ◌≤◌, ◌&&◌, ◌||◌, nat_lt, Bool, true, false, List, [], ◌∷◌, ◌++◌, length, map, get_or, Option, Some, None, unwrap_or, slice_get, refl, sym, ap, subst, ◌∙◌, arith}
use Rattle.std.proofs.lemmas.List.{length-map}
use Rattle.std.specs.Prelude.{Contains}
use Rattle.std.proofs.lemmas.Bool.{false≢true, and_parts, and_from}
use Rattle.std.proofs.lemmas.Bool.Decides.{nat_tests}
use Rattle.std.proofs.lemmas.List.Elements.{Contains-append_left, Contains-append_right}
use Rattle.spectra_resolved.specs.declared.spot.Spot.{Spot}
use Rattle.spectra_resolved.specs.declared.spot.Mark.{Mark}
use Rattle.spectra_resolved.specs.declared.tree.Leaf.{Leaf}
use Rattle.spectra_resolved.specs.declared.tree.Leaf.TheVariants as leaf
use Rattle.spectra_resolved.specs.declared.tree.Hole.{Hole}
use Rattle.spectra_resolved.specs.declared.tree.Hole.TheVariants as hole
use Rattle.spectra_resolved.specs.Resolved.{ResolvedTree, tree, Form, ResolvedTrees, listed}
use Rattle.spectra_resolved.specs.declared.tree.Extent.{Extent}
use Rattle.spectra_resolved.specs.declared.tree.Extent.TheVariants as extents
use Rattle.spectra_judge.specs.PutIn.{Parts, is_bound_at, seen_inside, is_put_in, form_put_in, each_put_in}
use Rattle.spectra_copies.specs.Places.{placed, marked}
use Rattle.spectra_elaboration.specs.Putting.{Bodies, Put, leaf_put, filled, form_filled, each_filled, body_of, body_put, put_deep, with_bodies}
use Rattle.spectra_uses.specs.Uses.{uses_in, form_uses, each_uses}
use Rattle.spectra_uses.specs.Cycles.{reaches}
use Rattle.spectra_uses.specs.Orders.{StandsBefore, IsUse, BothOnCycle, IsOrderOf}
use Rattle.spectra_elaboration.specs.Written.{is_use, is_written_leaf, is_written, form_written, each_written, AreWritten}
use Rattle.spectra_elaboration.specs.Laws.{EverythingIsPutIn}
use Rattle.spectra_elaboration.proofs.OutWhole.{written_out_whole}

-- what passes one test passes another one
pub record Passes (good more : Parts) : Type 0 where
  pub leaf : (l : Leaf) → good.leaf l ≡ true → more.leaf l ≡ true
  pub array : (first count : ℕ) → good.array first count ≡ true → more.array first count ≡ true

or_right : (p q : Bool) → q ≡ true → (p || q) ≡ true
or_right true q is = refl
or_right false q is = is

or_more : (p q r : Bool) → (q ≡ true → r ≡ true) → (p || q) ≡ true → (p || r) ≡ true
or_more true q r more is = refl
or_more false q r more is = more is

-- in the body of a quantifier all pass that pass outside
pub passes_inside : (extent : Extent) (variable : Spot) (good : Parts) → Passes good (seen_inside extent variable good)
passes_inside extents.Right variable good = record { leaf = λ l is. is; array = λ first count is. is }
passes_inside extents.Open variable good = record { leaf = λ l is. or_right (is_bound_at variable l) (good.leaf l) is; array = λ first count is. is }
passes_inside extents.Wrong variable good = record { leaf = λ l is. or_right (is_bound_at variable l) (good.leaf l) is; array = λ first count is. is }

inside_too : (extent : Extent) (variable : Spot) (good more : Parts) → Passes good more → Passes (seen_inside extent variable good) (seen_inside extent variable more)
inside_too extents.Right variable good more passes = passes
inside_too extents.Open variable good more passes = record { leaf = λ l. or_more (is_bound_at variable l) (good.leaf l) (more.leaf l) (passes.leaf l); array = passes.array }
inside_too extents.Wrong variable good more passes = record { leaf = λ l. or_more (is_bound_at variable l) (good.leaf l) (more.leaf l) (passes.leaf l); array = passes.array }

-- so it is with expressions in which everything is put in
mutual
  pub put_in_too : (good more : Parts) → Passes good more → (t : ResolvedTree) → is_put_in good t ≡ true → is_put_in more t ≡ true
  put_in_too good more passes (tree first at form) e = form_too good more passes form e

  form_too : (good more : Parts) → Passes good more → (form : Form) → form_put_in good form ≡ true → form_put_in more form ≡ true
  form_too good more passes (Form.LeafOf l) e = passes.leaf l e
  form_too good more passes (Form.PredicateOf k ts) e = absurd (false≢true e)
  form_too good more passes (Form.MisuseOf m ts) e = absurd (false≢true e)
  form_too good more passes (Form.Next t) e = put_in_too good more passes t e
  form_too good more passes (Form.Prefix word t) e = put_in_too good more passes t e
  form_too good more passes (Form.Binary word a b) e =
      let parts = and_parts (is_put_in good a) (is_put_in good b) e in
      and_from (is_put_in more a) (is_put_in more b) (put_in_too good more passes a parts.0) (put_in_too good more passes b parts.1)
  form_too good more passes (Form.Mod t number_at n) e = put_in_too good more passes t e
  form_too good more passes (Form.And ts operators) e = each_too good more passes ts e
  form_too good more passes (Form.Or ts operators) e = each_too good more passes ts e
  form_too good more passes (Form.Index array n t) e =
      let parts = and_parts (good.array array n) (is_put_in good t) e in
      and_from (more.array array n) (is_put_in more t) (passes.array array n parts.0) (put_in_too good more passes t parts.1)
  form_too good more passes (Form.Quantified word variable extent low high ts) e =
      let inside = seen_inside extent variable good in
      let inside' = seen_inside extent variable more in
      let parts = and_parts (is_put_in good low) (is_put_in good high && each_put_in inside ts) e in
      let rest = and_parts (is_put_in good high) (each_put_in inside ts) parts.1 in
      and_from (is_put_in more low) (is_put_in more high && each_put_in inside' ts) (put_in_too good more passes low parts.0)
      (and_from (is_put_in more high) (each_put_in inside' ts) (put_in_too good more passes high rest.0) (each_too inside inside' (inside_too extent variable good more passes) ts rest.1))

  each_too : (good more : Parts) → Passes good more → (ts : ResolvedTrees) → each_put_in good ts ≡ true → each_put_in more ts ≡ true
  each_too good more passes ResolvedTrees.none e = refl
  each_too good more passes (ResolvedTrees.one_more t ts) e =
      let parts = and_parts (is_put_in good t) (each_put_in good ts) e in
      and_from (is_put_in more t) (each_put_in more ts) (put_in_too good more passes t parts.0) (each_too good more passes ts parts.1)

-- and with expressions as they are written
module _ (arities : List ℕ) (params : ℕ) where
  leaf_written_too : (good more : Parts) → Passes good more → (l : Leaf) → is_written_leaf arities good params l ≡ true → is_written_leaf arities more params l ≡ true
  leaf_written_too good more passes (leaf.Define k) e = e
  leaf_written_too good more passes (leaf.Parameter k) e = e
  leaf_written_too good more passes (leaf.Truth b) e = passes.leaf (leaf.Truth b) e
  leaf_written_too good more passes (leaf.Number z) e = passes.leaf (leaf.Number z) e
  leaf_written_too good more passes (leaf.EnumName n) e = passes.leaf (leaf.EnumName n) e
  leaf_written_too good more passes (leaf.Variable k) e = passes.leaf (leaf.Variable k) e
  leaf_written_too good more passes (leaf.Own k) e = passes.leaf (leaf.Own k) e
  leaf_written_too good more passes (leaf.Bound at) e = passes.leaf (leaf.Bound at) e
  leaf_written_too good more passes (leaf.Hole h) e = passes.leaf (leaf.Hole h) e

  mutual
    pub written_too : (good more : Parts) → Passes good more → (t : ResolvedTree) → is_written arities good params t ≡ true → is_written arities more params t ≡ true
    written_too good more passes (tree first at form) e = form_written_too good more passes form e

    form_written_too : (good more : Parts) → Passes good more → (form : Form) → form_written arities good params form ≡ true → form_written arities more params form ≡ true
    form_written_too good more passes (Form.LeafOf l) e = leaf_written_too good more passes l e
    form_written_too good more passes (Form.PredicateOf k ts) e =
        let parts = and_parts (is_use arities k (length (listed ts))) (each_written arities good params ts) e in
        and_from (is_use arities k (length (listed ts))) (each_written arities more params ts) parts.0 (each_written_too good more passes ts parts.1)
    form_written_too good more passes (Form.MisuseOf m ts) e = absurd (false≢true e)
    form_written_too good more passes (Form.Next t) e = written_too good more passes t e
    form_written_too good more passes (Form.Prefix word t) e = written_too good more passes t e
    form_written_too good more passes (Form.Binary word a b) e =
        let parts = and_parts (is_written arities good params a) (is_written arities good params b) e in
        and_from (is_written arities more params a) (is_written arities more params b) (written_too good more passes a parts.0) (written_too good more passes b parts.1)
    form_written_too good more passes (Form.Mod t number_at n) e = written_too good more passes t e
    form_written_too good more passes (Form.And ts operators) e = each_written_too good more passes ts e
    form_written_too good more passes (Form.Or ts operators) e = each_written_too good more passes ts e
    form_written_too good more passes (Form.Index array n t) e =
        let parts = and_parts (good.array array n) (is_written arities good params t) e in
        and_from (more.array array n) (is_written arities more params t) (passes.array array n parts.0) (written_too good more passes t parts.1)
    form_written_too good more passes (Form.Quantified word variable extent low high ts) e =
        let inside = seen_inside extent variable good in
        let inside' = seen_inside extent variable more in
        let parts = and_parts (is_written arities good params low) (is_written arities good params high && each_written arities inside params ts) e in
        let rest = and_parts (is_written arities good params high) (each_written arities inside params ts) parts.1 in
        and_from (is_written arities more params low) (is_written arities more params high && each_written arities inside' params ts) (written_too good more passes low parts.0)
        (and_from (is_written arities more params high) (each_written arities inside' params ts) (written_too good more passes high rest.0) (each_written_too inside inside' (inside_too extent variable good more passes) ts rest.1))

    each_written_too : (good more : Parts) → Passes good more → (ts : ResolvedTrees) → each_written arities good params ts ≡ true → each_written arities more params ts ≡ true
    each_written_too good more passes ResolvedTrees.none e = refl
    each_written_too good more passes (ResolvedTrees.one_more t ts) e =
        let parts = and_parts (is_written arities good params t) (each_written arities good params ts) e in
        and_from (is_written arities more params t) (each_written arities more params ts) (written_too good more passes t parts.0) (each_written_too good more passes ts parts.1)

-- everything is put in in all of these
abbrev AreWhole : Parts → List ResolvedTree → Type 0
AreWhole good ts = (i : ℕ) (d : ResolvedTree) → i < length ts → is_put_in good (get_or ts i d) ≡ true

-- so it is in the use of a definition with as many such arguments as it has parameters
abbrev PutsIn : List ℕ → Parts → Put → ℕ → Type 0
PutsIn arities good put k = (h : Hole) (at : Spot) (ts : List ResolvedTree) → get_or arities k 0 ≤ length ts → AreWhole good ts → is_put_in good (put h k at ts) ≡ true

whole_each : (good : Parts) (ts : ResolvedTrees) → each_put_in good ts ≡ true → AreWhole good (listed ts)
whole_each good ResolvedTrees.none e i d below = absurd (omega arith)
whole_each good (ResolvedTrees.one_more t ts) e zero d below = (and_parts (is_put_in good t) (each_put_in good ts) e).0
whole_each good (ResolvedTrees.one_more t ts) e (suc i) d below = whole_each good ts (and_parts (is_put_in good t) (each_put_in good ts) e).1 i d (omega arith)

module _ (arities : List ℕ) (below_all : Parts) where
  module _ (put : Put) (brought : Option Spot) (arguments : List ResolvedTree) (params : ℕ) (enough : params ≤ length arguments) where
    -- each definition that is used there is put in, by whatever more may stand there
    abbrev Puts : List ℕ → Type 0
    Puts used = (more : Parts) → Passes below_all more → (k : ℕ) → Contains used k → k < length arities → PutsIn arities more put k

    used_left : (us vs : List ℕ) → Puts (us ++ vs) → Puts us
    used_left us vs puts more passes k in' below = puts more passes k (Contains-append_left us vs k in') below

    used_right : (us vs : List ℕ) → Puts (us ++ vs) → Puts vs
    used_right us vs puts more passes k in' below = puts more passes k (Contains-append_right us vs k in') below

    count_filled : (ts : ResolvedTrees) → length (listed (each_filled put brought arguments ts)) ≡ length (listed ts)
    count_filled ResolvedTrees.none = refl
    count_filled (ResolvedTrees.one_more t ts) = ap suc (count_filled ts)

    use_whole : (good : Parts) (h : Hole) (k : ℕ) (at : Spot) (ts : List ResolvedTree) (n : ℕ) → is_use arities k n ≡ true → length ts ≡ n → AreWhole good ts → ((below : k < length arities) → PutsIn arities good put k)
        → is_put_in good (put h k at ts) ≡ true
    use_whole good h k at ts n use' size all puts =
        let parts = and_parts (nat_lt k (length arities)) (get_or arities k 0 == n) use' in
        let below : k < length arities = (let e = parts.0 in grind (arith, nat_tests)) in
        let is : get_or arities k 0 ≡ n = (let e = parts.1 in grind (arith, nat_tests)) in
        puts below h at ts (omega (arith, is, size)) all

    leaf_whole : (good : Parts) → Passes below_all good → AreWhole good arguments → (first : Spot) (at : Mark) (l : Leaf) → is_written_leaf arities good params l ≡ true → Puts (form_uses (Form.LeafOf l))
        → is_put_in good (leaf_put put arguments first at l) ≡ true
    leaf_whole good passes whole first at (leaf.Define k) e puts = use_whole good hole.Anything k at.spot [] 0 e refl (λ i d below. absurd (omega arith)) (puts good passes k (0, omega arith, refl))
    leaf_whole good passes whole first at (leaf.Parameter k) e puts = whole k _ (let below : k < params = grind (arith, nat_tests) in omega (arith, below, enough))
    leaf_whole good passes whole first at (leaf.Truth b) e puts = e
    leaf_whole good passes whole first at (leaf.Number z) e puts = e
    leaf_whole good passes whole first at (leaf.EnumName n) e puts = e
    leaf_whole good passes whole first at (leaf.Variable k) e puts = e
    leaf_whole good passes whole first at (leaf.Own k) e puts = e
    leaf_whole good passes whole first at (leaf.Bound variable) e puts = e
    leaf_whole good passes whole first at (leaf.Hole h) e puts = e

    mutual
      filled_whole : (good : Parts) → Passes below_all good → AreWhole good arguments → (t : ResolvedTree) → is_written arities good params t ≡ true → Puts (uses_in t) → is_put_in good (filled put brought arguments t) ≡ true
      filled_whole good passes whole (tree first at form) e puts = form_whole good passes whole (placed brought first) (marked brought at) form e puts

      form_whole : (good : Parts) → Passes below_all good → AreWhole good arguments → (first : Spot) (at : Mark) (form : Form) → form_written arities good params form ≡ true → Puts (form_uses form)
          → is_put_in good (form_filled put brought arguments first at form) ≡ true
      form_whole good passes whole first at (Form.LeafOf l) e puts = leaf_whole good passes whole first at l e puts
      form_whole good passes whole first at (Form.PredicateOf k ts) e puts =
          let parts = and_parts (is_use arities k (length (listed ts))) (each_written arities good params ts) e in
          use_whole good hole.Truth k at.spot (listed (each_filled put brought arguments ts)) (length (listed ts)) parts.0 (count_filled ts)
          (whole_each good (each_filled put brought arguments ts) (each_whole good passes whole ts parts.1 (used_right (k ∷ []) (each_uses ts) puts)))
          (puts good passes k (0, omega arith, refl))
      form_whole good passes whole first at (Form.MisuseOf m ts) e puts = absurd (false≢true e)
      form_whole good passes whole first at (Form.Next t) e puts = filled_whole good passes whole t e puts
      form_whole good passes whole first at (Form.Prefix word t) e puts = filled_whole good passes whole t e puts
      form_whole good passes whole first at (Form.Binary word a b) e puts =
          let parts = and_parts (is_written arities good params a) (is_written arities good params b) e in
          and_from (is_put_in good (filled put brought arguments a)) (is_put_in good (filled put brought arguments b)) (filled_whole good passes whole a parts.0 (used_left (uses_in a) (uses_in b) puts))
          (filled_whole good passes whole b parts.1 (used_right (uses_in a) (uses_in b) puts))
      form_whole good passes whole first at (Form.Mod t number_at n) e puts = filled_whole good passes whole t e puts
      form_whole good passes whole first at (Form.And ts operators) e puts = each_whole good passes whole ts e puts
      form_whole good passes whole first at (Form.Or ts operators) e puts = each_whole good passes whole ts e puts
      form_whole good passes whole first at (Form.Index array n t) e puts =
          let parts = and_parts (good.array array n) (is_written arities good params t) e in
          and_from (good.array array n) (is_put_in good (filled put brought arguments t)) parts.0 (filled_whole good passes whole t parts.1 puts)
      form_whole good passes whole first at (Form.Quantified word variable extent low high ts) e puts =
          let inside = seen_inside extent variable good in
          let on = passes_inside extent variable good in
          let parts = and_parts (is_written arities good params low) (is_written arities good params high && each_written arities inside params ts) e in
          let rest = and_parts (is_written arities good params high) (each_written arities inside params ts) parts.1 in
          let others = used_right (uses_in low) (uses_in high ++ each_uses ts) puts in
          let all : AreWhole inside arguments = λ i d below. put_in_too good inside on (get_or arguments i d) (whole i d below) in
          let both : Passes below_all inside = record { leaf = λ l is. on.leaf l (passes.leaf l is); array = λ f n is. on.array f n (passes.array f n is) } in
          and_from (is_put_in good (filled put brought arguments low)) (is_put_in good (filled put brought arguments high) && each_put_in inside (each_filled put brought arguments ts))
          (filled_whole good passes whole low parts.0 (used_left (uses_in low) (uses_in high ++ each_uses ts) puts))
          (and_from (is_put_in good (filled put brought arguments high)) (each_put_in inside (each_filled put brought arguments ts))
          (filled_whole good passes whole high rest.0 (used_left (uses_in high) (each_uses ts) others))
          (each_whole inside both all ts rest.1 (used_right (uses_in high) (each_uses ts) others)))

      each_whole : (good : Parts) → Passes below_all good → AreWhole good arguments → (ts : ResolvedTrees) → each_written arities good params ts ≡ true → Puts (each_uses ts)
          → each_put_in good (each_filled put brought arguments ts) ≡ true
      each_whole good passes whole ResolvedTrees.none e puts = refl
      each_whole good passes whole (ResolvedTrees.one_more t ts) e puts =
          let parts = and_parts (is_written arities good params t) (each_written arities good params ts) e in
          and_from (is_put_in good (filled put brought arguments t)) (each_put_in good (each_filled put brought arguments ts)) (filled_whole good passes whole t parts.0 (used_left (uses_in t) (each_uses ts) puts))
          (each_whole good passes whole ts parts.1 (used_right (uses_in t) (each_uses ts) puts))

-- ---- bodies in one another

-- a body by its number
pub record IsThere (bodies : List ResolvedTree) (k : ℕ) : Type 0 where
  pub body : ResolvedTree
  pub there : slice_get bodies k ≡ Some body
  pub given : body_of (map (λ b. Some b) bodies) k ≡ Some body
  pub uses : unwrap_or (slice_get (map uses_in bodies) k) [] ≡ uses_in body

is_there : (bodies : List ResolvedTree) (k : ℕ) → k < length bodies → IsThere bodies k
is_there [] k below = absurd (omega arith)
is_there (b ∷ bodies) zero below = record { body = b; there = refl; given = refl; uses = refl }
is_there (b ∷ bodies) (suc k) below = let rest = is_there bodies k (omega arith) in record { body = rest.body; there = rest.there; given = rest.given; uses = rest.uses }

used_at : (us : List ℕ) (k : ℕ) → Contains us k → (i : ℕ) × (slice_get us i ≡ Some k)
used_at us k c = (c.0, place us c.0 c.1 ∙ ap Some c.2)
  where
    place : (vs : List ℕ) (i : ℕ) → i < length vs → slice_get vs i ≡ Some (get_or vs i k)
    place [] i below = absurd (omega arith)
    place (v ∷ vs) zero below = refl
    place (v ∷ vs) (suc i) below = place vs i (omega arith)

module _ (arities : List ℕ) (good : Parts) (bodies : List ResolvedTree) (order : List ℕ) (written : AreWritten arities good bodies) (orders : IsOrderOf (map uses_in bodies) (length bodies) order)
    (free : (k : ℕ) → k < length bodies → reaches (map uses_in bodies) (length bodies) k k ≡ false) where
  abbrev b : Bodies
  b = map (λ body. Some body) bodies

  abbrev Whole : ℕ → ℕ → Type 0
  Whole deep k = (more : Parts) → Passes good more → PutsIn arities more (put_deep deep b) k

  deep_whole : (deep k : ℕ) → StandsBefore order deep k → Whole deep k
  deep_whole zero k stands more passes h at ts enough whole = let before = stands.before in absurd (omega (arith, before))
  deep_whole (suc deep) k stands more passes h at ts enough whole =
      let below = orders.within stands.at k stands.there in
      let is = is_there bodies k below in
      subst (λ body. is_put_in more (body_put (put_deep deep b) h at ts body) ≡ true) (sym is.given)
      (filled_whole arities good (put_deep deep b) (Some at) ts (get_or arities k 0) enough more passes whole is.body
      (written_too arities (get_or arities k 0) good more passes is.body (written.each k is.body is.there))
      (λ more' passes' u used small. uses_whole (λ v before. deep_whole deep v before) is u used small more' passes'))
    where
      uses_whole : ((v : ℕ) → StandsBefore order deep v → Whole deep v) → (is : IsThere bodies k) (u : ℕ) → Contains (uses_in is.body) u → u < length arities → Whole deep u
      uses_whole less is u used small =
          let size = written.size in
          let at' = used_at (uses_in is.body) u used in
          let use' : IsUse (map uses_in bodies) k u = record { at = at'.0; there = ap (λ us. slice_get us at'.0) is.uses ∙ at'.1 } in
          by (orders.behind stands.at k u stands.there use' (omega (arith, small, size)))
        where
          by : StandsBefore order stands.at u ⊎ BothOnCycle (map uses_in bodies) (length bodies) k u → Whole deep u
          by (inl earlier) =
              let first = earlier.before in
              let last = stands.before in
              less u (record { at = earlier.at; before = omega (arith, first, last); there = earlier.there })
          by (inr both) = absurd (false≢true (sym (free k (orders.within stands.at k stands.there)) ∙ both.user_is))

  pub line_whole : (t : ResolvedTree) → is_written arities good 0 t ≡ true → is_put_in good (with_bodies b t) ≡ true
  line_whole t e = filled_whole arities good (put_deep (length b) b) None [] 0 (omega arith) good passes_itself (λ i d below. absurd (omega arith)) t e puts
    where
      passes_itself : Passes good good
      passes_itself = record { leaf = λ l is. is; array = λ first count is. is }

      puts : (more : Parts) → Passes good more → (u : ℕ) → Contains (uses_in t) u → u < length arities → PutsIn arities more (put_deep (length b) b) u
      puts more passes u used small =
          let size = written.size in
          let all = length-map bodies (λ (body : ResolvedTree). Some body) in
          let stands = orders.whole u (omega (arith, small, size)) in
          let before = stands.before in
          let count = orders.size in
          deep_whole (length b) u (record { at = stands.at; before = omega (arith, before, count, all); there = stands.there }) more passes

pub everything_is_put_in : EverythingIsPutIn
everything_is_put_in arities good bodies order numbers written orders free t e =
    written_out_whole good numbers (with_bodies (map (λ body. Some body) bodies) t) (line_whole arities good bodies order written orders free t e)
