-- What frames stand for when others stand behind them.
use Rattle.std.proofs.Common.{◌≡◌, ◌⊎◌, inl, inr, ℕ, zero, suc, ◌+◌, ◌<◌, ◌≤◌, List, [], ◌∷◌, ◌++◌, length, map, get_or, Option, Some, None, slice_get, refl, sym, ap, subst, ◌∙◌, append_assoc, arith}
use Rattle.std.proofs.lemmas.List.{length-append, get_or_append_left}
use Rattle.std.proofs.Math.Seq.{get_or-append_seam}
use Rattle.spectra_resolved.specs.declared.spot.Spot.{Spot}
use Rattle.spectra_resolved.specs.declared.tree.Resolved.{Resolved}
use Rattle.spectra_resolved.specs.Resolved.{ResolvedTree, listed}
use Rattle.spectra_resolved.specs.Chained.{trees}
use Rattle.spectra_resolved.specs.Views.{resolved_data}
use Rattle.spectra_elaboration.specs.declared.frames.Frame.{Frame}
use Rattle.spectra_elaboration.specs.declared.following.Use.{Use}
use Rattle.spectra_elaboration.specs.Putting.{Bodies, Put, filled, each_filled, put_deep, body_put, body_of, hole_at, with_bodies}
use Rattle.spectra_elaboration.specs.Frames.{Around, nothing_around, frame_around, arounds_behind, around_at, filled_at, AreFrames, Grows}
use Rattle.spectra_elaboration.specs.Following.{Goes, put_use}
use Rattle.spectra_elaboration.proofs.Chained.{map_twice}

-- ---- what frames stand for

module _ (b : Bodies) where
  behind_two : (before : List Around) (fs gs : List Frame) → arounds_behind b before (fs ++ gs) ≡ arounds_behind b (arounds_behind b before fs) gs
  behind_two before [] gs = refl
  behind_two before (f ∷ fs) gs = behind_two (before ++ frame_around b before f ∷ []) fs gs

  count_behind : (before : List Around) (fs : List Frame) → length (arounds_behind b before fs) ≡ length before + length fs
  count_behind before [] = omega arith
  count_behind before (f ∷ fs) =
      let rest = count_behind (before ++ frame_around b before f ∷ []) fs in
      let size = length-append before (frame_around b before f ∷ []) in
      omega (arith, rest, size)

  all_behind : (fs : List Frame) → length (arounds_behind b [] fs) ≡ length fs
  all_behind fs = let n = count_behind [] fs in omega (arith, n)

  first_kept : (before : List Around) (fs : List Frame) (i : ℕ) (d : Around) → i < length before → get_or (arounds_behind b before fs) i d ≡ get_or before i d
  first_kept before [] i d below = refl
  first_kept before (f ∷ fs) i d below =
      let x = frame_around b before f in
      let size = length-append before (x ∷ []) in
      first_kept (before ++ x ∷ []) fs i d (omega (arith, size, below)) ∙ get_or_append_left before (x ∷ []) d i below

  -- frames stand for the same with others behind them
  pub kept : (fs gs : List Frame) (i : ℕ) → i < length fs → around_at b (fs ++ gs) i ≡ around_at b fs i
  unfolding around_at
  kept fs gs i below =
      let size = all_behind fs in
      ap (λ xs. get_or xs i nothing_around) (behind_two [] fs gs) ∙ first_kept (arounds_behind b [] fs) gs i nothing_around (omega (arith, size, below))

  -- a frame whose arguments stand in one of these
  abbrev pub frame_at : List Frame → Frame → Around
  frame_at fs f = record { deep = f.deep; brought = f.brought; arguments = map (λ t. filled_at b fs f.outer (resolved_data t)) f.arguments.now }

  pub pushed : (fs : List Frame) (f : Frame) → around_at b (fs ++ f ∷ []) (length fs) ≡ frame_at fs f
  unfolding around_at
  pushed fs f =
      ap (λ xs. get_or xs (length fs) nothing_around) (behind_two [] fs (f ∷ []))
      ∙ ap (λ n. get_or (arounds_behind b [] fs ++ frame_around b (arounds_behind b [] fs) f ∷ []) n nothing_around) (sym (all_behind fs))
      ∙ get_or-append_seam (arounds_behind b [] fs) (frame_around b (arounds_behind b [] fs) f) [] nothing_around

  -- ---- a frame that is there

  record Split (fs : List Frame) (i : ℕ) (f : Frame) : Type 0 where
    left : List Frame
    right : List Frame
    is : fs ≡ left ++ f ∷ right
    size : length left ≡ i

  split : (fs : List Frame) (i : ℕ) (f : Frame) → slice_get fs i ≡ Some f → Split fs i f
  split [] i f there = absurd (cc)
  split (g ∷ fs) zero f there = record { left = []; right = fs; is = ap (λ x. x ∷ fs) (cc); size = refl }
  split (g ∷ fs) (suc i) f there =
      let rest = split fs i f there in
      record { left = g ∷ rest.left; right = rest.right; is = ap (λ xs. g ∷ xs) rest.is; size = ap suc rest.size }

  alone : (fs : List Frame) (i : ℕ) (f : Frame) (s : Split fs i f) → around_at b fs i ≡ frame_at s.left f
  alone fs i f s =
      let here : i < length (s.left ++ f ∷ []) = (let size = length-append s.left (f ∷ []) in let n = s.size in omega (arith, size, n)) in
      ap (λ xs. around_at b xs i) (s.is ∙ sym (append_assoc s.left (f ∷ []) s.right))
      ∙ kept (s.left ++ f ∷ []) s.right i here
      ∙ ap (around_at b (s.left ++ f ∷ [])) (sym s.size)
      ∙ pushed s.left f

  pub deep_is : (fs : List Frame) (i : ℕ) (f : Frame) → slice_get fs i ≡ Some f → (around_at b fs i).deep ≡ f.deep
  deep_is fs i f there = ap (λ (w : Around). w.deep) (alone fs i f (split fs i f there))

  pub brought_is : (fs : List Frame) (i : ℕ) (f : Frame) → slice_get fs i ≡ Some f → (around_at b fs i).brought ≡ f.brought
  brought_is fs i f there = ap (λ (w : Around). w.brought) (alone fs i f (split fs i f there))

  outer_kept : (fs left right : List Frame) (ts : List Resolved) (outer : ℕ) → fs ≡ left ++ right → (0 < length ts → outer < length left)
      → map (λ t. filled_at b left outer (resolved_data t)) ts ≡ map (λ t. filled_at b fs outer (resolved_data t)) ts
  outer_kept fs left right [] outer is below = refl
  outer_kept fs left right (t ∷ ts) outer is below =
      let same : around_at b left outer ≡ around_at b fs outer = sym (kept left right outer (below (omega arith))) ∙ ap (λ xs. around_at b xs outer) (sym is) in
      ap (λ (w : Around). map (λ u. filled (put_deep w.deep b) w.brought w.arguments (resolved_data u)) (t ∷ ts)) same

  pub arguments_are : (fs : List Frame) (i : ℕ) (f : Frame) → AreFrames fs → slice_get fs i ≡ Some f
      → (around_at b fs i).arguments ≡ map (λ t. filled_at b fs f.outer (resolved_data t)) f.arguments.now
  arguments_are fs i f framed there =
      let s = split fs i f there in
      ap (λ (w : Around). w.arguments) (alone fs i f s)
      ∙ outer_kept fs s.left (f ∷ s.right) f.arguments.now f.outer s.is (λ some. subst (λ n. f.outer < n) (sym s.size) (framed i f there some))

  -- ---- the use of a definition

  -- where no body may stand, or none is there, a hole does
  pub use_ends : (u : Use) (at : Spot) (args : List ResolvedTree) → u.deep ≡ 0 → put_use b u at args ≡ hole_at at u.hole
  use_ends u at args none = ap (λ d. put_deep d b u.hole u.number at args) none

  use_less : (u : Use) (less : ℕ) (at : Spot) (args : List ResolvedTree) → u.deep ≡ suc less → put_use b u at args ≡ body_put (put_deep less b) u.hole at args (body_of b u.number)
  use_less u less at args is = ap (λ d. put_deep d b u.hole u.number at args) is

  pub use_none : (u : Use) (less : ℕ) (at : Spot) (args : List ResolvedTree) → u.deep ≡ suc less → body_of b u.number ≡ None → put_use b u at args ≡ hole_at at u.hole
  use_none u less at args is none = use_less u less at args is ∙ ap (body_put (put_deep less b) u.hole at args) none

  -- a body stands in a new frame
  pub use_some : (fs : List Frame) (i : ℕ) (g : Frame) (u : Use) (less : ℕ) (body : ResolvedTree) (at : Spot) → u.deep ≡ suc less → body_of b u.number ≡ Some body
      → g.deep ≡ less → g.brought ≡ Some at → g.outer ≡ i → put_use b u at (map (filled_at b fs i) (map resolved_data g.arguments.now)) ≡ filled_at b (fs ++ g ∷ []) (length fs) body
  use_some fs i g u less body at is some deep brought outer =
      use_less u less at (map (filled_at b fs i) (map resolved_data g.arguments.now)) is
      ∙ ap (body_put (put_deep less b) u.hole at (map (filled_at b fs i) (map resolved_data g.arguments.now))) some
      ∙ (λ j. filled (put_deep (sym deep j) b) (sym brought j) (given j) body)
      ∙ ap (λ (w : Around). filled (put_deep w.deep b) w.brought w.arguments body) (sym (pushed fs g))
    where
      given : map (filled_at b fs i) (map resolved_data g.arguments.now) ≡ map (λ t. filled_at b fs g.outer (resolved_data t)) g.arguments.now
      given = map_twice (filled_at b fs i) resolved_data g.arguments.now ∙ ap (λ n. map (λ t. filled_at b fs n (resolved_data t)) g.arguments.now) (sym outer)

-- several operands as a list
pub listed_each : (put : Put) (brought : Option Spot) (arguments xs : List ResolvedTree) → listed (each_filled put brought arguments (trees xs)) ≡ map (filled put brought arguments) xs
listed_each put brought arguments [] = refl
listed_each put brought arguments (x ∷ xs) = ap (λ ys. filled put brought arguments x ∷ ys) (listed_each put brought arguments xs)

-- the line itself
pub line_filled : (b : Bodies) (fs before : List Frame) (f : Frame) → fs ≡ before ++ f ∷ [] → before ≡ [] → f.deep ≡ length b → f.brought ≡ None → f.arguments.now ≡ [] → (t : ResolvedTree) → filled_at b fs 0 t ≡ with_bodies b t
line_filled b fs before f is none deep brought arguments t =
    ap (λ (w : Around). filled (put_deep w.deep b) w.brought w.arguments t) (ap (λ xs. around_at b xs 0) (is ∙ ap (λ xs. xs ++ f ∷ []) none) ∙ pushed b [] f)
    ∙ (λ j. filled (put_deep (deep j) b) (brought j) (map (λ u. filled_at b [] f.outer (resolved_data u)) (arguments j)) t)

-- ---- frames in order

pub one_framed : (f : Frame) → (0 < length f.arguments.now → ⊥) → AreFrames (f ∷ [])
one_framed f none zero g there some = let is : f ≡ g = cc in absurd (none (subst (λ (x : Frame). 0 < length x.arguments.now) (sym is) some))
one_framed f none (suc i) g there some = absurd (cc)

-- the frame at a place is one of the first ones, or the last
last_or : (fs : List Frame) (g : Frame) (i : ℕ) (f : Frame) → slice_get (fs ++ g ∷ []) i ≡ Some f → (slice_get fs i ≡ Some f) ⊎ ((i ≡ length fs) × (f ≡ g))
last_or [] g zero f there = inr (refl, cc)
last_or [] g (suc i) f there = absurd (cc)
last_or (h ∷ fs) g zero f there = inl there
last_or (h ∷ fs) g (suc i) f there = by (last_or fs g i f there)
  where
    by : (slice_get fs i ≡ Some f) ⊎ ((i ≡ length fs) × (f ≡ g)) → (slice_get fs i ≡ Some f) ⊎ ((suc i ≡ suc (length fs)) × (f ≡ g))
    by (inl there) = inl there
    by (inr last) = inr (ap suc last.0, last.1)

pub more_framed : (fs : List Frame) (g : Frame) → AreFrames fs → g.outer < length fs → AreFrames (fs ++ g ∷ [])
more_framed fs g framed below i f there some = by (last_or fs g i f there)
  where
    by : (slice_get fs i ≡ Some f) ⊎ ((i ≡ length fs) × (f ≡ g)) → f.outer < i
    by (inl first) = framed i f first some
    by (inr last) = subst (λ n. f.outer < n) (sym last.0) (subst (λ (x : Frame). x.outer < length fs) (sym last.1) below)

-- ---- steps

pub grows_not : (fs : List Frame) → Grows fs fs
grows_not fs = ([], append-nil' fs)
  where
    append-nil' : (xs : List Frame) → xs ≡ xs ++ []
    append-nil' [] = refl
    append-nil' (x ∷ xs) = ap (λ ys. x ∷ ys) (append-nil' xs)

pub grows_on : (fs gs hs : List Frame) → Grows fs gs → Grows gs hs → Grows fs hs
grows_on fs gs hs first next = (first.0 ++ next.0, next.1 ∙ ap (λ xs. xs ++ next.0) first.1 ∙ append_assoc fs first.0 next.0)

pub goes_on : (fs gs hs : List Frame) (x y z : ResolvedTree) → Goes fs gs x y → Goes gs hs y z → Goes fs hs x z
goes_on fs gs hs x y z first next = record { grows = grows_on fs gs hs first.grows next.grows; framed = next.framed; same = first.same ∙ next.same }

pub grown_count : (fs gs : List Frame) → Grows fs gs → length fs ≤ length gs
grown_count fs gs grows = let size = ap length grows.1 in let all = length-append fs grows.0 in omega (arith, size, all)
