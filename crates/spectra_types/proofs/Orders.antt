-- The definitions of a text without faults: none is misused in another, and each stands behind those that its body uses.
use Rattle.std.proofs.Common.{◌≡◌, ◌⊎◌, inl, inr, ℕ, zero, suc, ◌<◌, false, List, [], ◌∷◌, length, map, get_or, Some, unwrap_or, slice_get, refl, sym, ap, subst, ◌∙◌, arith}
use Rattle.std.specs.Prelude.{Contains}
use Rattle.std.proofs.lemmas.Bool.{false≢true}
use Rattle.spectra_resolved.specs.Resolved.{ResolvedTree}
use Rattle.spectra_judge.specs.PutIn.{Parts}
use Rattle.spectra_uses.specs.Uses.{uses_in}
use Rattle.spectra_uses.specs.Cycles.{reaches}
use Rattle.spectra_uses.specs.Orders.{StandsBefore, IsUse, BothOnCycle, IsOrderOf}
use Rattle.spectra_elaboration.specs.Putting.{body_of}
use Rattle.spectra_elaboration.specs.Written.{AreWritten}
use Rattle.spectra_types.specs.Senses.{Sense, Senses, inside, sense}

-- the order of definitions none of which is used in its own body
pub record AreOrdered (arities : List ℕ) (good : Parts) (bodies : List ResolvedTree) : Type 0 where
  pub written : AreWritten arities good bodies
  pub order : List ℕ
  pub size : length order ≡ length bodies
  pub whole : (k : ℕ) → k < length bodies → StandsBefore order (length order) k
  pub within : (i k : ℕ) → slice_get order i ≡ Some k → k < length bodies
  pub behind : (i user used : ℕ) → slice_get order i ≡ Some user → IsUse (map uses_in bodies) user used → used < length bodies → StandsBefore order i used

-- an order of such
pub ordered_by : (arities : List ℕ) (good : Parts) (bodies : List ResolvedTree) (order : List ℕ) → AreWritten arities good bodies → IsOrderOf (map uses_in bodies) (length bodies) order →
    ((k : ℕ) → k < length bodies → reaches (map uses_in bodies) (length bodies) k k ≡ false) → AreOrdered arities good bodies
ordered_by arities good bodies order written is free =
    record {
      written = written;
      order = order;
      size = is.size;
      whole = λ k below. (let stands = is.whole k below in record { at = stands.at; before = stands.before; there = stands.there });
      within = is.within;
      behind = λ i user used there use' small. by i user used there (is.behind i user used there use' small);
    }
  where
    by : (i user used : ℕ) → slice_get order i ≡ Some user → StandsBefore order i used ⊎ BothOnCycle (map uses_in bodies) (length bodies) user used → StandsBefore order i used
    by i user used there (inl earlier) = earlier
    by i user used there (inr both) = absurd (false≢true (sym (free user (is.within i user there)) ∙ both.user_is))

-- each definition is what its body is
abbrev pub AreBodies : List ResolvedTree → Senses → Type 0
AreBodies bodies s = (k : ℕ) (body : ResolvedTree) → slice_get bodies k ≡ Some body → (arguments : List Sense) (p : ℕ) → s.definition k arguments p ≡ sense (inside s arguments) body p

-- a body by its number
pub record IsThere (bodies : List ResolvedTree) (k : ℕ) : Type 0 where
  pub body : ResolvedTree
  pub there : slice_get bodies k ≡ Some body
  pub given : body_of (map (λ b. Some b) bodies) k ≡ Some body
  pub uses : unwrap_or (slice_get (map uses_in bodies) k) [] ≡ uses_in body

pub is_there : (bodies : List ResolvedTree) (k : ℕ) → k < length bodies → IsThere bodies k
is_there [] k below = absurd (omega (arith, below))
is_there (b ∷ bodies) zero below = record { body = b; there = refl; given = refl; uses = refl }
is_there (b ∷ bodies) (suc k) below = let rest = is_there bodies k (omega (arith, below)) in record { body = rest.body; there = rest.there; given = rest.given; uses = rest.uses }

pub used_at : (us : List ℕ) (k : ℕ) → Contains us k → (i : ℕ) × (slice_get us i ≡ Some k)
used_at us k c = (c.0, place us c.0 c.1 ∙ ap Some c.2)
  where
    place : (vs : List ℕ) (i : ℕ) → i < length vs → slice_get vs i ≡ Some (get_or vs i k)
    place [] i below = absurd (omega (arith, below))
    place (v ∷ vs) zero below = refl
    place (v ∷ vs) (suc i) below = place vs i (omega (arith, below))

module _ (arities : List ℕ) (good : Parts) (bodies : List ResolvedTree) (ordered : AreOrdered arities good bodies) where
  -- what stands before the last place but so many has its body there
  pub body_there : (place k : ℕ) → StandsBefore ordered.order place k → IsThere bodies k
  body_there place k stands = is_there bodies k (ordered.within stands.at k stands.there)

  -- what a body uses stands before it
  pub used_before : (i k : ℕ) → slice_get ordered.order i ≡ Some k → (is : IsThere bodies k) → (u : ℕ) → Contains (uses_in is.body) u → u < length arities → StandsBefore ordered.order i u
  used_before i k there is u used small =
      let size = ordered.written.size in
      let at' = used_at (uses_in is.body) u used in
      let use' : IsUse (map uses_in bodies) k u = record { at = at'.0; there = ap (λ us. slice_get us at'.0) is.uses ∙ at'.1 } in
      ordered.behind i k u there use' (omega (arith, small, size))

  pub stands_earlier : (place k : ℕ) → StandsBefore ordered.order (suc place) k → (is : IsThere bodies k) → (u : ℕ) → Contains (uses_in is.body) u → u < length arities → StandsBefore ordered.order place u
  stands_earlier place k stands is u used small =
      let earlier = used_before stands.at k stands.there is u used small in
      let first = earlier.before in
      let last = stands.before in record { at = earlier.at; before = omega (arith, first, last); there = earlier.there }

  -- every definition stands among so many as there are
  pub stands_somewhere : (u : ℕ) → u < length arities → StandsBefore ordered.order (length bodies) u
  stands_somewhere u small =
      let size = ordered.written.size in
      let stands = ordered.whole u (omega (arith, small, size)) in
      let before = stands.before in
      let count = ordered.size in record { at = stands.at; before = omega (arith, before, count); there = stands.there }

  -- ---- what a definition uses, directly or through others

  -- in so many steps
  abbrev UsesIn : (steps k u : ℕ) → Type 0
  UsesIn zero k u = ⊥
  UsesIn (suc steps) k u = (is : IsThere bodies k) × ((m : ℕ) × (Contains (uses_in is.body) m × ((m < length arities) × ((m ≡ u) ⊎ UsesIn steps m u))))

  pub record Uses (k u : ℕ) : Type 0 where
    steps : ℕ
    uses : UsesIn steps k u

  pub uses_directly : (k u : ℕ) (is : IsThere bodies k) → Contains (uses_in is.body) u → u < length arities → Uses k u
  uses_directly k u is used small = record { steps = 1; uses = (is, (u, (used, (small, inl refl)))) }

  pub uses_through : (k m u : ℕ) (is : IsThere bodies k) → Contains (uses_in is.body) m → m < length arities → Uses m u → Uses k u
  uses_through k m u is used small rest = record { steps = suc rest.steps; uses = (is, (m, (used, (small, inr rest.uses)))) }

  further : (i m u : ℕ) → StandsBefore ordered.order i m → (m ≡ u) ⊎ ((j : ℕ) → slice_get ordered.order j ≡ Some m → StandsBefore ordered.order j u) → StandsBefore ordered.order i u
  further i m u middle (inl same) = subst (StandsBefore ordered.order i) same middle
  further i m u middle (inr more) =
      let last = more middle.at middle.there in
      let first = middle.before in
      let next = last.before in record { at = last.at; before = omega (arith, first, next); there = last.there }

  either_way : {A B C : Type 0} → A ⊎ B → (B → C) → A ⊎ C
  either_way (inl a) to = inl a
  either_way (inr b) to = inr (to b)

  uses_before : (steps k u : ℕ) → UsesIn steps k u → (i : ℕ) → slice_get ordered.order i ≡ Some k → StandsBefore ordered.order i u
  uses_before zero k u uses i there = absurd uses
  uses_before (suc steps) k u uses i there =
      further i uses.1.0 u (used_before i k there uses.0 uses.1.0 uses.1.1.0 uses.1.1.1.0) (either_way uses.1.1.1.1 (λ more j at. uses_before steps uses.1.0 u more j at))

  never_within : (k : ℕ) → Uses k k → (fuel i : ℕ) → i < fuel → slice_get ordered.order i ≡ Some k → ⊥
  never_within k round zero i below there = omega (arith, below)
  never_within k round (suc fuel) i below there =
      let earlier = uses_before round.steps k k round.uses i there in
      let before = earlier.before in never_within k round fuel earlier.at (omega (arith, before, below)) earlier.there

  -- none uses itself
  pub never_itself : (k : ℕ) → k < length bodies → Uses k k → ⊥
  never_itself k below round = let stands = ordered.whole k below in never_within k round (suc stands.at) stands.at (omega arith) stands.there
