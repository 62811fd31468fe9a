-- The standing of a trigger follows its phase.
use Rattle.std.proofs.Common.{◌≡◌, ℕ, zero, suc, ◌<◌, inl, inr, Bool, true, false, not, cond, List, Some, None, Option, flat_map, refl, sym, subst, arith}
use Rattle.std.proofs.lemmas.Bool.{false≢true}
use Rattle.spec_model.specs.Syntax.{TriggerData}
use Rattle.spec_model.specs.Meaning.{Reading, holds_at}
use Rattle.spec_model.specs.Triggers.{Phase, matches, phase_after, phase_at}
use Rattle.spec_model.specs.TriggerStates.{Written, Positions, brackets, firsts, has, followers, members, read_of, has_last}
use Rattle.trigger_dfa.specs.Reads.{Reads}
use Rattle.trigger_dfa.specs.Laws.{is_readable}
use Rattle.trigger_dfa.specs.Standings.{Standing, at_start, at_set, side_of, next_positions, standing_after}
use Rattle.trigger_dfa.specs.Along.{standing_along}
use Rattle.trigger_dfa.proofs.Sets.{has_flat, flat_has, read_members, members_read, last_of, of_last}
use Rattle.trigger_dfa.proofs.Paths.{Path, begin, move, true_at, path_later, path_reads, read_has_path}
use Rattle.trigger_dfa.proofs.Stretches.{written_out_reads}

-- ---- the set of positions that may just have been read

-- the set has the positions to which a path goes
abbrev pub Tracks : Reading → Written → (from t : ℕ) → Positions → Type 0
Tracks r w from t set =
    ((p : ℕ) → has (members 0 set) p ≡ true → Path r w 0 from t p) × ((p : ℕ) → Path r w 0 from t p → has (members 0 set) p ≡ true)

abbrev read_at : Reading → Written → ℕ → List ℕ → Positions
read_at r w t ps = read_of (λ e. holds_at r e t) ps 0 (brackets w)

first_reached : {r : Reading} {w : Written} {from t p : ℕ} → Path r w 0 from t p → t ≡ suc from → has (members 0 (read_at r w from (firsts 0 w))) p ≡ true
first_reached {r} {w} {from} (begin {p = p} f e) same = members_read (λ x. holds_at r x from) (firsts 0 w) 0 (brackets w) p f e
first_reached (move path f e) same = absurd (later path (omega arith))
  where
    later : {r : Reading} {w : Written} {from t q : ℕ} → Path r w 0 from t q → t ≡ from → ⊥
    later path same = let l = path_later path in omega arith

first_tracks : (r : Reading) (w : Written) (from : ℕ) → Tracks r w from (suc from) (read_at r w from (firsts 0 w))
first_tracks r w from = (
  λ p h. let q = read_members (λ x. holds_at r x from) (firsts 0 w) 0 (brackets w) p h in begin q.0 q.1,
  λ p path. first_reached path refl,
)

module _ (r : Reading) (w : Written) (from t : ℕ) (set : Positions) (later : from < t) (tracks : Tracks r w from t set) where
  next_reached : {u p : ℕ} → Path r w 0 from u p → u ≡ suc t → has (members 0 (read_at r w t (flat_map (followers 0 w) (members 0 set)))) p ≡ true
  next_reached (begin f e) same = absurd (omega arith)
  next_reached (move {t = v} {q = q} {p = p} path f e) same =
      let here : v ≡ t = omega arith in
      members_read (λ x. holds_at r x t) (flat_map (followers 0 w) (members 0 set)) 0 (brackets w) p
      (flat_has (followers 0 w) (members 0 set) q p (tracks.1 q (subst (λ (m : ℕ). Path r w 0 from m q) here path)) f)
      (subst (λ (m : ℕ). true_at r w 0 m p ≡ true) here e)

  next_tracks : Tracks r w from (suc t) (read_at r w t (flat_map (followers 0 w) (members 0 set)))
  next_tracks = (
    λ p h.
        let x = read_members (λ y. holds_at r y t) (flat_map (followers 0 w) (members 0 set)) 0 (brackets w) p h in
        let q = has_flat (followers 0 w) (members 0 set) p x.0 in
        move (tracks.0 q.0 q.1) q.2 x.1,
    λ p path. next_reached path refl,
  )

-- a last position may just have been read exactly where the stretch is read
module _ (r : Reading) (w : Written) (from t : ℕ) (set : Positions) (later : from < t) (tracks : Tracks r w from t set) where
  ends_reads : has_last w set ≡ true → Reads r w from t
  ends_reads e = let l = last_of w set e in path_reads r w 0 from t l.0 (tracks.0 l.0 l.1) l.2

  reads_ends : Reads r w from t → has_last w set ≡ true
  reads_ends p =
      elim (read_has_path r w 0 from t p) [
        | inl skip ↦ absurd (omega (arith, skip.0))
        | inr whole ↦ of_last w set whole.0 (tracks.1 whole.0 whole.1) whole.2
      ]

-- ---- phases

-- what was read since the phase began
abbrev pub Keeps : Reading → Written → (began t : ℕ) → Option Positions → Type 0
Keeps r w began t None = began ≡ t
Keeps r w began t (Some set) = (began < t) × Tracks r w began t set

keeps_next : (r : Reading) (w : Written) (began t : ℕ) (o : Option Positions) → Keeps r w began t o → Keeps r w began (suc t) (Some (read_at r w t (next_positions w o)))
keeps_next r w began t None same =
    subst (λ (m : ℕ). Keeps r w m (suc t) (Some (read_at r w t (firsts 0 w)))) (sym same) (omega arith, first_tracks r w t)
keeps_next r w began t (Some set) k = (omega (arith, k.0), next_tracks r w began t set k.0 k.1)

same_truth : (a b : Bool) → (a ≡ true → b ≡ true) → (b ≡ true → a ≡ true) → a ≡ b
same_truth true true f g = refl
same_truth true false f g = sym (f refl)
same_truth false true f g = g refl
same_truth false false f g = refl

-- the standing and the phase agree
abbrev pub Agree : Reading → TriggerData → Standing → Phase → ℕ → Type 0
Agree r tr s p t = (s.waits ≡ p.waits) × Keeps r (side_of tr s.waits) p.began t s.read

settled_agrees : (r : Reading) (tr : TriggerData) (waits : Bool) (began t : ℕ) (set : Positions) (x m : Bool) → x ≡ m → Keeps r (side_of tr waits) began (suc t) (Some set) →
    Agree r tr (cond x (at_start (not waits)) (at_set waits set)) (cond m (record { waits = not waits; began = suc t }) (record { waits = waits; began = began })) (suc t)
settled_agrees r tr waits began t set true true e k = (refl, refl)
settled_agrees r tr waits began t set true false e k = absurd (false≢true (sym e))
settled_agrees r tr waits began t set false true e k = absurd (false≢true e)
settled_agrees r tr waits began t set false false e k = (refl, k)

module _ (r : Reading) (tr : TriggerData) (cause_ok : is_readable tr.cause ≡ true) (effect_ok : is_readable tr.effect ≡ true) where
  ending_ok : (waits : Bool) → is_readable (cond waits tr.effect tr.cause) ≡ true
  ending_ok true = effect_ok
  ending_ok false = cause_ok

  after_agrees : (waits : Bool) (began t : ℕ) (o : Option Positions) → Keeps r (side_of tr waits) began t o →
      Agree r tr (standing_after tr (λ e. holds_at r e t) (record { waits = waits; read = o })) (phase_after r tr t (record { waits = waits; began = began })) (suc t)
  after_agrees waits began t o k =
      let w = side_of tr waits in
      let set = read_at r w t (next_positions w o) in
      let next = keeps_next r w began t o k in
      let both = written_out_reads r (cond waits tr.effect tr.cause) (ending_ok waits) began (suc t) in
      settled_agrees r tr waits began t set (has_last w set) (matches r (cond waits tr.effect tr.cause) began (suc t))
      (same_truth (has_last w set) (matches r (cond waits tr.effect tr.cause) began (suc t))
      (λ e. both.1 (ends_reads r w began (suc t) set next.0 next.1 e))
      (λ e. reads_ends r w began (suc t) set next.0 next.1 (both.0 e)))
      next

  pub along_agrees : (t : ℕ) → Agree r tr (standing_along r tr t) (phase_at r tr t) t
  along_agrees zero = (refl, refl)
  along_agrees (suc t) =
      let before = along_agrees t in
      subst (λ (b : Bool). Agree r tr (standing_after tr (λ e. holds_at r e t) (standing_along r tr t)) (phase_after r tr t (record { waits = b; began = (phase_at r tr t).began })) (suc t))
      before.0 (after_agrees (standing_along r tr t).waits (phase_at r tr t).began t (standing_along r tr t).read before.1)
