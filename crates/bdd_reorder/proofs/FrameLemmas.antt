-- Frames, of which the last one changes.
use Rattle.std.proofs.Common.{◌≡◌, ℕ, ◌+◌, ◌<◌, inl, inr, sym, ◌∙◌, ap, subst, refl, arith, Option, Some, None, MatchOption, List, [], ◌∷◌, ◌++◌}
use Rattle.std.specs.List.{AllByRecursion}
use Rattle.spec_model.specs.Diagrams.{Diagram, value, shifted, IsPartOf, IsReduced}
use Rattle.node_table.specs.Table.{Table, diagram_at}
use Rattle.bdd_store.specs.State.{IsRoot}
use Rattle.bdd_ops.specs.declared.split.Split.{Split}
use Rattle.bdd_ops.specs.Contents.{Contents, function_at}
use Rattle.bdd_ops.specs.Calls.{KeepsRoots}
use Rattle.bdd_ops.proofs.DiagramLemmas.{part_of_itself, part_of_part}
use Rattle.bdd_reorder.specs.declared.frames.Frame.{Frame}
use Rattle.bdd_reorder.specs.Frames.{both_at, low_at, splits_at, lows_at, waited_of, waited_by, awaited, AreChained, IsSplitInto, IsFrame, turns_of, all_turns}
use Rattle.bdd_reorder.proofs.KeepingLemmas.{one_itself}

pub splits-push : (fs : List Frame) (f : Frame) (n : ℕ) → splits_at n (fs ++ f ∷ []) ≡ splits_at n fs + both_at n f.split
splits-push [] f n = omega arith
splits-push (g ∷ fs) f n = let more = splits-push fs f n in omega (arith, more)

pub lows-push : (fs : List Frame) (f : Frame) (n : ℕ) → lows_at n (fs ++ f ∷ []) ≡ lows_at n fs + low_at n f.low_copy
lows-push [] f n = omega arith
lows-push (g ∷ fs) f n = let more = lows-push fs f n in omega (arith, more)

pub all_turns-push : (t : Table) (fs : List Frame) (f : Frame) → all_turns t (fs ++ f ∷ []) ≡ all_turns t fs + turns_of t f
all_turns-push t [] f = omega arith
all_turns-push t (g ∷ fs) f = let more = all_turns-push t fs f in omega (arith, more)

pub all-pop : {X : Type 0} (P : X → Type 0) (xs : List X) (x : X) → AllByRecursion P (xs ++ x ∷ []) → AllByRecursion P xs × P x
all-pop P [] x all = (tt, all.0)
all-pop P (y ∷ xs) x all = let rest = all-pop P xs x all.1 in ((all.0, rest.0), rest.1)

pub awaited-push : (t : Table) (d : Diagram) (fs : List Frame) (f : Frame) → awaited t d (fs ++ f ∷ []) ≡ diagram_at t (waited_by f)
awaited-push t d [] f = refl
awaited-push t d (g ∷ fs) f = awaited-push t (diagram_at t (waited_by g)) fs f

pub chained-push : (t : Table) (d : Diagram) (fs : List Frame) (f : Frame) → AreChained t d fs → diagram_at t f.number ≡ awaited t d fs → AreChained t d (fs ++ f ∷ [])
chained-push t d [] f chained is = (is, tt)
chained-push t d (g ∷ fs) f chained is = (chained.0, chained-push t (diagram_at t (waited_by g)) fs f chained.1 is)

pub chained-pop : (t : Table) (d : Diagram) (fs : List Frame) (f : Frame) → AreChained t d (fs ++ f ∷ []) → AreChained t d fs × (diagram_at t f.number ≡ awaited t d fs)
chained-pop t d [] f chained = (tt, chained.0)
chained-pop t d (g ∷ fs) f chained = let rest = chained-pop t (diagram_at t (waited_by g)) fs f chained.1 in ((chained.0, rest.0), rest.1)

module _ (from : Table) (levels : List ℕ) (whole : Diagram) where
  -- ---- parts

  waited_part : (to : Contents) (split : Split) (low_copy : Option ℕ) (n : ℕ) → IsSplitInto from n split → IsPartOf (diagram_at from n) whole → IsPartOf (diagram_at from (waited_of split low_copy)) whole
  waited_part to split None n is part = part_of_part (diagram_at from split.low) (diagram_at from n) whole (subst (λ (d : Diagram). IsPartOf (diagram_at from split.low) d) (sym is.diagram) (inr (inl (part_of_itself (diagram_at from split.low))))) part
  waited_part to split (Some root) n is part = part_of_part (diagram_at from split.high) (diagram_at from n) whole (subst (λ (d : Diagram). IsPartOf (diagram_at from split.high) d) (sym is.diagram) (inr (inr (part_of_itself (diagram_at from split.high))))) part

  -- what is waited for is a part of the whole
  pub awaited_part : (to : Contents) (d : Diagram) (fs : List Frame) → IsPartOf d whole → AllByRecursion (IsFrame from to levels whole) fs → IsPartOf (awaited from d fs) whole
  awaited_part to d [] part all = part
  awaited_part to d (f ∷ fs) part all = awaited_part to (diagram_at from (waited_by f)) fs (waited_part to f.split f.low_copy f.number all.0.split all.0.part) all.1

  -- with a frame the whole is reduced
  pub whole_reduced : (to : Contents) (fs : List Frame) (f : Frame) → AllByRecursion (IsFrame from to levels whole) (fs ++ f ∷ []) → AreChained from whole (fs ++ f ∷ []) → IsReduced whole
  whole_reduced to [] f all chained = subst IsReduced chained.0 all.0.split.reduced
  whole_reduced to (g ∷ fs) f all chained = subst IsReduced chained.0 all.0.split.reduced

  -- ---- copies that are kept stay right

  copy_stays : (to to' : Contents) (low : Diagram) (low_copy : Option ℕ) → ((n : ℕ) → 0 < low_at n low_copy → IsRoot to.state n) → KeepsRoots to to' → MatchOption low_copy (Unit {0}) (λ root. function_at to root ≡ shifted levels (value low)) →
      MatchOption low_copy (Unit {0}) (λ root. function_at to' root ≡ shifted levels (value low))
  copy_stays to to' low None kept keeps is = tt
  copy_stays to to' low (Some root) kept keeps is = ap value (keeps.meaning root (kept root (let one = one_itself root in omega (arith, one)))) ∙ is

  pub frames_stay : (to to' : Contents) (fs : List Frame) → ((n : ℕ) → 0 < lows_at n fs → IsRoot to.state n) → KeepsRoots to to' → AllByRecursion (IsFrame from to levels whole) fs → AllByRecursion (IsFrame from to' levels whole) fs
  frames_stay to to' [] kept keeps all = tt
  frames_stay to to' (f ∷ fs) kept keeps all = (
    record {
      split = all.0.split;
      part = all.0.part;
      copied = copy_stays to to' (diagram_at from f.split.low) f.low_copy (λ n some. kept n (omega (arith, some))) keeps all.0.copied;
    },
    frames_stay to to' fs (λ n some. kept n (omega (arith, some))) keeps all.1,
  )
