-- Marks of the definitions that are used in their own bodies.
use Rattle.std.proofs.Common.{◌≡◌, ℕ, zero, suc, ◌+◌, ◌<◌, Bool, false, List, [], ◌∷◌, length, drop, get_or, Option, refl, sym, ap, ◌∙◌, add-one, arith}
use Rattle.std.specs.List.{enumerate_from}
use Rattle.std.proofs.Math.Seq.{drop-cons}
use Rattle.std.proofs.lemmas.List.{length-map, get_or-map, ext_get_or}
use Rattle.std.proofs.lemmas.List.FromFn.{length-enumerate_from, get_or-enumerate_from}
use Rattle.std.proofs.lemmas.Option.{get_or_from_slice_get}
use Rattle.spectra_trees.specs.Faults.{Cycle, number_of}
use Rattle.spectra_resolved.specs.declared.spot.Spot.{Spot}
use Rattle.spectra_resolved.specs.declared.findings.Finding.{Finding}
use Rattle.spectra_resolved.specs.Findings.{with_faults}
use Rattle.spectra_resolved.proofs.First.{with_faults_append}
use Rattle.spectra_judge.specs.Findings.{fault_if}
use Rattle.spectra_uses.specs.Cycles.{reaches, AreOnCycle}
use Rattle.spectra_bounds.specs.ByUses.{is_on_cycle}
use Rattle.spectra_bounds.specs.Cycles.{on_cycles, cycle_faults}

-- a table of marks has each of them
pub marks-are : (uses : List (List ℕ)) (count : ℕ) (table : List Bool) → count ≡ length uses → AreOnCycle uses count table → table ≡ on_cycles uses
marks-are uses count table same are = ext_get_or false table (on_cycles uses) long at
  where
    numbered : length (enumerate_from 0 uses) ≡ length uses
    numbered = length-enumerate_from 0 uses

    long : length table ≡ length (on_cycles uses)
    long = are.size ∙ same ∙ sym (length-map (enumerate_from 0 uses) _ ∙ numbered)

    zero_more : (k : ℕ) → zero + k ≡ k
    zero_more k = omega arith

    at : (k : ℕ) → k < length table → get_or table k false ≡ get_or (on_cycles uses) k false
    at k below =
        let size = are.size in
        let lt : k < length uses = omega arith in
        get_or_from_slice_get table k (reaches uses count k k) false (are.each k (omega arith))
        ∙ ap (λ n. reaches uses n k k) same
        ∙ sym (get_or-map (λ (u : ℕ × List ℕ). is_on_cycle uses u.0) (enumerate_from 0 uses) k (0, []) false (let same = numbered in omega arith)
        ∙ ap (λ (u : ℕ × List ℕ). is_on_cycle uses u.0) (get_or-enumerate_from 0 uses k (0, []) lt)
        ∙ ap (is_on_cycle uses) (zero_more k))

pub on_cycles-length : (uses : List (List ℕ)) → length (on_cycles uses) ≡ length uses
on_cycles-length uses = length-map (enumerate_from 0 uses) _ ∙ length-enumerate_from 0 uses

-- what is found in a loop over marks, and what is left to find
pub mark_left : (found : Option Finding) (marks : List Bool) (places : List Spot) (k : ℕ) (b : Bool) (at : Spot) → k < length marks → k < length places → b ≡ get_or marks k b → at ≡ get_or places k at
    → with_faults (with_faults found (fault_if b (number_of Cycle) at)) (cycle_faults (drop (k + 1) marks) (drop (k + 1) places)) ≡ with_faults found (cycle_faults (drop k marks) (drop k places))
mark_left found marks places k b at in_marks in_places mark place =
    sym (with_faults_append found (fault_if b (number_of Cycle) at) (cycle_faults (drop (k + 1) marks) (drop (k + 1) places)))
    ∙ ap (with_faults found) (sym ((λ i. cycle_faults (first i) (second i))))
  where
    first : drop k marks ≡ b ∷ drop (k + 1) marks
    first = drop-cons marks k b in_marks ∙ ap (λ c. c ∷ drop (suc k) marks) (sym mark) ∙ rw add-one refl

    second : drop k places ≡ at ∷ drop (k + 1) places
    second = drop-cons places k at in_places ∙ ap (λ c. c ∷ drop (suc k) places) (sym place) ∙ rw add-one refl
