-- Which variables a well-made formula reads.
use Rattle.std.proofs.Common.{◌≡◌, ℕ, ◌<◌, Bool, true, false, not, ◌&&◌, ◌||◌, map, length, is_some, refl, sym, ◌∙◌, ap}
use Rattle.std.proofs.lemmas.Bool.{and_parts, or_left, or_right, false≢true}
use Rattle.spec_model.specs.Syntax.{Formula, Constant, Variable, NextOf, Negation, Conjunction, Disjunction, Implication, Equivalence, Comparison, Sum, Difference, Product, Remainder, PastOf, Entry, Formulas}
use Rattle.spec_model.specs.Typing.{Scope, kind_of, are_truths, is_truth}
use Rattle.spec_model.specs.Moves.{has_next, some_has_next}
use Rattle.spec_model.specs.Games.{GameData}
use Rattle.spec_model.specs.Steps.{is_output_variable}
use Rattle.spec_model.specs.WellMade.{is_stepwise, are_stepwise, awaits_output, some_awaits_output}
use Rattle.game_values.specs.declared.seen.At.{At}
use Rattle.game_values.specs.declared.seen.At.TheVariants.{Now, Next}
use Rattle.bit_compile.proofs.Meanings.{Reads, ReadsEach, under, truth_holds, some_truth, both_compared, both_summed, both_subtracted, both_multiplied, one_reduced}
use Rattle.bit_compile.proofs.Knowing.{variable_below}

module _ (g : GameData) (sc : Scope) (domains : sc.domains ≡ map (λ v. v.domain) g.variables) (V : At → ℕ → Type 0) (N O : Type 0) (now : (k : ℕ) → k < length g.variables → V Now k) (next : (k : ℕ) → k < length g.variables → N → (is_output_variable g.variables k ≡ true → O) → V Next k) where
  -- Where `next` is read a next value is, and where it is an output's the formula awaits one.
  pub record Flags (at : At) (nexts awaits : Bool) : Type 0 where
    pub reads_next : nexts ≡ true → N
    pub reads_output : awaits ≡ true → O
    pub here : under at ≡ true → N

  left : (at : At) (a b c d : Bool) → Flags at (a || b) (c || d) → Flags at a c
  left at a b c d f = record { reads_next = λ e. f.reads_next (or_left a b e); reads_output = λ e. f.reads_output (or_left c d e); here = f.here }

  right : (at : At) (a b c d : Bool) → Flags at (a || b) (c || d) → Flags at b d
  right at a b c d f = record { reads_next = λ e. f.reads_next (or_right a b e); reads_output = λ e. f.reads_output (or_right c d e); here = f.here }

  reads_variable : (at : At) (k : ℕ) → k < length g.variables → Flags at false (under at && is_output_variable g.variables k) → V at k
  reads_variable Now k h f = now k h
  reads_variable Next k h f = next k h (f.here refl) f.reads_output

  mutual
    pub reads : (e : Formula) (at : At) → is_some (kind_of sc e) ≡ true → is_stepwise (under at) e ≡ true → Flags at (has_next e) (awaits_output g.variables (under at) e) → Reads V at e
    reads (Constant v) at k w f = tt
    reads (Variable n) at k w f = reads_variable at n (variable_below g sc domains n k) f
    reads (NextOf e) Now k w f = reads e Next k w (record { reads_next = λ e. f.reads_next refl; reads_output = f.reads_output; here = λ e. f.reads_next refl })
    reads (NextOf e) Next k w f = absurd (false≢true w)
    reads (Negation e) at k w f = reads e at (some_truth (kind_of sc e) (truth_holds _ k)) w f
    reads (Conjunction es) at k w f = reads_each es at (truth_holds (are_truths sc es) k) w f
    reads (Disjunction es) at k w f = reads_each es at (truth_holds (are_truths sc es) k) w f
    reads (Implication a b) at k w f =
        let ks = and_parts (is_truth (kind_of sc a)) (is_truth (kind_of sc b)) (truth_holds (is_truth (kind_of sc a) && is_truth (kind_of sc b)) k) in (
          reads a at (some_truth (kind_of sc a) ks.0) (and_parts (is_stepwise (under at) a) (is_stepwise (under at) b) w).0 (left at (has_next a) (has_next b) (awaits_output g.variables (under at) a) (awaits_output g.variables (under at) b) f),
          reads b at (some_truth (kind_of sc b) ks.1) (and_parts (is_stepwise (under at) a) (is_stepwise (under at) b) w).1 (right at (has_next a) (has_next b) (awaits_output g.variables (under at) a) (awaits_output g.variables (under at) b) f),
        )
    reads (Equivalence a b) at k w f =
        let ks = and_parts (is_truth (kind_of sc a)) (is_truth (kind_of sc b)) (truth_holds (is_truth (kind_of sc a) && is_truth (kind_of sc b)) k) in (
          reads a at (some_truth (kind_of sc a) ks.0) (and_parts (is_stepwise (under at) a) (is_stepwise (under at) b) w).0 (left at (has_next a) (has_next b) (awaits_output g.variables (under at) a) (awaits_output g.variables (under at) b) f),
          reads b at (some_truth (kind_of sc b) ks.1) (and_parts (is_stepwise (under at) a) (is_stepwise (under at) b) w).1 (right at (has_next a) (has_next b) (awaits_output g.variables (under at) a) (awaits_output g.variables (under at) b) f),
        )
    reads (Comparison c a b) at k w f = let ks = both_compared c (kind_of sc a) (kind_of sc b) k in (
      reads a at ks.0 (and_parts (is_stepwise (under at) a) (is_stepwise (under at) b) w).0 (left at (has_next a) (has_next b) (awaits_output g.variables (under at) a) (awaits_output g.variables (under at) b) f),
      reads b at ks.1 (and_parts (is_stepwise (under at) a) (is_stepwise (under at) b) w).1 (right at (has_next a) (has_next b) (awaits_output g.variables (under at) a) (awaits_output g.variables (under at) b) f),
    )
    reads (Sum a b) at k w f = let ks = both_summed (kind_of sc a) (kind_of sc b) k in (
      reads a at ks.0 (and_parts (is_stepwise (under at) a) (is_stepwise (under at) b) w).0 (left at (has_next a) (has_next b) (awaits_output g.variables (under at) a) (awaits_output g.variables (under at) b) f),
      reads b at ks.1 (and_parts (is_stepwise (under at) a) (is_stepwise (under at) b) w).1 (right at (has_next a) (has_next b) (awaits_output g.variables (under at) a) (awaits_output g.variables (under at) b) f),
    )
    reads (Difference a b) at k w f = let ks = both_subtracted (kind_of sc a) (kind_of sc b) k in (
      reads a at ks.0 (and_parts (is_stepwise (under at) a) (is_stepwise (under at) b) w).0 (left at (has_next a) (has_next b) (awaits_output g.variables (under at) a) (awaits_output g.variables (under at) b) f),
      reads b at ks.1 (and_parts (is_stepwise (under at) a) (is_stepwise (under at) b) w).1 (right at (has_next a) (has_next b) (awaits_output g.variables (under at) a) (awaits_output g.variables (under at) b) f),
    )
    reads (Product a b) at k w f = let ks = both_multiplied (kind_of sc a) (kind_of sc b) k in (
      reads a at ks.0 (and_parts (is_stepwise (under at) a) (is_stepwise (under at) b) w).0 (left at (has_next a) (has_next b) (awaits_output g.variables (under at) a) (awaits_output g.variables (under at) b) f),
      reads b at ks.1 (and_parts (is_stepwise (under at) a) (is_stepwise (under at) b) w).1 (right at (has_next a) (has_next b) (awaits_output g.variables (under at) a) (awaits_output g.variables (under at) b) f),
    )
    reads (Remainder a n) at k w f = reads a at (one_reduced (kind_of sc a) n k) w f
    reads (PastOf op es) at k w f = tt
    reads (Entry h n) at k w f = tt

    reads_each : (es : Formulas) (at : At) → are_truths sc es ≡ true → are_stepwise (under at) es ≡ true → Flags at (some_has_next es) (some_awaits_output g.variables (under at) es) → ReadsEach V at es
    reads_each Formulas.none at k w f = tt
    reads_each (Formulas.one_more e es) at k w f =
        let ks = and_parts (is_truth (kind_of sc e)) (are_truths sc es) k in
        let ws = and_parts (is_stepwise (under at) e) (are_stepwise (under at) es) w in (
          reads e at (some_truth (kind_of sc e) ks.0) ws.0 (left at (has_next e) (some_has_next es) (awaits_output g.variables (under at) e) (some_awaits_output g.variables (under at) es) f),
          reads_each es at ks.1 ws.1 (right at (has_next e) (some_has_next es) (awaits_output g.variables (under at) e) (some_awaits_output g.variables (under at) es) f),
        )

-- a formula over a state alone reads present values
pub reads_now : (g : GameData) (sc : Scope) → sc.domains ≡ map (λ v. v.domain) g.variables → (V : At → ℕ → Type 0) (e : Formula) → is_some (kind_of sc e) ≡ true → is_stepwise false e ≡ true → not (has_next e) ≡ true → ((k : ℕ) → k < length g.variables → V Now k) → Reads V Now e
reads_now g sc domains V e k w none now =
    reads g sc domains V ⊥ (Unit {0}) now (λ n h no out. absurd no) e Now k w
    (record { reads_next = λ h. false≢true (sym (ap not h) ∙ none); reads_output = λ h. tt; here = λ h. false≢true h })
