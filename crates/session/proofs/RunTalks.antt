-- A talk of the system's side, as inputs read and outputs written.
use Rattle.std.proofs.Common.{◌≡◌, ℕ, ◌+◌, Bool, true, false, not, List, [], ◌∷◌, ◌++◌, length, filter, cond, Option, Some, None, is_none, option_map, refl, sym, ap, subst, ◌∙◌, arith, append_assoc, append-nil, length-append}
use Rattle.std.proofs.lemmas.Bool.{and_parts, and_from}
use Rattle.spec_model.specs.declared.value.Owner.{Owner}
use Rattle.spec_model.specs.Values.{Assignment, is_assignment}
use Rattle.spec_model.specs.Syntax.{VariableData, Specification}
use Rattle.spec_model.specs.Rules.{Run, after}
use Rattle.spec_model.specs.Plays.{IsPlay, nothing, more}
use Rattle.spec_model.specs.Realizable.{Kept}
use Rattle.spec_model.specs.Moves.{is_env, domains_of, input_domains, output_domains, broken_assumption, broken_guarantee, legal_input, legal_output, rules_of}
use Rattle.spec_model.specs.FirstBroken.{line_label}
use Rattle.session_lines.specs.Shown.{inputs_of, outputs_of}
use Rattle.session_lines.specs.Room.{domains}
use Rattle.session.specs.declared.talking.End.{End}
use Rattle.session.specs.Exchanges.{Ends, Wrote, Exchanges, opened, answered, Talk}
use Rattle.session.specs.Talks.{ReadsInput, shown_output, AreInputs, shown_outputs, first_broken_after, RunTalk}
use Rattle.session.specs.RunTerms.{RunState, run_terms}
use Rattle.session.proofs.Fitting.{read_fits}
use Rattle.session.proofs.Turns.{ends_weaker}

-- ---- whose domains they are

domains-filter : (test : Owner → Bool) (vs : List VariableData) → domains (filter (λ v. test v.owner) vs) ≡ domains_of test vs
domains-filter test [] = refl
domains-filter test (v ∷ vs) = by_owner (test v.owner) (domains-filter test vs)
  where
    by_owner : (b : Bool) → domains (filter (λ v. test v.owner) vs) ≡ domains_of test vs →
        domains (cond b (v ∷ filter (λ v. test v.owner) vs) (filter (λ v. test v.owner) vs)) ≡ cond b (v.domain ∷ domains_of test vs) (domains_of test vs)
    by_owner true rest = ap (λ ds. v.domain ∷ ds) rest
    by_owner false rest = rest

pub input_domains_are : (s : Specification) → domains (inputs_of s) ≡ input_domains s
input_domains_are s = domains-filter is_env s.variables

pub output_domains_are : (s : Specification) → domains (outputs_of s) ≡ output_domains s
output_domains_are s = domains-filter (λ o. not (is_env o)) s.variables

-- what a line reads as is an input
pub input_fits : (s : Specification) (x : Assignment) (vs : List VariableData) → vs ≡ inputs_of s → is_assignment (domains vs) x ≡ true → is_assignment (input_domains s) x ≡ true
input_fits s x vs are fits = ap (λ ds. is_assignment ds x) (sym (ap domains are ∙ input_domains_are s)) ∙ fits

-- a legal output is an assignment
pub output_fits : (s : Specification) (h : Run) (x y : Assignment) (vs : List VariableData) → vs ≡ outputs_of s → legal_output s h x y ≡ true → is_assignment (domains vs) y ≡ true
output_fits s h x y vs are legal = ap (λ ds. is_assignment ds y) (ap domains are ∙ output_domains_are s) ∙ (and_parts (is_assignment (output_domains s) y) (is_none (broken_guarantee s h x y)) legal).0

-- what has no label is nothing
pub is_none-labelled : (n : Option ℕ) → is_none n ≡ is_none (option_map line_label n)
is_none-labelled None = refl
is_none-labelled (Some n) = refl

-- an assignment that breaks nothing is legal
pub legal_from : (s : Specification) (h : Run) (x : Assignment) → is_assignment (input_domains s) x ≡ true → first_broken_after s h x ≡ None → legal_input s h x ≡ true
legal_from s h x are none = and_from (is_assignment (input_domains s) x) (is_none (broken_assumption s h x)) are (is_none-labelled (broken_assumption s h x) ∙ ap is_none none)

-- ---- one position more

inputs_more : (s : Specification) (lines : List (List ℕ)) (h : Run) (line : List ℕ) (x y : Assignment) → AreInputs s lines h → ReadsInput s line x → AreInputs s (lines ++ line ∷ []) (after h x y)
inputs_more s [] [] line x y are reads = (reads, tt)
inputs_more s [] (p ∷ h) line x y are reads = absurd are
inputs_more s (l ∷ lines) [] line x y are reads = absurd are
inputs_more s (l ∷ lines) (p ∷ h) line x y are reads = (are.0, inputs_more s lines h line x y are.1 reads)

shown_more : (s : Specification) (h : Run) (x y : Assignment) → shown_outputs s h ++ shown_output s y ≡ shown_outputs s (after h x y)
shown_more s [] x y = sym (append-nil (shown_output s y))
shown_more s (p ∷ h) x y = append_assoc (shown_output s p.output) (shown_outputs s h) (shown_output s y) ∙ ap (λ l. shown_output s p.output ++ l) (shown_more s h x y)

pub length_more : (h : Run) (x y : Assignment) → length (after h x y) ≡ length h + 1
length_more h x y = length-append h (record { input = x; output = y } ∷ [])

-- ---- the exchanges of a run

-- the lines are its inputs, the texts its outputs, and it is a play that keeps its guarantees
record IsRun (s : Specification) (k : ℕ) (lines : List (List ℕ)) (texts : List ℕ) (st : RunState) : Type 0 where
  rounds : st.rounds ≡ k
  inputs : AreInputs s lines st.play
  legal : IsPlay (rules_of s) st.play
  kept : Kept (rules_of s) st.rounds st.play
  shown : texts ≡ shown_outputs s st.play
  counted : length st.play ≡ length lines

abbrev start : ℕ → RunState
start k = record { rounds = k; play = [] }

is_run : (s : Specification) (k : ℕ) (lines : List (List ℕ)) (texts : List ℕ) (st : RunState) → Exchanges (run_terms s) (start k) lines texts st → IsRun s k lines texts st
is_run s k _ _ _ (opened text st opens) =
    subst (λ (st : RunState). IsRun s k [] text st) (sym opens.same)
    (record { rounds = refl; inputs = tt; legal = nothing; kept = opens.kept; shown = opens.nothing; counted = refl })
is_run s k _ _ _ (answered lines texts st line x text next so_far reads unbroken answers) =
    let so = is_run s k lines texts st so_far in
    let y = answers.output in
    let legal = legal_from s st.play x (input_fits s x (inputs_of s) refl (read_fits s.names (inputs_of s) line x reads)) unbroken in
    let e = length_more st.play x y in
    subst (λ (next : RunState). IsRun s k (lines ++ line ∷ []) (texts ++ text) next) (sym answers.goes_on)
    (record {
      rounds = so.rounds;
      inputs = inputs_more s lines st.play line x y so.inputs reads;
      legal = more st.play x y so.legal legal answers.legal;
      kept = answers.kept;
      shown = ap (λ (l : List ℕ). texts ++ l) answers.shown ∙ ap (λ (l : List ℕ). l ++ shown_output s y) so.shown ∙ shown_more s st.play x y;
      counted = omega (arith, e, so.counted, length-append lines (line ∷ []));
    })

-- a talk of the system's side from the empty play
pub run_talk : (s : Specification) (k limit : ℕ) (left0 left1 written0 written1 : Option (List ℕ)) (rose_in rose_out : Type 0) (end : End) →
    Talk (run_terms s) (record { rounds = k; play = [] }) limit left0 left1 written0 written1 rose_in rose_out end → RunTalk s k limit left0 left1 written0 written1 rose_in rose_out end
run_talk s k limit left0 left1 written0 written1 rose_in rose_out end talk =
    let ran = is_run s k talk.handed talk.texts talk.last talk.exchanges in
    record {
      given = talk.given;
      taken_from = talk.taken_from;
      handed = talk.handed;
      play = talk.last.play;
      inputs = ran.inputs;
      legal = ran.legal;
      kept = subst (λ (k : ℕ). Kept (rules_of s) k talk.last.play) ran.rounds ran.kept;
      few = omega (arith, ran.counted, talk.few);
      wrote = subst (Wrote end written0 written1) ran.shown talk.wrote;
      ends = subst (λ (n : ℕ). Ends (ReadsInput s) (first_broken_after s talk.last.play) limit talk.given left1 talk.handed n rose_in rose_out end) (sym ran.counted) talk.ends;
    }

-- what rose in a part rose in the whole
pub weaker : (s : Specification) (k limit : ℕ) (left0 left1 written0 written1 : Option (List ℕ)) (rose_in rose_out rose_in' rose_out' : Type 0) (end : End) → (rose_in → rose_in') → (rose_out → rose_out') →
    RunTalk s k limit left0 left1 written0 written1 rose_in rose_out end → RunTalk s k limit left0 left1 written0 written1 rose_in' rose_out' end
weaker s k limit left0 left1 written0 written1 rose_in rose_out rose_in' rose_out' end from_in from_out talk =
    record {
      given = talk.given;
      taken_from = talk.taken_from;
      handed = talk.handed;
      play = talk.play;
      inputs = talk.inputs;
      legal = talk.legal;
      kept = talk.kept;
      few = talk.few;
      wrote = talk.wrote;
      ends = ends_weaker (ReadsInput s) (first_broken_after s talk.play) limit talk.given left1 talk.handed (length talk.play) rose_in rose_out rose_in' rose_out' from_in from_out end talk.ends;
    }
