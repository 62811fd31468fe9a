-- A talk of the environment's side, as outputs read and inputs written.
use Rattle.std.proofs.Common.{◌≡◌, ℕ, true, List, [], ◌∷◌, ◌++◌, length, Option, None, is_none, refl, sym, ap, subst, ◌∙◌, arith, append_assoc, length-append}
use Rattle.std.proofs.lemmas.Bool.{and_parts, and_from}
use Rattle.spec_model.specs.Values.{Assignment, is_assignment}
use Rattle.spec_model.specs.Syntax.{VariableData, Specification}
use Rattle.spec_model.specs.Rules.{Run, after}
use Rattle.spec_model.specs.Plays.{IsPlay, nothing, more}
use Rattle.spec_model.specs.Unrealizable.{NoteData, Beaten}
use Rattle.spec_model.specs.Moves.{input_domains, output_domains, broken_assumption, broken_guarantee, legal_input, legal_output, rules_of}
use Rattle.session_lines.specs.declared.lines.Lines.{Lines}
use Rattle.session_lines.specs.Views.{AreOver, AreFor, TurnsRound}
use Rattle.session_lines.specs.Shown.{inputs_of, outputs_of}
use Rattle.session_lines.specs.Room.{domains}
use Rattle.session.specs.declared.talking.End.{End}
use Rattle.session.specs.Exchanges.{Ends, Wrote, Exchanges, opened, answered, Talk}
use Rattle.session.specs.CounterTalks.{ReadsOutput, shown_input, AreOutputs, note_line, shown_inputs, first_broken_reply, CounterTalk}
use Rattle.session.specs.CounterTerms.{CounterState, counter_terms}
use Rattle.session.proofs.Fitting.{read_fits}
use Rattle.session.proofs.RunTalks.{input_domains_are, output_domains_are, is_none-labelled, length_more}
use Rattle.session.proofs.Turns.{ends_weaker}

-- what a line reads as is an output
pub reply_fits : (s : Specification) (y : Assignment) (vs : List VariableData) → vs ≡ outputs_of s → is_assignment (domains vs) y ≡ true → is_assignment (output_domains s) y ≡ true
reply_fits s y vs are fits = ap (λ ds. is_assignment ds y) (sym (ap domains are ∙ output_domains_are s)) ∙ fits

-- a legal input is an assignment
pub given_fits : (s : Specification) (h : Run) (x : Assignment) (vs : List VariableData) → vs ≡ inputs_of s → legal_input s h x ≡ true → is_assignment (domains vs) x ≡ true
given_fits s h x vs are legal = ap (λ ds. is_assignment ds x) (ap domains are ∙ input_domains_are s) ∙ (and_parts (is_assignment (input_domains s) x) (is_none (broken_assumption s h x)) legal).0

-- an assignment that breaks nothing is a legal output
pub legal_reply : (s : Specification) (h : Run) (x y : Assignment) → is_assignment (output_domains s) y ≡ true → first_broken_reply s h x y ≡ None → legal_output s h x y ≡ true
legal_reply s h x y are none = and_from (is_assignment (output_domains s) y) (is_none (broken_guarantee s h x y)) are (is_none-labelled (broken_guarantee s h x y) ∙ ap is_none none)

-- lines that are turned round read outputs and show inputs
pub turned : (old new : Lines) (s : Specification) → AreFor old s → TurnsRound old new → AreOver new s.names (outputs_of s) (inputs_of s)
turned old new s for_spec turns = record { names = turns.over.names ∙ for_spec.names; wanted = turns.over.wanted ∙ for_spec.shown; shown = turns.over.shown ∙ for_spec.wanted }

-- ---- one position more

outputs_more : (s : Specification) (lines : List (List ℕ)) (h : Run) (line : List ℕ) (x y : Assignment) → AreOutputs s lines h → ReadsOutput s line y → AreOutputs s (lines ++ line ∷ []) (after h x y)
outputs_more s [] [] line x y are reads = (reads, tt)
outputs_more s [] (p ∷ h) line x y are reads = absurd are
outputs_more s (l ∷ lines) [] line x y are reads = absurd are
outputs_more s (l ∷ lines) (p ∷ h) line x y are reads = (are.0, outputs_more s lines h line x y are.1 reads)

inputs_more : (s : Specification) (h : Run) (ws : List NoteData) (x y : Assignment) (w : NoteData) (next : Assignment) → length ws ≡ length h →
    shown_inputs s h ws x ++ (note_line w ++ shown_input s next) ≡ shown_inputs s (after h x y) (ws ++ w ∷ []) next
inputs_more s [] [] x y w next e = refl
inputs_more s [] (v ∷ ws) x y w next e = absurd (cc)
inputs_more s (p ∷ h) [] x y w next e = absurd (cc)
inputs_more s (p ∷ h) (v ∷ ws) x y w next e =
    let shown = shown_inputs s h ws x in
    let more = note_line w ++ shown_input s next in
    append_assoc (shown_input s p.input) (note_line v ++ shown) more
    ∙ ap (λ l. shown_input s p.input ++ l) (append_assoc (note_line v) shown more ∙ ap (λ l. note_line v ++ l) (inputs_more s h ws x y w next (omega (arith, e))))

-- ---- the exchanges of a noted play

-- the lines are its outputs, the texts its inputs and notes, and it is a play that beats the system
record IsNotedPlay (s : Specification) (n m : ℕ) (lines : List (List ℕ)) (texts : List ℕ) (st : CounterState) : Type 0 where
  shifts : st.shifts ≡ n
  denials : st.denials ≡ m
  outputs : AreOutputs s lines st.play
  legal : IsPlay (rules_of s) st.play
  legal_next : legal_input s st.play st.input ≡ true
  beaten : Beaten (rules_of s) st.shifts st.denials st.play st.notes
  shown : texts ≡ shown_inputs s st.play st.notes st.input
  counted : length st.play ≡ length lines

-- before the first input
abbrev pub counter_start : (n m : ℕ) → CounterState
counter_start n m = record { shifts = n; denials = m; play = []; notes = []; input = [] }

is_noted_play : (s : Specification) (n m : ℕ) (lines : List (List ℕ)) (texts : List ℕ) (st : CounterState) → Exchanges (counter_terms s) (counter_start n m) lines texts st → IsNotedPlay s n m lines texts st
is_noted_play s n m _ _ _ (opened text st opens) =
    subst (λ (st : CounterState). IsNotedPlay s n m [] text st) (sym opens.goes_on)
    (record {
      shifts = refl;
      denials = refl;
      outputs = tt;
      legal = nothing;
      legal_next = opens.legal;
      beaten = opens.beaten;
      shown = opens.shown;
      counted = refl;
    })
is_noted_play s n m _ _ _ (answered lines texts st line y text next so_far reads unbroken answers) =
    let so = is_noted_play s n m lines texts st so_far in
    let legal = legal_reply s st.play st.input y (reply_fits s y (outputs_of s) refl (read_fits s.names (outputs_of s) line y reads)) unbroken in
    let e = length_more st.play st.input y in
    subst (λ (next : CounterState). IsNotedPlay s n m (lines ++ line ∷ []) (texts ++ text) next) (sym answers.goes_on)
    (record {
      shifts = so.shifts;
      denials = so.denials;
      outputs = outputs_more s lines st.play line st.input y so.outputs reads;
      legal = more st.play st.input y so.legal so.legal_next legal;
      legal_next = answers.legal;
      beaten = answers.beaten;
      shown =
          ap (λ (l : List ℕ). texts ++ l) answers.shown
          ∙ ap (λ (l : List ℕ). l ++ (note_line answers.note ++ shown_input s answers.input)) so.shown
          ∙ inputs_more s st.play st.notes st.input y answers.note answers.input so.beaten.noted;
      counted = omega (arith, e, so.counted, length-append lines (line ∷ []));
    })

-- a talk of the environment's side from the empty play
pub counter_talk : (s : Specification) (n m limit : ℕ) (left0 left1 written0 written1 : Option (List ℕ)) (rose_in rose_out : Type 0) (end : End) →
    Talk (counter_terms s) (counter_start n m) limit left0 left1 written0 written1 rose_in rose_out end → CounterTalk s n m limit left0 left1 written0 written1 rose_in rose_out end
counter_talk s n m limit left0 left1 written0 written1 rose_in rose_out end talk =
    let ran = is_noted_play s n m talk.handed talk.texts talk.last talk.exchanges in
    let st = talk.last in
    record {
      given = talk.given;
      taken_from = talk.taken_from;
      handed = talk.handed;
      play = st.play;
      notes = st.notes;
      next = st.input;
      outputs = ran.outputs;
      legal = ran.legal;
      legal_next = ran.legal_next;
      beaten = subst (λ (n : ℕ). Beaten (rules_of s) n m st.play st.notes) ran.shifts (subst (λ (m : ℕ). Beaten (rules_of s) st.shifts m st.play st.notes) ran.denials ran.beaten);
      few = omega (arith, ran.counted, talk.few);
      wrote = subst (Wrote end written0 written1) ran.shown talk.wrote;
      ends = subst (λ (n : ℕ). Ends (ReadsOutput s) (first_broken_reply s st.play st.input) limit talk.given left1 talk.handed n rose_in rose_out end) (sym ran.counted) talk.ends;
    }

-- what rose in a part rose in the whole
pub counter_weaker : (s : Specification) (n m limit : ℕ) (left0 left1 written0 written1 : Option (List ℕ)) (rose_in rose_out rose_in' rose_out' : Type 0) (end : End) → (rose_in → rose_in') → (rose_out → rose_out') →
    CounterTalk s n m limit left0 left1 written0 written1 rose_in rose_out end → CounterTalk s n m limit left0 left1 written0 written1 rose_in' rose_out' end
counter_weaker s n m limit left0 left1 written0 written1 rose_in rose_out rose_in' rose_out' end from_in from_out talk =
    record {
      given = talk.given;
      taken_from = talk.taken_from;
      handed = talk.handed;
      play = talk.play;
      notes = talk.notes;
      next = talk.next;
      outputs = talk.outputs;
      legal = talk.legal;
      legal_next = talk.legal_next;
      beaten = talk.beaten;
      few = talk.few;
      wrote = talk.wrote;
      ends = ends_weaker (ReadsOutput s) (first_broken_reply s talk.play talk.next) limit talk.given left1 talk.handed (length talk.play) rose_in rose_out rose_in' rose_out' from_in from_out end talk.ends;
    }
