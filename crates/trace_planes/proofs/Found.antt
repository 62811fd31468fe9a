-- What is found on a run that goes on, and that nothing is found exactly on plays.
use Rattle.std.proofs.Common.{◌≡◌, true, false, [], ◌∷◌, ◌++◌, Option, Some, None, is_none, refl, sym, ap, subst, ◌∙◌, append_assoc, IsTrue, ◌↔◌}
use Rattle.std.proofs.lemmas.Bool.{and_parts, and_from}
use Rattle.std.proofs.lemmas.List.{append-nil}
use Rattle.spec_model.specs.declared.game.Label.{Label}
use Rattle.spec_model.specs.Values.{Assignment}
use Rattle.spec_model.specs.Rules.{Position, Run, after}
use Rattle.spec_model.specs.Plays.{IsPlay, nothing, more}
use Rattle.spec_model.specs.GameViews.{game_data}
use Rattle.spec_model.specs.Games.{GameData}
use Rattle.spec_model.specs.GameRules.{last_state, rules_of_game}
use Rattle.spec_model.specs.Steps.{Before, reached, is_state, is_input, is_output, are_hidden_values, legal_input, legal_output}
use Rattle.spec_model.specs.FirstBroken.{first_broken, first_broken_output}
use Rattle.spec_model.specs.WellMade.{WellMade}
use Rattle.spec_model.proofs.Closed.{closed}
use Rattle.spec_model.proofs.Running.{last_state-after}
use Rattle.game_play.proofs.FirstBroken as inputs
use Rattle.game_play.proofs.FirstAnswer as outputs
use Rattle.trace_planes.specs.declared.finding.Finding.{Finding}
use Rattle.trace_planes.specs.declared.judge.Judge.{Judge}
use Rattle.trace_planes.specs.declared.plain.Plain.{Plain}
use Rattle.trace_planes.specs.Findings.{or_else, found_after, first_from}
use Rattle.trace_planes.specs.GameFindings.{broken_after, broken_in_game, first_finding}
use Rattle.trace_planes.specs.Rows.{AreWhole}
use Rattle.trace_planes.specs.Audits.{JudgesAfter, IsJudged, HasJudged}

module _ {X : Type 0} where
  or_else-none : (a : Option X) → or_else a None ≡ a
  or_else-none None = refl
  or_else-none (Some x) = refl

  or_else-assoc : (a b c : Option X) → or_else a (or_else b c) ≡ or_else (or_else a b) c
  or_else-assoc None b c = refl
  or_else-assoc (Some x) b c = refl

  pub neither : (a b : Option X) → or_else a b ≡ None → (a ≡ None) × (b ≡ None)
  neither None b e = (refl, e)
  neither (Some x) b e = absurd (cc)

pub none_of : {X : Type 0} (a : Option X) → is_none a ≡ true → a ≡ None
none_of None e = refl
none_of (Some x) e = absurd (cc)

nothing_there : (h : Run) (l : Option Label) → found_after h l ≡ None → l ≡ None
nothing_there h None e = refl
nothing_there h (Some l) e = absurd (cc)

-- one position more
module _ (broken : Run → Position → Option Label) where
  pub first_from-push : (h ps : Run) (p : Position) → first_from broken h (ps ++ p ∷ []) ≡ or_else (first_from broken h ps) (found_after (h ++ ps) (broken (h ++ ps) p))
  first_from-push h [] p = or_else-none (found_after h (broken h p)) ∙ ap (λ (r : Run). found_after r (broken r p)) (sym (append-nil h))
  first_from-push h (q ∷ ps) p =
      ap (or_else (found_after h (broken h q)))
      (first_from-push (h ++ q ∷ []) ps p ∙ ap (λ (r : Run). or_else (first_from broken (h ++ q ∷ []) ps) (found_after r (broken r p))) (append_assoc h (q ∷ []) ps))
      ∙ or_else-assoc (found_after h (broken h q)) (first_from broken (h ++ q ∷ []) ps) (found_after (h ++ (q ∷ ps)) (broken (h ++ (q ∷ ps)) p))

-- it is a state of the game, or there is none before the first position
abbrev pub IsWholeBefore : GameData → Before → Type 0
IsWholeBefore g None = Unit {0}
IsWholeBefore g (Some s) = IsTrue (is_state g s)

pub whole_push : (g : GameData) (h : Run) (p : Position) → AreWhole g h → IsTrue (is_input g p.input) → IsTrue (is_output g p.output) → AreWhole g (h ++ p ∷ [])
whole_push g [] p whole input output = (input, output, tt)
whole_push g (q ∷ h) p whole input output = (whole.0, whole.1, whole_push g h p whole.2 input output)

module _ (g : GameData) (made : WellMade g) where
  pub reached_whole : (b : Before) (x y : Assignment) → IsWholeBefore g b → IsTrue (is_input g x) → IsTrue (is_output g y) → IsTrue (is_state g (reached g b x y))
  reached_whole None x y whole input output = (closed g made).first x y input output
  reached_whole (Some s) x y whole input output = (closed g made).later s x y whole input output

  pub whole_after : (h : Run) (x y : Assignment) → IsWholeBefore g (last_state g h) → IsTrue (is_input g x) → IsTrue (is_output g y) → IsWholeBefore g (last_state g (after h x y))
  whole_after h x y whole input output = subst (IsWholeBefore g) (sym (last_state-after g h x y)) (reached_whole (last_state g h) x y whole input output)

  module _ (b : Before) (x y : Assignment) (whole : IsWholeBefore g b) (input : IsTrue (is_input g x)) (output : IsTrue (is_output g y)) where
    in_none : is_none (first_broken g b x) ≡ legal_input g b x
    in_none = inputs.none_is_legal g made b x y (and_parts (are_hidden_values g.hidden (reached g b x y).hidden) _ (reached_whole b x y whole input output)).0

    out_none : is_none (first_broken_output g b x y) ≡ legal_output g b x y
    out_none = outputs.none_is_legal g made b x y

    clean : legal_input g b x ≡ true → legal_output g b x y ≡ true → broken_after g b (record { input = x; output = y }) ≡ None
    clean legal_in legal_out =
        ap (λ (l : Option Label). or_else l (first_broken_output g b x y)) (none_of (first_broken g b x) (in_none ∙ legal_in))
        ∙ none_of (first_broken_output g b x y) (out_none ∙ legal_out)

    legal : broken_after g b (record { input = x; output = y }) ≡ None → (legal_input g b x ≡ true) × (legal_output g b x y ≡ true)
    legal e =
        let parts = neither (first_broken g b x) (first_broken_output g b x y) e in
        (sym in_none ∙ ap is_none parts.0, sym out_none ∙ ap is_none parts.1)

  -- nothing is found on a play
  played : (h : Run) → IsPlay (rules_of_game g) h → (first_finding g h ≡ None) × IsWholeBefore g (last_state g h)
  played h nothing = (refl, tt)
  played h (more r x y play legal_in legal_out) =
      let before = played r play in
      let i = and_parts (is_input g x) (legal_input g (last_state g r) x) legal_in in
      let o = and_parts (is_output g y) (legal_output g (last_state g r) x y) legal_out in (
        first_from-push (broken_in_game g) [] r (record { input = x; output = y })
            ∙ (ap (λ (f : Option Finding). or_else f (found_after r (broken_in_game g r (record { input = x; output = y })))) before.0
            ∙ ap (found_after r) (clean (last_state g r) x y before.1 i.0 o.0 i.1 o.1)),
        whole_after r x y before.1 i.0 o.0,
      )

  -- and where nothing is found the run is a play
  plays_on : (h ps : Run) → IsPlay (rules_of_game g) h → IsWholeBefore g (last_state g h) → AreWhole g ps → first_from (broken_in_game g) h ps ≡ None → IsPlay (rules_of_game g) (h ++ ps)
  plays_on h [] play before whole e = subst (IsPlay (rules_of_game g)) (sym (append-nil h)) play
  plays_on h (p ∷ ps) play before whole e =
      let parts = neither (found_after h (broken_in_game g h p)) (first_from (broken_in_game g) (h ++ p ∷ []) ps) e in
      let both = legal (last_state g h) p.input p.output before whole.0 whole.1 (nothing_there h (broken_in_game g h p) parts.0) in
      subst (IsPlay (rules_of_game g)) (append_assoc h (p ∷ []) ps)
      (plays_on (h ++ p ∷ []) ps
      (more h p.input p.output play (and_from (is_input g p.input) (legal_input g (last_state g h) p.input) whole.0 both.0) (and_from (is_output g p.output) (legal_output g (last_state g h) p.input p.output) whole.1 both.1))
      (whole_after h p.input p.output before whole.0 whole.1) whole.2 parts.1)

  pub none_is_play : (h : Run) → AreWhole g h → (first_finding g h ≡ None) ↔ IsPlay (rules_of_game g) h
  none_is_play h whole = (λ e. plays_on [] h nothing tt whole e, λ play. (played h play).0)

-- ---- one position more

pub judged_of : (a : Plain) (g : GameData) (h : Run) → HasJudged a g h → IsJudged a.judge a.found g h
judged_of a g h st = record { game = st.game; found = st.found; judges = st.judges }

-- what is found with one position more
pub finding-push : (g : GameData) (h : Run) (p : Position) → first_finding g (h ++ p ∷ []) ≡ or_else (first_finding g h) (found_after h (broken_in_game g h p))
finding-push g h p = first_from-push (broken_in_game g) [] h p

module _ (g : GameData) (h : Run) (p : Position) (j j' : Judge) (f f' : Option Finding) (before : IsJudged j f g h) (game : game_data j'.game ≡ game_data j.game) where
  pub judged_first : is_none f ≡ true → f' ≡ found_after h (broken_in_game g h p) → JudgesAfter j' g (Some (reached g (last_state g h) p.input p.output)) → IsJudged j' f' g (h ++ p ∷ [])
  judged_first none there after_it =
      record {
        game = game ∙ before.game;
        found = there ∙ sym (finding-push g h p ∙ ap (λ (a : Option Finding). or_else a (found_after h (broken_in_game g h p))) (sym before.found ∙ none_of f none));
        judges = λ e. subst (JudgesAfter j' g) (sym (last_state-after g h p.input p.output)) after_it;
      }

  pub judged_before : is_none f ≡ false → f' ≡ f → IsJudged j' f' g (h ++ p ∷ [])
  judged_before some same =
      let still : first_finding g (h ++ p ∷ []) ≡ f = finding-push g h p ∙ (ap (λ (a : Option Finding). or_else a (found_after h (broken_in_game g h p))) (sym before.found) ∙ kept f some) in
      record {
        game = game ∙ before.game;
        found = same ∙ sym still;
        judges = λ e. absurd (not_none f some (sym still ∙ e));
      }
    where
      kept : (a : Option Finding) → is_none a ≡ false → or_else a (found_after h (broken_in_game g h p)) ≡ a
      kept None e = absurd (cc)
      kept (Some x) e = refl

      not_none : (a : Option Finding) → is_none a ≡ false → a ≡ None → ⊥
      not_none None e is = cc
      not_none (Some x) e is = cc
