-- The plays of a sound environment's table go on after each legal reply; so the table's claim is true.
use Rattle.std.proofs.Common.{◌≡◌, ℕ, zero, suc, ◌+◌, ◌-◌, ◌<◌, ◌≤◌, ◌⊎◌, inl, inr, Bool, true, not, ◌&&◌, nat_le, List, [], ◌∷◌, ◌++◌, length, slice_get, Some, filter, refl, sym, ◌∙◌, ap, subst, arith}
use Rattle.std.proofs.lemmas.Bool.{and_parts, and_from}
use Rattle.std.proofs.lemmas.List.{length_push}
use borrow.Author.Tests.{leb-true}
use Rattle.spec_model.specs.Values.{Assignment}
use Rattle.spec_model.specs.Moves.{is_env, domains_of}
use Rattle.spec_model.specs.Rules.{Run, after}
use Rattle.spec_model.specs.Unrealizable.{NoteData, Beaten, Beats, IsUnrealizable}
use Rattle.spec_model.specs.Games.{GameData, State, outputs_of}
use Rattle.spec_model.specs.GameRules.{last_state, before_at, rules_of_game}
use Rattle.spec_model.specs.Steps.{is_input, is_output, legal_input, legal_output}
use Rattle.spec_model.specs.WellMade.{WellMade}
use Rattle.spec_model.proofs.AllStates.{at_assignment}
use Rattle.spec_model.proofs.Running.{length-after}
use Rattle.gr1_law.specs.Counter.{note_of}
use Rattle.gr1_law.specs.CounterLaws.{LabelsDiffer}
use Rattle.gr1_law.proofs.Lengthening.{slice_get-earlier, slice_get-last}
use Rattle.gr1_law.proofs.CounterRounds.{beaten}
use Rattle.strategy_tables.specs.Tables.{NodeData, EnvironmentTable, same_values, is_reached, environment_row}
use Rattle.strategy_tables.specs.Sound.{HasStates, HasReplies, SoundEnvironmentTablesWin}
use Rattle.strategy_tables.proofs.Finding.{Found, names-found, every_passing, same_state-true, same_values-true}
use Rattle.strategy_tables.proofs.Checked.{EnvironmentRules, environment_rules}
use Rattle.strategy_tables.proofs.Walks.{Walk, Next, no_node, nothing_walked, longer_node, longer_node-before, longer_node-here, longer}
use Rattle.strategy_tables.proofs.EnvironmentWalks.{NotedWalk, counter_of, counts_of, trail}

-- what a node fits that a row names for an output
abbrev fits : GameData → Run → Assignment → Assignment → NodeData → Bool
fits g h x y v = is_reached g (last_state g h) x v && same_values v.state.position.output y

-- a legal output has a node in the row
next_of : (g : GameData) (nodes : List NodeData) (h : Run) (x : Assignment) (row : List ℕ) → environment_row g nodes (last_state g h) x row ≡ true → (y : Assignment) → is_output g y ≡ true → legal_output g (last_state g h) x y ≡ true →
    (next : Next g nodes h row x) × (next.node.state.position.output ≡ y)
next_of g nodes h x row e y output legal =
    of_found
    (at_assignment (domains_of (λ o. not (is_env o)) g.variables) (λ y. legal_output g (last_state g h) x y ≡ true → Found nodes (fits g h x) row y)
    (every_passing (Found nodes (fits g h x) row) (legal_output g (last_state g h) x) (outputs_of g)
    (names-found nodes (fits g h x) (filter (legal_output g (last_state g h) x) (outputs_of g)) row (and_parts (legal_input g (last_state g h) x) _ e).1)) y output legal)
  where
    of_found : Found nodes (fits g h x) row y → (next : Next g nodes h row x) × (next.node.state.position.output ≡ y)
    of_found found =
        let parts = and_parts (is_reached g (last_state g h) x found.node) (same_values found.node.state.position.output y) found.fits_move in (
          record {
            place = found.place;
            number = found.number;
            node = found.node;
            in_row = found.in_row;
            in_table = found.in_table;
            state = same_state-true found.node.state _ parts.0;
          },
          same_values-true found.node.state.position.output y parts.1,
        )

module _ (g : GameData) (made : WellMade g) (differ : LabelsDiffer g) (t : EnvironmentTable) (states : HasStates g t.nodes) (replies : HasReplies g t) (rules : EnvironmentRules g t) where
  -- the input that a walk goes on by, and the row of its replies
  record Row (h : Run) (node : ℕ → NodeData) : Type 0 where
    input : Assignment
    is_one : is_input g input ≡ true
    numbers : List ℕ
    whole : environment_row g t.nodes (last_state g h) input numbers ≡ true
    of_last : (p : ℕ) → suc p ≡ length h → numbers ≡ (node p).next

  row_of : (h : Run) (node : ℕ → NodeData) → Walk g t.nodes h node → Row h node
  row_of h node walk = by_length (length h) refl
    where
      by_length : (len : ℕ) → length h ≡ len → Row h node
      by_length zero is =
          record {
            input = t.reply;
            is_one = replies.0;
            numbers = t.first;
            whole = ap (λ (n : ℕ). environment_row g t.nodes (before_at g h n) t.reply t.first) is ∙ rules.first;
            of_last = λ p last. absurd (omega (arith, is, last));
          }
      by_length (suc p) is =
          let inner : p < length h = omega (arith, is) in
          record {
            input = (node p).reply;
            is_one = replies.1 (walk.number p) (node p) (walk.in_table p inner);
            numbers = (node p).next;
            whole =
                ap (λ (n : ℕ). environment_row g t.nodes (before_at g h n) (node p).reply (node p).next) is
                ∙ (ap (λ (s : State). environment_row g t.nodes (Some s) (node p).reply (node p).next) (sym (walk.states p inner))
                ∙ (rules.each (walk.number p) (node p) (walk.in_table p inner)).row);
            of_last = λ q last. let same : p ≡ q = omega (arith, is, last) in ap (λ (p : ℕ). (node p).next) same;
          }

  m_some : 1 ≤ t.m
  m_some = leb-true 1 t.m (and_parts (nat_le 1 t.m) _ rules.m_most).0

  walk_beats : (h : Run) (notes : List NoteData) (node : ℕ → NodeData) → NotedWalk g t.nodes h notes node → Beaten (rules_of_game g) t.n t.m h notes
  walk_beats h notes node noted = beaten g t.n t.m (counts_of g t.nodes) h notes _ _ (trail g t states rules h notes node noted) made differ m_some

  module _ (h : Run) (notes : List NoteData) (node : ℕ → NodeData) (noted : NotedWalk g t.nodes h notes node) (row : Row h node) (next : Next g t.nodes h row.numbers row.input) where
    abbrev node' : ℕ → NodeData
    node' = longer_node g t.nodes h node noted.walk row.input row.numbers row.of_last next

    noted_there : (p : ℕ) → (p < length h) ⊎ (p ≡ length h) → slice_get (notes ++ note_of g (counter_of g next.node) ∷ []) p ≡ Some (note_of g (counter_of g (longer_node g t.nodes h node noted.walk row.input row.numbers row.of_last next p)))
    noted_there p (inl less) =
        slice_get-earlier notes (note_of g (counter_of g next.node)) p (omega (arith, less, noted.noted_all))
        ∙ (noted.noted p less
        ∙ ap (λ (v : NodeData). Some (note_of g (counter_of g v))) (sym (longer_node-before g t.nodes h node noted.walk row.input row.numbers row.of_last next p less)))
    noted_there p (inr same) =
        ap (slice_get (notes ++ note_of g (counter_of g next.node) ∷ [])) (same ∙ sym noted.noted_all)
        ∙ (slice_get-last notes (note_of g (counter_of g next.node))
        ∙ ap (λ (v : NodeData). Some (note_of g (counter_of g v))) (sym (longer_node-here g t.nodes h node noted.walk row.input row.numbers row.of_last next) ∙ ap (longer_node g t.nodes h node noted.walk row.input row.numbers row.of_last next) (sym same)))

    noted_longer : NotedWalk g t.nodes (after h row.input next.node.state.position.output) (notes ++ note_of g (counter_of g next.node) ∷ []) (longer_node g t.nodes h node noted.walk row.input row.numbers row.of_last next)
    noted_longer =
        record {
          walk = longer g t.nodes h node noted.walk row.input row.numbers row.of_last next;
          noted_all = omega (arith, length_push notes (note_of g (counter_of g next.node)), length-after h (record { input = row.input; output = next.node.state.position.output }), noted.noted_all);
          noted = λ p inner. noted_there p (earlier_or_last p (subst (λ (n : ℕ). p < n) (length-after h (record { input = row.input; output = next.node.state.position.output })) inner));
        }
      where
        earlier_or_last : (p : ℕ) → p < suc (length h) → (p < length h) ⊎ (p ≡ length h)
        earlier_or_last p inner = grind arith

  beats : (depth : ℕ) (h : Run) (notes : List NoteData) (node : ℕ → NodeData) → NotedWalk g t.nodes h notes node → Beats (rules_of_game g) t.n t.m h notes depth
  beats zero h notes node noted = tt
  beats (suc depth) h notes node noted =
      let row = row_of h node noted.walk in (
        row.input,
        and_from _ _ row.is_one (and_parts (legal_input g (last_state g h) row.input) _ row.whole).0,
        λ y legal.
            let parts = and_parts (is_output g y) (legal_output g (last_state g h) row.input y) legal in
            let found = next_of g t.nodes h row.input row.numbers row.whole y parts.0 parts.1 in
            let next = found.0 in
            let on = noted_longer h notes node noted row next in
            let here = walk_beats _ _ _ on in
            let rest = beats depth _ _ _ on in (
              note_of g (counter_of g next.node),
              subst (λ (y : Assignment). Beaten (rules_of_game g) t.n t.m (after h row.input y) (notes ++ note_of g (counter_of g next.node) ∷ [])) found.1 here,
              subst (λ (y : Assignment). Beats (rules_of_game g) t.n t.m (after h row.input y) (notes ++ note_of g (counter_of g next.node) ∷ []) depth) found.1 rest,
            ),
      )

  unrealizable : IsUnrealizable (rules_of_game g) t.n t.m
  unrealizable =
      record {
        at_least_one = m_some;
        beats = λ depth. beats depth [] [] no_node (record { walk = nothing_walked g t.nodes; noted_all = refl; noted = λ p inner. absurd (omega arith) });
      }

pub environment_tables_win : (g : GameData) → WellMade g → LabelsDiffer g → SoundEnvironmentTablesWin g
environment_tables_win g made differ t states replies sound = unrealizable g made differ t states replies (environment_rules g t sound)
