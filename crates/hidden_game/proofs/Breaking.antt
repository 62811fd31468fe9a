-- The first line of a specification that an input or an output breaks is the line of its game with the least number.
use Rattle.std.proofs.Common.{◌≡◌, ℕ, ◌<◌, Bool, true, false, not, ◌&&◌, ◌||◌, if◌then◌else◌, List, [], ◌∷◌, ◌++◌, length, find, cond, Option, Some, None, is_some, option_map, refl, sym, ap, ◌∙◌, arith, All}
use Rattle.std.specs.List.{list_all}
use Rattle.std.proofs.lemmas.Bool.{and_parts}
use Rattle.std.proofs.lemmas.List.Elements.{All-head, All-tail}
use Rattle.spec_model.specs.Syntax.{Formula, Content, Initial, Safety, Recurring, PatternUse, TriggerUse, Statement, Specification}
use Rattle.spec_model.specs.Values.{Assignment}
use Rattle.spec_model.specs.Rules.{Run, after, after_input}
use Rattle.spec_model.specs.Moves.{has_next, broken_assumption, broken_guarantee, broken_by_input, broken_by_output}
use Rattle.spec_model.specs.Steps.{Before, reached, line_holds, waits_for_output}
use Rattle.spec_model.specs.WellMade.{WellMade, is_step_formula, is_state_formula, is_initial_assumption, is_safety_assumption, scope_of}
use Rattle.spec_model.specs.Laws.{NumbersRise}
use Rattle.hidden_game.specs.declared.player.Player.{Player}
use Rattle.hidden_game.specs.declared.player.Player.TheVariants.{Environment, System}
use Rattle.hidden_game.specs.declared.player.Time.TheVariants.{First, Always}
use Rattle.hidden_game.specs.GameOf.{entered, game_of, binds, said, numbered, lines_for}
use Rattle.spec_model.specs.FirstBroken.{numbers_where, breaks, broken_by, broken_with, lesser, least}
use Rattle.spec_model.specs.Games.{State}
use Rattle.spec_model.specs.GameRules.{last_state}
use Rattle.past_bits.proofs.Ordered.{AreOrdered}
use Rattle.hidden_game.proofs.Known.{is_known, is_known_state, is_known_content}
use Rattle.hidden_game.proofs.Agreeing.{reached_fit, asm_first, asm_always, gar_first, gar_always}
use Rattle.game_play.proofs.Least.{lesser-assoc, least-append}
use Rattle.game_play.proofs.FirstBroken.{initial_breaks, safety_breaks}

lesser-comm : (a b : Option ℕ) → lesser a b ≡ lesser b a
lesser-comm None None = refl
lesser-comm None (Some n) = refl
lesser-comm (Some m) None = refl
lesser-comm (Some m) (Some n) = ap Some (grind arith)

-- a number below all of the lines is the lesser one
below_found : (n : ℕ) (test : Statement → Bool) (ls : List Statement) → All (λ (l : Statement). n < l.number) ls → lesser (Some n) (option_map (λ (l : Statement). l.number) (find test ls)) ≡ Some n
below_found n test [] above = refl
below_found n test (l ∷ ls) above = by_first (test l) (below_found n test ls (All-tail (λ (l : Statement). n < l.number) l ls above))
  where
    by_first : (b : Bool) → lesser (Some n) (option_map (λ (l : Statement). l.number) (find test ls)) ≡ Some n → lesser (Some n) (option_map (λ (l : Statement). l.number) (cond b (Some l) (find test ls))) ≡ Some n
    by_first true rest = let less = All-head (λ (l : Statement). n < l.number) l ls above in ap Some (grind arith)
    by_first false rest = rest

-- what is not false is not broken
not_held : (broken held : Bool) → not broken ≡ held → broken ≡ not held
not_held true held e = ap not e
not_held false held e = ap not e

module _ (s : Specification) (player : Player) (known : Content → Bool) (broken : Content → Bool) (over : Bool)
    (made_first made_always first always : Formula → Bool)
    (initial_breaks : (e : Formula) → known (Initial e) ≡ true → made_first (entered s e) ≡ true → broken (Initial e) ≡ (not over && first (entered s e)))
    (safety_breaks : (e : Formula) → known (Safety e) ≡ true → made_always (entered s e) ≡ true → broken (Safety e) ≡ always (entered s e))
    (recurring_never : (e : Formula) → broken (Recurring e) ≡ false)
    (pattern_never : (p : ℕ) (es : List Formula) → broken (PatternUse p es) ≡ false)
    (trigger_never : (t : ℕ) → broken (TriggerUse t) ≡ false) where
  abbrev Each : (Formula → Bool) → List (ℕ × Formula) → Bool
  Each test ls = list_all (λ (l : ℕ × Formula). test l.1) ls

  -- the least of the numbers of the first lines, unless the first move is over, and of the others
  abbrev Least : List (ℕ × Formula) → List (ℕ × Formula) → Option ℕ
  Least fs ss = lesser (least (if over then [] else numbers_where first fs)) (least (numbers_where always ss))

  -- one line more, by whether it binds the player and is broken
  one : (b : Bool) (n : ℕ) (c : Content) (fs ss : List (ℕ × Formula)) (rest : Option ℕ) → known c ≡ true →
      Each made_first ((if b then numbered n (option_map (entered s) (said First c)) else []) ++ fs) ≡ true →
      Each made_always ((if b then numbered n (option_map (entered s) (said Always c)) else []) ++ ss) ≡ true →
      lesser (Some n) rest ≡ Some n →
      (Each made_first fs ≡ true → Each made_always ss ≡ true → rest ≡ Least fs ss) →
      (if b && broken c then Some n else rest) ≡ Least ((if b then numbered n (option_map (entered s) (said First c)) else []) ++ fs) ((if b then numbered n (option_map (entered s) (said Always c)) else []) ++ ss)
  one false n c fs ss rest is mf ma low ih = ih mf ma
  one true n (Initial e) fs ss rest is mf ma low ih =
      let parts = and_parts (made_first (entered s e)) (Each made_first fs) mf in
      ap (λ b. if b then Some n else rest) (initial_breaks e is parts.0) ∙ at over (first (entered s e)) (ih parts.1 ma)
    where
      at : (o f : Bool) → rest ≡ lesser (least (if o then [] else numbers_where first fs)) (least (numbers_where always ss)) →
          (if not o && f then Some n else rest) ≡ lesser (least (if o then [] else (if f then n ∷ numbers_where first fs else numbers_where first fs))) (least (numbers_where always ss))
      at true f is = is
      at false true is = sym low ∙ (ap (lesser (Some n)) is ∙ lesser-assoc (Some n) (least (numbers_where first fs)) (least (numbers_where always ss)))
      at false false is = is
  one true n (Safety e) fs ss rest is mf ma low ih =
      let parts = and_parts (made_always (entered s e)) (Each made_always ss) ma in
      ap (λ b. if b then Some n else rest) (safety_breaks e is parts.0) ∙ at (always (entered s e)) (least (if over then [] else numbers_where first fs)) (ih mf parts.1)
    where
      at : (f : Bool) (a : Option ℕ) → rest ≡ lesser a (least (numbers_where always ss)) →
          (if f then Some n else rest) ≡ lesser a (least (if f then n ∷ numbers_where always ss else numbers_where always ss))
      at true a is =
          sym low
          ∙ (ap (lesser (Some n)) is
          ∙ (lesser-assoc (Some n) a (least (numbers_where always ss))
          ∙ (ap (λ c. lesser c (least (numbers_where always ss))) (lesser-comm (Some n) a)
          ∙ sym (lesser-assoc a (Some n) (least (numbers_where always ss))))))
      at false a is = is
  one true n (Recurring e) fs ss rest is mf ma low ih = ap (λ b. if b then Some n else rest) (recurring_never e) ∙ ih mf ma
  one true n (PatternUse p es) fs ss rest is mf ma low ih = ap (λ b. if b then Some n else rest) (pattern_never p es) ∙ ih mf ma
  one true n (TriggerUse t) fs ss rest is mf ma low ih = ap (λ b. if b then Some n else rest) (trigger_never t) ∙ ih mf ma

  pub found_is : (ls : List Statement) → NumbersRise ls → list_all (λ (l : Statement). known l.content) ls ≡ true → Each made_first (lines_for s player First ls) ≡ true → Each made_always (lines_for s player Always ls) ≡ true →
      option_map (λ (l : Statement). l.number) (find (λ (l : Statement). binds player l.role && broken l.content) ls) ≡ Least (lines_for s player First ls) (lines_for s player Always ls)
  found_is [] rise is mf ma = nothing over
    where
      nothing : (o : Bool) → None ≡ lesser (least (if o then [] else [])) None
      nothing true = refl
      nothing false = refl
  found_is (l ∷ ls) rise is mf ma =
      let parts = and_parts (known l.content) (list_all (λ (l : Statement). known l.content) ls) is in
      number_of (binds player l.role && broken l.content)
      ∙ one (binds player l.role) l.number l.content (lines_for s player First ls) (lines_for s player Always ls)
      (option_map (λ (l : Statement). l.number) (find (λ (l : Statement). binds player l.role && broken l.content) ls)) parts.0 mf ma
      (below_found l.number (λ (l : Statement). binds player l.role && broken l.content) ls rise.0) (found_is ls rise.1 parts.1)
    where
      number_of : (b : Bool) → option_map (λ (l : Statement). l.number) (cond b (Some l) (find (λ (l : Statement). binds player l.role && broken l.content) ls))
          ≡ (if b then Some l.number else option_map (λ (l : Statement). l.number) (find (λ (l : Statement). binds player l.role && broken l.content) ls))
      number_of true = refl
      number_of false = refl

-- ---- the specification

turn : (o t : Bool) → not (o || t) ≡ (not o && not t)
turn true t = refl
turn false t = refl

module _ (s : Specification) (ordered : AreOrdered s) (made : WellMade (game_of s)) (known : list_all (λ (l : Statement). is_known_content s l.content) s.lines ≡ true) (rise : NumbersRise s.lines) (h : Run) (x : Assignment) where
  abbrev b : Before
  b = last_state (game_of s) h

  -- the least number of an assumption that the input breaks is that of the first line that it breaks
  pub breaks_agree : least (broken_by (game_of s) b x) ≡ broken_assumption s h x
  breaks_agree =
      least-append (if is_some b then [] else numbers_where (breaks (game_of s) false b x) (game_of s).initial_asm) (numbers_where (λ e. breaks (game_of s) (waits_for_output (game_of s) e) b x e) (game_of s).safe_asm)
      ∙ sym (found_is s Environment (is_known_content s) (broken_by_input s (after_input h x) (length h)) (is_some b)
      (is_initial_assumption (game_of s)) (is_safety_assumption (game_of s))
      (breaks (game_of s) false b x) (λ e. breaks (game_of s) (waits_for_output (game_of s) e) b x e)
      initial safety (λ e. refl) (λ p es. refl) (λ t. refl) s.lines rise known made.initial_asm made.safe_asm)
    where
      state : State
      state = reached (game_of s) b x []

      initial : (e : Formula) → is_known_state s e ≡ true → is_initial_assumption (game_of s) (entered s e) ≡ true → broken_by_input s (after_input h x) (length h) (Initial e) ≡ (not (is_some b) && breaks (game_of s) false b x (entered s e))
      initial e is good =
          not_held (broken_by_input s (after_input h x) (length h) (Initial e)) (is_some b || line_holds (game_of s) false b state (entered s e)) (asm_first s ordered made known h x [] e is good)
          ∙ (turn (is_some b) (line_holds (game_of s) false b state (entered s e))
          ∙ ap (λ t. not (is_some b) && t) (sym (initial_breaks (game_of s) made b x [] (reached_fit (game_of s) made h x []) (entered s e) good)))

      safety : (e : Formula) → is_known s e ≡ true → is_safety_assumption (game_of s) (entered s e) ≡ true → broken_by_input s (after_input h x) (length h) (Safety e) ≡ breaks (game_of s) (waits_for_output (game_of s) (entered s e)) b x (entered s e)
      safety e is good =
          not_held (broken_by_input s (after_input h x) (length h) (Safety e)) (line_holds (game_of s) (waits_for_output (game_of s) (entered s e)) b state (entered s e)) (asm_always s ordered made known h x [] e is good)
          ∙ sym (safety_breaks (game_of s) made b x [] (reached_fit (game_of s) made h x []) (entered s e) good)

  -- and so is that of a guarantee or monitor's line that the output breaks
  pub answers_agree : (y : Assignment) → least (broken_with (game_of s) b x y) ≡ broken_guarantee s h x y
  answers_agree y =
      least-append (if is_some b then [] else numbers_where first (game_of s).initial_gar) (numbers_where always (game_of s).safe_gar)
      ∙ sym (found_is s System (is_known_content s) (broken_by_output s (after h x y) (length h)) (is_some b)
      (is_state_formula (scope_of (game_of s))) (is_step_formula (scope_of (game_of s))) first always
      initial safety (λ e. refl) (λ p es. refl) (λ t. refl) s.lines rise known made.initial_gar made.safe_gar)
    where
      first : Formula → Bool
      first e = not (line_holds (game_of s) false b (reached (game_of s) b x y) e)

      always : Formula → Bool
      always e = not (line_holds (game_of s) (has_next e) b (reached (game_of s) b x y) e)

      initial : (e : Formula) → is_known_state s e ≡ true → is_state_formula (scope_of (game_of s)) (entered s e) ≡ true → broken_by_output s (after h x y) (length h) (Initial e) ≡ (not (is_some b) && first (entered s e))
      initial e is good =
          not_held (broken_by_output s (after h x y) (length h) (Initial e)) (is_some b || line_holds (game_of s) false b (reached (game_of s) b x y) (entered s e)) (gar_first s ordered made known h x y e is)
          ∙ turn (is_some b) (line_holds (game_of s) false b (reached (game_of s) b x y) (entered s e))

      safety : (e : Formula) → is_known s e ≡ true → is_step_formula (scope_of (game_of s)) (entered s e) ≡ true → broken_by_output s (after h x y) (length h) (Safety e) ≡ always (entered s e)
      safety e is good = not_held (broken_by_output s (after h x y) (length h) (Safety e)) (line_holds (game_of s) (has_next (entered s e)) b (reached (game_of s) b x y) (entered s e)) (gar_always s ordered made known h x y e is)
