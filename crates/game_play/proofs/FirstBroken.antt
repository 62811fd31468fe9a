-- The first assumption that an input breaks, found with one output for all.
use Rattle.std.proofs.Common.{◌≡◌, ℕ, ◌<◌, Bool, true, false, not, ◌&&◌, ◌||◌, if◌then◌else◌, List, [], ◌∷◌, ◌++◌, length, map, Option, Some, None, is_some, is_none, option_map, refl, sym, ap, ◌∙◌, arith}
use Rattle.std.specs.List.{list_any, list_all}
use Rattle.std.proofs.lemmas.Bool.{and_parts}
use Rattle.spec_model.specs.Values.{Assignment}
use Rattle.spec_model.specs.Syntax.{Formula}
use Rattle.spec_model.specs.Moves.{is_env, has_next}
use Rattle.spec_model.specs.Games.{GameData, State, outputs_of}
use Rattle.spec_model.specs.Steps.{Before, reached, are_hidden_values, line_holds, waits_for_output, assumptions_hold, legal_input}
use Rattle.spec_model.specs.WellMade.{WellMade, is_step_formula, is_state_formula, is_initial_assumption, is_safety_assumption, awaits_output, scope_of}
use Rattle.game_play.specs.Judged.{numbers_false}
use Rattle.spec_model.specs.FirstBroken.{numbers_where, breaks, broken_by, lesser, least, line_label}
use Rattle.game_play.proofs.OutputReads.{not_false}
use Rattle.game_play.proofs.Choices.{some_choice, all_alike}
use Rattle.game_play.proofs.Least.{least-append}
use Rattle.game_play.proofs.AnyOutput.{same_here, same_late}

-- ---- lists of lines

any_alike : {X : Type 0} (test : X → Bool) (answer : Bool) (xs : List X) → 0 < length xs → ((x : X) → test x ≡ answer) → list_any test xs ≡ answer
any_alike test answer [] some each = absurd (omega arith)
any_alike test answer (x ∷ xs) some each = ap (λ b. b || list_any test xs) (each x) ∙ rest answer each
  where
    none : (ys : List _) → ((y : _) → test y ≡ false) → list_any test ys ≡ false
    none [] each = refl
    none (y ∷ ys) each = ap (λ b. b || list_any test ys) (each y) ∙ none ys each

    rest : (b : Bool) → ((y : _) → test y ≡ b) → (b || list_any test xs) ≡ b
    rest true each = refl
    rest false each = none xs each

module _ (good : Formula → Bool) where
  abbrev AreGood : List (ℕ × Formula) → Type 0
  AreGood ls = list_all (λ (l : ℕ × Formula). good l.1) ls ≡ true

  same_tests : (p q : Formula → Bool) → ((e : Formula) → good e ≡ true → p e ≡ q e) → (ls : List (ℕ × Formula)) → AreGood ls → list_all (λ (l : ℕ × Formula). p l.1) ls ≡ list_all (λ (l : ℕ × Formula). q l.1) ls
  same_tests p q same [] made = refl
  same_tests p q same (l ∷ ls) made =
      let parts = and_parts (good l.1) (list_all (λ (l : ℕ × Formula). good l.1) ls) made in
      ap (λ b. b && list_all (λ (l : ℕ × Formula). p l.1) ls) (same l.1 parts.0) ∙ ap (λ b. q l.1 && b) (same_tests p q same ls parts.1)

  -- one line more, by whether it is true
  one_number : (n : ℕ) (test broken : Bool) (ms ns : List ℕ) → broken ≡ not test → ms ≡ ns → (if test then [] else n ∷ []) ++ ms ≡ (if broken then n ∷ ns else ns)
  one_number n true broken ms ns is same = rw is same
  one_number n false broken ms ns is same = rw is (ap (λ ks. n ∷ ks) same)

  -- the false lines are the broken ones
  pub late_numbers : (test : Bool → Formula → Bool) (late broken : Formula → Bool) → ((e : Formula) → good e ≡ true → broken e ≡ not (test (late e) e)) → (ls : List (ℕ × Formula)) → AreGood ls →
      numbers_false test (map (λ (l : ℕ × Formula). late l.1) ls) ls ≡ numbers_where broken ls
  late_numbers test late broken is [] made = refl
  late_numbers test late broken is (l ∷ ls) made =
      let parts = and_parts (good l.1) (list_all (λ (l : ℕ × Formula). good l.1) ls) made in
      one_number l.0 (test (late l.1) l.1) (broken l.1) _ _ (is l.1 parts.0) (late_numbers test late broken is ls parts.1)

  pub prompt_numbers : (test : Bool → Formula → Bool) (broken : Formula → Bool) → ((e : Formula) → good e ≡ true → broken e ≡ not (test false e)) → (ls : List (ℕ × Formula)) → AreGood ls →
      numbers_false test [] ls ≡ numbers_where broken ls
  prompt_numbers test broken is [] made = refl
  prompt_numbers test broken is (l ∷ ls) made =
      let parts = and_parts (good l.1) (list_all (λ (l : ℕ × Formula). good l.1) ls) made in
      one_number l.0 (test false l.1) (broken l.1) _ _ (is l.1 parts.0) (prompt_numbers test broken is ls parts.1)

  -- no line is broken where each is true
  pub none_where : (test broken : Formula → Bool) → ((e : Formula) → good e ≡ true → broken e ≡ not (test e)) → (ls : List (ℕ × Formula)) → AreGood ls → is_none (least (numbers_where broken ls)) ≡ list_all (λ (l : ℕ × Formula). test l.1) ls
  none_where test broken is [] made = refl
  none_where test broken is (l ∷ ls) made =
      let parts = and_parts (good l.1) (list_all (λ (l : ℕ × Formula). good l.1) ls) made in
      at (test l.1) (broken l.1) (is l.1 parts.0) (none_where test broken is ls parts.1)
    where
      some : (n : ℕ) (a : Option ℕ) → is_none (lesser (Some n) a) ≡ false
      some n None = refl
      some n (Some m) = refl

      at : (t b : Bool) → b ≡ not t → is_none (least (numbers_where broken ls)) ≡ list_all (λ (l : ℕ × Formula). test l.1) ls →
          is_none (least (if b then l.0 ∷ numbers_where broken ls else numbers_where broken ls)) ≡ (t && list_all (λ (l : ℕ × Formula). test l.1) ls)
      at true b is rest = rw is rest
      at false b is rest = rw is (some l.0 (least (numbers_where broken ls)))

pub none-lesser : (a b : Option ℕ) → is_none (lesser a b) ≡ (is_none a && is_none b)
none-lesser None b = refl
none-lesser (Some m) None = refl
none-lesser (Some m) (Some n) = refl

pub none-labelled : (a : Option ℕ) → is_none (option_map line_label a) ≡ is_none a
none-labelled None = refl
none-labelled (Some n) = refl

-- ---- one move

module _ (g : GameData) (made : WellMade g) (b : Before) (x y : Assignment) (hidden : are_hidden_values g.hidden (reached g b x y).hidden ≡ true) where
  abbrev state : State
  state = reached g b x y

  abbrev waits : Formula → Bool
  waits e = waits_for_output g e

  some_output : 0 < length (outputs_of g)
  some_output = some_choice (λ o. not (is_env o)) g.variables made.domains

  initial_alike : (e : Formula) → is_initial_assumption g e ≡ true → (z : Assignment) → line_holds g false b (reached g b x z) e ≡ line_holds g false b state e
  initial_alike e good z =
      let parts = and_parts (is_state_formula (scope_of g) e) (not (waits e)) good in
      let step = (and_parts (is_step_formula (scope_of g) e) (not (has_next e)) parts.0).0 in
      same_here g made b x z y hidden e step (not_false (waits e) parts.1)

  safety_alike : (e : Formula) → is_safety_assumption g e ≡ true → (z : Assignment) → line_holds g (waits e) b (reached g b x z) e ≡ line_holds g (waits e) b state e
  safety_alike e good z = at (waits e) refl
    where
      at : (w : Bool) → waits e ≡ w → line_holds g w b (reached g b x z) e ≡ line_holds g w b state e
      at true is = same_late g b x z y e good
      at false is = same_here g made b x z y hidden e (and_parts (is_step_formula (scope_of g) e) (not (awaits_output g.variables false e)) good).0 is

  pub initial_breaks : (e : Formula) → is_initial_assumption g e ≡ true → breaks g false b x e ≡ not (line_holds g false b state e)
  initial_breaks e good = any_alike (λ z. not (line_holds g false b (reached g b x z) e)) (not (line_holds g false b state e)) (outputs_of g) some_output (λ z. ap not (initial_alike e good z))

  pub safety_breaks : (e : Formula) → is_safety_assumption g e ≡ true → breaks g (waits e) b x e ≡ not (line_holds g (waits e) b state e)
  safety_breaks e good = any_alike (λ z. not (line_holds g (waits e) b (reached g b x z) e)) (not (line_holds g (waits e) b state e)) (outputs_of g) some_output (λ z. ap not (safety_alike e good z))

  -- ---- none is broken exactly where the input is legal

  legal_with : legal_input g b x ≡ assumptions_hold g b state
  legal_with = all_alike (λ z. assumptions_hold g b (reached g b x z)) (assumptions_hold g b state) (outputs_of g) some_output (λ z. alike z)
    where
      alike : (z : Assignment) → assumptions_hold g b (reached g b x z) ≡ assumptions_hold g b state
      alike z =
          ap (λ t. (is_some b || t) && list_all (λ (l : ℕ × Formula). line_holds g (waits l.1) b (reached g b x z) l.1) g.safe_asm)
          (same_tests (is_initial_assumption g) (λ e. line_holds g false b (reached g b x z) e) (λ e. line_holds g false b state e) (λ e good. initial_alike e good z) g.initial_asm made.initial_asm)
          ∙ ap (λ t. (is_some b || list_all (λ (l : ℕ × Formula). line_holds g false b state l.1) g.initial_asm) && t)
          (same_tests (is_safety_assumption g) (λ e. line_holds g (waits e) b (reached g b x z) e) (λ e. line_holds g (waits e) b state e) (λ e good. safety_alike e good z) g.safe_asm made.safe_asm)

  pub none_is_legal : is_none (option_map line_label (least (broken_by g b x))) ≡ legal_input g b x
  none_is_legal =
      none-labelled (least (broken_by g b x))
      ∙ (ap is_none (least-append first later)
      ∙ (none-lesser (least first) (least later)
      ∙ (ap (λ t. t && is_none (least later)) (at_first b)
      ∙ (ap (λ t. (is_some b || list_all (λ (l : ℕ × Formula). line_holds g false b state l.1) g.initial_asm) && t)
      (none_where (is_safety_assumption g) (λ e. line_holds g (waits e) b state e) (λ e. breaks g (waits e) b x e) safety_breaks g.safe_asm made.safe_asm)
      ∙ sym legal_with))))
    where
      first : List ℕ
      first = if is_some b then [] else numbers_where (breaks g false b x) g.initial_asm

      later : List ℕ
      later = numbers_where (λ e. breaks g (waits e) b x e) g.safe_asm

      at_first : (c : Before) → is_none (least (if is_some c then [] else numbers_where (breaks g false b x) g.initial_asm)) ≡ (is_some c || list_all (λ (l : ℕ × Formula). line_holds g false b state l.1) g.initial_asm)
      at_first None = none_where (is_initial_assumption g) (λ e. line_holds g false b state e) (breaks g false b x) initial_breaks g.initial_asm made.initial_asm
      at_first (Some s) = refl

  -- ---- what is found

  module _ (test : Bool → Formula → Bool) (prompt : (e : Formula) → test false e ≡ line_holds g false b state e) (late : (e : Formula) → is_safety_assumption g e ≡ true → test true e ≡ line_holds g true b state e) where
    pub found_initial : numbers_false test [] g.initial_asm ≡ numbers_where (breaks g false b x) g.initial_asm
    found_initial = prompt_numbers (is_initial_assumption g) test (breaks g false b x) (λ e good. initial_breaks e good ∙ ap not (sym (prompt e))) g.initial_asm made.initial_asm

    pub found_safety : numbers_false test (map (λ (l : ℕ × Formula). waits l.1) g.safe_asm) g.safe_asm ≡ numbers_where (λ e. breaks g (waits e) b x e) g.safe_asm
    found_safety = late_numbers (is_safety_assumption g) test waits (λ e. breaks g (waits e) b x e) (λ e good. safety_breaks e good ∙ ap not (sym (tested (waits e) e good))) g.safe_asm made.safe_asm
      where
        tested : (w : Bool) (e : Formula) → is_safety_assumption g e ≡ true → test w e ≡ line_holds g w b state e
        tested true e good = late e good
        tested false e good = prompt e

    pub first_at_start : b ≡ None → (flags : List Bool) → flags ≡ map (λ (l : ℕ × Formula). waits l.1) g.safe_asm →
        lesser (least (numbers_false test [] g.initial_asm)) (least (numbers_false test flags g.safe_asm)) ≡ least (broken_by g b x)
    first_at_start is flags same =
        ap (λ ns. lesser (least ns) (least (numbers_false test flags g.safe_asm))) found_initial
        ∙ (ap (λ ns. lesser (least (numbers_where (breaks g false b x) g.initial_asm)) (least ns)) (ap (λ fs. numbers_false test fs g.safe_asm) same ∙ found_safety)
        ∙ (sym (least-append (numbers_where (breaks g false b x) g.initial_asm) (numbers_where (λ e. breaks g (waits e) b x e) g.safe_asm))
        ∙ ap (λ (c : Before). least ((if is_some c then [] else numbers_where (breaks g false b x) g.initial_asm) ++ numbers_where (λ e. breaks g (waits e) b x e) g.safe_asm)) (sym is)))

    pub first_after : is_some b ≡ true → (flags : List Bool) → flags ≡ map (λ (l : ℕ × Formula). waits l.1) g.safe_asm →
        least (numbers_false test flags g.safe_asm) ≡ least (broken_by g b x)
    first_after is flags same =
        ap least (ap (λ fs. numbers_false test fs g.safe_asm) same ∙ found_safety)
        ∙ ap (λ c. least ((if c then [] else numbers_where (breaks g false b x) g.initial_asm) ++ numbers_where (λ e. breaks g (waits e) b x e) g.safe_asm)) (sym is)
