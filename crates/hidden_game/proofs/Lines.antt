-- Lines that hold one by one: what breaks none of them is what they all hold at.
use Rattle.std.proofs.Common.{◌≡◌, ℕ, Bool, true, false, not, ◌&&◌, ◌||◌, List, [], ◌∷◌, ◌++◌, Some, is_none, option_map, find, cond, if◌then◌else◌, refl, ap, ◌∙◌}
use Rattle.std.specs.List.{list_all}
use Rattle.std.proofs.lemmas.Bool.{and_parts}
use Rattle.spec_model.specs.Syntax.{Formula, Content, Initial, Safety, Recurring, PatternUse, TriggerUse, Statement, Specification}
use Rattle.hidden_game.specs.declared.player.Player.{Player}
use Rattle.hidden_game.specs.declared.player.Time.TheVariants.{First, Always}
use Rattle.hidden_game.specs.GameOf.{entered, binds, said, numbered, lines_for}

-- none passes the test exactly where each fails it
pub none_found : (test : Statement → Bool) (ls : List Statement) → is_none (option_map (λ (l : Statement). l.number) (find test ls)) ≡ list_all (λ l. not (test l)) ls
none_found test [] = refl
none_found test (l ∷ ls) = by_first (test l) refl (none_found test ls)
  where
    by_first : (b : Bool) → test l ≡ b → is_none (option_map (λ (l : Statement). l.number) (find test ls)) ≡ list_all (λ l. not (test l)) ls → is_none (option_map (λ (l : Statement). l.number) (cond (test l) (Some l) (find test ls))) ≡ (not (test l) && list_all (λ l. not (test l)) ls)
    by_first true e rest = cc
    by_first false e rest = cc

-- The lines of a player break nothing exactly where its first lines hold, unless the first move is over, and its others do:
-- of each line that is known, what the game's formula is.
module _ (s : Specification) (player : Player) (known : Content → Bool) (broken : Content → Bool) (over : Bool)
    (made_first made_always first always : Formula → Bool)
    (initial_holds : (e : Formula) → known (Initial e) ≡ true → made_first (entered s e) ≡ true → not (broken (Initial e)) ≡ (over || first (entered s e)))
    (safety_holds : (e : Formula) → known (Safety e) ≡ true → made_always (entered s e) ≡ true → not (broken (Safety e)) ≡ always (entered s e))
    (recurring_never : (e : Formula) → broken (Recurring e) ≡ false)
    (pattern_never : (p : ℕ) (es : List Formula) → broken (PatternUse p es) ≡ false)
    (trigger_never : (t : ℕ) → broken (TriggerUse t) ≡ false) where
  abbrev Each : (Formula → Bool) → List (ℕ × Formula) → Bool
  Each test ls = list_all (λ (l : ℕ × Formula). test l.1) ls

  abbrev Whole : List (ℕ × Formula) → List (ℕ × Formula) → Bool
  Whole fs ss = (over || Each first fs) && Each always ss

  -- one line more, by whether it binds the player
  one : (b : Bool) (n : ℕ) (c : Content) (fs ss : List (ℕ × Formula)) (rest : Bool) → known c ≡ true →
      Each made_first ((if b then numbered n (option_map (entered s) (said First c)) else []) ++ fs) ≡ true →
      Each made_always ((if b then numbered n (option_map (entered s) (said Always c)) else []) ++ ss) ≡ true →
      (Each made_first fs ≡ true → Each made_always ss ≡ true → rest ≡ Whole fs ss) →
      (not (b && broken c) && rest) ≡ Whole ((if b then numbered n (option_map (entered s) (said First c)) else []) ++ fs) ((if b then numbered n (option_map (entered s) (said Always c)) else []) ++ ss)
  one false n c fs ss rest is mf ma ih = ih mf ma
  one true n (Initial e) fs ss rest is mf ma ih =
      let parts = and_parts (made_first (entered s e)) (Each made_first fs) mf in
      ap (λ b. b && rest) (initial_holds e is parts.0) ∙ (ap (λ b. (over || first (entered s e)) && b) (ih parts.1 ma) ∙ weave over (first (entered s e)) (Each first fs) (Each always ss))
    where
      weave : (o a f s : Bool) → ((o || a) && ((o || f) && s)) ≡ ((o || (a && f)) && s)
      weave true a f s = refl
      weave false true f s = refl
      weave false false f s = refl
  one true n (Safety e) fs ss rest is mf ma ih =
      let parts = and_parts (made_always (entered s e)) (Each made_always ss) ma in
      ap (λ b. b && rest) (safety_holds e is parts.0) ∙ (ap (λ b. always (entered s e) && b) (ih mf parts.1) ∙ weave (always (entered s e)) (over || Each first fs) (Each always ss))
    where
      weave : (a f s : Bool) → (a && (f && s)) ≡ (f && (a && s))
      weave true f s = refl
      weave false true s = refl
      weave false false s = refl
  one true n (Recurring e) fs ss rest is mf ma ih = ap (λ b. not b && rest) (recurring_never e) ∙ ih mf ma
  one true n (PatternUse p es) fs ss rest is mf ma ih = ap (λ b. not b && rest) (pattern_never p es) ∙ ih mf ma
  one true n (TriggerUse t) fs ss rest is mf ma ih = ap (λ b. not b && rest) (trigger_never t) ∙ ih mf ma

  pub lines_hold : (ls : List Statement) → list_all (λ (l : Statement). known l.content) ls ≡ true → Each made_first (lines_for s player First ls) ≡ true → Each made_always (lines_for s player Always ls) ≡ true →
      list_all (λ (l : Statement). not (binds player l.role && broken l.content)) ls ≡ Whole (lines_for s player First ls) (lines_for s player Always ls)
  lines_hold [] is mf ma = both_true over
    where
      both_true : (o : Bool) → true ≡ ((o || true) && true)
      both_true true = refl
      both_true false = refl
  lines_hold (l ∷ ls) is mf ma =
      let parts = and_parts (known l.content) (list_all (λ (l : Statement). known l.content) ls) is in
      one (binds player l.role) l.number l.content (lines_for s player First ls) (lines_for s player Always ls) (list_all (λ (l : Statement). not (binds player l.role && broken l.content)) ls) parts.0 mf ma (lines_hold ls parts.1)
