-- What the searches for first moves ask for and fix, and what they find.
use Rattle.std.proofs.Common.{◌≡◌, ℕ, ◌+◌, ◌≤◌, Bool, true, false, not, ◌&&◌, List, [], ◌∷◌, ◌++◌, length, map, take, find, Option, Some, None, refl, sym, ◌∙◌, ap, subst, arith}
use Rattle.std.proofs.lemmas.Bool.{and_parts, and_from, false≢true}
use Rattle.std.proofs.lemmas.List.Elements.{All-nil, All-cons, All-append, All-from_get_or}
use Rattle.std.proofs.Math.Seq.{take-append_seam}
use Rattle.std.specs.List.{All}
use Rattle.spec_model.specs.declared.value.Value.{Value}
use Rattle.spec_model.specs.Values.{DomainData}
use Rattle.spec_model.specs.Diagrams.{Bits, Function}
use Rattle.spec_model.specs.Moves.{is_env, domains_of}
use Rattle.spec_model.specs.Games.{GameData, listed, inputs_of, outputs_of}
use Rattle.spec_model.specs.Steps.{Before, is_input}
use Rattle.spec_model.specs.Sets.{StateSet}
use Rattle.regions.specs.declared.types.When.{When}
use Rattle.regions.specs.declared.types.When.TheVariants.{First, Later}
use Rattle.regions.specs.Kept.{Kept, Stays, Outputs as OutputMoves, Inputs as InputMoves}
use Rattle.regions.specs.Rules.{AreBefore, outputs_into, inputs_into}
use Rattle.game_values.specs.declared.seen.At.TheVariants.{Now, Next}
use Rattle.bdd_store.specs.State.{IsRoot}
use Rattle.bdd_ops.specs.Paths.{Agrees, IsFirst, HasNone}
use Rattle.bdd_bits.specs.Contents.{Contents, function_at}
use Rattle.bdd_bits.specs.Paths.{all_of}
use Rattle.bit_compile.specs.Domains.{table_domain, state_domains, level_count}
use Rattle.bit_compile.proofs.LawLemmas.{state_listed}
use Rattle.bdd_sets.specs.declared.moves.Members.{Members}
use Rattle.bdd_sets.specs.declared.moves.NextLevels.{NextLevels}
use Rattle.bdd_sets.specs.StateBits.{TellsStates, set_at}
use Rattle.bdd_sets.specs.ToldMoves.{HasBefore, TellsMoves, some_leads}
use Rattle.bdd_sets.specs.Members.{AreRoots, AreMembers, all_true, functions_at, move_functions}
use Rattle.bdd_sets.specs.MoveFunctions.{MoveFunctions}
use Rattle.bdd_products.specs.declared.early.Early.{Early}
use Rattle.bdd_products.specs.Early.{IsEarly, FitsEarly, AreRootsOfEarly}
use Rattle.bdd_search.specs.Parts.{AreOf, ArePart, HaveValues, AreFixed}
use Rattle.bdd_search.proofs.PartLemmas.{whole_of, whole_have, have_whole, agrees_have, part_assignment, assignment_part}
use Rattle.region_bdd.specs.declared.slots.Content.{Content}
use Rattle.region_bdd.specs.declared.slots.Content.TheVariants.{Region, Outputs, Inputs}
use Rattle.region_bdd.specs.declared.slots.Slot.{Slot}
use Rattle.region_bdd.specs.declared.slots.Slot.TheVariants.{Taken}
use Rattle.region_bdd.specs.declared.slots.BddMove.{BddMove}
use Rattle.region_bdd.specs.declared.own.Own.{Own}
use Rattle.region_bdd.specs.declared.own.Refused.{Refused}
use Rattle.region_bdd.specs.Slots.{Nothing, shown_in, shown_of, shown_meaning, HasContent}
use Rattle.region_bdd.specs.Leading.{members_at}
use Rattle.region_bdd.specs.Finding.{outputs_asked, products_asked, sought, outputs_sought, inputs_asked, AreStateAt, HaveState, AreStateFixed, IsMoveFixed}
use Rattle.region_bdd.specs.Object.{FitsOwnEarly, IsObject, kept_of}
use Rattle.region_bdd.proofs.SlotLaws.{map-get, get_here}
use Rattle.region_bdd.proofs.AlikeLaws.{has_moves}
use Rattle.region_bdd.proofs.LeadingLaws.{members_fit}
use Rattle.region_bdd.proofs.FindLaws.{FindsOutput, FindsInput, output_found, no_output, no_output_after, input_found, no_input, tables_long}

-- what is not changed stays
pub stays_itself : {R M : Type 0} (k : Kept R M) → Stays k k
stays_itself k = record { held = λ w. omega arith; jam = refl }

-- what was written over a whole buffer
pub written : {X : Type 0} (len : ℕ) (new old : List X) → len ≡ length new → take len (new ++ old) ≡ new
written len new old whole = ap (λ (n : ℕ). take n (new ++ old)) whole ∙ take-append_seam new old

-- ---- what is asked

module _ (c : Contents) where
  all-append : (xs ys : List ℕ) (s : Bits) → all_of c (xs ++ ys) s ≡ (all_of c xs s && all_of c ys s)
  all-append [] ys s = refl
  all-append (x ∷ xs) ys s = ap (λ b. function_at c x s && b) (all-append xs ys s) ∙ grouped (function_at c x s) (all_of c xs s) (all_of c ys s)
    where
      grouped : (p q r : Bool) → (p && (q && r)) ≡ ((p && q) && r)
      grouped true q r = refl
      grouped false q r = refl

  all-true : (xs : List ℕ) (s : Bits) → all_of c xs s ≡ all_true (functions_at c xs) s
  all-true [] s = refl
  all-true (x ∷ xs) s = ap (λ b. function_at c x s && b) (all-true xs s)

  alone : (x : ℕ) (s : Bits) → all_of c (x ∷ []) s ≡ function_at c x s
  alone x s = at (function_at c x s)
    where
      at : (p : Bool) → (p && true) ≡ p
      at true = refl
      at false = refl

  outputs_are : (m : Members) (t : ℕ) (s : Bits) → all_of c (outputs_asked m t) s ≡ (((all_true (functions_at c m.inputs.items) s && all_true (functions_at c m.outputs.items) s) && all_true (functions_at c m.update.items) s) && function_at c t s)
  outputs_are m t s =
      let lines = (m.inputs.items ++ m.outputs.items) ++ m.update.items in
      all-append lines (t ∷ []) s
      ∙ (ap (λ b. all_of c lines s && b) (alone t s)
      ∙ ap (λ b. b && function_at c t s)
      (all-append (m.inputs.items ++ m.outputs.items) m.update.items s
      ∙ (ap (λ b. all_of c (m.inputs.items ++ m.outputs.items) s && b) (all-true m.update.items s)
      ∙ ap (λ b. b && all_true (functions_at c m.update.items) s)
      (all-append m.inputs.items m.outputs.items s
      ∙ (ap (λ b. all_of c m.inputs.items s && b) (all-true m.outputs.items s) ∙ ap (λ b. b && all_true (functions_at c m.outputs.items) s) (all-true m.inputs.items s))))))

  outputs_parts : (m : Members) (t : ℕ) (s : Bits) → all_of c (outputs_asked m t) s ≡ true → ((move_functions c m).inputs s ≡ true) × ((move_functions c m).outputs s ≡ true) × ((move_functions c m).update s ≡ true) × (function_at c t s ≡ true)
  outputs_parts m t s e =
      let last = and_parts _ (function_at c t s) (sym (outputs_are m t s) ∙ e) in
      let third = and_parts _ (all_true (functions_at c m.update.items) s) last.0 in
      let two = and_parts (all_true (functions_at c m.inputs.items) s) (all_true (functions_at c m.outputs.items) s) third.0 in
      (two.0, two.1, third.1, last.1)

  parts_outputs : (m : Members) (t : ℕ) (s : Bits) → (move_functions c m).inputs s ≡ true → (move_functions c m).outputs s ≡ true → (move_functions c m).update s ≡ true → function_at c t s ≡ true → all_of c (outputs_asked m t) s ≡ true
  parts_outputs m t s i o u e = outputs_are m t s ∙ and_from _ _ (and_from _ _ (and_from _ _ i o) u) e

  inputs_are : (m : Members) (t : ℕ) (s : Bits) → all_of c (inputs_asked m t) s ≡ (all_true (functions_at c m.inputs.items) s && function_at c t s)
  inputs_are m t s =
      all-append m.inputs.items (t ∷ []) s
      ∙ (ap (λ b. all_of c m.inputs.items s && b) (alone t s) ∙ ap (λ b. b && function_at c t s) (all-true m.inputs.items s))

  inputs_parts : (m : Members) (t : ℕ) (s : Bits) → all_of c (inputs_asked m t) s ≡ true → ((move_functions c m).inputs s ≡ true) × (function_at c t s ≡ true)
  inputs_parts m t s e = and_parts (all_true (functions_at c m.inputs.items) s) (function_at c t s) (sym (inputs_are m t s) ∙ e)

  parts_inputs : (m : Members) (t : ℕ) (s : Bits) → (move_functions c m).inputs s ≡ true → function_at c t s ≡ true → all_of c (inputs_asked m t) s ≡ true
  parts_inputs m t s i e = inputs_are m t s ∙ and_from _ _ i e

  -- each of them is kept
  pub all_roots : (roots : List ℕ) → AreRoots c roots → All (λ n. IsRoot c.state n) roots
  all_roots roots are = All-from_get_or (λ n. IsRoot c.state n) roots 0 are

  one_root : (n : ℕ) → IsRoot c.state n → All (λ n. IsRoot c.state n) (n ∷ [])
  one_root n root = All-cons (λ n. IsRoot c.state n) n [] root (All-nil (λ n. IsRoot c.state n))

  outputs_kept : (m : Members) (t : ℕ) → AreMembers c m → IsRoot c.state t → All (λ n. IsRoot c.state n) (outputs_asked m t)
  outputs_kept m t are root =
      All-append (λ n. IsRoot c.state n) ((m.inputs.items ++ m.outputs.items) ++ m.update.items) (t ∷ [])
      (All-append (λ n. IsRoot c.state n) (m.inputs.items ++ m.outputs.items) m.update.items
      (All-append (λ n. IsRoot c.state n) m.inputs.items m.outputs.items (all_roots m.inputs.items are.inputs) (all_roots m.outputs.items are.outputs))
      (all_roots m.update.items are.update))
      (one_root t root)

  -- ---- by products

  products_are : (e : Early) (t : ℕ) (s : Bits) → all_of c (products_asked e t) s ≡ ((all_true (functions_at c e.inputs.lines.items) s && all_true (functions_at c e.replies.lines.items) s) && function_at c t s)
  products_are e t s =
      let lines = e.inputs.lines.items ++ e.replies.lines.items in
      all-append lines (t ∷ []) s
      ∙ (ap (λ b. all_of c lines s && b) (alone t s)
      ∙ ap (λ b. b && function_at c t s)
      (all-append e.inputs.lines.items e.replies.lines.items s
      ∙ (ap (λ b. all_of c e.inputs.lines.items s && b) (all-true e.replies.lines.items s) ∙ ap (λ b. b && all_true (functions_at c e.replies.lines.items) s) (all-true e.inputs.lines.items s))))

  -- what is asked by products is what is asked by members
  module _ (m : MoveFunctions) (lists : NextLevels) (e : Early) (early : IsEarly m lists c e) where
    products_parts : (t : ℕ) (s : Bits) → all_of c (products_asked e t) s ≡ true → (m.inputs s ≡ true) × (m.outputs s ≡ true) × (m.update s ≡ true) × (function_at c t s ≡ true)
    products_parts t s is =
        let last = and_parts _ (function_at c t s) (sym (products_are e t s) ∙ is) in
        let two = and_parts (all_true (functions_at c e.inputs.lines.items) s) (all_true (functions_at c e.replies.lines.items) s) last.0 in
        let replies : (m.outputs s && m.update s) ≡ true = sym (ap (λ (f : Function). f s) early.replies.conjunction) ∙ two.1 in
        let both = and_parts (m.outputs s) (m.update s) replies in
        (sym (ap (λ (f : Function). f s) early.inputs.conjunction) ∙ two.0, both.0, both.1, last.1)

    parts_products : (t : ℕ) (s : Bits) → m.inputs s ≡ true → m.outputs s ≡ true → m.update s ≡ true → function_at c t s ≡ true → all_of c (products_asked e t) s ≡ true
    parts_products t s i o u is =
        let replies : (m.outputs s && m.update s) ≡ true = and_from _ _ o u in
        products_are e t s ∙ and_from _ _ (and_from _ _ (ap (λ (f : Function). f s) early.inputs.conjunction ∙ i) (ap (λ (f : Function). f s) early.replies.conjunction ∙ replies)) is

  module _ (lists : NextLevels) where
    sought_parts : (m : Members) (when : When) (e : Option Early) → (when ≡ Later → FitsEarly (move_functions c m) lists c e) → (t : ℕ) (s : Bits) → all_of c (sought m when e t) s ≡ true → ((move_functions c m).inputs s ≡ true) × ((move_functions c m).outputs s ≡ true) × ((move_functions c m).update s ≡ true) × (function_at c t s ≡ true)
    sought_parts m First e fits t s is = outputs_parts m t s is
    sought_parts m Later None fits t s is = outputs_parts m t s is
    sought_parts m Later (Some e) fits t s is = products_parts (move_functions c m) lists e (fits refl) t s is

    parts_sought : (m : Members) (when : When) (e : Option Early) → (when ≡ Later → FitsEarly (move_functions c m) lists c e) → (t : ℕ) (s : Bits) → (move_functions c m).inputs s ≡ true → (move_functions c m).outputs s ≡ true → (move_functions c m).update s ≡ true → function_at c t s ≡ true → all_of c (sought m when e t) s ≡ true
    parts_sought m First e fits t s i o u is = parts_outputs m t s i o u is
    parts_sought m Later None fits t s i o u is = parts_outputs m t s i o u is
    parts_sought m Later (Some e) fits t s i o u is = parts_products (move_functions c m) lists e (fits refl) t s i o u is

  -- the products are of the lines of later moves
  pub own_early : (own : Own) (lists : NextLevels) (when : When) → FitsOwnEarly lists c own → when ≡ Later → FitsEarly (move_functions c (members_at own when)) lists c own.early
  own_early own lists First fits is = absurd (cc (is))
  own_early own lists Later fits is = fits

  pub sought_kept : (own : Own) (when : When) (t : ℕ) → AreMembers c (members_at own when) → AreRootsOfEarly c own.early → IsRoot c.state t → All (λ n. IsRoot c.state n) (outputs_sought own when t)
  sought_kept own when t are early root = at when own.early early
    where
      at : (w : When) (e : Option Early) → AreRootsOfEarly c e → All (λ n. IsRoot c.state n) (sought (members_at own when) w e t)
      at First e early = outputs_kept (members_at own when) t are root
      at Later None early = outputs_kept (members_at own when) t are root
      at Later (Some e) early =
          All-append (λ n. IsRoot c.state n) (e.inputs.lines.items ++ e.replies.lines.items) (t ∷ [])
          (All-append (λ n. IsRoot c.state n) e.inputs.lines.items e.replies.lines.items (all_roots e.inputs.lines.items early.inputs) (all_roots e.replies.lines.items early.replies))
          (one_root t root)

  pub inputs_kept : (m : Members) (t : ℕ) → AreMembers c m → IsRoot c.state t → All (λ n. IsRoot c.state n) (inputs_asked m t)
  inputs_kept m t are root = All-append (λ n. IsRoot c.state n) m.inputs.items (t ∷ []) (all_roots m.inputs.items are.inputs) (one_root t root)

-- ---- what is fixed

pub state_still : (ds : List DomainData) (when : When) (state : List Value) (old new : List (Option Bool)) → AreStateAt ds when state → ((vs : List Value) → length vs ≤ length ds → AreFixed ds Now 0 vs old → AreFixed ds Now 0 vs new) → AreStateFixed ds when state old → AreStateFixed ds when state new
state_still ds First state old new are keeps fixed = tt
state_still ds Later state old new are keeps fixed = let count = are.0 in keeps state (omega (arith, count)) fixed

pub state_have : (ds : List DomainData) (when : When) (state : List Value) (fixed : List (Option Bool)) → AreStateFixed ds when state fixed → (s : Bits) → Agrees fixed 0 s → HaveState ds when state s
state_have ds First state fixed fixes s agrees = tt
state_have ds Later state fixed fixes s agrees = agrees_have ds Now 0 state fixed fixes s agrees

module _ (g : GameData) where
  pub are_state : (when : When) (b : Before) (state : List Value) → AreBefore g when b state → AreStateAt (state_domains g) when state
  are_state First b state are = tt
  are_state Later None state are = absurd (false≢true are.time)
  are_state Later (Some s) state are = subst (λ (vs : List Value). ArePart (state_domains g) 0 (length (state_domains g)) vs) are.listed (whole_of (state_domains g) (listed s) (state_listed g s are.time))

  pub have_before : (when : When) (b : Before) (state : List Value) → AreBefore g when b state → (s : Bits) → HaveState (state_domains g) when state s → HasBefore g b s
  have_before when None state are s have = tt
  have_before First (Some t) state are s have = absurd (false≢true are.time)
  have_before Later (Some t) state are s have =
      let count = (whole_of (state_domains g) (listed t) (state_listed g t are.time)).0 in
      have_whole (state_domains g) Now (listed t) s (omega (arith, count)) (subst (λ (vs : List Value). HaveValues (state_domains g) Now 0 vs s) (sym are.listed) have)

  pub before_have : (when : When) (b : Before) (state : List Value) → AreBefore g when b state → (s : Bits) → HasBefore g b s → HaveState (state_domains g) when state s
  before_have First b state are s has = tt
  before_have Later None state are s has = absurd (false≢true are.time)
  before_have Later (Some t) state are s has =
      let count = (whole_of (state_domains g) (listed t) (state_listed g t are.time)).0 in
      subst (λ (vs : List Value). HaveValues (state_domains g) Now 0 vs s) are.listed (whole_have (state_domains g) Now (listed t) s (omega (arith, count)) has)

  abbrev ins : List DomainData
  ins = domains_of is_env g.variables

  abbrev outs : List DomainData
  outs = domains_of (λ o. not (is_env o)) g.variables

  input_fits : (x : List Value) → ArePart (state_domains g) (length g.hidden) (length g.hidden + length ins) x → is_input g x ≡ true
  input_fits x part = part_assignment (map table_domain g.hidden) ins outs (length g.hidden) (length g.hidden + length ins) (tables_long g) refl x part

  input_unfit : (x : List Value) → (ArePart (state_domains g) (length g.hidden) (length g.hidden + length ins) x → ⊥) → is_input g x ≡ false
  input_unfit x unfit = at (is_input g x) refl
    where
      at : (p : Bool) → is_input g x ≡ p → is_input g x ≡ false
      at false e = e
      at true e = absurd (unfit (assignment_part (map table_domain g.hidden) ins outs (length g.hidden) (length g.hidden + length ins) (tables_long g) refl x e))

-- ---- what is found

module _ (g : GameData) (own : Own) (lists : NextLevels) (c : Contents) (slots : List Slot) (refused : Option Refused) (object : IsObject g c own lists slots refused) (when : When) (b : Before) (state : List Value) (are : AreBefore g when b state) where
  module _ (root : ℕ) (states : TellsStates g Next (function_at c root)) (x : List Value) where
    -- after what is no input there is no output
    pub out_none : ((AreStateAt (state_domains g) when state × ArePart (state_domains g) (length g.hidden) (length g.hidden + length (ins g)) x) → ⊥) → find (outputs_into g when (set_at g Next (function_at c root)) b x) (outputs_of g) ≡ None
    out_none none =
        no_output_after g when (move_functions c (members_at own when)) (has_moves g object.made) (members_fit g own lists c slots refused object when) lists.all.items object.lists_are.all b are.time x (set_at g Next (function_at c root))
        (input_unfit g x (λ part. none (are_state g when b state are, part)))

    module _ (part : ArePart (state_domains g) (length g.hidden) (length g.hidden + length (ins g)) x) (fixed : List (Option Bool)) (fixes : IsMoveFixed (state_domains g) when state (length g.hidden) x fixed) where
      pub out_found : (s : Bits) → IsFirst fixed (all_of c (outputs_sought own when root)) 0 (level_count (state_domains g)) s → FindsOutput g (outputs_into g when (set_at g Next (function_at c root)) b x) s
      out_found s first =
          output_found g when (move_functions c (members_at own when)) (has_moves g object.made) (members_fit g own lists c slots refused object when) lists.all.items object.lists_are.all b are.time x (input_fits g x part) (function_at c root) states (all_of c (outputs_sought own when root))
          (sought_parts c lists (members_at own when) when own.early (own_early c own lists when object.early) root) (parts_sought c lists (members_at own when) when own.early (own_early c own lists when object.early) root) fixed
          (λ s agrees. have_before g when b state are s (fixes.before s agrees)) fixes.next (λ s before have. fixes.allows s (before_have g when b state are s before) have) s first

      pub out_nothing : HasNone fixed (all_of c (outputs_sought own when root)) 0 → find (outputs_into g when (set_at g Next (function_at c root)) b x) (outputs_of g) ≡ None
      out_nothing none =
          no_output g when (move_functions c (members_at own when)) (has_moves g object.made) (members_fit g own lists c slots refused object when) lists.all.items object.lists_are.all b are.time x (input_fits g x part) (function_at c root) states (all_of c (outputs_sought own when root))
          (sought_parts c lists (members_at own when) when own.early (own_early c own lists when object.early) root) (parts_sought c lists (members_at own when) when own.early (own_early c own lists when object.early) root) fixed
          (λ s agrees. have_before g when b state are s (fixes.before s agrees)) fixes.next (λ s before have. fixes.allows s (before_have g when b state are s before) have) none

  module _ (t : StateSet) (leads : ℕ) (told : TellsMoves g when (function_at c leads) (λ b s. not (some_leads g (λ u. not (t u)) b s.position.input))) (fixed : List (Option Bool)) (fixes : AreStateFixed (state_domains g) when state fixed) (allows : (s : Bits) → HaveState (state_domains g) when state s → Agrees fixed 0 s) where
    pub in_found : (s : Bits) → IsFirst fixed (all_of c (inputs_asked (members_at own when) leads)) 0 (level_count (state_domains g)) s → FindsInput g (inputs_into g when t b) s
    in_found s first =
        input_found g when (move_functions c (members_at own when)) (has_moves g object.made) (members_fit g own lists c slots refused object when) lists.all.items object.lists_are.all b are.time t (function_at c leads) told (all_of c (inputs_asked (members_at own when) leads))
        (inputs_parts c (members_at own when) leads) (parts_inputs c (members_at own when) leads) fixed
        (λ s agrees. have_before g when b state are s (state_have (state_domains g) when state fixed fixes s agrees)) (λ s before. allows s (before_have g when b state are s before)) s first

    pub in_nothing : HasNone fixed (all_of c (inputs_asked (members_at own when) leads)) 0 → find (inputs_into g when t b) (inputs_of g) ≡ None
    in_nothing none =
        no_input g when (move_functions c (members_at own when)) (has_moves g object.made) (members_fit g own lists c slots refused object when) lists.all.items object.lists_are.all b are.time t (function_at c leads) told (all_of c (inputs_asked (members_at own when) leads))
        (inputs_parts c (members_at own when) leads) (parts_inputs c (members_at own when) leads) fixed
        (λ s agrees. have_before g when b state are s (state_have (state_domains g) when state fixed fixes s agrees)) (λ s before. allows s (before_have g when b state are s before)) none

-- ---- as the calls have it: with the object's own list of domains, and its numbers of slots

module _ (g : GameData) (ds : List DomainData) (is_ds : ds ≡ state_domains g) where
  pub state_at : (when : When) (state : List Value) → AreStateAt (state_domains g) when state → AreStateAt ds when state
  state_at when state are = subst (λ (es : List DomainData). AreStateAt es when state) (sym is_ds) are

  pub state_fixed : (when : When) (state : List Value) (fixed : List (Option Bool)) → AreStateFixed ds when state fixed → AreStateFixed (state_domains g) when state fixed
  state_fixed when state fixed are = subst (λ (es : List DomainData). AreStateFixed es when state fixed) is_ds are

  pub state_allows : (when : When) (state : List Value) (fixed : List (Option Bool)) → ((s : Bits) → HaveState ds when state s → Agrees fixed 0 s) → (s : Bits) → HaveState (state_domains g) when state s → Agrees fixed 0 s
  state_allows when state fixed allows s have = allows s (subst (λ (es : List DomainData). HaveState es when state s) (sym is_ds) have)

  module _ (from end : ℕ) (is_from : from ≡ length g.hidden) (is_end : end ≡ length g.hidden + length (ins g)) where
    pub spans_part : (x : List Value) → ArePart ds from end x → ArePart (state_domains g) (length g.hidden) (length g.hidden + length (ins g)) x
    spans_part x part =
        subst (λ (e : ℕ). ArePart (state_domains g) (length g.hidden) e x) is_end
        (subst (λ (n : ℕ). ArePart (state_domains g) n end x) is_from (subst (λ (es : List DomainData). ArePart es from end x) is_ds part))

    pub part_spans : (x : List Value) → ArePart (state_domains g) (length g.hidden) (length g.hidden + length (ins g)) x → ArePart ds from end x
    part_spans x part =
        subst (λ (es : List DomainData). ArePart es from end x) (sym is_ds)
        (subst (λ (n : ℕ). ArePart (state_domains g) n end x) (sym is_from) (subst (λ (e : ℕ). ArePart (state_domains g) (length g.hidden) e x) (sym is_end) part))

    pub spans_fixed : (when : When) (state x : List Value) (fixed : List (Option Bool)) → IsMoveFixed ds when state from x fixed → IsMoveFixed (state_domains g) when state (length g.hidden) x fixed
    spans_fixed when state x fixed fixes =
        subst (λ (n : ℕ). IsMoveFixed (state_domains g) when state n x fixed) is_from (subst (λ (es : List DomainData). IsMoveFixed es when state from x fixed) is_ds fixes)

    -- what is read is the output that was found
    pub output_read : (into : List Value → Bool) (s : Bits) (old new : List Value) → FindsOutput g into s → length old ≡ length (outs g) → ((vs : List Value) → length vs ≡ length old → AreOf ds end vs → HaveValues ds Next end vs s → new ≡ vs) → find into (outputs_of g) ≡ Some new
    output_read into s old new finds long read =
        let of_slots = subst (λ (es : List DomainData). AreOf es end finds.output) (sym is_ds) (subst (λ (n : ℕ). AreOf (state_domains g) n finds.output) (sym is_end) finds.of_slots) in
        let bits = subst (λ (es : List DomainData). HaveValues es Next end finds.output s) (sym is_ds) (subst (λ (n : ℕ). HaveValues (state_domains g) Next n finds.output s) (sym is_end) finds.bits) in
        finds.found ∙ ap (λ (vs : List Value). Some vs) (sym (read finds.output (finds.long ∙ sym long) of_slots bits))

  -- the same of an input
  pub input_read : (from : ℕ) → from ≡ length g.hidden → (onto : List Value → Bool) (s : Bits) (old new : List Value) → FindsInput g onto s → length old ≡ length (ins g) → ((vs : List Value) → length vs ≡ length old → AreOf ds from vs → HaveValues ds Next from vs s → new ≡ vs) → find onto (inputs_of g) ≡ Some new
  input_read from is_from onto s old new finds long read =
      let of_slots = subst (λ (es : List DomainData). AreOf es from finds.input) (sym is_ds) (subst (λ (n : ℕ). AreOf (state_domains g) n finds.input) (sym is_from) finds.of_slots) in
      let bits = subst (λ (es : List DomainData). HaveValues es Next from finds.input s) (sym is_ds) (subst (λ (n : ℕ). HaveValues (state_domains g) Next n finds.input s) (sym is_from) finds.bits) in
      finds.found ∙ ap (λ (vs : List Value). Some vs) (sym (read finds.input (finds.long ∙ sym long) of_slots bits))

-- ---- what moves are held

-- the moves in a slot stand for what its content shows
pub moves_shown : (g : GameData) (c : Contents) (slots : List Slot) (refused : Option Refused) (m : BddMove) (content : Content) → HasContent slots m.slot content → (kept_of g c slots refused).choice m ≡ shown_meaning g (shown_in c content)
moves_shown g c slots refused m content here = ap (shown_meaning g) (get_here (map (shown_of c) slots) m.slot (shown_in c content) Nothing (map-get (shown_of c) slots m.slot (Taken content) here))

pub outputs_content : (g : GameData) (c : Contents) (content : Content) (when : When) (t : StateSet) → shown_meaning g (shown_in c content) ≡ OutputMoves when t → (w : When) × (root : ℕ) × (content ≡ Outputs w root)
outputs_content g c (Region root) when t e = absurd (cc (e))
outputs_content g c (Outputs w root) when t e = (w, root, refl)
outputs_content g c (Inputs w root leads) when t e = absurd (cc (e))

pub inputs_content : (g : GameData) (c : Contents) (content : Content) (when : When) (t : StateSet) → shown_meaning g (shown_in c content) ≡ InputMoves when t → (w : When) × (root : ℕ) × (leads : ℕ) × (content ≡ Inputs w root leads)
inputs_content g c (Region root) when t e = absurd (cc (e))
inputs_content g c (Outputs w root) when t e = absurd (cc (e))
inputs_content g c (Inputs w root leads) when t e = (w, root, leads, refl)

-- what holds of what moves stand for holds however it is told
pub of_outputs : (P : When → StateSet → Type 0) (when when' : When) (s t : StateSet) → OutputMoves when s ≡ OutputMoves when' t → P when s → P when' t
of_outputs P when when' s t e holds =
    let one : when ≡ when' = cc (e) in
    let two : s ≡ t = cc (e) in
    subst (λ (u : StateSet). P when' u) two (subst (λ (w : When). P w s) one holds)

pub of_inputs : (P : When → StateSet → Type 0) (when when' : When) (s t : StateSet) → InputMoves when s ≡ InputMoves when' t → P when s → P when' t
of_inputs P when when' s t e holds =
    let one : when ≡ when' = cc (e) in
    let two : s ≡ t = cc (e) in
    subst (λ (u : StateSet). P when' u) two (subst (λ (w : When). P w s) one holds)
