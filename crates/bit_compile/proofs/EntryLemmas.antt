-- The entries of one hidden table among those of all, and the functions of cases.
use Rattle.std.proofs.Common.{◌≡◌, ℕ, zero, suc, ◌+◌, ◌<◌, ◌≤◌, Bool, List, [], ◌∷◌, ◌++◌, map, length, length-append, take, get_or, refl, sym, ◌∙◌, ap, arith}
use Rattle.std.proofs.lemmas.List.{length-map}
use Rattle.spec_model.specs.declared.game.Hidden.{Hidden}
use Rattle.spec_model.specs.Syntax.{Formula, formulas}
use Rattle.spec_model.specs.GameViews.{hidden_data}
use Rattle.spec_model.specs.Games.{GameData}
use Rattle.spec_model.specs.Diagrams.{Function}
use Rattle.game_values.specs.declared.seen.At.{At}
use Rattle.game_values.specs.declared.seen.At.TheVariants.{Now}
use Rattle.bdd_bits.specs.Contents.{Contents, function_at}
use Rattle.bit_compile.specs.declared.cases.CaseRoot.{CaseRoot}
use Rattle.bit_compile.specs.Domains.{state_domains}
use Rattle.bit_compile.specs.Compiled.{Case, Entries, entries_after, entries_of, entry_of, never, table_entries, table_truth, table_update, truth_in, truths_in, updates_after}
use Rattle.bit_compile.specs.CaseRoots.{cases_at, true_cases}
use Rattle.bit_compile.proofs.Places.{get-after, get-before}

-- ---- places past the end

pub get-past : {X : Type 0} (xs : List X) (k : ℕ) (d : X) → length xs ≤ k → get_or xs k d ≡ d
get-past [] zero d h = refl
get-past [] (suc k) d h = refl
get-past (x ∷ xs) zero d h = absurd (omega arith)
get-past (x ∷ xs) (suc k) d h = get-past xs k d (omega arith)

pub get-mapped : {X Y : Type 0} (f : X → Y) (xs : List X) (k : ℕ) (d : X) → get_or (map f xs) k (f d) ≡ f (get_or xs k d)
get-mapped f [] zero d = refl
get-mapped f [] (suc k) d = refl
get-mapped f (x ∷ xs) zero d = refl
get-mapped f (x ∷ xs) (suc k) d = get-mapped f xs k d

-- ---- the entries of tables

module _ (g : GameData) where
  abbrev one_table : Entries → Hidden → Entries
  one_table es x = es ++ table_entries g es (hidden_data x) ∷ []

  longer : (es : Entries) (x : Hidden) → length (one_table es x) ≡ suc (length es)
  longer es x = length-append es (table_entries g es (hidden_data x) ∷ []) ∙ omega arith

  pub entries_long : (es : Entries) (hs : List Hidden) → length (entries_after g es (map hidden_data hs)) ≡ length es + length hs
  entries_long es [] = omega arith
  entries_long es (x ∷ hs) = let rest = entries_long (one_table es x) hs in let more = longer es x in omega (arith, rest, more)

  entry_kept : (es : Entries) (hs : List Hidden) (k : ℕ) → k < length es → get_or (entries_after g es (map hidden_data hs)) k [] ≡ get_or es k []
  entry_kept es [] k h = refl
  entry_kept es (x ∷ hs) k h =
      let more = longer es x in
      entry_kept (one_table es x) hs k (omega (arith, more, h)) ∙ get-before es (table_entries g es (hidden_data x) ∷ []) k [] h

  entry_at : (es : Entries) (hs : List Hidden) (k j : ℕ) (x : Hidden) → k < length hs → x ≡ get_or hs k x → j ≡ length es + k →
      get_or (entries_after g es (map hidden_data hs)) j [] ≡ table_entries g (entries_after g es (map hidden_data (take k hs))) (hidden_data x)
  entry_at es [] k j x h e there = absurd (omega arith)
  entry_at es (y ∷ hs) zero j x h e there =
      let more = longer es y in
      entry_kept (one_table es y) hs j (omega (arith, more, there))
      ∙ (get-after es (table_entries g es (hidden_data y) ∷ []) j 0 [] there ∙ ap (λ (z : Hidden). table_entries g es (hidden_data z)) (sym e))
  entry_at es (y ∷ hs) (suc k) j x h e there = let more = longer es y in entry_at (one_table es y) hs k j x (omega arith) e (omega (arith, more, there))

  tables-get : (f : List Bool → Function) (ts : List (List Bool)) (n : ℕ) (t d : List Bool) → n < length ts → t ≡ get_or ts n d → get_or (map f ts) n never ≡ f t
  tables-get f [] n t d h e = absurd (omega arith)
  tables-get f (u ∷ ts) zero t d h e = ap f (sym e)
  tables-get f (u ∷ ts) (suc n) t d h e = tables-get f ts n t d (omega arith) e

  take-long : (hs : List Hidden) (k : ℕ) → k < length hs → length (take k hs) ≡ k
  take-long [] k h = absurd (omega arith)
  take-long (y ∷ hs) zero h = refl
  take-long (y ∷ hs) (suc k) h = ap suc (take-long hs k (omega arith))

  -- an entry that is there
  pub entry_there : (hs : List Hidden) (k n : ℕ) (x : Hidden) (t d : List Bool) → k < length hs → x ≡ get_or hs k x → n < length (hidden_data x).tables → t ≡ get_or (hidden_data x).tables n d →
      entry_of (entries_of g (map hidden_data hs)) k n ≡ table_truth (state_domains g) k (hidden_data x) (map (truth_in g (entries_of g (map hidden_data (take k hs))) Now) (hidden_data x).atoms) t
  entry_there hs k n x t d h e there is =
      let before : Entries = entries_of g (map hidden_data (take k hs)) in
      let long = entries_long [] (take k hs) in
      let short = take-long hs k h in
      let place : length before ≡ k = omega (arith, long, short) in
      ap (λ (fs : List Function). get_or fs n never) (entry_at [] hs k k x h e (omega arith))
      ∙ (tables-get (table_truth (state_domains g) (length before) (hidden_data x) (map (truth_in g before Now) (hidden_data x).atoms)) (hidden_data x).tables n t d there is
      ∙ ap (λ i. table_truth (state_domains g) i (hidden_data x) (map (truth_in g before Now) (hidden_data x).atoms) t) place)

  -- a table that is not there has no entries
  pub no_table : (hs : List Hidden) (k n : ℕ) → length hs ≤ k → entry_of (entries_of g (map hidden_data hs)) k n ≡ never
  no_table hs k n h = ap (λ (fs : List Function). get_or fs n never) (get-past (entries_of g (map hidden_data hs)) k [] (let long = entries_long [] hs in omega (arith, long, h)))

  -- nor has a table one past its last
  pub no_entry : (hs : List Hidden) (k n : ℕ) (x : Hidden) → k < length hs → x ≡ get_or hs k x → length (hidden_data x).tables ≤ n → entry_of (entries_of g (map hidden_data hs)) k n ≡ never
  no_entry hs k n x h e past =
      let before : Entries = entries_of g (map hidden_data (take k hs)) in
      let f = table_truth (state_domains g) (length before) (hidden_data x) (map (truth_in g before Now) (hidden_data x).atoms) in
      ap (λ (fs : List Function). get_or fs n never) (entry_at [] hs k k x h e (omega arith))
      ∙ get-past (map f (hidden_data x).tables) n never (let long = length-map (hidden_data x).tables f in omega (arith, long, past))

  update_at : (es : Entries) (hs : List Hidden) (k j : ℕ) (x : Hidden) → k < length hs → x ≡ get_or hs k x → j ≡ length es + k →
      get_or (updates_after g es (map hidden_data hs)) k never ≡ table_update (state_domains g) j (hidden_data x) (map (truth_in g (entries_after g es (map hidden_data (take k hs))) Now) (hidden_data x).atoms)
  update_at es [] k j x h e there = absurd (omega arith)
  update_at es (y ∷ hs) zero j x h e there =
      let same : length es ≡ j = omega (arith, there) in
      ap (λ (z : Hidden). table_update (state_domains g) (length es) (hidden_data z) (map (truth_in g es Now) (hidden_data z).atoms)) (sym e)
      ∙ ap (λ i. table_update (state_domains g) i (hidden_data x) (map (truth_in g es Now) (hidden_data x).atoms)) same
  update_at es (y ∷ hs) (suc k) j x h e there = let more = longer es y in update_at (one_table es y) hs k j x (omega arith) e (omega (arith, more, there))

  -- the update of a table that is there
  pub update_there : (hs : List Hidden) (k : ℕ) (x : Hidden) → k < length hs → x ≡ get_or hs k x →
      get_or (updates_after g [] (map hidden_data hs)) k never ≡ table_update (state_domains g) k (hidden_data x) (map (truth_in g (entries_of g (map hidden_data (take k hs))) Now) (hidden_data x).atoms)
  update_there hs k x h e = update_at [] hs k k x h e (omega arith)

  pub truths-listed : (entries : Entries) (at : At) (es : List Formula) → truths_in g entries at (formulas es) ≡ map (truth_in g entries at) es
  truths-listed entries at [] = refl
  truths-listed entries at (e ∷ es) = ap (λ (fs : List Function). truth_in g entries at e ∷ fs) (truths-listed entries at es)

-- ---- the functions of cases

pub holds_at_roots : (c : Contents) (xs : List CaseRoot) → map (λ (d : Case). d.holds) (cases_at c xs) ≡ map (λ (x : CaseRoot). function_at c x.root) xs
holds_at_roots c [] = refl
holds_at_roots c (x ∷ xs) = ap (λ (fs : List Function). function_at c x.root ∷ fs) (holds_at_roots c xs)

holds-true : (fs : List Function) → map (λ (d : Case). d.holds) (true_cases fs) ≡ fs
holds-true [] = refl
holds-true (f ∷ fs) = ap (λ (gs : List Function). f ∷ gs) (holds-true fs)

-- the functions of roots that are the cases of true
pub functions_of : (c : Contents) (xs : List CaseRoot) (fs : List Function) → cases_at c xs ≡ true_cases fs → map (λ (x : CaseRoot). function_at c x.root) xs ≡ fs
functions_of c xs fs is = sym (holds_at_roots c xs) ∙ (ap (map (λ (d : Case). d.holds)) is ∙ holds-true fs)
