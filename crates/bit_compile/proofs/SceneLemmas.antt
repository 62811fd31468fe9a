-- What may be read before a hidden table, and what that table's entries are.
use Rattle.std.proofs.Common.{◌≡◌, ℕ, zero, suc, ◌<◌, ◌≤◌, Bool, true, not, List, [], ◌∷◌, ◌++◌, map, length, length-append, take, get_or, refl, sym, ◌∙◌, ap, subst, arith}
use Rattle.std.specs.List.{list_all, AllByRecursion}
use Rattle.std.proofs.lemmas.List.{length-map}
use Rattle.spec_model.specs.declared.game.Hidden.{Hidden}
use Rattle.spec_model.specs.Values.{DomainData}
use Rattle.spec_model.specs.Views.{formula}
use Rattle.spec_model.specs.Moves.{is_env, domains_of}
use Rattle.spec_model.specs.WellMade.{WellMade, is_domain}
use Rattle.spec_model.specs.GameViews.{hidden_data}
use Rattle.spec_model.specs.Games.{GameData}
use Rattle.spec_model.specs.Diagrams.{Function}
use Rattle.game_values.specs.Safety.{formulas_in}
use Rattle.game_values.specs.declared.seen.At.TheVariants.{Now}
use Rattle.bdd_bits.specs.Contents.{Contents, function_at}
use Rattle.bit_compile.specs.declared.cases.CaseRoot.{CaseRoot}
use Rattle.bit_compile.specs.declared.scenes.Scene.{Scene}
use Rattle.bit_compile.specs.Domains.{state_domains, table_domain}
use Rattle.bit_compile.specs.Known.{IsReadable}
use Rattle.bit_compile.specs.Compiled.{entries_of, entry_of, never, table_truth, table_update, truth_in, truths_in, updates_after, updates_of}
use Rattle.bit_compile.specs.CaseRoots.{cases_at, true_cases}
use Rattle.bit_compile.specs.Scenes.{IsScene, codes_seen, entries_seen, game_seen}
use Rattle.bit_compile.proofs.Knowing.{domains_made, readable_before, tables_readable}
use Rattle.bit_compile.proofs.EntryLemmas.{entry_there, functions_of, truths-listed, update_there}

length-take : {X : Type 0} (xs : List X) (k : ℕ) → length (take k xs) ≤ length xs
length-take [] zero = omega arith
length-take [] (suc k) = omega arith
length-take (x ∷ xs) zero = omega arith
length-take (x ∷ xs) (suc k) = let rest = length-take xs k in omega (arith, rest)

-- all tables of a well-made game may be read
pub whole_scene : (s : Scene) → WellMade (game_seen s) → codes_seen s ≡ state_domains (game_seen s) → s.hidden.now ≡ s.game.now.hidden.items → IsScene s
whole_scene s made codes all =
    let g = game_seen s in
    let hs = s.game.now.hidden.items in
    let long = length-map hs hidden_data in
    let same = ap length all in
    record {
      codes = codes;
      domains = made.domains;
      few = made.few_variables;
      within = omega (arith, long, same);
      tables = subst (λ (ts : List Hidden). AllByRecursion (IsReadable g) ts) (sym all) (tables_readable g (record { domains = map (λ v. v.domain) g.variables; tables = [] }) refl (domains_made g.variables made.domains) hs made.hidden);
    }

-- what may be read before a table is a part of what may be read
pub scene_before : (s b : Scene) (k : ℕ) → IsScene s → codes_seen b ≡ codes_seen s → game_seen b ≡ game_seen s → b.hidden.now ≡ take k s.hidden.now → IsScene b
scene_before s b k is codes game hidden =
    record {
      codes = codes ∙ (is.codes ∙ ap state_domains (sym game));
      domains = subst (λ (g : GameData). list_all (λ v. is_domain v.domain) g.variables ≡ true) (sym game) is.domains;
      few = subst (λ (g : GameData). length g.variables ≤ 1024) (sym game) is.few;
      within = (let part = length-take s.hidden.now k in let same = ap length hidden in let all = ap (λ (g : GameData). length g.hidden) game in let within = is.within in omega (arith, part, same, all, within));
      tables = subst (λ (g : GameData). AllByRecursion (IsReadable g) b.hidden.now) (sym game)
          (subst (λ (hs : List Hidden). AllByRecursion (IsReadable (game_seen s)) hs) (sym hidden) (readable_before (game_seen s) s.hidden.now k is.tables));
    }

readable : (g : GameData) (hs : List Hidden) (k : ℕ) (h : Hidden) → k < length hs → h ≡ get_or hs k h → AllByRecursion (IsReadable g) hs → IsReadable g h
readable g [] k h less e all = absurd (omega arith)
readable g (x ∷ hs) zero h less e all = subst (IsReadable g) (sym e) all.0
readable g (x ∷ hs) (suc k) h less e all = readable g hs k h (omega arith) e all.1

pub readable_at : (s : Scene) (k : ℕ) (h : Hidden) → IsScene s → k < length s.hidden.now → h ≡ get_or s.hidden.now k h → IsReadable (game_seen s) h
readable_at s k h is less e = readable (game_seen s) s.hidden.now k h less e is.tables

-- a table has a slot
pub table_slot : (s : Scene) (k : ℕ) → IsScene s → k < length s.hidden.now → k < length (codes_seen s)
table_slot s k is less =
    let g = game_seen s in
    let codes = ap length is.codes in
    let joined = length-append (map table_domain g.hidden) (domains_of is_env g.variables ++ domains_of (λ o. not (is_env o)) g.variables) in
    let tables = length-map g.hidden table_domain in
    let within = is.within in
    omega (arith, codes, joined, tables, within, less)

module _ (s b : Scene) (k : ℕ) (x : Hidden) (is : IsScene s) (less : k < length s.hidden.now) (here : x ≡ get_or s.hidden.now k x) (game : game_seen b ≡ game_seen s) (hidden : b.hidden.now ≡ take k s.hidden.now) where
  abbrev pub atoms_seen : List Function
  atoms_seen = truths_in (game_seen b) (entries_seen b) Now (formulas_in x.atoms.items)

  pub atoms_are : atoms_seen ≡ map (truth_in (game_seen s) (entries_of (game_seen s) (map hidden_data (take k s.hidden.now))) Now) (hidden_data x).atoms
  atoms_are =
      ap (λ (g : GameData). truths_in g (entries_of g (map hidden_data b.hidden.now)) Now (formulas_in x.atoms.items)) game
      ∙ (ap (λ (hs : List Hidden). truths_in (game_seen s) (entries_of (game_seen s) (map hidden_data hs)) Now (formulas_in x.atoms.items)) hidden
      ∙ truths-listed (game_seen s) (entries_of (game_seen s) (map hidden_data (take k s.hidden.now))) Now (map formula x.atoms.items))

  -- the roots of a table's atoms are as many as these
  pub atoms_counted : (c : Contents) (xs : List CaseRoot) → cases_at c xs ≡ true_cases atoms_seen → length xs ≡ length x.atoms.items
  atoms_counted c xs e =
      let roots = length-map xs (λ (y : CaseRoot). function_at c y.root) in
      let functions = ap length (functions_of c xs atoms_seen e) in
      let same = ap length atoms_are in
      let atoms = length-map (map formula x.atoms.items) (truth_in (game_seen s) (entries_of (game_seen s) (map hidden_data (take k s.hidden.now))) Now) in
      let each = length-map x.atoms.items formula in
      omega (arith, roots, functions, same, atoms, each)

  -- a truth table over the roots of its atoms is an entry
  pub entry_made : (c : Contents) (xs : List CaseRoot) (n : ℕ) (t d : List Bool) → cases_at c xs ≡ true_cases atoms_seen → n < length (hidden_data x).tables → t ≡ get_or (hidden_data x).tables n d →
      table_truth (codes_seen s) k (hidden_data x) (map (λ (y : CaseRoot). function_at c y.root) xs) t ≡ entry_of (entries_seen s) k n
  entry_made c xs n t d e there at =
      ap (λ (ds : List DomainData). table_truth ds k (hidden_data x) (map (λ (y : CaseRoot). function_at c y.root) xs) t) is.codes
      ∙ (ap (λ (fs : List Function). table_truth (state_domains (game_seen s)) k (hidden_data x) fs t) (functions_of c xs atoms_seen e ∙ atoms_are)
      ∙ sym (entry_there (game_seen s) s.hidden.now k n x t d less here there at))

  -- the update over the roots of its atoms is the table's
  pub update_made : (c : Contents) (xs : List CaseRoot) → cases_at c xs ≡ true_cases atoms_seen → s.hidden.now ≡ s.game.now.hidden.items →
      table_update (codes_seen s) k (hidden_data x) (map (λ (y : CaseRoot). function_at c y.root) xs) ≡ get_or (updates_of (game_seen s)) k never
  update_made c xs e all =
      ap (λ (ds : List DomainData). table_update ds k (hidden_data x) (map (λ (y : CaseRoot). function_at c y.root) xs)) is.codes
      ∙ (ap (λ (fs : List Function). table_update (state_domains (game_seen s)) k (hidden_data x) fs) (functions_of c xs atoms_seen e ∙ atoms_are)
      ∙ (sym (update_there (game_seen s) s.hidden.now k x less here)
      ∙ ap (λ (hs : List Hidden). get_or (updates_after (game_seen s) [] (map hidden_data hs)) k never) all))
