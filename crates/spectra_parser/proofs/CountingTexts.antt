-- How many levels are open where reading a line, an item or a text goes on, and where it stops.
use Rattle.std.proofs.Common.{◌≡◌, ℕ, zero, suc, ◌+◌, ◌≤◌, true, false, List, [], ◌∷◌, ◌++◌, length, take, Some, None, Err, refl, sym, ap, subst, ◌∙◌, append_assoc, append-nil, arith, length-append}
use Rattle.std.proofs.lemmas.List.{take_at}
use Rattle.spec_model.specs.declared.spec.Role.{Role}
use Rattle.spectra_exprs.specs.declared.fault.SyntaxFault.{SyntaxFault}
use Rattle.spectra_exprs.specs.declared.fault.SyntaxFault.TheVariants as faults
use Rattle.spectra_trees.specs.declared.class.Class.TheVariants as classes
use Rattle.spectra_trees.specs.declared.tree.Place.{Place}
use Rattle.spectra_trees.specs.declared.tree.OwnerWord.{OwnerWord}
use Rattle.spectra_trees.specs.Classes.{place_of, same_class}
use Rattle.spectra_trees.specs.Data.{NameData, Expression, RegexData, BodyData, ItemData, TreeData}
use Rattle.spectra_trees.specs.Lexemes.{Lexeme, name_of}
use Rattle.spectra_exprs.specs.Read.{starts}
use Rattle.spectra_exprs.specs.Expressions.{inside}
use Rattle.spectra_exprs.specs.Nesting.{Opening, Nesting, TokenSort, sort_of, nested, behind, levels_of, unopened, open_levels}
use Rattle.spectra_exprs.proofs.Soundness.{Got}
use Rattle.spectra_exprs.proofs.WholeExpressions.{keys, lookup_some}
use Rattle.spectra_exprs.proofs.Opening.{IsNext}
use Rattle.spectra_exprs.proofs.Counting.{AtMost, behind-append, at_most_append, Counts, Exactly, Shuts, Seen, Stopped, counts_gives, counts_unexpected, counts_same, counts_from, counts_to, counts_then, counts_if, counts_steps, behind_step, counts_look}
use Rattle.spectra_exprs.proofs.CountingTokens.{nested_same, ends_exactly, shuts_exactly, counts_name, counts_plain, other_step, head_step, counts_separator, counts_separated, counts_mark, counts_head, counts_colon, All, part_among, IsOther}
use Rattle.spectra_exprs.proofs.CountingExpressions.{counts_inside, counts_arguments}
use Rattle.spectra_regexes.specs.Regexes.{inside_regex}
use Rattle.spectra_regexes.proofs.CountingRegexes.{counts_inside_regex, counts_regex}
use Rattle.spectra_parser.specs.Items.{body_formula, trigger, use_behind, pattern_use, body_of, Said, labelled, unlabelled, named, said, line, declaration, item_of, item_after, before_end, semicolon, imported, import_after, text_of}
use Rattle.spectra_parser.specs.ItemGrammar.{Owner, RoleOf}
use Rattle.spectra_parser.specs.Texts.{HasTree, IsShallow}
use Rattle.spectra_parser.specs.Wholes.{IsWholeFrom}
use Rattle.spectra_parser.proofs.SoundItems.{n}
use Rattle.spectra_parser.proofs.SoundTexts.{body_at, trigger_at, body_same, owner_at, role_at, owner_looks, role_looks, declaration_same, item_same}
use Rattle.spectra_parser.proofs.WholeTexts.{owner_table, role_table, in_owners, in_roles}
use Rattle.spectra_parser.proofs.WholeText.{text_read}
use Rattle.spectra_parser.proofs.Places.{Numbered, whole_numbered, number_at}
use Rattle.spectra_parser.proofs.CountingItems.{counts_formula, counts_vardecl, counts_typedecl, counts_define, counts_predicate, counts_pattern, counts_monitor}

-- behind what is complete nothing is open
abbrev Closed : Nesting → Type 0
Closed = Exactly false []

size : levels_of [] + n ≡ n
size = omega arith

few : levels_of [] ≤ n
few = omega arith

-- ---- lines

counts_use : (m : Lexeme) → Counts n (Exactly true []) Closed (use_behind m)
unfolding use_behind sort_of same_class place_of
counts_use m =
    counts_plain [] classes.Open refl few (λ (o : Lexeme). counts_then (counts_arguments n (inside n) (counts_inside n) n Opening.Plain [] refl refl size few) (λ (es : List Expression). counts_gives (BodyData.Call (name_of m) es)))

counts_pattern_use : Counts n (Exactly true []) Closed pattern_use
unfolding pattern_use sort_of same_class place_of
counts_pattern_use = counts_name [] true classes.Name refl few counts_use

counts_body_at : (body : Expression → BodyData) (t : Lexeme) → Counts n Closed (Shuts []) (body_at body t)
unfolding body_formula
counts_body_at body t = counts_then (counts_formula [] refl refl size) (λ (e : Expression). counts_gives (body e))

counts_trigger : (t : Lexeme) → Counts n Closed (Shuts []) (trigger_at t)
unfolding trigger sort_of same_class place_of
counts_trigger t =
    counts_then (counts_regex n (inside_regex n) (counts_inside_regex n) n [] refl refl size) (λ (cause : RegexData). counts_mark [] refl few classes.Then false refl (λ (u : Lexeme).
    counts_then (counts_regex n (inside_regex n) (counts_inside_regex n) n [] refl refl size) (λ (effect : RegexData). counts_from (shuts_exactly false []) (counts_gives (BodyData.Trigger t.at cause effect)))))

counts_body : Counts n (Exactly true []) (Shuts []) body_of
unfolding sort_of same_class place_of
counts_body =
    counts_same body_same
    (counts_if (counts_mark [] refl few classes.Ini true refl (counts_body_at BodyData.Initial))
    (counts_if (counts_mark [] refl few classes.Alw true refl (counts_body_at BodyData.Always))
    (counts_if (counts_mark [] refl few classes.AlwEv true refl (counts_body_at BodyData.Recurring))
    (counts_if (counts_mark [] refl few classes.Trig true refl counts_trigger) (counts_to (shuts_exactly false []) counts_pattern_use) (starts classes.Trig)) (starts classes.AlwEv)) (starts classes.Alw)) (starts classes.Ini))

counts_labelled : (m : Lexeme) → Counts n (Exactly true []) (Shuts []) (labelled m)
unfolding labelled sort_of same_class place_of
counts_labelled m = counts_colon [] refl few classes.Colon true refl (λ (c : Lexeme). counts_then counts_body (λ (b : BodyData). counts_gives (Some (name_of m), b)))

counts_unlabelled : (m : Lexeme) → Counts n (Exactly true []) (Shuts []) (unlabelled m)
unfolding unlabelled
counts_unlabelled m = counts_then (counts_use m) (λ (b : BodyData). counts_from (shuts_exactly false []) (counts_gives (None, b)))

counts_named : Counts n (Exactly true []) (Shuts []) named
unfolding named sort_of same_class place_of
counts_named = counts_name [] true classes.Name refl few (λ (m : Lexeme). counts_if (counts_labelled m) (counts_unlabelled m) (starts classes.Colon))

counts_said : Counts n (Exactly true []) (Shuts []) said
unfolding said
counts_said = counts_if counts_named (counts_then counts_body (λ (b : BodyData). counts_gives (None, b))) (starts classes.Name)

counts_line : (at : Place) (role : Role) → Counts n (Exactly true []) Closed (line at role)
unfolding line sort_of same_class place_of
counts_line at role =
    counts_then counts_said (λ (b : Said). counts_separator [] refl classes.Semicolon refl few (λ (s : Lexeme). counts_gives (ItemData.Statement (record { at = at; role = role; name = b.0; body = b.1 }))))

-- ---- items

counts_declaration : Counts n Closed Closed declaration
unfolding sort_of same_class place_of
counts_declaration =
    counts_same declaration_same
    (counts_if (counts_mark [] refl few classes.TypeWord false refl (λ (t : Lexeme). counts_typedecl [] refl refl size t.at))
    (counts_if (counts_mark [] refl few classes.Define false refl (λ (t : Lexeme). counts_define [] refl refl size t.at))
    (counts_if (counts_head [] refl few classes.Predicate refl (λ (t : Lexeme). counts_predicate [] refl refl size t.at))
    (counts_if (counts_head [] refl few classes.Pattern refl (λ (t : Lexeme). counts_pattern [] refl refl size t.at))
    (counts_if (counts_mark [] refl few classes.Monitor false refl (λ (t : Lexeme). counts_monitor [] refl refl size t.at)) counts_unexpected (starts classes.Monitor)) (starts classes.Pattern)) (starts classes.Predicate)) (starts classes.Define)) (starts classes.TypeWord))

abbrev IsHead : TokenSort → Type 0
IsHead part = part ≡ TokenSort.Head

owners_other : All IsOther (keys owner_table)
unfolding sort_of same_class place_of
owners_other = (refl, (refl, (refl, tt)))

roles_head : All IsHead (keys role_table)
unfolding sort_of same_class place_of
roles_head = (refl, (refl, tt))

owner_seen : (ts : List Lexeme) (x : Lexeme × OwnerWord) (rest : List Lexeme) → owner_at ts ≡ Some (x, rest) → Seen (λ x t. sort_of t.class ≡ TokenSort.Other) x ts rest
owner_seen ts x rest e = at (owner_looks.found ts x rest e)
  where
    at : Got Owner ts x rest → Seen (λ x t. sort_of t.class ≡ TokenSort.Other) x ts rest
    at g = record { token = x.0; front = g.front ∙ ap (λ (u : List Lexeme). u ++ rest) g.derives.alone; is = part_among IsOther (keys owner_table) owners_other x.0 (lookup_some owner_table x.0.class x.1 (sym (in_owners x.0.class) ∙ g.derives.word)) }

role_seen : (ts : List Lexeme) (x : Lexeme × Role) (rest : List Lexeme) → role_at ts ≡ Some (x, rest) → Seen (λ x t. sort_of t.class ≡ TokenSort.Head) x ts rest
role_seen ts x rest e = at (role_looks.found ts x rest e)
  where
    at : Got RoleOf ts x rest → Seen (λ x t. sort_of t.class ≡ TokenSort.Head) x ts rest
    at g = record { token = x.0; front = g.front ∙ ap (λ (u : List Lexeme). u ++ rest) g.derives.alone; is = part_among IsHead (keys role_table) roles_head x.0 (lookup_some role_table x.0.class x.1 (sym (in_roles x.0.class) ∙ g.derives.word)) }

counts_item : Counts n Closed Closed item_of
counts_item =
    counts_same item_same
    (counts_look owner_seen (λ (o : Lexeme × OwnerWord) (t : Lexeme) (is : sort_of t.class ≡ TokenSort.Other). behind_step (λ m e. other_step [] refl few (sort_of t.class) is m (ends_exactly false [] m e)) (counts_vardecl [] refl refl size o.0.at o.1))
    (counts_look role_seen (λ (o : Lexeme × Role) (t : Lexeme) (is : sort_of t.class ≡ TokenSort.Head). behind_step (λ m e. head_step [] refl few (sort_of t.class) is m (ends_exactly false [] m e)) (counts_line o.0.at o.1)) counts_declaration))

counts_item_after : (all : List ItemData) → Counts n Closed Closed (item_after all)
unfolding item_after
counts_item_after all = counts_then counts_item (λ (i : ItemData). counts_gives (all ++ i ∷ []))

-- ---- texts

counts_semicolon : (all : List NameData) → Counts n Closed Closed (semicolon all)
unfolding semicolon sort_of same_class place_of
counts_semicolon all = counts_if (counts_separated [] false refl classes.Semicolon refl few (λ (s : Lexeme). counts_gives all)) (counts_gives all) (starts classes.Semicolon)

counts_import_after : (all : List NameData) → Counts n Closed Closed (import_after all)
unfolding import_after sort_of same_class place_of
counts_import_after all =
    counts_mark [] refl few classes.Import false refl (λ (i : Lexeme). counts_mark [] refl few classes.Text false refl (λ (t : Lexeme). counts_semicolon (all ++ imported i t ∷ [])))

counts_text : Counts n Closed Closed text_of
unfolding text_of sort_of same_class place_of
counts_text =
    counts_then (counts_steps (starts classes.Import) counts_import_after []) (λ (imports : List NameData). counts_mark [] refl few classes.Head false refl (λ (h : Lexeme). counts_name [] false classes.Name refl few (λ (m : Lexeme).
    counts_then (counts_steps before_end counts_item_after []) (λ (items : List ItemData). counts_gives (record { header = name_of m; imports = imports; items = items })))))

-- ---- where reading a text stops

stopped : (ts : List Lexeme) (f : SyntaxFault) → text_of ts ≡ Err f → Stopped n unopened ts f
stopped ts f read = counts_text.stops unopened (record { is = refl }) ts f read

at_most_take : (m : Nesting) (u rest : List Lexeme) → levels_of m.stack ≤ n → AtMost n m u → (k : ℕ) → k ≤ length u → levels_of (behind m (take k (u ++ rest))).stack ≤ n
at_most_take m u rest here within zero le = here
at_most_take m [] rest here within (suc k) le = absurd (omega (arith, le))
at_most_take m (t ∷ u) rest here within (suc k) le = at_most_take (nested (sort_of t.class) m) u rest within.0 within.1 k (omega (arith, le))

shallow_front : (ts used rest : List Lexeme) (at : ℕ) → ts ≡ used ++ rest → AtMost n unopened used → at ≤ length used → IsShallow ts at
shallow_front ts used rest at front within le k less = subst (λ (us : List Lexeme). open_levels (take k us) ≤ n) (sym front) (at_most_take unopened used rest few within k (omega (arith, le, less)))

shallow_next : (ts used rest : List Lexeme) (at : ℕ) → Numbered 0 ts → ts ≡ used ++ rest → AtMost n unopened used → IsNext at rest → IsShallow ts at
shallow_next ts used [] at h front within place = shallow_front ts used [] at front within (omega (arith, place))
shallow_next ts used (t ∷ rest) at h front within place =
    let counted : t.number ≡ 0 + length used = number_at 0 used t rest (subst (λ (us : List Lexeme). Numbered 0 us) front h) in
    shallow_front ts used (t ∷ rest) at front within (omega (arith, counted, place))

pub unexpected_shallow : (ts : List Lexeme) (at : ℕ) → IsWholeFrom 0 ts → text_of ts ≡ Err (faults.Unexpected at) → IsShallow ts at
unexpected_shallow ts at w read = let q = stopped ts (faults.Unexpected at) read in shallow_next ts q.used q.rest at (whole_numbered 0 ts w) q.front q.within q.place

pub parentheses_shallow : (ts : List Lexeme) (at : ℕ) → IsWholeFrom 0 ts → text_of ts ≡ Err (faults.Parentheses at) → IsShallow ts at
parentheses_shallow ts at w read = let q = stopped ts (faults.Parentheses at) read in shallow_next ts q.used q.rest at (whole_numbered 0 ts w) q.front q.within q.place

-- the token that opens a level too many
record Opened (ts : List Lexeme) (at : ℕ) : Type 0 where
  used : List Lexeme
  token : Lexeme
  more : List Lexeme
  front : ts ≡ used ++ token ∷ more
  place : at ≡ length used
  within : AtMost n unopened used
  level : levels_of (nested (sort_of token.class) (behind unopened used)).stack ≡ suc n

opened : (ts : List Lexeme) (at : ℕ) → IsWholeFrom 0 ts → text_of ts ≡ Err (faults.TooDeep at) → Opened ts at
opened ts at w read =
    let q = stopped ts (faults.TooDeep at) read in
    let p = q.place in
    let front : ts ≡ q.used ++ p.token ∷ p.more = q.front ∙ ap (λ (us : List Lexeme). q.used ++ us) p.parts in
    let counted : p.token.number ≡ 0 + length q.used = number_at 0 q.used p.token p.more (subst (λ (us : List Lexeme). Numbered 0 us) front (whole_numbered 0 ts w)) in
    let number = p.number in
    record { used = q.used; token = p.token; more = p.more; front = front; place = omega (arith, counted, number); within = q.within; level = p.level }

pub deep_shallow : (ts : List Lexeme) (at : ℕ) → IsWholeFrom 0 ts → text_of ts ≡ Err (faults.TooDeep at) → IsShallow ts at
deep_shallow ts at w read = let q = opened ts at w read in let place = q.place in shallow_front ts q.used (q.token ∷ q.more) at q.front q.within (omega (arith, place))

pub deep_level : (ts : List Lexeme) (at : ℕ) → IsWholeFrom 0 ts → text_of ts ≡ Err (faults.TooDeep at) → open_levels (take (at + 1) ts) ≡ n + 1
deep_level ts at w read =
    let q = opened ts at w read in
    let place = q.place in
    let size : length (q.used ++ q.token ∷ []) ≡ at + 1 = omega (arith, place, length-append q.used (q.token ∷ [])) in
    let parts : ts ≡ (q.used ++ q.token ∷ []) ++ q.more = q.front ∙ sym (append_assoc q.used (q.token ∷ []) q.more) in
    let taken : take (at + 1) ts ≡ q.used ++ q.token ∷ [] = ap (take (at + 1)) parts ∙ take_at (q.used ++ q.token ∷ []) q.more (at + 1) size in
    let last : open_levels (take (at + 1) ts) ≡ suc n = ap open_levels taken ∙ ap (λ (m : Nesting). levels_of m.stack) (behind-append unopened q.used (q.token ∷ [])) ∙ q.level in
    omega (arith, last)

-- ---- where a text has a tree, no level too many is open

pub tree_shallow : (ts : List Lexeme) (tree : TreeData) → HasTree ts tree → (k : ℕ) → k ≤ length ts → open_levels (take k ts) ≤ n
unfolding sort_of same_class place_of
tree_shallow ts tree t k le =
    let g = counts_text.goes unopened (record { is = refl }) ts tree (t.end ∷ []) (text_read ts tree t) in
    let end = other_step [] refl few (sort_of t.end.class) (nested_same classes.Finish t.end t.finish) (behind unopened g.used) (ends_exactly false [] (behind unopened g.used) g.after) in
    let within : AtMost n unopened (g.used ++ t.end ∷ []) = at_most_append n unopened g.used (t.end ∷ []) g.within (end.0, tt) in
    shallow_front ts (g.used ++ t.end ∷ []) [] (length ts) (g.front ∙ sym (append-nil (g.used ++ t.end ∷ []))) within (omega (arith, ap length g.front)) k le
