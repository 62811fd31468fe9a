-- A token at which reading stops is one up to which the tokens begin no text.
use Rattle.std.proofs.Common.{◌≡◌, ℕ, zero, suc, ◌+◌, ◌<◌, Bool, true, false, cond, not, List, [], ◌∷◌, ◌++◌, length, take, None, Ok, Err, ◌⊎◌, inl, inr, refl, sym, ap, subst, ◌∙◌, append_assoc, arith, length-append}
use Rattle.std.proofs.lemmas.List.{take_at}
use Rattle.spectra_exprs.specs.declared.fault.SyntaxFault.{SyntaxFault}
use Rattle.spectra_exprs.specs.declared.fault.SyntaxFault.TheVariants as faults
use Rattle.spectra_trees.specs.declared.class.Class.TheVariants as classes
use Rattle.spectra_trees.specs.Classes.{place_of, same_class}
use Rattle.spectra_trees.specs.Data.{NameData, ItemData, TreeData}
use Rattle.spectra_trees.specs.Lexemes.{Lexeme, name_of}
use Rattle.spectra_exprs.specs.Read.{Read, Reader, ◌>>=◌, unexpected, first_number, starts, expect, grow, all_of}
use Rattle.spectra_exprs.proofs.Stopping.{NoEnd, Passed, StopsAt, Stable, err_is, err_no_ok, ok_no_err, stable_token, starts_of_head}
use Rattle.spectra_exprs.proofs.StoppingSteps.{stable_steps}
use Rattle.spectra_parser.proofs.SoundItems.{n}
use Rattle.spectra_parser.proofs.SoundTexts.{owner_at, role_at, declaration_same, item_same}
use Rattle.spectra_exprs.proofs.ClassSets.{going, going_apart, starts_going}
use Rattle.spectra_exprs.proofs.Completeness.{Reaches}
use Rattle.spectra_exprs.proofs.WholeExpressions.{keys}
use Rattle.spectra_parser.proofs.WholeTexts.{owner_table, role_table, finds_owner, finds_role}
use Rattle.spectra_parser.specs.Items.{item_after, at_end, before_end, import_after, text_of}
use Rattle.spectra_parser.specs.Texts.{BeginNoText}
use Rattle.spectra_parser.specs.Wholes.{IsWholeFrom}
use Rattle.spectra_parser.proofs.WholeText.{text_reaches}
use Rattle.spectra_parser.proofs.StoppingTexts.{stable_item_after, uses_item_after, stable_import_after, uses_import_after, goes_on, to_first_end, stable_to_first_end}

stable_imports : Stable (λ ts. all_of (starts classes.Import) import_after [] ts)
stable_imports = stable_steps (starts_of_head classes.Import) uses_import_after stable_import_after []

-- ---- an end of the text stands at the end of the tokens, if at all

abbrev pub EndsOnce : List Lexeme → Type 0
EndsOnce [] = Unit {0}
EndsOnce (t ∷ ts) = (same_class t.class classes.Finish ≡ true → ts ≡ []) × EndsOnce ts

ends_behind : (used rest : List Lexeme) → EndsOnce (used ++ rest) → EndsOnce rest
ends_behind [] rest once = once
ends_behind (t ∷ used) rest once = ends_behind used rest once.1

passed_ends : {A : Type 0} (R : Reader A) (ts : List Lexeme) (a : A) (rest : List Lexeme) → Passed R ts a rest → EndsOnce ts → EndsOnce rest
passed_ends R ts a rest p once = ends_behind p.used rest (subst EndsOnce p.front once)

goes_past : (b : Bool) (t u : Lexeme) (ts : List Lexeme) → same_class t.class classes.Finish ≡ b → (same_class t.class classes.Finish ≡ true → u ∷ ts ≡ []) → true ≡ not b
goes_past true t u ts is last = let e : u ∷ ts ≡ [] = last is in absurd (cc)
goes_past false t u ts is last = refl

-- then the first end is the last
tests_same : (ts : List Lexeme) → EndsOnce ts → before_end ts ≡ goes_on ts
unfolding before_end at_end starts
tests_same [] once = refl
tests_same (t ∷ []) once = refl
tests_same (t ∷ u ∷ ts) once = goes_past (same_class t.class classes.Finish) t u ts refl once.0

bind_same : {A B : Type 0} (r : Read A) (F G : A → Reader B) → ((x : A) (rest : List Lexeme) → r ≡ Ok (x, rest) → F x rest ≡ G x rest) → (r >>= F) ≡ (r >>= G)
bind_same (Ok x) F G same = same x.0 x.1 refl
bind_same (Err f) F G same = refl

module _ (k : ℕ) (further : (a : List ItemData) (ts : List Lexeme) → EndsOnce ts → grow before_end item_after k a ts ≡ grow goes_on item_after k a ts) where
  turn_same : (b c : Bool) (a : List ItemData) (ts : List Lexeme) → EndsOnce ts → b ≡ c
      → cond b (item_after a ts >>= λ x rest. grow before_end item_after k x rest) (Ok (a, ts)) ≡ cond c (item_after a ts >>= λ x rest. grow goes_on item_after k x rest) (Ok (a, ts))
  turn_same true true a ts once e =
      bind_same (item_after a ts) (λ x rest. grow before_end item_after k x rest) (λ x rest. grow goes_on item_after k x rest)
      (λ x rest read. further x rest (passed_ends (item_after a) ts x rest ((stable_item_after a).goes ts x rest read) once))
  turn_same false false a ts once e = refl
  turn_same true false a ts once e = absurd (cc)
  turn_same false true a ts once e = absurd (cc)

items_same : (k : ℕ) (a : List ItemData) (ts : List Lexeme) → EndsOnce ts → grow before_end item_after k a ts ≡ grow goes_on item_after k a ts
unfolding grow
items_same zero a ts once = refl
items_same (suc k) a ts once = turn_same k (items_same k) (before_end ts) (goes_on ts) a ts once (tests_same ts once)

abbrev items_by : (List Lexeme → Bool) → List NameData → Lexeme → Reader TreeData
items_by test imports m ts = all_of test item_after [] ts >>= λ items rest. Ok (record { header = name_of m; imports = imports; items = items }, rest)

abbrev named_by : (List Lexeme → Bool) → List NameData → Lexeme → Reader TreeData
named_by test imports h ts = expect classes.Name ts >>= items_by test imports

abbrev headed_by : (List Lexeme → Bool) → List NameData → Reader TreeData
headed_by test imports ts = expect classes.Head ts >>= named_by test imports

abbrev text_by : (List Lexeme → Bool) → Reader TreeData
text_by test ts = all_of (starts classes.Import) import_after [] ts >>= headed_by test

text_is : (ts : List Lexeme) → text_of ts ≡ text_by before_end ts
unfolding text_of
text_is ts = refl

items_by_same : (imports : List NameData) (m : Lexeme) (ts : List Lexeme) → EndsOnce ts → items_by before_end imports m ts ≡ items_by goes_on imports m ts
items_by_same imports m ts once = ap (λ (r : Read (List ItemData)). r >>= λ items rest. Ok (record { header = name_of m; imports = imports; items = items }, rest)) (items_same (suc (length ts)) [] ts once)

named_by_same : (imports : List NameData) (h : Lexeme) (ts : List Lexeme) → EndsOnce ts → named_by before_end imports h ts ≡ named_by goes_on imports h ts
unfolding place_of
named_by_same imports h ts once =
    bind_same (expect classes.Name ts) (items_by before_end imports) (items_by goes_on imports)
    (λ m rest read. items_by_same imports m rest (passed_ends (expect classes.Name) ts m rest ((stable_token classes.Name (record { checked = refl })).goes ts m rest read) once))

headed_by_same : (imports : List NameData) (ts : List Lexeme) → EndsOnce ts → headed_by before_end imports ts ≡ headed_by goes_on imports ts
unfolding place_of
headed_by_same imports ts once =
    bind_same (expect classes.Head ts) (named_by before_end imports) (named_by goes_on imports)
    (λ h rest read. named_by_same imports h rest (passed_ends (expect classes.Head) ts h rest ((stable_token classes.Head (record { checked = refl })).goes ts h rest read) once))

text_same : (ts : List Lexeme) → EndsOnce ts → text_of ts ≡ to_first_end ts
text_same ts once =
    text_is ts ∙ bind_same (all_of (starts classes.Import) import_after [] ts) (headed_by before_end) (headed_by goes_on)
    (λ imports rest read. headed_by_same imports rest (passed_ends (λ ts. all_of (starts classes.Import) import_after [] ts) ts imports rest (stable_imports.goes ts imports rest read) once))

-- ---- what is read as a text is read to its first end

bind_ok : {A B : Type 0} (r : Read A) (F G : A → Reader B) (y : B × List Lexeme) → ((x : A) (rest : List Lexeme) → F x rest ≡ Ok y → G x rest ≡ Ok y) → (r >>= F) ≡ Ok y → (r >>= G) ≡ Ok y
bind_ok (Ok x) F G y same e = same x.0 x.1 e
bind_ok (Err f) F G y same e = absurd (err_no_ok f y e)

some_quiet : (used rest : List Lexeme) → NoEnd used → 0 < length used → goes_on (used ++ rest) ≡ true
unfolding starts
some_quiet [] rest quiet some = absurd (omega arith)
some_quiet (t ∷ used) rest quiet some = ap not quiet.0

item_goes_on : (a : List ItemData) (ts : List Lexeme) (x : List ItemData × List Lexeme) → item_after a ts ≡ Ok x → goes_on ts ≡ true
item_goes_on a ts x read =
    let p = (stable_item_after a).goes ts x.0 x.1 read in
    let less = (uses_item_after a).shorter ts x.0 x.1 read in
    let some : 0 < length p.used = omega (arith, less, ap length p.front, length-append p.used x.1) in
    subst (λ (us : List Lexeme). goes_on us ≡ true) (sym p.front) (some_quiet p.used x.1 p.quiet some)

at_end_stops : (ts : List Lexeme) → before_end ts ≡ false → goes_on ts ≡ false
unfolding before_end at_end starts
at_end_stops [] off = absurd (cc)
at_end_stops (t ∷ []) off = off
at_end_stops (t ∷ u ∷ ts) off = absurd (cc)

module _ (k : ℕ) (further : (a : List ItemData) (ts : List Lexeme) (y : List ItemData × List Lexeme) → grow before_end item_after k a ts ≡ Ok y → grow goes_on item_after k a ts ≡ Ok y) where
  item_ok : (r : Read (List ItemData)) (a : List ItemData) (ts : List Lexeme) (y : List ItemData × List Lexeme) → item_after a ts ≡ r → (r >>= λ x rest. grow before_end item_after k x rest) ≡ Ok y
      → cond (goes_on ts) (r >>= λ x rest. grow goes_on item_after k x rest) (Ok (a, ts)) ≡ Ok y
  item_ok (Ok x) a ts y read e = let on = item_goes_on a ts x read in rw on (further x.0 x.1 y e)
  item_ok (Err f) a ts y read e = absurd (err_no_ok f y e)

  turn_ok : (b : Bool) (a : List ItemData) (ts : List Lexeme) (y : List ItemData × List Lexeme) → before_end ts ≡ b → cond b (item_after a ts >>= λ x rest. grow before_end item_after k x rest) (Ok (a, ts)) ≡ Ok y
      → cond (goes_on ts) (item_after a ts >>= λ x rest. grow goes_on item_after k x rest) (Ok (a, ts)) ≡ Ok y
  turn_ok true a ts y is e = item_ok (item_after a ts) a ts y refl e
  turn_ok false a ts y is e = let off = at_end_stops ts is in rw off e

items_ok : (k : ℕ) (a : List ItemData) (ts : List Lexeme) (y : List ItemData × List Lexeme) → grow before_end item_after k a ts ≡ Ok y → grow goes_on item_after k a ts ≡ Ok y
unfolding grow
items_ok zero a ts y e = e
items_ok (suc k) a ts y e = turn_ok k (items_ok k) (before_end ts) a ts y refl e

items_by_ok : (imports : List NameData) (m : Lexeme) (ts : List Lexeme) (y : TreeData × List Lexeme) → items_by before_end imports m ts ≡ Ok y → items_by goes_on imports m ts ≡ Ok y
items_by_ok imports m ts y e = by (all_of before_end item_after [] ts) refl e
  where
    by : (r : Read (List ItemData)) → all_of before_end item_after [] ts ≡ r → (r >>= λ items rest. Ok (record { header = name_of m; imports = imports; items = items }, rest)) ≡ Ok y → items_by goes_on imports m ts ≡ Ok y
    by (Ok x) read e = let all = items_ok (suc (length ts)) [] ts x read in rw all e
    by (Err f) read e = absurd (err_no_ok f y e)

text_ok : (ts : List Lexeme) (y : TreeData × List Lexeme) → text_of ts ≡ Ok y → to_first_end ts ≡ Ok y
text_ok ts y e =
    bind_ok (all_of (starts classes.Import) import_after [] ts) (headed_by before_end) (headed_by goes_on) y
    (λ imports rest. bind_ok (expect classes.Head rest) (named_by before_end imports) (named_by goes_on imports) y
    (λ h rest. bind_ok (expect classes.Name rest) (items_by before_end imports) (items_by goes_on imports) y (λ m rest. items_by_ok imports m rest y))) (sym (text_is ts) ∙ e)

-- ---- a level too many is opened before the first end

-- no item begins at an end
item_refused : (a : List ItemData) (ts : List Lexeme) → going (classes.Finish ∷ []) ts ≡ true → item_after a ts ≡ Err (faults.Unexpected (first_number ts))
unfolding item_after unexpected place_of
item_refused a ts on =
    let owner : owner_at ts ≡ None = finds_owner.passes ts (going_apart (classes.Finish ∷ []) (keys owner_table) (record { checked = refl }) ts on) in
    let role : role_at ts ≡ None = finds_role.passes ts (going_apart (classes.Finish ∷ []) (keys role_table) (record { checked = refl }) ts on) in
    let type_off : starts classes.TypeWord ts ≡ false = starts_going classes.TypeWord ts ∙ going_apart (classes.Finish ∷ []) (classes.TypeWord ∷ []) (record { checked = refl }) ts on in
    let define_off : starts classes.Define ts ≡ false = starts_going classes.Define ts ∙ going_apart (classes.Finish ∷ []) (classes.Define ∷ []) (record { checked = refl }) ts on in
    let predicate_off : starts classes.Predicate ts ≡ false = starts_going classes.Predicate ts ∙ going_apart (classes.Finish ∷ []) (classes.Predicate ∷ []) (record { checked = refl }) ts on in
    let pattern_off : starts classes.Pattern ts ≡ false = starts_going classes.Pattern ts ∙ going_apart (classes.Finish ∷ []) (classes.Pattern ∷ []) (record { checked = refl }) ts on in
    let monitor_off : starts classes.Monitor ts ≡ false = starts_going classes.Monitor ts ∙ going_apart (classes.Finish ∷ []) (classes.Monitor ∷ []) (record { checked = refl }) ts on in
    rw (item_same ts, owner, role, declaration_same ts, type_off, define_off, predicate_off, pattern_off, monitor_off) refl

bind_deep : {A B : Type 0} (r : Read A) (F G : A → Reader B) (f : SyntaxFault) → ((x : A) (rest : List Lexeme) → F x rest ≡ Err f → G x rest ≡ Err f) → (r >>= F) ≡ Err f → (r >>= G) ≡ Err f
bind_deep (Ok x) F G f same e = same x.0 x.1 e
bind_deep (Err g) F G f same e = e

not_off : (b : Bool) → not b ≡ false → b ≡ true
not_off true e = refl
not_off false e = absurd (cc)

module _ (at : ℕ) (k : ℕ) (further : (a : List ItemData) (ts : List Lexeme) → grow before_end item_after k a ts ≡ Err (faults.TooDeep at) → grow goes_on item_after k a ts ≡ Err (faults.TooDeep at)) where
  fault_on : (b : Bool) (f : SyntaxFault) (a : List ItemData) (ts : List Lexeme) → goes_on ts ≡ b → item_after a ts ≡ Err f → f ≡ faults.TooDeep at → b ≡ true
  fault_on true f a ts is read deep = refl
  fault_on false f a ts is read deep =
      let none = item_refused a ts (sym (starts_going classes.Finish ts) ∙ not_off (starts classes.Finish ts) is) in
      absurd (cc)

  item_deep : (r : Read (List ItemData)) (a : List ItemData) (ts : List Lexeme) → item_after a ts ≡ r → (r >>= λ x rest. grow before_end item_after k x rest) ≡ Err (faults.TooDeep at)
      → cond (goes_on ts) (r >>= λ x rest. grow goes_on item_after k x rest) (Ok (a, ts)) ≡ Err (faults.TooDeep at)
  item_deep (Ok x) a ts read e = let on = item_goes_on a ts x read in rw on (further x.0 x.1 e)
  item_deep (Err f) a ts read e = let on : goes_on ts ≡ true = fault_on (goes_on ts) f a ts refl read (err_is {A = List ItemData} f (faults.TooDeep at) e) in rw on e

  turn_deep : (b : Bool) (a : List ItemData) (ts : List Lexeme) → cond b (item_after a ts >>= λ x rest. grow before_end item_after k x rest) (Ok (a, ts)) ≡ Err (faults.TooDeep at)
      → cond (goes_on ts) (item_after a ts >>= λ x rest. grow goes_on item_after k x rest) (Ok (a, ts)) ≡ Err (faults.TooDeep at)
  turn_deep true a ts e = item_deep (item_after a ts) a ts refl e
  turn_deep false a ts e = absurd (ok_no_err (a, ts) (faults.TooDeep at) e)

items_deep : (at k : ℕ) (a : List ItemData) (ts : List Lexeme) → grow before_end item_after k a ts ≡ Err (faults.TooDeep at) → grow goes_on item_after k a ts ≡ Err (faults.TooDeep at)
unfolding grow
items_deep at zero a ts e = e
items_deep at (suc k) a ts e = turn_deep at k (items_deep at k) (before_end ts) a ts e

items_by_deep : (at : ℕ) (imports : List NameData) (m : Lexeme) (ts : List Lexeme) → items_by before_end imports m ts ≡ Err (faults.TooDeep at) → items_by goes_on imports m ts ≡ Err (faults.TooDeep at)
items_by_deep at imports m ts e = by (all_of before_end item_after [] ts) refl e
  where
    by : (r : Read (List ItemData)) → all_of before_end item_after [] ts ≡ r → ◌≡◌ {A = Read TreeData} (r >>= λ items rest. Ok (record { header = name_of m; imports = imports; items = items }, rest)) (Err (faults.TooDeep at)) → items_by goes_on imports m ts ≡ Err (faults.TooDeep at)
    by (Ok x) read e = absurd (ok_no_err (record { header = name_of m; imports = imports; items = x.0 }, x.1) (faults.TooDeep at) e)
    by (Err f) read e =
        let all = items_deep at (suc (length ts)) [] ts (read ∙ ap (λ (h : SyntaxFault). Err h) (err_is {A = TreeData} f (faults.TooDeep at) e)) in
        rw all refl

text_deep : (ts : List Lexeme) (at : ℕ) → text_of ts ≡ Err (faults.TooDeep at) → to_first_end ts ≡ Err (faults.TooDeep at)
text_deep ts at e =
    bind_deep (all_of (starts classes.Import) import_after [] ts) (headed_by before_end) (headed_by goes_on) (faults.TooDeep at)
    (λ imports rest. bind_deep (expect classes.Head rest) (named_by before_end imports) (named_by goes_on imports) (faults.TooDeep at)
    (λ h rest. bind_deep (expect classes.Name rest) (items_by before_end imports) (items_by goes_on imports) (faults.TooDeep at) (λ m rest. items_by_deep at imports m rest))) (sym (text_is ts) ∙ e)

-- ---- where reading stops, no text goes on

stops_at : (ts : List Lexeme) (f : SyntaxFault) → (NoEnd ts → ⊥) → (StopsAt to_first_end ts f ⊎ NoEnd ts) ⊎ ⊥ → StopsAt to_first_end ts f
stops_at ts f ended (inl (inl q)) = q
stops_at ts f ended (inl (inr q)) = absurd (ended q)
stops_at ts f ended (inr q) = absurd q

-- a text of any number of levels is read to its first end, or opens a level too many before
pub to_end_reaches : {E : Type 0} (ts : List Lexeme) (x : TreeData × List Lexeme) → Reaches E (text_of ts) x → Reaches E (to_first_end ts) x
to_end_reaches ts x (Reaches.read e) = Reaches.read (text_ok ts x e)
to_end_reaches ts x (Reaches.opens deep at e) = Reaches.opens deep at (text_deep ts at e)

pub refuted : {E : Type 0} (ts : List Lexeme) (f : SyntaxFault) (x : TreeData × List Lexeme) → (E → (at : ℕ) → f ≡ faults.TooDeep at → ⊥) → to_first_end ts ≡ Err f → Reaches E (to_first_end ts) x → ⊥
refuted ts f x other stops (Reaches.read e) = err_no_ok f x (sym stops ∙ e)
refuted ts f x other stops (Reaches.opens deep at e) = other deep at (err_is {A = TreeData} f (faults.TooDeep at) (sym stops ∙ e))

-- ---- the tokens of a text

abbrev pub Numbered : ℕ → List Lexeme → Type 0
Numbered k [] = Unit {0}
Numbered k (t ∷ ts) = (t.number ≡ k) × Numbered (k + 1) ts

pub whole_numbered : (k : ℕ) (ts : List Lexeme) → IsWholeFrom k ts → Numbered k ts
whole_numbered k [] w = absurd w
whole_numbered k (t ∷ []) w = (w.0, tt)
whole_numbered k (t ∷ u ∷ ts) w = (w.0, whole_numbered (k + 1) (u ∷ ts) w.2)

no_last : (t : Lexeme) (ts : List Lexeme) → same_class t.class classes.Finish ≡ false → same_class t.class classes.Finish ≡ true → ts ≡ []
no_last t ts off on = absurd (cc)

whole_once : (k : ℕ) (ts : List Lexeme) → IsWholeFrom k ts → EndsOnce ts
whole_once k [] w = absurd w
whole_once k (t ∷ []) w = (λ on. refl, tt)
whole_once k (t ∷ u ∷ ts) w = (no_last t (u ∷ ts) w.1, whole_once (k + 1) (u ∷ ts) w.2)

whole_ended : (k : ℕ) (ts : List Lexeme) → IsWholeFrom k ts → NoEnd ts → ⊥
whole_ended k [] w quiet = w
whole_ended k (t ∷ []) w quiet = let on = w.1 in let off = quiet.0 in absurd (cc)
whole_ended k (t ∷ u ∷ ts) w quiet = whole_ended (k + 1) (u ∷ ts) w.2 quiet.1

pub number_at : (k : ℕ) (used : List Lexeme) (t : Lexeme) (rest : List Lexeme) → Numbered k (used ++ t ∷ rest) → t.number ≡ k + length used
number_at k [] t rest h = let same = h.0 in omega (arith, same)
number_at k (u ∷ used) t rest h = let same = number_at (k + 1) used t rest h.1 in omega (arith, same)

-- a token of the list, up to which and with which the tokens begin no text with at most so many levels
pub record Refused (left : ℕ) (ts : List Lexeme) (at : ℕ) : Type 0 where
  pub within : at < length ts
  pub refused : BeginNoText left (take (at + 1) ts)

module _ {E : Type 0} (left : ℕ) (deep : n < left → E) where
  refused_at : (ts : List Lexeme) (f : SyntaxFault) (at : ℕ) → (E → (at : ℕ) → f ≡ faults.TooDeep at → ⊥) → IsWholeFrom 0 ts → (q : StopsAt to_first_end ts f) → q.token.number ≡ at → Refused left ts at
  refused_at ts f at other w q same =
      let counted : q.token.number ≡ 0 + length q.used = number_at 0 q.used q.token q.rest (subst (λ (us : List Lexeme). Numbered 0 us) q.front (whole_numbered 0 ts w)) in
      let place : q.token.number ≡ length q.used = omega (arith, counted) in
      let length-front : length (q.used ++ q.token ∷ []) ≡ at + 1 = omega (arith, place, same, length-append q.used (q.token ∷ [])) in
      let parts : ts ≡ (q.used ++ q.token ∷ []) ++ q.rest = q.front ∙ sym (append_assoc q.used (q.token ∷ []) q.rest) in
      let taken : take (at + 1) ts ≡ q.used ++ q.token ∷ [] = ap (take (at + 1)) parts ∙ take_at (q.used ++ q.token ∷ []) q.rest (at + 1) length-front in
      record {
        within = omega (arith, place, same, ap length q.front, length-append q.used (q.token ∷ q.rest));
        refused = λ more tree t.
            let whole : take (at + 1) ts ++ more ≡ q.used ++ q.token ∷ more = ap (λ (us : List Lexeme). us ++ more) taken ∙ append_assoc q.used (q.token ∷ []) more in
            let read = to_end_reaches (take (at + 1) ts ++ more) (tree, t.end ∷ []) (text_reaches left deep (take (at + 1) ts ++ more) tree t) in
            refuted (take (at + 1) ts ++ more) f (tree, t.end ∷ []) other (ap to_first_end whole ∙ q.again more) read;
      }

pub stopped : (ts : List Lexeme) (f : SyntaxFault) → IsWholeFrom 0 ts → text_of ts ≡ Err f → StopsAt to_first_end ts f
stopped ts f w read = stops_at ts f (whole_ended 0 ts w) (stable_to_first_end.stops ts f (sym (text_same ts (whole_once 0 ts w)) ∙ read))

pub not_deep : (at k : ℕ) → ◌≡◌ {A = SyntaxFault} (faults.Unexpected at) (faults.TooDeep k) → ⊥
not_deep at k e = cc

not_too_deep : (at k : ℕ) → ◌≡◌ {A = SyntaxFault} (faults.Parentheses at) (faults.TooDeep k) → ⊥
not_too_deep at k e = cc

pub unexpected_refused : (ts : List Lexeme) (at : ℕ) → IsWholeFrom 0 ts → text_of ts ≡ Err (faults.Unexpected at) → (left : ℕ) → Refused left ts at
unexpected_refused ts at w read left =
    let q = stopped ts (faults.Unexpected at) w read in
    refused_at {E = Unit {0}} left (λ less. tt) ts (faults.Unexpected at) at (λ deep k. not_deep at k) w q (sym q.names)

pub deep_refused : (ts : List Lexeme) (at : ℕ) → IsWholeFrom 0 ts → text_of ts ≡ Err (faults.TooDeep at) → Refused n ts at
deep_refused ts at w read =
    let q = stopped ts (faults.TooDeep at) w read in
    refused_at {E = ⊥} n (λ less. absurd (omega arith)) ts (faults.TooDeep at) at (λ deep k e. deep) w q (sym q.names)

pub parentheses_refused : (ts : List Lexeme) (at : ℕ) → IsWholeFrom 0 ts → text_of ts ≡ Err (faults.Parentheses at) → (left : ℕ) → Refused left ts at
parentheses_refused ts at w read left =
    let q = stopped ts (faults.Parentheses at) w read in
    refused_at {E = Unit {0}} left (λ less. tt) ts (faults.Parentheses at) at (λ deep k. not_too_deep at k) w q (sym q.names)
