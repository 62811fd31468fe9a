-- Lists that are made number by number, and the slots that a formula names.
use Rattle.std.proofs.Common.{◌≡◌, ℕ, zero, suc, ◌+◌, ◌<◌, ◌≤◌, Bool, true, false, cond, List, [], ◌∷◌, ◌++◌, append_assoc, map, filter, length, get_or, refl, sym, ◌∙◌, ap, subst, arith, Vec}
use Rattle.std.specs.List.{All}
use Rattle.std.specs.declared.alloc.Global.{Global}
use Rattle.std.proofs.lemmas.List.{map-append, length-map}
use Rattle.std.proofs.lemmas.Option.{slice_get_past}
use Rattle.std.proofs.lemmas.List.Elements.{filter-append, All-nil, All-cons, All-append, All-map, All-filter, All-get_or}
use Rattle.spec_model.specs.Steps.{below}
use Rattle.spec_model.specs.Syntax.{Formula}
use Rattle.spec_model.specs.Games.{GameData}
use Rattle.game_values.specs.declared.seen.At.{At}
use Rattle.game_values.specs.declared.seen.At.TheVariants.{Now, Next}
use Rattle.game_values.proofs.Lists.{length-below}
use Rattle.game_values.proofs.Typed.{get-map-below}
use Rattle.bit_compile.specs.Domains.{state_domains}
use Rattle.bit_compile.specs.Compiled.{place_of}
use Rattle.bit_compile.proofs.NamedSteps.{mapped_is}
use Rattle.line_functions.specs.declared.slots.TimedSlot.{TimedSlot}
use Rattle.line_functions.specs.declared.slots.Marks.{Marks}
use Rattle.line_functions.specs.Names.{marks_of, is_named, slot_at, named_at, named_in}
use Rattle.line_functions.specs.Asking.{ArePlaces, AreMarks}

-- ---- one number more

below_more : (n : ℕ) → below (n + 1) ≡ below n ++ n ∷ []
below_more n = let next : n + 1 ≡ suc n = omega arith in ap below next

pub map_below-push : {X : Type 0} (f : ℕ → X) (n : ℕ) (so_far new : List X) (x : X) → so_far ≡ map f (below n) → x ≡ f n → new ≡ so_far ++ x ∷ [] → new ≡ map f (below (n + 1))
map_below-push f n so_far new x is here pushed =
    pushed
    ∙ (ap (λ xs. xs ++ x ∷ []) is
    ∙ (ap (λ y. map f (below n) ++ y ∷ []) here
    ∙ sym (ap (map f) (below_more n) ∙ map-append f (below n) (n ∷ []))))

map_cond : {X Y : Type 0} (f : X → Y) (b : Bool) (x : X) → map f (cond b (x ∷ []) []) ≡ cond b (f x ∷ []) []
map_cond f true x = refl
map_cond f false x = refl

kept_below-more : {X : Type 0} (f : ℕ → X) (p : ℕ → Bool) (n : ℕ) → map f (filter p (below (n + 1))) ≡ map f (filter p (below n)) ++ cond (p n) (f n ∷ []) []
kept_below-more f p n =
    ap (λ ks. map f (filter p ks)) (below_more n)
    ∙ (ap (map f) (filter-append p (below n) (n ∷ []))
    ∙ (map-append f (filter p (below n)) (cond (p n) (n ∷ []) [])
    ∙ ap (λ xs. map f (filter p (below n)) ++ xs) (map_cond f (p n) n)))

-- the number is kept, or not
pub kept_below-push : {X : Type 0} (f : ℕ → X) (p : ℕ → Bool) (n : ℕ) (old so_far new : List X) (b : Bool) → so_far ≡ old ++ map f (filter p (below n)) → b ≡ p n →
    new ≡ so_far ++ cond b (f n ∷ []) [] → new ≡ old ++ map f (filter p (below (n + 1)))
kept_below-push f p n old so_far new b is here pushed =
    pushed
    ∙ (ap (λ xs. xs ++ cond b (f n ∷ []) []) is
    ∙ (append_assoc old (map f (filter p (below n))) (cond b (f n ∷ []) [])
    ∙ ap (λ xs. old ++ xs) (ap (λ c. map f (filter p (below n)) ++ cond c (f n ∷ []) []) here ∙ sym (kept_below-more f p n))))

-- ---- places and marks

module _ (g : GameData) (places : List ℕ) (all : ArePlaces g places) where
  places_long : length places ≡ length g.variables
  places_long = ap length all.are ∙ (length-map (below (length g.variables)) (place_of g) ∙ length-below (length g.variables))

  pub place_there : (x d : ℕ) → x < length places → get_or places x d ≡ place_of g x
  place_there x d less = ap (λ ps. get_or ps x d) all.are ∙ get-map-below (place_of g) (length g.variables) x d (omega (arith, places_long, less))

  -- one that isn't there
  pub place_past : (x : ℕ) → length places ≤ x → length g.hidden ≡ place_of g x
  place_past x past = let none = slice_get_past g.variables x (omega (arith, places_long, past)) in rw none (omega arith)

module _ (g : GameData) (m : Marks) (are : AreMarks g m) where
  pub marks_long : length m.tables.items ≡ length (state_domains g)
  marks_long =
      let n = length (state_domains g) in
      sym (length-map m.tables.items (λ (t : Vec Bool Global). t.items)) ∙ (ap length are.tables ∙ (length-map (below n) (marks_of g) ∙ length-below n))

  pub marks_there : (k : ℕ) (row : Vec Bool Global) → k < length (state_domains g) → row ≡ get_or m.tables.items k row → row.items ≡ marks_of g k
  marks_there k row less is =
      mapped_is (λ (t : Vec Bool Global). t.items) m.tables.items k row is
      ∙ (ap (λ rows. get_or rows k row.items) are.tables ∙ get-map-below (marks_of g) (length (state_domains g)) k row.items less)

-- ---- named slots

below_all : (n m : ℕ) → n ≤ m → All (λ k. k < m) (below n)
below_all zero m most = All-nil (λ k. k < m)
below_all (suc n) m most = All-append (λ k. k < m) (below n) (n ∷ []) (below_all n m (omega arith)) (All-cons (λ k. k < m) n [] (omega arith) (All-nil (λ k. k < m)))

abbrev IsSlot : GameData → TimedSlot → Type 0
IsSlot g s = s.slot < length (state_domains g)

at_all : (g : GameData) (e : Formula) (time : At) → All (IsSlot g) (named_at g e time)
at_all g e time =
    let n = length (state_domains g) in
    All-map (IsSlot g) (slot_at time) (filter (is_named g e time) (below n)) (All-filter (is_named g e time) (λ k. k < n) (below n) (below_all n n (omega arith)))

-- they are slots of a state
pub slot_there : (g : GameData) (e : Formula) (named : List TimedSlot) (i : ℕ) (s : TimedSlot) → named ≡ named_in g e → i < length named → s ≡ get_or named i s → s.slot < length (state_domains g)
slot_there g e named i s are less is =
    let all = All-append (IsSlot g) (named_at g e Now) (named_at g e Next) (at_all g e Now) (at_all g e Next) in
    subst (IsSlot g) (sym is) (All-get_or (IsSlot g) named i s less (subst (All (IsSlot g)) (sym are) all))
