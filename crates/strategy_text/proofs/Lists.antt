-- Lists that are written and read.
use Rattle.std.proofs.Common.{◌≡◌, ℕ, ◌+◌, ◌<◌, ◌≤◌, suc, List, [], ◌∷◌, ◌++◌, Bool, true, false, map, length, get_or, drop, Option, Some, None, option_map, option_and_then, All, refl, sym, ap, ap₂, ◌∙◌, subst, append_assoc, append-nil, arith}
use Rattle.std.proofs.lemmas.Option.{none-some, same_Some}
use Rattle.std.proofs.lemmas.List.{drop_more, drop_all, length-map, get_or-map}
use Rattle.std.proofs.lemmas.List.Elements.{All-nil, All-cons, All-head, All-tail}
use Rattle.serde_json.specs.Data.{Data}
use Rattle.serde_json.specs.View.{items_of}
use Rattle.spec_model.specs.declared.value.Owner.{Owner}
use Rattle.spec_model.specs.declared.value.Owner.TheVariants.{Env, Sys}
use Rattle.spec_model.specs.Syntax.{VariableData}
use Rattle.spec_model.specs.Moves.{is_of, domains_of}
use Rattle.strategy_text.specs.Reading.{listed, all_read, each_read}

pub listed-items_of : (ds : List Data) → listed (items_of ds) ≡ ds
listed-items_of [] = refl
listed-items_of (d ∷ ds) = ap (λ es. d ∷ es) (listed-items_of ds)

-- ---- what stands before the rest

pub before : {X : Type 0} → List X → Option (List X) → Option (List X)
before done rest = option_map (λ xs. done ++ xs) rest

pub before-nothing : {X : Type 0} (rest : Option (List X)) → before [] rest ≡ rest
unfolding before
before-nothing None = refl
before-nothing (Some xs) = refl

pub before-none : {X : Type 0} (done : List X) (rest : Option (List X)) → rest ≡ None → before done rest ≡ None
unfolding before
before-none done rest none = rw none

-- one more that is done
pub before-more : {X : Type 0} (done : List X) (o : Option X) (x : X) (rest : Option (List X)) → o ≡ Some x
    → before done (option_and_then (λ y. option_map (λ ys. y ∷ ys) rest) o) ≡ before (done ++ x ∷ []) rest
unfolding before
before-more done o x None is = rw is
before-more done o x (Some xs) is = rw is (ap Some (sym (append_assoc done (x ∷ []) xs)))

pub before-all : {X : Type 0} (done : List X) → before done (Some []) ≡ Some done
unfolding before
before-all done = ap Some (append-nil done)

-- ---- each of a list

-- what all of a written list read as
pub all_read-map : {X : Type 0} (reader : Data → Option X) (json : X → Data) (P : X → Type 0) → ((x : X) → P x → reader (json x) ≡ Some x) → (xs : List X) → All P xs → all_read reader (map json xs) ≡ Some xs
all_read-map reader json P back [] all = refl
all_read-map reader json P back (x ∷ xs) all =
    rw (back x (All-head P x xs all), all_read-map reader json P back xs (All-tail P x xs all))

-- what holds of all that is read
pub all_read-each : {X : Type 0} (reader : Data → Option X) (P : X → Type 0) → ((d : Data) (x : X) → reader d ≡ Some x → P x) → (ds : List Data) (xs : List X) → all_read reader ds ≡ Some xs → (length xs ≡ length ds) × All P xs
all_read-each reader P each [] xs e = subst (λ ys. (length ys ≡ 0) × All P ys) (same_Some [] xs e) (refl, All-nil P)
all_read-each {X} reader P each (d ∷ ds) xs e = at (λ ys g. all_read-each reader P each ds ys g) (reader d) refl (all_read reader ds) refl e
  where
    at : ((ys : List X) → all_read reader ds ≡ Some ys → (length ys ≡ length ds) × All P ys) → (o : Option X) → reader d ≡ o → (r : Option (List X)) → all_read reader ds ≡ r → option_and_then (λ x. option_map (λ ys. x ∷ ys) r) o ≡ Some xs → (length xs ≡ length (d ∷ ds)) × All P xs
    at later None f r g is = absurd (none-some xs is)
    at later (Some x) f None g is = absurd (none-some xs is)
    at later (Some x) f (Some ys) g is =
        let rest = later ys g in
        subst (λ zs. (length zs ≡ length (d ∷ ds)) × All P zs) (same_Some (x ∷ ys) xs is) (ap (λ n. suc n) rest.0, All-cons P x ys (each d x f) rest.1)

-- ---- steps of loops: what is left decides

-- what is left of a list, from the element at its place
pub left_at : {X Y : Type 0} (f : X → Y) (xs : List X) (i : ℕ) (x : X) → i < length xs → x ≡ get_or xs i x → drop i (map f xs) ≡ f x ∷ drop (i + 1) (map f xs)
left_at f xs i x within is =
    drop_more (map f xs) i (f x) (omega (arith, length-map xs f)) ∙ ap (λ y. y ∷ drop (i + 1) (map f xs)) (get_or-map f xs i x (f x) within ∙ ap f (sym is))

pub left_past : {X Y : Type 0} (f : X → Y) (xs : List X) (i : ℕ) → length xs ≤ i → drop i (map f xs) ≡ []
left_past f xs i past = drop_all i (map f xs) (omega (arith, length-map xs f))

module _ {X : Type 0} (reader : Data → Option X) (done : List X) where
  pub all_read-step : (ds : List Data) (d : Data) (rest : List Data) (x : X) → ds ≡ d ∷ rest → reader d ≡ Some x → before done (all_read reader ds) ≡ before (done ++ x ∷ []) (all_read reader rest)
  all_read-step ds d rest x here is = ap (λ es. before done (all_read reader es)) here ∙ before-more done (reader d) x (all_read reader rest) is

  pub all_read-stop : (ds : List Data) (d : Data) (rest : List Data) → ds ≡ d ∷ rest → reader d ≡ None → before done (all_read reader ds) ≡ None
  all_read-stop ds d rest here none = before-none done (all_read reader ds) (ap (λ es. all_read reader es) here ∙ rw none)

  pub all_read-end : (ds : List Data) → ds ≡ [] → before done (all_read reader ds) ≡ Some done
  all_read-end ds empty = ap (λ es. before done (all_read reader es)) empty ∙ before-all done

module _ {W X : Type 0} (reader : W → Data → Option X) (done : List X) where
  pub each_read-step : (ws : List W) (w : W) (others : List W) (ds : List Data) (d : Data) (rest : List Data) (x : X) → ws ≡ w ∷ others → ds ≡ d ∷ rest → reader w d ≡ Some x
      → before done (each_read reader ws ds) ≡ before (done ++ x ∷ []) (each_read reader others rest)
  each_read-step ws w others ds d rest x wanted here is =
      ap₂ (λ us es. before done (each_read reader us es)) wanted here ∙ before-more done (reader w d) x (each_read reader others rest) is

  pub each_read-stop : (ws : List W) (w : W) (others : List W) (ds : List Data) (d : Data) (rest : List Data) → ws ≡ w ∷ others → ds ≡ d ∷ rest → reader w d ≡ None → before done (each_read reader ws ds) ≡ None
  each_read-stop ws w others ds d rest wanted here none = before-none done (each_read reader ws ds) (ap₂ (λ us es. each_read reader us es) wanted here ∙ rw none)

  -- too few, too many, and as many as are wanted
  pub each_read-short : (ws : List W) (w : W) (others : List W) (ds : List Data) → ws ≡ w ∷ others → ds ≡ [] → before done (each_read reader ws ds) ≡ None
  each_read-short ws w others ds wanted empty = before-none done (each_read reader ws ds) (ap₂ (λ us es. each_read reader us es) wanted empty)

  pub each_read-long : (ws : List W) (ds : List Data) (d : Data) (rest : List Data) → ws ≡ [] → ds ≡ d ∷ rest → before done (each_read reader ws ds) ≡ None
  each_read-long ws ds d rest none here = before-none done (each_read reader ws ds) (ap₂ (λ us es. each_read reader us es) none here)

  pub each_read-end : (ws : List W) (ds : List Data) → ws ≡ [] → ds ≡ [] → before done (each_read reader ws ds) ≡ Some done
  each_read-end ws ds none empty = ap₂ (λ us es. before done (each_read reader us es)) none empty ∙ before-all done

pub each_read-uneven : {W X : Type 0} (reader : W → Data → Option X) (ws : List W) (ds : List Data) → (length ws ≡ length ds → ⊥) → each_read reader ws ds ≡ None
each_read-uneven reader [] [] other = absurd (other refl)
each_read-uneven reader [] (d ∷ ds) other = refl
each_read-uneven reader (w ∷ ws) [] other = refl
each_read-uneven {X} reader (w ∷ ws) (d ∷ ds) other = at (reader w d) (each_read-uneven reader ws ds (λ same. other (ap (λ n. suc n) same)))
  where
    at : (o : Option X) → each_read reader ws ds ≡ None → option_and_then (λ x. option_map (λ xs. x ∷ xs) (each_read reader ws ds)) o ≡ None
    at None none = refl
    at (Some x) none = rw none

-- ---- the domains of an owner's variables

module _ (test : Owner → Bool) (vs : List VariableData) (v : VariableData) (others : List VariableData) (here : vs ≡ v ∷ others) where
  pub owned_here : test v.owner ≡ true → domains_of test vs ≡ v.domain ∷ domains_of test others
  owned_here owns = ap (domains_of test) here ∙ rw owns

  pub not_owned_here : test v.owner ≡ false → domains_of test vs ≡ domains_of test others
  not_owned_here owns = ap (domains_of test) here ∙ rw owns

pub owned_by : (a b : Owner) → a ≡ b → is_of b a ≡ true
owned_by Env Env same = refl
owned_by Sys Sys same = refl
owned_by Env Sys same = cc
owned_by Sys Env same = cc

pub not_owned_by : (a b : Owner) → (a ≡ b → ⊥) → is_of b a ≡ false
not_owned_by Env Env other = absurd (other refl)
not_owned_by Sys Sys other = absurd (other refl)
not_owned_by Env Sys other = refl
not_owned_by Sys Env other = refl
