-- A variable is compared with one value: the cases of all others say nothing.
use Rattle.std.proofs.Common.{◌≡◌, ℕ, Bool, true, false, ◌&&◌, ◌||◌, List, [], ◌∷◌, map, refl, sym, ◌∙◌, ap, subst}
use Rattle.std.specs.List.{list_any}
use Rattle.spec_model.specs.declared.value.Value.{Value}
use Rattle.spec_model.specs.declared.expr.Compare.TheVariants.{Eq}
use Rattle.spec_model.specs.Values.{DomainData, same_value, values_of, rank_of}
use Rattle.spec_model.specs.Meaning.{compare_values}
use Rattle.spec_model.specs.Diagrams.{Bits, Function}
use Rattle.spec_model.proofs.AllStates.{same_value-true}
use Rattle.game_values.specs.declared.seen.At.{At}
use Rattle.bit_compile.specs.Compiled.{coded, is_code, only, some_pair}
use Rattle.bit_compile.proofs.Describing.{same_value-sym}

shared : (a b h : Bool) → ((a && h) || (b && h)) ≡ ((a || b) && h)
shared true true true = refl
shared true true false = refl
shared true false true = refl
shared true false false = refl
shared false b h = refl

module _ (had : Value → Function) (v : Value) (s : Bits) where
  alone : (w : Value) (same : Bool) → same_value w v ≡ same → ((same && (had w s && true)) || false) ≡ (same && had v s)
  alone w true e = subst (λ (u : Value). ((true && (had w s && true)) || false) ≡ (true && had u s)) (same_value-true w v e) (kept (had w s))
    where
      kept : (b : Bool) → ((true && (b && true)) || false) ≡ (true && b)
      kept true = refl
      kept false = refl
  alone w false e = refl

  one : (w : Value) → ((same_value w v && (had w s && true)) || false) ≡ (same_value v w && had v s)
  one w = alone w (same_value w v) refl ∙ ap (λ b. b && had v s) (same_value-sym w v)

  told : (vs : List Value) → some_pair (compare_values Eq) (map (λ w. record { value = w; holds = had w }) vs) (only v) s ≡ (list_any (same_value v) vs && had v s)
  told [] = refl
  told (w ∷ vs) = (λ i. one w i || told vs i) ∙ shared (same_value v w) (list_any (same_value v) vs) (had v s)

pub equation_told : (ds : List DomainData) (at : At) (p : ℕ) (d : DomainData) (v : Value) → list_any (same_value v) (values_of d) ≡ true →
    is_code ds at p (rank_of d v) ≡ some_pair (compare_values Eq) (coded ds at p d) (only v)
equation_told ds at p d v among = λ i s. sym (told (λ w. is_code ds at p (rank_of d w)) v s (values_of d) ∙ ap (λ b. b && is_code ds at p (rank_of d v) s) among) i
