-- Parts of the values of a state, and their bits.
use Rattle.std.proofs.Common.{◌≡◌, ℕ, suc, ◌+◌, ◌-◌, ◌<◌, ◌≤◌, Bool, true, false, Option, List, [], ◌∷◌, ◌++◌, length, length-append, get_or, refl, sym, ◌∙◌, ap, subst, arith}
use Rattle.std.proofs.lemmas.Bool.{and_from}
use Rattle.std.proofs.lemmas.List.{get_or_append_left, get_or-append_right}
use Rattle.std.specs.List.{list_any}
use Rattle.spec_model.specs.declared.value.Value.{Value}
use Rattle.spec_model.specs.declared.value.Value.TheVariants as value
use Rattle.spec_model.specs.Values.{DomainData, TruthValues, is_assignment, same_value, values_of, rank_of}
use Rattle.spec_model.specs.Diagrams.{Bits}
use Rattle.game_values.specs.declared.seen.At.{At}
use Rattle.bdd_ops.specs.Paths.{Agrees}
use Rattle.bit_compile.specs.Codes.{level_at, width_at, domain_in, HasValues}
use Rattle.bit_compile.proofs.NumberLemmas.{one_number}
use Rattle.bit_compile.proofs.SlotLemmas.{value_among, length-assignment}
use Rattle.bit_compile.proofs.LawLemmas.{code_small, one_value}
use Rattle.bdd_search.specs.Parts.{value_in, has_value_at, AreOf, ArePart, HaveValues, AreFixed}
use Rattle.bdd_search.proofs.ReadLemmas.{same_values}

pub get_part : {X : Type 0} (ws vs us : List X) (d : X) (n k : ℕ) → length ws ≡ n → k < length vs → get_or (ws ++ (vs ++ us)) (n + k) d ≡ get_or vs k d
get_part ws vs us d n k long below =
    let back : (n + k) - n ≡ k = omega arith in
    get_or-append_right ws (vs ++ us) n (n + k) d long (omega arith) ∙ (ap (λ i. get_or (vs ++ us) i d) back ∙ get_or_append_left vs us d k below)

pub get_last : {X : Type 0} (ws vs us : List X) (d : X) (n j k : ℕ) → length ws ≡ n → length vs ≡ j → get_or (ws ++ (vs ++ us)) ((n + j) + k) d ≡ get_or us k d
get_last ws vs us d n j k long wide =
    let back : ((n + j) + k) - n ≡ j + k = omega arith in
    let again : (j + k) - j ≡ k = omega arith in
    get_or-append_right ws (vs ++ us) n ((n + j) + k) d long (omega arith)
    ∙ (ap (λ i. get_or (vs ++ us) i d) back ∙ (get_or-append_right vs us j (j + k) d wide (omega arith) ∙ ap (λ i. get_or us i d) again))

-- ---- a part of the values of all slots

pub part_have : (ds : List DomainData) (at : At) (ws vs us : List Value) (n : ℕ) (s : Bits) → length ws ≡ n → n + length vs ≤ length ds → HasValues ds at (ws ++ (vs ++ us)) s → HaveValues ds at n vs s
part_have ds at ws vs us n s long within has k below = subst (λ v. has_value_at ds at (n + k) v s ≡ true) (get_part ws vs us (value.Bool false) n k long below) (has (n + k) (omega (arith, below, within)))

pub part_of : (ds : List DomainData) (ws vs us : List Value) (n : ℕ) → length ws ≡ n → is_assignment ds (ws ++ (vs ++ us)) ≡ true → AreOf ds n vs
part_of ds ws vs us n long fits k below =
    let all = length-append ws (vs ++ us) in
    let more = length-append vs us in
    subst (λ v. list_any (same_value v) (values_of (domain_in ds (n + k))) ≡ true) (get_part ws vs us (value.Bool false) n k long below) (value_among ds (ws ++ (vs ++ us)) (n + k) fits (omega (arith, all, more, long, below)))

-- the last part
pub last_have : (ds : List DomainData) (at : At) (ws vs us : List Value) (n j : ℕ) (s : Bits) → length ws ≡ n → length vs ≡ j → (n + j) + length us ≤ length ds → HasValues ds at (ws ++ (vs ++ us)) s → HaveValues ds at (n + j) us s
last_have ds at ws vs us n j s long wide within has k below = subst (λ v. has_value_at ds at ((n + j) + k) v s ≡ true) (get_last ws vs us (value.Bool false) n j k long wide) (has ((n + j) + k) (omega (arith, below, within)))

pub last_of : (ds : List DomainData) (ws vs us : List Value) (n j : ℕ) → length ws ≡ n → length vs ≡ j → is_assignment ds (ws ++ (vs ++ us)) ≡ true → AreOf ds (n + j) us
last_of ds ws vs us n j long wide fits k below =
    let all = length-append ws (vs ++ us) in
    let more = length-append vs us in
    subst (λ v. list_any (same_value v) (values_of (domain_in ds ((n + j) + k))) ≡ true) (get_last ws vs us (value.Bool false) n j k long wide) (value_among ds (ws ++ (vs ++ us)) ((n + j) + k) fits (omega (arith, all, more, long, wide, below)))

-- ---- all of them

pub whole_of : (ds : List DomainData) (vs : List Value) → is_assignment ds vs ≡ true → ArePart ds 0 (length ds) vs
whole_of ds vs fits =
    let long = length-assignment ds vs fits in
    (omega (arith, long), λ k below. let here : k ≡ 0 + k = omega arith in subst (λ i. list_any (same_value (value_in vs k)) (values_of (domain_in ds i)) ≡ true) here (value_among ds vs k fits below))

pub whole_have : (ds : List DomainData) (at : At) (vs : List Value) (s : Bits) → length vs ≤ length ds → HasValues ds at vs s → HaveValues ds at 0 vs s
whole_have ds at vs s small has k below = let here : k ≡ 0 + k = omega arith in subst (λ i. has_value_at ds at i (value_in vs k) s ≡ true) here (has k (omega (arith, below, small)))

pub have_whole : (ds : List DomainData) (at : At) (vs : List Value) (s : Bits) → length ds ≤ length vs → HaveValues ds at 0 vs s → HasValues ds at vs s
have_whole ds at vs s large have k below = let here : 0 + k ≡ k = omega arith in subst (λ i. has_value_at ds at i (value_in vs k) s ≡ true) here (have k (omega (arith, below, large)))

-- ---- what is fixed

pub agrees_have : (ds : List DomainData) (at : At) (n : ℕ) (vs : List Value) (fixed : List (Option Bool)) → AreFixed ds at n vs fixed → (s : Bits) → Agrees fixed 0 s → HaveValues ds at n vs s
agrees_have ds at n vs fixed fixes s agrees k below = fixes k below s (λ m low above. agrees m (omega arith))

-- values with the same bits are one
pub one_part : (ds : List DomainData) (at : At) (n : ℕ) (vs us : List Value) (s : Bits) → length vs ≡ length us → AreOf ds n vs → AreOf ds n us → HaveValues ds at n vs s → HaveValues ds at n us s → vs ≡ us
one_part ds at n vs us s long of_v of_u has_v has_u =
    same_values vs us long (λ k below.
    let d = domain_in ds (n + k) in
    let av = of_v k below in
    let au = of_u k (omega (arith, long, below)) in
    one_value d (value_in vs k) (value_in us k) av au (one_number (level_at ds at (n + k)) (width_at ds (n + k)) (rank_of d (value_in vs k)) (rank_of d (value_in us k)) s (code_small d (value_in vs k) av) (code_small d (value_in us k) au) (has_v k below) (has_u k (omega (arith, long, below)))))

-- ---- assignments of some of the domains

assignment_from : (ds : List DomainData) (vs : List Value) → length vs ≡ length ds → ((k : ℕ) → k < length vs → list_any (same_value (value_in vs k)) (values_of (domain_in ds k)) ≡ true) → is_assignment ds vs ≡ true
assignment_from [] [] long among = refl
assignment_from [] (v ∷ vs) long among = absurd (omega (arith, long))
assignment_from (d ∷ ds) [] long among = absurd (omega (arith, long))
assignment_from (d ∷ ds) (v ∷ vs) long among = and_from _ _ (among 0 (omega arith)) (assignment_from ds vs (omega (arith, long)) (λ k below. among (suc k) (omega (arith, below))))

module _ (before own after : List DomainData) (n end : ℕ) (long : length before ≡ n) (ends : n + length own ≡ end) (vs : List Value) where
  pub part_assignment : ArePart (before ++ (own ++ after)) n end vs → is_assignment own vs ≡ true
  part_assignment part =
      let count = part.0 in
      let same : length vs ≡ length own = omega (arith, count, ends) in
      assignment_from own vs same (λ k below. subst (λ d. list_any (same_value (value_in vs k)) (values_of d) ≡ true) (get_part before own after TruthValues n k long (omega (arith, same, below))) (part.1 k below))

  pub assignment_part : is_assignment own vs ≡ true → ArePart (before ++ (own ++ after)) n end vs
  assignment_part fits =
      let same = length-assignment own vs fits in
      (omega (arith, same, ends), λ k below. subst (λ d. list_any (same_value (value_in vs k)) (values_of d) ≡ true) (sym (get_part before own after TruthValues n k long (omega (arith, same, below)))) (value_among own vs k fits below))

-- the values of all slots are an assignment
pub whole_assignment : (ds : List DomainData) (vs : List Value) → ArePart ds 0 (length ds) vs → is_assignment ds vs ≡ true
whole_assignment ds vs part =
    let count = part.0 in
    assignment_from ds vs (omega (arith, count)) (λ k below. let here : 0 + k ≡ k = omega arith in subst (λ i. list_any (same_value (value_in vs k)) (values_of (domain_in ds i)) ≡ true) here (part.1 k below))
