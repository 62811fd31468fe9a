-- Operators in text order: their kinds and faults, and what is open in their operands.
use Rattle.std.proofs.Common.{◌≡◌, ℕ, zero, suc, ◌+◌, ◌-◌, ◌<◌, ◌≤◌, nat_lt, Bool, true, false, ◌&&◌, ◌||◌, if◌then◌else◌, List, [], ◌∷◌, length, map, drop, get_or, Option, Some, None, inl, inr, refl, sym, ap, subst, ◌∙◌, arith}
use Rattle.std.proofs.lemmas.Bool.{cases_lt}
use Rattle.std.proofs.lemmas.Bool.Decides.{nat_tests}
use Rattle.spectra_resolved.specs.declared.spot.Spot.{Spot}
use Rattle.spectra_resolved.specs.declared.tree.Link.{Link}
use Rattle.spectra_resolved.specs.Resolved.{ResolvedTree}
use Rattle.spectra_resolved.specs.Chained.{LinkData, joined, chained}
use Rattle.spectra_resolved.specs.Views.{resolved_data, link_data}
use Rattle.spectra_resolved.specs.declared.findings.Finding.{Finding}
use Rattle.spectra_judge.specs.declared.chains.Opened.{Opened}
use Rattle.spectra_resolved.specs.Findings.{with_faults}
use Rattle.spectra_judge.specs.Operators.{is_past}
use Rattle.spectra_judge.specs.Around.{Around, first_brought, within}
use Rattle.spectra_judge.specs.Known.{Known, Setting}
use Rattle.spectra_judge.specs.Judged.{kind_of, faults}
use Rattle.spectra_judge.specs.Chains.{opened, has_past, brought_in, link_faults, chain_kind, chain_faults}
use Rattle.spectra_judge.specs.OpenedViews.{outer_or, opened_at}
use Rattle.spectra_resolved.proofs.First.{with_faults_append}
use Rattle.spectra_judge.proofs.Lists.{mapped_left}

-- ---- kinds

pub chain_kind_is : (known : Known) (t : ResolvedTree) (ls : List LinkData) → chain_kind known (kind_of known t) ls ≡ kind_of known (chained t ls)
chain_kind_is known t [] = refl
chain_kind_is known t (l ∷ ls) = chain_kind_is known (joined t l) ls

-- ---- what is open

-- each of what is open, by itself
pub opened_is : (o : Around) (ls : List LinkData) → opened o ls ≡ record { next = o.next; past = o.past || has_past ls; brought = outer_or o.brought (brought_in ls); bound = o.bound }
opened_is o [] = λ i. record { next = o.next; past = sym (or-false o.past) i; brought = sym (outer_or-none o.brought) i; bound = o.bound }
  where
    or-false : (b : Bool) → (b || false) ≡ b
    or-false true = refl
    or-false false = refl

    outer_or-none : (p : Option Spot) → outer_or p None ≡ p
    outer_or-none (Some at) = refl
    outer_or-none None = refl
opened_is o (l ∷ ls) = ap (within (is_past l.word) l.at) (opened_is o ls) ∙ by (is_past l.word)
  where
    or-true : (b : Bool) → true ≡ (b || true)
    or-true true = refl
    or-true false = refl

    one-more : (outer inner : Option Spot) (here : Bool) → first_brought (outer_or outer inner) here l.at.spot ≡ outer_or outer (first_brought inner here l.at.spot)
    one-more (Some at) inner here = refl
    one-more None inner here = refl

    none-more : (inner : Option Spot) → inner ≡ first_brought inner false l.at.spot
    none-more (Some at) = refl
    none-more None = refl

    by : (past : Bool) → within past l.at (record { next = o.next; past = o.past || has_past ls; brought = outer_or o.brought (brought_in ls); bound = o.bound })
        ≡ record { next = o.next; past = o.past || (past || has_past ls); brought = outer_or o.brought (first_brought (brought_in ls) (past && l.at.brought) l.at.spot); bound = o.bound }
    by true = λ i. record { next = o.next; past = or-true o.past i; brought = one-more o.brought (brought_in ls) l.at.brought i; bound = o.bound }
    by false = λ i. record { next = o.next; past = o.past || has_past ls; brought = outer_or o.brought (none-more (brought_in ls) i); bound = o.bound }

pub next_stays : (o : Around) (ls : List LinkData) → (opened o ls).next ≡ o.next
next_stays o ls = ap (λ (a : Around). a.next) (opened_is o ls)

-- ---- faults

pub chain_faults_is : (s : Setting) (o : Around) (found : Option Finding) (t : ResolvedTree) (ls : List LinkData)
    → with_faults (with_faults found (faults s (opened o ls) t)) (chain_faults s o (kind_of s.known t) ls) ≡ with_faults found (faults s o (chained t ls))
chain_faults_is s o found t [] = refl
chain_faults_is s o found t (l ∷ ls) =
    let inner = opened o (l ∷ ls) in
    let k = kind_of s.known t in
    with_faults_append (with_faults found (faults s inner t)) (link_faults s inner o.next k l) (chain_faults s o (kind_of s.known (joined t l)) ls)
    ∙ ap (λ f. with_faults f (chain_faults s o (kind_of s.known (joined t l)) ls))
    ((λ i. with_faults (with_faults found (faults s inner t)) (link_faults s inner (sym (next_stays o ls) i) k l))
    ∙ sym (with_faults_append found (faults s inner t) (link_faults s inner (opened o ls).next k l)))
    ∙ chain_faults_is s o found (joined t l) ls

-- ---- past operators

pub or-right : (a b : Bool) → b ≡ true → (a || b) ≡ true
or-right true b e = refl
or-right false b e = e

has-stays : (ls : List Link) (k m : ℕ) → k ≤ m → has_past (map link_data (drop m ls)) ≡ true → has_past (map link_data (drop k ls)) ≡ true
has-stays [] zero zero below e = e
has-stays [] zero (suc m) below e = e
has-stays [] (suc k) zero below e = e
has-stays [] (suc k) (suc m) below e = e
has-stays (l ∷ ls) zero zero below e = e
has-stays (l ∷ ls) zero (suc m) below e = or-right (is_past (link_data l).word) (has_past (map link_data ls)) (has-stays ls zero m (omega arith) e)
has-stays (l ∷ ls) (suc k) zero below e = absurd (omega arith)
has-stays (l ∷ ls) (suc k) (suc m) below e = has-stays ls k m (omega arith) e

brought-stays : (at : Spot) (ls : List Link) (k m : ℕ) → k ≤ m → brought_in (map link_data (drop m ls)) ≡ Some at → brought_in (map link_data (drop k ls)) ≡ Some at
brought-stays at [] zero zero below e = e
brought-stays at [] zero (suc m) below e = e
brought-stays at [] (suc k) zero below e = e
brought-stays at [] (suc k) (suc m) below e = e
brought-stays at (l ∷ ls) zero zero below e = e
brought-stays at (l ∷ ls) zero (suc m) below e =
    ap (λ f. first_brought f (is_past (link_data l).word && (link_data l).at.brought) (link_data l).at.spot) (brought-stays at ls zero m (omega arith) e)
brought-stays at (l ∷ ls) (suc k) zero below e = absurd (omega arith)
brought-stays at (l ∷ ls) (suc k) (suc m) below e = brought-stays at ls k m (omega arith) e

-- operators, and the one before a place among them
module _ (ls : List Link) (last : ℕ) (some : 0 < last) (within_list : last ≤ length ls) (l : Link) (is : l ≡ get_or ls (last - 1) l) where
  behind : last - 1 + 1 ≡ last
  behind = omega arith

  here : map link_data (drop (last - 1) ls) ≡ record { first = l.first; at = l.at; word = l.word; second = resolved_data l.second } ∷ map link_data (drop last ls)
  here =
      mapped_left link_data ls (last - 1) l (omega arith) is
      ∙ (λ i. link_data l ∷ map link_data (drop (behind i) ls))

  -- none of those from the place on is a past operator
  module _ (nothing : (place : ℕ) → last ≤ place → has_past (map link_data (drop place ls)) ≡ false) where
    has_here : (past : Bool) → is_past l.word ≡ past → has_past (map link_data (drop (last - 1) ls)) ≡ (past || false)
    has_here past word = ap has_past here ∙ (λ i. word i || nothing last (omega arith) i)

    pub past_found : is_past l.word ≡ true → (place : ℕ) → has_past (map link_data (drop place ls)) ≡ nat_lt place last
    past_found word place = by (nat_lt place last) refl
      where
        by : (b : Bool) → nat_lt place last ≡ b → has_past (map link_data (drop place ls)) ≡ b
        by true e = let less : place < last = grind (arith, nat_tests) in has-stays ls place (last - 1) (omega arith) (has_here true word)
        by false e = let more : last ≤ place = grind (arith, nat_tests) in nothing place more

    pub not_past : is_past l.word ≡ false → (place : ℕ) → last - 1 ≤ place → has_past (map link_data (drop place ls)) ≡ false
    not_past word place later = elim (cases_lt place last) [
      | inl before ↦ let e : last - 1 ≡ place = omega arith in subst (λ k. has_past (map link_data (drop k ls)) ≡ false) e (has_here false word)
      | inr more ↦ nothing place more
    ]

  -- no body brings a past operator from the place on
  module _ (nothing : (place : ℕ) → last ≤ place → brought_in (map link_data (drop place ls)) ≡ None) where
    brought_here : (brought : Bool) → (is_past l.word && l.at.brought) ≡ brought → brought_in (map link_data (drop (last - 1) ls)) ≡ first_brought None brought l.at.spot
    brought_here brought same = ap brought_in here ∙ (λ i. first_brought (nothing last (omega arith) i) (same i) l.at.spot)

    pub bringing_found : (is_past l.word && l.at.brought) ≡ true → (place : ℕ) → brought_in (map link_data (drop place ls)) ≡ (if nat_lt place last then Some l.at.spot else None)
    bringing_found same place = by (nat_lt place last) refl
      where
        by : (b : Bool) → nat_lt place last ≡ b → brought_in (map link_data (drop place ls)) ≡ (if b then Some l.at.spot else None)
        by true e = let less : place < last = grind (arith, nat_tests) in brought-stays l.at.spot ls place (last - 1) (omega arith) (brought_here true same)
        by false e = let more : last ≤ place = grind (arith, nat_tests) in nothing place more

    pub not_bringing : (is_past l.word && l.at.brought) ≡ false → (place : ℕ) → last - 1 ≤ place → brought_in (map link_data (drop place ls)) ≡ None
    not_bringing same place later = elim (cases_lt place last) [
      | inl before ↦ let e : last - 1 ≡ place = omega arith in subst (λ k. brought_in (map link_data (drop k ls)) ≡ None) e (brought_here false same)
      | inr more ↦ nothing place more
    ]

-- all that is open
pub opened_by : (ls : List LinkData) (w : Opened) (place : ℕ) → has_past ls ≡ nat_lt place w.past → brought_in ls ≡ (if nat_lt place w.bringing.until then w.bringing.first else None)
    → (o : Around) → opened o ls ≡ opened_at w o place
opened_by ls w place past brought o = opened_is o ls ∙ (λ i. record { next = o.next; past = o.past || past i; brought = outer_or o.brought (brought i); bound = o.bound })
