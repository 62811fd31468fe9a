-- What tells where a value is had stays while roots are made.
use Rattle.std.specs.List.{AllByRecursion}
use Rattle.std.proofs.Common.{◌≡◌, ℕ, ◌≤◌, List, [], ◌∷◌, nat_abs, refl, sym, ◌∙◌, ap, subst}
use Rattle.spec_model.specs.declared.value.Value.{Value}
use Rattle.spec_model.specs.Values.{number_of}
use Rattle.spec_model.specs.Diagrams.{Function}
use Rattle.bdd_store.specs.State.{IsRoot}
use Rattle.bdd_bits.specs.Contents.{Contents}
use Rattle.bdd_bits.specs.Calls.{KeepsRoots}
use Rattle.bit_compile.specs.declared.cases.Source.{Source}
use Rattle.bit_compile.specs.declared.cases.Source.TheVariants as source
use Rattle.bit_compile.specs.Domains.{level_count}
use Rattle.bit_compile.specs.Compiled.{Case, some_pair, gives, is_letter, leads}
use Rattle.bit_compile.specs.CaseRoots.{IsReady, had_by, truth_had, cases_at}
use Rattle.bit_compile.proofs.Between.{still_kept, function_stays, cases_stay, functions_stay}

module _ (first l : Contents) (keeps : KeepsRoots first l) where
  pub ready_stays : ((n : ℕ) → IsRoot first.state n → IsRoot l.state n) → (s : Source) (v : Value) → IsReady first s v → IsReady l s v
  ready_stays roots source.Everywhere v ready = tt
  ready_stays roots (source.Truth root) v ready = roots root.now ready
  ready_stays roots (source.Coded codes at k domain) v ready = (ready.0, subst (λ n. level_count codes.now ≤ n) (sym keeps.levels) ready.1, ready.2, ready.3)
  ready_stays roots (source.Pairs op a b) v ready = (still_kept first.state l.state a.now roots ready.0, still_kept first.state l.state b.now roots ready.1)
  ready_stays roots (source.Leads next letters a b) v ready = (still_kept first.state l.state a.now roots ready.0, still_kept first.state l.state b.now roots ready.1)
  ready_stays roots (source.Letters atoms) v ready = still_kept first.state l.state atoms.now roots ready

  pub had_stays : (s : Source) (v : Value) → IsReady first s v → had_by l s v ≡ had_by first s v
  had_stays source.Everywhere v ready = refl
  had_stays (source.Truth root) v ready = ap (λ (f : Function). truth_had f v) (function_stays first l root.now keeps ready)
  had_stays (source.Coded codes at k domain) v ready = refl
  had_stays (source.Pairs op a b) v ready =
      ap (λ (cs : List Case). some_pair (gives op v) cs (cases_at l b.now)) (cases_stay first l a.now keeps ready.0)
      ∙ ap (λ (cs : List Case). some_pair (gives op v) (cases_at first a.now) cs) (cases_stay first l b.now keeps ready.1)
  had_stays (source.Leads next letters a b) v ready =
      ap (λ (cs : List Case). some_pair (leads next.now letters v) cs (cases_at l b.now)) (cases_stay first l a.now keeps ready.0)
      ∙ ap (λ (cs : List Case). some_pair (leads next.now letters v) (cases_at first a.now) cs) (cases_stay first l b.now keeps ready.1)
  had_stays (source.Letters atoms) v ready = ap (λ (fs : List Function). is_letter fs (nat_abs (number_of v))) (functions_stay first l atoms.now keeps ready)

-- ---- whole lists

pub always : (P : Type 0) → P → (vs : List Value) → AllByRecursion (λ v. P) vs
always P p [] = tt
always P p (v ∷ vs) = (p, always P p vs)

pub each_ready : (P : Type 0) (Q : Value → Type 0) (R : Value → Type 0) → ((v : Value) → P → Q v → R v) → P → (vs : List Value) → AllByRecursion Q vs → AllByRecursion R vs
each_ready P Q R join p [] all = tt
each_ready P Q R join p (v ∷ vs) all = (join v p all.0, each_ready P Q R join p vs all.1)
