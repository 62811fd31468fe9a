-- Named sets of cases: those of roots that were made on the way, and of what was kept.
use Rattle.std.proofs.Common.{List, [], ◌∷◌, nat_abs, subst}
use Rattle.std.specs.List.{AllByRecursion}
use Rattle.spec_model.specs.declared.value.Value.{Value}
use Rattle.spec_model.specs.Values.{number_of}
use Rattle.spec_model.specs.Diagrams.{Function}
use Rattle.bdd_bits.specs.Contents.{Contents}
use Rattle.bdd_bits.specs.Calls.{KeepsRoots}
use Rattle.bit_compile.specs.declared.cases.Source.{Source}
use Rattle.bit_compile.specs.declared.cases.Source.TheVariants as source
use Rattle.bit_compile.specs.Compiled.{Case, gives, leads}
use Rattle.bit_compile.specs.CaseRoots.{cases_at, IsReady}
use Rattle.bit_compile.specs.Named.{IsOfPairs, IsOfLetter}
use Rattle.bit_compile.specs.NamedScenes.{IsOfSource}
use Rattle.bit_compile.proofs.Between.{cases_stay, functions_stay}

-- on the way to a value as things stand now, and as they stood
pub source_named : (first l : Contents) → KeepsRoots first l → (s : Source) (v : Value) → IsReady first s v → (f : Function) → IsOfSource l s v f → IsOfSource first s v f
source_named first l keeps source.Everywhere v ready f is = is
source_named first l keeps (source.Truth root) v ready f is = is
source_named first l keeps (source.Coded codes at k domain) v ready f is = is
source_named first l keeps (source.Pairs op a b) v ready f is =
    subst (λ (cs : List Case). IsOfPairs (gives op v) (cases_at first a.now) cs f) (cases_stay first l b.now keeps ready.1)
    (subst (λ (cs : List Case). IsOfPairs (gives op v) cs (cases_at l b.now) f) (cases_stay first l a.now keeps ready.0) is)
source_named first l keeps (source.Leads next letters a b) v ready f is =
    subst (λ (cs : List Case). IsOfPairs (leads next.now letters v) (cases_at first a.now) cs f) (cases_stay first l b.now keeps ready.1)
    (subst (λ (cs : List Case). IsOfPairs (leads next.now letters v) cs (cases_at l b.now) f) (cases_stay first l a.now keeps ready.0) is)
source_named first l keeps (source.Letters atoms) v ready f is =
    subst (λ (fs : List Function). IsOfLetter fs (nat_abs (number_of v)) f) (functions_stay first l atoms.now keeps ready) is

pub named_wider : (M N : Function → Type 0) → ((f : Function) → M f → N f) → (cs : List Case) → AllByRecursion (λ (x : Case). M x.holds) cs → AllByRecursion (λ (x : Case). N x.holds) cs
named_wider M N wider [] all = tt
named_wider M N wider (x ∷ cs) all = (wider x.holds all.0, named_wider M N wider cs all.1)
