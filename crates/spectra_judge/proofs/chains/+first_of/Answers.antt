use Rattle.std.proofs.Common.{◌-◌, length, slice_get, sym, ap, ◌∙◌}
use Rattle.spectra_resolved.specs.Views.{resolved_data}
use Rattle.spectra_judge.specs.Judged.{first_of}
use Rattle.spectra_resolved.proofs.Trees.{chain_data}
use Rattle.spectra_judge.proofs.LastFirst.{from_last, from_head}
use Rattle.spectra_judge.proofs.chains.+first_of.Goals as goal

pub returns-in-Some : goal.returns-in-Some
returns-in-Some t c =
    from_last (resolved_data c.in-Chain.head.value) c.in-Chain.links.items c.in-Some.link.now (c.in-Some.ensures.value ∙ ap (λ xs. slice_get xs (length xs - 1)) c.deref.ensures.value)
    ∙ ap first_of (sym (ap resolved_data c.in-Chain.is ∙ chain_data c.in-Chain.head c.in-Chain.links))

pub returns-in-None : goal.returns-in-None
returns-in-None t c =
    c.first_of.ensures
    ∙ ap (λ e. first_of (resolved_data e)) c.deref-in-None.ensures
    ∙ from_head (resolved_data c.in-Chain.head.value) c.in-Chain.links.items (c.in-None.ensures.value ∙ ap (λ xs. slice_get xs (length xs - 1)) c.deref.ensures.value)
    ∙ ap first_of (sym (ap resolved_data c.in-Chain.is ∙ chain_data c.in-Chain.head c.in-Chain.links))
