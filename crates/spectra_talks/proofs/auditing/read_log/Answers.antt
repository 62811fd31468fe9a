use Rattle.spectra_talks.proofs.auditing.read_log.Goals as goal

pub returns : goal.returns
returns g c = λ s for_spec is_of. record { end = c.audit_lines-end.result; talk = c.audit_lines-end.ensures.talk s for_spec is_of; reads = c.audit_lines-end.ensures.reads; closes = c.close_audit.ensures }
