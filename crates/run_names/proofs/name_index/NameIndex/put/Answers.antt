use Rattle.std.proofs.Common.{sym, ◌∙◌}
use Rattle.run_names.proofs.Presence.Crowds.Led.{others_lead}
use Rattle.run_names.proofs.name_index.NameIndex.put.Goals as goal

pub returns-clause-others : goal.returns-clause-others
returns-clause-others c = λ other n.
    others_lead c.in_ok-name.name.items other (λ e. n (sym c.as_bytes.ensures ∙ sym c.in_ok-name.ensures.items ∙ e)) _ _ c.in_ok-insert.ensures.updates.3
