use Rattle.std.proofs.Common.{sym, ◌∙◌}
use Rattle.run_names.proofs.Presence.Crowds.Led.{others_lead}
use Rattle.run_names.proofs.name_index.NameIndex.remove.Goals as goal

pub returns : goal.returns
returns c = λ other n. others_lead c.as_bytes.result.now other (λ e. n (sym c.as_bytes.ensures ∙ e)) _ _ c.remove.ensures.updates.3
