-- The links of a map.
use Rattle.map_rule.proofs.Laws.{roots_lead, nexts_lead, links_have_tables}
use Rattle.map_rule.proofs.law.links_lead_on.Goals as goal

pub returns : goal.returns
returns c d = record { root = roots_lead; next = nexts_lead; tables = links_have_tables }
