use Rattle.std.proofs.Common.{refl, sym, ◌∙◌}
use Rattle.seize_guards.proofs.deferring.puts_behind.Goals as goal

pub begins-head-requires-clause-parts : goal.begins-head-requires-clause-parts
begins-head-requires-clause-parts g c = let i = c.requires.parts in let k = c.in-Some.ensures.keeps i.0 i.1 i.2 in (i.0, i.1, i.2, k.0, k.1)

pub ends-requires-clause-away : goal.ends-requires-clause-away
ends-requires-clause-away g c = λ e. c.requires.away (sym (c.puts.ensures.same.2 ∙ c.begins-head.ensures.same.2) ∙ e)

pub returns-in-Some-clause-came : goal.returns-in-Some-clause-came
returns-in-Some-clause-came g c = (c.ends.ensures.seen, c.requires.fits.1, c.ends.ensures.notes.1 ∙ c.puts.ensures.notes.1 ∙ c.begins-head.ensures.began)

pub returns-in-None-clause-came : goal.returns-in-None-clause-came
returns-in-None-clause-came g c = (c.unlinks.ensures.cut, refl, c.requires.fits.1, c.requires.fits.0)
