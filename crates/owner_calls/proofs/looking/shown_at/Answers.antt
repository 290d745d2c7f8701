-- It shows the pair of the word.
use Rattle.std.specs.Prelude.{Some}
use Rattle.std.proofs.Common.{refl, sym, subst}
use Rattle.owner_calls.specs.Owned.Owned.{IsShownAt}
use Rattle.owner_calls.proofs.looking.shown_at.Goals as goal

pub returns-in-Some : goal.returns-in-Some
returns-in-Some g c =
    let m = c.args.memory.now in
    let r = subst (λ w. IsShownAt m w c.requires.0) c.in-Some.is c.requires.1 in
    let p = c.pair_at.ensures r.0.0 r.0.1 r.2 in
    let shown : g.row.K.Denot × g.row.V.Denot = (c.pair_at.result.0.now, c.pair_at.result.1.now) in
    subst (λ w. IsShownAt m w (Some shown)) (sym c.in-Some.is) (shown, refl, rw (p.0, p.1) r.2)
