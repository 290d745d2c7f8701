-- By the operation that was done, whose answer has the map.
use Rattle.std.proofs.Common.{◌∙◌, ap, refl}
use Rattle.owner_asks.specs.Asks.Closures.{ComputesAs}
use Rattle.owner_rests.specs.declared.change.ComputedChange.TheVariants as compute
use Rattle.owner_map.proofs.Did.{exchanges, removes, takes}
use Rattle.owner_map.proofs.map.HashMap.compute.Goals as goal

pub returns-in-Ok-Changed-Replaced : goal.returns-in-Ok-Changed-Replaced
returns-in-Ok-Changed-Replaced g c =
    let at = c.in-Ok-Changed-Replaced in
    let e = at.ensures in (
      (refl, λ w. refl, tt),
      record {
        after = tt;
        same = refl;
        done =
            exchanges c.args.self.now c.decided.new.map (g.K.PartialEq.eq c.args.key) c.args.key (ComputesAs g.F.FnOnce c.args.decide) at.field-0
            (at.field-0-is ∙ ap (λ x. compute.Changed x) at.field-0-0-is) (e.done, e.keeps);
        shown = tt;
        fault = tt;
        back = tt;
        hasher = e.hasher;
      },
    )

pub returns-in-Ok-Changed-Removed : goal.returns-in-Ok-Changed-Removed
returns-in-Ok-Changed-Removed g c =
    let at = c.in-Ok-Changed-Removed in
    let e = at.ensures in
    let did =
    removes c.args.self.now c.decided.new.map (g.K.PartialEq.eq c.args.key) c.args.key (ComputesAs g.F.FnOnce c.args.decide) at.field-0
    (at.field-0-is ∙ ap (λ x. compute.Changed x) at.field-0-0-is) (e.done, e.keeps)
    in (
      (refl, λ w. refl, tt),
      record {
        after = tt;
        same = refl;
        done = did;
        shown = takes c.args.self.now c.decided.new.map did.0 did.3.0.1.0;
        fault = tt;
        back = tt;
        hasher = e.hasher;
      },
    )
