-- What lasts from one state of the tables to the next, and from that one to a third, lasts from the first to the third.
use Rattle.std.proofs.Common.{ℕ, Bool, ap, ◌∙◌, arith}
use Rattle.many_maps.specs.Given.RuleChart.{Chart, is_marked}
use Rattle.many_maps.specs.Given.RuleLasts.{Lasts}

module _ {K : Type 0} (same : K → K → Bool) (spot : ℕ → K → ℕ → ℕ) (incremental : Bool) (a b c : Chart K) where
  pub lasts_on : Lasts same spot incremental a b → Lasts same spot incremental b c → Lasts same spot incremental a c
  lasts_on f g = record {
    past = (let x = f.past in let y = g.past in omega (arith, x, y));
    first = (let x = f.first in let y = g.first in omega (arith, x, y));
    lens = λ t l. (let x = f.past in let y = f.lens t l in let z = g.lens t (omega (arith, x, l)) in (z.0 ∙ y.0, z.1 ∙ y.1));
    stored = (let x = f.stored in let y = g.stored in omega (arith, x, y));
    keys = λ n l. (let x = f.stored in g.keys n (omega (arith, x, l)) ∙ f.keys n l);
    taken = λ t i e. g.taken t i (f.taken t i e);
    others = λ t i k e n. g.others t i k (f.taken t i e) (f.others t i k e n);
    copied = λ t i n borrowed e. g.copied t i n borrowed (f.copied t i n borrowed e);
    settled = λ t i e. g.settled t i (f.settled t i e);
    shut = λ t k e l s. (let x = f.past in g.shut t k e (omega (arith, x, l)) (f.shut t k e l s));
    frozen = λ t i e m. g.frozen t i e (ap is_marked (f.frozen t i e m) ∙ m) ∙ f.frozen t i e m;
  }
