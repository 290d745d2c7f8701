-- All is given back, and nobody is there.
use Rattle.std.proofs.Common.{ℕ, nat_lt, subst}
use Rattle.play_scheduler.specs.Given.LoggedBack.{AllBringsBack}
use Rattle.play_scheduler.specs.Given.LoggedGoes.{ReclaimingGone}
use Rattle.play_scheduler.specs.Given.LoggedReclaims.{ReclaimingRan}
use Rattle.play_stepping.proofs.reclaims.give_all_back.Goals as goal

pub returns-clause-ran : goal.returns-clause-ran
returns-clause-ran g c =
    subst (λ (n : ℕ). ReclaimingRan (nat_lt 0 n) c.args.effects.now.items c.run_reclaiming.new.effects.items c.args.scheduler.now.logged c.run_reclaiming.new.self) c.buckets-taken.ensures c.in_ok-run_reclaiming.ensures.ran

pub returns-clause-back : goal.returns-clause-back
returns-clause-back g c =
    subst (λ (n : ℕ). AllBringsBack (nat_lt 0 n) c.args.effects.now.items c.run_reclaiming.new.effects.items c.args.scheduler.now.logged c.args.back.now.items c.run_reclaiming.new.back.items) c.buckets-taken.ensures
    c.in_ok-run_reclaiming.ensures.back

pub returns-clause-gone : goal.returns-clause-gone
returns-clause-gone g c =
    subst (λ (n : ℕ). ReclaimingGone (nat_lt 0 n) c.args.effects.now.items c.run_reclaiming.new.effects.items c.args.scheduler.now.logged c.run_reclaiming.new.self) c.buckets-taken.ensures c.in_ok-run_reclaiming.ensures.gone
