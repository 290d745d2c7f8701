-- Each step of the copying is one of the call, which goes on from there.
use Rattle.std.specs.Prelude.{ℕ}
use Rattle.std.proofs.Common.{sym, ◌∙◌, subst, ap}
use Rattle.seize_words.specs.OneMemory.Mem.{Can, Took, value_at}
use Rattle.seize_words.specs.OneMemory.Plan.{May, Steps}
use Rattle.map_straight.specs.Given.ResizeCopier.{copier_plan}
use Rattle.owner_whole.specs.Strides.Ending.{none_taken, one_more}
use Rattle.owner_calls.proofs.Owned.Inner.{copier_may, helps_on}
use Rattle.map_straight.specs.Straight.Going.{CopyGoes}
use Rattle.seize_straight.specs.Runs.{MayRun}
use Rattle.owner_whole.proofs.Strides.Runs.Leading.{ends_along, leads_on}
use Rattle.owner_calls.proofs.Owned.Straight.{copies_run, places_on}
use Rattle.owner_calls.proofs.inside.copies.Goals as goal

pub loop-init : goal.loop-init
loop-init g c = record { leads = λ u table same. none_taken _ _ }

pub copy_places-requires : goal.copy_places-requires
copy_places-requires g c =
    let r = c.requires in
    subst (λ (hashes : g.row.K.Denot → ℕ). MayRun CopyGoes Took value_at (copier_plan {V = g.row.V.Denot} hashes) Can c.loop.copier c.loop.memory) (ap g.S.Hashes.hash r.2)
    (copies_run g.Q.Equivalent.equivalent g.K.PartialEq.eq g.S.Hashes.hash r.0.hasher r.0 r.1 _ _ (ends_along _ _ _ _ _ (c.loop.invariant.leads r.0 r.1 r.2) r.3))

pub step-told-requires : goal.step-told-requires
step-told-requires g c =
    let r = c.requires in
    subst (λ (hashes : g.row.K.Denot → ℕ). May Can Took value_at c.copy_places.new.memory (copier_plan {V = g.row.V.Denot} hashes c.copy_places.new.copier)) (ap g.S.Hashes.hash r.2)
    (copier_may g.Q.Equivalent.equivalent g.K.PartialEq.eq g.S.Hashes.hash _ r.0 r.1 _
    (ends_along _ _ _ _ _ (places_on g.Q.Equivalent.equivalent g.K.PartialEq.eq g.S.Hashes.hash r.0 r.1 _ r.2 _ _ _ _ c.copy_places.ensures)
    (ends_along _ _ _ _ _ (c.loop.invariant.leads r.0 r.1 r.2) r.3)))

pub loop-preserved : goal.loop-preserved
loop-preserved g c = record {
  leads = λ u table same. one_more _ _ _ _
      (leads_on _ _ _ _ _ _ _ (c.loop.invariant.leads u table same)
      (places_on g.Q.Equivalent.equivalent g.K.PartialEq.eq g.S.Hashes.hash u table _ same _ _ _ _ c.copy_places.ensures)) _ tt _ _
      (helps_on g.Q.Equivalent.equivalent g.K.PartialEq.eq g.S.Hashes.hash _ u table _ _ _ c.step-told.result (sym c.takes_more.ensures ∙ c.if-not-takes_more.false)
      (subst (λ (hashes : g.row.K.Denot → ℕ). Steps Took value_at c.copy_places.new.memory (copier_plan {V = g.row.V.Denot} hashes c.copy_places.new.copier) c.step-told.new.memory (c.step-told.new.self, c.step-told.result))
      (sym (ap g.S.Hashes.hash same)) c.step-told.ensures));
}

pub returns-then-not-takes_more : goal.returns-then-not-takes_more
returns-then-not-takes_more g c = λ u table same. (
  c.copy_places.new.copier,
  c.copy_places.new.memory,
  leads_on _ _ _ _ _ _ _ (c.loop.invariant.leads u table same) (places_on g.Q.Equivalent.equivalent g.K.PartialEq.eq g.S.Hashes.hash u table _ same _ _ _ _ c.copy_places.ensures),
  c.step-told.ensures,
)

pub step-requires : goal.step-requires
step-requires g c =
    let r = c.requires in
    subst (λ (hashes : g.row.K.Denot → ℕ). May Can Took value_at c.loop.memory (copier_plan {V = g.row.V.Denot} hashes c.loop.copier)) (ap g.S.Hashes.hash r.2)
    (copier_may g.Q.Equivalent.equivalent g.K.PartialEq.eq g.S.Hashes.hash _ r.0 r.1 _ (ends_along _ _ _ _ _ (c.loop.invariant.leads r.0 r.1 r.2) r.3))

pub returns : goal.returns
returns g c = λ u table same. (c.loop.copier, c.loop.memory, c.loop.invariant.leads u table same, c.step.ensures)
