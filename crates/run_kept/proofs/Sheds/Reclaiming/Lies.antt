-- A step by which all is reclaimed leaves what lies behind tables there: it puts nothing behind a block, and what lies behind one that stands is not reclaimed.
use Rattle.std.specs.Prelude.{◌≡◌, ◌≢◌, ◌⊎◌, ℕ, eqb, Bool, true, false, cond, List, [], ◌∷◌, None, Some, if◌then◌else◌}
use Rattle.std.proofs.Common.{ap, sym, subst, ◌∙◌, inl, inr}
use Rattle.std.proofs.lemmas.Bool.{cases_eq, ne_eqb}
use Rattle.run_schedules.specs.Given.SeizeWordsDeclared.at.At.{At}
use Rattle.run_schedules.specs.Given.SeizeWordsDeclared.at.At.TheVariants.{Root, Used}
use Rattle.run_schedules.specs.Given.SeizeWordsMem.{value_at}
use Rattle.seize.specs.Law.{Place, Nowhere, With, is_somewhere, where_is}
use Rattle.seize.specs.declared.rows.reclaim_all.ReclaimAll.{ReclaimAll}
use Rattle.seize.specs.declared.rows.reclaim_all.Reclaiming.{Reclaiming}
use Rattle.seize.specs.declared.rows.reclaim_all.Reclaiming.TheVariants as points
use Rattle.seize.specs.declared.rows.settle.Settled.{Settled}
use Rattle.seize.specs.World.{World, Row, Rests, Settles, Leaves, Request, Register', Leave', Flush, Unregister', Event, Begin, Step, Begins, Runs, with_at}
use Rattle.run_executor.proofs.Given.SeizeAloneHistories.NotTaken.{CanBeReached, did, kept_there}
use Rattle.run_executor.proofs.Given.SeizeAloneHistories.Reached.{Reached, happens_reached, runs_reached}
use Rattle.papaya_raw.specs.Given.TablesNodes.{deferred_word}
use Rattle.papaya_raw.specs.Given.TablesDeclared.node.Node.{Node}
use Rattle.run_schedules.specs.Schedules.Effects.{with_effects}
use Rattle.run_schedules.specs.Schedules.Moment.{Moment}
use Rattle.run_executor.specs.Given.EffectsDeclared.changed.Changed.{Changed}
use Rattle.run_executor.specs.Given.EffectsEffects.{effects_of, known_after}
use Rattle.run_executor.specs.Given.EffectsKnown.{Known}
use Rattle.run_executor.specs.Given.EffectsDeclared.acting.Acting.TheVariants.{Row as OfRow}
use Rattle.run_executor.specs.Given.EffectsDeclared.role.Role.TheVariants as role
use Rattle.run_blocks.proofs.Given.CallersRows.Behind.{row_back}
use Rattle.run_executor.specs.Given.FinishesFactsEnds.{TakesLeft, WritesRoot, events_of}
use Rattle.run_executor.specs.Given.ReclaimsReclaims.{ReclaimingAt}
use Rattle.run_executor.specs.Given.ReclaimsSlots.{IsForSlots, AreItsRows}
use Rattle.run_executor.specs.Given.ScenesReclaiming.{IsReclaiming, ReclaimingLeads}
use Rattle.run_executor.specs.Given.FollowsBlocks.{HasRole}
use Rattle.run_executor.proofs.Given.FollowsOperations.{LeavesBy}
use Rattle.run_executor.proofs.Given.OthersRowPlans.{TellsRow}
use Rattle.run_executor.specs.Given.MomentsWhole.{RefinesWhole}
use Rattle.run_waiting.specs.Lives.Lying.{RefinesLying}
use Rattle.run_waiting.specs.Lives.Waiting.{IsPutting}
use Rattle.run_waiting.proofs.Lives.Lying.{lying_on, row_among, row_pair}
use Rattle.run_waiting.proofs.Lives.Reclaimed.{stays_so}
use Rattle.run_kept.proofs.Sheds.Reclaiming.Steps.{kept as kept_so, reached}
use Rattle.run_kept.proofs.Sheds.Reclaiming.Waits.{begun_log}
use Rattle.run_executor.specs.Given.ScenesHeld.{Held}
use Rattle.run_executor.specs.Given.ScenesScene.{Scene}
use Rattle.run_executor.proofs.Given.ScenesLeads.{happens}

module _ {K V : Type 0} (size : ℕ) where
  -- the beginning of such a row leaves the rows of others
  begun_rows : (i : ℕ) (request : Request) (w v : World (Node K V)) → IsForSlots request → Begins deferred_word size i request w v → (j : ℕ) → j ≢ i → v.row j ≡ w.row j
  begun_rows i request w v its h j ne = by request its h
    where
      other : (row : Row) → with_at w.row i row j ≡ w.row j
      other row = ap (λ (q : Bool). if q then row else w.row j) (ne_eqb j i ne)

      by : (r : Request) → IsForSlots r → Begins deferred_word size i r w v → v.row j ≡ w.row j
      by (Register' enters) its h = ap (λ (x : World (Node K V)). x.row j) h ∙ other _
      by (Leave' s) its h = ap (λ (x : World (Node K V)). x.row j) h.1 ∙ other _
      by (Flush s) its h = ap (λ (x : World (Node K V)). x.row j) h.1 ∙ other _
      by (Unregister' s) its h = ap (λ (x : World (Node K V)). x.row j) h.1 ∙ other _
      by _ its h = absurd its

  -- and so do its steps; what lies behind a block then did so before
  rows_lie : (i : ℕ) (events : List (Event (Node K V))) → AreItsRows i events → (w w2 : World (Node K V)) → Reached deferred_word size w → Runs deferred_word size events w w2
      → ((j : ℕ) → j ≢ i → w2.row j ≡ w.row j) × ((b c : ℕ) → where_is b w2.log ≡ With c → where_is b w.log ≡ With c)
  rows_lie i [] its w w2 r runs = (λ j ne. ap (λ (z : World (Node K V)). z.row j) runs, λ b c at. sym (ap (λ (z : World (Node K V)). where_is b z.log) runs) ∙ at)
  rows_lie i (Begin j request ∷ events) its w w2 r (v, happens, runs) =
      let later = rows_lie i events its.2 v w2 (happens_reached deferred_word size (Begin j request) w v r happens) runs in (
        λ k ne. later.0 k ne ∙ begun_rows j request w v its.1 happens.1 k (λ e. ne (e ∙ its.0)),
        λ b c at. sym (ap (where_is b) (begun_log size j request w v its.1 happens.1)) ∙ later.1 b c at,
      )
  rows_lie i (Step j ∷ events) its w w2 r (v, happens, runs) =
      let later = rows_lie i events its.1 v w2 (happens_reached deferred_word size (Step j) w v r happens) runs in (
        λ k ne. later.0 k ne ∙ (did deferred_word size w r j v happens).rows k (λ e. ne (e ∙ its.0)),
        λ b c at. (row_back deferred_word size b c w v r j happens (later.1 b c at)).0,
      )
  rows_lie i (_ ∷ events) its w w2 r runs = absurd its

  -- where what was left over is taken away, or a word of a root is written
  left_lie : (i x : ℕ) (w w2 : World (Node K V)) → Runs deferred_word size (events_of i (TakesLeft x)) w w2 → (w2.row ≡ w.row) × ((b c : ℕ) → where_is b w2.log ≡ With c → where_is b w.log ≡ With c)
  left_lie i x w w2 (v, (out, m, left, may, took, is), runs) = (
    ap (λ (u : World (Node K V)). u.row) (runs ∙ is),
    λ b c at. by c (eqb b x) (where_is b w.log) (sym (ap (λ (u : World (Node K V)). where_is b u.log) (runs ∙ is)) ∙ at),
  )
    where
      by : (c : ℕ) (q : Bool) (place : Place) → cond q Nowhere place ≡ With c → place ≡ With c
      by c true place e = absurd (cc e)
      by c false place e = e

  root_lie : (i : ℕ) (at : At) (word : ℕ) (w w2 : World (Node K V)) → Runs deferred_word size (events_of i (WritesRoot at word)) w w2
      → (w2.row ≡ w.row) × ((b c : ℕ) → where_is b w2.log ≡ With c → where_is b w.log ≡ With c)
  root_lie i place word w w2 (v, (out, m, own, took, is), runs) =
      (ap (λ (u : World (Node K V)). u.row) (runs ∙ is), λ b c at. sym (ap (λ (u : World (Node K V)). where_is b u.log) (runs ∙ is)) ∙ at)

module _ {K V : Type 0} (same : K → K → Bool) (hash : ℕ → K → ℕ) (name : ℕ → List ℕ) (m : Moment K V) (known : Known) (s : Scene K V) (whole : RefinesWhole same name m known s)
    (lying : RefinesLying m known s.world) (old new : Held K V) (i : ℕ) (lists : ℕ → List ℕ) (before after : ReclaimAll) (told : Settled (Node K V))
    (at : IsReclaiming same hash old s i lists before) (leads : ReclaimingLeads same hash s i lists old new before after told) where
  abbrev w : World (Node K V)
  w = s.world

  abbrev w2 : World (Node K V)
  w2 = leads.1.w2

  abbrev RunsBy : List (Event (Node K V)) → Type 0
  RunsBy events = Runs deferred_word old.batch_size events w w2

  here : Reached deferred_word old.batch_size w
  here = reached same hash name m known s whole old new i lists before after told at leads

  after_it : Reached deferred_word old.batch_size w2
  after_it = runs_reached deferred_word old.batch_size leads.1.events w w2 here leads.1.runs

  abbrev Lay : Type 0
  Lay = ((j : ℕ) → j ≢ i → w2.row j ≡ w.row j) × ((b c : ℕ) → where_is b w2.log ≡ With c → where_is b w.log ≡ With c)

  lay : Lay
  lay = by leads.1.its
    where
      by : AreItsRows i leads.1.events ⊎ (((b : ℕ) × (leads.1.events ≡ events_of i (TakesLeft b)))
          ⊎ ((root : ℕ) × ((leads.1.events ≡ events_of i (WritesRoot (Root root) 0)) ⊎ (leads.1.events ≡ events_of i (WritesRoot (Used root) 0))))) → Lay
      by (inl rows) = rows_lie old.batch_size i leads.1.events rows w w2 here leads.1.runs
      by (inr (inl (b, is))) =
          let it = left_lie old.batch_size i b w w2 (subst RunsBy is leads.1.runs) in (λ j ne. ap (λ (f : ℕ → Row). f j) it.0, it.1)
      by (inr (inr (root, inl is))) =
          let it = root_lie old.batch_size i (Root root) 0 w w2 (subst RunsBy is leads.1.runs) in (λ j ne. ap (λ (f : ℕ → Row). f j) it.0, it.1)
      by (inr (inr (root, inr is))) =
          let it = root_lie old.batch_size i (Used root) 0 w w2 (subst RunsBy is leads.1.runs) in (λ j ne. ap (λ (f : ℕ → Row). f j) it.0, it.1)

  -- its own row puts nothing behind a block
  pub own_none : (b c : ℕ) → IsPutting b c (w.row i) → ⊥
  own_none b c puts = by before.stands at.under_way.point
    where
      is_none : (row : Row) → (IsPutting b c row → ⊥) → w.row i ≡ row → ⊥
      is_none row none is = none (subst (IsPutting b c) is puts)

      by : (p : Reclaiming) → ReclaimingAt old.batch_size old.roots i before w s.maps lists p → ⊥
      by (points.Roots root) facts = is_none Rests (λ z. z) (facts.0.rests i)
      by (points.Nexts root block) facts = is_none Rests (λ z. z) (facts.0.rests i)
      by (points.Takes root block next) facts = is_none Rests (λ z. z) (facts.0.rests i)
      by (points.Empties root) facts = is_none Rests (λ z. z) (facts.0.rests i)
      by (points.Unuses root) facts = is_none Rests (λ z. z) (facts.0.rests i)
      by points.Over facts = is_none Rests (λ z. z) (facts.0.rests i)
      by (points.Heads t) (sized, left, (again, le, settling, some)) = is_none Rests (λ z. z) (settling.rests i)
      by (points.Retakes t) (sized, left, (again, le, settling, free)) = is_none Rests (λ z. z) (settling.rests i)
      by (points.Leaves t leave) (sized, left, (again, le, within)) = is_none (Leaves leave) (λ z. z) within.row_is
      by (points.Batches t) (sized, left, (lt, flushing)) = is_none Rests (λ z. z) (flushing.rests i)
      by (points.Flushes t settle) (sized, left, (lt, within)) = is_none (Settles settle) (λ z. z) within.row_is
      by (points.Frees t) (sized, left, (lt, freeing)) = is_none Rests (λ z. z) (freeing.rests i)

  still_put : (j b c : ℕ) → IsPutting b c (w.row j) → IsPutting b c (w2.row j)
  still_put j b c puts = elim (cases_eq j i) as (λ _. IsPutting b c (w2.row j)) [
    | inl e ↦ absurd (own_none b c (subst (λ (k : ℕ). IsPutting b c (w.row k)) e puts))
    | inr ne ↦ subst (IsPutting b c) (sym (lay.0 j ne)) puts
  ]

  -- what lies behind a block is there
  pair_there : (b c n : ℕ) → where_is b w2.log ≡ With c → known.roles b ≡ role.Pair n → (value : Node K V) × (value_at w2.memory b ≡ Some value)
  pair_there b c n lies is =
      let some = kept_there deferred_word old.batch_size w2 after_it b (CanBeReached (ap is_somewhere lies)) in
      (let has = subst (HasRole w m.stored b) is (whole.all.shown.blocks.roles b) in
      (_, (kept_so same hash name m known s whole old new i lists before after told at leads b some).0 ∙ has.3))

  pub reclaiming_lies : (x : Changed) → TellsRow x → LeavesBy w.memory w2.memory x → RefinesLying (with_effects None None (effects_of OfRow known x) m) (known_after OfRow x known) w2
  reclaiming_lies x tells l =
      lying_on m (with_effects None None (effects_of OfRow known x) m) known (known_after OfRow x known) w w2 lying
      lay.1
      (λ b c len t lies is. (stays_so m known whole.blocks x tells c len t is).0)
      (λ b c n lies is. row_pair known w w2 b n is (pair_there b c n lies is) x tells l)
      (λ c len n t is was among. row_among m known w w2 whole.blocks.tables_once c len n t was among x tells is)
      still_put
