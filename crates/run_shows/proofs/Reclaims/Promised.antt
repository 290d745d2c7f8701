-- The promises: a caller begins to reclaim all, and takes its steps.
use Rattle.std.specs.Prelude.{Option, ◌==◌, if◌then◌else◌}
use Rattle.std.proofs.Common.{◌≡◌, ℕ, ◌<◌, ◌^◌, Bool, true, false, List, inl, refl, arith, eqb-true}
use Rattle.std.proofs.lemmas.Bool.{eqb-false}
use Rattle.seize_words.specs.OneMemory.Mem.{Mem, Can, Took, value_at}
use Rattle.seize_words.specs.OneMemory.Plan.{May, Steps}
use Rattle.seize.specs.declared.rows.settle.Settled.{Settled}
use Rattle.seize.specs.declared.rows.settle.Settled.TheVariants as settled
use Rattle.seize.specs.declared.rows.reclaim_all.ReclaimAll.{ReclaimAll}
use Rattle.seize.specs.declared.rows.reclaim_all.Reclaiming.{Reclaiming}
use Rattle.seize.specs.declared.rows.reclaim_all.Reclaiming.TheVariants as at
use Rattle.seize.specs.ReclaimAll.{reclaiming_all, standing, plan_at}
use Rattle.seize.specs.World.{World}
use Rattle.run_effects.specs.Given.TablesNodes.{deferred_word, was_left}
use Rattle.run_effects.specs.Given.TablesDeclared.node.Node.{Node}
use Rattle.many_maps.specs.Given.CallersTogether.{UnderWay, CameAbout}
use Rattle.many_maps.specs.Endings.{Finishing}
use Rattle.many_maps.specs.Makings.{Beginning}
use Rattle.many_maps.specs.Maps.{Standing, IsSameMap}
use Rattle.run_shows.specs.Reclaims.Reclaims.{LeftBehind, ReclaimingAt, ReclaimingOutcome, AllStandIdle, ReclaimingTogether, ReclaimingBegins, StepsOfReclaiming, ReclaimingStands}
use Rattle.run_shows.specs.Reclaims.Slots.{IsQuiescent}
use Rattle.run_shows.proofs.Reclaims.Behind.Changes.{take_may, take_led, empty_may, empty_led, free_may, free_led}
use Rattle.run_shows.proofs.Reclaims.Behind.Kept.{rows_stand, left_on}
use Rattle.run_shows.proofs.Reclaims.Behind.Points.{root_may, root_led, next_may, next_led, over_led}
use Rattle.seize_acts.specs.Quiet.Slots.{StageAt, Stage, Led, SlotsOutcome}
use Rattle.seize_acts.specs.Quiet.Promises.{IsOnSlots}
use Rattle.seize_acts.proofs.Quiet.Promised.{slots_begin, slots_lead}

module _ {K Q : Type 0} (V : Type 0) (same : K → K → Bool) (asks : Q → K → Bool) (batch_size roots : ℕ) (slot : ℕ → ℕ)
    (maps : ℕ → Option (Standing K)) (calls : ℕ → ℕ → Option (UnderWay K V Q)) (makers : ℕ → Option (Beginning K)) (enders : ℕ → Option (Finishing K V))
    (w : World (Node K V)) (i : ℕ) where
  abbrev Idle : (ℕ → Option (Standing K)) → World (Node K V) → Type 0
  Idle maps2 v = AllStandIdle V same asks batch_size roots slot maps2 calls makers enders v

  abbrev Together' : (ℕ → Option (Standing K)) → World (Node K V) → (ℕ → List ℕ) → ReclaimAll → Type 0
  Together' maps2 v lists2 c2 = ReclaimingTogether V same asks batch_size roots slot maps2 calls makers enders v i lists2 c2

  abbrev LedTo : (ℕ → List ℕ) → Reclaiming → Mem (Node K V) → ReclaimAll × Settled (Node K V) → Type 0
  LedTo lists point m2 end = StepsOfReclaiming V same asks batch_size roots slot maps calls makers enders w i lists point m2 end.0 end.1

  -- where the work on slots has led
  module _ (maps2 : ℕ → Option (Standing K)) (v : World (Node K V)) (lists : ℕ → List ℕ) (c : ReclaimAll) (idle : Idle maps2 v) (left : LeftBehind roots v maps2 lists) where
    at_stage : (p : Reclaiming) → c.batch_size ≡ batch_size → c.roots ≡ roots → StageAt deferred_word batch_size i c v p → ReclaimingAt batch_size roots i c v maps2 lists p
    at_stage (at.Heads s) ss rs h = (ss, left, h)
    at_stage (at.Retakes s) ss rs h = (ss, left, h)
    at_stage (at.Leaves s l) ss rs h = (ss, left, h)
    at_stage (at.Batches s) ss rs h = (ss, left, h)
    at_stage (at.Flushes s l) ss rs h = (ss, left, h)
    at_stage (at.Frees s) ss rs h = (ss, left, h)
    at_stage (at.Roots root) ss rs (first, some, quiet) = (quiet, left, omega (arith, first, some, rs), λ r lt. absurd (omega (arith, lt, first)))
    at_stage (at.Nexts root block) ss rs h = absurd h
    at_stage (at.Takes root block next) ss rs h = absurd h
    at_stage (at.Empties root) ss rs h = absurd h
    at_stage (at.Unuses root) ss rs h = absurd h
    at_stage at.Over ss rs (none, quiet) = (quiet, left, λ r lt. absurd (omega (arith, lt, none, rs)))

    pub staged : Stage deferred_word batch_size i roots c v → Together' maps2 v lists c
    staged st = record { stand = idle; roots_are = st.roots_are; point = at_stage c.stands st.size_is st.roots_are st.here }

  module _ (word : batch_size < 2 ^ 64) (lists : ℕ → List ℕ) (idle : Idle maps w) (left : LeftBehind roots w maps lists) where
    came : CameAbout batch_size w
    came = idle.together.makings.standing.came

    -- what a step on slots tells
    told_so : (v : World (Node K V)) (p : Settled (Node K V)) → SlotsOutcome w v p → ReclaimingOutcome w v lists lists p
    told_so v settled.Goes h = (refl, h)
    told_so v settled.Waits h = h
    told_so v (settled.Gave value) (b, was, retired, gone, took) = (b, was, gone, inl (retired, took, refl))
    told_so v settled.Done h = absurd h

    not_over : (v : World (Node K V)) (p : Settled (Node K V)) → SlotsOutcome w v p → p ≡ settled.Done → ⊥
    not_over v settled.Goes h e = cc e
    not_over v settled.Waits h e = h
    not_over v (settled.Gave value) h e = cc e
    not_over v settled.Done h e = h

    -- where a step on slots has led all stand together
    pub slots_stand : (point : Reclaiming) (m2 : Mem (Node K V)) (end : ReclaimAll × Settled (Node K V)) → (led : Led deferred_word batch_size i roots w point m2 end.0 end.1)
        → (maps2 : ℕ → Option (Standing K)) × ((m : ℕ) → IsSameMap (maps m) (maps2 m)) × Together' maps2 led.w2 lists end.0
    slots_stand point m2 end led =
        let on = rows_stand V same asks batch_size roots slot calls makers enders i led.events led.own maps w led.w2 idle led.runs in
        (on.0, on.1, staged on.0 led.w2 lists end.0 on.2 (left_on roots w led.w2 on.3 maps on.0 on.1 lists roots left) led.stage)

    on_slots : (point : Reclaiming) (m2 : Mem (Node K V)) (end : ReclaimAll × Settled (Node K V)) → Led deferred_word batch_size i roots w point m2 end.0 end.1 → LedTo lists point m2 end
    on_slots point m2 end led =
        let k = slots_stand point m2 end led in
        record {
          w2 = led.w2;
          events = led.events;
          its = inl led.own;
          runs = led.runs;
          does = led.does;
          memory = led.memory;
          maps2 = k.0;
          as_they_were = k.1;
          lists2 = lists;
          told = told_so led.w2 end.1 led.told;
          next = k.2;
          over = λ e. absurd (not_over led.w2 end.1 led.told e);
        }

  module _ (word : batch_size < 2 ^ 64) (lists : ℕ → List ℕ) (idle : Idle maps w) (batch slots all : ℕ) (again : Bool) (rs : all ≡ roots) where
    abbrev machine : Reclaiming → ReclaimAll
    machine p = record { batch_size = batch; roots = all; slots = slots; again = again; stands = p }

    abbrev Goes : Reclaiming → Type 0
    Goes p = May Can Took value_at w.memory (plan_at deferred_word was_left (machine p) p)
        × ((m2 : Mem (Node K V)) (end : ReclaimAll × Settled (Node K V)) → Steps Took value_at w.memory (plan_at deferred_word was_left (machine p) p) m2 end → LedTo lists p m2 end)

    here : CameAbout batch_size w
    here = idle.together.makings.standing.came

    -- a point on slots
    slots_at : (p : Reclaiming) → IsOnSlots p → batch ≡ batch_size → LeftBehind roots w maps lists → StageAt deferred_word batch_size i (machine p) w p → Goes p
    slots_at p on ss left h =
        let k = slots_lead deferred_word was_left batch_size roots i (machine p) w word here (record { size_is = ss; roots_are = rs; here = h }) on in
        (k.0, λ m2 end st. on_slots word lists idle left p m2 end (k.1 m2 end.0 end.1 st))

    step_at : (p : Reclaiming) → ReclaimingAt batch_size roots i (machine p) w maps lists p → Goes p
    step_at (at.Heads s) (ss, left, h) = slots_at (at.Heads s) tt ss left h
    step_at (at.Retakes s) (ss, left, h) = slots_at (at.Retakes s) tt ss left h
    step_at (at.Leaves s l) (ss, left, h) = slots_at (at.Leaves s l) tt ss left h
    step_at (at.Batches s) (ss, left, h) = slots_at (at.Batches s) tt ss left h
    step_at (at.Flushes s l) (ss, left, h) = slots_at (at.Flushes s l) tt ss left h
    step_at (at.Frees s) (ss, left, h) = slots_at (at.Frees s) tt ss left h
    step_at (at.Roots root) (quiet, left, lt, before) = (
      root_may V same asks batch_size roots slot maps calls makers enders w i lists word idle quiet (machine (at.Roots root)) rs root left lt before,
      root_led V same asks batch_size roots slot maps calls makers enders w i lists word idle quiet (machine (at.Roots root)) rs root left lt before,
    )
    step_at (at.Nexts root block) (quiet, o, (b, rest, is, from)) = (
      next_may V same asks batch_size roots slot maps calls makers enders w i lists word idle quiet (machine (at.Nexts root block)) rs root block o b rest is from,
      next_led V same asks batch_size roots slot maps calls makers enders w i lists word idle quiet (machine (at.Nexts root block)) rs root block o b rest is from,
    )
    step_at (at.Takes root block next) (quiet, o, (b, rest, is, named, there, from)) = (
      take_may V same asks batch_size roots slot maps calls makers enders w i lists word idle quiet (machine (at.Takes root block next)) rs root o b next rest is there from block named,
      take_led V same asks batch_size roots slot maps calls makers enders w i lists word idle quiet (machine (at.Takes root block next)) rs root o b next rest is there from block named,
    )
    step_at (at.Empties root) (quiet, o, none) = (
      empty_may V same asks batch_size roots slot maps calls makers enders w i lists word idle quiet (machine (at.Empties root)) rs root o none,
      empty_led V same asks batch_size roots slot maps calls makers enders w i lists word idle quiet (machine (at.Empties root)) rs root o none,
    )
    step_at (at.Unuses root) (quiet, o, none, nowhere) = (
      free_may V same asks batch_size roots slot maps calls makers enders w i lists word idle quiet (machine (at.Unuses root)) rs root o none nowhere,
      free_led V same asks batch_size roots slot maps calls makers enders w i lists word idle quiet (machine (at.Unuses root)) rs root o none nowhere,
    )
    step_at at.Over (quiet, left, none) =
        (tt, over_led V same asks batch_size roots slot maps calls makers enders w i lists word idle quiet (machine at.Over) rs left none refl)

  pub reclaiming_stands : ReclaimingStands V same asks batch_size roots slot maps calls makers enders w i
  reclaiming_stands lists c word all =
      let k = step_at word lists all.stand c.batch_size c.slots c.roots c.again all.roots_are c.stands all.point in
      (k.0, λ m2 c2 progress st. k.1 m2 (c2, progress) st)

  -- it begins
  pub reclaiming_begins : ReclaimingBegins V same asks batch_size roots slot maps calls makers enders w i
  reclaiming_begins lists word idle rests left = (
    λ there. record {
      stand = idle;
      roots_are = refl;
      point = (refl, left, (refl, omega arith, record { rests = rests; idle = λ t l. absurd (omega (arith, l)) }, there));
    },
    λ quiet. with_roots quiet (roots == 0) (eqb-true roots 0) (eqb-false roots 0),
    (slots_begin deferred_word batch_size roots i w word idle.together.makings.standing.came rests).1,
  )
    where
      with_roots : IsQuiescent w → (b : Bool) → (b ≡ true → roots ≡ 0) → (b ≡ false → roots ≡ 0 → ⊥)
          → Together' maps w lists (if b then standing (reclaiming_all 0 roots) at.Over else standing (reclaiming_all 0 roots) (at.Roots 0))
      with_roots quiet true z ne = record { stand = idle; roots_are = refl; point = (quiet, left, λ r lt. absurd (let k = z refl in omega (arith, k, lt))) }
      with_roots quiet false z ne = record { stand = idle; roots_are = refl; point = (quiet, left, (let k = ne refl in omega (arith, k)), λ r lt. absurd (omega (arith, lt))) }
