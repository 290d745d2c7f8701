-- Everything can be reclaimed: slots settle, batches are flushed until none is open, and then all slots are given up.
use Rattle.std.specs.Prelude.{Option}
use Rattle.std.proofs.Common.{◌≡◌, ℕ, zero, suc, ◌+◌, ◌<◌, ◌≤◌, ◌^◌, false, [], length, inl, inr, refl, arith, ap, subst, ◌∙◌}
use Rattle.std.proofs.lemmas.Bool.{cases_eq, cases_lt}
use Rattle.seize.specs.declared.states.TheConstants.{LAST_SLOT}
use Rattle.seize.specs.declared.rows.enter.Unregister.{Unregister}
use Rattle.seize.specs.Law.{is_retired}
use Rattle.seize.specs.WaitingSets.{Sets}
use Rattle.seize.specs.World.{World, Vacant, Outside, Changing, Frees, Unregister', IsOutside, with_row, with_use, at_start}
use Rattle.seize_model.proofs.Given.SeizeWaitingFlushes.{much}
use Rattle.seize_model.proofs.Given.SeizeRuleWorld.Start.{start_good}
use Rattle.seize_model.proofs.Ends.Batches.Rows.{HeldByRows, runs_held, start_held}
use Rattle.seize_model.proofs.Alone.Histories.Reached.{runs_reached}
use Rattle.seize_model.proofs.Sets.Reclaims.Ends.{none_retired}
use Rattle.seize_model.proofs.Sets.Slots.Kept.{given_up_vacant}
use Rattle.seize_model.proofs.Sets.Turns.All.{calls_come}
use Rattle.seize_model.proofs.Sets.Turns.Begins.{Shown}
use Rattle.seize_model.proofs.Given.SeizeRuleRows.Short.{tries_on}
use Rattle.seize_acts.specs.Acts.Reclaimed.{HasNothingLeft, EverythingCanBeReclaimed}
use Rattle.seize_acts.proofs.Acts.Fine.{all_fine}
use Rattle.seize_acts.proofs.Acts.Lost.{behind_others}
use Rattle.seize_acts.proofs.Acts.Reclaimed.Whole.{Calm, Reaches, reaches_on, call_there, calls_calm, frees_reach}
use Rattle.seize_acts.proofs.Acts.Reclaimed.Quiet.{quiet_sets, quiet_shown, opened_below, opened_past}
use Rattle.seize_acts.proofs.Acts.Reclaimed.Settled.{Settled, all_settle, settled_vacant}
use Rattle.seize_acts.proofs.Acts.Reclaimed.Flushed.{Flushing, all_flush, batch_zero}
use Rattle.seize_acts.proofs.Quiet.Slots.Facts.{vacant_outside, idle_outside}
use Rattle.seize_words.proofs.General.{no_length, at_most_itself as no_more}

module _ {T : Type 0} (defers : T → Option ℕ) (size i : ℕ) (word : size < 2 ^ 64) (slots : ℕ) (w : World T) (sets : Sets) where
  -- the slots below s are given up
  record Freeing (s : ℕ) (v : World T) : Type 0 where
    reaches : Reaches defers size i w v
    shown : Shown defers (LAST_SLOT + 1) size v sets
    held : HeldByRows v
    idle : (t : ℕ) → s ≤ t → t < slots → v.uses t ≡ Outside 0
    freed : (t : ℕ) → t < s → v.uses t ≡ Vacant
    vacant : (t : ℕ) → slots ≤ t → v.uses t ≡ Vacant

  free_one : (s : ℕ) (v : World T) → s < slots → Freeing s v → (u : World T) × Freeing (suc s) u
  free_one s v lt f =
      let calm : Calm defers size v = record { rested = f.shown.rested; held = f.held } in
      let gives : Unregister = record { slot = s } in
      let begun = with_use (with_row v i (Frees gives)) s Changing in
      let call = call_there defers size i (Unregister' s) v begun calm (f.idle s (omega arith) lt, refl) in
      let u = call.0 in
      let came = calls_come defers (LAST_SLOT + 1) size refl word i (Unregister' s) v u sets f.shown call.1 in
      let after : Shown defers (LAST_SLOT + 1) size u sets = came.shown in
      let k = given_up_vacant defers i size s v u call.1 in (
        u,
        record {
          reaches = reaches_on defers size i w v u f.reaches (frees_reach defers size i s v u calm call.1);
          shown = after;
          held = (calls_calm defers size i (Unregister' s) v u calm call.1).held;
          idle = λ t a b. k.1 t (λ e. absurd (omega (arith, e, a))) ∙ f.idle t (omega (arith, a)) b;
          freed = λ t l. (elim (cases_eq t s) as (λ _. u.uses t ≡ Vacant) [
            | inl same ↦ ap u.uses same ∙ k.0
            | inr ne ↦ k.1 t ne ∙ f.freed t (omega (arith, l, ne))
          ]);
          vacant = λ t l. k.1 t (λ e. absurd (omega (arith, e, l, lt))) ∙ f.vacant t l;
        },
      )

  all_free : (left s : ℕ) (v : World T) → s + left ≡ slots → Freeing s v → (u : World T) × Freeing slots u
  all_free zero s v e f = (v, subst (λ (k : ℕ). Freeing k v) (let k : s ≡ slots = omega (arith, e) in k) f)
  all_free (suc left) s v e f = let k = free_one s v (omega (arith, e)) f in all_free left (suc s) k.0 (omega (arith, e)) k.1

module _ {T : Type 0} (defers : T → Option ℕ) (size i : ℕ) (word : size < 2 ^ 64) where
  -- the batches of slots that have settled can be flushed
  begins : (w v : World T) (k : Settled defers size i w v)
      → Flushing defers size i word k.slots k.few w v (quiet_sets (LAST_SLOT + 1) (length v.memory.blocks + 1) k.settling.calm.rested.good.state)
  begins w v k =
      let n = LAST_SLOT + 1 in
      let rested = k.settling.calm.rested in
      let g = rested.good in
      let vacant = settled_vacant defers size i w v k in
      let shown = quiet_shown defers size v rested (λ s. (elim (cases_lt s k.slots) as (λ _. IsOutside (v.uses s)) [
        | inl l ↦ idle_outside (v.uses s) (k.settling.idle s l)
        | inr l ↦ vacant_outside (v.uses s) (vacant s l)
      ])) in
      record {
        reaches = k.settling.reaches;
        shown = shown;
        held = k.settling.calm.held;
        quiet = refl;
        idle = k.settling.idle;
        vacant = vacant;
        past = λ t l. (elim (cases_lt t n) as (λ _. (quiet_sets n (length v.memory.blocks + 1) g.state).open_batch t ≡ []) [
          | inl below ↦
              opened_below t n (g.state.blocks (g.state.open_batch t)) below
              ∙ no_length (g.state.blocks (g.state.open_batch t)) ((g.short t below (λ j. ap (λ r. tries_on r t) (rested.rests j))).untaken (k.never t l))
          | inr past ↦ opened_past t n (g.state.blocks (g.state.open_batch t)) past
        ]);
      }

  -- what is left then
  nothing_left : (slots : ℕ) (w v : World T) (sets : Sets) → Freeing defers size i word slots w sets slots v → ((s : ℕ) → sets.open_batch s ≡ [])
      → HasNothingLeft defers v
  nothing_left slots w v sets f none = (
    f.shown.rested.rests,
    retired,
    vacant,
    (λ s x le is. batch_zero defers size v sets f.shown f.held s (omega (arith, le)) (none s) x is),
    behind_others defers v f.shown.rested.good f.shown.rested.rests retired,
  )
    where
      vacant : (t : ℕ) → v.uses t ≡ Vacant
      vacant t = elim (cases_lt t slots) as (λ _. v.uses t ≡ Vacant) [
        | inl l ↦ f.freed t l
        | inr l ↦ f.vacant t l
      ]

      retired : (b : ℕ) → is_retired b v.log ≡ false
      retired b = none_retired defers (LAST_SLOT + 1) size refl v sets f.shown vacant none b

  pub all_can_be_reclaimed : (w : World T) → Calm defers size w → (n : World T) × Reaches defers size i w n × HasNothingLeft defers n
  all_can_be_reclaimed w calm =
      let a = all_settle defers size i w calm in
      let sets : Sets = quiet_sets (LAST_SLOT + 1) (length a.0.memory.blocks + 1) a.1.settling.calm.rested.good.state in
      let b = all_flush defers size i word a.1.slots a.1.few (much (LAST_SLOT + 1) sets) w a.0 sets (begins w a.0 a.1) (no_more (much (LAST_SLOT + 1) sets)) in
      let f = b.1.flushing_is in
      let c = all_free defers size i word a.1.slots w b.1.sets a.1.slots 0 b.0 (let z : 0 + a.1.slots ≡ a.1.slots = omega arith in z) (record {
        reaches = f.reaches;
        shown = f.shown;
        held = f.held;
        idle = λ t l m. f.idle t m;
        freed = λ t l. absurd (omega (arith, l));
        vacant = f.vacant;
      }) in
      (c.0, c.1.reaches, nothing_left a.1.slots w c.0 b.1.sets c.1 b.1.none)

pub everything_can_be_reclaimed : {T : Type 0} (defers : T → Option ℕ) → EverythingCanBeReclaimed defers
everything_can_be_reclaimed defers size roots i acts w word did rests =
    let f = all_fine defers size acts (at_start defers roots) w did in
    let start = start_good defers (LAST_SLOT + 1) size roots in
    let r = runs_reached defers size f.0 (at_start defers roots) w (record { good = start; sized = λ j. tt }) f.1 in
    let calm : Calm defers size w = record {
      rested = record { good = r.good; rests = rests };
      held = runs_held defers size f.0 (at_start defers roots) w start (λ j. tt) f.1 (start_held defers size roots);
    } in
    let k = all_can_be_reclaimed defers size i word w calm in
    (k.1.0, k.0, k.1.1, k.1.2, k.2)
