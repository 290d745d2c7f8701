-- A step by which all is reclaimed leaves the lists of the tables that are in use then, and what waits behind them.
use Rattle.std.specs.Prelude.{◌≡◌, ◌⊎◌, ◌<◌, ℕ, ◌+◌, Bool, List, [], ◌∷◌, Option, None, Some, IsSome, if◌then◌else◌}
use Rattle.std.proofs.Common.{refl, ap, sym, subst, ◌∙◌, inl, inr}
use Rattle.std.proofs.lemmas.Bool.{eq-eqb}
use Rattle.run_schedules.specs.Given.SeizeWordsDeclared.at.At.{At}
use Rattle.run_schedules.specs.Given.SeizeWordsDeclared.at.At.TheVariants.{Root, Used}
use Rattle.run_schedules.specs.Given.SeizeWordsMem.{Mem, value_at}
use Rattle.seize.specs.Further.{FurtherAre}
use Rattle.seize.specs.declared.rows.reclaim_all.ReclaimAll.{ReclaimAll}
use Rattle.seize.specs.declared.rows.settle.Settled.{Settled}
use Rattle.seize.specs.declared.states.TheConstants.{LAST_SLOT}
use Rattle.seize.specs.World.{World, Row, Hand, NoBlock, InUse, Request, Register', Leave', Flush, Unregister', Event, Begin, Step, Begins, Runs, Steps', with_at, times}
use Rattle.run_executor.proofs.Given.SeizeRuleWorld.Kept.{steps_next}
use Rattle.run_executor.proofs.Given.SeizeAloneHistories.Reached.{Reached, happens_reached, runs_reached}
use Rattle.run_executor.proofs.Given.RuleWorld.Hands.{at_cases}
use Rattle.papaya_raw.specs.Given.TablesNodes.{deferred_word}
use Rattle.papaya_raw.specs.Given.TablesDeclared.node.Node.{Node}
use Rattle.run_schedules.specs.Schedules.Effects.{with_effects}
use Rattle.run_schedules.specs.Schedules.Moment.{Moment}
use Rattle.run_executor.specs.Given.EffectsDeclared.changed.Changed.{Changed}
use Rattle.run_executor.specs.Given.EffectsEffects.{effects_of, known_after}
use Rattle.run_executor.specs.Given.EffectsKnown.{Known}
use Rattle.run_executor.specs.Given.EffectsDeclared.acting.Acting.TheVariants.{Row as OfRow}
use Rattle.run_executor.specs.Given.EffectsDeclared.role.Role.TheVariants as role
use Rattle.run_executor.specs.Given.FinishesFactsEnds.{TakesLeft, WritesRoot, events_of}
use Rattle.run_executor.specs.Given.ReclaimsSlots.{IsForSlots, AreItsRows}
use Rattle.run_executor.specs.Given.ScenesReclaiming.{IsReclaiming, ReclaimingLeads}
use Rattle.run_executor.proofs.Given.FollowsOperations.{LeavesBy}
use Rattle.run_executor.proofs.Given.OthersRowPlans.{TellsRow}
use Rattle.run_executor.specs.Given.MomentsWhole.{RefinesWhole}
use Rattle.run_waiting.specs.Lives.Lying.{RefinesLying}
use Rattle.run_waiting.specs.Lives.Order.{RefinesOrder}
use Rattle.run_waiting.specs.Lives.Waiting.{IsPutting}
use Rattle.run_waiting.proofs.Lives.InUse.{listed_there, step_goes, still_leave_list, used_then}
use Rattle.run_waiting.proofs.Lives.Lying.{row_pair}
use Rattle.run_waiting.proofs.Lives.Order.{order_as, row_behind}
use Rattle.run_waiting.proofs.Lives.Putting.{put_before}
use Rattle.run_waiting.proofs.Lives.Reclaimed.{stays_so}
use Rattle.run_kept.proofs.Sheds.Reclaiming.Lies.{own_none}
use Rattle.run_kept.proofs.Sheds.Reclaiming.Steps.{reached}
use Rattle.run_executor.specs.Given.ScenesHeld.{Held}
use Rattle.run_executor.specs.Given.ScenesScene.{Scene}
use Rattle.run_executor.proofs.Given.ScenesLeads.{happens}

module _ {K V : Type 0} (size : ℕ) where
  -- the beginning of such a row leaves the memory, and who has what; and it puts nothing behind a block
  begun_so : (i : ℕ) (request : Request) (w v : World (Node K V)) → IsForSlots request → Begins deferred_word size i request w v
      → (v.memory ≡ w.memory) × (v.hand ≡ w.hand) × ((b c : ℕ) → IsPutting b c (v.row i) → ⊥)
  begun_so i request w v its h = by request its h
    where
      own : (row : Row) → ((b c : ℕ) → IsPutting b c row → ⊥) → v.row i ≡ with_at w.row i row i → (b c : ℕ) → IsPutting b c (v.row i) → ⊥
      own row none is b c puts = none b c (subst (IsPutting b c) (is ∙ ap (λ (q : Bool). if q then row else w.row i) (eq-eqb i i refl)) puts)

      by : (r : Request) → IsForSlots r → Begins deferred_word size i r w v → (v.memory ≡ w.memory) × (v.hand ≡ w.hand) × ((b c : ℕ) → IsPutting b c (v.row i) → ⊥)
      by (Register' enters) its h = (ap (λ (x : World (Node K V)). x.memory) h, ap (λ (x : World (Node K V)). x.hand) h, own _ (λ b c z. z) (ap (λ (x : World (Node K V)). x.row i) h))
      by (Leave' s) its h = (ap (λ (x : World (Node K V)). x.memory) h.1, ap (λ (x : World (Node K V)). x.hand) h.1, own _ (λ b c z. z) (ap (λ (x : World (Node K V)). x.row i) h.1))
      by (Flush s) its h = (ap (λ (x : World (Node K V)). x.memory) h.1, ap (λ (x : World (Node K V)). x.hand) h.1, own _ (λ b c z. z) (ap (λ (x : World (Node K V)). x.row i) h.1))
      by (Unregister' s) its h = (ap (λ (x : World (Node K V)). x.memory) h.1, ap (λ (x : World (Node K V)). x.hand) h.1, own _ (λ b c z. z) (ap (λ (x : World (Node K V)). x.row i) h.1))
      by _ its h = absurd its

  module _ (c o : ℕ) (blocks : List ℕ) where
    -- it was in use, with this list
    abbrev Had : World (Node K V) → Type 0
    Had w = (p : ℕ) × (w.hand c ≡ InUse p) × FurtherAre deferred_word w.memory c blocks

    -- so it is as its rows begin and take their steps
    rows_had : (i : ℕ) (events : List (Event (Node K V))) → AreItsRows i events → (w w2 : World (Node K V)) → Reached deferred_word size w → ((b d : ℕ) → IsPutting b d (w.row i) → ⊥)
        → Runs deferred_word size events w w2 → w2.hand c ≡ InUse o → FurtherAre deferred_word w2.memory c blocks → Had w
    rows_had i [] its w w2 r none runs used are = subst Had runs (o, used, are)
    rows_had i (Begin j request ∷ events) its w w2 r none (v, happens, runs) used are =
        let begins : Begins deferred_word size i request w v = subst (λ (k : ℕ). Begins deferred_word size k request w v) its.0 happens.1 in
        let so = begun_so i request w v its.1 begins in
        let later = rows_had i events its.2 v w2 (happens_reached deferred_word size (Begin j request) w v r happens) so.2 runs used are in
        (later.0, ap (λ (h : ℕ → Hand). h c) (sym so.1) ∙ later.1, subst (λ (m : Mem (Node K V)). FurtherAre deferred_word m c blocks) so.0 later.2)
    rows_had i (Step j ∷ events) its w w2 r none (v, happens, runs) used are =
        let step : Steps' deferred_word i (w.row i) w v = subst (λ (k : ℕ). Steps' deferred_word k (w.row k) w v) its.0 happens in
        let next = steps_next deferred_word (LAST_SLOT + 1) size refl w v r.good r.sized i (w.row i) refl step in
        let later = rows_had i events its.1 v w2 (happens_reached deferred_word size (Step j) w v r happens)
        (λ b d puts. none b d (put_before (LAST_SLOT + 1) i b d (w.row i) (v.row i) w.uses v.uses r.good.state next.good.state puts next.told)) runs used are in
        elim (step_goes deferred_word size i w v r step c later.0 later.1 blocks later.2) as (λ _. Had w) [
          | inl same ↦ (later.0, used_then deferred_word size i w v r step c later.0 later.1 blocks later.2, same.0)
          | inr put ↦ absurd (none put.0 c put.2)
        ]
    rows_had i (_ ∷ events) its w w2 r none runs used are = absurd its

    -- where what was left over is taken away, or a word of a root is written
    left_had : (i x : ℕ) (w w2 : World (Node K V)) → Reached deferred_word size w → Runs deferred_word size (events_of i (TakesLeft x)) w w2 → w2.hand c ≡ InUse o → FurtherAre deferred_word w2.memory c blocks → Had w
    left_had i x w w2 r runs used are =
        let is : w2.hand c ≡ with_at w.hand x NoBlock c = ap (λ (u : World (Node K V)). u.hand c) (runs.2 ∙ runs.1.5) in
        let was : w.hand c ≡ InUse o =
        at_cases (λ (h : Hand). h ≡ InUse o → w.hand c ≡ InUse o) w.hand x NoBlock c (λ e none. absurd (cc none)) (λ ne same_hand. same_hand) (sym is ∙ used) in
        (o, was, still_leave_list deferred_word size (events_of i (TakesLeft x)) w w2 r (tt, tt) runs c o o was used blocks are)

    root_had : (i : ℕ) (place : At) (word : ℕ) (w w2 : World (Node K V)) → Reached deferred_word size w → Runs deferred_word size (events_of i (WritesRoot place word)) w w2 → w2.hand c ≡ InUse o
        → FurtherAre deferred_word w2.memory c blocks → Had w
    root_had i place word w w2 r runs used are =
        let was : w.hand c ≡ InUse o = ap (λ (u : World (Node K V)). u.hand c) (sym (runs.2 ∙ runs.1.4)) ∙ used in
        (o, was, still_leave_list deferred_word size (events_of i (WritesRoot place word)) w w2 r (tt, tt) runs c o o was used blocks are)

module _ {K V : Type 0} (same : K → K → Bool) (hash : ℕ → K → ℕ) (name : ℕ → List ℕ) (m : Moment K V) (known : Known) (s : Scene K V) (whole : RefinesWhole same name m known s)
    (lying : RefinesLying m known s.world) (order : RefinesOrder m known s.world) (old new : Held K V) (i : ℕ) (lists : ℕ → List ℕ) (before after : ReclaimAll) (told : Settled (Node K V))
    (at : IsReclaiming same hash old s i lists before) (leads : ReclaimingLeads same hash s i lists old new before after told) where
  abbrev w : World (Node K V)
  w = s.world

  abbrev w2 : World (Node K V)
  w2 = leads.1.w2

  abbrev RunsBy : List (Event (Node K V)) → Type 0
  RunsBy events = Runs deferred_word old.batch_size events w w2

  here : Reached deferred_word old.batch_size w
  here = reached same hash name m known s whole old new i lists before after told at leads

  after_it : Reached deferred_word old.batch_size w2
  after_it = runs_reached deferred_word old.batch_size leads.1.events w w2 here leads.1.runs

  had : (c o : ℕ) (blocks : List ℕ) → w2.hand c ≡ InUse o → FurtherAre deferred_word w2.memory c blocks → (p : ℕ) × (w.hand c ≡ InUse p) × FurtherAre deferred_word w.memory c blocks
  had c o blocks used are = by leads.1.its
    where
      by : AreItsRows i leads.1.events ⊎ (((b : ℕ) × (leads.1.events ≡ events_of i (TakesLeft b)))
          ⊎ ((root : ℕ) × ((leads.1.events ≡ events_of i (WritesRoot (Root root) 0)) ⊎ (leads.1.events ≡ events_of i (WritesRoot (Used root) 0)))))
          → (p : ℕ) × (w.hand c ≡ InUse p) × FurtherAre deferred_word w.memory c blocks
      by (inl rows) =
          rows_had old.batch_size c o blocks i leads.1.events rows w w2 here (own_none same hash name m known s whole lying old new i lists before after told at leads) leads.1.runs used are
      by (inr (inl (b, is))) = left_had old.batch_size c o blocks i b w w2 here (subst RunsBy is leads.1.runs) used are
      by (inr (inr (root, inl is))) = root_had old.batch_size c o blocks i (Root root) 0 w w2 here (subst RunsBy is leads.1.runs) used are
      by (inr (inr (root, inr is))) = root_had old.batch_size c o blocks i (Used root) 0 w w2 here (subst RunsBy is leads.1.runs) used are

  pub reclaiming_order : (x : Changed) → TellsRow x → LeavesBy w.memory w2.memory x → RefinesOrder (with_effects None None (effects_of OfRow known x) m) (known_after OfRow x known) w2
  reclaiming_order x tells l c len o t blocks is used are =
      order_as m (with_effects None None (effects_of OfRow known x) m) known (known_after OfRow x known) w order c len before_it.0 t blocks was before_it.1 before_it.2
      (λ b n some noted. row_pair known w w2 b n noted (there b some) x tells l)
      (row_behind m known whole.blocks.tables_once c len t was x tells is)
    where
      was : known.roles c ≡ role.Table t len
      was = (stays_so m known whole.blocks x tells c len t is).0

      before_it : (p : ℕ) × (w.hand c ≡ InUse p) × FurtherAre deferred_word w.memory c blocks
      before_it = had c o blocks used are

      there : (b : ℕ) → 0 < times b blocks → (value : Node K V) × (value_at w2.memory b ≡ Some value)
      there b some = of (value_at w2.memory b) (listed_there deferred_word w2 after_it.good c o used blocks are b some) refl
        where
          of : (p : Option (Node K V)) → IsSome p → value_at w2.memory b ≡ p → (value : Node K V) × (value_at w2.memory b ≡ Some value)
          of None is_some e = absurd (cc is_some)
          of (Some value) is_some e = (value, e)
