-- Steps of calls, where they come one after another: the waiting sets of blocks are those of the model still, or will be once the row within the call has run.
use Rattle.std.specs.Prelude.{◌≡◌, ◌≢◌, ℕ, Bool, List, [], ◌++◌, flat_map, Some, ◌⊎◌}
use Rattle.std.proofs.Common.{refl, ap, sym, subst, ◌∙◌, inl, inr}
use Rattle.seize.specs.Sequence.{changes}
use Rattle.seize.specs.WaitingSets.{Change, Sets, After, all_changed, at_start as sets_at_start}
use Rattle.seize.specs.World.{World, Rests, Request, Begin, Step, Event, Happens, Runs}
use Rattle.run_executor.proofs.Given.SeizeSetsTurns.Append.{changed_append}
use Rattle.papaya_raw.specs.declared.machines.progress.Progress.{Progress}
use Rattle.run_executor.specs.Given.RuleInWorld.{AllUsers}
use Rattle.papaya_raw.specs.Given.TablesNodes.{deferred_word}
use Rattle.papaya_raw.specs.Given.TablesDeclared.node.Node.{Node}
use Rattle.run_schedules.specs.Schedules.Model.{handing}
use Rattle.run_schedules.specs.Schedules.Moment.{Moment}
use Rattle.run_schedules.specs.declared.effect.Effect.{Effect}
use Rattle.run_schedules.specs.declared.effect.Thing.{Thing}
use Rattle.run_schedules.specs.declared.effect.Thing.TheVariants.{APair, ATable}
use Rattle.run_executor.specs.Given.CallersSights.{seen_by}
use Rattle.run_executor.specs.Given.CallersTogether.{UnderWay, OnKey, ForRoom, Counting, OverAll, HandsOver, IsOneStep, IsAtPoint, Together}
use Rattle.run_executor.specs.Given.EffectsEffects.{effects_of, known_after}
use Rattle.run_executor.specs.Given.EffectsKnown.{Known}
use Rattle.run_executor.specs.Given.EffectsDeclared.acting.Acting.TheVariants.{Call}
use Rattle.run_executor.specs.Given.EffectsDeclared.role.Role.{Role}
use Rattle.run_executor.proofs.Given.FollowsOnward.{IsLasting, KeepsRoles}
use Rattle.run_executor.proofs.Given.FollowsRowSteps.{row_step_shown}
use Rattle.run_executor.proofs.Given.FollowsSteps.{WentTo, went_to, DidSo, OfNoRow, step_shown}
use Rattle.run_executor.proofs.Given.HandsRowSteps.{rows_hand_theirs}
use Rattle.run_executor.proofs.Given.HandsSteps.{calls_store_theirs}
use Rattle.run_executor.specs.Given.MomentsWhole.{RefinesWhole}
use Rattle.run_blocks.specs.Given.PromisesSheltered.{IsOfThing}
use Rattle.run_kept.specs.Models.Alike.{SetsAlike}
use Rattle.run_kept.specs.Models.Calls.{sets_on, FollowsInCall, MoreThingsFollow, RowsWithinEnd}
use Rattle.run_kept.specs.Models.Follows.{FollowsSets}
use Rattle.run_kept.specs.Models.Numbers.{HasNumber}
use Rattle.run_kept.specs.Models.Turns.{sets_of}
use Rattle.run_kept.proofs.Models.Alike.Again.{alike_more}
use Rattle.run_kept.proofs.Models.Alike.Changed.{all_alike}
use Rattle.run_kept.proofs.Models.Handing.{nothing_handed, keeps_all}
use Rattle.run_kept.proofs.Models.Numbers.{has_one, still_in, same_number}
use Rattle.run_kept.proofs.Models.Turns.{rows_begin, rows_go_on, rows_end, users_follow}
use Rattle.run_executor.specs.Given.ScenesHeld.{Held, IsAt}
use Rattle.run_executor.specs.Given.ScenesScene.{Scene, slot_of}
use Rattle.run_executor.specs.Given.ScenesStepping.{StepLeads}

-- further things change no number
pub more_numbers : (known : Known) (things more : List Thing) (b n : ℕ) → HasNumber known things b n → HasNumber known (things ++ more) b n
more_numbers known things more b n h = (h.0, h.1, still_in more things h.0 h.2, same_number more things h.0 h.2 ∙ h.3)

pub more_things_follow : (K V : Type 0) → MoreThingsFollow K V
more_things_follow K V batch_size roots things more sets known w = (
  λ f. record { before = f.before; came = f.came; alike = alike_more (HasNumber known things) (HasNumber known (things ++ more)) (more_numbers known things more) _ sets f.alike },
  λ i request handed f. record {
    began = f.began;
    before = f.before;
    row = f.row;
    first = f.first;
    alike = alike_more (HasNumber known things) (HasNumber known (things ++ more)) (more_numbers known things more) _ f.first f.alike;
    sets_are = f.sets_are;
  },
)

-- blocks of things keep their roles, and so their numbers
pub kept_numbers : (known known2 : Known) → KeepsRoles known known2 → (things : List Thing) (b n : ℕ) → HasNumber known things b n → HasNumber known2 things b n
kept_numbers known known2 keeps things b n h = (h.0, subst (IsOfThing h.0) (sym (keeps b (lasting h.0 (known.roles b) h.1))) h.1, h.2, h.3)
  where
    lasting : (x : Thing) (r : Role) → IsOfThing x r → IsLasting r
    lasting (APair k) r is = subst IsLasting (sym is) tt
    lasting (ATable t) r is = subst IsLasting (sym is.1) tt

-- a row within a call that has run
pub rows_within_end : (K V : Type 0) → RowsWithinEnd K V
rows_within_end K V batch_size roots things sets known i request handed w small once r rests told =
    let run = rows_end deferred_word batch_size roots small i request r.began w r.before r.row rests in
    let now = changes request r.began.uses w.uses in
    let after = all_alike (HasNumber known things) (has_one known things once) batch_size now handed (sets_of batch_size r.before) r.first r.alike told in
    record {
      before = r.before ++ now;
      came = run.came;
      alike =
          subst (λ (s : Sets). SetsAlike (HasNumber known things) (sets_of batch_size (r.before ++ now)) s) (sym r.sets_are)
          (subst (λ (s : Sets). SetsAlike (HasNumber known things) s (all_changed batch_size handed r.first).sets)
          (sym (ap (λ (a : After). a.sets) (changed_append batch_size r.before now sets_at_start))) after.sets);
    }

-- The steps of a call.
module _ {K V : Type 0} (same : K → K → Bool) (hash : ℕ → K → ℕ) (name : ℕ → List ℕ) (m : Moment K V) (known : Known) (s : Scene K V) (old new : Held K V) (at : IsAt same hash old s)
    (whole : RefinesWhole same name m known s) (map i : ℕ) (u : UnderWay K V K) (here : s.calls map i ≡ Some u) (told : Progress (Node K V)) (leads : StepLeads same hash i told s old new) where
  abbrev to : WentTo same hash name m known s old new at whole.all.shown map i u here told leads
  to = went_to same hash name m known s old new at whole.all.shown map i u here told leads

  abbrev Did : UnderWay K V K → Type 0
  Did x = DidSo same hash name m known s old new at whole.all.shown map i u here told leads x

  abbrev pub NoRow : (x : UnderWay K V K) → Did x → Type 0
  NoRow x did = OfNoRow same hash name m known s old new at whole.all.shown map i u here told leads x did

  abbrev effects : List Effect
  effects = effects_of (Call i map) known new.changed

  abbrev known2 : Known
  known2 = known_after (Call i map) new.changed known

  pub own_keeps : NoRow u to.4.did → KeepsRoles known known2
  own_keeps own =
      (step_shown same hash name m known s old new at whole.all.shown map i u here told leads own (calls_store_theirs K V same hash name m known s old new at whole.all map i u here told leads own).0).1.keeps

  pub row_keeps : (NoRow u to.4.did → ⊥) → KeepsRoles known known2
  row_keeps other =
      let it = rows_hand_theirs K V same hash name m known s old new at whole.all map i u here told leads other in
      (row_step_shown same hash name m known s old new at whole.all.shown map i u here told leads other it.1 it.0).keeps

  batch_is : to.0.setting.batch_size ≡ old.batch_size
  batch_is = (at.together.makings.standing.fit map to.0 to.2).2

  -- one that is of no row has come about by users' events
  pub record ByUsers (w2 : World (Node K V)) : Type 0 where
    pub events : List (Event (Node K V))
    pub users : AllUsers events
    pub runs : Runs deferred_word old.batch_size events s.world w2

  pub by_users : NoRow u to.4.did → ByUsers to.4.w2
  by_users own = by u to.4.did own
    where
      of_these : (events : List (Event (Node K V))) (w : World (Node K V)) → AllUsers events → Runs deferred_word to.0.setting.batch_size events s.world w → to.4.w2 ≡ w → ByUsers to.4.w2
      of_these events w users runs is = record {
        events = events;
        users = users;
        runs = subst (λ (x : World (Node K V)). Runs deferred_word old.batch_size events s.world x) (sym is)
            (subst (λ (size : ℕ). Runs deferred_word size events s.world w) batch_is runs);
      }

      by : (x : UnderWay K V K) (did : Did x) → NoRow x did → ByUsers to.4.w2
      by (OnKey x) (p2, end, machine_is, told_is, inl (step, has)) own = of_these step.step.went.events step.step.went.w2 step.step.went.users step.step.went.runs has.0
      by (OnKey x) (p2, end, machine_is, told_is, inr row) own = absurd own
      by (ForRoom x) (p2, end, machine_is, told_is, inl (step, has)) own = of_these step.step.went.events step.step.went.w2 step.step.went.users step.step.went.runs has.0
      by (ForRoom x) (p2, end, machine_is, told_is, inr row) own = absurd own
      by (Counting x) (p2, end, machine_is, told_is, same_memory, has) own = of_these [] s.world tt refl has.0
      by (OverAll x) (p2, end, machine_is, told_is, inl (step, has)) own = of_these step.step.went.events step.step.went.w2 step.step.went.users step.step.went.runs has.0
      by (OverAll x) (p2, end, machine_is, told_is, inr row) own = absurd own

  pub call_follows : NoRow u to.4.did → (roots : ℕ) (things : List Thing) (sets : Sets) → FollowsSets old.batch_size roots things sets known s.world → (slot : ℕ)
      → FollowsSets old.batch_size roots things (sets_on old.batch_size things slot effects sets) known2 to.4.w2
  call_follows own roots things sets f slot =
      let by = by_users own in
      let none = nothing_handed things slot effects (keeps_all same hash name m known s old new at whole.all.shown map i u here told leads own) in
      record {
        before = f.before;
        came = users_follow deferred_word old.batch_size roots s.world to.4.w2 f.before f.came by.events by.users by.runs;
        alike =
            subst (λ (cs : List Change). SetsAlike (HasNumber known2 things) (sets_of old.batch_size f.before) (all_changed old.batch_size cs sets).sets) (sym none)
            (alike_more (HasNumber known things) (HasNumber known2 things) (kept_numbers known known2 (own_keeps own) things) (sets_of old.batch_size f.before) sets f.alike);
      }

  -- one of a row is a step of the caller's row, which it has begun with it, or before
  abbrev pub OneStep : World (Node K V) → Type 0
  OneStep w2 =
      Happens deferred_word old.batch_size (Step i) s.world w2
      ⊎ ((request : Request) × (begun : World (Node K V)) × HandsOver to.0.setting i s.world request × Happens deferred_word old.batch_size (Begin i request) s.world begun
      × Happens deferred_word old.batch_size (Step i) begun w2)

  pub one_step : (NoRow u to.4.did → ⊥) → OneStep to.4.w2
  one_step other = by u to.4.did other
    where
      of_this : (w : World (Node K V)) → IsOneStep to.0.setting i s.world w → to.4.w2 ≡ w → OneStep to.4.w2
      of_this w (inl step) is = inl (subst (λ (x : World (Node K V)). Happens deferred_word old.batch_size (Step i) s.world x) (sym is) step)
      of_this w (inr (request, begun, hands, begins, step)) is = inr (
        request,
        begun,
        hands,
        subst (λ (size : ℕ). Happens deferred_word size (Begin i request) s.world begun) batch_is begins,
        subst (λ (x : World (Node K V)). Happens deferred_word old.batch_size (Step i) begun x) (sym is) step,
      )

      by : (x : UnderWay K V K) (did : Did x) → (NoRow x did → ⊥) → OneStep to.4.w2
      by (OnKey x) (p2, end, machine_is, told_is, inl step) other = absurd (other tt)
      by (OnKey x) (p2, end, machine_is, told_is, inr (row, has)) other = of_this row.step.w2 row.step.happened has.0
      by (ForRoom x) (p2, end, machine_is, told_is, inl step) other = absurd (other tt)
      by (ForRoom x) (p2, end, machine_is, told_is, inr (row, has)) other = of_this row.step.w2 row.step.happened has.0
      by (Counting x) did other = absurd (other tt)
      by (OverAll x) (p2, end, machine_is, told_is, inl step) other = absurd (other tt)
      by (OverAll x) (p2, end, machine_is, told_is, inr (row, has)) other = of_this row.step.w2 row.step.happened has.0

  -- the memory after it is that to which the call has come
  pub its_memory : (NoRow u to.4.did → ⊥) → to.4.w2.memory ≡ new.memory
  its_memory other = by u to.4.did other
    where
      of_world : (w : World (Node K V)) → w.memory ≡ new.memory → to.4.w2 ≡ w → to.4.w2.memory ≡ new.memory
      of_world w memory is = ap (λ (x : World (Node K V)). x.memory) is ∙ memory

      by : (x : UnderWay K V K) (did : Did x) → (NoRow x did → ⊥) → to.4.w2.memory ≡ new.memory
      by (OnKey x) (p2, end, machine_is, told_is, inl step) other = absurd (other tt)
      by (OnKey x) (p2, end, machine_is, told_is, inr (row, has)) other = of_world row.step.w2 row.step.memory has.0
      by (ForRoom x) (p2, end, machine_is, told_is, inl step) other = absurd (other tt)
      by (ForRoom x) (p2, end, machine_is, told_is, inr (row, has)) other = of_world row.step.w2 row.step.memory has.0
      by (Counting x) did other = absurd (other tt)
      by (OverAll x) (p2, end, machine_is, told_is, inl step) other = absurd (other tt)
      by (OverAll x) (p2, end, machine_is, told_is, inr (row, has)) other = of_world row.step.w2 row.step.memory has.0

  pub row_begun : (NoRow u to.4.did → ⊥) → (request : Request) (begun : World (Node K V)) → Happens deferred_word old.batch_size (Begin i request) s.world begun
      → Happens deferred_word old.batch_size (Step i) begun to.4.w2 → (roots : ℕ) (things : List Thing) (sets : Sets) → FollowsSets old.batch_size roots things sets known s.world → (slot : ℕ)
      → FollowsInCall old.batch_size roots things (sets_on old.batch_size things slot effects sets) known2 i request (flat_map (handing things slot) effects) to.4.w2
  row_begun other request begun begins step roots things sets f slot = record {
    began = s.world;
    before = f.before;
    row =
        rows_go_on deferred_word old.batch_size roots i request s.world begun to.4.w2 f.before
        (rows_begin deferred_word old.batch_size roots s.world begun f.before f.came i request begins.0 begins.1) step;
    first = sets;
    alike = alike_more (HasNumber known things) (HasNumber known2 things) (kept_numbers known known2 (row_keeps other) things) (sets_of old.batch_size f.before) sets f.alike;
    sets_are = refl;
  }

  -- whether it is one of a row; one that is none is taken while the caller has no row under way
  pub no_or : NoRow u to.4.did ⊎ (NoRow u to.4.did → ⊥)
  no_or = by u to.4.did
    where
      by : (x : UnderWay K V K) (did : Did x) → NoRow x did ⊎ (NoRow x did → ⊥)
      by (OnKey x) (p2, end, machine_is, told_is, inl step) = inl tt
      by (OnKey x) (p2, end, machine_is, told_is, inr row) = inr (λ own. own)
      by (ForRoom x) (p2, end, machine_is, told_is, inl step) = inl tt
      by (ForRoom x) (p2, end, machine_is, told_is, inr row) = inr (λ own. own)
      by (Counting x) did = inl tt
      by (OverAll x) (p2, end, machine_is, told_is, inl step) = inl tt
      by (OverAll x) (p2, end, machine_is, told_is, inr row) = inr (λ own. own)

  each : Together V same to.0.hash same to.0.setting slot_of s.world to.0.chart to.0.blocks to.0.sights (s.calls map)
  each = at.together.makings.standing.each map to.0 to.2

  pub no_row_rests : NoRow u to.4.did → s.world.row i ≡ Rests
  no_row_rests own = by u to.4.did own (each.stand i u here)
    where
      by : (x : UnderWay K V K) (did : Did x) → NoRow x did
          → IsAtPoint V same to.0.hash same to.0.setting slot_of s.world to.0.chart (seen_by to.0.blocks (to.0.sights (slot_of i))) i x → s.world.row i ≡ Rests
      by (OnKey x) did own (inl is) = is.0
      by (OnKey x) (p2, end, machine_is, told_is, inl (step, has)) own (inr is) = absurd (step.no_row is.1)
      by (OnKey x) (p2, end, machine_is, told_is, inr row) own (inr is) = absurd own
      by (ForRoom x) did own (inl is) = is.0
      by (ForRoom x) (p2, end, machine_is, told_is, inl (step, has)) own (inr is) = absurd (step.no_row is.1)
      by (ForRoom x) (p2, end, machine_is, told_is, inr row) own (inr is) = absurd own
      by (Counting x) did own is = is.0
      by (OverAll x) did own (inl is) = is.0
      by (OverAll x) (p2, end, machine_is, told_is, inl (step, has)) own (inr is) = absurd (step.no_row is.1)
      by (OverAll x) (p2, end, machine_is, told_is, inr row) own (inr is) = absurd own

  pub row_goes_on : (NoRow u to.4.did → ⊥) → s.world.row i ≢ Rests → (roots : ℕ) (things : List Thing) (sets : Sets) (request : Request) (handed : List Change)
      → FollowsInCall old.batch_size roots things sets known i request handed s.world → (slot : ℕ)
      → FollowsInCall old.batch_size roots things (sets_on old.batch_size things slot effects sets) known2 i request (handed ++ flat_map (handing things slot) effects) to.4.w2
  row_goes_on other goes roots things sets request handed f slot = by (one_step other)
    where
      by : OneStep to.4.w2
          → FollowsInCall old.batch_size roots things (sets_on old.batch_size things slot effects sets) known2 i request (handed ++ flat_map (handing things slot) effects) to.4.w2
      by (inl step) = record {
        began = f.began;
        before = f.before;
        row = rows_go_on deferred_word old.batch_size roots i request f.began s.world to.4.w2 f.before f.row step;
        first = f.first;
        alike = alike_more (HasNumber known things) (HasNumber known2 things) (kept_numbers known known2 (row_keeps other) things) (sets_of old.batch_size f.before) f.first f.alike;
        sets_are =
            ap (λ (x : Sets). (all_changed old.batch_size (flat_map (handing things slot) effects) x).sets) f.sets_are
            ∙ sym (ap (λ (a : After). a.sets) (changed_append old.batch_size handed (flat_map (handing things slot) effects) f.first));
      }
      by (inr (request2, begun, hands, begins, step)) = absurd (goes begins.0)
