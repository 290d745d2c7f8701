-- Events that are rows on slots reclaim what the model reclaims.
use Rattle.std.specs.Prelude.{◌⊎◌, ◌<◌, ◌^◌, flat_map, map, Option, Some, None, IsSome}
use Rattle.std.proofs.Common.{◌≡◌, ℕ, Bool, List, [], ◌∷◌, ◌++◌, inl, inr, refl, ap, sym, subst, append_assoc, ◌∙◌}
use Rattle.std.proofs.lemmas.Grind.{flat_map-append}
use Rattle.std.proofs.lemmas.List.{append-nil, append_cancel_left}
use Rattle.std.proofs.lemmas.List.Concat.{flat_map-cons}
use Rattle.run_schedules.specs.Given.SeizeWordsMem.{Mem, value_at}
use Rattle.seize.specs.Law.{Effect as EffectOfWorld}
use Rattle.seize.specs.Sequence.{taken_in, changes, new_slot, entered_as, entered_at}
use Rattle.seize.specs.WaitingSets.{Change, ReclaimsAll, Sets, After, all_changed, at_start as sets_at_start}
use Rattle.seize.specs.World.{World, Rests, Step, Begins, Use, Vacant, Outside, Inside, Changing, Request, Register', Enter', Leave', LeaveOwned, Refresh, Unregister', Retire, Flush, Defer'}
use Rattle.run_executor.proofs.Given.SeizeAloneHistories.Reached.{Reached}
use Rattle.run_executor.proofs.Given.SeizeAloneWhole.Midway.{taken_append}
use Rattle.run_executor.proofs.Given.SeizeSetsTurns.Append.{changed_append}
use Rattle.run_executor.specs.Given.CallersTogether.{IsOfSlots}
use Rattle.run_executor.proofs.Given.CallersTogether.Came.{came_reached}
use Rattle.papaya_raw.specs.Given.TablesNodes.{deferred_word}
use Rattle.papaya_raw.specs.Given.TablesDeclared.node.Node.{Node}
use Rattle.run_executor.specs.Given.EffectsDeclared.changed.Changed.{Changed}
use Rattle.run_executor.specs.Given.EffectsDeclared.changed.Changed.TheVariants as changed
use Rattle.run_schedules.specs.Schedules.After.{moment}
use Rattle.run_schedules.specs.Schedules.Beginning.{at_work}
use Rattle.run_schedules.specs.Schedules.Entry.{Entry}
use Rattle.run_schedules.specs.Schedules.Model.{thing_back, number_in, changes_by, things_in, sets_in, changes_of, left_last}
use Rattle.run_schedules.specs.Schedules.Moment.{Moment}
use Rattle.run_schedules.specs.Schedules.Terms.{Terms}
use Rattle.run_schedules.specs.declared.effect.Effect.{Effect}
use Rattle.run_schedules.specs.declared.effect.Thing.{Thing}
use Rattle.run_schedules.specs.declared.event.Event.{Event}
use Rattle.run_schedules.specs.declared.event.Event.TheVariants as event
use Rattle.run_schedules.specs.declared.outcome.Outcome.{Outcome}
use Rattle.run_schedules.specs.declared.outcome.Outcome.TheVariants as outcome
use Rattle.run_executor.specs.Given.EffectsEffects.{effects_of, known_after}
use Rattle.run_executor.specs.Given.EffectsKnown.{Known}
use Rattle.run_executor.specs.Given.EffectsDeclared.acting.Acting.TheVariants.{Row}
use Rattle.run_executor.specs.Given.EffectsDeclared.role.Role.{Role}
use Rattle.run_executor.specs.Given.EffectsDeclared.role.Role.TheVariants as role
use Rattle.run_executor.specs.Given.ScenesDeclared.row.RowTold.{RowTold}
use Rattle.run_executor.specs.Given.ScenesDeclared.row.SlotRow.{SlotRow}
use Rattle.run_executor.specs.Given.FollowsBlocks.{HasRole, RefinesBlocks}
use Rattle.run_executor.proofs.Given.FollowsOperations.{LeavesBy, operated_leaves}
use Rattle.run_executor.proofs.Given.OthersRowPlans.{TellsRow, row_tells, row_operated}
use Rattle.run_executor.proofs.Given.MomentsOnSlots.{none_some}
use Rattle.run_blocks.specs.Given.PromisesSheltered.{IsOfThing}
use Rattle.run_kept.specs.Models.Alike.{AreAlike, SetsAlike, AfterAlike, ChangesAlike}
use Rattle.run_kept.specs.Models.Follows.{IsFollowed}
use Rattle.run_kept.specs.Models.Numbers.{things_of, HasNumber, EachIsOnce, AreOfRow}
use Rattle.run_kept.specs.Models.OnSlots.{FollowsInRow, IsRowFor, SlotEventsBegin, SlotEventsContinue, SlotEventsEnd}
use Rattle.run_kept.specs.Models.Turns.{sets_of, HasRun}
use Rattle.run_kept.proofs.Models.Alike.Again.{alike_again}
use Rattle.run_kept.proofs.Models.Alike.Changed.{all_alike}
use Rattle.run_kept.proofs.Models.Follows.{same_things, by_model, sets_then}
use Rattle.run_kept.proofs.Models.Numbers.{the_thing, has_one, none_came, none_handed, both_of_row}
use Rattle.run_kept.proofs.Models.RowSteps.{it, takes_so, step_back, roles_after}
use Rattle.run_kept.proofs.Models.Turns.{rows_begin, rows_go_on, rows_end, all_there}
use Rattle.run_executor.proofs.Given.ScenesMay.{may_row}
use Rattle.run_executor.specs.Given.ScenesHeld.{Held, IsAt}
use Rattle.run_executor.specs.Given.ScenesOnSlots.{HappensAt, RowSteps}
use Rattle.run_executor.specs.Given.ScenesScene.{IsOnSlot, Scene}

-- a row on slots that begins has done nothing yet
begun_log : {T : Type 0} (defers : T → Option ℕ) (size i : ℕ) (request : Request) (w w2 : World T) → IsOfSlots request → Begins defers size i request w w2 → w2.log ≡ w.log
begun_log defers size i (Register' enters) w w2 of h = ap (λ (x : World _). x.log) h
begun_log defers size i (Enter' s) w w2 of h = ap (λ (x : World _). x.log) h.1
begun_log defers size i (Leave' s) w w2 of h = ap (λ (x : World _). x.log) h.1
begun_log defers size i (LeaveOwned s) w w2 of h = ap (λ (x : World _). x.log) h.1
begun_log defers size i (Refresh s) w w2 of h = ap (λ (x : World _). x.log) h.1
begun_log defers size i (Unregister' s) w w2 of h = ap (λ (x : World _). x.log) h.1
begun_log defers size i (Retire s b) w w2 of h = absurd of
begun_log defers size i (Flush s) w w2 of h = ap (λ (x : World _). x.log) h.1
begun_log defers size i (Defer' s b t) w w2 of h = absurd of

pub slot_events_begin : (K V : Type 0) → SlotEventsBegin K V
slot_events_begin K V batch_size roots things sets known w w2 follows i request of rests begins = record {
  of_slots = of;
  before = follows.before;
  row = rows_begin deferred_word batch_size roots w w2 follows.before follows.came i request rests begins;
  alike = follows.alike;
  back = [];
  taken = ap taken_in (begun_log deferred_word batch_size i request w w2 of begins) ∙ sym (append-nil (taken_in w.log));
  reclaimed = refl;
  all = tt;
  noted = λ b. inl refl;
}

-- A step of such a row.

-- one list more behind each
both_more : {X Y : Type 0} (f : X → List Y) (done effects : List X) (back taken : List Y) → flat_map f done ≡ back → flat_map f effects ≡ taken → flat_map f (done ++ effects) ≡ back ++ taken
both_more {Y = Y} f done effects back taken p q =
    flat_map-append f done effects ∙ ap (λ (xs : List Y). xs ++ flat_map f effects) p ∙ ap (λ (xs : List Y). back ++ xs) q

-- noted as at first, or free
pub noted_still : (r first after : Role) → (r ≡ first) ⊎ (r ≡ role.Free) → (after ≡ r) ⊎ (after ≡ role.Free) → (after ≡ first) ⊎ (after ≡ role.Free)
noted_still r first after (inl p) (inl q) = inl (q ∙ p)
noted_still r first after (inr p) (inl q) = inr (q ∙ p)
noted_still r first after p (inr q) = inr q

module _ {K V : Type 0} (same : K → K → Bool) (hash : ℕ → K → ℕ) (m : Moment K V) (known : Known) (s : Scene K V) (old new : Held K V) (at : IsAt same hash old s)
    (blocks : RefinesBlocks m known s.world) (i : ℕ) (row : SlotRow) (here : IsOnSlot s i row) (end : SlotRow × RowTold (Node K V))
    (steps : RowSteps K V row old.memory new.memory new.changed end) (happened : HappensAt same hash (Step i) s old new) where
  abbrev w : World (Node K V)
  w = s.world

  abbrev w2 : World (Node K V)
  w2 = happened.0

  left : LeavesBy w.memory w2.memory new.changed
  left =
      subst (λ (n : Mem (Node K V)). LeavesBy w.memory n new.changed) (sym happened.4.memory)
      (subst (λ (n : Mem (Node K V)). LeavesBy n new.memory new.changed) (sym at.memory)
      (operated_leaves old.memory new.memory new.changed
      (row_operated old.memory new.memory new.changed end row (may_row same hash old s at i row here) steps)))

  reached : Reached deferred_word old.batch_size w
  reached = came_reached old.batch_size w at.together.makings.standing.came

  tells : TellsRow new.changed
  tells = row_tells old.memory new.memory new.changed end row steps

  abbrev effects : List EffectOfWorld
  effects = (it deferred_word old.batch_size w reached i w2 happened.1).effects

  -- what it takes away is not noted as free
  not_free : (told : Changed) → LeavesBy w.memory w2.memory told → (b : ℕ) → told ≡ changed.Took b → known.roles b ≡ role.Free → ⊥
  not_free told l b is free =
      let taken = subst (LeavesBy w.memory w2.memory) is l in
      none_some (value_at w.memory b) taken.0 (subst (λ (r : Role). HasRole w m.stored b r) free (blocks.roles b))

  module _ (roots : ℕ) (things : List Thing) (sets : Sets) (first : Known) (request : Request) (began : World (Node K V)) (done : List Effect)
      (r : FollowsInRow old.batch_size roots things sets first i request began done known s.world) where
    as_first : (b : ℕ) → new.changed ≡ changed.Took b → known.roles b ≡ first.roles b
    as_first b is = by (r.noted b)
      where
        by : (known.roles b ≡ first.roles b) ⊎ (known.roles b ≡ role.Free) → known.roles b ≡ first.roles b
        by (inl e) = e
        by (inr free) = absurd (not_free new.changed left b is free)

    pub goes_on : FollowsInRow old.batch_size roots things sets first i request began (done ++ effects_of Row known new.changed) (known_after Row new.changed known) w2
    goes_on =
        let stepped = it deferred_word old.batch_size w reached i w2 happened.1 in
        let so = takes_so deferred_word old.batch_size w reached i w2 happened.1 new.changed left tells in
        let back = step_back known first new.changed tells (taken_in effects) so as_first in
        record {
          of_slots = r.of_slots;
          before = r.before;
          row = rows_go_on deferred_word old.batch_size roots i request began w w2 r.before r.row happened.1;
          alike = r.alike;
          back = r.back ++ taken_in effects;
          taken =
              ap taken_in stepped.logged ∙ taken_append effects w.log ∙ ap (λ (l : List ℕ). l ++ taken_in effects) r.taken
              ∙ append_assoc (taken_in began.log) r.back (taken_in effects);
          reclaimed =
              both_more thing_back done (effects_of Row known new.changed) _ _ r.reclaimed back.0
              ∙ sym (flat_map-append (λ (b : ℕ). things_of (first.roles b)) r.back (taken_in effects));
          all = both_of_row done (effects_of Row known new.changed) r.all back.1;
          noted = λ b. noted_still (known.roles b) (first.roles b) _ (r.noted b) (roles_after known new.changed tells b);
        }

module _ (K V : Type 0) (same : K → K → Bool) (hash : ℕ → K → ℕ) where
  pub slot_events_go_on : SlotEventsContinue K V same hash
  slot_events_go_on m known s old new at blocks i told leads row here roots things sets first request began done r =
      let to = leads row here in
      goes_on same hash m known s old new at blocks i row here (to.0, told) to.1 to.2 roots things sets first request began done r

-- Where it has ended.

-- a row on slots is the same change whatever numbers things have
row_alike : (R : ℕ → ℕ → Type 0) (request : Request) (before after : ℕ → Use) → IsOfSlots request → ChangesAlike R (changes request before after) (changes request before after)
row_alike R (Register' enters) before after of = by (new_slot before)
  where
    entered : (s : ℕ) (u : Use) → ChangesAlike R (entered_as s u) (entered_as s u)
    entered s Vacant = tt
    entered s (Outside n) = tt
    entered s (Inside n) = (refl, tt)
    entered s Changing = tt

    by : (o : Option ℕ) → ChangesAlike R (entered_at o after) (entered_at o after)
    by None = tt
    by (Some s) = entered s (after s)
row_alike R (Enter' s) before after of = (refl, tt)
row_alike R (Leave' s) before after of = (refl, tt)
row_alike R (LeaveOwned s) before after of = (refl, tt)
row_alike R (Refresh s) before after of = (refl, tt)
row_alike R (Unregister' s) before after of = tt
row_alike R (Retire s b) before after of = absurd of
row_alike R (Flush s) before after of = (refl, tt)
row_alike R (Defer' s b t) before after of = absurd of

-- and never that all is reclaimed
not_all : (request : Request) (before after : ℕ → Use) → (ReclaimsAll ∷ []) ≡ changes request before after → ⊥
not_all (Register' enters) before after e = by (new_slot before) e
  where
    entered : (s : ℕ) (u : Use) → (ReclaimsAll ∷ []) ≡ entered_as s u → ⊥
    entered s Vacant e = cc e
    entered s (Outside n) e = cc e
    entered s (Inside n) e = cc e
    entered s Changing e = cc e

    by : (o : Option ℕ) → (ReclaimsAll ∷ []) ≡ entered_at o after → ⊥
    by None e = cc e
    by (Some s) e = entered s (after s) e
not_all (Enter' s) before after e = cc e
not_all (Leave' s) before after e = cc e
not_all (LeaveOwned s) before after e = cc e
not_all (Refresh s) before after e = cc e
not_all (Unregister' s) before after e = cc e
not_all (Retire s b) before after e = cc e
not_all (Flush s) before after e = cc e
not_all (Defer' s b t) before after e = cc e

module _ {K V : Type 0} where
  -- by what such a row does an event changes nothing more
  row_alone : (things : List Thing) (e : Event K V) (o : Outcome V) (effects : List Effect) (m : Moment K V) → AreOfRow effects → changes_by things e o effects m ≡ changes_by [] e o [] m
  row_alone things (event.Enter guard registration) outcome.Done did m all = refl
  row_alone things (event.Own guard) (outcome.Slot s) did m all = refl
  row_alone things (event.DropGuard guard) outcome.Done did m all = refl
  row_alone things (event.Refresh guard) outcome.Done did m all = refl
  row_alone things (event.Flush guard) outcome.Done did m all = refl
  row_alone things event.ReclaimAll outcome.Done did m all = refl
  row_alone things event.Close outcome.Done did m all = refl
  row_alone things _ _ did m all = none_handed things _ did all

  none_left : (request : Request) (before after : ℕ → Use) (e : Event K V) (o : Outcome V) (m v : Moment K V) → IsRowFor request before after e o v → left_last e o m ≡ []
  none_left request before after event.ReclaimAll outcome.Done m v is = absurd (not_all request before after is)
  none_left request before after event.Close outcome.Done m v is = absurd (not_all request before after is)
  none_left request before after _ _ m v is = refl

-- the numbers of the things in blocks are those that stand for these
pub numbers_back : (known : Known) (things : List Thing) (blocks numbers : List ℕ) → AreAlike (HasNumber known things) blocks numbers
    → map (number_in things) (flat_map (λ b. things_of (known.roles b)) blocks) ≡ numbers
numbers_back known things [] [] h = refl
numbers_back known things [] (n ∷ numbers) h = absurd h
numbers_back known things (b ∷ blocks) [] h = absurd h
numbers_back known things (b ∷ blocks) (n ∷ numbers) h =
    let x = h.0.0 in
    ap (map (number_in things)) (flat_map-cons (λ (c : ℕ). things_of (known.roles c)) b blocks)
    ∙ ap (λ (xs : List Thing). map (number_in things) (xs ++ flat_map (λ (c : ℕ). things_of (known.roles c)) blocks)) (the_thing x (known.roles b) h.0.1)
    ∙ both (number_in things x) n _ _ h.0.3 (numbers_back known things blocks numbers h.1)
  where
    both : (j k : ℕ) (l r : List ℕ) → j ≡ k → l ≡ r → (j ∷ l) ≡ (k ∷ r)
    both j k l r p q = cc (p, q)

module _ {K V : Type 0} (terms : Terms) (log : List (Entry K V)) (e : Entry K V) (first : Known) (i : ℕ) (request : Request) (known : Known) (began w : World (Node K V))
    (small : terms.batch_size < 2 ^ 64) (once : EachIsOnce first)
    (r : FollowsInRow terms.batch_size terms.roots (things_in log) (sets_in terms.batch_size log) first i request began e.effects known w) (rests : w.row i ≡ Rests)
    (m : Moment K V) (blocks : RefinesBlocks m known w) (is : IsRowFor request began.uses w.uses e.event e.outcome (at_work e (moment log))) where
  abbrev now : List Change
  now = changes request began.uses w.uses

  abbrev sets_then_of : Sets
  sets_then_of = (all_changed terms.batch_size now (sets_in terms.batch_size log)).sets

  run : HasRun deferred_word terms.batch_size terms.roots request began r.before w
  run = rows_end deferred_word terms.batch_size terms.roots small i request began w r.before r.row rests

  things_same : things_in (e ∷ log) ≡ things_in log
  things_same = same_things terms log e (none_came e.effects r.all)

  are : changes_of log e ≡ now
  are = row_alone (things_in (e ∷ log)) e.event e.outcome e.effects (at_work e (moment log)) r.all ∙ is

  both : AfterAlike (HasNumber first (things_in log)) (all_changed terms.batch_size now (sets_of terms.batch_size r.before)) (all_changed terms.batch_size now (sets_in terms.batch_size log))
  both =
      all_alike (HasNumber first (things_in log)) (has_one first (things_in log) once) terms.batch_size now now (sets_of terms.batch_size r.before) (sets_in terms.batch_size log) r.alike
      (row_alike (HasNumber first (things_in log)) request began.uses w.uses r.of_slots)

  back_is : (all_changed terms.batch_size now (sets_of terms.batch_size r.before)).reclaimed ≡ r.back
  back_is = append_cancel_left (taken_in began.log) _ r.back (sym run.taken ∙ r.taken)

  reclaimed : AreAlike (HasNumber first (things_in log)) r.back (all_changed terms.batch_size now (sets_in terms.batch_size log)).reclaimed
  reclaimed = subst (λ (l : List ℕ). AreAlike (HasNumber first (things_in log)) l (all_changed terms.batch_size now (sets_in terms.batch_size log)).reclaimed) back_is both.reclaimed

  numbers_are : map (number_in (things_in (e ∷ log))) (flat_map thing_back e.effects) ≡ (all_changed terms.batch_size now (sets_in terms.batch_size log)).reclaimed
  numbers_are =
      ap (λ (xs : List Thing). map (number_in xs) (flat_map thing_back e.effects)) things_same ∙ ap (map (number_in (things_in log))) r.reclaimed
      ∙ numbers_back first (things_in log) r.back _ reclaimed

  -- what is there has the number that it had at first
  still : (b n : ℕ) → IsSome (value_at w.memory b) → HasNumber first (things_in log) b n → HasNumber known (things_in log) b n
  still b n some h = by (r.noted b)
    where
      by : (known.roles b ≡ first.roles b) ⊎ (known.roles b ≡ role.Free) → HasNumber known (things_in log) b n
      by (inl same) = (h.0, subst (IsOfThing h.0) (sym same) h.1, h.2, h.3)
      by (inr free) = absurd (none_some (value_at w.memory b) some (subst (λ (q : Role). HasRole w m.stored b q) free (blocks.roles b)))

  after_alike : SetsAlike (HasNumber known (things_in log)) (sets_of terms.batch_size (r.before ++ now)) sets_then_of
  after_alike =
      alike_again (HasNumber first (things_in log)) (HasNumber known (things_in log)) (λ b. IsSome (value_at w.memory b)) still (sets_of terms.batch_size (r.before ++ now)) sets_then_of
      (all_there deferred_word terms.batch_size terms.roots small w (r.before ++ now) run.came)
      (subst (λ (s : Sets). SetsAlike (HasNumber first (things_in log)) s sets_then_of)
      (sym (ap (λ (a : After). a.sets) (changed_append terms.batch_size r.before now sets_at_start))) both.sets)

  pub is_followed : IsFollowed terms log e known w
  is_followed = (
    by_model terms log e now are (none_left request began.uses w.uses e.event e.outcome (moment log) (at_work e (moment log)) is) numbers_are,
    record {
      before = r.before ++ now;
      came = run.came;
      alike =
          subst (λ (s : Sets). SetsAlike (HasNumber known (things_in (e ∷ log))) (sets_of terms.batch_size (r.before ++ now)) s) (sets_then terms log e now are)
          (subst (λ (xs : List Thing). SetsAlike (HasNumber known xs) (sets_of terms.batch_size (r.before ++ now)) sets_then_of) (sym things_same) after_alike);
    },
  )

pub slot_events_end : (K V : Type 0) → SlotEventsEnd K V
slot_events_end K V terms log e first i request known began w small once r rests m blocks is = is_followed terms log e first i request known began w small once r rests m blocks is
