-- What the end of a map leaves over is one of its tables, or a pair; and once it is over it has reclaimed all of them.
use Rattle.std.specs.Prelude.{◌≡◌, ◌⊎◌, ◌<◌, ◌≤◌, ◌+◌, ℕ, zero, suc, Bool, false, List, [], ◌∷◌, ◌++◌, map, Option, Some, None, IsSome}
use Rattle.std.proofs.Common.{refl, ap, sym, subst, ◌∙◌, inl, inr, arith}
use Rattle.std.proofs.lemmas.Bool.{cases_eq}
use Rattle.run_debts.specs.Given.SeizeWordsMem.{value_at}
use Rattle.run_debts.specs.Given.SeizeDeclared.rows.settle.Settled.{Settled}
use Rattle.run_debts.specs.Given.SeizeDeclared.rows.settle.Settled.TheVariants as settled
use Rattle.run_debts.specs.Given.SeizeDeclared.states.TheConstants.{LAST_SLOT}
use Rattle.run_debts.specs.Given.SeizeWorld.{LeftTo, times, with_at}
use Rattle.run_debts.proofs.Given.SeizeMemoryWords.There.{value_there}
use Rattle.run_debts.proofs.Given.SeizeAloneHistories.Reached.{Reached, runs_reached}
use Rattle.run_debts.specs.Given.TablesChunks.{is_incremental}
use Rattle.run_debts.specs.Given.TablesNodes.{deferred_word}
use Rattle.run_debts.specs.Given.TablesDeclared.node.Node.{Node}
use Rattle.run_debts.specs.Given.RawDeclared.machines.end_map.EndMap.{EndMap}
use Rattle.run_debts.specs.Given.RunsDeclared.effect.TableId.{TableId}
use Rattle.run_debts.specs.Given.SchedulesMoment.{Moment}
use Rattle.run_debts.specs.Given.CallersKept.{IsPair}
use Rattle.run_debts.proofs.Given.CallersTogether.At.{at_same, at_other}
use Rattle.run_debts.proofs.Given.CallersTogether.Came.{came_reached}
use Rattle.run_debts.specs.Given.EffectsEffects.{known_after}
use Rattle.run_debts.specs.Given.EffectsKnown.{Known}
use Rattle.run_debts.specs.Given.EffectsDeclared.acting.Acting.TheVariants.{Ending}
use Rattle.run_debts.specs.Given.EffectsDeclared.role.Role.{Role}
use Rattle.run_debts.specs.Given.EffectsDeclared.role.Role.TheVariants as role
use Rattle.run_debts.specs.Given.FinishesEndings.{Finishing, HasFinished, StepsOfEnding, waiting_by}
use Rattle.run_debts.specs.Given.FinishesFactsEnds.{events_of, from_table, taken_by as taken_of, left_by}
use Rattle.run_debts.specs.Given.FinishesOrders.{pairs_of}
use Rattle.run_debts.proofs.Given.FinishesEnds.CountedBlocks.{times-append, some_last}
use Rattle.run_debts.proofs.Given.FinishesEnds.OrdersOn.{table_later}
use Rattle.run_debts.specs.Given.FollowsBlocks.{HasRole}
use Rattle.run_debts.proofs.Given.FollowsOnward.{IsOfMap}
use Rattle.run_debts.specs.Given.OthersEndings.{ending_after}
use Rattle.run_debts.specs.Given.MomentsWhole.{RefinesWhole}
use Rattle.run_debts.proofs.Given.MomentsEnds.{end_keeps}
use Rattle.run_debts.proofs.Given.MomentsOnSlots.{none_some}
use Rattle.run_waiting.specs.Lives.Behind.{IsLeft}
use Rattle.run_waiting.specs.Lives.LeftTables.{IsToTake, RefinesLeft, EndingsPreserveLeft}
use Rattle.run_waiting.proofs.Lives.Users.{left_lives}
use Rattle.run_debts.specs.Given.ScenesEnding.{EndingHasOutcome, EndingStepsFrom, ending_goes}
use Rattle.run_debts.specs.Given.ScenesHeld.{Held, IsAt}
use Rattle.run_debts.specs.Given.ScenesScene.{Scene, slot_of}
use Rattle.run_debts.proofs.Given.General.{none_less as none_of}

module _ {K V : Type 0} (same : K → K → Bool) (hash : ℕ → K → ℕ) (name : ℕ → List ℕ) (m : Moment K V) (known : Known) (s : Scene K V) (old new : Held K V) (at : IsAt same hash old s)
    (whole : RefinesWhole same name m known s) (shows : RefinesLeft known s) (i : ℕ) (f : Finishing K V) (here : s.enders i ≡ Some f) (end : EndMap) (said : Settled (Node K V))
    (steps : EndingStepsFrom f.machine old new end said)
    (did : StepsOfEnding V same same old.batch_size old.roots slot_of s.world s.maps s.calls s.makers s.enders i f new.memory (end, said))
    (of : ℕ) (not_there : s.maps of ≡ None) (comes : EndingHasOutcome same hash s new i f end did.w2 did.deed said) where
  abbrev known2 : Known
  known2 = known_after (Ending of) new.changed known

  after : Reached deferred_word old.batch_size did.w2
  after = runs_reached deferred_word old.batch_size (events_of i did.deed) s.world did.w2 (came_reached old.batch_size s.world at.together.makings.standing.came) did.runs

  -- what is left over then is there, so it was not reclaimed
  untaken : (b j : ℕ) → did.w2.hand b ≡ LeftTo j → times b (taken_of did.deed) ≡ 0
  untaken b j left = none_of (times b (taken_of did.deed)) (λ some. none_some (value_at did.w2.memory b) there (did.spares.gone b some))
    where
      there : IsSome (value_at did.w2.memory b)
      there = value_there deferred_word (LAST_SLOT + 1) did.w2.memory after.good.state after.good.extra b after.good.shows
          (left_lives (did.w2.hand b) (after.good.state.life b) (subst IsLeft (sym left) tt) (after.good.hands b))

  was_table : (b len : ℕ) (t : TableId) → known2.roles b ≡ role.Table t len → known.roles b ≡ role.Table t len
  was_table b len t is = sym ((end_keeps same hash name m known s old new at whole i f here end said steps did of not_there comes).0 b (subst IsOfMap (sym is) tt)) ∙ is

  -- a table is no pair
  no_pair : (b len : ℕ) (t : TableId) → known.roles b ≡ role.Table t len → IsPair s.world b → ⊥
  no_pair b len t is pair = (let table = (subst (λ (r : Role). HasRole s.world m.stored b r) is (whole.all.shown.blocks.roles b)).1 in let its = pair.2 in cc (table, its))

  -- who has it then: the same, unless it was left over just now
  either : (b len : ℕ) (t : TableId) (j : ℕ) → known2.roles b ≡ role.Table t len → did.w2.hand b ≡ LeftTo j
      → IsToTake s j b ⊎ ((i ≡ j) × (times b f.back ≡ 0) × ((u : ℕ) × (f.chart.first ≤ u) × (u < f.chart.past) × (b ≡ f.blocks.table u)))
  either b len t j is left = by (times b (left_by did.deed)) refl
    where
      Either : Type 0
      Either = IsToTake s j b ⊎ ((i ≡ j) × (times b f.back ≡ 0) × ((u : ℕ) × (f.chart.first ≤ u) × (u < f.chart.past) × (b ≡ f.blocks.table u)))

      now : 0 < times b (left_by did.deed) → Either
      now some = elim (did.done_to.over b some) as (λ _. Either) [
        | inl pair ↦ absurd (no_pair b len t (was_table b len t is) pair)
        | inr its ↦ inr ((let one : LeftTo i ≡ LeftTo j = sym (did.spares.left b some) ∙ left in cc one), its.0, its.1)
      ]

      by : (k : ℕ) → times b (left_by did.deed) ≡ k → Either
      by zero e = inl (shows b len t j (was_table b len t is) (sym (did.spares.hands b (untaken b j left) e) ∙ left))
      by (suc k) e = now (omega (arith, e))

  -- the end that has a block is this one
  its_end : (j b : ℕ) (k : IsToTake s j b) → j ≡ i → k.f ≡ f
  its_end j b k e = (let one : ◌≡◌ {A = Option (Finishing K V)} (Some k.f) (Some f) = sym k.ends ∙ ap s.enders e ∙ here in cc one)

  -- it goes on
  module _ (back : List ℕ) (more : (b : ℕ) → times b (taken_of did.deed) ≡ 0 → times b f.back ≡ 0 → times b back ≡ 0) where
    abbrev next : Finishing K V
    next = record f { machine = end; back = back; waits = f.waits ++ waiting_by did.deed }

    abbrev led : Scene K V
    led = ending_goes s i f end did.w2 did.deed back

    goes_on : (j b : ℕ) → times b (taken_of did.deed) ≡ 0 → (k : IsToTake s j b) → IsToTake led j b
    goes_on j b none k = elim (cases_eq j i) as (λ _. IsToTake led j b) [
      | inl e ↦
          let one = its_end j b k e in
          record {
            f = next;
            ends = at_same s.enders i (Some next) j e;
            fresh = more b none (subst (λ (g : Finishing K V). times b g.back ≡ 0) one k.fresh);
            turn = k.turn;
            from = subst (λ (g : Finishing K V). g.chart.first ≤ k.turn) one k.from;
            made = subst (λ (g : Finishing K V). k.turn < g.chart.past) one k.made;
            is = subst (λ (g : Finishing K V). b ≡ g.blocks.table k.turn) one k.is;
          }
      | inr ne ↦ record { f = k.f; ends = at_other s.enders i (Some next) j ne ∙ k.ends; fresh = k.fresh; turn = k.turn; from = k.from; made = k.made; is = k.is }
    ]

    left_on : RefinesLeft known2 led
    left_on b len t j is left = elim (either b len t j is left) as (λ _. IsToTake led j b) [
      | inl k ↦ goes_on j b (untaken b j left) k
      | inr its ↦ record {
        f = next;
        ends = at_same s.enders i (Some next) j (sym its.0);
        fresh = more b (untaken b j left) its.1;
        turn = its.2.0;
        from = its.2.1;
        made = its.2.2;
        is = its.2.3;
      }
    ]

  -- it is over: it has reclaimed each table of its map
  module _ (finished : HasFinished did.w2.memory f) where
    all_back : (u : ℕ) → f.chart.first ≤ u → u < f.chart.past → 0 < times (f.blocks.table u) f.back
    all_back u from made =
        subst (λ (l : List ℕ). 0 < times (f.blocks.table u) l) (sym finished.back_is)
        (some_last (f.blocks.table u) (map f.blocks.pair (pairs_of (is_incremental f.setting.mode) f.chart)) (from_table f.setting f.chart f.blocks (λ t. []) false f.chart.first)
        (table_later f.setting f.chart f.blocks (λ t. []) false u f.chart.first from made))

    none_left : (b u : ℕ) → times b f.back ≡ 0 → f.chart.first ≤ u → u < f.chart.past → b ≡ f.blocks.table u → ⊥
    none_left b u fresh from made is = (let some = all_back u from made in let none = subst (λ (x : ℕ). times x f.back ≡ 0) is fresh in omega (arith, some, none))

    left_over : RefinesLeft known2 (record s { world = did.w2; enders = with_at s.enders i None })
    left_over b len t j is left = elim (either b len t j is left) as (λ _. IsToTake (record s { world = did.w2; enders = with_at s.enders i None }) j b) [
      | inl k ↦ elim (cases_eq j i) as (λ _. IsToTake (record s { world = did.w2; enders = with_at s.enders i None }) j b) [
        | inl e ↦
            let one = its_end j b k e in
            absurd (none_left b k.turn (subst (λ (g : Finishing K V). times b g.back ≡ 0) one k.fresh) (subst (λ (g : Finishing K V). g.chart.first ≤ k.turn) one k.from)
            (subst (λ (g : Finishing K V). k.turn < g.chart.past) one k.made) (subst (λ (g : Finishing K V). b ≡ g.blocks.table k.turn) one k.is))
        | inr ne ↦ record { f = k.f; ends = at_other s.enders i None j ne ∙ k.ends; fresh = k.fresh; turn = k.turn; from = k.from; made = k.made; is = k.is }
      ]
      | inr its ↦ absurd (none_left b its.2.0 its.1 its.2.1 its.2.2 its.2.3)
    ]

  pub left_after : (x : Settled (Node K V)) (it : EndingHasOutcome same hash s new i f end did.w2 did.deed x) → RefinesLeft known2 (ending_after same hash s new i f end did.w2 did.deed x it)
  left_after settled.Goes it = left_on f.back (λ b none fresh. fresh)
  left_after settled.Waits it = absurd it
  left_after (settled.Gave value) it = left_on (f.back ++ it.0 ∷ []) (λ b none fresh.
      (let count = times-append b f.back (it.0 ∷ []) in let its : times b (it.0 ∷ []) ≡ 0 = sym (ap (times b) it.2) ∙ none in omega (arith, count, its, fresh)))
  left_after settled.Done it = left_over it.1

pub endings_keep_left : (K V : Type 0) (same : K → K → Bool) (hash : ℕ → K → ℕ) → EndingsPreserveLeft K V same hash
endings_keep_left K V same hash name m known s old new at whole shows i told leads f here of not_there =
    let to = leads f here in left_after same hash name m known s old new at whole shows i f here to.0 told to.1 to.2 of not_there to.3 told to.3
