-- What a step of a reservation, of a counting and of a sweep does to what it has to count.
use Rattle.std.specs.Prelude.{◌≡◌, ◌<◌, ◌+◌, ◌%◌, ◌^◌, ℕ, Bool, true, false, bit_and, List, [], ◌∷◌, flat_map, Some, None, Ok, Err}
use Rattle.std.proofs.Common.{refl, ap, sym, subst, ◌∙◌, arith, inl, inr}
use Rattle.run_places.specs.Given.SeizeWordsDeclared.at.At.{At}
use Rattle.run_places.specs.Given.SeizeWordsDeclared.at.At.TheVariants.{Word}
use Rattle.run_places.specs.Given.SeizeWordsMem.{Mem}
use Rattle.run_places.specs.Given.SeizeWordsOp.{Found, Stored as StoredOut, Exchanged, Made, Taken, Roomed}
use Rattle.run_places.specs.Given.SeizeWordsWord.{block_in}
use Rattle.run_places.specs.Given.SeizeWorld.{World, IsInside}
use Rattle.run_places.specs.Given.TablesChunks.{is_incremental}
use Rattle.run_places.specs.Given.TablesCounts.{count_change}
use Rattle.run_places.specs.Given.TablesTablePlaces.{at_place}
use Rattle.run_places.specs.Given.TablesDeclared.marks.TheConstants.{TOMBSTONE}
use Rattle.run_places.specs.Given.TablesDeclared.node.Node.{Node}
use Rattle.run_places.specs.Given.TablesDeclared.setting.Setting.{Setting}
use Rattle.run_places.specs.Given.TablesDeclared.table.Table.{Table}
use Rattle.run_places.specs.Given.TablesDeclared.table_words.TheConstants.{PLACES}
use Rattle.run_places.specs.Given.ResizeSum.{sum_plan}
use Rattle.run_places.specs.Given.ResizeDeclared.sum.Sum.{Sum}
use Rattle.run_places.specs.Given.ReservesReserve.{reserve_plan}
use Rattle.run_places.specs.Given.SweepsSweep.{sweep_plan}
use Rattle.run_places.specs.Given.SweepsSweep as sweeps
use Rattle.run_places.specs.Given.ReservesDeclared.sweep.Sweep.{Sweep}
use Rattle.run_places.specs.Given.ReservesDeclared.sweep.Sweeping.{Sweeping}
use Rattle.run_places.specs.Given.ReservesDeclared.sweep.Sweeping.TheVariants as sweeping
use Rattle.run_places.specs.Given.ReservesDeclared.sweep.Swept.{Swept}
use Rattle.run_places.specs.Given.ReservesDeclared.sweep.Swept.TheVariants as swept
use Rattle.run_places.specs.Given.RawMachine.{reserved as of_room, swept as of_sweep, counted as of_sum}
use Rattle.run_places.specs.Given.RawProgress.{of_swept}
use Rattle.run_places.specs.Given.RawDeclared.machines.machine.Machine.{Machine}
use Rattle.run_places.specs.Given.RawDeclared.machines.machine.Machine.TheVariants as kinds
use Rattle.run_places.specs.Given.RawDeclared.machines.progress.Progress.{Progress}
use Rattle.run_places.specs.Given.RunsDeclared.effect.Effect.{Effect}
use Rattle.run_places.specs.Given.RunsDeclared.effect.Effect.TheVariants as effect
use Rattle.run_places.specs.Given.SchedulesLinearizable.{shift_of}
use Rattle.run_places.specs.Given.SchedulesMoment.{Moment}
use Rattle.run_places.specs.Given.TellerTells.{StepsObserved}
use Rattle.run_places.specs.Given.EffectsDeclared.changed.Changed.{Changed}
use Rattle.run_places.specs.Given.EffectsDeclared.changed.Changed.TheVariants as changed
use Rattle.run_places.specs.Given.RuleChart.{Still, Chart}
use Rattle.run_places.specs.Given.RuleWords.{Blocks, byte_of}
use Rattle.run_places.proofs.Given.RuleLaws.{current_is_known, words_name_pairs, bytes_are_few}
use Rattle.run_places.proofs.Given.RuleWords.WritesWords.{at_place_block}
use Rattle.owner_facts.specs.Given.PointsFactsCalls.{Unchanged}
use Rattle.owner_facts.specs.Given.LateFactsSweeps.{SweepingFacts}
use Rattle.owner_facts.specs.Given.LateToldSweeps.{IsRowOfSweep}
use Rattle.owner_facts.specs.Given.CallersOverAll.{CallOverAll}
use Rattle.owner_facts.specs.Given.CallersRooms.{CallForRoom}
use Rattle.owner_facts.specs.Given.CallersSights.{seen_by, IsVisibility}
use Rattle.owner_facts.specs.Given.CallersTogether.{UnderWay, ForRoom, Counting, OverAll, IsOneStep, Together, next_over_all, in_slot}
use Rattle.run_places.specs.Given.EffectsEffects.{names_same, in_block, named, effects_of}
use Rattle.run_places.specs.Given.EffectsKnown.{Known}
use Rattle.run_places.specs.Given.EffectsDeclared.acting.Acting.{Acting}
use Rattle.run_places.specs.Given.EffectsDeclared.acting.Acting.TheVariants as acts
use Rattle.run_places.specs.Given.EffectsDeclared.role.Role.{Role}
use Rattle.run_places.specs.Given.EffectsDeclared.role.Role.TheVariants as role
use Rattle.owner_facts.specs.Given.FinishesMachines.{machine_of}
use Rattle.owner_facts.specs.Given.FinishesMaps.{Standing}
use Rattle.owner_facts.specs.Given.FinishesSweeps.{SweepStepsWithEndings}
use Rattle.run_places.specs.Given.FollowsMaps.{table_of}
use Rattle.run_places.specs.Given.FollowsShows.{Refines}
use Rattle.run_places.specs.Given.FollowsSteps.{TakesNone}
use Rattle.run_places.proofs.Given.FollowsOperations.{LeavesBy, operated_leaves}
use Rattle.run_places.proofs.Given.FollowsRowSteps.{row_done}
use Rattle.run_places.proofs.Given.FollowsRows.{one_step_leaves}
use Rattle.run_places.proofs.Given.FollowsSteps.{WentTo, went_to, made_so, DidSo, OfNoRow}
use Rattle.run_places.proofs.Given.FollowsWrites.{nothing_free, place_says}
use Rattle.run_places.proofs.Given.OthersOutcomes.{told_in}
use Rattle.run_places.proofs.Spots.Shifts.{calm_shifts, Shifts}
use Rattle.run_places.proofs.Spots.Steps.{moved_shifts, stayed_calm}
use Rattle.run_places.proofs.Changes.Changes.{hands_shift}
use Rattle.run_places.proofs.Changes.Which.{did_once, none_shifted}
use Rattle.run_debts.specs.Counts.{counts_in_sweeping, is_to_count, shard_for}
use Rattle.run_debts.proofs.Aimed.{IsElsewhere}
use Rattle.run_debts.proofs.Aims.{plan_aimed, sum_at, reserve_aims, sweep_aims}
use Rattle.run_debts.proofs.Gains.{AllApart, all_apart, NoneCounts, CountGoes, KeepsCount, TakesOne, CountsAll}
use Rattle.run_debts.proofs.Here.{IsNoCount, each, is_sight, room_no, over_all_no}
use Rattle.run_debts.proofs.Points.{IsNoTry, seen_idle, idle_step}
use Rattle.run_debts.proofs.Uncounted.{CountsNowhere, none_counts}
use Rattle.run_places.proofs.Given.ScenesTold.{as_step}
use Rattle.run_places.specs.Given.ScenesHeld.{Held, IsAt}
use Rattle.run_places.specs.Given.ScenesScene.{Scene, slot_of}
use Rattle.run_places.specs.Given.ScenesStepping.{StepLeads, StepsFrom}

-- what a sweep says of how far it is, it says in one way
pub same_swept : {T : Type 0} (a b : Swept T) → of_swept a ≡ of_swept b → a ≡ b
same_swept swept.Goes swept.Goes e = refl
same_swept swept.Waits swept.Waits e = refl
same_swept swept.Ready swept.Ready e = refl
same_swept swept.Done swept.Done e = refl
same_swept (swept.Gave v) (swept.Gave w) e = let one : v ≡ w = cc e in ap swept.Gave one
same_swept (swept.Pair v) (swept.Pair w) e = let one : v ≡ w = cc e in ap swept.Pair one
same_swept (swept.Asks v) (swept.Asks w) e = let one : v ≡ w = cc e in ap swept.Asks one
same_swept (swept.Refused v) (swept.Refused w) e = let one : v ≡ w = cc e in ap swept.Refused one
same_swept _ _ e = absurd (cc e)

-- it counts, or is about to remove a pair, or is elsewhere
pub data KindOf (p : Sweeping) : Type 0 where
  ToCount : (removed : ℕ) → p ≡ sweeping.Counts removed → KindOf p
  ToTry : (word : ℕ) → p ≡ sweeping.Tries word → KindOf p
  IsApart : IsElsewhere p → IsNoTry p → KindOf p

pub kind_at : (p : Sweeping) → KindOf p
kind_at (sweeping.Counts removed) = ToCount removed refl
kind_at (sweeping.Tries word) = ToTry word refl
kind_at _ = IsApart tt tt

pub elsewhere_not : (p : Sweeping) → IsElsewhere p → counts_in_sweeping p ≡ false
elsewhere_not (sweeping.Counts removed) elsewhere = absurd elsewhere
elsewhere_not _ elsewhere = refl

pub row_apart : (p : Sweeping) → IsRowOfSweep p → IsElsewhere p × IsNoTry p
row_apart (sweeping.Copies copier) row = (tt, tt)
row_apart (sweeping.Disposes dispose) row = (tt, tt)
row_apart _ row = absurd row

module _ {K V : Type 0} (same : K → K → Bool) (hash : ℕ → K → ℕ) (name : ℕ → List ℕ) (m : Moment K V) (known : Known) (s : Scene K V) (old new : Held K V) (at_old : IsAt same hash old s)
    (shown : Refines same name m known s) (map i : ℕ) (u : UnderWay K V K) (under_way : s.calls map i ≡ Some u) (said : Progress (Node K V)) (leads : StepLeads same hash i said s old new) where
  abbrev to : WentTo same hash name m known s old new at_old shown map i u under_way said leads
  to = went_to same hash name m known s old new at_old shown map i u under_way said leads

  abbrev st : Standing K
  st = to.0

  abbrev ch : Chart K
  ch = st.chart

  abbrev told : Changed
  told = new.changed

  abbrev its : Acting
  its = acts.Call i map

  abbrev effects : List Effect
  effects = effects_of its known told

  abbrev shard : ℕ
  shard = shard_for i st.setting

  abbrev Goes : Bool → Bool → Type 0
  Goes before after = CountGoes ⊥ shard effects before after

  here_each : Together V same st.hash same st.setting slot_of s.world ch st.blocks st.sights (s.calls map)
  here_each = each same hash name m known s old at_old shown map i st to.2 u under_way

  here_sight : IsInside (s.world.uses (slot_of i)) → IsVisibility ch st.blocks (st.sights (slot_of i))
  here_sight = is_sight same hash name m known s old at_old shown map i st to.2 u under_way

  pairs_there : (n : ℕ) → ch.current n ≡ true → n < ch.stored
  pairs_there n is = (current_is_known same st.hash st.setting s.world.memory ch st.blocks here_each.ground.map.map.rule here_each.ground.map.map.shows n is).0

  -- where no pair has come or gone, none is said to have
  none_kept : (c2 : Chart K) → Shifts ch c2 (shown.number map) known.stored effects → c2.current ≡ ch.current → flat_map shift_of effects ≡ []
  none_kept c2 shifts kept =
      none_shifted same st.hash (is_incremental st.setting.mode) (λ k. true) ch c2 (shown.number map) known.stored effects Unchanged refl
      (did_once same st.hash (is_incremental st.setting.mode) (λ k. true) ch c2 (shown.number map) known.stored effects pairs_there shifts Unchanged kept)

  row_none : (w2 : World (Node K V)) → w2.memory ≡ new.memory → IsOneStep st.setting i s.world w2 → TakesNone told → flat_map shift_of effects ≡ []
  row_none w2 memory happened none =
      hands_shift effects (row_done i map m known s.world w2 shown.blocks (one_step_leaves st.setting i s.world w2 here_each.ground.came happened) told
      (subst (λ (n : Mem (Node K V)). LeavesBy s.world.memory n told) (sym memory)
      (operated_leaves s.world.memory new.memory told (made_so same hash name m known s old new at_old shown map i u under_way said leads))) none).hands

  abbrev Did : UnderWay K V K → Type 0
  Did x = DidSo same hash name m known s old new at_old shown map i u under_way said leads x

  abbrev NoRow : (x : UnderWay K V K) → Did x → Type 0
  NoRow x done = OfNoRow same hash name m known s old new at_old shown map i u under_way said leads x done

  -- a reservation
  pub room_nowhere : (x : CallForRoom) → u ≡ ForRoom x → CountsNowhere known told
  room_nowhere x is b field old_word new_word of told_is role_is =
      let stepped = subst (λ (y : UnderWay K V K). StepsFrom same to.0.hash (machine_of y) old new to.1 said) is to.3 in
      let inner = told_in old.memory new.memory told of_room (reserve_plan to.0.hash x.reserve) (to.1, said) stepped in
      plan_aimed (IsNoCount known) old.memory new.memory told (reserve_plan to.0.hash x.reserve) inner.0 inner.2
      (reserve_aims (IsNoCount known) K V to.0.hash x.reserve (room_no same hash name m known s old at_old shown map i st to.2 u under_way x (under_way ∙ ap Some is))) b field old_word new_word told_is of role_is

  room_uncounted : (x : CallForRoom) → u ≡ ForRoom x → NoneCounts effects
  room_uncounted x is = none_counts i map known told (room_nowhere x is)

  -- no pair comes or goes by a step of one
  pub room_shifts : (x : CallForRoom) (done : Did (ForRoom x)) → NoRow (ForRoom x) done → flat_map shift_of effects ≡ []
  room_shifts x (p2, end, machine_is, told_is, inl (step, moved)) own =
      none_kept step.step.went.c2
      (moved_shifts same hash m known s old new at_old name shown map i st to.2 (name i) (made_so same hash name m known s old new at_old shown map i u under_way said leads)
      step.step.inside _ step.step.went step.step.blocks2 step.step.grown step.step.sights2) step.step.same_pairs
  room_shifts x (p2, end, machine_is, told_is, inr row) own = absurd own

  pub room_counts : (x : CallForRoom) → u ≡ ForRoom x → (done : Did (ForRoom x)) → ((NoRow (ForRoom x) done → ⊥) → TakesNone told) → Goes false (is_to_count to.1) × (to.4.next ≡ None → is_to_count to.1 ≡ false)
  room_counts x is (p2, end, machine_is, told_is, inl (step, moved)) takes =
      let never : is_to_count to.1 ≡ false = ap is_to_count machine_is in (
        KeepsCount (all_apart effects (room_shifts x (p2, end, machine_is, told_is, inl (step, moved)) tt) (room_uncounted x is)) never,
        λ none. never,
      )
  room_counts x is (p2, end, machine_is, told_is, inr (row, stayed)) takes =
      let never : is_to_count to.1 ≡ false = ap is_to_count machine_is in (
        KeepsCount (all_apart effects (row_none row.step.w2 row.step.memory row.step.happened (takes (λ own. own))) (room_uncounted x is)) never,
        λ none. never,
      )

  -- a counting
  pub sum_nowhere : (x : Sum) → u ≡ Counting x → CountsNowhere known told
  sum_nowhere x is b field old_word new_word of told_so role_is =
      let stepped = subst (λ (y : UnderWay K V K). StepsFrom same to.0.hash (machine_of y) old new to.1 said) is to.3 in
      let inner = told_in old.memory new.memory told of_sum (sum_plan x) (to.1, said) stepped in
      plan_aimed (IsNoCount known) old.memory new.memory told (sum_plan x) inner.0 inner.2 (sum_at (IsNoCount known) K V x x.stands) b field old_word new_word told_so of role_is

  pub sum_counts : (x : Sum) → u ≡ Counting x → Did (Counting x) → Goes false (is_to_count to.1) × (to.4.next ≡ None → is_to_count to.1 ≡ false)
  sum_counts x is (sum2, end, machine_is, told_is, still, stayed) =
      let never : is_to_count to.1 ≡ false = ap is_to_count machine_is in (
        KeepsCount (all_apart effects
            (calm_shifts effects
            (stayed_calm same hash m known s old new at_old name shown map i st to.2 (name i) (made_so same hash name m known s old new at_old shown map i u under_way said leads) still).calm) uncounted) never,
        λ none. never,
      )
    where
      uncounted : NoneCounts effects
      uncounted = none_counts i map known told (sum_nowhere x is)

  -- a sweep
  module _ (x : CallOverAll) (is_over : u ≡ OverAll x) where
    under_over : s.calls map i ≡ Some (OverAll x)
    under_over = under_way ∙ ap Some is_over

    module _ (p2 : Sweep) (end : Swept (Node K V)) (machine_is : to.1 ≡ kinds.Sweep p2) (told_is : said ≡ of_swept end) where
      abbrev pub Stepped : Sweep × Swept (Node K V) → Type 0
      Stepped e = StepsObserved K V (Sweep × Swept (Node K V)) old.memory changed.Nothing (sweep_plan to.0.hash x.sweep) new.memory told e

      pub steps : Stepped (p2, end)
      steps = by inner.0 inner.1 inner.2
        where
          inner : (r : Sweep × Swept (Node K V)) × (◌≡◌ {A = Machine K V K × Progress (Node K V)} (to.1, said) (of_sweep r)) × Stepped r
          inner = told_in old.memory new.memory told of_sweep (sweep_plan to.0.hash x.sweep) (to.1, said) (subst (λ (y : UnderWay K V K). StepsFrom same to.0.hash (machine_of y) old new to.1 said) is_over to.3)

          by : (r : Sweep × Swept (Node K V)) → ◌≡◌ {A = Machine K V K × Progress (Node K V)} (to.1, said) (of_sweep r) → Stepped r → Stepped (p2, end)
          by (q, said_so) is st2 =
              let machines : kinds.Sweep q ≡ kinds.Sweep p2 = sym (ap (λ (z : Machine K V K × Progress (Node K V)). z.0) is) ∙ machine_is in
              let says : of_swept said_so ≡ of_swept end = sym (ap (λ (z : Machine K V K × Progress (Node K V)). z.1) is) ∙ told_is in
              let one : q ≡ p2 = cc machines in
              subst (λ (z : Swept (Node K V)). Stepped (p2, z)) (same_swept said_so end says) (subst (λ (z : Sweep). Stepped (z, said_so)) one st2)

      abbrev before_counts : Bool
      before_counts = counts_in_sweeping x.sweep.stands

      abbrev after_counts : Bool
      after_counts = counts_in_sweeping p2.stands

      after_is : is_to_count to.1 ≡ after_counts
      after_is = ap is_to_count machine_is

      pub nowhere : IsElsewhere x.sweep.stands → CountsNowhere known told
      nowhere elsewhere b field old_word new_word of told_so role_is =
          plan_aimed (IsNoCount known) old.memory new.memory told (sweep_plan to.0.hash x.sweep) (p2, end) steps
          (sweep_aims (IsNoCount known) K V to.0.hash x.sweep (over_all_no same hash name m known s old at_old shown map i st to.2 u under_way x under_over elsewhere)) b field old_word new_word told_so of role_is

      uncounted : IsElsewhere x.sweep.stands → NoneCounts effects
      uncounted elsewhere = none_counts i map known told (nowhere elsewhere)

      pub idle : IsNoTry x.sweep.stands → after_counts ≡ false
      idle none =
          idle_step K V x.sweep to.0.hash none old.memory new.memory (p2, end) (as_step old.memory changed.Nothing (sweep_plan to.0.hash x.sweep) new.memory told (p2, end) steps)

      apart_goes : IsElsewhere x.sweep.stands → IsNoTry x.sweep.stands → flat_map shift_of effects ≡ [] → Goes before_counts after_counts
      apart_goes elsewhere none shifts = KeepsCount (all_apart effects shifts (uncounted elsewhere)) (idle none ∙ sym (elsewhere_not x.sweep.stands elsewhere))

      -- one that is none of a row
      module _ (step : SweepStepsWithEndings V same same old.batch_size old.roots slot_of s.world s.maps s.calls s.makers s.enders map st i x new.memory p2 end) where
        abbrev c2 : Chart K
        c2 = step.step.went.c2

        abbrev blocks : Blocks
        blocks = seen_by st.blocks (st.sights (slot_of i))

        its_shifts : Shifts ch c2 (shown.number map) known.stored effects
        its_shifts =
            moved_shifts same hash m known s old new at_old name shown map i st to.2 (name i) (made_so same hash name m known s old new at_old shown map i u under_way said leads)
            step.step.inside _ step.step.went step.step.blocks2 step.step.grown step.step.sights2

        -- what it knew before
        abbrev Facts : Sweeping → Type 0
        Facts p = SweepingFacts same st.hash s.world i (in_slot st.setting (slot_of i)) ch blocks x.began x.sweep p

        knew : (x.sweep.setting ≡ in_slot st.setting (slot_of i)) × Facts x.sweep.stands
        knew = elim (here_each.stand i (OverAll x) under_over) as (λ _. (x.sweep.setting ≡ in_slot st.setting (slot_of i)) × Facts x.sweep.stands) [
          | inl k ↦ (k.1.facts.setting_is, k.1.facts.point)
          | inr k ↦ absurd (step.no_row k.1)
        ]

        abbrev SteppedAt : Sweeping → Type 0
        SteppedAt p = StepsObserved K V (Sweep × Swept (Node K V)) old.memory changed.Nothing (sweeps.plan_at to.0.hash x.sweep p) new.memory told (p2, end)

        -- it counts
        wrote_count : (removed : ℕ) → SteppedAt (sweeping.Counts removed)
            → (o : ℕ) × (told ≡ changed.Wrote (Word x.sweep.setting.counter (bit_and x.sweep.setting.slot x.sweep.setting.mask)) o ((o + count_change removed) % 2 ^ 64))
        wrote_count removed (Found word, (took, told_so), ends) = (word, told_so)
        wrote_count removed (StoredOut, (took, told_so), ends) = absurd took.0
        wrote_count removed (Exchanged r, (took, told_so), ends) = absurd took.0
        wrote_count removed (Made r, (took, told_so), ends) = absurd took.0
        wrote_count removed (Taken r, (took, told_so), ends) = absurd took.0
        wrote_count removed (Roomed r, (took, told_so), ends) = absurd took.0

        -- in its shard, by as much as it is to count
        pub adds_now : (removed : ℕ) → x.sweep.stands ≡ sweeping.Counts removed → (o : ℕ) × (told ≡ changed.Wrote (Word st.setting.counter shard) o ((o + count_change removed) % 2 ^ 64))
        adds_now removed is =
            let wrote = wrote_count removed (subst SteppedAt is steps) in
            (wrote.0, wrote.1 ∙ ap (λ (z : Setting). changed.Wrote (Word z.counter (bit_and z.slot z.mask)) wrote.0 ((wrote.0 + count_change removed) % 2 ^ 64)) knew.0)

        pub counts_now : (removed : ℕ) → x.sweep.stands ≡ sweeping.Counts removed → effects ≡ effect.Counted shard ∷ []
        counts_now removed is =
            let o = (adds_now removed is).0 in
            let n = (o + count_change removed) % 2 ^ 64 in
            ap (effects_of its known) (adds_now removed is).1
            ∙ ap (λ (r : Role). in_block its r shard known.stored (names_same o n) (named known o) (named known n)) (shown.maps map st to.2).counter

        -- it removes a pair
        module _ (word : ℕ) (facts : Facts (sweeping.Tries word)) where
          abbrev t : ℕ
          t = facts.2

          within : x.sweep.place < ch.len t
          within = facts.3.1

          made : t < ch.past
          made = facts.3.0.table.made

          place_is : at_place x.sweep.table x.sweep.place ≡ Word (st.blocks.table t) (x.sweep.place + PLACES)
          place_is =
              at_place_block x.sweep.table (st.blocks.table t) x.sweep.place (ap (λ (y : Table). y.link) facts.3.0.table.is)
              (let l = within in let most = (here_each.ground.map.map.shows.sized t made).most in omega (arith, l, most))

          abbrev n : ℕ
          n = facts.1.0

          names : block_in word ≡ st.blocks.pair n
          names = ap block_in facts.1.4 ∙ words_name_pairs st.blocks.pair (λ k. byte_of st.hash (ch.key k)) n Still facts.1.1
              (bytes_are_few st.hash (at_old.together.makings.standing.fit map st to.2).0.fits (ch.key n))

          was_pair : known.roles (block_in word) ≡ role.Pair (shown.number map n)
          was_pair = ap known.roles names ∙ (shown.maps map st to.2).pairs.roles n facts.1.2 ((here_sight (here_each.inside i (OverAll x) under_over)).pairs n facts.1.2 facts.1.3)

          free : known.roles 0 ≡ role.Free
          free = nothing_free s.world m.stored known shown.blocks.roles

          removes : told ≡ changed.Wrote (at_place x.sweep.table x.sweep.place) word TOMBSTONE → effects ≡ effect.Removed (shown.number map n) ∷ []
          removes told_so =
              ap (effects_of its known) (told_so ∙ ap (λ (a : At). changed.Wrote a word TOMBSTONE) place_is)
              ∙ (place_says its known (st.blocks.table t) (table_of map t) (ch.len t) ((shown.maps map st to.2).tables.roles t made ((here_sight (here_each.inside i (OverAll x) under_over)).tables t made facts.3.0.table.known)) word TOMBSTONE
              (λ e. (let one : role.Pair (shown.number map n) ≡ role.Free = sym was_pair ∙ ap known.roles e ∙ free in cc one)) (role.Pair (shown.number map n)) role.Free was_pair free x.sweep.place within).0

          abbrev Tried : Type 0
          Tried = Goes false after_counts × (next_over_all {K = K} {V = V} {Q = K} x end ≡ None → after_counts ≡ false)

          goes_to_count : (found : ℕ) → found ≡ word → told ≡ changed.Wrote (at_place x.sweep.table x.sweep.place) found TOMBSTONE
              → ◌≡◌ {A = Sweep × Swept (Node K V)} (p2, end) (record x.sweep { stands = sweeping.Counts word }, swept.Goes) → Tried
          goes_to_count found is told_so e =
              let counts : after_counts ≡ true = ap (λ (z : Sweep × Swept (Node K V)). counts_in_sweeping z.0.stands) e in (
                TakesOne (shown.number map n) (removes (told_so ∙ ap (λ (k : ℕ). changed.Wrote (at_place x.sweep.table x.sweep.place) k TOMBSTONE) is)) counts,
                λ none. absurd (let some = ap (λ (z : Sweep × Swept (Node K V)). next_over_all {K = K} {V = V} {Q = K} x z.1) e in cc (none, some)),
              )

          goes_by : told ≡ changed.Nothing → after_counts ≡ false → Tried
          goes_by nothing never = (KeepsCount (subst AllApart (sym (ap (effects_of its known) nothing)) tt) never, λ none. never)

          tried : SteppedAt (sweeping.Tries word) → Tried
          tried (Exchanged (Ok found), (took, told_so), ends) = goes_to_count found took.0.1 told_so ends
          tried (Exchanged (Err found), (took, told_so), ends) =
              goes_by told_so (ap (λ (z : Sweep × Swept (Node K V)). counts_in_sweeping z.0.stands) ends ∙ seen_idle (Node K V) x.sweep found)
          tried (Found found, (took, told_so), ends) = absurd took.0
          tried (StoredOut, (took, told_so), ends) = absurd took.0
          tried (Made r, (took, told_so), ends) = absurd took.0
          tried (Taken r, (took, told_so), ends) = absurd took.0
          tried (Roomed r, (took, told_so), ends) = absurd took.0

          -- the pair that it removes is the one that it is to count
          took : SteppedAt (sweeping.Tries word) → (p : ℕ) → effects ≡ effect.Removed p ∷ [] → (p2.stands ≡ sweeping.Counts word) × (known.roles (block_in word) ≡ role.Pair p)
          took (Exchanged (Ok found), (took_so, told_so), ends) p are =
              let theirs = removes (told_so ∙ ap (λ (k : ℕ). changed.Wrote (at_place x.sweep.table x.sweep.place) k TOMBSTONE) took_so.0.1) in
              let same_pair : shown.number map n ≡ p = (let both = sym theirs ∙ are in cc both) in
              (ap (λ (z : Sweep × Swept (Node K V)). z.0.stands) ends, was_pair ∙ ap role.Pair same_pair)
          took (Exchanged (Err found), (took_so, told_so), ends) p are = absurd (let none = ap (effects_of its known) told_so in cc (none, are))
          took (Found found, (took_so, told_so), ends) p are = absurd took_so.0
          took (StoredOut, (took_so, told_so), ends) p are = absurd took_so.0
          took (Made r, (took_so, told_so), ends) p are = absurd took_so.0
          took (Taken r, (took_so, told_so), ends) p are = absurd took_so.0
          took (Roomed r, (took_so, told_so), ends) p are = absurd took_so.0

        -- elsewhere no pair comes or goes
        none_moved : IsNoTry x.sweep.stands → flat_map shift_of effects ≡ []
        none_moved none = elim (step.step.went.told.changes) as (λ _. flat_map shift_of effects ≡ []) [
          | inl kept ↦ none_kept c2 its_shifts kept
          | inr removed ↦ absurd (subst IsNoTry removed.2 none)
        ]

        pub own_goes : Goes before_counts after_counts × (next_over_all {K = K} {V = V} {Q = K} x end ≡ None → after_counts ≡ false)
        own_goes = by (kind_at x.sweep.stands)
          where
            by : KindOf x.sweep.stands → Goes before_counts after_counts × (next_over_all {K = K} {V = V} {Q = K} x end ≡ None → after_counts ≡ false)
            by (ToCount removed is) =
                let never = idle (subst IsNoTry (sym is) tt) in (CountsAll (counts_now removed is) (ap counts_in_sweeping is) never, λ none. never)
            by (ToTry word is) =
                let it = tried word (subst Facts is knew.1) (subst SteppedAt is steps) in
                (subst (λ (q : Bool). Goes q after_counts) (sym (ap counts_in_sweeping is)) it.0, it.1)
            by (IsApart elsewhere none) = (apart_goes elsewhere none (none_moved none), λ ends. idle none)

        pub own_takes : (p : ℕ) → effects ≡ effect.Removed p ∷ [] → (word : ℕ) × (p2.stands ≡ sweeping.Counts word) × (known.roles (block_in word) ≡ role.Pair p)
        own_takes p are = by (kind_at x.sweep.stands)
          where
            by : KindOf x.sweep.stands → (word : ℕ) × (p2.stands ≡ sweeping.Counts word) × (known.roles (block_in word) ≡ role.Pair p)
            by (ToCount removed is) = absurd (let theirs = counts_now removed is in cc (theirs, are))
            by (ToTry word is) = let it = took word (subst Facts is knew.1) (subst SteppedAt is steps) p are in (word, it.0, it.1)
            by (IsApart elsewhere none) = absurd (let gone = ap (λ (l : List Effect). flat_map shift_of l) are in let still = none_moved none in cc (gone, still))

    ends_as : (y : CallOverAll) (end : Swept (Node K V)) → next_over_all {K = K} {V = V} {Q = K} y end ≡ None → next_over_all {K = K} {V = V} {Q = K} x end ≡ None
    ends_as y swept.Done e = refl
    ends_as y (swept.Refused fault) e = refl
    ends_as y _ e = absurd (cc e)

    pub sweep_counts : (done : Did (OverAll x)) → ((NoRow (OverAll x) done → ⊥) → TakesNone told)
        → Goes (counts_in_sweeping x.sweep.stands) (is_to_count to.1) × (to.4.next ≡ None → is_to_count to.1 ≡ false)
    sweep_counts (p2, end, machine_is, told_is, inl (step, moved)) takes =
        let it = own_goes p2 end machine_is told_is step in (
          subst (Goes (counts_in_sweeping x.sweep.stands)) (sym (after_is p2 end machine_is told_is)) it.0,
          λ none. after_is p2 end machine_is told_is ∙ it.1 (ends_as _ end (sym moved.2 ∙ none)),
        )
    sweep_counts (p2, end, machine_is, told_is, inr (row, stayed)) takes =
        let apart = row_apart x.sweep.stands row.is_row in (
          subst (Goes (counts_in_sweeping x.sweep.stands)) (sym (after_is p2 end machine_is told_is))
              (apart_goes p2 end machine_is told_is apart.0 apart.1 (row_none row.step.w2 row.step.memory row.step.happened (takes (λ own. own)))),
          λ none. after_is p2 end machine_is told_is ∙ idle p2 end machine_is told_is apart.1,
        )

    -- elsewhere than at a try no pair comes or goes by a step of one
    pub sweep_shifts : (done : Did (OverAll x)) → NoRow (OverAll x) done → IsNoTry x.sweep.stands → flat_map shift_of effects ≡ []
    sweep_shifts (p2, end, machine_is, told_is, inl (step, moved)) none apart = none_moved p2 end machine_is told_is step apart
    sweep_shifts (p2, end, machine_is, told_is, inr row) none apart = absurd none

    pub sweep_takes : (done : Did (OverAll x)) → NoRow (OverAll x) done → (p : ℕ) → effects ≡ effect.Removed p ∷ []
        → (q : Sweep) × (to.1 ≡ kinds.Sweep q) × (word : ℕ) × (q.stands ≡ sweeping.Counts word) × (known.roles (block_in word) ≡ role.Pair p)
    sweep_takes (p2, end, machine_is, told_is, inl (step, moved)) none p are = let it = own_takes p2 end machine_is told_is step p are in (p2, machine_is, it.0, it.1, it.2)
    sweep_takes (p2, end, machine_is, told_is, inr row) none p are = absurd none
