-- What a step of a reservation, of a counting and of a sweep does to the words of counts: a sweep that counts adds to its shard what it is to; no other step writes one.
use Rattle.std.specs.Prelude.{◌≡◌, ◌==◌, ℕ, Bool, true, false, List, [], ◌∷◌, Some, None}
use Rattle.std.proofs.Common.{refl, ap, sym, subst, ◌∙◌, eqb-true, inl, inr}
use Rattle.run_debts.specs.Given.SeizeWordsWord.{block_in}
use Rattle.run_debts.specs.Given.TablesDeclared.node.Node.{Node}
use Rattle.owner_calls.specs.Given.ResizeDeclared.sum.Sum.{Sum}
use Rattle.run_debts.specs.Given.ReservesDeclared.sweep.Sweep.{Sweep}
use Rattle.run_debts.specs.Given.ReservesDeclared.sweep.Sweeping.TheVariants as sweeping
use Rattle.run_debts.specs.Given.ReservesDeclared.sweep.Swept.{Swept}
use Rattle.owner_calls.specs.Given.RawProgress.{of_swept}
use Rattle.run_debts.specs.Given.RawDeclared.machines.machine.Machine.TheVariants as kinds
use Rattle.run_debts.specs.Given.RawDeclared.machines.progress.Progress.{Progress}
use Rattle.run_debts.specs.Given.RunsDeclared.effect.Effect.{Effect}
use Rattle.run_debts.specs.Given.RunsDeclared.effect.Effect.TheVariants as effect
use Rattle.run_debts.specs.Given.SchedulesMoment.{Moment}
use Rattle.owner_calls.specs.Given.CallersOverAll.{CallOverAll}
use Rattle.run_debts.specs.Given.CallersRooms.{CallForRoom}
use Rattle.owner_calls.specs.Given.CallersTogether.{UnderWay, ForRoom, Counting, OverAll}
use Rattle.run_debts.specs.Given.EffectsEffects.{effects_of}
use Rattle.run_debts.specs.Given.EffectsKnown.{Known}
use Rattle.run_debts.specs.Given.EffectsDeclared.acting.Acting.TheVariants as acts
use Rattle.run_debts.specs.Given.EffectsDeclared.role.Role.TheVariants as role
use Rattle.run_debts.specs.Given.FinishesMaps.{Standing}
use Rattle.run_debts.specs.Given.FinishesSweeps.{SweepStepsWithEndings}
use Rattle.run_debts.specs.Given.FollowsShows.{Refines}
use Rattle.run_debts.proofs.Given.FollowsSteps.{WentTo, went_to, DidSo}
use Rattle.run_debts.proofs.Given.FollowsWrites.{nothing_free}
use Rattle.run_blocks.specs.Shards.Adds.{adds_in_sweeping, adds_of}
use Rattle.run_debts.specs.Counts.{counts_in_sweeping, shard_for}
use Rattle.run_blocks.proofs.Shards.Adds.{sweep_adds_counts, sweep_adds_at, sweep_adds_none, Brings, StepAdds, AddsNone, AddsIts}
use Rattle.run_debts.proofs.Aimed.{IsElsewhere}
use Rattle.run_debts.proofs.Gains.{CountGoes, KeepsCount, AddsOne, GivesWay, TakesOne, CountsAll}
use Rattle.run_debts.proofs.Points.{IsNoTry}
use Rattle.run_debts.proofs.Rest.{KindOf, ToCount, ToTry, IsApart, kind_at, elsewhere_not, row_apart, room_nowhere, sum_nowhere, nowhere, idle, adds_now, counts_now, own_goes, own_takes}
use Rattle.run_debts.specs.Given.ScenesHeld.{Held, IsAt}
use Rattle.run_debts.specs.Given.ScenesScene.{Scene, slot_of}
use Rattle.run_debts.specs.Given.ScenesStepping.{StepLeads}

module _ {K V : Type 0} (same : K → K → Bool) (hash : ℕ → K → ℕ) (name : ℕ → List ℕ) (m : Moment K V) (known : Known) (s : Scene K V) (old new : Held K V) (at_old : IsAt same hash old s)
    (shown : Refines same name m known s) (map i : ℕ) (u : UnderWay K V K) (under_way : s.calls map i ≡ Some u) (said : Progress (Node K V)) (leads : StepLeads same hash i said s old new) where
  abbrev to : WentTo same hash name m known s old new at_old shown map i u under_way said leads
  to = went_to same hash name m known s old new at_old shown map i u under_way said leads

  abbrev st : Standing K
  st = to.0

  abbrev effects : List Effect
  effects = effects_of (acts.Call i map) known new.changed

  abbrev shard : ℕ
  shard = shard_for i st.setting

  abbrev Did : UnderWay K V K → Type 0
  Did x = DidSo same hash name m known s old new at_old shown map i u under_way said leads x

  abbrev Does : Type 0
  Does = StepAdds ⊥ known new.changed st.setting.counter shard effects None (adds_of to.1)

  -- a reservation
  pub room_adds : (x : CallForRoom) → u ≡ ForRoom x → Did (ForRoom x) → Does
  room_adds x is (p2, end, machine_is, told_is, did) =
      AddsNone (room_nowhere same hash name m known s old new at_old shown map i u under_way said leads x is) refl (λ removed e. absurd (let none = ap adds_of machine_is in cc (none, e)))

  -- a counting
  pub sum_adds : (x : Sum) → u ≡ Counting x → Did (Counting x) → Does
  sum_adds x is (sum2, end, machine_is, told_is, still, stayed) =
      AddsNone (sum_nowhere same hash name m known s old new at_old shown map i u under_way said leads x is) refl (λ removed e. absurd (let none = ap adds_of machine_is in cc (none, e)))

  -- a sweep
  module _ (x : CallOverAll) (is_over : u ≡ OverAll x) where
    abbrev DoesSweep : Type 0
    DoesSweep = StepAdds ⊥ known new.changed st.setting.counter shard effects (adds_in_sweeping x.sweep.stands) (adds_of to.1)

    module _ (p2 : Sweep) (end : Swept (Node K V)) (machine_is : to.1 ≡ kinds.Sweep p2) (told_is : said ≡ of_swept end) where
      after_is : adds_of to.1 ≡ adds_in_sweeping p2.stands
      after_is = ap adds_of machine_is

      none_then : counts_in_sweeping p2.stands ≡ false → (removed : ℕ) → adds_of to.1 ≡ Some removed → Brings ⊥ removed effects
      none_then never removed is = absurd (let counts = sweep_adds_counts p2.stands removed (sym after_is ∙ is) in cc (counts, never))

      apart_adds : IsElsewhere x.sweep.stands → IsNoTry x.sweep.stands → DoesSweep
      apart_adds elsewhere none = AddsNone
          (nowhere same hash name m known s old new at_old shown map i u under_way said leads x is_over p2 end machine_is told_is elsewhere)
          (sweep_adds_none x.sweep.stands (elsewhere_not x.sweep.stands elsewhere))
          (none_then (idle same hash name m known s old new at_old shown map i u under_way said leads x is_over p2 end machine_is told_is none))

      module _ (step : SweepStepsWithEndings V same same old.batch_size old.roots slot_of s.world s.maps s.calls s.makers s.enders map st i x new.memory p2 end) where
        -- one that has removed a pair is to count that, whose word is not 0
        removed_some : (removed : ℕ) → p2.stands ≡ sweeping.Counts removed → (n : ℕ) → effects ≡ effect.Removed n ∷ [] → (removed == 0) ≡ false
        removed_some removed is n are = by (removed == 0) refl
          where
            its : (word : ℕ) × (p2.stands ≡ sweeping.Counts word) × (known.roles (block_in word) ≡ role.Pair n)
            its = own_takes same hash name m known s old new at_old shown map i u under_way said leads x is_over p2 end machine_is told_is step n are

            by : (q : Bool) → (removed == 0) ≡ q → q ≡ false
            by false e = refl
            by true e =
                let zero = eqb-true removed 0 e in
                let same_word : its.0 ≡ removed = (let theirs = its.1 in cc (theirs, is)) in
                let free = nothing_free s.world m.stored known shown.blocks.roles in
                let pair = ap (λ (z : ℕ). known.roles (block_in z)) (sym (same_word ∙ zero)) ∙ its.2 in
                absurd (let one : role.Free ≡ role.Pair n = sym free ∙ pair in cc one)

        tries_adds : (word : ℕ) → x.sweep.stands ≡ sweeping.Tries word → (removed : ℕ) → p2.stands ≡ sweeping.Counts removed → Brings ⊥ removed effects
        tries_adds word stands removed is =
            by (own_goes same hash name m known s old new at_old shown map i u under_way said leads x is_over p2 end machine_is told_is step).0 (ap counts_in_sweeping stands) (ap counts_in_sweeping is)
          where
            by : CountGoes ⊥ shard effects (counts_in_sweeping x.sweep.stands) (counts_in_sweeping p2.stands) → counts_in_sweeping x.sweep.stands ≡ false → counts_in_sweeping p2.stands ≡ true → Brings ⊥ removed effects
            by (KeepsCount apart e) none some = absurd (cc (e, none, some))
            by (AddsOne may n sp are e) none some = absurd may
            by (GivesWay may p n sp are e) none some = absurd (cc (e, none, some))
            by (TakesOne n are e) none some = inr (removed_some removed is n are, n, are)
            by (CountsAll are e f) none some = absurd (cc (e, none))

        own_adds : DoesSweep
        own_adds = by (kind_at x.sweep.stands)
          where
            by : KindOf x.sweep.stands → DoesSweep
            by (ToCount removed stands) =
                let wrote = adds_now same hash name m known s old new at_old shown map i u under_way said leads x is_over p2 end machine_is told_is step removed stands in
                AddsIts removed wrote.0 wrote.1
                (counts_now same hash name m known s old new at_old shown map i u under_way said leads x is_over p2 end machine_is told_is step removed stands) (ap adds_in_sweeping stands)
                (after_is ∙ sweep_adds_none p2.stands (idle same hash name m known s old new at_old shown map i u under_way said leads x is_over p2 end machine_is told_is (subst IsNoTry (sym stands) tt)))
            by (ToTry word stands) = AddsNone
                (nowhere same hash name m known s old new at_old shown map i u under_way said leads x is_over p2 end machine_is told_is (subst IsElsewhere (sym stands) tt))
                (ap adds_in_sweeping stands) (λ removed is. tries_adds word stands removed (sweep_adds_at p2.stands removed (sym after_is ∙ is)))
            by (IsApart elsewhere none) = apart_adds elsewhere none

    pub sweep_adds : Did (OverAll x) → DoesSweep
    sweep_adds (p2, end, machine_is, told_is, inl (step, moved)) = own_adds p2 end machine_is told_is step
    sweep_adds (p2, end, machine_is, told_is, inr (row, stayed)) = let apart = row_apart x.sweep.stands row.is_row in apart_adds p2 end machine_is told_is apart.0 apart.1
