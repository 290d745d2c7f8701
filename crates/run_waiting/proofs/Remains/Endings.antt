-- The end of a map leaves what others have left over where it is; what it leaves over itself is behind its root once it is over.
use Rattle.std.specs.Prelude.{◌≢◌, ◌≤◌, ◌⊎◌, ◌==◌, ◌++◌, map, Option, Some, None}
use Rattle.std.proofs.Common.{◌≡◌, ℕ, Bool, true, false, List, [], ◌∷◌, inl, inr, refl, ap, sym, subst, ◌∙◌, arith}
use Rattle.std.proofs.lemmas.Bool.{cases_eq}
use Rattle.std.proofs.lemmas.List.{append-nil}
use Rattle.run_debts.specs.Given.SeizeLaw.{Ended}
use Rattle.run_debts.specs.Given.SeizeWorld.{times, with_at, with_effect}
use Rattle.run_debts.specs.Given.SeizeDeclared.rows.settle.Settled.{Settled}
use Rattle.run_debts.specs.Given.SeizeDeclared.rows.settle.Settled.TheVariants as settled
use Rattle.run_debts.specs.Given.TablesDeclared.node.Node.{Node}
use Rattle.run_debts.specs.Given.RawDeclared.machines.end_map.EndMap.{EndMap}
use Rattle.run_debts.specs.Given.RunsLifeCycle.{times as root_times}
use Rattle.run_debts.specs.Given.RunsDeclared.effect.Effect.{Effect}
use Rattle.run_debts.specs.Given.SchedulesBeginning.{used_roots}
use Rattle.run_debts.specs.Given.SchedulesEffects.{with_effects}
use Rattle.run_debts.specs.Given.SchedulesLists.{is_among}
use Rattle.run_debts.specs.Given.SchedulesMoment.{Moment, Remains}
use Rattle.run_debts.proofs.Given.CallersTogether.At.{at_other, at_same}
use Rattle.run_debts.specs.Given.EffectsKnown.{Known}
use Rattle.run_debts.specs.Given.EffectsDeclared.role.Role.TheVariants as role
use Rattle.run_debts.specs.Given.FinishesEndings.{Finishing, StepsOfEnding, finishing_of, waiting_by}
use Rattle.run_debts.specs.Given.FinishesFactsEnds.{taken_by}
use Rattle.run_debts.specs.Given.OthersEndings.{ending_after}
use Rattle.run_debts.specs.Given.ReclaimsLeft.{LeftWithEndings}
use Rattle.run_debts.proofs.Given.ReclaimsBehind.Kept.{in_all}
use Rattle.run_debts.proofs.Given.ReclaimsLeft.Endings.{endings_begin_and_leave_it, endings_leave_it}
use Rattle.run_waiting.specs.Remains.Remains.{AscendFrom, LeftNoted, RefinesRemains, has_some, left_at, map_roots}
use Rattle.run_waiting.proofs.Lives.Order.{noted_still}
use Rattle.run_waiting.specs.Remains.Steps.{EndingsBeginRemain, EndingsPreserveRemains}
use Rattle.run_waiting.proofs.Remains.Lists.{found_among}
use Rattle.run_waiting.proofs.Remains.Stays.{goes_on, remains_stay, roots_stay, used_then}
use Rattle.run_debts.specs.Given.ScenesEnding.{EndingHasOutcome, ending_begun}
use Rattle.run_debts.specs.Given.ScenesHeld.{Held, IsAt}
use Rattle.run_debts.specs.Given.ScenesScene.{Scene, slot_of}

module _ {K V : Type 0} (roots : List ℕ) (enders : ℕ → Option (Finishing K V)) (i : ℕ) (each : (j : ℕ) (g : Finishing K V) → enders j ≡ Some g → is_among g.setting.root roots ≡ true) where
  -- an end of such a root comes, or goes on
  with_end : (f : Finishing K V) → is_among f.setting.root roots ≡ true → (j : ℕ) (g : Finishing K V) → with_at enders i (Some f) j ≡ Some g → is_among g.setting.root roots ≡ true
  with_end f its j g is = by (cases_eq j i)
    where
      by : (j ≡ i) ⊎ (j ≢ i) → is_among g.setting.root roots ≡ true
      by (inl e) =
          (let both : Some f ≡ Some g = sym (at_same enders i (Some f) j e) ∙ is in
          let one : f ≡ g = cc both in
          subst (λ (x : Finishing K V). is_among x.setting.root roots ≡ true) one its)
      by (inr ne) = each j g (sym (at_other enders i (Some f) j ne) ∙ is)

  -- or is over
  without_end : (j : ℕ) (g : Finishing K V) → with_at enders i None j ≡ Some g → is_among g.setting.root roots ≡ true
  without_end j g is = by (cases_eq j i)
    where
      by : (j ≡ i) ⊎ (j ≢ i) → is_among g.setting.root roots ≡ true
      by (inl e) = absurd (let none : None ≡ Some g = sym (at_same enders i None j e) ∙ is in cc none)
      by (inr ne) = each j g (sym (at_other enders i None j ne) ∙ is)

module _ (K V : Type 0) (same : K → K → Bool) (hash : ℕ → K → ℕ) where
  pub endings_begin_remain : EndingsBeginRemain K V same hash
  endings_begin_remain name m known s old at shown shows map i standing stands none =
      goes_on old.roots m m known known s (ending_begun map i standing s) shows (λ b n is before after. is) refl refl
      (endings_begin_and_leave_it V same same old.batch_size old.roots slot_of s.world s.maps s.calls s.makers s.enders shows.lists at.together shows.left i none map standing stands
      (with_effect s.world (Ended standing.setting.counter)) refl)
      (with_end (map_roots m) s.enders i shows.ending (finishing_of standing s.world)
      (let there = (shown.maps map standing stands).there in
      subst (λ (r : ℕ). is_among r (map_roots m) ≡ true) there.root (found_among (λ f. f.number == map) (λ f. f.root) m.maps there.there there.is)))

  module _ (m : Moment K V) (known known2 : Known) (s : Scene K V) (old new : Held K V) (at : IsAt same hash old s) (shows : RefinesRemains old.roots m known s) (i : ℕ) (f : Finishing K V) (here : s.enders i ≡ Some f)
      (caller : Option (List ℕ)) (acted : Option ℕ) (effects : List Effect) where
    abbrev v : Moment K V
    v = with_effects caller acted effects m

    abbrev Did : EndMap → Settled (Node K V) → Type 0
    Did ending said = StepsOfEnding V same same old.batch_size old.roots slot_of s.world s.maps s.calls s.makers s.enders i f new.memory (ending, said)

    -- it goes on, with what it has reclaimed by now
    goes_so : (ending : EndMap) (said : Settled (Node K V)) (did : Did ending said) (back : List ℕ) → LeftNoted known known2 s.world did.w2 → back ≡ f.back ++ taken_by did.deed
        → RefinesRemains old.roots v known2 (record s { world = did.w2; enders = with_at s.enders i (Some (record f { machine = ending; back = back; waits = f.waits ++ waiting_by did.deed })) })
    goes_so ending said did back noted is =
        let f2 : Finishing K V = record f { machine = ending; back = back; waits = f.waits ++ waiting_by did.deed } in
        goes_on old.roots m v known known2 s (record s { world = did.w2; enders = with_at s.enders i (Some f2) }) shows noted (roots_stay caller acted effects m) (remains_stay caller acted effects m)
        ((endings_leave_it V same same old.batch_size old.roots slot_of s.world s.maps s.calls s.makers s.enders shows.lists at.together shows.left i f here new.memory (ending, said) did).0 f2
        (record { setting_is = refl; chart_is = refl; blocks_are = refl; back_is = is; waits_are = refl }))
        (with_end (map_roots m) s.enders i shows.ending f2 (shows.ending i f here))

    not_its : (r : ℕ) → is_among r (map_roots m) ≡ false → r ≢ f.setting.root
    not_its r none e = (let its = ap (λ (x : ℕ). is_among x (map_roots m)) e ∙ shows.ending i f here in cc (its, none))

    -- or it is over: what it has left over is behind its root, which is that of a map that is there still
    over_so : (ending : EndMap) (did : Did ending settled.Done) → LeftNoted known known2 s.world did.w2
        → LeftWithEndings old.roots did.w2 s.maps s.makers (with_at s.enders i None) (with_at shows.lists f.setting.root f.waits)
        → RefinesRemains old.roots v known2 (record s { world = did.w2; enders = with_at s.enders i None })
    over_so ending did noted left = record {
      lists = with_at shows.lists f.setting.root f.waits;
      left = left;
      told = λ r l none.
          (let before = same_roots r none in
          ap (λ (xs : List Remains). is_among r (map (λ x. x.root) xs)) (remains_stay caller acted effects m) ∙ shows.told r l before ∙ ap has_some (sym (same_list r before)));
      pairs = λ r l none.
          (let before = same_roots r none in
          ap (λ (xs : List ℕ). map known2.roles xs) (same_list r before)
          ∙ noted_still known known2 (shows.lists r) (left_at r m.remains) (shows.pairs r l before) (λ b n some is.
          (let in_them = in_all shows.lists r old.roots b l in
          let in_these = in_all (with_at shows.lists f.setting.root f.waits) r old.roots b l in
          let same_times = ap (times b) (same_list r before) in
          noted b n is (shows.left.left b (omega (arith, some, in_them))) (left.left b (omega (arith, some, same_times, in_these)))))
          ∙ ap (λ (xs : List Remains). map role.Pair (left_at r xs)) (sym (remains_stay caller acted effects m)));
      ascending = subst (AscendFrom 0) (sym (remains_stay caller acted effects m)) shows.ascending;
      once = λ r. subst (λ (xs : List ℕ). root_times r xs ≤ 1) (sym used) (shows.once r);
      below = λ r is. shows.below r (ap (is_among r) (sym used) ∙ is);
      ending = λ j g is. ap (is_among g.setting.root) (roots_stay caller acted effects m) ∙ without_end (map_roots m) s.enders i shows.ending j g is;
    }
      where
        used : used_roots v ≡ used_roots m
        used = used_then m v (roots_stay caller acted effects m) (remains_stay caller acted effects m)

        same_roots : (r : ℕ) → is_among r (map_roots v) ≡ false → is_among r (map_roots m) ≡ false
        same_roots r none = ap (is_among r) (sym (roots_stay caller acted effects m)) ∙ none

        same_list : (r : ℕ) → is_among r (map_roots m) ≡ false → with_at shows.lists f.setting.root f.waits r ≡ shows.lists r
        same_list r none = at_other shows.lists f.setting.root f.waits r (not_its r none)

    then_so : (ending : EndMap) (said : Settled (Node K V)) (did : Did ending said) (comes : EndingHasOutcome same hash s new i f ending did.w2 did.deed said)
        → LeftNoted known known2 s.world (ending_after same hash s new i f ending did.w2 did.deed said comes).world
        → RefinesRemains old.roots v known2 (ending_after same hash s new i f ending did.w2 did.deed said comes)
    then_so ending settled.Goes did comes noted = goes_so ending settled.Goes did f.back noted (sym (ap (λ (l : List ℕ). f.back ++ l) comes.0 ∙ append-nil f.back))
    then_so ending settled.Waits did comes noted = absurd comes
    then_so ending (settled.Gave value) did comes noted = goes_so ending (settled.Gave value) did (f.back ++ comes.0 ∷ []) noted (ap (λ (l : List ℕ). f.back ++ l) (sym comes.2))
    then_so ending settled.Done did comes noted =
        over_so ending did noted
        ((endings_leave_it V same same old.batch_size old.roots slot_of s.world s.maps s.calls s.makers s.enders shows.lists at.together shows.left i f here new.memory (ending, settled.Done) did).1 comes.1)

  pub endings_keep_remains : EndingsPreserveRemains K V same hash
  endings_keep_remains m known known2 s old new at shows i said leads f here caller acted effects noted =
      let to = leads f here in then_so m known known2 s old new at shows i f here caller acted effects to.0 said to.2 to.3 noted
