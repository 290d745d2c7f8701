-- What ended maps have left behind roots stays there over each step of a call, and over rows.
use Rattle.std.specs.Prelude.{◌≢◌, Option, Some, None}
use Rattle.std.proofs.Common.{◌≡◌, ℕ, suc, Bool, inl, inr, arith, ap, sym, subst, ◌∙◌}
use Rattle.std.proofs.lemmas.Bool.{cases_eq}
use Rattle.seize_words.specs.declared.at.At.TheVariants.{Root, Used}
use Rattle.seize_words.specs.OneMemory.Mem.{Mem, word_at}
use Rattle.seize.specs.World.{World, IsInside}
use Rattle.run_effects.specs.Given.TablesDeclared.node.Node.{Node}
use Rattle.run_effects.specs.Given.TablesDeclared.setting.Setting.{Setting}
use Rattle.run_effects.specs.Given.RawDeclared.machines.machine.Machine.{Machine}
use Rattle.run_effects.specs.Given.RawDeclared.machines.progress.Progress.{Progress}
use Rattle.run_effects.specs.Given.RuleChart.{Chart}
use Rattle.run_effects.specs.Given.RuleInWorld.{StepSpec}
use Rattle.run_effects.specs.Given.RuleWords.{Blocks}
use Rattle.many_maps.specs.Given.CallersSights.{seen_by}
use Rattle.many_maps.specs.Given.CallersTogether.{UnderWay, OnKey, ForRoom, Counting, OverAll, IsOneStep, in_slot}
use Rattle.many_maps.specs.Endings.{Finishing, EndingsTogether}
use Rattle.many_maps.specs.Machines.{DidOfKind, MapContinues}
use Rattle.many_maps.specs.Makings.{Beginning}
use Rattle.many_maps.specs.Maps.{Standing, IsSameMap}
use Rattle.many_maps.proofs.Beside.Endings.Calls.{call_spares_end}
use Rattle.many_maps.proofs.Beside.Endings.Rows.{one_step_spares_end}
use Rattle.many_maps.proofs.Beside.Endings.Spares.{SparesEnd}
use Rattle.many_maps.proofs.Beside.Makings.RowSteps.{one_step_leaves, same_setting}
use Rattle.many_maps.proofs.Beside.Maps.OtherSteps.{known_out, known_owner}
use Rattle.many_maps.proofs.Beside.Maps.Steps.{seen_known}
use Rattle.run_shows.specs.Reclaims.Left.{LeftWithEndings, MachinesLeaveIt, GuardsLeaveIt}
use Rattle.run_shows.specs.Reclaims.Reclaims.{IsRootOf}
use Rattle.run_shows.proofs.Reclaims.Behind.Kept.{KeepsLeft, keeps_still, by_spares, step_keeps, begin_keeps, root_before, root_still}
use Rattle.run_shows.proofs.Reclaims.Left.Stays.{left_stays}

more : (n : ℕ) → suc n ≢ n
more n e = omega (arith, e)

module _ {K Q : Type 0} (V : Type 0) (same : K → K → Bool) (asks : Q → K → Bool) (batch_size roots : ℕ) (slot : ℕ → ℕ)
    (w : World (Node K V)) (maps : ℕ → Option (Standing K)) (calls : ℕ → ℕ → Option (UnderWay K V Q)) (makers : ℕ → Option (Beginning K)) (enders : ℕ → Option (Finishing K V)) where
  module _ (all : EndingsTogether V same asks batch_size roots slot w maps calls makers enders) where
    -- the root of a map that stands is taken
    map_taken : (r : ℕ) → IsRootOf maps r → word_at w.memory (Used r) ≡ Some 1
    map_taken r (m, s, here, is) = subst (λ (x : ℕ). word_at w.memory (Used x) ≡ Some 1) is (all.makings.used m s here)

    module _ (m : ℕ) (s : Standing K) (here : maps m ≡ Some s) (i : ℕ) where
      -- a step of a row within a call
      row_keeps : (w2 : World (Node K V)) → IsOneStep s.setting i w w2 → KeepsLeft (IsRootOf maps) w w2
      row_keeps w2 one =
          let came = (all.makings.standing.each m s here).ground.came in
          let leaves = one_step_leaves {Q = Q} V same asks batch_size roots slot maps (λ j. None) s.setting (all.makings.standing.fit m s here).2 w all.makings.standing.came i w2 one
          (λ j b makes. absurd (cc makes)) in
          by_spares (IsRootOf maps) s.setting.batch_size (suc s.setting.counter) 0 w w2
          (λ j. one_step_spares_end s.setting w came (suc s.setting.counter) 0 j i (more s.setting.counter) w2 one) (λ r a apart is. leaves.root r a is (λ k. apart (k.0, k.1, k.2, sym k.3))) (λ r a apart is. leaves.used r a is)

      -- a step of a call that is none of a row
      module _ (u : UnderWay K V Q) (has : calls m i ≡ Some u) (in_it : IsInside (w.uses (slot i))) (m2 : Mem (Node K V)) (Told : World (Node K V) → Chart K → Blocks → Type 0)
          (went : StepSpec same s.hash (in_slot s.setting (slot i)) i w s.chart (seen_by s.blocks (s.sights (slot i))) m2 Told) where
        spares : (j : ℕ) → SparesEnd w went.w2 s.setting.batch_size (suc s.setting.counter) (suc s.setting.root) j
        spares j =
            let stands = all.makings.standing.each m s here in
            call_spares_end same s.hash (in_slot s.setting (slot i)) i w s.chart (seen_by s.blocks (s.sights (slot i))) m2 Told went stands.ground.came stands.ground.counter
            (λ b seen. known_out same s.hash asks s.setting slot w s.chart s.blocks s.sights (calls m) stands b (seen_known V same asks batch_size slot w maps calls all.makings.standing m s here i u has in_it b seen))
            (λ b seen. known_owner same s.hash asks s.setting slot w s.chart s.blocks s.sights (calls m) stands b (seen_known V same asks batch_size slot w maps calls all.makings.standing m s here i u has in_it b seen))
            (suc s.setting.counter) (suc s.setting.root) j (more s.setting.counter) (more s.setting.root)

        pub went_keeps : KeepsLeft (IsRootOf maps) w went.w2
        went_keeps =
            by_spares (IsRootOf maps) s.setting.batch_size (suc s.setting.counter) (suc s.setting.root) w went.w2 spares
            (λ r a apart is. ap (λ (x : Mem (Node K V)). word_at x (Root r)) went.memory ∙ went.frame.words (Root r) a is (λ e. apart (m, s, here, sym e)))
            (λ r a apart is. ap (λ (x : Mem (Node K V)). word_at x (Used r)) went.memory ∙ went.frame.words (Used r) a is (λ none. none))

      -- any step
      to_world : (v w2 : World (Node K V)) → v ≡ w2 → KeepsLeft (IsRootOf maps) w v → KeepsLeft (IsRootOf maps) w w2
      to_world v w2 e keeps = subst (λ (x : World (Node K V)). KeepsLeft (IsRootOf maps) w x) e keeps

      machine_keeps : (u : UnderWay K V Q) → calls m i ≡ Some u → (m2 : Mem (Node K V)) (w2 : World (Node K V)) (maps2 : ℕ → Option (Standing K)) (next : Option (UnderWay K V Q))
          (machine : Machine K V Q) (told : Progress (Node K V))
          → DidOfKind V same asks batch_size roots slot w maps calls makers enders m s i m2 w2 maps2 next u machine told → KeepsLeft (IsRootOf maps) w w2
      machine_keeps (OnKey u) has m2 w2 maps2 next machine told (p2, end, is, tells, inl (st, e)) = to_world st.step.went.w2 w2 (sym e.0) (went_keeps (OnKey u) has ((all.makings.standing.each m s here).inside i (OnKey u) has) m2 _ st.step.went)
      machine_keeps (OnKey u) has m2 w2 maps2 next machine told (p2, end, is, tells, inr (st, e)) = to_world st.step.w2 w2 (sym e.0) (row_keeps st.step.w2 st.step.happened)
      machine_keeps (ForRoom r) has m2 w2 maps2 next machine told (p2, end, is, tells, inl (st, e)) = to_world st.step.went.w2 w2 (sym e.0) (went_keeps (ForRoom r) has ((all.makings.standing.each m s here).inside i (ForRoom r) has) m2 _ st.step.went)
      machine_keeps (ForRoom r) has m2 w2 maps2 next machine told (p2, end, is, tells, inr (st, e)) = to_world st.step.w2 w2 (sym e.0) (row_keeps st.step.w2 st.step.happened)
      machine_keeps (Counting sum) has m2 w2 maps2 next machine told (p2, end, is, tells, same_memory, e) = to_world w w2 (sym e.0) (keeps_still (IsRootOf maps) w)
      machine_keeps (OverAll o) has m2 w2 maps2 next machine told (p2, end, is, tells, inl (st, e)) = to_world st.step.went.w2 w2 (sym e.0) (went_keeps (OverAll o) has ((all.makings.standing.each m s here).inside i (OverAll o) has) m2 _ st.step.went)
      machine_keeps (OverAll o) has m2 w2 maps2 next machine told (p2, end, is, tells, inr (st, e)) = to_world st.step.w2 w2 (sym e.0) (row_keeps st.step.w2 st.step.happened)

      -- which roots are those of maps
      module _ (maps2 : ℕ → Option (Standing K)) (its : MapContinues s (maps2 m)) (others : (n : ℕ) → n ≢ m → IsSameMap (maps n) (maps2 n)) where
        one_of : (x y : Standing K) → ◌≡◌ {A = Option (Standing K)} (Some x) (Some y) → x ≡ y
        one_of x y e = cc e

        setting_of : (n : ℕ) (s2 : Standing K) → maps2 n ≡ Some s2 → (r : Standing K) × (maps n ≡ Some r) × (s2.setting ≡ r.setting)
        setting_of n s2 is = elim (cases_eq n m) as (λ _. (r : Standing K) × (maps n ≡ Some r) × (s2.setting ≡ r.setting)) [
          | inl e ↦ (s, ap maps e ∙ here, ap (λ (x : Standing K). x.setting) (one_of s2 (record s { chart = its.0; blocks = its.1; sights = its.2 }) (sym is ∙ ap maps2 e ∙ its.4)))
          | inr ne ↦ same_setting (maps n) (maps2 n) (others n ne) s2 is
        ]

        pub before : (r : ℕ) → IsRootOf maps2 r → IsRootOf maps r
        before r (n, s2, is, e) = let k = setting_of n s2 is in (n, k.0, k.1, ap (λ (x : Setting). x.root) (sym k.2) ∙ e)

        pub still : (r : ℕ) → IsRootOf maps r → IsRootOf maps2 r
        still r (n, s1, is, e) = elim (cases_eq n m) as (λ _. IsRootOf maps2 r) [
          | inl at ↦ (m, record s { chart = its.0; blocks = its.1; sights = its.2 }, its.4, ap (λ (x : Standing K). x.setting.root) (one_of s s1 (sym here ∙ sym (ap maps at) ∙ is)) ∙ e)
          | inr ne ↦ (let k = subst (λ (x : Option (Standing K)). IsSameMap x (maps2 n)) is (others n ne) in (n, record s1 { blocks = k.0; sights = k.1 }, k.2, e))
        ]

  -- the promises
  pub machines_leave_it : MachinesLeaveIt V same asks batch_size roots slot w maps calls makers enders
  machines_leave_it lists all left m s here i u has m2 machine told st =
      left_stays roots lists w st.w2 maps st.maps2 makers enders left (machine_keeps all m s here i u has m2 st.w2 st.maps2 st.next machine told st.did)
      (before all m s here i st.maps2 st.its_map st.others) (still all m s here i st.maps2 st.its_map st.others) (map_taken all)

  pub guards_leave_it : GuardsLeaveIt V same asks batch_size roots slot w maps calls makers enders
  guards_leave_it lists all left i w2 maps2 maps_same = (
    λ request of h. stays (begin_keeps (IsRootOf maps) batch_size i request w w2 all.makings.standing.came of h),
    λ h. stays (step_keeps (IsRootOf maps) batch_size i w w2 all.makings.standing.came h),
  )
    where
      stays : KeepsLeft (IsRootOf maps) w w2 → LeftWithEndings roots w2 maps2 makers enders lists
      stays keeps = left_stays roots lists w w2 maps maps2 makers enders left keeps (root_before maps maps2 maps_same) (root_still maps maps2 maps_same) (map_taken all)
