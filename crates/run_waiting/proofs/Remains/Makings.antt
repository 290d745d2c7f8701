-- The making of a map leaves what is left over where it is: it takes a root that is free.
use Rattle.std.specs.Prelude.{◌≢◌, ◌⊎◌, Option, Some, None, option_map}
use Rattle.std.proofs.Common.{◌≡◌, ℕ, Bool, true, List, inl, inr, refl, ap, sym, subst, ◌∙◌}
use Rattle.std.proofs.lemmas.Bool.{cases_eq}
use Rattle.run_debts.specs.Given.SeizeWordsDeclared.at.At.TheVariants.{Used}
use Rattle.run_debts.specs.Given.SeizeWordsMem.{word_at}
use Rattle.run_debts.specs.Given.SeizeWorld.{World, with_at}
use Rattle.run_debts.specs.Given.SeizeDeclared.advance.Advance.{Advance}
use Rattle.run_debts.specs.Given.SeizeDeclared.advance.Advance.TheVariants as progress
use Rattle.run_debts.specs.Given.TablesDeclared.node.Node.{Node}
use Rattle.run_debts.specs.Given.TablesDeclared.setting.Setting.{Setting}
use Rattle.run_debts.specs.Given.ResizeDeclared.new_map.NewMap.{NewMap}
use Rattle.run_debts.specs.Given.RunsDeclared.effect.Effect.{Effect}
use Rattle.run_debts.specs.Given.SchedulesEffects.{with_effects}
use Rattle.run_debts.specs.Given.SchedulesMoment.{Moment}
use Rattle.run_debts.proofs.Given.CallersTogether.At.{at_other, at_same}
use Rattle.run_debts.specs.Given.EffectsKnown.{Known}
use Rattle.run_debts.specs.Given.FinishesEndings.{EndingsTogether, MakingStepsWithEndings}
use Rattle.run_debts.specs.Given.FinishesMakings.{Beginning}
use Rattle.run_debts.specs.Given.FinishesMaps.{Standing}
use Rattle.run_debts.specs.Given.OthersMakings.{making_after}
use Rattle.run_debts.specs.Given.ReclaimsLeft.{LeftWithEndings, MakingLeft}
use Rattle.run_debts.specs.Given.ReclaimsReclaims.{IsRootOf}
use Rattle.run_debts.proofs.Given.ReclaimsBehind.Kept.{keeps_still}
use Rattle.run_debts.proofs.Given.ReclaimsLeft.Makings.{makings_begin_and_leave_it, makings_leave_it}
use Rattle.run_debts.proofs.Given.ReclaimsLeft.Stays.{left_stays}
use Rattle.run_waiting.specs.Remains.Remains.{LeftNoted, RefinesRemains}
use Rattle.run_waiting.specs.Remains.Steps.{MakingsBeginRemain, MakingsPreserveRemains}
use Rattle.run_waiting.proofs.Remains.Stays.{goes_on, remains_stay, roots_stay}
use Rattle.run_debts.specs.Given.ScenesHeld.{Held, IsAt}
use Rattle.run_debts.specs.Given.ScenesMaking.{MakingHasOutcome}
use Rattle.run_debts.specs.Given.ScenesScene.{Scene, slot_of}

-- maps with the same settings have the same roots
module _ {K : Type 0} (maps maps2 : ℕ → Option (Standing K)) (alike : (n : ℕ) → option_map (λ (x : Standing K). x.setting) (maps n) ≡ option_map (λ (x : Standing K). x.setting) (maps2 n)) where
  pub root_alike : (r : ℕ) → IsRootOf maps r → IsRootOf maps2 r
  root_alike r (n, st, here, is) = by (maps2 n) refl
    where
      by : (o : Option (Standing K)) → maps2 n ≡ o → IsRootOf maps2 r
      by None e = absurd (let none : Some st.setting ≡ None = sym (ap (option_map (λ (x : Standing K). x.setting)) here) ∙ alike n ∙ ap (option_map (λ (x : Standing K). x.setting)) e in cc none)
      by (Some t) e =
          let both : Some st.setting ≡ Some t.setting = sym (ap (option_map (λ (x : Standing K). x.setting)) here) ∙ alike n ∙ ap (option_map (λ (x : Standing K). x.setting)) e in
          let one : st.setting ≡ t.setting = cc both in
          (n, t, e, ap (λ (x : Setting). x.root) (sym one) ∙ is)

abbrev setting_in : {K : Type 0} → Option (Standing K) → Option Setting
setting_in o = option_map (λ x. x.setting) o

-- a map of this setting or another one of it
with_setting : {K : Type 0} (maps : ℕ → Option (Standing K)) (k : ℕ) (st t : Standing K) → st.setting ≡ t.setting → (n : ℕ)
    → option_map (λ (x : Standing K). x.setting) (with_at maps k (Some st) n) ≡ option_map (λ (x : Standing K). x.setting) (with_at maps k (Some t) n)
with_setting maps k st t e n = by (cases_eq n k)
  where
    by : (n ≡ k) ⊎ (n ≢ k) → setting_in (with_at maps k (Some st) n) ≡ setting_in (with_at maps k (Some t) n)
    by (inl same) = ap setting_in (at_same maps k (Some st) n same) ∙ ap (λ (x : Setting). Some x) e ∙ sym (ap setting_in (at_same maps k (Some t) n same))
    by (inr ne) = ap setting_in (at_other maps k (Some st) n ne) ∙ sym (ap setting_in (at_other maps k (Some t) n ne))

pub makings_begin_remain : (K V : Type 0) → MakingsBeginRemain K V
makings_begin_remain K V roots m known s shows i b none untaken =
    goes_on roots m m known known s (record s { makers = with_at s.makers i (Some b) }) shows (λ x n is before after. is) refl refl
    (makings_begin_and_leave_it V (λ (k l : K). true) (λ (k l : K). true) 0 roots slot_of s.world s.maps s.calls s.makers s.enders shows.lists shows.left i none b untaken) shows.ending

module _ (K V : Type 0) (same : K → K → Bool) (hash : ℕ → K → ℕ) where
  module _ (m : Moment K V) (known known2 : Known) (s : Scene K V) (old new : Held K V) (at : IsAt same hash old s) (shows : RefinesRemains old.roots m known s) (i : ℕ) (b : Beginning K) (here : s.makers i ≡ Some b)
      (caller : Option (List ℕ)) (acted : Option ℕ) (effects : List Effect) where
    abbrev v : Moment K V
    v = with_effects caller acted effects m

    abbrev Did : NewMap → Advance Setting → Type 0
    Did opening said = MakingStepsWithEndings V same same old.batch_size old.roots slot_of s.world s.maps s.calls s.makers s.enders i b new.memory (opening, said)

    left_then : (opening : NewMap) (said : Advance Setting) (did : Did opening said)
        → MakingLeft V same same old.batch_size old.roots slot_of s.world s.maps s.calls s.makers s.enders shows.lists i b did.step.w2 (opening, said) did.told
    left_then opening said did =
        makings_leave_it V same same old.batch_size old.roots slot_of s.world s.maps s.calls s.makers s.enders shows.lists at.together shows.left i b here new.memory (opening, said) did

    -- the map that came, as it stands
    comes_so : (w2 : World (Node K V)) (st t : Standing K) → EndingsTogether V same same old.batch_size old.roots slot_of w2 (with_at s.maps b.map (Some st)) s.calls (with_at s.makers i None) s.enders
        → st.setting ≡ t.setting → LeftWithEndings old.roots w2 (with_at s.maps b.map (Some st)) (with_at s.makers i None) s.enders shows.lists
        → LeftWithEndings old.roots w2 (with_at s.maps b.map (Some t)) (with_at s.makers i None) s.enders shows.lists
    comes_so w2 st t together e left =
        left_stays old.roots shows.lists w2 w2 (with_at s.maps b.map (Some st)) (with_at s.maps b.map (Some t)) (with_at s.makers i None) s.enders left
        (keeps_still (IsRootOf (with_at s.maps b.map (Some st))) w2)
        (root_alike (with_at s.maps b.map (Some t)) (with_at s.maps b.map (Some st)) (with_setting s.maps b.map t st (sym e)))
        (root_alike (with_at s.maps b.map (Some st)) (with_at s.maps b.map (Some t)) (with_setting s.maps b.map st t e))
        (λ r its. subst (λ (x : ℕ). word_at w2.memory (Used x) ≡ Some 1) its.3 (together.makings.used its.0 its.1 its.2))

    then_so : (opening : NewMap) (said : Advance Setting) (did : Did opening said) (comes : MakingHasOutcome same hash s old new i b opening did.step.w2 said)
        → LeftNoted known known2 s.world (making_after same hash s old new i b opening did.step.w2 said comes).world
        → RefinesRemains old.roots v known2 (making_after same hash s old new i b opening did.step.w2 said comes)
    then_so opening progress.Goes did comes noted =
        goes_on old.roots m v known known2 s (making_after same hash s old new i b opening did.step.w2 progress.Goes comes) shows noted (roots_stay caller acted effects m) (remains_stay caller acted effects m)
        (left_then opening progress.Goes did) shows.ending
    then_so opening progress.Waits did comes noted = absurd comes
    then_so opening (progress.Done setting) did comes noted =
        goes_on old.roots m v known known2 s (making_after same hash s old new i b opening did.step.w2 (progress.Done setting) comes) shows noted (roots_stay caller acted effects m) (remains_stay caller acted effects m)
        (comes_so did.step.w2 did.told.0 comes.0 did.told.2 (did.told.1.setting_is ∙ sym comes.1.setting_is) (left_then opening (progress.Done setting) did)) shows.ending
    then_so opening (progress.Refused fault) did comes noted =
        goes_on old.roots m v known known2 s (making_after same hash s old new i b opening did.step.w2 (progress.Refused fault) comes) shows noted (roots_stay caller acted effects m) (remains_stay caller acted effects m)
        (left_then opening (progress.Refused fault) did) shows.ending

  pub makings_keep_remains : MakingsPreserveRemains K V same hash
  makings_keep_remains m known known2 s old new at shows i said leads b here caller acted effects noted =
      let to = leads b here in then_so m known known2 s old new at shows i b here caller acted effects to.0 said to.2 to.3 noted
