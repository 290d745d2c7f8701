-- A map that has gone neither stands nor is made, after each act by which none is made by its number.
use Rattle.std.specs.Prelude.{◌≡◌, ◌⊎◌, ◌≢◌, ℕ, Bool, Option, Some, None, option_map}
use Rattle.std.proofs.Common.{ap, sym, subst, ◌∙◌, inl, inr}
use Rattle.std.proofs.lemmas.Bool.{cases_eq}
use Rattle.seize_acts.specs.Given.SeizeWorld.{World, with_at}
use Rattle.seize_acts.specs.Given.SeizeDeclared.advance.Advance.{Advance}
use Rattle.seize_acts.specs.Given.SeizeDeclared.advance.Advance.TheVariants as progress
use Rattle.seize_acts.specs.Given.SeizeDeclared.rows.settle.Settled.{Settled}
use Rattle.seize_acts.specs.Given.SeizeDeclared.rows.settle.Settled.TheVariants as settled
use Rattle.play_lists.specs.Given.TablesDeclared.node.Node.{Node}
use Rattle.play_lists.specs.Given.TablesDeclared.setting.Setting.{Setting}
use Rattle.run_logged.specs.Given.ResizeDeclared.new_map.NewMap.{NewMap}
use Rattle.run_logged.specs.Given.RawDeclared.machines.end_map.EndMap.{EndMap}
use Rattle.play_lists.specs.Given.FinishesEndings.{Finishing}
use Rattle.play_lists.specs.Given.FinishesFactsEnds.{Deed}
use Rattle.play_lists.specs.Given.FinishesMakings.{Beginning}
use Rattle.play_lists.specs.Given.FinishesMaps.{IsSameMap, Standing}
use Rattle.run_logged.proofs.Given.CallersTogether.At.{at_other, at_same}
use Rattle.play_lists.proofs.Given.ScenesGoes.{same_map_keeps}
use Rattle.play_lists.specs.Given.ScenesMaking.{making_begun}
use Rattle.play_lists.specs.Given.ScenesScene.{Scene, slot_of}
use Rattle.play_lists.specs.Given.ActsActs.{Act, Answer, BeginsCall, StepsCall, TellsCall, AsksCall, StopsCall, BeginsMaking, StepsMaking, BeginsEnding, StepsEnding, BeginsRow, StepsRow}
use Rattle.play_lists.specs.Given.ActsLeads.{EndingCame, Led, MakingCame}
use Rattle.play_linear.specs.Linear.Coming.{IsGone}
use Rattle.play_linear.proofs.Linear.Below.{called_settings}
use Rattle.run_schedules.proofs.Given.General.{none_mapped as nothing_told, same_some}

-- a making that begins is of another map
abbrev pub BeginsOther : {K V S : Type 0} → ℕ → Act K V S → Type 0
BeginsOther map (BeginsMaking i m hasher given places) = m ≢ map
BeginsOther map act = Unit {0}

module _ {K V S : Type 0} (same : K → K → Bool) (by_hasher : S → K → ℕ) (hash : ℕ → K → ℕ) (batch_size roots map : ℕ) (s n : Scene K V) (gone : IsGone map s)
    (hashes : (m : ℕ) (st : Standing K) → s.maps m ≡ Some st → st.hash ≡ hash m) where
  is_gone : (x : Scene K V) → n ≡ x → IsGone map x → IsGone map n
  is_gone x is so = subst (IsGone map) (sym is) so

  -- each map has the setting that it had
  none_still : (maps2 : ℕ → Option (Standing K)) → option_map (λ (st : Standing K). st.setting) (maps2 map) ≡ option_map (λ (st : Standing K). st.setting) (s.maps map) → maps2 map ≡ None
  none_still maps2 kept = nothing_told (λ (st : Standing K). st.setting) (maps2 map) (kept ∙ ap (option_map (λ (st : Standing K). st.setting)) gone.not_there)

  gone_there : (w2 : World (Node K V)) (maps2 : ℕ → Option (Standing K)) → ((m : ℕ) → IsSameMap (s.maps m) (maps2 m)) → n ≡ record s { world = w2; maps = maps2 } → IsGone map n
  gone_there w2 maps2 as_they_were is =
      is_gone (record s { world = w2; maps = maps2 }) is
      (record { not_there = none_still maps2 (same_map_keeps (hash map) (s.maps map) (maps2 map) (hashes map) (as_they_were map)).setting; not_made = gone.not_made })

  -- another one is made
  others_made : (i : ℕ) (next : Option (Beginning K)) → ((b : Beginning K) → next ≡ Some b → b.map ≢ map) → (j : ℕ) (b : Beginning K) → with_at s.makers i next j ≡ Some b → b.map ≢ map
  others_made i next its j b makes = by (cases_eq j i)
    where
      by : (j ≡ i) ⊎ (j ≢ i) → b.map ≢ map
      by (inl e) = its b (sym (at_same s.makers i next j e) ∙ makes)
      by (inr ne) = gone.not_made j b (sym (at_other s.makers i next j ne) ∙ makes)

  gone_made : (i : ℕ) (b : Beginning K) (makes : s.makers i ≡ Some b) (w2 : World (Node K V)) (machine : NewMap) (told : Advance Setting)
      → MakingCame {S = S} same by_hasher batch_size roots slot_of s i b w2 machine n told → IsGone map n
  gone_made i b makes w2 machine progress.Goes is =
      is_gone (record s { world = w2; makers = with_at s.makers i (Some (record b { machine = machine })) }) is
      (record {
        not_there = gone.not_there;
        not_made = others_made i (Some (record b { machine = machine }))
            (λ c is_it. subst (λ (z : Beginning K). z.map ≢ map) (same_some (record b { machine = machine }) c is_it) (gone.not_made i b makes));
      })
  gone_made i b makes w2 machine progress.Waits never = absurd never
  gone_made i b makes w2 machine (progress.Done setting) (standing, is_made, is) =
      is_gone (record s { world = w2; maps = with_at s.maps b.map (Some standing); makers = with_at s.makers i None }) is
      (record {
        not_there = at_other s.maps b.map (Some standing) map (λ e. gone.not_made i b makes (sym e)) ∙ gone.not_there;
        not_made = others_made i None (λ c none. absurd (cc none));
      })
  gone_made i b makes w2 machine (progress.Refused fault) is =
      is_gone (record s { world = w2; makers = with_at s.makers i None }) is (record { not_there = gone.not_there; not_made = others_made i None (λ c none. absurd (cc none)) })

  gone_ended : (i : ℕ) (f : Finishing K V) (w2 : World (Node K V)) (deed : Deed) (machine : EndMap) (told : Settled (Node K V))
      → EndingCame {S = S} same by_hasher batch_size roots slot_of s i f w2 deed machine n told → IsGone map n
  gone_ended i f w2 deed machine settled.Goes (none, is) = is_gone _ is (record { not_there = gone.not_there; not_made = gone.not_made })
  gone_ended i f w2 deed machine settled.Waits never = absurd never
  gone_ended i f w2 deed machine (settled.Gave value) (b, was, taken, is) = is_gone _ is (record { not_there = gone.not_there; not_made = gone.not_made })
  gone_ended i f w2 deed machine settled.Done (none, finished, is) = is_gone _ is (record { not_there = gone.not_there; not_made = gone.not_made })

  gone_begun : (m : ℕ) → (k : ℕ) → s.maps k ≡ None → with_at s.maps m None k ≡ None
  gone_begun m k none = by (cases_eq k m)
    where
      by : (k ≡ m) ⊎ (k ≢ m) → with_at s.maps m None k ≡ None
      by (inl e) = at_same s.maps m None k e
      by (inr ne) = at_other s.maps m None k ne ∙ none

  -- So it is after each act.
  pub acts_leave_gone : (act : Act K V S) → BeginsOther map act → (told : Answer K V) → Led same by_hasher batch_size roots slot_of act s told n → IsGone map n
  acts_leave_gone (BeginsCall i m wanted) other told (standing, stands, none, is) = is_gone _ is (record { not_there = gone.not_there; not_made = gone.not_made })
  acts_leave_gone (StepsCall i m g) other told came =
      is_gone _ came.comes (record { not_there = none_still came.did.maps2 (called_settings same by_hasher hash batch_size roots s n hashes i m g told came map); not_made = gone.not_made })
  acts_leave_gone (TellsCall i m reply) other told (standing, stands, u, next, has, machine_is, told_is, kind, is) = is_gone _ is (record { not_there = gone.not_there; not_made = gone.not_made })
  acts_leave_gone (AsksCall i m) other told (u, has, told_is, is) = is_gone _ is (record { not_there = gone.not_there; not_made = gone.not_made })
  acts_leave_gone (StopsCall i m) other told (u, has, told_is, is) = is_gone _ is (record { not_there = gone.not_there; not_made = gone.not_made })
  acts_leave_gone (BeginsMaking i m hasher given places) other told (none, is) =
      is_gone _ is
      (record {
        not_there = gone.not_there;
        not_made = others_made i (Some (making_begun (by_hasher hasher) roots m given places))
            (λ c is_it. subst (λ (z : Beginning K). z.map ≢ map) (same_some (making_begun (by_hasher hasher) roots m given places) c is_it) other);
      })
  acts_leave_gone (StepsMaking i g) other told (b, makes, m2, machine, progress, computed, told_is, did, came) = gone_made i b makes did.step.w2 machine progress came
  acts_leave_gone (BeginsEnding i m) other told (standing, stands, none, is) = is_gone _ is (record { not_there = gone_begun m map gone.not_there; not_made = gone.not_made })
  acts_leave_gone (StepsEnding i g) other told (f, ends, m2, machine, progress, computed, told_is, did, came) = gone_ended i f did.w2 did.deed machine progress came
  acts_leave_gone (BeginsRow i request) other told (w2, happens, maps2, as_they_were, none, is) = gone_there w2 maps2 as_they_were is
  acts_leave_gone (StepsRow i g) other told (w2, steps, happens, maps2, as_they_were, none, is) = gone_there w2 maps2 as_they_were is
