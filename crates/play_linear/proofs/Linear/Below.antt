-- Numbers of maps that stand, or are made, are below a count: after each act that has led on, whose making, if it begins one, has a number below it.
use Rattle.std.specs.Prelude.{◌≡◌, ◌⊎◌, ◌≢◌, ◌<◌, ◌+◌, ℕ, Bool, Option, Some, None, option_map}
use Rattle.std.proofs.Common.{refl, ap, sym, subst, ◌∙◌, arith, inl, inr}
use Rattle.std.proofs.lemmas.Bool.{cases_eq}
use Rattle.seize_acts.specs.Acts.Answers.{Grant}
use Rattle.seize_acts.specs.Given.SeizeWorld.{World, with_at}
use Rattle.seize_acts.specs.Given.SeizeDeclared.advance.Advance.{Advance}
use Rattle.seize_acts.specs.Given.SeizeDeclared.advance.Advance.TheVariants as progress
use Rattle.seize_acts.specs.Given.SeizeDeclared.rows.settle.Settled.{Settled}
use Rattle.seize_acts.specs.Given.SeizeDeclared.rows.settle.Settled.TheVariants as settled
use Rattle.play_lists.specs.Given.TablesDeclared.node.Node.{Node}
use Rattle.play_lists.specs.Given.TablesDeclared.setting.Setting.{Setting}
use Rattle.run_logged.specs.Given.ResizeDeclared.new_map.NewMap.{NewMap}
use Rattle.run_logged.specs.Given.RawDeclared.machines.end_map.EndMap.{EndMap}
use Rattle.play_lists.specs.Given.FinishesEndings.{Finishing}
use Rattle.play_lists.specs.Given.FinishesFactsEnds.{Deed}
use Rattle.play_lists.specs.Given.FinishesMakings.{Beginning}
use Rattle.play_lists.specs.Given.FinishesMaps.{IsSameMap, Standing}
use Rattle.run_logged.proofs.Given.CallersTogether.At.{at_other, at_same}
use Rattle.play_lists.proofs.Given.ScenesGoes.{moved_map_keeps, same_map_keeps}
use Rattle.play_lists.specs.Given.ScenesMaking.{making_begun}
use Rattle.play_lists.specs.Given.ScenesScene.{Scene, slot_of}
use Rattle.run_logged.specs.Given.MomentsNumbers.{MapsAreBelow}
use Rattle.play_lists.specs.Given.ActsActs.{Act, Answer, BeginsCall, StepsCall, TellsCall, AsksCall, StopsCall, BeginsMaking, StepsMaking, BeginsEnding, StepsEnding, BeginsRow, StepsRow}
use Rattle.play_lists.specs.Given.ActsLeads.{CallCame, EndingCame, Led, MakingCame}
use Rattle.run_schedules.proofs.Given.General.{same_some}

-- a map that goes on with its setting was there
there_still : {K : Type 0} (before after : Option (Standing K)) → option_map (λ (st : Standing K). st.setting) after ≡ option_map (λ (st : Standing K). st.setting) before → (st : Standing K) → after ≡ Some st
    → (was : Standing K) × (before ≡ Some was)
there_still {K} None after is st has = absurd (let both : None ≡ Some st.setting = sym is ∙ ap (option_map (λ (z : Standing K). z.setting)) has in cc both)
there_still (Some was) after is st has = (was, refl)

module _ {K V : Type 0} (count : ℕ) (s : Scene K V) (here : MapsAreBelow count s) where
  pub maps_below : (w2 : World (Node K V)) (maps2 : ℕ → Option (Standing K)) → ((m : ℕ) → option_map (λ (st : Standing K). st.setting) (maps2 m) ≡ option_map (λ (st : Standing K). st.setting) (s.maps m))
      → (n : Scene K V) → n.maps ≡ maps2 → n.makers ≡ s.makers → MapsAreBelow count n
  maps_below w2 maps2 kept n maps_are makers_are = record {
    standing = λ m st has.
        (let was = there_still (s.maps m) (maps2 m) (kept m) st (sym (ap (λ (f : ℕ → Option (Standing K)). f m) maps_are) ∙ has) in here.standing m was.0 was.1);
    made = λ i b makes. here.made i b (sym (ap (λ (f : ℕ → Option (Beginning K)). f i) makers_are) ∙ makes);
  }

  made_below : (i : ℕ) (next : Option (Beginning K)) → ((b : Beginning K) → next ≡ Some b → b.map < count) → (j : ℕ) (b : Beginning K) → with_at s.makers i next j ≡ Some b → b.map < count
  made_below i next its j b makes = by (cases_eq j i)
    where
      by : (j ≡ i) ⊎ (j ≢ i) → b.map < count
      by (inl e) = its b (sym (at_same s.makers i next j e) ∙ makes)
      by (inr ne) = here.made j b (sym (at_other s.makers i next j ne) ∙ makes)

  one_below : (m : ℕ) (next : Option (Standing K)) → ((st : Standing K) → next ≡ Some st → m < count) → (k : ℕ) (st : Standing K) → with_at s.maps m next k ≡ Some st → k < count
  one_below m next its k st has = by (cases_eq k m)
    where
      by : (k ≡ m) ⊎ (k ≢ m) → k < count
      by (inl e) = subst (λ (n : ℕ). n < count) (sym e) (its st (sym (at_same s.maps m next k e) ∙ has))
      by (inr ne) = here.standing k st (sym (at_other s.maps m next k ne) ∙ has)

-- a making that begins is of a number below the count
abbrev pub BeginsBelow : {K V S : Type 0} → ℕ → Act K V S → Type 0
BeginsBelow count (BeginsMaking i map hasher given places) = map < count
BeginsBelow count act = Unit {0}

-- where a call has taken a step each map has the setting that it had
pub called_settings : {K V S : Type 0} (same : K → K → Bool) (by_hasher : S → K → ℕ) (hash : ℕ → K → ℕ) (batch_size roots : ℕ) (s n : Scene K V) (hashes : (m : ℕ) (st : Standing K) → s.maps m ≡ Some st → st.hash ≡ hash m)
    (i m : ℕ) (g : Grant) (told : Answer K V) (came : CallCame {S = S} same by_hasher batch_size roots slot_of s i m g told n) (k : ℕ)
    → option_map (λ (st : Standing K). st.setting) (came.did.maps2 k) ≡ option_map (λ (st : Standing K). st.setting) (s.maps k)
called_settings {K} same by_hasher hash batch_size roots s n hashes i m g told came k = by (cases_eq k m)
  where
    by : (k ≡ m) ⊎ (k ≢ m) → option_map (λ (st : Standing K). st.setting) (came.did.maps2 k) ≡ option_map (λ (st : Standing K). st.setting) (s.maps k)
    by (inl e) =
        subst (λ (j : ℕ). option_map (λ (st : Standing K). st.setting) (came.did.maps2 j) ≡ option_map (λ (st : Standing K). st.setting) (s.maps j)) (sym e)
        (moved_map_keeps (hash m) came.standing (s.maps m) (came.did.maps2 m) came.stands (hashes m came.standing came.stands) came.did.its_map).setting
    by (inr ne) = (same_map_keeps (hash k) (s.maps k) (came.did.maps2 k) (hashes k) (came.did.others k ne)).setting

module _ {K V S : Type 0} (same : K → K → Bool) (by_hasher : S → K → ℕ) (hash : ℕ → K → ℕ) (batch_size roots count : ℕ) (s n : Scene K V) (here : MapsAreBelow count s)
    (hashes : (m : ℕ) (st : Standing K) → s.maps m ≡ Some st → st.hash ≡ hash m) where
  is_below : (x : Scene K V) → n ≡ x → MapsAreBelow count x → MapsAreBelow count n
  is_below x is so = subst (MapsAreBelow count) (sym is) so

  same_below : (w2 : World (Node K V)) (maps2 : ℕ → Option (Standing K)) → ((m : ℕ) → IsSameMap (s.maps m) (maps2 m)) → n ≡ record s { world = w2; maps = maps2 } → MapsAreBelow count n
  same_below w2 maps2 as_they_were is =
      is_below (record s { world = w2; maps = maps2 }) is
      (maps_below count s here w2 maps2 (λ m. (same_map_keeps (hash m) (s.maps m) (maps2 m) (hashes m) (as_they_were m)).setting) (record s { world = w2; maps = maps2 }) refl refl)

  made_on : (i : ℕ) (b : Beginning K) (makes : s.makers i ≡ Some b) (w2 : World (Node K V)) (machine : NewMap) (told : Advance Setting)
      → MakingCame {S = S} same by_hasher batch_size roots slot_of s i b w2 machine n told → MapsAreBelow count n
  made_on i b makes w2 machine progress.Goes is =
      is_below (record s { world = w2; makers = with_at s.makers i (Some (record b { machine = machine })) }) is
      (record {
        standing = here.standing;
        made = made_below count s here i (Some (record b { machine = machine })) (λ c is_it. subst (λ (z : Beginning K). z.map < count) (same_some (record b { machine = machine }) c is_it) (here.made i b makes));
      })
  made_on i b makes w2 machine progress.Waits never = absurd never
  made_on i b makes w2 machine (progress.Done setting) (standing, is_made, is) =
      is_below (record s { world = w2; maps = with_at s.maps b.map (Some standing); makers = with_at s.makers i None }) is
      (record {
        standing = one_below count s here b.map (Some standing) (λ st is_it. here.made i b makes);
        made = made_below count s here i None (λ c none. absurd (cc none));
      })
  made_on i b makes w2 machine (progress.Refused fault) is =
      is_below (record s { world = w2; makers = with_at s.makers i None }) is (record { standing = here.standing; made = made_below count s here i None (λ c none. absurd (cc none)) })

  ended_on : (i : ℕ) (f : Finishing K V) (w2 : World (Node K V)) (deed : Deed) (machine : EndMap) (told : Settled (Node K V))
      → EndingCame {S = S} same by_hasher batch_size roots slot_of s i f w2 deed machine n told → MapsAreBelow count n
  ended_on i f w2 deed machine settled.Goes (none, is) = is_below _ is (record { standing = here.standing; made = here.made })
  ended_on i f w2 deed machine settled.Waits never = absurd never
  ended_on i f w2 deed machine (settled.Gave value) (b, was, taken, is) = is_below _ is (record { standing = here.standing; made = here.made })
  ended_on i f w2 deed machine settled.Done (none, finished, is) = is_below _ is (record { standing = here.standing; made = here.made })

  -- So it is after each act.
  pub acts_stay_below : (act : Act K V S) → BeginsBelow count act → (told : Answer K V) → Led same by_hasher batch_size roots slot_of act s told n → MapsAreBelow count n
  acts_stay_below (BeginsCall i m wanted) below told (standing, stands, none, is) = is_below _ is (record { standing = here.standing; made = here.made })
  acts_stay_below (StepsCall i m g) below told came = is_below _ came.comes (maps_below count s here came.did.w2 came.did.maps2 (called_settings same by_hasher hash batch_size roots s n hashes i m g told came) _ refl refl)
  acts_stay_below (TellsCall i m reply) below told (standing, stands, u, next, has, machine_is, told_is, kind, is) = is_below _ is (record { standing = here.standing; made = here.made })
  acts_stay_below (AsksCall i m) below told (u, has, told_is, is) = is_below _ is (record { standing = here.standing; made = here.made })
  acts_stay_below (StopsCall i m) below told (u, has, told_is, is) = is_below _ is (record { standing = here.standing; made = here.made })
  acts_stay_below (BeginsMaking i map hasher given places) below told (none, is) =
      is_below _ is
      (record {
        standing = here.standing;
        made = made_below count s here i (Some (making_begun (by_hasher hasher) roots map given places))
            (λ c is_it. subst (λ (z : Beginning K). z.map < count) (same_some (making_begun (by_hasher hasher) roots map given places) c is_it) below);
      })
  acts_stay_below (StepsMaking i g) below told (b, makes, m2, machine, progress, computed, told_is, did, came) = made_on i b makes did.step.w2 machine progress came
  acts_stay_below (BeginsEnding i m) below told (standing, stands, none, is) = is_below _ is (record { standing = one_below count s here m None (λ st none. absurd (cc none)); made = here.made })
  acts_stay_below (StepsEnding i g) below told (f, ends, m2, machine, progress, computed, told_is, did, came) = ended_on i f did.w2 did.deed machine progress came
  acts_stay_below (BeginsRow i request) below told (w2, happens, maps2, as_they_were, none, is) = same_below w2 maps2 as_they_were is
  acts_stay_below (StepsRow i g) below told (w2, steps, happens, maps2, as_they_were, none, is) = same_below w2 maps2 as_they_were is

-- and where more are counted
pub more_below : {K V : Type 0} (count more : ℕ) (s : Scene K V) → MapsAreBelow count s → MapsAreBelow (count + more) s
more_below count more s here = record {
  standing = λ m st has. (let l = here.standing m st has in omega (arith, l));
  made = λ i b makes. (let l = here.made i b makes in omega (arith, l));
}
