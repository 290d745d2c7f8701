-- Wherever a list has led whose makings ask for so many shards, each map has as many.
use Rattle.std.specs.Prelude.{◌≢◌, ◌⊎◌, ◌+◌, Option, Some, None, option_map}
use Rattle.std.proofs.Common.{◌≡◌, ℕ, Bool, inl, inr, refl, ap, sym, subst, ◌∙◌}
use Rattle.std.proofs.lemmas.Bool.{cases_eq}
use Rattle.seize.specs.World.{World, with_at}
use Rattle.seize.specs.declared.advance.Advance.{Advance}
use Rattle.seize.specs.declared.advance.Advance.TheVariants as progress
use Rattle.seize.specs.declared.rows.settle.Settled.{Settled}
use Rattle.seize.specs.declared.rows.settle.Settled.TheVariants as settled
use Rattle.map_tables.specs.declared.node.Node.{Node}
use Rattle.map_tables.specs.declared.setting.Setting.{Setting}
use Rattle.run_finds.specs.Given.ResizeDeclared.new_map.NewMap.{NewMap}
use Rattle.run_finds.specs.Given.RawDeclared.machines.end_map.EndMap.{EndMap}
use Rattle.many_acts.specs.Given.FinishesEndings.{Finishing}
use Rattle.many_acts.specs.Given.FinishesFactsEnds.{Deed}
use Rattle.many_acts.specs.Given.FinishesMakings.{Beginning}
use Rattle.many_acts.specs.Given.FinishesMaps.{IsSameMap, Standing}
use Rattle.many_acts.proofs.Given.CallersTogether.At.{at_other, at_same}
use Rattle.many_acts.proofs.Given.ScenesGoes.{moved_map_keeps, same_map_keeps}
use Rattle.many_acts.specs.Given.ScenesMaking.{making_begun}
use Rattle.many_acts.specs.Given.ScenesScene.{Scene, slot_of}
use Rattle.many_acts.specs.Acts.Acts.{Act, Answer, BeginsCall, StepsCall, TellsCall, AsksCall, StopsCall, BeginsMaking, StepsMaking, BeginsEnding, StepsEnding, BeginsRow, StepsRow}
use Rattle.many_acts.specs.Acts.Leads.{EndingCame, Led, MakingCame}
use Rattle.play_lists.proofs.Played.Along.{StaysSo}
use Rattle.play_lists.specs.Agrees.Shards.{AsksShards, ShardsAre}
use Rattle.run_finds.proofs.Given.General.{same_some}

-- its setting, if there is a map
abbrev pub setting_of : {K : Type 0} → Option (Standing K) → Option Setting
setting_of o = option_map (λ st. st.setting) o

module _ {K : Type 0} (shards : ℕ) where
  -- a map that goes on with its setting has as many
  kept_so : (before after : Option (Standing K)) → setting_of after ≡ setting_of before → ((st : Standing K) → before ≡ Some st → st.setting.mask + 1 ≡ shards) → (st : Standing K) → after ≡ Some st
      → st.setting.mask + 1 ≡ shards
  kept_so None after is so st has = absurd (let both : None ≡ Some st.setting = sym is ∙ ap setting_of has in cc both)
  kept_so (Some old) after is so st has =
      let same : old.setting ≡ st.setting = same_some old.setting st.setting (sym is ∙ ap setting_of has) in ap (λ (x : Setting). x.mask + 1) (sym same) ∙ so old refl

module _ {K V : Type 0} (shards : ℕ) (s : Scene K V) (here : ShardsAre shards s) where
  -- all maps go on with their settings, and makings are as they were
  maps_so : (w2 : World (Node K V)) (maps2 : ℕ → Option (Standing K)) (n : Scene K V) → ((m : ℕ) → setting_of (maps2 m) ≡ setting_of (s.maps m)) → n.maps ≡ maps2 → n.makers ≡ s.makers → ShardsAre shards n
  maps_so w2 maps2 n kept maps_are makers_are = record {
    standing = λ m st has. kept_so shards (s.maps m) (maps2 m) (kept m) (here.standing m) st (sym (ap (λ (f : ℕ → Option (Standing K)). f m) maps_are) ∙ has);
    made = λ i b makes. here.made i b (sym (ap (λ (f : ℕ → Option (Beginning K)). f i) makers_are) ∙ makes);
  }

  -- one caller makes another map, or none
  made_so : (i : ℕ) (next : Option (Beginning K)) → ((b : Beginning K) → next ≡ Some b → b.given.mask + 1 ≡ shards) → (j : ℕ) (b : Beginning K) → with_at s.makers i next j ≡ Some b
      → b.given.mask + 1 ≡ shards
  made_so i next its j b makes = by (cases_eq j i)
    where
      by : (j ≡ i) ⊎ (j ≢ i) → b.given.mask + 1 ≡ shards
      by (inl e) = its b (sym (at_same s.makers i next j e) ∙ makes)
      by (inr ne) = here.made j b (sym (at_other s.makers i next j ne) ∙ makes)

  -- one map comes, or is there no more
  one_so : (m : ℕ) (next : Option (Standing K)) → ((st : Standing K) → next ≡ Some st → st.setting.mask + 1 ≡ shards) → (k : ℕ) (st : Standing K) → with_at s.maps m next k ≡ Some st
      → st.setting.mask + 1 ≡ shards
  one_so m next its k st has = by (cases_eq k m)
    where
      by : (k ≡ m) ⊎ (k ≢ m) → st.setting.mask + 1 ≡ shards
      by (inl e) = its st (sym (at_same s.maps m next k e) ∙ has)
      by (inr ne) = here.standing k st (sym (at_other s.maps m next k ne) ∙ has)

module _ {K S : Type 0} (V : Type 0) (same : K → K → Bool) (by_hasher : S → K → ℕ) (hash : ℕ → K → ℕ) (batch_size roots shards : ℕ) (s n : Scene K V) (here : ShardsAre shards s)
    (hashes : (m : ℕ) (st : Standing K) → s.maps m ≡ Some st → st.hash ≡ hash m) where
  -- by scenes that are named so
  is_so : (x : Scene K V) → n ≡ x → ShardsAre shards x → ShardsAre shards n
  is_so x is so = subst (ShardsAre shards) (sym is) so

  seen_so : (w2 : World (Node K V)) (maps2 : ℕ → Option (Standing K)) → ((m : ℕ) → IsSameMap (s.maps m) (maps2 m)) → n ≡ record s { world = w2; maps = maps2 } → ShardsAre shards n
  seen_so w2 maps2 as_they_were is =
      is_so (record s { world = w2; maps = maps2 }) is
      (maps_so shards s here w2 maps2 (record s { world = w2; maps = maps2 }) (λ m. (same_map_keeps (hash m) (s.maps m) (maps2 m) (hashes m) (as_they_were m)).setting) refl refl)

  -- a making has taken a step
  made_on : (i : ℕ) (b : Beginning K) (makes : s.makers i ≡ Some b) (w2 : World (Node K V)) (machine : NewMap) (told : Advance Setting)
      → MakingCame {S = S} same by_hasher batch_size roots slot_of s i b w2 machine n told → ShardsAre shards n
  made_on i b makes w2 machine progress.Goes is =
      is_so (record s { world = w2; makers = with_at s.makers i (Some (record b { machine = machine })) }) is
      (record { standing = here.standing; made = made_so shards s here i (Some (record b { machine = machine })) (λ c is_it. ap (λ (x : Beginning K). x.given.mask + 1) (sym (same_some (record b { machine = machine }) c is_it)) ∙ here.made i b makes) })
  made_on i b makes w2 machine progress.Waits never = absurd never
  made_on i b makes w2 machine (progress.Done setting) (standing, is_made, is) =
      is_so (record s { world = w2; maps = with_at s.maps b.map (Some standing); makers = with_at s.makers i None }) is
      (record {
        standing = one_so shards s here b.map (Some standing)
            (λ st is_it. ap (λ (x : Standing K). x.setting.mask + 1) (sym (same_some standing st is_it)) ∙ ap (λ (x : Setting). x.mask + 1) (is_made.setting_is ∙ is_made.answer_is) ∙ here.made i b makes);
        made = made_so shards s here i None (λ c none. absurd (cc none));
      })
  made_on i b makes w2 machine (progress.Refused fault) is =
      is_so (record s { world = w2; makers = with_at s.makers i None }) is (record { standing = here.standing; made = made_so shards s here i None (λ c none. absurd (cc none)) })

  -- an end has
  ended_on : (i : ℕ) (f : Finishing K V) (w2 : World (Node K V)) (deed : Deed) (machine : EndMap) (told : Settled (Node K V))
      → EndingCame {S = S} same by_hasher batch_size roots slot_of s i f w2 deed machine n told → ShardsAre shards n
  ended_on i f w2 deed machine settled.Goes (none, is) = is_so _ is (record { standing = here.standing; made = here.made })
  ended_on i f w2 deed machine settled.Waits never = absurd never
  ended_on i f w2 deed machine (settled.Gave value) (b, was, taken, is) = is_so _ is (record { standing = here.standing; made = here.made })
  ended_on i f w2 deed machine settled.Done (none, finished, is) = is_so _ is (record { standing = here.standing; made = here.made })

  -- So it is after each act.
  acts_so : (act : Act K V S) → AsksShards shards act → (told : Answer K V) → Led same by_hasher batch_size roots slot_of act s told n → ShardsAre shards n
  acts_so (BeginsCall i m wanted) asks told (standing, stands, none, is) = is_so _ is (record { standing = here.standing; made = here.made })
  acts_so (StepsCall i m g) asks told came =
      is_so _ came.comes (maps_so shards s here came.did.w2 came.did.maps2 _ kept refl refl)
    where
      kept : (k : ℕ) → setting_of (came.did.maps2 k) ≡ setting_of (s.maps k)
      kept k = by (cases_eq k m)
        where
          by : (k ≡ m) ⊎ (k ≢ m) → setting_of (came.did.maps2 k) ≡ setting_of (s.maps k)
          by (inl e) =
              subst (λ (j : ℕ). setting_of (came.did.maps2 j) ≡ setting_of (s.maps j)) (sym e)
              (moved_map_keeps (hash m) came.standing (s.maps m) (came.did.maps2 m) came.stands (hashes m came.standing came.stands) came.did.its_map).setting
          by (inr ne) = (same_map_keeps (hash k) (s.maps k) (came.did.maps2 k) (hashes k) (came.did.others k ne)).setting
  acts_so (TellsCall i m reply) asks told (standing, stands, u, next, has, machine_is, told_is, kind, is) = is_so _ is (record { standing = here.standing; made = here.made })
  acts_so (AsksCall i m) asks told (u, has, told_is, is) = is_so _ is (record { standing = here.standing; made = here.made })
  acts_so (StopsCall i m) asks told (u, has, told_is, is) = is_so _ is (record { standing = here.standing; made = here.made })
  acts_so (BeginsMaking i map hasher given places) asks told (none, is) =
      is_so _ is
      (record {
        standing = here.standing;
        made = made_so shards s here i (Some (making_begun (by_hasher hasher) roots map given places))
            (λ b is_it. ap (λ (c : Beginning K). c.given.mask + 1) (sym (same_some (making_begun (by_hasher hasher) roots map given places) b is_it)) ∙ asks);
      })
  acts_so (StepsMaking i g) asks told (b, makes, m2, machine, end, computed, told_is, did, came) = made_on i b makes did.step.w2 machine end came
  acts_so (BeginsEnding i m) asks told (standing, stands, none, is) = is_so _ is (record { standing = one_so shards s here m None (λ st none_is. absurd (cc none_is)); made = here.made })
  acts_so (StepsEnding i g) asks told (f, ends, m2, machine, end, computed, told_is, did, came) = ended_on i f did.w2 did.deed machine end came
  acts_so (BeginsRow i request) asks told (w2, happens, maps2, as_they_were, none, is) = seen_so w2 maps2 as_they_were is
  acts_so (StepsRow i g) asks told (w2, computed, happens, maps2, as_they_were, none, is) = seen_so w2 maps2 as_they_were is

module _ {K S : Type 0} (V : Type 0) (same : K → K → Bool) (by_hasher : S → K → ℕ) (hash : ℕ → K → ℕ) (batch_size roots shards : ℕ) (aborts : ℕ → V) where
  pub shards_stay : StaysSo V same by_hasher hash batch_size roots aborts (λ x. AsksShards shards) (λ p x. ShardsAre shards p.0)
  shards_stay = record {
    acts = λ p n x y act told own fits none none_then is is_then at may led leads at_then played here. acts_so V same by_hasher hash batch_size roots shards p.0 n.0 here at.hashes act fits told led;
    begins = λ p n x i c none begun same_scene all_free is is_then at here. subst (ShardsAre shards) (sym same_scene) here;
    steps = λ p n x y told g st is is_then at leads scene played here. seen_so V same by_hasher hash batch_size roots shards p.0 n.0 here at.hashes st.did.did.w2 st.did.did.maps2 st.did.did.as_they_were st.did.comes;
    chooses = λ p n x choice none none_then scene is is_then at here. subst (ShardsAre shards) (sym scene) (record { standing = here.standing; made = here.made });
  }
