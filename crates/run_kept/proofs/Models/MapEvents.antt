-- Events that make a map, or end one, whole.
use Rattle.std.specs.Prelude.{flat_map}
use Rattle.std.proofs.Common.{◌≡◌, ℕ, Bool, List, [], ◌∷◌, ◌++◌, refl, ap, sym, subst, ◌∙◌}
use Rattle.std.proofs.lemmas.List.{append-nil}
use Rattle.std.proofs.lemmas.List.Concat.{flat_map-cons}
use Rattle.seize.specs.WaitingSets.{Change, Sets, all_changed}
use Rattle.run_schedules.specs.Schedules.Model.{came, thing_back, handing, things_in, sets_in}
use Rattle.run_schedules.specs.declared.effect.Effect.{Effect}
use Rattle.run_schedules.specs.declared.effect.Effect.TheVariants as effect
use Rattle.run_schedules.specs.declared.effect.Thing.{Thing}
use Rattle.run_executor.specs.Given.EffectsEffects.{effects_of, known_after}
use Rattle.run_executor.specs.Given.EffectsDeclared.acting.Acting.TheVariants.{Making}
use Rattle.run_executor.proofs.Given.SpotsHanding.{KeepsAll, AllKeep}
use Rattle.run_kept.specs.Models.CallEvents.{things_then}
use Rattle.run_kept.specs.Models.Calls.{EndsNone, EndNone, sets_on}
use Rattle.run_kept.specs.Models.Ends.{IsOfEnd, AreOfEnd}
use Rattle.run_kept.specs.Models.Follows.{FollowsSets}
use Rattle.run_kept.specs.Models.MapEvents.{MomentsNoteOnce, MakingEventsBegin, MakingEventsContinue, MakingEventsEnd, EndEventsEnd}
use Rattle.run_kept.specs.Models.Others.{HandsNone, HandNone}
use Rattle.run_kept.proofs.Models.CallEvents.{things_more, both_back, nothing_back}
use Rattle.run_kept.proofs.Models.Calls.{more_things_follow}
use Rattle.run_kept.proofs.Models.Ends.{keep_hands, both_hands}
use Rattle.run_kept.proofs.Models.EndsOver.{ends_end}
use Rattle.run_kept.proofs.Models.Follows.{sets_then}
use Rattle.run_kept.proofs.Models.Handing.{nothing_handed}
use Rattle.run_kept.proofs.Models.Makings.{all_keep, all_back, makings_follow}
use Rattle.run_kept.proofs.Models.Numbers.{noted_once}
use Rattle.run_kept.proofs.Models.Quiet.{maps_are_by_model}

pub moments_note_once : (K V : Type 0) → MomentsNoteOnce K V
moments_note_once K V same name m known s whole = noted_once m known whole.all.shown.blocks.once whole.blocks

pub making_events_begin : (K V : Type 0) → MakingEventsBegin K V
making_events_begin K V batch_size roots things sets known w follows = record {
  hands = tt;
  ends = tt;
  back = tt;
  follows = subst (λ (xs : List Thing). FollowsSets batch_size roots xs sets known w) (sym (append-nil things)) follows;
}

both_end : (xs ys : List Effect) → EndNone xs → EndNone ys → EndNone (xs ++ ys)
both_end [] ys c d = d
both_end (x ∷ xs) ys c d = (c.0, both_end xs ys c.1 d)

keep_ends : (effects : List Effect) → AllKeep effects → EndNone effects
keep_ends [] all = tt
keep_ends (e ∷ effects) all = (by e all.0, keep_ends effects all.1)
  where
    by : (e : Effect) → KeepsAll e → EndsNone e
    by (effect.Taken t) is = is
    by _ is = tt

-- what hands nothing over, and ends no table, changes nothing
none_handed_over : (things : List Thing) (slot : ℕ) (effects : List Effect) → HandNone effects → EndNone effects → flat_map (handing things slot) effects ≡ []
none_handed_over things slot [] hands ends = refl
none_handed_over things slot (e ∷ effects) hands ends =
    flat_map-cons (handing things slot) e effects ∙ ap (λ (cs : List Change). cs ++ flat_map (handing things slot) effects) (by e hands.0 ends.0)
    ∙ none_handed_over things slot effects hands.1 ends.1
  where
    by : (e : Effect) → HandsNone e → EndsNone e → handing things slot e ≡ []
    by (effect.Retired x) is none = absurd is
    by (effect.Deferred n t) is none = absurd is
    by (effect.Taken t) is none = absurd none
    by _ is none = refl

module _ (K V : Type 0) (same : K → K → Bool) (hash : ℕ → K → ℕ) where
  pub making_events_go_on : MakingEventsContinue K V same hash
  making_events_go_on name m known s old new at whole i told leads b here of is_new roots things sets done f =
      let to = leads b here in
      let effects = effects_of (Making b.map) known new.changed in
      let known2 = known_after (Making b.map) new.changed known in
      let now = things_then things done in
      let keep : AllKeep effects = all_keep same hash name m known s old new at whole i b here to.0 told to.1 to.2 of in
      let step = makings_follow K V same hash name m known s old new at whole i told leads b here of is_new roots now sets f.follows 0 in
      let same_sets : sets_on old.batch_size now 0 effects sets ≡ sets = ap (λ (cs : List Change). (all_changed old.batch_size cs sets).sets) (nothing_handed now 0 effects keep) in
      record {
        hands = both_hands done effects f.hands (keep_hands effects keep);
        ends = both_end done effects f.ends (keep_ends effects keep);
        back = both_back done effects f.back (all_back same hash name m known s old new at whole i b here to.0 told to.1 to.2 of);
        follows =
            subst (λ (xs : List Thing). FollowsSets old.batch_size roots xs sets known2 to.2.step.w2) (sym (things_more things done effects))
            ((more_things_follow K V old.batch_size roots now (flat_map came effects) sets known2 to.2.step.w2).0
            (subst (λ (x : Sets). FollowsSets old.batch_size roots now x known2 to.2.step.w2) same_sets step));
      }

pub making_events_end : (K V : Type 0) → MakingEventsEnd K V
making_events_end K V terms log e slot known w f are none_left =
    let none : flat_map (handing (things_in (e ∷ log)) slot) e.effects ≡ [] = none_handed_over (things_in (e ∷ log)) slot e.effects f.hands f.ends in (
      maps_are_by_model K V terms log e slot are none_left f.hands (nothing_back e.effects f.back),
      subst (λ (x : Sets). FollowsSets terms.batch_size terms.roots (things_in (e ∷ log)) x known w) (sets_then terms log e [] (are ∙ none)) f.follows,
    )

-- by the end of a map nothing comes, and nothing is reclaimed that was handed over
none_comes : (effects : List Effect) → AreOfEnd effects → flat_map came effects ≡ []
none_comes [] all = refl
none_comes (e ∷ effects) all = flat_map-cons came e effects ∙ ap (λ (xs : List Thing). xs ++ flat_map came effects) (by e all.0) ∙ none_comes effects all.1
  where
    by : (e : Effect) → IsOfEnd e → came e ≡ []
    by (effect.Stored n x) is = absurd is
    by (effect.Linked t shape) is = absurd is
    by _ is = refl

none_back : (effects : List Effect) → AreOfEnd effects → flat_map thing_back effects ≡ []
none_back [] all = refl
none_back (e ∷ effects) all = flat_map-cons thing_back e effects ∙ ap (λ (xs : List Thing). xs ++ flat_map thing_back effects) (by e all.0) ∙ none_back effects all.1
  where
    by : (e : Effect) → IsOfEnd e → thing_back e ≡ []
    by (effect.Reclaimed x) is = absurd is
    by _ is = refl

pub end_events_end : (K V : Type 0) → EndEventsEnd K V
end_events_end K V terms log e slot i first known w small once f m blocks no_table are none_left =
    let none_came = none_comes e.effects f.of_end in
    let back = none_back e.effects f.of_end in
    let things_same : things_in (e ∷ log) ≡ things_in log = ap (λ (xs : List Thing). things_in log ++ xs) none_came ∙ append-nil (things_in log) in
    let over = ends_end K V terms.batch_size terms.roots (things_in log) (sets_in terms.batch_size log) first i e.effects known w small once f m blocks no_table slot in (
      maps_are_by_model K V terms log e slot are none_left f.hands back,
      subst (λ (x : Sets). FollowsSets terms.batch_size terms.roots (things_in (e ∷ log)) x known w)
          (sets_then terms log e (flat_map (handing (things_in (e ∷ log)) slot) e.effects) are)
          (subst (λ (xs : List Thing). FollowsSets terms.batch_size terms.roots xs (sets_on terms.batch_size xs slot e.effects (sets_in terms.batch_size log)) known w) (sym things_same) over),
    )
