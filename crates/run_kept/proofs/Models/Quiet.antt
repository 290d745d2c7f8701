-- What is handed over under an active slot: nothing is reclaimed, by the model and by the event.
use Rattle.std.specs.Prelude.{flat_map, map}
use Rattle.std.proofs.Common.{◌≡◌, ◌≤◌, ℕ, suc, List, [], ◌∷◌, ◌++◌, refl, ap, sym, subst, ◌∙◌}
use Rattle.std.proofs.lemmas.List.Concat.{flat_map-cons}
use Rattle.seize.specs.WaitingSets.{Change, Enters, Leaves, Refreshes, Retires, Flushes, Defers, Ends, ReclaimsAll, Sets, size, ended, all_changed}
use Rattle.run_executor.specs.Given.SeizeWaitingHanded.{HandOverBy}
use Rattle.run_executor.specs.Given.SeizeWaitingHeld.{count}
use Rattle.run_executor.proofs.Given.SeizeWaitingFlushes.{retired_all_frame}
use Rattle.run_executor.proofs.Given.SeizeWaitingLaws.{active_slots_wait}
use Rattle.run_schedules.specs.Schedules.Model.{number_in, handing, things_in, sets_in}
use Rattle.run_schedules.specs.declared.effect.Effect.{Effect}
use Rattle.run_schedules.specs.declared.effect.Effect.TheVariants as effect
use Rattle.run_schedules.specs.declared.effect.Thing.{Thing}
use Rattle.run_schedules.specs.declared.effect.Thing.TheVariants.{ATable}
use Rattle.run_kept.specs.Models.Calls.{EndsNone, EndNone, InsidesFollow, HandingIsByModel}
use Rattle.run_kept.specs.Models.Others.{HandsNone, HandNone, MapsAreByModel}
use Rattle.run_kept.proofs.Models.Follows.{by_model, sets_then}
use Rattle.run_kept.proofs.Models.Turns.{inside_active}
use Rattle.papaya_raw.specs.Given.TablesNodes.{deferred_word}

-- nothing is reclaimed, and the same slots are active
record IsQuiet (batch_size : ℕ) (changes : List Change) (w : Sets) : Type 0 where
  pub back : (all_changed batch_size changes w).reclaimed ≡ []
  pub active : (all_changed batch_size changes w).sets.active ≡ w.active

still_active : (slot : ℕ) (l r : List ℕ) → l ≡ r → 1 ≤ count slot r → 1 ≤ count slot l
still_active slot l r same is = subst (λ (x : List ℕ). 1 ≤ count slot x) (sym same) is

handed_quiet : (batch_size slot : ℕ) (changes : List Change) (w : Sets) → HandOverBy slot changes → 1 ≤ count slot w.active → IsQuiet batch_size changes w
handed_quiet batch_size slot [] w hand is = record { back = refl; active = refl }
handed_quiet batch_size slot (Retires s n ∷ changes) w hand is =
    let v = (all_changed batch_size (Retires s n ∷ []) w).sets in
    let same = (retired_all_frame batch_size (suc (size w)) s (n ∷ []) w).active in
    let rest = handed_quiet batch_size slot changes v hand.1 (still_active slot v.active w.active same is) in
    record {
      back =
          ap (λ (l : List ℕ). l ++ (all_changed batch_size changes v).reclaimed) (active_slots_wait batch_size s n w (subst (λ (x : ℕ). 1 ≤ count x w.active) (sym hand.0) is))
          ∙ rest.back;
      active = rest.active ∙ same;
    }
handed_quiet batch_size slot (Defers n behind ∷ changes) w hand is =
    let v = (all_changed batch_size (Defers n behind ∷ []) w).sets in
    let rest = handed_quiet batch_size slot changes v hand.1 is in
    record { back = rest.back; active = rest.active }
handed_quiet batch_size slot (Enters s ∷ changes) w hand is = absurd hand.0
handed_quiet batch_size slot (Leaves s ∷ changes) w hand is = absurd hand.0
handed_quiet batch_size slot (Refreshes s ∷ changes) w hand is = absurd hand.0
handed_quiet batch_size slot (Flushes s ∷ changes) w hand is = absurd hand.0
handed_quiet batch_size slot (Ends n ∷ changes) w hand is = absurd hand.0
handed_quiet batch_size slot (ReclaimsAll ∷ changes) w hand is = absurd hand.0

-- what a call hands over is so
both_hand : (slot : ℕ) (cs ds : List Change) → HandOverBy slot cs → HandOverBy slot ds → HandOverBy slot (cs ++ ds)
both_hand slot [] ds h k = k
both_hand slot (c ∷ cs) ds h k = (h.0, both_hand slot cs ds h.1 k)

hand_over : (things : List Thing) (slot : ℕ) (effects : List Effect) → EndNone effects → HandOverBy slot (flat_map (handing things slot) effects)
hand_over things slot [] all = tt
hand_over things slot (e ∷ effects) all =
    subst (HandOverBy slot) (sym (flat_map-cons (handing things slot) e effects))
    (both_hand slot (handing things slot e) (flat_map (handing things slot) effects) (by e all.0) (hand_over things slot effects all.1))
  where
    by : (e : Effect) → EndsNone e → HandOverBy slot (handing things slot e)
    by (effect.Retired x) is = (refl, tt)
    by (effect.Deferred n t) is = (tt, tt)
    by (effect.Taken t) is = absurd is
    by _ is = tt

pub insides_follow : (K V : Type 0) → InsidesFollow K V
insides_follow K V batch_size roots things sets known w small f slot inside =
    subst (λ (l : List ℕ). 1 ≤ count slot l) f.alike.actives (inside_active deferred_word batch_size roots small w f.before f.came slot inside)

pub handing_is_by_model : (K V : Type 0) → HandingIsByModel K V
handing_is_by_model K V terms log e slot are none_left ends back is =
    let handed = flat_map (handing (things_in (e ∷ log)) slot) e.effects in
    let quiet = handed_quiet terms.batch_size slot handed (sets_in terms.batch_size log) (hand_over (things_in (e ∷ log)) slot e.effects ends) is in (
      by_model terms log e handed are none_left (ap (map (number_in (things_in (e ∷ log)))) back ∙ sym quiet.back),
      still_active slot _ _ (ap (λ (s : Sets). s.active) (sym (sets_then terms log e handed are)) ∙ quiet.active) is,
    )

-- where nothing is handed over nothing is reclaimed, whichever slots are active

ends_quiet : (batch_size : ℕ) (things : List Thing) (slot : ℕ) (effects : List Effect) (w : Sets) → HandNone effects → (all_changed batch_size (flat_map (handing things slot) effects) w).reclaimed ≡ []
ends_quiet batch_size things slot [] w all = refl
ends_quiet batch_size things slot (e ∷ effects) w all =
    ap (λ (cs : List Change). (all_changed batch_size cs w).reclaimed) (flat_map-cons (handing things slot) e effects)
    ∙ by e all.0 (λ v. ends_quiet batch_size things slot effects v all.1)
  where
    by : (e : Effect) → HandsNone e → ((v : Sets) → (all_changed batch_size (flat_map (handing things slot) effects) v).reclaimed ≡ [])
        → (all_changed batch_size (handing things slot e ++ flat_map (handing things slot) effects) w).reclaimed ≡ []
    by (effect.Retired x) is ih = absurd is
    by (effect.Deferred n t) is ih = absurd is
    by (effect.Taken t) is ih = ih (ended (number_in things (ATable t)) w)
    by _ is ih = ih w

pub maps_are_by_model : (K V : Type 0) → MapsAreByModel K V
maps_are_by_model K V terms log e slot are none_left hands back =
    let handed = flat_map (handing (things_in (e ∷ log)) slot) e.effects in
    by_model terms log e handed are none_left
    (ap (map (number_in (things_in (e ∷ log)))) back ∙ sym (ends_quiet terms.batch_size (things_in (e ∷ log)) slot e.effects (sets_in terms.batch_size log) hands))
