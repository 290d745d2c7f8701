-- An event that does what it may reclaims pairs only where that may be so.
use Rattle.std.specs.Prelude.{◌≡◌, Bool, true, false, List, [], ◌∷◌, ◌++◌, flat_map}
use Rattle.std.specs.List.{list_all}
use Rattle.std.proofs.Common.{refl, ap, ◌∙◌}
use Rattle.run_schedules.specs.declared.effect.Effect.{Effect}
use Rattle.run_schedules.specs.declared.effect.Effect.TheVariants.{Ended, Reclaimed}
use Rattle.run_schedules.specs.declared.event.Event.{Event}
use Rattle.run_schedules.specs.declared.event.Event.TheVariants.{Register, Unregister, Enter, Own, Refresh, Flush, DropGuard, ReclaimAll, Close, MakeMap, EndMap, Step, Go, OneCall}
use Rattle.run_schedules.specs.Schedules.After.{moment}
use Rattle.run_schedules.specs.Schedules.Effects.{pairs_back}
use Rattle.run_schedules.specs.Schedules.Entry.{Entry}
use Rattle.run_schedules.specs.Schedules.Handing.{MovesOn, is_call_effect, is_first_making, may_do}
use Rattle.run_schedules.specs.Schedules.Moment.{Moment}
use Rattle.run_schedules.specs.Schedules.Terms.{Terms}
use Rattle.papaya_steps.specs.WholeRuns.Back.{ReclaimsBy, ReclaimsRight}
use Rattle.seize_words.proofs.General.{both_true}

-- effects of which none reclaims a pair reclaim none
none_of : (test : Effect → Bool) → ((f : Effect) → test f ≡ true → pairs_back f ≡ []) → (did : List Effect) → list_all test did ≡ true → flat_map pairs_back did ≡ []
none_of test none [] all = refl
none_of test none (f ∷ did) all =
    let both = both_true (test f) (list_all test did) all in ap (λ l. l ++ flat_map pairs_back did) (none f both.0) ∙ none_of test none did both.1

calls_none : (f : Effect) → is_call_effect f ≡ true → pairs_back f ≡ []
calls_none (Reclaimed x) e = absurd (cc e)
calls_none (Ended n) e = absurd (cc e)
calls_none _ e = refl

makings_none : (f : Effect) → is_first_making f ≡ true → pairs_back f ≡ []
makings_none (Reclaimed x) e = absurd (cc e)
makings_none (Ended n) e = absurd (cc e)
makings_none _ e = refl

module _ {K V : Type 0} where
  reclaims_by : (event : Event K V) (m : Moment K V) (did : List Effect) → list_all (may_do event m) did ≡ true → ReclaimsBy event did
  reclaims_by (Register registration) m did all = tt
  reclaims_by (Unregister registration) m did all = tt
  reclaims_by (Enter guard registration) m did all = tt
  reclaims_by (Own guard) m did all = tt
  reclaims_by (Refresh guard) m did all = tt
  reclaims_by (Flush guard) m did all = tt
  reclaims_by (DropGuard guard) m did all = tt
  reclaims_by (EndMap name) m did all = tt
  reclaims_by ReclaimAll m did all = tt
  reclaims_by Close m did all = tt
  reclaims_by (Step caller refuse) m did all = none_of is_call_effect calls_none did all
  reclaims_by (Go caller refuse) m did all = none_of is_call_effect calls_none did all
  reclaims_by (OneCall guard name call) m did all = none_of is_call_effect calls_none did all
  reclaims_by (MakeMap name mode capacity) m did all = none_of is_first_making makings_none did all
  reclaims_by _ m did all = none_of (λ f. false) (λ f e. absurd (cc e)) did all

  pub reclaims_right : (terms : Terms) (log : List (Entry K V)) (e : Entry K V) → MovesOn terms log e → ReclaimsRight log e
  reclaims_right terms log e moves = reclaims_by e.event (moment log) e.effects moves.may
