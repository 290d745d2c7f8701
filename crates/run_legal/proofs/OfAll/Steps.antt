-- An event that reclaims all is in its midst where it begins, and wherever a chain of its steps has led.
use Rattle.std.specs.Prelude.{◌≡◌, ℕ, Bool, true, ◌&&◌, List, [], ◌∷◌, ◌++◌, map, None}
use Rattle.std.specs.List.{list_all}
use Rattle.std.proofs.Common.{refl, ap, sym, subst, ◌∙◌, inl}
use Rattle.std.proofs.lemmas.List.{append-nil}
use Rattle.run_grows.specs.Given.SeizeSequence.{taken_in}
use Rattle.run_grows.specs.Given.SeizeWorld.{World}
use Rattle.run_grows.specs.Given.SeizeDeclared.rows.reclaim_all.ReclaimAll.{ReclaimAll}
use Rattle.run_grows.specs.Given.SeizeDeclared.rows.settle.Settled.{Settled}
use Rattle.run_grows.specs.Given.SeizeSetsReclaims.{is_on_slots}
use Rattle.run_grows.specs.Given.TablesDeclared.node.Node.{Node}
use Rattle.run_grows.specs.Given.RunsDeclared.effect.Effect.{Effect}
use Rattle.run_grows.specs.Given.RunsDeclared.effect.Effect.TheVariants.{Reclaimed}
use Rattle.run_grows.specs.Given.RunsDeclared.effect.Thing.{Thing}
use Rattle.run_grows.specs.Given.SchedulesAfter.{moment}
use Rattle.run_grows.specs.Given.SchedulesEffects.{with_effects, AtEachEffect}
use Rattle.run_grows.specs.Given.SchedulesEntry.{Entry}
use Rattle.run_grows.specs.Given.SchedulesHanding.{is_reclaiming}
use Rattle.run_grows.specs.Given.SchedulesMoment.{Moment}
use Rattle.run_grows.specs.Given.SchedulesTerms.{Terms}
use Rattle.run_grows.specs.Given.EffectsEffects.{effects_of, known_after}
use Rattle.run_grows.specs.Given.EffectsKnown.{Known}
use Rattle.run_grows.specs.Given.EffectsDeclared.acting.Acting.TheVariants.{Row}
use Rattle.run_grows.specs.Given.MomentsOnSlots.{HadRetired}
use Rattle.run_grows.proofs.Given.MomentsAfter.{effects_after}
use Rattle.run_grows.specs.Given.ScenesReclaiming.{IsReclaiming, ReclaimingLeads}
use Rattle.run_logged.proofs.Log.Reclaiming.Rest.{reclaiming_found}
use Rattle.run_grows.proofs.Given.PromisesWeights.{grants_add_up, operations_are_single}
use Rattle.run_grows.proofs.Given.ModelsMapEvents.{moments_note_once}
use Rattle.run_legal.specs.AllEvents.{AllChain, AllCome, AllEventsBegin, AllSteps, InAllEvent, scene_in}
use Rattle.run_legal.proofs.Chains.{chains_keep}
use Rattle.run_legal.proofs.OfAll.Roots.{slots_leave_roots}
use Rattle.run_legal.proofs.OfAll.Stays.{calls_then, reading_then}
use Rattle.run_legal.proofs.OfAll.Tells.{gone_by, it_reclaims}
use Rattle.run_legal.proofs.OfAll.Turns.{left_stays, takes_in_turn}
use Rattle.run_legal.proofs.Slots.{each_join}
use Rattle.run_grows.specs.Given.ScenesHeld.{Held}
use Rattle.run_grows.specs.Given.ScenesScene.{Scene}
use Rattle.run_grows.specs.Given.SchedulesTransition.{past}
use Rattle.run_grows.proofs.Given.General.{both_true as and_both}

both_reclaim : (done more : List Effect) → list_all is_reclaiming done ≡ true → list_all is_reclaiming more ≡ true → list_all is_reclaiming (done ++ more) ≡ true
both_reclaim [] more first later = later
both_reclaim (f ∷ fs) more first later =
    let each = and_both (is_reclaiming f) (list_all is_reclaiming fs) first in
    ap (λ (q : Bool). q && list_all is_reclaiming (fs ++ more)) each.0 ∙ both_reclaim fs more each.1 later

pub things_reclaim : (ys : List Thing) → list_all is_reclaiming (map Reclaimed ys) ≡ true
things_reclaim [] = refl
things_reclaim (y ∷ ys) = things_reclaim ys

module _ {K V : Type 0} (same : K → K → Bool) (hash : ℕ → K → ℕ) (name : ℕ → List ℕ) (terms : Terms) (log : List (Entry K V)) (first : Known) (began : World (Node K V)) (behind : ℕ → List ℕ)
    (done : List Effect) (m : Moment K V) (known : Known) (s : Scene K V) (before after : ReclaimAll) (lists : ℕ → List ℕ) (midst : InAllEvent same name terms log first began behind done m known s before lists)
    (old new : Held K V) (i : ℕ) (told : Settled (Node K V)) (under_way : IsReclaiming same hash old s i lists before) (roots_are : old.roots ≡ terms.roots)
    (leads : ReclaimingLeads same hash s i lists old new before after told) where
  abbrev effects : List Effect
  effects = effects_of Row known new.changed

  had_retired : AtEachEffect HadRetired None None effects m
  had_retired = (reclaiming_found same hash name m known s midst.calls.whole midst.calls.kept old new i lists before after told under_way leads).0

  on_slots : is_on_slots before.stands ≡ true → leads.1.lists2 ≡ lists
  on_slots = slots_leave_roots K V same hash s i lists old new before after told under_way leads

  -- so it is after a step
  goes_on : InAllEvent same name terms log first began behind (done ++ effects) (with_effects None None effects m) (known_after Row new.changed known) (scene_in s leads.1.w2 leads.1.maps2) after
      leads.1.lists2
  goes_on = record {
    once = midst.once;
    calls = calls_then same hash name (past log) m known s midst.calls old new i lists before after told under_way leads;
    reading = reading_then same hash name (past log) m known s midst.calls old new i lists before after told under_way leads;
    worked = ap (λ (z : Moment K V). with_effects None None effects z) midst.worked ∙ sym (effects_after None None done effects (moment log));
    granted = grants_add_up done effects midst.granted (operations_are_single Row known new.changed).1;
    may = both_reclaim done effects midst.may
        (subst (λ (fs : List Effect). list_all is_reclaiming fs ≡ true) (sym (it_reclaims same hash name m known s midst.calls.whole midst.calls.kept old new i lists before after told under_way leads))
        (things_reclaim (gone_by known new.changed)));
    had = each_join HadRetired None None done effects (moment log) midst.had (subst (λ (z : Moment K V). AtEachEffect HadRetired None None effects z) midst.worked had_retired);
    turn = takes_in_turn same hash name m known s midst.calls.whole midst.calls.kept old new i lists before after told under_way leads terms.roots roots_are on_slots first began behind done midst.turn;
    left = left_stays same hash name m known s midst.calls.whole midst.calls.kept old new i lists before after told under_way leads terms.roots roots_are on_slots midst.left;
  }

module _ (K V : Type 0) (same : K → K → Bool) (hash : ℕ → K → ℕ) where
  pub all_events_begin : AllEventsBegin K V same hash
  all_events_begin name terms log known s run all lists left = record {
    once = moments_note_once K V same name (moment log) known s run.calls.whole;
    calls = run.calls;
    reading = run.reading;
    worked = refl;
    granted = refl;
    may = refl;
    had = tt;
    turn = record {
      back = [];
      gone = [];
      taken = sym (append-nil (taken_in s.world.log));
      order = refl;
      reclaimed = refl;
      slots_first = λ on. refl;
      noted = λ b. inl refl;
    };
    left = left;
  }

  -- from one come to the next
  pub all_goes_on : (name : ℕ → List ℕ) (terms : Terms) (log : List (Entry K V)) (first : Known) (began : World (Node K V)) (behind : ℕ → List ℕ) (i : ℕ) (x y : AllCome K V)
      → AllSteps same hash terms i x y → InAllEvent same name terms log first began behind x.come.did x.come.now x.come.notes x.come.scene x.all x.lists
      → InAllEvent same name terms log first began behind y.come.did y.come.now y.come.notes y.come.scene y.all y.lists
  all_goes_on name terms log first began behind i x y step midst = subst Midst (sym step.comes)
      (goes_on same hash name terms log first began behind x.come.did x.come.now x.come.notes x.come.scene x.all y.all x.lists midst x.come.held y.come.held i step.said step.under_way
      step.roots_are step.leads)
    where
      Midst : AllCome K V → Type 0
      Midst z = InAllEvent same name terms log first began behind z.come.did z.come.now z.come.notes z.come.scene z.all z.lists

  pub all_chain : AllChain K V same hash
  all_chain name terms log first began behind i n from to chain so = chains_keep Midst (AllSteps same hash terms i) (all_goes_on name terms log first began behind i) n from to chain so
    where
      Midst : AllCome K V → Type 0
      Midst z = InAllEvent same name terms log first began behind z.come.did z.come.now z.come.notes z.come.scene z.all z.lists
