-- Wherever a list of acts has led each map that ends goes on to end, and no two ends have one map.
use Rattle.std.specs.Prelude.{◌≡◌, ℕ, Bool, Option, Some, None}
use Rattle.std.proofs.Common.{ap, sym, subst, ◌∙◌}
use Rattle.seize_acts.specs.Given.SeizeDeclared.rows.reclaim_all.ReclaimAll.{ReclaimAll}
use Rattle.play_lists.specs.Given.TablesDeclared.setting.Setting.{Setting}
use Rattle.play_lists.specs.Given.EffectsDeclared.changed.Changed.TheVariants.{Nothing as NoChange}
use Rattle.play_lists.specs.Given.FinishesEndings.{Finishing}
use Rattle.play_lists.specs.Given.ScenesHeld.{IsAt}
use Rattle.play_lists.specs.Given.ScenesScene.{Scene, at_first, slot_of}
use Rattle.play_lists.specs.Given.ActsActs.{Act, Answer, AsksCall, BeginsCall, BeginsEnding, BeginsMaking, BeginsRow, StepsCall, StepsEnding, StepsMaking, StepsRow, StopsCall, TellsCall}
use Rattle.play_lists.specs.Given.ActsAsSteps.{LeadsAs, changed_by, held_in}
use Rattle.play_lists.specs.Given.ActsLeads.{Led, MayBe}
use Rattle.play_lists.specs.Agrees.Fresh.{HasNewNumber}
use Rattle.play_lists.specs.Played.Play.{Ending, State, all_begun, choice_come, first_state}
use Rattle.play_lists.specs.Played.Reached.{IsOf, rows_beside}
use Rattle.play_lists.proofs.Played.Along.{At, StaysSo}
use Rattle.play_lists.proofs.Played.PlayedAs.{PlayedAs, played_as, reclaimed_as}
use Rattle.play_linear.proofs.Linear.Holding.{AllHolds}
use Rattle.play_linear.proofs.Linear.Stays.{Of, all_stay}
use Rattle.play_linear.specs.Endings.GoingOn.{EndsContinue}
use Rattle.play_linear.proofs.Endings.EndStepGoes.{end_step_goes}
use Rattle.play_linear.proofs.Endings.EndingGoes.{begins_going}
use Rattle.play_linear.proofs.Endings.MakingGoes.{making_goes}
use Rattle.play_linear.proofs.Endings.Played.{quiet_go, row_goes, step_goes}

module _ {K V S : Type 0} (same : K → K → Bool) (by_hasher : S → K → ℕ) (hash : ℕ → K → ℕ) (batch_size roots : ℕ) (aborts : ℕ → V) (x y : State K V S) (s n : Scene K V)
    (is : IsOf by_hasher s s.world.row x.now) (at : IsAt same hash (held_in batch_size roots NoChange s) s) (all : AllHolds same x s) (so : EndsContinue x s) (told : Answer K V) where
  -- a making begins: ends are those that they were
  making_begun : (i map : ℕ) (hasher : S) (given : Setting) (places : ℕ) → PlayedAs same by_hasher batch_size roots aborts x y (BeginsMaking i map hasher given places)
      → Led same by_hasher batch_size roots slot_of (BeginsMaking i map hasher given places) s told n → EndsContinue y n
  making_begun i map hasher given places y_is (told_is, n_is) = subst (λ (z : State K V S). EndsContinue z n) (sym y_is) (record {
    each = λ j e ending f ends. so.each j e ending f (sym (ap (λ (z : Scene K V). z.enders j) n_is) ∙ ends);
    apart = so.apart;
  })

  pub act_goes : (act : Act K V S) → PlayedAs same by_hasher batch_size roots aborts x y act → MayBe same by_hasher batch_size roots slot_of act s → Led same by_hasher batch_size roots slot_of act s told n
      → LeadsAs same by_hasher hash act s told n (held_in batch_size roots NoChange s) (held_in batch_size roots (changed_by same act s) n) → IsAt same hash (held_in batch_size roots (changed_by same act s) n) n → EndsContinue y n
  act_goes (BeginsCall i map wanted) played may led leads at2 = quiet_go same by_hasher hash batch_size roots aborts x y s n is at all so told (BeginsCall i map wanted) tt played led
  act_goes (StepsCall i map g) played may led leads at2 = step_goes same by_hasher hash batch_size roots aborts x y s n is at all so told i map g played led leads at2
  act_goes (TellsCall i map reply) played may led leads at2 = quiet_go same by_hasher hash batch_size roots aborts x y s n is at all so told (TellsCall i map reply) tt played led
  act_goes (AsksCall i map) played may led leads at2 = quiet_go same by_hasher hash batch_size roots aborts x y s n is at all so told (AsksCall i map) tt played led
  act_goes (StopsCall i map) played may led leads at2 = quiet_go same by_hasher hash batch_size roots aborts x y s n is at all so told (StopsCall i map) tt played led
  act_goes (BeginsMaking i map hasher given places) played may led leads at2 = making_begun i map hasher given places played led
  act_goes (StepsMaking i g) played may led leads at2 = making_goes same by_hasher hash batch_size roots aborts x y s n is at all so told i g played led leads at2
  act_goes (BeginsEnding i map) played may led leads at2 = begins_going same by_hasher hash batch_size roots aborts x y s n is at all so told i map played led at2
  act_goes (StepsEnding i g) played may led leads at2 = end_step_goes same by_hasher hash batch_size roots aborts x y s n is at all so told i g played led leads at2
  act_goes (BeginsRow i request) played may led leads at2 = quiet_go same by_hasher hash batch_size roots aborts x y s n is at all so told (BeginsRow i request) tt played led
  act_goes (StepsRow i g) played may led leads at2 = row_goes same by_hasher hash batch_size roots aborts x y s n is at all so told i g may.0 played led leads at2

module _ {K S : Type 0} (V : Type 0) (same : K → K → Bool) (by_hasher : S → K → ℕ) (hash : ℕ → K → ℕ) (batch_size roots : ℕ) (aborts : ℕ → V) where
  abbrev pub AllGo : At V same by_hasher hash batch_size roots → State K V S → Type 0
  AllGo p x = Of V same by_hasher hash batch_size roots aborts p x × EndsContinue x p.0

  pub first_go : EndsContinue {K = K} {V = V} {S = S} (first_state roots) (at_first roots)
  first_go = record { each = λ j e ending f ends. absurd (cc ending); apart = λ i j e g ne one two. absurd (cc one) }

  pub ends_go_on : StaysSo V same by_hasher hash batch_size roots aborts HasNewNumber AllGo
  ends_go_on = record {
    acts = λ p n x y act told own fits none none_then is is_then at may led leads at_then played here. (
      linear.acts p n x y act told own fits none none_then is is_then at may led leads at_then played here.0,
      act_goes same by_hasher hash batch_size roots aborts x y p.0 n.0
          (subst (λ (o : Option (ℕ × ReclaimAll)). IsOf by_hasher p.0 (rows_beside o p.0.world.row) x.now) none is.scene) at here.0 here.1 told act (played_as same by_hasher batch_size roots aborts x y act played) may led leads at_then,
    );
    begins = λ p n x i c none begun same_scene all_free is is_then at here. (
      linear.begins p n x i c none begun same_scene all_free is is_then at here.0,
      subst (EndsContinue (all_begun c x)) (sym same_scene) (record { each = here.1.each; apart = here.1.apart }),
    );
    steps = λ p n x y told g st is is_then at leads scene played here.
        (let it = reclaimed_as same by_hasher batch_size roots aborts x y g played in
        let enders : y.now.enders ≡ x.now.enders = ap (λ (z : State K V S). z.now.enders) it.4 in (
          linear.steps p n x y told g st is is_then at leads scene played here.0,
          record {
            each = λ j e ending f ends. absurd (let both : ◌≡◌ {A = Option (Finishing K V)} None (Some f) = sym (at.under_way.stand.no_enders j) ∙ sym (ap (λ (z : Scene K V). z.enders j) scene) ∙ ends in cc both);
            apart = λ j k e e2 ne one two. here.1.apart j k e e2 ne (sym (ap (λ (h : ℕ → Option Ending). h j) enders) ∙ one) (sym (ap (λ (h : ℕ → Option Ending). h k) enders) ∙ two);
          },
        ));
    chooses = λ p n x choice none none_then scene is is_then at here. (
      linear.chooses p n x choice none none_then scene is is_then at here.0,
      subst (EndsContinue (choice_come choice x)) (sym scene) (record { each = here.1.each; apart = here.1.apart }),
    );
  }
    where
      linear : StaysSo V same by_hasher hash batch_size roots aborts HasNewNumber (Of V same by_hasher hash batch_size roots aborts)
      linear = all_stay V same by_hasher hash batch_size roots aborts
