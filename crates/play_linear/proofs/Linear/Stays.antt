-- So it is wherever a list of acts has led: each entry is linearizable, the moment shows the scene, and maps come and go as they must.
use Rattle.std.specs.Prelude.{◌≡◌, ℕ, Bool, [], Option, option_map}
use Rattle.std.proofs.Common.{ap, sym, subst, ◌∙◌, arith}
use Rattle.seize_acts.specs.Acts.Answers.{Grant, stepped}
use Rattle.run_schedules.specs.Given.SeizeWordsMem.{Mem}
use Rattle.run_schedules.specs.Given.SeizeWordsPlan.{Plan}
use Rattle.seize_acts.specs.Given.SeizeReclaimAll.{reclaim_all_plan}
use Rattle.seize_acts.specs.Given.SeizeDeclared.rows.reclaim_all.ReclaimAll.{ReclaimAll}
use Rattle.seize_acts.specs.Given.SeizeDeclared.rows.settle.Settled.{Settled}
use Rattle.play_lists.specs.Given.TablesNodes.{deferred_word, was_left}
use Rattle.play_lists.specs.Given.TablesDeclared.node.Node.{Node}
use Rattle.play_lists.specs.Given.EffectsDeclared.changed.Changed.{Changed}
use Rattle.play_lists.specs.Given.EffectsDeclared.changed.Changed.TheVariants.{Nothing as NoChange}
use Rattle.play_lists.specs.Given.ScenesScene.{at_first, slot_of}
use Rattle.play_lists.specs.Given.EffectsKnown.{nothing_known}
use Rattle.run_logged.proofs.Given.MomentsCalls.{whole_begins}
use Rattle.run_logged.proofs.Given.MomentsNumbers.{numbers_begin}
use Rattle.play_lists.proofs.Given.HistoriesDueOn.{dues_begin}
use Rattle.play_lists.proofs.Given.HistoriesQuestions.{questions_begin}
use Rattle.play_lists.proofs.Given.KeptStays.{begins_kept}
use Rattle.play_lists.specs.Given.ActsActs.{Answer}
use Rattle.play_lists.specs.Given.ActsAsSteps.{changed_of}
use Rattle.play_lists.specs.Given.ActsDoings.{HasStepped}
use Rattle.play_lists.specs.Agrees.Fresh.{HasNewNumber}
use Rattle.play_lists.proofs.Agrees.GivenBack.{NumbersComeAgain, numbers_come_again}
use Rattle.run_schedules.specs.Deeds.Deeds.{moment, named}
use Rattle.run_schedules.specs.Deeds.History.{past}
use Rattle.play_lists.specs.Played.Play.{State, all_begun, choice_come, all_stepped, first_state, is_over, is_refusal, settled_outcome}
use Rattle.play_lists.specs.Played.Reached.{IsOf, rows_beside}
use Rattle.play_linear.proofs.Linear.Chosen.{maps_chosen, shows_chosen}
use Rattle.play_lists.proofs.Played.Along.{At, Is, StaysSo, far, held, lists_at}
use Rattle.play_lists.proofs.Played.PlayedAs.{ReclaimedAs, played_as, reclaimed_as}
use Rattle.play_linear.specs.Linear.Coming.{MapsComeAndGo}
use Rattle.play_linear.specs.Linear.Shown.{RefinesAnswers}
use Rattle.play_linear.proofs.Linear.AsideActs.{reclaiming_aside}
use Rattle.play_linear.proofs.Linear.Holding.{AllHolds, acts_come, acts_hold, new_number}
use Rattle.play_linear.proofs.Linear.RowActs.{all_steps_hold}
use Rattle.run_schedules.proofs.Given.General.{same_some}

-- at first
first_shows : {K V : Type 0} (same : K → K → Bool) (roots : ℕ) → RefinesAnswers {K = K} {V = V} same (past []) (moment []) nothing_known (at_first roots)
first_shows {K = K} {V = V} same roots =
    let whole = whole_begins K V same roots named in
    record {
      whole = whole;
      kept = begins_kept K V roots named;
      dues = dues_begin K V same roots named;
      as_called = record { shown = whole.all.shown; each = λ map i u is st there c found. absurd (cc is) };
      questions = questions_begin K V;
    }

module _ {K S : Type 0} (V : Type 0) (same : K → K → Bool) (by_hasher : S → K → ℕ) (hash : ℕ → K → ℕ) (batch_size roots : ℕ) (aborts : ℕ → V) where
  abbrev pub Of : At V same by_hasher hash batch_size roots → State K V S → Type 0
  Of p x = AllHolds same x p.0

  pub first_holds : (p : At V same by_hasher hash batch_size roots) → p.0 ≡ at_first roots → NumbersComeAgain {K = K} {V = V} {S = S} (first_state roots) → Of p (first_state roots)
  first_holds p is again = subst (AllHolds same (first_state roots)) (sym is) (record {
    holds = record { shows = first_shows {K = K} {V = V} same roots; noted = λ on i c has. absurd (cc has); heard = λ on j d has. absurd (cc has); each = tt };
    maps = record {
      count = 0;
      numbers = numbers_begin K V;
      below = record { standing = λ m st has. absurd (cc has); made = λ i b has. absurd (cc has) };
      names = λ k d l. absurd (omega (arith, l));
      coming = λ i b has. absurd (cc has);
      going = λ i e has f ends. absurd (cc has);
    };
    again = again;
  })

  -- a step of who reclaims all, as it is played
  module _ (p n : At V same by_hasher hash batch_size roots) (x y : State K V S) (told : Answer K V) (g : Grant) (st : HasStepped V same by_hasher batch_size roots slot_of g p told n)
      (is : Is V same by_hasher hash batch_size roots aborts p x) where
    abbrev plan_of : ReclaimAll → Plan (Node K V) (ReclaimAll × Settled (Node K V))
    plan_of c = reclaim_all_plan deferred_word was_left c

    abbrev pub change : Changed
    change = changed_of p.0.world.memory g (plan_of st.machine)

    abbrev pub end : Mem (Node K V) × (ReclaimAll × Settled (Node K V))
    end = (st.did.memory, (st.next, st.end))

    pub all_tied : ReclaimedAs same by_hasher batch_size roots aborts x y g → y ≡ all_stepped change x end
    all_tied (c, there, e, came, y_is) =
        y_is ∙ ap (λ (z : ReclaimAll). all_stepped (changed_of x.now.memory g (plan_of z)) x e) one ∙ ap (λ (v : Mem (Node K V)). all_stepped (changed_of v g (plan_of st.machine)) x e) is.scene.memory
        ∙ ap (λ (q : Mem (Node K V) × (ReclaimAll × Settled (Node K V))). all_stepped change x q) one_end
      where
        one : c ≡ st.machine
        one = same_some c st.machine (sym there ∙ is.all ∙ ap (option_map (λ (it : ℕ × ReclaimAll). it.1)) st.here)

        one_end : e ≡ end
        one_end =
            same_some e end
            (sym came ∙ ap (λ (z : ReclaimAll). stepped x.now.memory g (plan_of z)) one ∙ ap (λ (v : Mem (Node K V)). stepped v g (plan_of st.machine)) is.scene.memory ∙ st.did.computed)

  pub all_stay : StaysSo V same by_hasher hash batch_size roots aborts HasNewNumber Of
  all_stay = record {
    acts = λ p n x y act told own fits none none_then is is_then at may led leads at_then played so.
        (let as_played = played_as same by_hasher batch_size roots aborts x y act played in
        let then_again = again.acts p n x y act told own fits none none_then is is_then at may led leads at_then played so.again in
        let of : IsOf by_hasher p.0 p.0.world.row x.now =
        subst (λ (o : Option (ℕ × ReclaimAll)). IsOf by_hasher p.0 (rows_beside o p.0.world.row) x.now) none is.scene in
        record {
          holds = acts_hold same by_hasher hash batch_size roots aborts x y p.0 n.0 (rows_beside (far V same by_hasher hash batch_size roots n) n.0.world.row) of is_then.scene at so.holds so.maps then_again.noted
              told act as_played may led leads at_then;
          maps = acts_come same by_hasher hash batch_size roots aborts x y p.0 n.0 (rows_beside (far V same by_hasher hash batch_size roots n) n.0.world.row) of is_then.scene at so.holds so.maps then_again.noted
              told act (new_number x so.again.numbers act fits) as_played may led leads at_then;
          again = then_again;
        });
    begins = λ p n x i c none begun same_scene all_free is is_then at so.
        (let then_again = again.begins p n x i c none begun same_scene all_free is is_then at so.again in
        subst (AllHolds same (all_begun c x)) (sym same_scene) (record {
          holds = record { shows = so.holds.shows; noted = so.holds.noted; heard = so.holds.heard; each = so.holds.each };
          maps = so.maps;
          again = then_again;
        }));
    steps = λ p n x y told g st is is_then at leads scene played so.
        (let as_played = reclaimed_as same by_hasher batch_size roots aborts x y g played in
        let then_again = again.steps p n x y told g st is is_then at leads scene played so.again in
        let old = held V same by_hasher hash batch_size roots NoChange p in
        let new = held V same by_hasher hash batch_size roots (change p n x y told g st is) n in
        let y_is = all_tied p n x y told g st is as_played in
        record {
          holds = all_steps_hold same hash x y p.0 n.0 old new so.holds then_again.noted st.caller (lists_at V same by_hasher hash batch_size roots p) st.machine st.next st.end at leads st.did.memory y_is scene;
          maps = subst (λ (z : State K V S). MapsComeAndGo (moment z.history) z.known z.now.enders n.0) (sym y_is)
              (reclaiming_aside same hash (moment x.history) x.known x.now.enders p.0 n.0 old new so.holds.shows.whole so.maps st.caller (lists_at V same by_hasher hash batch_size roots p) st.machine st.next st.end at leads scene
              (is_over st.end) (settled_outcome st.end) (is_refusal new.changed));
          again = then_again;
        });
    chooses = λ p n x choice none none_then scene is is_then at so.
        (let then_again = again.chooses p n x choice none none_then scene is is_then at so.again in
        subst (AllHolds same (choice_come choice x)) (sym scene) (record {
          holds = record { shows = shows_chosen same choice (past x.history) (moment x.history) x.known p.0 so.holds.shows; noted = so.holds.noted; heard = so.holds.heard; each = so.holds.each };
          maps = maps_chosen choice (moment x.history) x.known x.now.enders p.0 so.maps;
          again = then_again;
        }));
  }
    where
      again : StaysSo V same by_hasher hash batch_size roots aborts HasNewNumber (λ p x. NumbersComeAgain x)
      again = numbers_come_again V same by_hasher hash batch_size roots aborts
