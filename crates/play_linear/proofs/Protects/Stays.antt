-- So it stays by whatever is done: what left its map in an open section is held by that, unless somebody reclaims all, and no entry reclaims any of it.
use Rattle.std.specs.Prelude.{◌≡◌, ℕ, Bool, [], Option, Some, None}
use Rattle.std.proofs.Common.{◌∷◌, List, ap, sym, subst, ◌∙◌}
use Rattle.seize_acts.specs.Acts.Answers.{Grant}
use Rattle.seize_acts.specs.Given.SeizeReclaimAll.{reclaim_all_plan}
use Rattle.seize_acts.specs.Given.SeizeWorld.{World}
use Rattle.seize_acts.specs.Given.SeizeDeclared.rows.reclaim_all.ReclaimAll.{ReclaimAll}
use Rattle.play_lists.specs.Given.TablesNodes.{deferred_word, was_left}
use Rattle.play_lists.specs.Given.TablesDeclared.node.Node.{Node}
use Rattle.play_lists.specs.Given.EffectsDeclared.changed.Changed.TheVariants.{Nothing as NoChange}
use Rattle.run_schedules.specs.Schedules.After.{AtEachEvent}
use Rattle.run_schedules.specs.Schedules.Moment.{Moment}
use Rattle.run_schedules.specs.Runs.Present.{nobody}
use Rattle.play_lists.specs.Given.EffectsEffects.{effects_of}
use Rattle.play_lists.specs.Given.EffectsKnown.{Known}
use Rattle.play_lists.specs.Given.EffectsDeclared.acting.Acting.TheVariants as acting
use Rattle.play_lists.specs.Given.PromisesSheltered.{AreShelteredOn, GuardsAreOn}
use Rattle.play_lists.specs.Given.ScenesHeld.{IsAt}
use Rattle.play_lists.specs.Given.ScenesScene.{Scene, slot_of}
use Rattle.play_lists.specs.Given.ActsActs.{Act, Answer}
use Rattle.play_lists.specs.Given.ActsAsSteps.{LeadsAs, changed_by, changed_of}
use Rattle.play_lists.specs.Given.ActsDoings.{scene_chosen}
use Rattle.play_lists.specs.Given.ActsLeads.{Led, MayBe}
use Rattle.run_schedules.specs.Deeds.Deeds.{Entry, ReclaimsAll, moment}
use Rattle.run_schedules.specs.Deeds.History.{IsProtected}
use Rattle.play_lists.specs.Played.Play.{State, choice_come, is_over, is_refusal, play_act, settled_outcome}
use Rattle.play_lists.specs.Played.Reached.{IsOf, rows_beside}
use Rattle.play_lists.proofs.Played.Along.{At, Is, StaysSo, far, held}
use Rattle.play_lists.proofs.Played.Noted.{Anything}
use Rattle.play_lists.proofs.Played.PlayedAs.{ReclaimedAs, played_as, reclaimed_as}
use Rattle.play_lists.specs.Agrees.Fresh.{HasNewNumber}
use Rattle.play_lists.specs.Agrees.Guards.{GuardsAgree, UnlessReclaimed}
use Rattle.play_lists.proofs.Agrees.Guards.{GuardsHold, guards_stay, nobody_then, unless}
use Rattle.play_linear.proofs.Linear.Stays.{Of, all_stay}
use Rattle.play_linear.specs.Protects.Shelters.{IsOpen, SectionsShelter}
use Rattle.play_linear.proofs.Protects.After.{protected_so}
use Rattle.play_linear.proofs.Protects.Played.{acts_protect}

-- nobody is there who could shelter anything
nobody_shelters : {K V : Type 0} (m : Moment K V) (known : Known) (w : World (Node K V)) → m.there ≡ nobody → m.sheltered ≡ [] → SectionsShelter m known w
nobody_shelters m known w none nothing = record {
  guards = subst (GuardsAreOn (IsOpen w)) (sym none) (λ own g found. absurd (cc found));
  held = subst (AreShelteredOn (IsOpen w) m.there w known) (sym nothing) tt;
}

module _ {K S : Type 0} (V : Type 0) (same : K → K → Bool) (by_hasher : S → K → ℕ) (hash : ℕ → K → ℕ) (batch_size roots : ℕ) (aborts : ℕ → V) where
  abbrev Stage : Type 0
  Stage = At V same by_hasher hash batch_size roots

  abbrev who : Stage → Option (ℕ × ReclaimAll)
  who p = far V same by_hasher hash batch_size roots p

  -- what is sheltered is held, unless somebody reclaims all, and no entry so far reclaims any of it
  abbrev Shelters : Stage → State K V S → Type 0
  Shelters p x = UnlessReclaimed (who p) (SectionsShelter (moment x.history) x.known p.0.world) × AtEachEvent IsProtected x.history

  -- beside all that a history is linearizable by, and that its guards are the slots within sections
  abbrev pub All : Stage → State K V S → Type 0
  All p x = Of V same by_hasher hash batch_size roots aborts p x × (GuardsHold V same by_hasher hash batch_size roots aborts p x × Shelters p x)

  acts_shelter : (p n : Stage) (x y : State K V S) (act : Act K V S) (told : Answer K V) → who p ≡ None → Is V same by_hasher hash batch_size roots aborts p x
      → IsAt same hash (held V same by_hasher hash batch_size roots NoChange p) p.0 → MayBe same by_hasher batch_size roots slot_of act p.0 → Led same by_hasher batch_size roots slot_of act p.0 told n.0
      → LeadsAs same by_hasher hash act p.0 told n.0 (held V same by_hasher hash batch_size roots NoChange p) (held V same by_hasher hash batch_size roots (changed_by same act p.0) n)
      → play_act same by_hasher batch_size roots aborts act x ≡ Some y → All p x → Shelters n y
  acts_shelter p n x y act told none is at may led leads played (all, (guards, (shelter, each))) =
      let it = acts_protect same by_hasher hash batch_size roots aborts x y p.0 n.0 (subst (λ (o : Option (ℕ × ReclaimAll)). IsOf by_hasher p.0 (rows_beside o p.0.world.row) x.now) none is.scene) at all
      (subst (λ (o : Option (ℕ × ReclaimAll)). UnlessReclaimed o (GuardsAgree x p.0.world.uses)) none guards)
      (subst (λ (o : Option (ℕ × ReclaimAll)). UnlessReclaimed o (SectionsShelter (moment x.history) x.known p.0.world)) none shelter, each) told act
      (played_as same by_hasher batch_size roots aborts x y act played) may led leads in
      (unless (SectionsShelter (moment y.history) y.known n.0.world) (who n) (λ nobody_does. it.0), it.1)

  -- a step of who reclaims all: nothing is sheltered then
  reclaiming_shelters : (p n : Stage) (x y : State K V S) (g : Grant) → Is V same by_hasher hash batch_size roots aborts n y → ReclaimedAs same by_hasher batch_size roots aborts x y g → All p x → Shelters n y
  reclaiming_shelters p n x y g is_then it (all, (guards, (shelter, each))) =
      let change = changed_of x.now.memory g (reclaim_all_plan deferred_word was_left it.0) in
      let e : Entry K V = record { deed = ReclaimsAll (is_over it.2.1.1); outcome = settled_outcome it.2.1.1; effects = effects_of acting.Row x.known change; refused = is_refusal change } in
      let history : y.history ≡ e ∷ x.history = ap (λ (z : State K V S). z.history) it.4 in (
        unless (SectionsShelter (moment y.history) y.known n.0.world) (who n)
            (λ none. nobody_shelters (moment y.history) y.known n.0.world (nobody_then V same by_hasher hash batch_size roots aborts n x y g is_then none it) (ap (λ (log : List (Entry K V)). (moment log).sheltered) history)),
        subst (AtEachEvent IsProtected) (sym history) (protected_so e x.history tt, each),
      )

  -- a choice comes: sections are those that they were
  choice_shelters : (p n : Stage) (x : State K V S) (choice : ℕ) → who p ≡ None → n.0 ≡ scene_chosen choice p.0 → All p x → Shelters n (choice_come choice x)
  choice_shelters p n x choice none scene (all, (guards, (shelter, each))) =
      let was = subst (λ (o : Option (ℕ × ReclaimAll)). UnlessReclaimed o (SectionsShelter (moment x.history) x.known p.0.world)) none shelter in
      let so : SectionsShelter (moment x.history) x.known (scene_chosen choice p.0).world = record { guards = was.guards; held = was.held } in
      (unless (SectionsShelter (moment x.history) x.known n.0.world) (who n) (λ nobody_does. subst (λ (s : Scene K V). SectionsShelter (moment x.history) x.known s.world) (sym scene) so), each)

  pub all_protect : StaysSo V same by_hasher hash batch_size roots aborts HasNewNumber All
  all_protect = record {
    acts = λ p n x y act told own fits none none_then is is_then at may led leads at_then played here. (
      linear.acts p n x y act told own fits none none_then is is_then at may led leads at_then played here.0,
      (guards.acts p n x y act told own tt none none_then is is_then at may led leads at_then played here.1.0, acts_shelter p n x y act told none is at may led leads played here),
    );
    begins = λ p n x i c none begun same_scene all_free is is_then at here. (
      linear.begins p n x i c none begun same_scene all_free is is_then at here.0,
      (
        guards.begins p n x i c none begun same_scene all_free is is_then at here.1.0,
        (unless (SectionsShelter (moment x.history) x.known n.0.world) (who n) (λ nobody_does. absurd (let both : None ≡ Some (i, c) = sym nobody_does ∙ begun in cc both)), here.1.1.1),
      ),
    );
    steps = λ p n x y told g st is is_then at leads scene played here. (
      linear.steps p n x y told g st is is_then at leads scene played here.0,
      (
        guards.steps p n x y told g st is is_then at leads scene played here.1.0,
        reclaiming_shelters p n x y g is_then (reclaimed_as same by_hasher batch_size roots aborts x y g played) here,
      ),
    );
    chooses = λ p n x choice none none_then scene is is_then at here. (
      linear.chooses p n x choice none none_then scene is is_then at here.0,
      (guards.chooses p n x choice none none_then scene is is_then at here.1.0, choice_shelters p n x choice none scene here),
    );
  }
    where
      linear : StaysSo V same by_hasher hash batch_size roots aborts HasNewNumber (Of V same by_hasher hash batch_size roots aborts)
      linear = all_stay V same by_hasher hash batch_size roots aborts

      guards : StaysSo V same by_hasher hash batch_size roots aborts (Anything V same by_hasher hash batch_size roots aborts) (GuardsHold V same by_hasher hash batch_size roots aborts)
      guards = guards_stay V same by_hasher hash batch_size roots aborts
