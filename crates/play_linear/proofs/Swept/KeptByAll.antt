-- What stays so by each kind of step stays so by each act, as it is played, and where a caller that reclaims all takes a step; so it is wherever a list of acts has led.
use Rattle.std.specs.Prelude.{◌≡◌, ℕ, Bool, List, Option, None}
use Rattle.std.proofs.Common.{ap, sym, subst, ◌∙◌}
use Rattle.seize_acts.specs.Acts.Answers.{Grant}
use Rattle.seize_acts.specs.Given.SeizeWorld.{Request, Row}
use Rattle.seize_acts.specs.Given.SeizeDeclared.rows.reclaim_all.ReclaimAll.{ReclaimAll}
use Rattle.play_lists.specs.Given.EffectsDeclared.changed.Changed.TheVariants.{Nothing as NoChange}
use Rattle.play_lists.specs.Given.ScenesHeld.{Held, IsAt}
use Rattle.play_lists.specs.Given.ScenesScene.{HasNoCall, IsOnSlot, Scene, row_of, slot_of}
use Rattle.play_lists.specs.Given.EffectsKnown.{Known}
use Rattle.play_lists.specs.Given.ActsActs.{Act, Answer, BeginsCall, StepsCall, TellsCall, AsksCall, StopsCall, BeginsMaking, StepsMaking, BeginsEnding, StepsEnding, BeginsRow, StepsRow}
use Rattle.play_lists.specs.Given.ActsAsSteps.{LeadsAs, changed_by, held_in, row_changed, outcome_of_row_step}
use Rattle.play_lists.specs.Given.ActsLeads.{Led, MayBe}
use Rattle.play_lists.specs.Agrees.Fresh.{HasNewNumber}
use Rattle.run_schedules.specs.Deeds.Deeds.{Entry}
use Rattle.play_lists.specs.Played.Play.{State, all_stepped, row_outcome, row_stepped}
use Rattle.play_lists.specs.Played.Reached.{IsOf, row_or_rests, rows_beside}
use Rattle.play_lists.proofs.Played.Along.{At, Is, StaysSo, far, held, lists_at}
use Rattle.play_lists.proofs.Played.Noted.{CallsAreNoted}
use Rattle.play_lists.proofs.Played.PlayedAs.{PlayedAs, played_as, reclaimed_as}
use Rattle.play_linear.proofs.Linear.Holding.{AllHolds, ending_so, making_so}
use Rattle.play_linear.proofs.Linear.Stays.{Of, all_stay, all_tied, change, end}
use Rattle.play_linear.proofs.Swept.Kept.{IsKept, Now}
use Rattle.play_linear.proofs.Swept.KeptByCalls.{asks_kept, begins_kept, steps_kept, stops_kept, told_kept}
use Rattle.play_linear.proofs.Swept.KeptByMaps.{end_begins_kept, ending_steps_kept, making_begins_kept, making_steps_kept}

module _ {K V S : Type 0} (same : K → K → Bool) (by_hasher : S → K → ℕ) (hash : ℕ → K → ℕ) (batch_size roots : ℕ) (aborts : ℕ → V) (R P : List (Entry K V) → Known → Scene K V → Type 0)
    (kept : IsKept same hash R P) (x y : State K V S) (s n : Scene K V)
    (is : IsOf by_hasher s s.world.row x.now) (rows2 : ℕ → Row) (is_then : IsOf by_hasher n rows2 y.now) (at : IsAt same hash (held_in batch_size roots NoChange s) s) (all : AllHolds same x s) (noted_then : CallsAreNoted y)
    (other : R x.history x.known s) (so : P x.history x.known s) (told : Answer K V) where
  abbrev old : Held K V
  old = held_in batch_size roots NoChange s

  abbrev then_held : Act K V S → Held K V
  then_held act = held_in batch_size roots (changed_by same act s) n

  abbrev Then : Type 0
  Then = Now same hash R P y.history y.known n

  row_begins_kept : (i : ℕ) (request : Request) → PlayedAs same by_hasher batch_size roots aborts x y (BeginsRow i request)
      → LeadsAs same by_hasher hash (BeginsRow i request) s told n old (then_held (BeginsRow i request)) → Then
  row_begins_kept i request (its, there, y_is) (called, request_is, leads, n_is) =
      let then_so = kept.rows_begin x.history x.known s old (then_held (BeginsRow i request)) at all.holds.shows other so called i leads in
      subst (λ (q : State K V S). Now same hash R P q.history q.known n) (sym y_is) (subst (Now same hash R P x.history x.known) (sym n_is) then_so)

  row_steps_kept : (i : ℕ) (g : Grant) → HasNoCall s i → PlayedAs same by_hasher batch_size roots aborts x y (StepsRow i g)
      → LeadsAs same by_hasher hash (StepsRow i g) s told n old (then_held (StepsRow i g)) → Then
  row_steps_kept i g no_call (row, row_is, end, came, y_is) (leads, goes) =
      let new = then_held (StepsRow i g) in
      let there : s.world.row i ≡ row_of row = sym (is.between i no_call) ∙ ap row_or_rests row_is in
      let here : IsOnSlot s i row = (no_call, there) in
      let said = outcome_of_row_step (s.world.row i) g s.world.memory in
      let change : row_changed (row_of row) g x.now.memory ≡ new.changed = ap (row_changed (row_of row) g) is.memory ∙ ap (λ (r : Row). row_changed r g s.world.memory) (sym there) in
      let z : State K V S = row_stepped i row new.changed x end in
      let z_is : y ≡ z = y_is ∙ ap (λ c. row_stepped i row c x end) change in
      subst (λ (q : State K V S). Now same hash R P q.history q.known n) (sym z_is)
      (subst (Now same hash R P z.history z.known) (sym (goes row here)) (kept.rows_step x.history x.known s old new at all.holds.shows other so i said leads row here (row_outcome end.1.1)))

  pub acts_kept : (act : Act K V S) → HasNewNumber x act → PlayedAs same by_hasher batch_size roots aborts x y act → MayBe same by_hasher batch_size roots slot_of act s
      → Led same by_hasher batch_size roots slot_of act s told n → LeadsAs same by_hasher hash act s told n old (then_held act) → IsAt same hash (then_held act) n → Then
  acts_kept (BeginsCall i map wanted) fits played may led leads at2 =
      begins_kept same by_hasher hash batch_size roots aborts R P kept x y s n s.world.row is NoChange at all.holds other so told i map wanted played may leads
  acts_kept (StepsCall i map g) fits played may led leads at2 = steps_kept same by_hasher hash batch_size roots aborts R P kept x y s n s.world.row is NoChange at all.holds other so told i map g played led leads
  acts_kept (TellsCall i map reply) fits played may led leads at2 =
      told_kept same by_hasher hash batch_size roots aborts R P kept x y s n s.world.row is NoChange at all.holds other so told i map reply played led at2
  acts_kept (AsksCall i map) fits played may led leads at2 = asks_kept same by_hasher hash batch_size roots aborts R P kept x y s n s.world.row is NoChange at all.holds other so told i map played led leads
  acts_kept (StopsCall i map) fits played may led leads at2 = stops_kept same by_hasher hash batch_size roots aborts R P kept x y s n s.world.row is NoChange at all.holds other so told i map played led leads
  acts_kept (BeginsMaking i map hasher given places) fits played may led leads at2 =
      making_begins_kept same by_hasher hash batch_size roots aborts R P kept x y s n s.world.row is NoChange at all.holds noted_then other so told i map hasher given places (all.again.numbers.fresh map fits) may played leads
  acts_kept (StepsMaking i g) fits played may led leads at2 =
      making_steps_kept same by_hasher hash batch_size roots aborts R P kept x y s n s.world.row is NoChange at all.holds noted_then other so told i g played led leads at2
      (making_so same by_hasher hash batch_size roots aborts x y s n rows2 is is_then at all.holds all.maps noted_then told i g leads)
  acts_kept (BeginsEnding i map) fits played may led leads at2 =
      end_begins_kept same by_hasher hash batch_size roots aborts R P kept x y s n s.world.row is NoChange at all.holds noted_then other so told i map may played leads
  acts_kept (StepsEnding i g) fits played may led leads at2 =
      ending_steps_kept same by_hasher hash batch_size roots aborts R P kept x y s n s.world.row is NoChange at all.holds noted_then other so told i g played led leads at2
      (ending_so same by_hasher hash batch_size roots aborts x y s n rows2 is is_then at all.holds all.maps noted_then told i g led leads)
  acts_kept (BeginsRow i request) fits played may led leads at2 = row_begins_kept i request played leads
  acts_kept (StepsRow i g) fits played may led leads at2 = row_steps_kept i g may.0 played leads

-- So it stays wherever a list leads, if more is asked of acts by which something stays so, too, that gives what else is to be so where nobody reclaims all.
module _ {K S : Type 0} (V : Type 0) (same : K → K → Bool) (by_hasher : S → K → ℕ) (hash : ℕ → K → ℕ) (batch_size roots : ℕ) (aborts : ℕ → V) (R P : List (Entry K V) → Known → Scene K V → Type 0)
    (kept : IsKept same hash R P) (More : State K V S → Act K V S → Type 0) (Q : At V same by_hasher hash batch_size roots → State K V S → Type 0) where
  abbrev Stays : (State K V S → Act K V S → Type 0) → (At V same by_hasher hash batch_size roots → State K V S → Type 0) → Type 0
  Stays Fits So = StaysSo V same by_hasher hash batch_size roots aborts Fits So

  abbrev pub Fit : State K V S → Act K V S → Type 0
  Fit x act = HasNewNumber x act × More x act

  abbrev pub With : At V same by_hasher hash batch_size roots → State K V S → Type 0
  With p x = AllHolds same x p.0 × (Q p x × P x.history x.known p.0)

  abbrev pub Gives : Type 0
  Gives =
      (p : At V same by_hasher hash batch_size roots) (x : State K V S) → far V same by_hasher hash batch_size roots p ≡ None → Is V same by_hasher hash batch_size roots aborts p x → IsAt same hash (held V same by_hasher hash batch_size roots NoChange p) p.0
      → AllHolds same x p.0 → Q p x → R x.history x.known p.0

  pub all_kept : Stays More Q → Gives → Stays Fit With
  all_kept rest gives = record {
    acts = λ p n x y act told own fits none none_then is is_then at may led leads at_then played here.
        (let then_all = linear.acts p n x y act told own fits.0 none none_then is is_then at may led leads at_then played here.0 in
        let of : IsOf by_hasher p.0 p.0.world.row x.now =
        subst (λ (o : Option (ℕ × ReclaimAll)). IsOf by_hasher p.0 (rows_beside o p.0.world.row) x.now) none is.scene in (
          then_all,
          (
            rest.acts p n x y act told own fits.1 none none_then is is_then at may led leads at_then played here.1.0,
            acts_kept same by_hasher hash batch_size roots aborts R P kept x y p.0 n.0 of (rows_beside (far V same by_hasher hash batch_size roots n) n.0.world.row) is_then.scene at here.0 then_all.holds.noted
                (gives p x none is at here.0 here.1.0) here.1.1 told act fits.0 (played_as same by_hasher batch_size roots aborts x y act played) may led leads at_then then_all.holds.shows,
          ),
        ));
    begins = λ p n x i c none begun same_scene all_free is is_then at here. (
      linear.begins p n x i c none begun same_scene all_free is is_then at here.0,
      (rest.begins p n x i c none begun same_scene all_free is is_then at here.1.0, subst (P x.history x.known) (sym same_scene) here.1.1),
    );
    steps = λ p n x y told g st is is_then at leads scene played here.
        (let as_played = reclaimed_as same by_hasher batch_size roots aborts x y g played in
        let old = held V same by_hasher hash batch_size roots NoChange p in
        let new = held V same by_hasher hash batch_size roots (change V same by_hasher hash batch_size roots aborts p n x y told g st is) n in
        let z : State K V S = all_stepped new.changed x (end V same by_hasher hash batch_size roots aborts p n x y told g st is) in
        let y_is : y ≡ z = all_tied V same by_hasher hash batch_size roots aborts p n x y told g st is as_played in
        let then_all = linear.steps p n x y told g st is is_then at leads scene played here.0 in (
          then_all,
          (
            rest.steps p n x y told g st is is_then at leads scene played here.1.0,
            subst (λ (q : State K V S). Now same hash R P q.history q.known n.0) (sym y_is)
                (subst (Now same hash R P z.history z.known) (sym scene)
                (kept.all_step x.history x.known p.0 old new here.0.holds.shows here.1.1 st.caller (lists_at V same by_hasher hash batch_size roots p) st.machine st.next st.end at leads)) then_all.holds.shows,
          ),
        ));
    chooses = λ p n x choice none none_then scene is is_then at here.
        (let then_all = linear.chooses p n x choice none none_then scene is is_then at here.0 in (
          then_all,
          (
            rest.chooses p n x choice none none_then scene is is_then at here.1.0,
            subst (Now same hash R P x.history x.known) (sym scene) (kept.choices_come x.history x.known p.0 here.0.holds.shows here.1.1 choice) then_all.holds.shows,
          ),
        ));
  }
    where
      linear : Stays HasNewNumber (Of V same by_hasher hash batch_size roots aborts)
      linear = all_stay V same by_hasher hash batch_size roots aborts
