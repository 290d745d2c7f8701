-- By each act the entry that it makes finds what it must, if it is one of who acts on slots or makes a map, and all is in order as it comes.
use Rattle.std.specs.Prelude.{◌≡◌, ℕ, Bool, true, false, List, ◌∷◌, None, if◌then◌else◌, is_ok}
use Rattle.std.proofs.Common.{ap, sym, subst, ◌∙◌}
use Rattle.seize_acts.specs.Acts.Answers.{Grant}
use Rattle.seize_acts.specs.Given.SeizeWorld.{Row}
use Rattle.seize_acts.specs.Given.SeizeDeclared.rows.settle.Settled.{Settled}
use Rattle.run_legal.specs.Given.TablesDeclared.node.Node.{Node}
use Rattle.run_schedules.specs.Given.RawMachine.{machine_asked, machine_replied}
use Rattle.run_schedules.specs.Schedules.After.{AtEachEvent}
use Rattle.run_schedules.specs.Schedules.Effects.{AtEachEffect}
use Rattle.run_schedules.specs.Schedules.Terms.{Terms}
use Rattle.run_schedules.specs.declared.effect.Effect.{Effect}
use Rattle.run_schedules.specs.declared.outcome.Outcome.{Outcome}
use Rattle.run_legal.specs.Given.EffectsDeclared.changed.Changed.{Changed}
use Rattle.run_legal.specs.Given.EffectsDeclared.changed.Changed.TheVariants.{Nothing as NoChange}
use Rattle.run_legal.specs.Given.EffectsEffects.{effects_of}
use Rattle.run_legal.specs.Given.EffectsDeclared.acting.Acting.TheVariants as acts
use Rattle.run_legal.specs.Given.ScenesHeld.{Held, IsAt}
use Rattle.run_legal.specs.Given.ScenesScene.{IsOnSlot, Scene, row_of, slot_of}
use Rattle.run_legal.specs.Given.ScenesDeclared.row.RowTold.{RowTold}
use Rattle.threads_rule.specs.Given.ActsActs.{Act, Answer, BeginsCall, StepsCall, TellsCall, AsksCall, StopsCall, BeginsMaking, StepsMaking, BeginsEnding, StepsEnding, BeginsRow, StepsRow}
use Rattle.play_linear.specs.Given.ActsAsSteps.{LeadsAs, changed_by, held_in, row_changed, outcome_of_row_step}
use Rattle.play_linear.specs.Given.ActsLeads.{Led, MayBe}
use Rattle.run_schedules.specs.Deeds.Deeds.{Deed, Ends, Entry, Leaves, MapGoes, Opens, ReclaimsAll, Registers, Shuts, Tends, moment}
use Rattle.run_schedules.specs.Deeds.History.{FindsBy, transition}
use Rattle.play_linear.specs.Given.PlayedPlay.{Ending, State, ending_deed, is_over, is_refusal, row_deed, row_outcome, row_stepped}
use Rattle.play_linear.specs.Given.PlayedReached.{IsOf, row_or_rests}
use Rattle.play_linear.proofs.Given.PlayedPlayedAs.{PlayedAs}
use Rattle.play_linear.proofs.Linear.Holding.{AllHolds}
use Rattle.play_linear.proofs.Linear.RowsPlayed.{IsOfRow, is_of_row}
use Rattle.play_moves.specs.EachMoves.Finds.{FindsIts, IsOfOthers, OthersFind}
use Rattle.play_moves.specs.EachMoves.Places.{OpensFor}
use Rattle.play_moves.proofs.EachMoves.Buckets.{BucketsHold}
use Rattle.play_moves.proofs.Moves.MadeHolds.{MadeHolds}
use Rattle.play_moves.proofs.Moves.MakesFind.{makes_find}
use Rattle.play_moves.proofs.EachMoves.Needed.{row_needs}
use Rattle.play_moves.proofs.Moves.RowFinds.{row_finds}

-- what who acts on slots, or reclaims all, finds, is what the entry finds
pub rows_its : {K V : Type 0} (terms : Terms) (log : List (Entry K V)) (d : Deed K V) → IsOfRow d → (o : Outcome V) (fs : List Effect) (refused : Bool) → (let e : Entry K V = record { deed = d; outcome = o; effects = fs; refused = refused } in
    AtEachEffect (FindsBy terms log d (transition log e)) None None fs (moment log) → FindsIts terms log e)
rows_its terms log (Registers s) is o fs refused finds = finds
rows_its terms log (Opens s) is o fs refused finds = finds
rows_its terms log (Shuts s) is o fs refused finds = finds
rows_its terms log (Leaves s) is o fs refused finds = finds
rows_its terms log (Tends s) is o fs refused finds = finds
rows_its terms log (ReclaimsAll last) is o fs refused finds = finds
rows_its terms log _ is o fs refused finds = absurd is

abbrev pub AllFind : {K V S : Type 0} → Terms → State K V S → Type 0
AllFind terms x = AtEachEvent (OthersFind terms) x.history

module _ (K V : Type 0) where
  -- no entry more, or one of nobody else
  taken_or_not : (terms : Terms) (q : Bool) (e : Entry K V) (log : List (Entry K V)) → (IsOfOthers e.deed → ⊥) → AtEachEvent (OthersFind terms) log → AtEachEvent (OthersFind terms) (if q then e ∷ log else log)
  taken_or_not terms true e log not each = ((λ of order. absurd (not of)), each)
  taken_or_not terms false e log not each = each

  end_is_none : {T : Type 0} (f : Ending) (told : Settled T) → IsOfOthers {K = K} {V = V} (ending_deed f told) → ⊥
  end_is_none f told = by (is_over told)
    where
      by : (q : Bool) → IsOfOthers {K = K} {V = V} (if q then MapGoes f.map else Ends f.map) → ⊥
      by true of = of
      by false of = of

module _ {K V S : Type 0} (same : K → K → Bool) (by_hasher : S → K → ℕ) (hash : ℕ → K → ℕ) (batch_size roots : ℕ) (aborts : ℕ → V) (x y : State K V S) (s n : Scene K V) (is : IsOf by_hasher s s.world.row x.now)
    (at : IsAt same hash (held_in batch_size roots NoChange s) s) (all : AllHolds same x s) (made : MadeHolds x) (buckets : BucketsHold x) (opens : OpensFor s) (told : Answer K V) (terms : Terms) (each : AllFind terms x) where
  abbrev old : Held K V
  old = held_in batch_size roots NoChange s

  abbrev then_held : Act K V S → Held K V
  then_held act = held_in batch_size roots (changed_by same act s) n

  abbrev Played : Act K V S → Type 0
  Played act = PlayedAs same by_hasher batch_size roots aborts x y act

  abbrev Leads : Act K V S → Type 0
  Leads act = Led same by_hasher batch_size roots slot_of act s told n

  abbrev Goes : Act K V S → Type 0
  Goes act = LeadsAs same by_hasher hash act s told n old (then_held act)

  row_steps : (i : ℕ) (g : Grant) → MayBe same by_hasher batch_size roots slot_of (StepsRow i g) s → Played (StepsRow i g) → Goes (StepsRow i g) → AllFind terms y
  row_steps i g may (row, row_is, end, came, y_is) (leads, goes) =
      let new = then_held (StepsRow i g) in
      let there : s.world.row i ≡ row_of row = sym (is.between i may.0) ∙ ap row_or_rests row_is in
      let here : IsOnSlot s i row = (may.0, there) in
      let change : row_changed (row_of row) g x.now.memory ≡ new.changed = ap (row_changed (row_of row) g) is.memory ∙ ap (λ (r : Row). row_changed r g s.world.memory) (sym there) in
      let said : RowTold (Node K V) = outcome_of_row_step (s.world.row i) g s.world.memory in
      let finds = row_finds same hash x s old new at all.holds.shows i said leads (row_outcome end.1.1) terms row here (row_needs same hash x s old new at is.memory buckets i said leads row here) in
      subst (AllFind terms) (sym (y_is ∙ ap (λ (c : Changed). row_stepped i row c x end) change))
      ((λ of order. rows_its terms x.history (row_deed row) (is_of_row K V row) (row_outcome end.1.1) (effects_of acts.Row x.known new.changed) (is_refusal new.changed) finds), each)

  making_steps : (i : ℕ) (g : Grant) → Played (StepsMaking i g) → Leads (StepsMaking i g) → Goes (StepsMaking i g) → AllFind terms y
  making_steps i g played led leads =
      let found = makes_find same by_hasher hash batch_size roots aborts x y s n is at all.holds all.maps made opens told terms i g played led leads in
      subst (AtEachEvent (OthersFind terms)) (sym found.1) ((λ of order. found.2), each)

  pub acts_find : (act : Act K V S) → Played act → MayBe same by_hasher batch_size roots slot_of act s → Leads act → Goes act → AllFind terms y
  acts_find (BeginsCall i m wanted) (set, there, y_is) may led leads = subst (AllFind terms) (sym y_is) ((λ of order. absurd of), each)
  acts_find (StepsCall i m g) (set, there, (c, has, end, came, y_is)) may led leads = subst (AllFind terms) (sym y_is) ((λ of order. absurd of), each)
  acts_find (TellsCall i m reply) (c, has, y_is) may led leads =
      subst (AllFind terms) (sym y_is) (taken_or_not K V terms (is_ok (machine_replied c.machine reply).1) _ x.history (λ of. of) each)
  acts_find (AsksCall i m) (c, has, y_is) may led leads = subst (AllFind terms) (sym y_is) each
  acts_find (StopsCall i m) (c, has, y_is) may led leads = subst (AllFind terms) (sym y_is) (taken_or_not K V terms (machine_asked c.machine).1 _ x.history (λ of. of) each)
  acts_find (BeginsMaking i map hasher given places) y_is may led leads = subst (AllFind terms) (sym y_is) each
  acts_find (StepsMaking i g) played may led leads = making_steps i g played led leads
  acts_find (BeginsEnding i m) (set, there, y_is) may led leads = subst (AllFind terms) (sym y_is) each
  acts_find (StepsEnding i g) (f, has, end, came, y_is) may led leads =
      subst (AllFind terms) (sym y_is) ((λ of order. absurd (end_is_none K V f end.1.1 of)), each)
  acts_find (BeginsRow i request) (called, there, y_is) may led leads = subst (AllFind terms) (sym y_is) each
  acts_find (StepsRow i g) played may led leads = row_steps i g may played leads
