-- The effects of a step of a row on a slot, as it is played, find what they must: what is reclaimed was handed over, or retired; and a bucket of slots is asked for by who needs it.
use Rattle.std.specs.Prelude.{◌≡◌, ◌||◌, ℕ, Bool, true, false, List, [], ◌∷◌, None}
use Rattle.std.specs.List.{list_all, list_any}
use Rattle.std.proofs.Common.{refl, ap, sym, subst}
use Rattle.std.proofs.lemmas.Bool.{and_parts}
use Rattle.seize_acts.specs.Given.SeizeDeclared.rows.leave.Leave.{Leave}
use Rattle.seize_acts.specs.Given.SeizeDeclared.rows.leave.Leaving.{Leaving}
use Rattle.seize_acts.specs.Given.SeizeDeclared.rows.leave.Leaving.TheVariants as leaving
use Rattle.seize_acts.specs.Given.SeizeDeclared.rows.register.Register.{Register}
use Rattle.seize_acts.specs.Given.SeizeDeclared.rows.register.Registering.{Registering}
use Rattle.seize_acts.specs.Given.SeizeDeclared.rows.register.Registering.TheVariants as registering
use Rattle.run_legal.specs.Given.TablesDeclared.node.Node.{Node}
use Rattle.run_schedules.specs.declared.effect.Effect.{Effect}
use Rattle.run_schedules.specs.declared.effect.Effect.TheVariants.{Asked}
use Rattle.run_schedules.specs.declared.effect.Growth.TheVariants.{ABucket}
use Rattle.run_schedules.specs.declared.outcome.Outcome.{Outcome}
use Rattle.run_schedules.specs.Schedules.Effects.{AtEachEffect, with_effect}
use Rattle.run_schedules.specs.Schedules.Handing.{asks_for_bucket, is_reclaiming}
use Rattle.run_schedules.specs.Schedules.Lives.{Finds}
use Rattle.run_schedules.specs.Schedules.Moment.{Moment}
use Rattle.run_schedules.specs.Schedules.Terms.{Terms}
use Rattle.run_schedules.specs.Schedules.Transition.{Transition}
use Rattle.run_legal.specs.Given.EffectsDeclared.changed.Changed.TheVariants as changed
use Rattle.run_legal.specs.Given.EffectsEffects.{effects_of}
use Rattle.run_legal.specs.Given.EffectsDeclared.acting.Acting.TheVariants as acts
use Rattle.run_legal.specs.Given.ScenesHeld.{Held, IsAt}
use Rattle.run_legal.specs.Given.ScenesOnSlots.{RowLeads, RowSteps}
use Rattle.run_legal.specs.Given.ScenesScene.{IsOnSlot, Scene}
use Rattle.run_legal.specs.Given.ScenesDeclared.row.RowTold.{RowTold}
use Rattle.run_legal.specs.Given.ScenesDeclared.row.SlotRow.{SlotRow}
use Rattle.run_legal.specs.Given.ScenesDeclared.row.SlotRow.TheVariants as rows
use Rattle.run_legal.proofs.Found.{rows_find_theirs}
use Rattle.run_legal.proofs.Given.FindsLife.{each_so}
use Rattle.run_legal.proofs.Works.Needs.{none_need, reclaiming_asks_none}
use Rattle.run_legal.proofs.Given.NeedsSteps.{IsNoOwn, asks_alone, does_nothing, enters_tell, frees_tell, registers_tell, takes_no_own}
use Rattle.run_schedules.specs.Deeds.Deeds.{Deed, Entry, Leaves, Opens, Registers, Shuts, Tends, moment, named}
use Rattle.run_schedules.specs.Deeds.History.{FindsBy, NeedsBucket, buckets, past, transition}
use Rattle.play_linear.specs.Given.PlayedPlay.{State, is_refusal, leaves_as, registers_as, row_deed}
use Rattle.play_linear.specs.Linear.Shown.{RefinesAnswers}
use Rattle.play_moves.proofs.EachMoves.Parts.{all_also}
use Rattle.play_moves.proofs.EachMoves.RowKinds.{ends_quietly, enters_quietly, flushes_reclaim, left_quietly, leaves_reclaim}

-- what asks for buckets finds that they are needed
module _ {K V : Type 0} (terms : Terms) (log : List (Entry K V)) (slot : ℕ) (t : Transition K V) where
  one_asks : (f : Effect) (v : Moment K V) → asks_for_bucket f ≡ true → NeedsBucket slot (buckets log) → FindsBy terms log (Registers slot) t v f
  one_asks (Asked ABucket) v is needs = needs
  one_asks _ v is needs = absurd (cc is)

  all_ask : (fs : List Effect) (v : Moment K V) → list_all asks_for_bucket fs ≡ true → (list_any asks_for_bucket fs ≡ true → NeedsBucket slot (buckets log))
      → AtEachEffect (FindsBy terms log (Registers slot) t) None None fs v
  all_ask [] v all needs = tt
  all_ask (f ∷ fs) v all needs =
      let both = and_parts (asks_for_bucket f) (list_all asks_for_bucket fs) all in
      let need : NeedsBucket slot (buckets log) = needs (ap (λ (q : Bool). q || list_any asks_for_bucket fs) both.0) in
      (one_asks f v both.0 need, all_ask fs (with_effect None None f v) both.1 (λ some. need))

module _ {K V S : Type 0} (same : K → K → Bool) (hash : ℕ → K → ℕ) (x : State K V S) (s : Scene K V) (old new : Held K V) (at : IsAt same hash old s)
    (all : RefinesAnswers same (past x.history) (moment x.history) x.known s) (i : ℕ) (said : RowTold (Node K V)) (leads : RowLeads same hash i said s old new) (o : Outcome V) (terms : Terms) where
  abbrev m : Moment K V
  m = moment x.history

  abbrev effects : List Effect
  effects = effects_of acts.Row x.known new.changed

  abbrev entry : Deed K V → Entry K V
  entry d = record { deed = d; outcome = o; effects = effects; refused = is_refusal new.changed }

  abbrev pub FindsRow : Deed K V → Type 0
  FindsRow d = AtEachEffect (FindsBy terms x.history d (transition x.history (entry d))) None None effects m

  none_find : (d : Deed K V) → effects ≡ [] → FindsRow d
  none_find d none = subst (λ (fs : List Effect). AtEachEffect (FindsBy terms x.history d (transition x.history (entry d))) None None fs m) (sym none) tt

  module _ (row : SlotRow) (here : IsOnSlot s i row) where
    reclaimed : list_all is_reclaiming effects ≡ true → AtEachEffect (Finds terms None None false []) None None effects m
    reclaimed back =
        rows_find_theirs K V same hash named m x.known s old new at all.whole all.kept i said leads row here terms
        (all_also is_reclaiming (λ f. is_reclaiming f || asks_for_bucket f) (λ f is. ap (λ (q : Bool). q || asks_for_bucket f) is) effects back) (none_need is_reclaiming reclaiming_asks_none effects m back)

    left_find : (slot : ℕ) → list_all is_reclaiming effects ≡ true → FindsRow (Leaves slot)
    left_find slot back = each_so (Finds terms None None false []) (FindsBy terms x.history (Leaves slot) (transition x.history (entry (Leaves slot)))) (λ v f its. its) None None effects m (reclaimed back)

    tended_find : (slot : ℕ) → list_all is_reclaiming effects ≡ true → FindsRow (Tends slot)
    tended_find slot back = each_so (Finds terms None None false []) (FindsBy terms x.history (Tends slot) (transition x.history (entry (Tends slot)))) (λ v f its. its) None None effects m (reclaimed back)

  module _ (known_own : (row : SlotRow) (here : IsOnSlot s i row) (b : ℕ) → new.changed ≡ changed.Took b → IsNoOwn (x.known.roles b)) where
    leaves_find : (c : Leave) (here : IsOnSlot s i (rows.Leaves c)) → RowSteps K V (rows.Leaves c) old.memory new.memory new.changed ((leads (rows.Leaves c) here).0, said) → (p : Leaving) → c.stands ≡ p
        → FindsRow (leaves_as c p)
    leaves_find c here steps p is =
        by p is
        (left_find (rows.Leaves c) here c.slot
        (leaves_reclaim old.memory new.memory new.changed ((leads (rows.Leaves c) here).0, said) x.known (known_own (rows.Leaves c) here) c steps))
      where
        by : (p : Leaving) → c.stands ≡ p → FindsRow (Leaves c.slot) → FindsRow (leaves_as c p)
        by leaving.Swaps is find = none_find (Shuts c.slot) (ends_quietly old.memory new.memory new.changed ((leads (rows.Leaves c) here).0, said) x.known c steps is)
        by leaving.Over is find = none_find (leaves_as c leaving.Over) (left_quietly old.memory new.memory new.changed ((leads (rows.Leaves c) here).0, said) x.known c steps is)
        by _ is find = find

    registers_find : (c : Register) (here : IsOnSlot s i (rows.Registers c)) → RowSteps K V (rows.Registers c) old.memory new.memory new.changed ((leads (rows.Registers c) here).0, said)
        → (list_any asks_for_bucket effects ≡ true → NeedsBucket c.slot (buckets x.history)) → (p : Registering) → c.stands ≡ p → FindsRow (registers_as p c.slot)
    registers_find c here steps needs p is =
        by p is
        (all_ask terms x.history c.slot (transition x.history (entry (Registers c.slot))) effects m
        (asks_alone x.known new.changed (registers_tell old.memory new.memory new.changed ((leads (rows.Registers c) here).0, said) c steps)) needs)
      where
        by : (p : Registering) → c.stands ≡ p → FindsRow (Registers c.slot) → FindsRow (registers_as p c.slot)
        by registering.Enter is find = none_find (Opens c.slot) (enters_quietly old.memory new.memory new.changed ((leads (rows.Registers c) here).0, said) x.known c steps is)
        by _ is find = find

    finds_by : (row : SlotRow) (here : IsOnSlot s i row) → ((c : Register) → row ≡ rows.Registers c → list_any asks_for_bucket effects ≡ true → NeedsBucket c.slot (buckets x.history)) → FindsRow (row_deed row)
    finds_by (rows.Registers c) here needs = registers_find c here (leads (rows.Registers c) here).1 (needs c refl) c.stands refl
    finds_by (rows.Enters c) here needs =
        none_find (Opens c.slot) (does_nothing x.known new.changed (enters_tell old.memory new.memory new.changed ((leads (rows.Enters c) here).0, said) c (leads (rows.Enters c) here).1))
    finds_by (rows.Leaves c) here needs = leaves_find c here (leads (rows.Leaves c) here).1 c.stands refl
    finds_by (rows.Flushes c) here needs =
        tended_find (rows.Flushes c) here c.slot
        (flushes_reclaim old.memory new.memory new.changed ((leads (rows.Flushes c) here).0, said) x.known (known_own (rows.Flushes c) here) c (leads (rows.Flushes c) here).1 c.stands refl)
    finds_by (rows.Frees c) here needs =
        none_find (Tends c.slot) (does_nothing x.known new.changed (frees_tell old.memory new.memory new.changed ((leads (rows.Frees c) here).0, said) c (leads (rows.Frees c) here).1))

  -- Who registers asks for a bucket that is needed: then all find what they must.
  pub row_finds : (row : SlotRow) (here : IsOnSlot s i row) → ((c : Register) → row ≡ rows.Registers c → list_any asks_for_bucket effects ≡ true → NeedsBucket c.slot (buckets x.history)) → FindsRow (row_deed row)
  row_finds =
      finds_by
      (λ row here b took. takes_no_own same hash named m x.known s old new at all.whole.all.shown all.kept.made all.kept.tables i row here ((leads row here).0, said) (leads row here).1 (leads row here).2 b took)
