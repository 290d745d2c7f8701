-- What a step of a call has told has words: wherever a list of acts has led, the entry of the newest act comes to what that has told, if it was the step of a call.
use Rattle.std.specs.Prelude.{◌++◌, Some}
use Rattle.std.proofs.Common.{◌≡◌, ℕ, Bool, List, [], ◌∷◌, refl, sym, subst, ap, ◌∙◌}
use Rattle.run_legal.specs.Given.TablesDeclared.node.Node.{Node}
use Rattle.run_schedules.specs.Given.RawDeclared.machines.machine.Machine.{Machine}
use Rattle.run_schedules.specs.Given.RawDeclared.machines.progress.Progress.{Progress}
use Rattle.play_linear.proofs.Linear.Comes.{steps_come_so}
use Rattle.play_linear.proofs.Linear.Heard.{IsHeard}
use Rattle.play_linear.proofs.Linear.Holds.{Holds}
use Rattle.run_legal.specs.Given.HistoriesInEvent.{HasOutcomeSo}
use Rattle.play_linear.specs.Given.ValuesValues.{KeepsValue}
use Rattle.run_legal.specs.Given.ScenesHeld.{Held, IsAt}
use Rattle.run_legal.specs.Given.ScenesScene.{Scene, slot_of}
use Rattle.run_legal.specs.Given.ScenesStepping.{StepLeads}
use Rattle.run_schedules.specs.Schedules.Moment.{UnderWay}
use Rattle.run_schedules.specs.Schedules.Views.{call_of}
use Rattle.run_schedules.specs.declared.call.Call.{Call}
use Rattle.run_schedules.specs.declared.outcome.Outcome.{Outcome}
use Rattle.run_legal.specs.Given.EffectsDeclared.changed.Changed.TheVariants.{Nothing as NoChange}
use Rattle.threads_rule.specs.Given.ActsActs.{Act, Answer, Nothing, OfCall, BeginsCall, StepsCall, TellsCall, AsksCall, StopsCall, BeginsMaking, StepsMaking, BeginsEnding, StepsEnding, BeginsRow, StepsRow}
use Rattle.play_linear.specs.Given.ActsAsSteps.{LeadsAs, changed_by, held_in}
use Rattle.play_linear.specs.Given.ActsLeads.{Led}
use Rattle.run_schedules.specs.Deeds.Deeds.{Deed, Entry, Steps, moment, named}
use Rattle.run_legal.specs.Given.EffectsEffects.{effects_of, known_after}
use Rattle.run_legal.specs.Given.EffectsKnown.{Known}
use Rattle.run_legal.specs.Given.EffectsDeclared.acting.Acting.TheVariants as acting
use Rattle.run_legal.specs.Given.NamedSeen.{kind_of}
use Rattle.play_linear.specs.Given.PlayedPlay.{State, call_stepped, is_refusal, outcome_of}
use Rattle.play_linear.specs.Given.PlayedReached.{IsOf}
use Rattle.seize_acts.specs.Acts.Answers.{Grant}
use Rattle.play_linear.proofs.Given.PlayedPlayedAs.{PlayedAs, ReclaimedAs}
use Rattle.play_linear.proofs.Given.PlayedTied.{CallTied, call_tied}
use Rattle.run_schedules.proofs.Given.General.{same_some}

-- the last of a list
module _ {X : Type 0} where
  abbrev last_of : X → List X → X
  last_of x [] = x
  last_of x (y ∷ ys) = last_of y ys

  last_is : (d : X) (xs : List X) (x : X) → last_of d (xs ++ x ∷ []) ≡ x
  last_is d [] x = refl
  last_is d (y ∷ ys) x = last_is y ys x

  same_last : (xs ys : List X) (x y : X) → xs ++ x ∷ [] ≡ ys ++ y ∷ [] → x ≡ y
  same_last xs ys x y is = sym (last_is x xs x) ∙ ap (last_of x) is ∙ last_is x ys y

module _ {K V S : Type 0} where
  -- where the newest act has told this as the step of a call, its entry comes to that
  abbrev pub HasWords : State K V S → Type 0
  HasWords x =
      (i : ℕ) (said : Progress (Node K V)) (before : List (Answer K V)) (e : Entry K V) (earlier : List (Entry K V)) (c : UnderWay K V)
      → x.told ≡ before ++ OfCall said ∷ [] → x.history ≡ e ∷ earlier → e.deed ≡ Steps i → call_of (named i) (moment earlier) ≡ Some c → HasOutcomeSo x.known c.call c.replies said e.outcome

  -- where it has told something else there is none
  pub silent : (x : State K V S) (before : List (Answer K V)) (a : Answer K V) → x.told ≡ before ++ a ∷ [] → ((said : Progress (Node K V)) → a ≡ OfCall said → ⊥) → HasWords x
  silent x before a told none = λ i said others e earlier c is entries deed there. absurd (none said (same_last before others a (OfCall said) (sym told ∙ is)))

module _ {K V S : Type 0} (same : K → K → Bool) (by_hasher : S → K → ℕ) (hash : ℕ → K → ℕ) (batch_size roots : ℕ) (aborts : ℕ → V) (x y : State K V S) where
  -- and so by each kind of act
  module _ (s n : Scene K V) (is : IsOf by_hasher s s.world.row x.now) (at : IsAt same hash (held_in batch_size roots NoChange s) s) (holds : Holds same x s) (told : Answer K V) where
    abbrev old : Held K V
    old = held_in batch_size roots NoChange s

    -- by the step of a call
    module _ (i m : ℕ) (g : Grant) (played : PlayedAs same by_hasher batch_size roots aborts x y (StepsCall i m g)) (came : Led same by_hasher batch_size roots slot_of (StepsCall i m g) s told n)
        (said : Progress (Node K V)) (answer : told ≡ OfCall said)
        (leads : StepLeads same hash i said s old (held_in batch_size roots (changed_by {S = S} same (StepsCall i m g) s) n)) where
      abbrev new : Held K V
      new = held_in batch_size roots (changed_by {S = S} same (StepsCall i m g) s) n

      tied : CallTied same by_hasher batch_size roots aborts s n s.world.row x y is i m g told came
      tied = call_tied same by_hasher batch_size roots aborts s n s.world.row x y is i m g told came played

      said_is : came.progress ≡ said
      said_is = let both : ◌≡◌ {A = Answer K V} (OfCall came.progress) (OfCall said) = sym came.tells ∙ answer in cc both

      abbrev then_at : State K V S
      then_at = call_stepped i m tied.it new.changed x (came.memory, (came.machine, said))

      abbrev known_then : Known
      known_then = known_after (acting.Call i m) new.changed x.known

      abbrev o : Outcome V
      o = outcome_of known_then (kind_of tied.it.call) tied.it.value said

      abbrev entry : Entry K V
      entry = record { deed = Steps i; outcome = o; effects = effects_of (acting.Call i m) x.known new.changed; refused = is_refusal new.changed }

      heard : IsHeard (moment x.history) i tied.it.call tied.it.machine tied.it.value
      heard = holds.heard m i tied.it tied.here

      comes : HasOutcomeSo known_then heard.there.call heard.there.replies said o
      comes =
          subst (λ (z : Call K V). HasOutcomeSo known_then heard.there.call heard.there.replies said (outcome_of known_then (kind_of z) tied.it.value said)) heard.called
          (steps_come_so same hash x.history x.known s old new at holds.shows m i came.call came.here said leads heard.there heard.is tied.it.value
          (subst (λ (z : Machine K V K). KeepsValue heard.there.call heard.there.replies z tied.it.value) tied.machine heard.keeps))

      words : HasWords then_at
      words j last before e earlier c told_is entries deed there =
          let same_told : ◌≡◌ {A = Answer K V} (OfCall said) (OfCall last) = same_last x.told before (OfCall said) (OfCall last) told_is in
          let one : said ≡ last = cc same_told in
          let newest : entry ≡ e = cc entries in
          let others : x.history ≡ earlier = cc entries in
          let deeds : ◌≡◌ {A = Deed K V} (Steps i) (Steps j) = ap (λ (z : Entry K V). z.deed) newest ∙ deed in
          let caller : i ≡ j = cc deeds in
          let its : heard.there ≡ c =
          same_some heard.there c
          (sym heard.is ∙ ap (λ (k : ℕ). call_of (named k) (moment x.history)) caller ∙ ap (λ (l : List (Entry K V)). call_of (named j) (moment l)) others ∙ there) in
          subst (λ (z : Outcome V). HasOutcomeSo known_then c.call c.replies last z) (ap (λ (z : Entry K V). z.outcome) newest)
          (subst (λ (z : UnderWay K V). HasOutcomeSo known_then z.call z.replies last o) its
          (subst (λ (p : Progress (Node K V)). HasOutcomeSo known_then heard.there.call heard.there.replies p o) one comes))

      steps_say : HasWords y
      steps_say = subst HasWords (sym (tied.comes ∙ ap (λ (p : Progress (Node K V)). call_stepped i m tied.it new.changed x (came.memory, (came.machine, p))) said_is)) words

    pub acts_say : (act : Act K V S) → PlayedAs same by_hasher batch_size roots aborts x y act → Led same by_hasher batch_size roots slot_of act s told n
        → LeadsAs same by_hasher hash act s told n old (held_in batch_size roots (changed_by {S = S} same act s) n) → HasWords y
    acts_say (StepsCall i m g) played came (said, answer, leads, goes) = steps_say i m g played came said answer leads
    acts_say (BeginsCall i m wanted) (at_map, there, y_is) came leads = silent y x.told Nothing (ap (λ (z : State K V S). z.told) y_is) (λ said e. cc e)
    acts_say (TellsCall i m reply) (c, here, y_is) came leads = silent y x.told _ (ap (λ (z : State K V S). z.told) y_is) (λ said e. cc e)
    acts_say (AsksCall i m) (c, here, y_is) came leads = silent y x.told _ (ap (λ (z : State K V S). z.told) y_is) (λ said e. cc e)
    acts_say (StopsCall i m) (c, here, y_is) came leads = silent y x.told _ (ap (λ (z : State K V S). z.told) y_is) (λ said e. cc e)
    acts_say (BeginsMaking i map hasher given places) y_is came leads = silent y x.told Nothing (ap (λ (z : State K V S). z.told) y_is) (λ said e. cc e)
    acts_say (StepsMaking i g) (b, here, end, led, y_is) came leads = silent y x.told _ (ap (λ (z : State K V S). z.told) y_is) (λ said e. cc e)
    acts_say (BeginsEnding i m) (at_map, there, y_is) came leads = silent y x.told Nothing (ap (λ (z : State K V S). z.told) y_is) (λ said e. cc e)
    acts_say (StepsEnding i g) (f, here, end, led, y_is) came leads = silent y x.told _ (ap (λ (z : State K V S). z.told) y_is) (λ said e. cc e)
    acts_say (BeginsRow i request) (called, there, y_is) came leads = silent y x.told Nothing (ap (λ (z : State K V S). z.told) y_is) (λ said e. cc e)
    acts_say (StepsRow i g) (row, here, end, led, y_is) came leads = silent y x.told Nothing (ap (λ (z : State K V S). z.told) y_is) (λ said e. cc e)

  pub reclaiming_says : (g : Grant) → ReclaimedAs same by_hasher batch_size roots aborts x y g → HasWords y
  reclaiming_says g (c, here, end, led, y_is) = silent y x.told _ (ap (λ (z : State K V S). z.told) y_is) (λ said e. cc e)
