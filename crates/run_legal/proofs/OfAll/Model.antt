-- An event that reclaims all is by the model, if its work on slots is by the waiting sets of blocks: what ended maps had left over comes last.
use Rattle.std.specs.Prelude.{◌≡◌, ◌⊎◌, ◌<◌, ◌^◌, ℕ, true, List, [], ◌∷◌, ◌++◌, map, flat_map, IsSome}
use Rattle.std.specs.List.{list_all}
use Rattle.std.proofs.Common.{refl, ap, sym, subst, ◌∙◌, inl, inr}
use Rattle.std.proofs.lemmas.Grind.{flat_map-append}
use Rattle.std.proofs.lemmas.List.{append-nil, append_cancel_left, map-append}
use Rattle.std.proofs.lemmas.List.Concat.{flat_map-cons}
use Rattle.run_grows.specs.Given.SeizeWordsMem.{value_at}
use Rattle.run_grows.specs.Given.SeizeSequence.{taken_in}
use Rattle.run_grows.specs.Given.SeizeWaitingSets.{Change, ReclaimsAll, Sets, all_changed, all_reclaimed}
use Rattle.run_grows.specs.Given.SeizeWorld.{World}
use Rattle.run_grows.specs.Given.SeizeDeclared.rows.reclaim_all.ReclaimAll.{ReclaimAll}
use Rattle.run_grows.specs.Given.TablesNodes.{deferred_word}
use Rattle.run_grows.specs.Given.TablesDeclared.node.Node.{Node}
use Rattle.run_grows.specs.Given.RunsDeclared.effect.Effect.{Effect}
use Rattle.run_grows.specs.Given.RunsDeclared.effect.Effect.TheVariants.{Reclaimed}
use Rattle.run_grows.specs.Given.RunsDeclared.effect.Thing.{Thing}
use Rattle.run_grows.specs.Given.RunsDeclared.event.Event.{Event}
use Rattle.run_grows.specs.Given.RunsDeclared.event.Event.TheVariants as event
use Rattle.run_grows.specs.Given.RunsDeclared.outcome.Outcome.TheVariants.{Done}
use Rattle.run_grows.specs.Given.SchedulesAfter.{after, moment}
use Rattle.run_grows.specs.Given.SchedulesBeginning.{at_work}
use Rattle.run_grows.specs.Given.SchedulesEntry.{Entry}
use Rattle.run_grows.specs.Given.SchedulesHanding.{gives_all, is_reclaiming}
use Rattle.run_grows.specs.Given.SchedulesModel.{all_left, back_by_model, came, changes_by, changes_of, left_last, number_in, sets_in, thing_back, things_in}
use Rattle.run_grows.specs.Given.SchedulesMoment.{Moment}
use Rattle.run_grows.specs.Given.SchedulesReclaims.{ComesLast}
use Rattle.run_grows.specs.Given.SchedulesTerms.{Terms}
use Rattle.run_grows.specs.Given.EffectsKnown.{Known}
use Rattle.run_grows.specs.Given.EffectsDeclared.role.Role.{Role}
use Rattle.run_grows.specs.Given.EffectsDeclared.role.Role.TheVariants as role
use Rattle.run_grows.specs.Given.FollowsBlocks.{HasRole, RefinesBlocks}
use Rattle.run_grows.proofs.Given.MomentsOnSlots.{none_some}
use Rattle.run_grows.specs.Given.SeizeReclaimsRoots.{all_lists}
use Rattle.run_grows.specs.Given.PromisesSheltered.{IsOfThing}
use Rattle.run_grows.specs.Given.ModelsAlike.{AfterAlike, AreAlike, SetsAlike}
use Rattle.run_grows.specs.Given.ModelsFollows.{FollowsModel, IsFollowed}
use Rattle.run_grows.specs.Given.ModelsNumbers.{EachIsOnce, HasNumber, things_of}
use Rattle.run_grows.specs.Given.ModelsReclaims.{HasReclaimed}
use Rattle.run_grows.specs.Given.ModelsTurns.{sets_of}
use Rattle.run_grows.proofs.Given.ModelsAlike.Again.{alike_again}
use Rattle.run_grows.proofs.Given.ModelsAlike.Changed.{changed_alike}
use Rattle.run_grows.proofs.Given.ModelsFollows.{if_alone, same_things, sets_then}
use Rattle.run_grows.proofs.Given.ModelsNumbers.{has_one}
use Rattle.run_grows.proofs.Given.ModelsOnSlots.{numbers_back}
use Rattle.run_grows.proofs.Given.ModelsTurns.{all_there}
use Rattle.run_legal.specs.AllEvents.{BehindRootsIsLeft, TakesInTurn}

-- What such an event is to the model.

module _ {K V : Type 0} where
  changes_all : (things : List Thing) (its : Event K V) → gives_all its ≡ true → (effects : List Effect) (m : Moment K V) → changes_by things its Done effects m ≡ ReclaimsAll ∷ []
  changes_all things event.ReclaimAll of_all effects m = refl
  changes_all things event.Close of_all effects m = refl
  changes_all things _ of_all effects m = absurd (cc of_all)

  left_all : (its : Event K V) → gives_all its ≡ true → (m : Moment K V) → left_last its Done m ≡ all_left m
  left_all event.ReclaimAll of_all m = refl
  left_all event.Close of_all m = refl
  left_all _ of_all m = absurd (cc of_all)

-- nothing comes by it
none_comes : (effects : List Effect) → list_all is_reclaiming effects ≡ true → flat_map came effects ≡ []
none_comes [] may = refl
none_comes (Reclaimed x ∷ effects) may = flat_map-cons came (Reclaimed x) effects ∙ none_comes effects may
none_comes (_ ∷ effects) may = absurd (cc may)

module _ {K V : Type 0} (terms : Terms) (log : List (Entry K V)) (first : Known) (began : World (Node K V)) (behind : ℕ → List ℕ) (left : BehindRootsIsLeft terms.roots (moment log) first behind)
    (effects : List Effect) (known : Known) (w : World (Node K V)) (all : ReclaimAll) (lists : ℕ → List ℕ) (turn : TakesInTurn terms.roots first began behind effects known w all lists)
    (none : all_lists lists terms.roots ≡ []) where
  abbrev things : ℕ → List Thing
  things b = things_of (first.roles b)

  -- what was behind the roots is gone
  all_gone : flat_map things turn.gone ≡ all_left (moment log)
  all_gone = ap (flat_map things) (sym (turn.order ∙ ap (λ (xs : List ℕ). turn.gone ++ xs) none ∙ append-nil turn.gone)) ∙ left

  things_are : flat_map thing_back effects ≡ flat_map things turn.back ++ all_left (moment log)
  things_are = turn.reclaimed ∙ flat_map-append things turn.back turn.gone ∙ ap (λ (xs : List Thing). flat_map things turn.back ++ xs) all_gone

  -- it came last
  pub comes_last : ComesLast (all_left (moment log)) (flat_map thing_back effects)
  comes_last = (flat_map things turn.back, things_are)

  module _ (its : Event K V) (of_all : gives_all its ≡ true) (steps : ℕ) (may : list_all is_reclaiming effects ≡ true) (small : terms.batch_size < 2 ^ 64) (once : EachIsOnce first)
      (follows : FollowsModel terms.batch_size terms.roots log first began) (has : HasReclaimed deferred_word terms.batch_size terms.roots began follows.before w) (m : Moment K V)
      (blocks : RefinesBlocks m known w) where
    abbrev e : Entry K V
    e = record { event = its; outcome = Done; steps = steps; effects = effects }

    abbrev sets : Sets
    sets = sets_in terms.batch_size log

    abbrev HasFirst : ℕ → ℕ → Type 0
    HasFirst = HasNumber first (things_in log)

    both : AfterAlike HasFirst (all_reclaimed terms.batch_size (sets_of terms.batch_size follows.before)) (all_reclaimed terms.batch_size sets)
    both = changed_alike HasFirst (has_one first (things_in log) once) terms.batch_size ReclaimsAll ReclaimsAll (sets_of terms.batch_size follows.before) sets follows.alike refl

    back_is : (all_reclaimed terms.batch_size (sets_of terms.batch_size follows.before)).reclaimed ≡ turn.back
    back_is = append_cancel_left (taken_in began.log) _ turn.back (sym has.taken ∙ turn.taken)

    numbers : map (number_in (things_in log)) (flat_map things turn.back) ≡ (all_reclaimed terms.batch_size sets).reclaimed
    numbers = numbers_back first (things_in log) turn.back _ (subst (λ (l : List ℕ). AreAlike HasFirst l (all_reclaimed terms.batch_size sets).reclaimed) back_is both.reclaimed)

    things_same : things_in (e ∷ log) ≡ things_in log
    things_same = same_things terms log e (none_comes effects may)

    abbrev number : Thing → ℕ
    number = number_in (things_in (e ∷ log))

    changes : changes_of log e ≡ ReclaimsAll ∷ []
    changes = changes_all (things_in (e ∷ log)) its of_all effects (at_work e (moment log))

    numbered : map number (flat_map thing_back effects) ≡ (all_reclaimed terms.batch_size sets).reclaimed ++ map number (all_left (moment log))
    numbered =
        ap (map number) things_are ∙ map-append number (flat_map things turn.back) (all_left (moment log))
        ∙ ap (λ (xs : List ℕ). xs ++ map number (all_left (moment log))) (ap (λ (ys : List Thing). map (number_in ys) (flat_map things turn.back)) things_same ∙ numbers)

    model : back_by_model terms.batch_size log e ≡ (all_reclaimed terms.batch_size sets).reclaimed ++ map number (all_left (moment log))
    model =
        ap (λ (cs : List Change). (all_changed terms.batch_size cs sets).reclaimed ++ map number (left_last its Done (moment log))) changes
        ∙ ap (λ (xs : List Thing). (all_changed terms.batch_size (ReclaimsAll ∷ []) sets).reclaimed ++ map number xs) (left_all its of_all (moment log))
        ∙ ap (λ (xs : List ℕ). xs ++ map number (all_left (moment log))) (append-nil (all_reclaimed terms.batch_size sets).reclaimed)

    -- what is there has the number that it had at first
    still : (b n : ℕ) → IsSome (value_at w.memory b) → HasFirst b n → HasNumber known (things_in log) b n
    still b n some h = by (turn.noted b)
      where
        by : (known.roles b ≡ first.roles b) ⊎ (known.roles b ≡ role.Free) → HasNumber known (things_in log) b n
        by (inl is) = (h.0, subst (IsOfThing h.0) (sym is) h.1, h.2, h.3)
        by (inr free) = absurd (none_some (value_at w.memory b) some (subst (λ (q : Role). HasRole w m.stored b q) free (blocks.roles b)))

    alike_then : SetsAlike (HasNumber known (things_in log)) (sets_of terms.batch_size has.after) (all_reclaimed terms.batch_size sets).sets
    alike_then =
        alike_again HasFirst (HasNumber known (things_in log)) (λ b. IsSome (value_at w.memory b)) still (sets_of terms.batch_size has.after) (all_reclaimed terms.batch_size sets).sets
        (all_there deferred_word terms.batch_size terms.roots small w has.after has.came)
        (subst (λ (x : Sets). SetsAlike HasFirst x (all_reclaimed terms.batch_size sets).sets) (sym has.sets) both.sets)

    -- the event is by the model, and the sets are those of the model after it
    pub all_is_followed : IsFollowed terms log e known w
    all_is_followed = (
      if_alone (after e (moment log)).is_alone _ (numbered ∙ sym model),
      record {
        before = has.after;
        came = has.came;
        alike =
            subst (λ (x : Sets). SetsAlike (HasNumber known (things_in (e ∷ log))) (sets_of terms.batch_size has.after) x) (sets_then terms log e (ReclaimsAll ∷ []) changes)
            (subst (λ (xs : List Thing). SetsAlike (HasNumber known xs) (sets_of terms.batch_size has.after) (all_reclaimed terms.batch_size sets).sets) (sym things_same) alike_then);
      },
    )
