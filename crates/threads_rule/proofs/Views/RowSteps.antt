-- The row of a seat takes a step: its next operation may be made at any moment; or it ends.
use Rattle.std.specs.Prelude.{◌≢◌, ◌++◌, ◌∷◌, Option, Some, None}
use Rattle.std.specs.Option.{is_none}
use Rattle.std.proofs.Common.{◌≡◌, ℕ, ◌+◌, Bool, [], inl, inr, refl, sym, subst, ap, ◌∙◌}
use Rattle.seize_words.specs.OneMemory.Mem.{Mem}
use Rattle.seize.specs.World.{World, Row, Use, Vacant, Outside, Inside, Changing, Steps', one_less}
use Rattle.map_tables.specs.Nodes.{deferred_word}
use Rattle.map_tables.specs.declared.node.Node.{Node}
use Rattle.many_acts.specs.Given.CallersRows.{IsUsedAlike}
use Rattle.seize_model.proofs.Given.SeizeRuleRows.Known.{works_on}
use Rattle.many_acts.proofs.Given.CallersTogether.Came.{came_reached}
use Rattle.many_acts.specs.Given.ScenesScene.{Scene, slot_of}
use Rattle.many_acts.specs.Acts.Acts.{StepsRow}
use Rattle.many_acts.specs.Acts.Doings.{Does, MayDo}
use Rattle.many_acts.specs.Acts.Leads.{Led}
use Rattle.many_acts.proofs.Acts.Lists.{steps_are_acts}
use Rattle.seize_model.proofs.Alone.Histories.Reached.{Reached}
use Rattle.seize_model.proofs.Alone.Histories.Uses.{uses_kept}
use Rattle.seize_model.proofs.Alone.Histories.NotTaken.{did}
use Rattle.seize_acts.specs.Acts.Acts.{row_steps}
use Rattle.seize_acts.specs.Acts.Answers.{Grant}
use Rattle.seize_seats.specs.Seats.Errands.{IsUnlent}
use Rattle.seize_seats.specs.Seats.State.{State, view_of, Goes}
use Rattle.seize_views.specs.Views.Rows.{use_of}
use Rattle.seize_views.specs.declared.view.Began.{Began}
use Rattle.seize_views.specs.declared.view.Fixed.{Fixed}
use Rattle.seize_views.specs.declared.view.SlotView.{SlotView}
use Rattle.seize_views.proofs.Views.InWorld.{IsLikeness, IsUsedLike, HasRow as RowIn, Went, GoesTo}
use Rattle.seize_views.proofs.Views.Steps.{works_on_own}
use Rattle.threads_rule.specs.Views.Listed.{AreNumbered}
use Rattle.threads_rule.specs.Views.Rule.{MapsWorld, IsSlot, IsUsedSo, Holds, KeepsFor, held_slot, LeansUnder}
use Rattle.threads_rule.specs.declared.view.View.{View}
use Rattle.threads_rule.specs.declared.view.SeatWork.TheVariants.{Nothing}
use Rattle.threads_rule.proofs.Views.Alone.{alone_on_slot}
use Rattle.threads_rule.proofs.Views.Made.{row_keeps}
use Rattle.threads_rule.proofs.Views.Leaves.{Leaves}
use Rattle.threads_rule.proofs.Views.Listed.{numbered_on}
use Rattle.threads_rule.proofs.Views.Moved.{moved}
use Rattle.threads_rule.proofs.Views.Numbers.{first_slot}
use Rattle.threads_rule.proofs.Views.Ran.{Ran, ran_stays, ran_keeps, ran_passes}
use Rattle.threads_rule.proofs.Views.RowFits.{scene, all, so, its_place, i, knows, is_used, its, next, w, maps_on, go}
use Rattle.many_acts.proofs.Given.CallersTogether.Slots.{alike_same}
use Rattle.seize_words.proofs.General.{same_some}

-- uses are alike however many rows work on the slot
fewer : (a b : Use) → IsUsedAlike a b → IsUsedAlike (one_less a) (one_less b)
fewer Vacant b is = subst (λ (u : Use). IsUsedAlike Vacant (one_less u)) (sym is) refl
fewer (Outside n) b is = subst (λ (u : Use). IsUsedAlike (one_less (Outside n)) (one_less u)) (sym is.1) (_, refl)
fewer (Inside n) b is = subst (λ (u : Use). IsUsedAlike (one_less (Inside n)) (one_less u)) (sym is.1) (_, refl)
fewer Changing b is = subst (λ (u : Use). IsUsedAlike Changing (one_less u)) (sym is) refl

pub alike : IsLikeness IsUsedAlike
alike = record { same = alike_same; less = fewer }

module _ {T : Type 0} (n : World T) where
  pub like_used : (o : Option (ℕ × Use)) → IsUsedSo n o → IsUsedLike IsUsedAlike n o
  like_used None is = tt
  like_used (Some slot) is = is

  used_like : (o : Option (ℕ × Use)) → IsUsedLike IsUsedAlike n o → IsUsedSo n o
  used_like None is = tt
  used_like (Some slot) is = is

module _ {K V S : Type 0} (same : K → K → Bool) (hash : S → K → ℕ) (fixed : Fixed) (s : State (Node K V) (View K V S) (MapsWorld K V S)) (h : Holds same hash fixed s)
    (id : ℕ) (v : View K V S) (at_id : view_of s id ≡ Some v) (own : v.under ≡ None) (free : v.work ≡ Nothing) where
  abbrev now : World (Node K V)
  now = (scene same hash fixed s h id v at_id own).world

  abbrev me : ℕ
  me = i same hash fixed s h id v at_id own

  reached : Reached deferred_word fixed.batch_size now
  reached = came_reached fixed.batch_size now (all same hash fixed s h id v at_id own).makings.standing.came

  -- its row as the world has it
  pub row_in : RowIn deferred_word fixed IsUsedAlike now me v.slot
  row_in =
      let has = its same hash fixed s h id v at_id own free in let are = so same hash fixed s h id v at_id own in
      record {
        came = (all same hash fixed s h id v at_id own).makings.standing.came;
        row = has.row;
        used = like_used now (use_of v.slot) has.slot;
        short = (knows same hash fixed s h id v at_id own).short;
        bounded = (knows same hash fixed s h id v at_id own).bounded;
        alone = alone_on_slot same hash (scene same hash fixed s h id v at_id own) (view_of s) are.seats are.unborn are.leant are.apart id v at_id own has;
      }

  module _ (m : Mem (Node K V)) (u : SlotView (Node K V)) (began : Began) (n : World (Node K V)) (g : Went deferred_word fixed IsUsedAlike now me v.slot m u n) where
    step : Steps' deferred_word me (now.row me) now n
    step = subst (λ (r : Row). Steps' deferred_word me r now n) (sym (its same hash fixed s h id v at_id own free).row) g.step

    no_call : (a : ℕ) → is_none ((scene same hash fixed s h id v at_id own).calls a me) ≡ Bool.true
    no_call a = ap is_none ((its same hash fixed s h id v at_id own free).calls a)

    granted : (a : Grant) × (row_steps deferred_word me (now.row me) a now ≡ Some n)
    granted =
        (steps_are_acts {V = V} same hash fixed.batch_size fixed.roots slot_of (scene same hash fixed s h id v at_id own) (all same hash fixed s h id v at_id own)).1.rows me no_call n step

    may : MayDo V same hash fixed.batch_size fixed.roots slot_of (Does (StepsRow me granted.0)) h.reached.0
    may = (ap is_none h.nobody, (no_call, ap is_none granted.1))

    led : Led same hash fixed.batch_size fixed.roots slot_of (StepsRow me granted.0) (scene same hash fixed s h id v at_id own) (h.course.told h.reached.0 (Does (StepsRow me granted.0)) may)
        (h.course.next h.reached.0 (Does (StepsRow me granted.0)) may).0
    led = (h.course.leads h.reached.0 (Does (StepsRow me granted.0)) may).0

    same_world : n ≡ led.0
    same_world = same_some n led.0 (sym granted.1 ∙ led.1)

    abbrev after : Scene K V
    after = next same hash fixed s h id v at_id own free u began n led.3 led.4

    ran : Ran deferred_word fixed.batch_size me now n
    ran = inr (inl step)

    leaves : Leaves same hash fixed.batch_size (scene same hash fixed s h id v at_id own) after me (use_of v.slot)
    leaves = record {
      rows = λ k ne. (did deferred_word fixed.batch_size now reached me n step).rows k ne;
      calls = λ a k ne. refl;
      makers = λ k ne. refl;
      enders = λ k ne. refl;
      uses = λ t used apart. subst (λ (x : Use). IsUsedAlike (now.uses t) x) (sym (uses_kept deferred_word fixed.batch_size now reached me n step t used (not_mine t apart))) (alike_same (now.uses t));
      ends = None;
      maps = λ a r lasts is. maps_on same hash fixed s h id v at_id own free u began n led.3 led.4 a r is;
      held = λ t b a r apart inside lasts stands owner held. (ran_stays deferred_word fixed.batch_size me now n reached ran t inside).1 b held;
      made = λ k ne. row_keeps fixed.batch_size now n me reached step k;
      keeps = ran_keeps deferred_word fixed.batch_size me now n reached ran;
      passes = λ c ne. ran_passes deferred_word fixed.batch_size me c ne now n reached ran;
    }
      where
        not_mine : (t : ℕ) → ((a : Use) → use_of v.slot ≡ Some (t, a) → ⊥) → works_on (now.row me) ≡ t + 1 → ⊥
        not_mine t apart on =
            let k = works_on_own v.slot (knows same hash fixed s h id v at_id own).short t (sym (ap works_on (its same hash fixed s h id v at_id own free).row) ∙ on) in apart k.0 k.1

    none_ends : leaves.ends ≡ None
    unfolding leaves
    none_ends = refl

    -- nobody else has its slot
    alone : (j t : ℕ) (a b : Use) (x : View K V S) → j ≢ id → view_of s j ≡ Some x → use_of x.slot ≡ Some (t, a) → use_of u ≡ Some (t, b) → ⊥
    alone j t a b x ne at uses mine =
        elim (g.slot t b mine) as (λ _. ⊥) [
          | inl had ↦ ne ((so same hash fixed s h id v at_id own).apart j id t a had.0 x v at at_id uses had.1)
          | inr free ↦ is_used same hash fixed s h id v at_id own j t a x at uses free.0
        ]

    its_slot : (o : Option (ℕ × Use)) → use_of u ≡ o → IsSlot (held_slot o)
    its_slot None e = first_slot
    its_slot (Some slot) e =
        elim (g.slot slot.0 slot.1 e) as (λ _. IsSlot slot.0) [
          | inl had ↦ subst (λ (o : Option (ℕ × Use)). IsSlot (held_slot o)) had.1 (its_place same hash fixed s h id v at_id own)
          | inr free ↦ free.1
        ]

    goes : IsUnlent LeansUnder id s → (so_told : View K V S → Type 0) → so_told (w same hash fixed s h id v at_id own free u began n led.3 led.4) → Goes (Holds same hash fixed) KeepsFor s m id so_told
    goes unlent so_told is =
        moved same hash fixed s h id v at_id (StepsRow me granted.0) may after
        (led.6 ∙ ap (λ (x : World (Node K V)). record (scene same hash fixed s h id v at_id own) { world = x; maps = led.3 }) (sym same_world)) m
        (w same hash fixed s h id v at_id own free u began n led.3 led.4)
        (go same hash fixed s h id v at_id own free u began n led.3 led.4 leaves none_ends g.row (used_like n (use_of u) g.used) g.place (its_slot (use_of u) refl) unlent (StepsRow me granted.0) numbered m g.memory
        g.plain g.short g.known g.bounded alone)
        (record { own = ((λ a k. 0), tt); others = λ j ne theirs. refl; its = λ are. are; newest = λ other on. absurd (cc on); aside = λ j ne theirs. refl; seen = λ before b x none. absurd (cc none) }) so_told is
      where
        numbered : AreNumbered 0 (s.world.doings ++ Does (StepsRow me granted.0) ∷ []) (so same hash fixed s h id v at_id own).fresh.0
        numbered = let f = (so same hash fixed s h id v at_id own).fresh in numbered_on s.world.doings (Does (StepsRow me granted.0) ∷ []) 0 f.0 f.0 f.2 refl

  -- what leads on in the world leads on
  pub steps_to : IsUnlent LeansUnder id s → (m : Mem (Node K V)) (began : Began) (so_in : SlotView (Node K V) → Type 0) (so_told : View K V S → Type 0) → GoesTo deferred_word fixed IsUsedAlike now me v.slot m so_in
      → ((u : SlotView (Node K V)) → so_in u → so_told record { slot = u; under = None; map = v.map; by = v.by; own = v.own; work = Nothing; looks = []; held = []; began = began; calls = v.calls }) → Goes (Holds same hash fixed) KeepsFor s m id so_told
  steps_to unlent m began so_in so_told (u, n, g, is) tells = goes m u began n g unlent so_told (tells u is)
