-- Guards come and go: those that are there are within their sections, which shelter what they did.
use Rattle.std.specs.Prelude.{◌≡◌, ◌==◌, ℕ, Bool, true, false, cond, not, List, [], ◌∷◌, ◌++◌, filter, Option, Some, None, option_map}
use Rattle.std.specs.List.{AllByRecursion}
use Rattle.std.specs.Option.{option_or}
use Rattle.std.proofs.Common.{refl, ap, sym, subst, ◌∙◌, arith}
use Rattle.std.proofs.lemmas.Bool.{eq-eqb}
use Rattle.std.proofs.lemmas.List.Folds.{find-append}
use Rattle.run_places.specs.Given.SeizeLaw.{holds}
use Rattle.run_places.specs.Given.SeizeWorld.{World, IsInside}
use Rattle.run_places.specs.Given.TablesDeclared.node.Node.{Node}
use Rattle.run_places.specs.Given.RunsPresent.{Present, guard_of, guards_on, slot_of_registration, enters_slot, drops, forgotten_as, forgotten_if, forgets}
use Rattle.run_places.specs.Given.RunsSame.{is_same}
use Rattle.run_places.specs.Given.RunsDeclared.holders.NamedGuard.{NamedGuard}
use Rattle.run_places.proofs.Given.RunsLaws.{same_tells, drops_counts}
use Rattle.run_places.specs.Given.RunsDeclared.event.Event.{Event}
use Rattle.run_places.specs.Given.RunsDeclared.event.Event.TheVariants.{Register, Unregister, Enter, Own, Refresh, DropGuard, Forget, ReclaimAll, Close}
use Rattle.run_places.specs.Given.RunsDeclared.outcome.Outcome.{Outcome}
use Rattle.run_places.specs.Given.RunsDeclared.outcome.Outcome.TheVariants.{Done, Slot}
use Rattle.run_places.specs.Given.SchedulesAfter.{there_on, unsheltered, sheltered_on}
use Rattle.run_places.specs.Given.SchedulesMoment.{Sheltered}
use Rattle.run_places.specs.Given.EffectsKnown.{Known}
use Rattle.run_histories.specs.Promises.Guards.{EntersInside, GuardsComeAndGo, OneIsInsideAgain, OnlyGuardsLeaveNobody}
use Rattle.run_histories.specs.Promises.Sheltered.{GuardsAreInside, IsSheltered, AreSheltered}
use Rattle.run_histories.proofs.Promises.Lists.{all_of}
use Rattle.run_places.proofs.Given.General.{same_some as one_of}

pub no_guard : {A : Type 0} (g : NamedGuard) → None ≡ Some g → A
no_guard g e = absurd (cc e)

-- guards by name, where those of one name are there no more

abbrev without : List ℕ → List NamedGuard → List NamedGuard
without guard guards = filter (λ g. not (is_same g.name guard)) guards

none_left : (guard : List ℕ) (guards : List NamedGuard) → guard_of guard (without guard guards) ≡ None
none_left guard [] = refl
none_left guard (g ∷ guards) = by (is_same g.name guard) refl (none_left guard guards)
  where
    by : (q : Bool) → is_same g.name guard ≡ q → guard_of guard (without guard guards) ≡ None → guard_of guard (cond (not q) (g ∷ without guard guards) (without guard guards)) ≡ None
    by true e later = later
    by false e later = ap (λ (q : Bool). cond q (Some g) (guard_of guard (without guard guards))) e ∙ later

-- one of the first name isn't of another one
not_own : (x own guard : List ℕ) → is_same x guard ≡ true → is_same own guard ≡ false → is_same x own ≡ false
not_own x own guard e apart = by (is_same x own) refl
  where
    by : (q : Bool) → is_same x own ≡ q → q ≡ false
    by false f = refl
    by true f = absurd (let is = sym (ap (λ (y : List ℕ). is_same y guard) ((same_tells x own).0 f)) ∙ e in cc (is, apart))

as_before : (own guard : List ℕ) → is_same own guard ≡ false → (guards : List NamedGuard) → guard_of own (without guard guards) ≡ guard_of own guards
as_before own guard apart [] = refl
as_before own guard apart (g ∷ guards) = by (is_same g.name guard) refl (as_before own guard apart guards)
  where
    by : (q : Bool) → is_same g.name guard ≡ q → guard_of own (without guard guards) ≡ guard_of own guards
        → guard_of own (cond (not q) (g ∷ without guard guards) (without guard guards)) ≡ cond (is_same g.name own) (Some g) (guard_of own guards)
    by true e later = later ∙ sym (ap (λ (q : Bool). cond q (Some g) (guard_of own guards)) (not_own g.name own guard e apart))
    by false e later = ap (cond (is_same g.name own) (Some g)) later

-- one that is there then has another name, and was there
was_there : (own guard : List ℕ) (guards : List NamedGuard) (g : NamedGuard) → guard_of own (without guard guards) ≡ Some g → (is_same own guard ≡ false) × (guard_of own guards ≡ Some g)
was_there own guard guards g is = by (is_same own guard) refl
  where
    by : (q : Bool) → is_same own guard ≡ q → (is_same own guard ≡ false) × (guard_of own guards ≡ Some g)
    by true e = no_guard g (sym (ap (λ (x : List ℕ). guard_of x (without guard guards)) ((same_tells own guard).0 e) ∙ none_left guard guards) ∙ is)
    by false e = (e, sym (as_before own guard e guards) ∙ is)

-- forgotten ones are found as they were

forgotten_same : (name : List ℕ) (g : NamedGuard) → ((forgotten_as name g).name ≡ g.name) × ((forgotten_as name g).slot ≡ g.slot)
forgotten_same name g = by (is_same g.name name)
  where
    by : (q : Bool) → ((cond q (record g { forgotten = true }) g).name ≡ g.name) × ((cond q (record g { forgotten = true }) g).slot ≡ g.slot)
    by true = (refl, refl)
    by false = (refl, refl)

forgotten_found : (own name : List ℕ) (guards : List NamedGuard) → guard_of own (forgotten_if name guards) ≡ option_map (forgotten_as name) (guard_of own guards)
forgotten_found own name [] = refl
forgotten_found own name (g ∷ guards) =
    ap (λ (x : List ℕ). cond (is_same x own) (Some (forgotten_as name g)) (guard_of own (forgotten_if name guards))) (forgotten_same name g).0
    ∙ by (is_same g.name own) (forgotten_found own name guards)
  where
    by : (q : Bool) → guard_of own (forgotten_if name guards) ≡ option_map (forgotten_as name) (guard_of own guards)
        → cond q (Some (forgotten_as name g)) (guard_of own (forgotten_if name guards)) ≡ option_map (forgotten_as name) (cond q (Some g) (guard_of own guards))
    by true later = refl
    by false later = later

-- those of a guard's entries that are left are of others
left_apart : (P : Sheltered → Type 0) (guard : List ℕ) (xs : List Sheltered) → AllByRecursion P xs → AllByRecursion (λ (x : Sheltered). P x × (is_same x.guard guard ≡ false)) (unsheltered guard xs)
left_apart P guard [] all = tt
left_apart P guard (x ∷ xs) all = by (is_same x.guard guard) refl (left_apart P guard xs all.1)
  where
    by : (q : Bool) → is_same x.guard guard ≡ q → AllByRecursion (λ (y : Sheltered). P y × (is_same y.guard guard ≡ false)) (unsheltered guard xs)
        → AllByRecursion (λ (y : Sheltered). P y × (is_same y.guard guard ≡ false)) (cond (not q) (x ∷ unsheltered guard xs) (unsheltered guard xs))
    by true e later = later
    by false e later = ((all.0, e), later)

module _ {K V : Type 0} (w : World (Node K V)) (known : Known) (there : Present) where
  -- it is sheltered by a guard that is found there, too
  elsewhere : (there2 : Present) (x : Sheltered) → ((g : NamedGuard) → guard_of x.guard there.guards ≡ Some g → (h : NamedGuard) × (guard_of x.guard there2.guards ≡ Some h) × (g.slot ≡ h.slot))
      → IsSheltered there w known x → IsSheltered there2 w known x
  elsewhere there2 x finds (come, g, is, inside, each) =
      let it = finds g is in (
        come,
        it.0,
        it.1,
        subst (λ (t : ℕ). IsInside (w.uses t)) it.2 inside,
        λ b of. subst (λ (t : ℕ). holds t b w.log ≡ true) it.2 (each b of),
      )

  module _ (xs : List Sheltered) (inside : GuardsAreInside there w) (all : AreSheltered there w known xs) where
    abbrev Stay : Present → List Sheltered → Type 0
    Stay there2 ys = GuardsAreInside there2 w × AreSheltered there2 w known ys

    -- a guard is there no more
    pub drops_stay : (guard : List ℕ) → Stay (drops guard there) (unsheltered guard xs)
    drops_stay guard = (
      λ own g is. inside own g (was_there own guard there.guards g is).1,
      all_of (λ (x : Sheltered). IsSheltered there w known x × (is_same x.guard guard ≡ false)) (IsSheltered (drops guard there) w known) (unsheltered guard xs)
          (λ x so. elsewhere (drops guard there) x (λ g is. (g, as_before x.guard guard so.1 there.guards ∙ is, refl)) so.0)
          (left_apart (IsSheltered there w known) guard xs all),
    )

    -- a section of it has ended
    refreshes_stay : (guard : List ℕ) → Stay there (unsheltered guard xs)
    refreshes_stay guard = (
      inside,
      all_of (λ (x : Sheltered). IsSheltered there w known x × (is_same x.guard guard ≡ false)) (IsSheltered there w known) (unsheltered guard xs) (λ x so. so.0)
          (left_apart (IsSheltered there w known) guard xs all),
    )

    -- one more is there
    pub enters_stay : (guard : List ℕ) (slot : ℕ) → IsInside (w.uses slot) → Stay (enters_slot guard slot there) xs
    enters_stay guard slot in_it = (guards, all_of (IsSheltered there w known) (IsSheltered (enters_slot guard slot there) w known) xs still all)
      where
        new : NamedGuard
        new = record { name = guard; slot = slot; forgotten = false }

        found : (own : List ℕ) → guard_of own (there.guards ++ new ∷ []) ≡ option_or (guard_of own there.guards) (cond (is_same guard own) (Some new) None)
        found own = find-append (λ (g : NamedGuard). is_same g.name own) there.guards (new ∷ [])

        still : (x : Sheltered) → IsSheltered there w known x → IsSheltered (enters_slot guard slot there) w known x
        still x = elsewhere (enters_slot guard slot there) x
            (λ g is. (g, found x.guard ∙ ap (λ (o : Option NamedGuard). option_or o (cond (is_same guard x.guard) (Some new) None)) is, refl))

        guards : GuardsAreInside (enters_slot guard slot there) w
        guards own g is = by (guard_of own there.guards) refl (is_same guard own) (sym (found own) ∙ is)
          where
            by : (o : Option NamedGuard) → guard_of own there.guards ≡ o → (q : Bool) → option_or o (cond q (Some new) None) ≡ Some g → IsInside (w.uses g.slot)
            by (Some y) e q f = subst (λ (z : NamedGuard). IsInside (w.uses z.slot)) (one_of y g f) (inside own y e)
            by None e true f = subst (λ (z : NamedGuard). IsInside (w.uses z.slot)) (one_of new g f) in_it
            by None e false f = no_guard g f

    -- one was forgotten
    pub forgets_stay : (name : List ℕ) → Stay (forgets name there) xs
    forgets_stay name = (guards, all_of (IsSheltered there w known) (IsSheltered (forgets name there) w known) xs still all)
      where
        still : (x : Sheltered) → IsSheltered there w known x → IsSheltered (forgets name there) w known x
        still x = elsewhere (forgets name there) x
            (λ g is. (forgotten_as name g, forgotten_found x.guard name there.guards ∙ ap (option_map (forgotten_as name)) is, sym (forgotten_same name g).1))

        guards : GuardsAreInside (forgets name there) w
        guards own g is = by (guard_of own there.guards) refl (sym (forgotten_found own name there.guards) ∙ is)
          where
            by : (o : Option NamedGuard) → guard_of own there.guards ≡ o → option_map (forgotten_as name) o ≡ Some g → IsInside (w.uses g.slot)
            by (Some y) e f =
                subst (λ (z : NamedGuard). IsInside (w.uses z.slot)) (one_of (forgotten_as name y) g f)
                (subst (λ (t : ℕ). IsInside (w.uses t)) (sym (forgotten_same name y).1) (inside own y e))
            by None e f = no_guard g f

    come_and_go : (event : Event K V) (outcome : Outcome V) → EntersInside w event outcome there → Stay (there_on event outcome there) (sheltered_on event outcome xs)
    come_and_go (Register registration) (Slot s) in_it = (inside, all)
    come_and_go (Unregister registration) Done in_it = (inside, all)
    come_and_go (Enter guard registration) Done in_it = enters_stay guard (slot_of_registration registration there) in_it
    come_and_go (Own guard) (Slot s) in_it = enters_stay guard s in_it
    come_and_go (Refresh guard) Done in_it = refreshes_stay guard
    come_and_go (DropGuard guard) Done in_it = drops_stay guard
    come_and_go (Forget guard) Done in_it = forgets_stay guard
    come_and_go ReclaimAll Done in_it = (λ own g is. no_guard g is, tt)
    come_and_go Close Done in_it = (λ own g is. no_guard g is, tt)
    come_and_go _ _ in_it = (inside, all)

  -- a guard whose section is open again
  module _ (guard : List ℕ) (g : NamedGuard) (is_g : guard_of guard there.guards ≡ Some g) (in_it : IsInside (w.uses g.slot)) (inside : GuardsAreInside (drops guard there) w) where
    again_inside : GuardsAreInside there w
    again_inside own h is = by (is_same own guard) refl
      where
        by : (q : Bool) → is_same own guard ≡ q → IsInside (w.uses h.slot)
        by true e =
            subst (λ (z : NamedGuard). IsInside (w.uses z.slot)) (one_of g h (sym is_g ∙ sym (ap (λ (x : List ℕ). guard_of x there.guards) ((same_tells own guard).0 e)) ∙ is)) in_it
        by false e = inside own h (as_before own guard e there.guards ∙ is)

module _ {K V : Type 0} (w : World (Node K V)) (known : Known) (there : Present) (guard : List ℕ) where
  again_sheltered : (xs : List Sheltered) → AreSheltered (drops guard there) w known xs → AreSheltered there w known xs
  again_sheltered xs all =
      all_of (IsSheltered (drops guard there) w known) (IsSheltered there w known) xs
      (λ x. elsewhere w known (drops guard there) there x (λ h is. (h, (was_there x.guard guard there.guards h is).1, refl))) all

-- slots without guards

free_has_nobody : (slot : ℕ) (guards : List NamedGuard) → guards_on slot guards ≡ 0 → (own : List ℕ) (g : NamedGuard) → guard_of own guards ≡ Some g → g.slot ≡ slot → ⊥
free_has_nobody slot [] none own g is on = no_guard g is
free_has_nobody slot (x ∷ guards) none own g is on = by (is_same x.name own) is (free_has_nobody slot guards (omega (arith, none)) own g)
  where
    by : (q : Bool) → cond q (Some x) (guard_of own guards) ≡ Some g → (guard_of own guards ≡ Some g → g.slot ≡ slot → ⊥) → ⊥
    by true e later =
        let here : x.slot ≡ slot = ap (λ (y : NamedGuard). y.slot) (one_of x g e) ∙ on in
        let counted : ◌≡◌ {A = ℕ} (cond (x.slot == slot) 1 0) 1 = ap (λ (q : Bool). cond q 1 0) (eq-eqb x.slot slot here) in
        absurd (omega (arith, none, counted))
    by false e later = later e on

pub only_guards_leave_nobody : OnlyGuardsLeaveNobody
only_guards_leave_nobody there names guard g is one =
    let counts = (drops_counts guard there.guards).1 g is (names.guards guard) g.slot in
    let counted : ◌≡◌ {A = ℕ} (cond (g.slot == g.slot) 1 0) 1 = ap (λ (q : Bool). cond q 1 0) (eq-eqb g.slot g.slot refl) in
    free_has_nobody g.slot (drops guard there).guards (omega (arith, counts, counted, one))

module _ (K V : Type 0) where
  pub guards_come_and_go : GuardsComeAndGo K V
  guards_come_and_go w known there xs inside all event outcome in_it = come_and_go w known there xs inside all event outcome in_it

  pub one_is_inside_again : OneIsInsideAgain K V
  one_is_inside_again w known there xs guard g is in_it inside all = (again_inside w known there guard g is in_it inside, again_sheltered w known there guard xs all)
