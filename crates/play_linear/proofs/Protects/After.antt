-- What is sheltered after an entry of a history, by what its effects leave sheltered, and by who comes and goes; and what follows for what is reclaimed.
use Rattle.std.specs.Prelude.{◌≢◌, not, cond, filter, find, flat_map, Bool, true, false, Option, Some, None}
use Rattle.std.specs.List.{AllByRecursion}
use Rattle.std.specs.Option.{option_or}
use Rattle.std.proofs.Common.{◌≡◌, ℕ, List, [], ◌∷◌, refl, ap, sym, subst, ◌∙◌}
use Rattle.std.proofs.lemmas.List.Folds.{find-append}
use Rattle.seize_acts.specs.Given.SeizeWorld.{World}
use Rattle.play_lists.specs.Given.TablesDeclared.node.Node.{Node}
use Rattle.run_schedules.specs.Runs.Present.{Present, drops, enters_slot, guard_of}
use Rattle.run_schedules.specs.Runs.Same.{is_same}
use Rattle.run_schedules.specs.declared.holders.NamedGuard.{NamedGuard}
use Rattle.run_schedules.specs.Schedules.After.{unsheltered}
use Rattle.run_schedules.specs.Schedules.Lists.{is_in}
use Rattle.run_schedules.specs.Schedules.Model.{thing_back}
use Rattle.run_schedules.specs.Schedules.Moment.{Moment, Sheltered}
use Rattle.run_schedules.specs.Schedules.Things.{same_thing}
use Rattle.run_schedules.specs.declared.effect.Effect.{Effect}
use Rattle.run_schedules.specs.declared.effect.Thing.{Thing}
use Rattle.play_lists.specs.Given.EffectsKnown.{Known}
use Rattle.play_lists.proofs.Given.FollowsCalling.{is_same_is, is_same_refl}
use Rattle.play_lists.specs.Given.PromisesSheltered.{AreShelteredOn, GuardsAreOn, IsShelteredOn}
use Rattle.play_lists.specs.Given.PromisesShelters.{NoneIsBack}
use Rattle.play_lists.proofs.Given.PromisesLists.{IsFound, all_of}
use Rattle.play_lists.proofs.Given.PromisesShelters.Events.{events_are_protected}
use Rattle.run_schedules.specs.Deeds.Deeds.{Deed, Entry, after, moment, named, sheltered_on, there_on, worked}
use Rattle.run_schedules.specs.Deeds.History.{IsProtected, transition}
use Rattle.play_lists.specs.Agrees.Guards.{guard_on}
use Rattle.play_lists.proofs.Agrees.Leads.{LeavesThere, there_after}
use Rattle.play_lists.proofs.Agrees.Lists.{all_kept, found_kept, found_so}
use Rattle.play_linear.specs.Protects.Shelters.{IsOpen, SectionsShelter}
use Rattle.play_lists.proofs.Agrees.Opens.{one_number as one_slot}

-- where nothing is reclaimed, none of these is
pub none_back : (effects : List Effect) → flat_map thing_back effects ≡ [] → (xs : List Sheltered) → NoneIsBack effects xs
none_back effects none [] = tt
none_back effects none (x ∷ xs) = (ap (λ (things : List Thing). is_in same_thing x.thing things) none, none_back effects none xs)

module _ {K V : Type 0} where
  -- nobody comes or goes by it, and no section ends
  pub record IsCalm (d : Deed K V) : Type 0 where
    pub there : LeavesThere d
    pub sheltered : (xs : List Sheltered) → sheltered_on d xs ≡ xs

  -- An entry reclaims nothing of what is sheltered after it.
  pub protected_so : (e : Entry K V) (log : List (Entry K V)) → NoneIsBack e.effects (after e (moment log)).sheltered → IsProtected log e
  protected_so e log none = events_are_protected K V (transition log e) none

  module _ (e : Entry K V) (m : Moment K V) (known : Known) (w : World (Node K V)) where
    -- so it is after it by who is there then, and what is sheltered
    pub shelter_then : (there : Present) → there_on e.deed m.there ≡ there → (xs : List Sheltered) → (after e m).sheltered ≡ xs → GuardsAreOn (IsOpen w) there → AreShelteredOn (IsOpen w) there w known xs
        → SectionsShelter (after e m) known w
    shelter_then there there_is xs xs_are guards held =
        let is : (after e m).there ≡ there = there_after e m ∙ there_is in
        record {
          guards = subst (GuardsAreOn (IsOpen w)) (sym is) guards;
          held = subst (λ (t : Present). AreShelteredOn (IsOpen w) t w known (after e m).sheltered) (sym is) (subst (AreShelteredOn (IsOpen w) there w known) (sym xs_are) held);
        }

    pub calm_shelters : IsCalm e.deed → GuardsAreOn (IsOpen w) m.there → AreShelteredOn (IsOpen w) m.there w known (worked e m).sheltered → SectionsShelter (after e m) known w
    calm_shelters calm guards held = shelter_then m.there (calm.there m.there) (worked e m).sheltered (calm.sheltered (worked e m).sheltered) guards held

-- Who comes, and who goes
module _ {K V : Type 0} (On : ℕ → Type 0) (there : Present) (w : World (Node K V)) (known : Known) (t : ℕ) where
  abbrev test : List ℕ → NamedGuard → Bool
  test own g = is_same g.name own

  -- a section begins
  pub opened_guards : On t → GuardsAreOn On there → GuardsAreOn On (enters_slot (named t) t there)
  opened_guards in_it guards own g found = by (guard_of own there.guards) refl (sym (find-append (test own) there.guards (guard_on t ∷ [])) ∙ found)
    where
      by : (o : Option NamedGuard) → guard_of own there.guards ≡ o → option_or (guard_of own there.guards) (find (test own) (guard_on t ∷ [])) ≡ Some g → On g.slot
      by (Some h) e is =
          let same : Some h ≡ Some g = sym (ap (λ (o : Option NamedGuard). option_or o (find (test own) (guard_on t ∷ []))) e) ∙ is in
          let it : h ≡ g = (cc same) in subst (λ (k : NamedGuard). On k.slot) it (guards own h e)
      by None e is = one (is_same (named t) own) (sym (ap (λ (o : Option NamedGuard). option_or o (find (test own) (guard_on t ∷ []))) e) ∙ is)
        where
          one : (q : Bool) → cond q (Some (guard_on t)) None ≡ Some g → On g.slot
          one true k = subst (λ (h : NamedGuard). On h.slot) (let it : guard_on t ≡ g = (cc k) in it) in_it
          one false k = absurd (cc k)

  pub opened_held : (xs : List Sheltered) → AreShelteredOn On there w known xs → AreShelteredOn On (enters_slot (named t) t there) w known xs
  opened_held xs all = all_of (IsShelteredOn On there w known) (IsShelteredOn On (enters_slot (named t) t there) w known) xs still all
    where
      still : (x : Sheltered) → IsShelteredOn On there w known x → IsShelteredOn On (enters_slot (named t) t there) w known x
      still x (come, g, found, on, each) = (
        come,
        g,
        find-append (test x.guard) there.guards (guard_on t ∷ []) ∙ ap (λ (o : Option NamedGuard). option_or o (find (test x.guard) (guard_on t ∷ []))) found,
        on,
        each,
      )

  -- or ends: the guards of the others are there still
  abbrev keep : NamedGuard → Bool
  keep g = not (is_same g.name (named t))

  -- a guard by another name than the slot's has another slot
  other_slot : (own : List ℕ) (g : NamedGuard) → AllByRecursion (λ (h : NamedGuard). h ≡ guard_on h.slot) there.guards → guard_of own there.guards ≡ Some g → is_same own (named t) ≡ false → g.slot ≢ t
  other_slot own g each found other e =
      let its = found_so (λ (h : NamedGuard). h ≡ guard_on h.slot) (test own) there.guards g each found in
      let name : own ≡ named t = sym (is_same_is g.name own its.1) ∙ ap (λ (h : NamedGuard). h.name) its.0 ∙ ap named e in
      cc (other, ap (λ (l : List ℕ). is_same l (named t)) name, is_same_refl (named t))

  pub shut_held : AllByRecursion (λ (h : NamedGuard). h ≡ guard_on h.slot) there.guards → (xs : List Sheltered) → AreShelteredOn On there w known xs
      → AreShelteredOn (λ s. On s × (s ≢ t)) (drops (named t) there) w known (unsheltered (named t) xs)
  shut_held each xs all = all_kept (IsShelteredOn On there w known) (IsShelteredOn (λ s. On s × (s ≢ t)) (drops (named t) there) w known) (λ x. not (is_same x.guard (named t))) xs still all
    where
      not_it : (q : Bool) → not q ≡ true → q ≡ false
      not_it true e = absurd (cc e)
      not_it false e = refl

      still : (x : Sheltered) → not (is_same x.guard (named t)) ≡ true → IsShelteredOn On there w known x → IsShelteredOn (λ s. On s × (s ≢ t)) (drops (named t) there) w known x
      still x kept (come, g, found, on, holds_them) =
          let its = found_so (λ (h : NamedGuard). h ≡ guard_on h.slot) (test x.guard) there.guards g each found in
          let keeps : keep g ≡ true = ap (λ (l : List ℕ). not (is_same l (named t))) (is_same_is g.name x.guard its.1) ∙ kept in
          (come, g, found_kept (test x.guard) keep there.guards g found keeps, (on, other_slot x.guard g each found (not_it (is_same x.guard (named t)) kept)), holds_them)

  pub shut_guards : AllByRecursion (λ (h : NamedGuard). (h ≡ guard_on h.slot) × On h.slot) there.guards → GuardsAreOn (λ s. On s × (s ≢ t)) (drops (named t) there)
  shut_guards each own g found =
      (found_so (λ (h : NamedGuard). On h.slot × (h.slot ≢ t)) (test own) (filter keep there.guards) g
      (all_kept (λ (h : NamedGuard). (h ≡ guard_on h.slot) × On h.slot) (λ (h : NamedGuard). On h.slot × (h.slot ≢ t)) keep there.guards (λ h kept was. (was.1, λ e. not_kept h was.0 e kept)) each) found).0
    where
      not_kept : (h : NamedGuard) → h ≡ guard_on h.slot → h.slot ≡ t → keep h ≡ true → ⊥
      not_kept h is e kept =
          let its : is_same h.name (named t) ≡ true = ap (λ (k : NamedGuard). is_same k.name (named t)) is ∙ ap (λ (k : ℕ). is_same (named k) (named t)) e ∙ is_same_refl (named t) in
          cc (ap not its, kept)

-- Where each guard that is found is on a slot of such a kind, each guard of the list is, as it has the name of its slot.
module _ (On : ℕ → Type 0) (there : Present) (guards : GuardsAreOn On there) where
  pub all_on : (gs : List NamedGuard) → AllByRecursion (λ (g : NamedGuard). g ≡ guard_on g.slot) gs → AllByRecursion (IsFound there.guards) gs → AllByRecursion (λ (g : NamedGuard). g ≡ guard_on g.slot) there.guards
      → AllByRecursion (λ (g : NamedGuard). On g.slot) gs
  all_on [] each found all = tt
  all_on (g ∷ gs) each found all = (here, all_on gs each.1 found.1 all)
    where
      here : On g.slot
      here =
          let its = found_so (λ (h : NamedGuard). h ≡ guard_on h.slot) (λ h. is_same h.name g.name) there.guards found.0.0 all found.0.1 in
          let same : found.0.0.slot ≡ g.slot = one_slot found.0.0.slot g.slot
          (ap (λ (h : NamedGuard). h.name) (sym its.0) ∙ is_same_is found.0.0.name g.name its.1 ∙ ap (λ (h : NamedGuard). h.name) each.0) in
          subst On same (guards g.name found.0.0 found.0.1)
